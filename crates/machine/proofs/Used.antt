-- A run writes no more than the log holds, and the log keeps its length.
-- Assumes nothing.
use mathlib.Core.Path.{◌≡◌, refl, ◌∙◌}
use mathlib.Core.List.{List, [], ◌∷◌}
use Prim.Native.Nat.{ℕ, ◌≤◌}
use native.Mathlib.Omega.{arith}
use lib.ListN.{length, drop, length-drop, length-append}
use lib.Dec.{ltb}
use borrow.Author.Tests.{ltb-false}
use Rattle.branches.proofs.Branches.{by_cond}
use Rattle.machine.specs.Machine.{Item, a_command, a_fault, Act, acts, refuses, Run, ended, answered, play_items, Sound}

pub record Within {S : Type 0} (log : List ℕ) (r : Run S) : Type 0 where
  pub used : r.used ≤ length log
  pub long : length r.log ≡ length log

pub ended_within : {S : Type 0} (n at : ℕ) (p : S) (log : List ℕ) → Within log (ended n at p log)
ended_within n at p log = record { used = omega arith; long = refl }

module _ {C S : Type 0} (room : C → ℕ) (act : C → S → Act S) (sound : Sound room act) where
  act_within : (at : ℕ) (c : C) (p : S) (log : List ℕ) (go : S → List ℕ → Run S) (a : Act S) → act c p ≡ a → room c ≤ length log →
      ((q : S) (l : List ℕ) → Within l (go q l)) → Within log (answered at p log go a)
  act_within at c p log go (acts bs q) e h g =
      let w = g q (drop (length bs) log) in
      let n = sound.fills c p q bs e in
      record {
        used = omega (arith, w.used, length-drop (length bs) log, n, h);
        long = length-append bs (go q (drop (length bs) log)).log ∙ omega (arith, w.long, length-drop (length bs) log, n, h);
      }
  act_within at c p log go (refuses n) e h g = ended_within n at p log

  pub items_within : (p : S) (is : List (Item C)) (log : List ℕ) → Within log (play_items room act p is log)
  unfolding play_items
  items_within p [] log = ended_within 0 0 p log
  items_within p (a_fault at needs n ∷ is) log =
      by_cond (Within log) (ltb (length log) needs) _ _ (λ t. ended_within 9 at p log) (λ t. ended_within n at p log)
  items_within p (a_command at c ∷ is) log =
      by_cond (Within log) (ltb (length log) (room c)) _ _ (λ t. ended_within 9 at p log)
      (λ t. act_within at c p log (λ q. play_items room act q is) (act c p) refl (ltb-false (length log) (room c) t) (λ q l. items_within q is l))
