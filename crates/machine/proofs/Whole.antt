-- An accepted script was read whole; and a number that no command and no fault gives is not given by a run.
-- Assumes nothing.
use mathlib.Core.Path.{◌≡◌, refl}
use mathlib.Core.List.{List, [], ◌∷◌}
use Prim.Native.Nat.{ℕ}
use native.Mathlib.Omega.{arith}
use lib.ListN.{length, drop}
use lib.Dec.{ltb}
use Rattle.branches.proofs.Branches.{by_cond}
use Rattle.machine.specs.Machine.{Item, a_command, a_fault, Act, acts, refuses, Run, ended, answered, play_items, Sound}

abbrev pub ReadWhole : {C : Type 0} → List (Item C) → Type 0
ReadWhole [] = Unit {0}
ReadWhole (a_command at c ∷ is) = ReadWhole is
ReadWhole (a_fault at needs n ∷ is) = ⊥

-- no fault has this number
abbrev pub NoFault : {C : Type 0} → ℕ → List (Item C) → Type 0
NoFault m [] = Unit {0}
NoFault m (a_command at c ∷ is) = NoFault m is
NoFault m (a_fault at needs n ∷ is) = n ≡ m → ⊥

module _ {C S : Type 0} (room : C → ℕ) (act : C → S → Act S) (sound : Sound room act) where
  act_whole : (at : ℕ) (c : C) (p : S) (log : List ℕ) (go : S → List ℕ → Run S) (a : Act S) (R : Type 0) → act c p ≡ a →
      ((q : S) (l : List ℕ) → (go q l).number ≡ 0 → R) → (answered at p log go a).number ≡ 0 → R
  act_whole at c p log go (acts bs q) R e h z = h q (drop (length bs) log) z
  act_whole at c p log go (refuses n) R e h z = absurd (sound.refusals c p n e z)

  pub accepted_whole : (p : S) (is : List (Item C)) (log : List ℕ) → NoFault 0 is → (play_items room act p is log).number ≡ 0 → ReadWhole is
  unfolding play_items
  accepted_whole p [] log f z = tt
  accepted_whole p (a_fault at needs n ∷ is) log f z =
      by_cond (λ (r : Run S). r.number ≡ 0 → ⊥) (ltb (length log) needs) (ended 9 at p log) (ended n at p log) (λ t y. omega arith) (λ t y. f y) z
  accepted_whole p (a_command at c ∷ is) log f z =
      by_cond (λ (r : Run S). r.number ≡ 0 → ReadWhole is) (ltb (length log) (room c)) (ended 9 at p log) (answered at p log (λ q. play_items room act q is) (act c p))
      (λ t y. absurd (omega arith))
      (λ t y. act_whole at c p log (λ q. play_items room act q is) (act c p) (ReadWhole is) refl (λ q l w. accepted_whole q is l f w) y) z

-- a number that no command gives in a good state, where commands keep states good
module _ {C S : Type 0} (room : C → ℕ) (act : C → S → Act S) (m : ℕ) (not_0 : 0 ≡ m → ⊥) (not_9 : 9 ≡ m → ⊥) (Good : S → Type 0)
    (keeps : (c : C) (p q : S) (bs : List ℕ) → Good p → act c p ≡ acts bs q → Good q)
    (refuses_not : (c : C) (p : S) (n : ℕ) → Good p → act c p ≡ refuses n → n ≡ m → ⊥) where
  act_never : (at : ℕ) (c : C) (p : S) (log : List ℕ) (go : S → List ℕ → Run S) (a : Act S) → act c p ≡ a → Good p →
      ((q : S) (l : List ℕ) → Good q → (go q l).number ≡ m → ⊥) → (answered at p log go a).number ≡ m → ⊥
  act_never at c p log go (acts bs q) e g h z = h q (drop (length bs) log) (keeps c p q bs g e) z
  act_never at c p log go (refuses n) e g h z = refuses_not c p n g e z

  pub never : (p : S) (is : List (Item C)) (log : List ℕ) → Good p → NoFault m is → (play_items room act p is log).number ≡ m → ⊥
  unfolding play_items
  never p [] log g f z = not_0 z
  never p (a_fault at needs n ∷ is) log g f z =
      by_cond (λ (r : Run S). r.number ≡ m → ⊥) (ltb (length log) needs) (ended 9 at p log) (ended n at p log) (λ t y. not_9 y) (λ t y. f y) z
  never p (a_command at c ∷ is) log g f z =
      by_cond (λ (r : Run S). r.number ≡ m → ⊥) (ltb (length log) (room c)) (ended 9 at p log) (answered at p log (λ q. play_items room act q is) (act c p))
      (λ t y. not_9 y) (λ t y. act_never at c p log (λ q. play_items room act q is) (act c p) refl g (λ q l w. never q is l w f) y) z
