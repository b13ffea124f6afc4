-- The half count after a call, by the facts that every call keeps (KeepValid.antt): the claims of specs/Edges.antt, and what a player counts by.
-- Assumes nothing.
use mathlib.Core.Path.{◌≡◌, refl, ap, subst, ◌∙◌}
use mathlib.Core.Logic.{⊎_elim}
use mathlib.Core.Bool.{Bool, false, cond, ◌&&◌, false≢true}
use mathlib.Core.List.{List, [], ◌∷◌, ◌++◌}
use Prim.Native.Nat.{ℕ, ◌+◌, ◌-◌}
use native.Mathlib.Omega.{arith}
use lib.Dec.{eqb, leb}
use Rattle.branches.proofs.Branches.{by_cond, both_arms, either_way}
use Rattle.frame.specs.Frame.{has}
use Rattle.command.specs.declared.Call.{Call}
use Rattle.command.specs.declared.Call.TheVariants.{Read, Write, Wait, Line, Pins, Power, Inside}
use Rattle.port.specs.declared.Port.{Port}
use Rattle.port.specs.Baud.{internal, edge_counts}
use Rattle.port.specs.Half.{uncounted, inside}
use Rattle.port.specs.Registers.{handles, read, write}
use Rattle.port.specs.Input.{receive_input, pins_change}
use Rattle.port.specs.Valid.{limit, valid}
use Rattle.port.proofs.CallLaws.{internal_external}
use Rattle.port.specs.Calls.{Answer, done, refused, after, bit, called, direct, run}
use Rattle.port_laws.specs.Laws.{RefusedStands}
use Rattle.port_laws.specs.Edges.{edges, resets, EdgesMoveHalfCount, ResetsCountNone, edges_by, edges_of, RunsMoveHalfCount}
use Rattle.port_laws.proofs.KeepHalf.{Kept, kept_halves}
use Rattle.port_laws.proofs.KeepCalls.{read_kept, write_kept, uncounted_kept, line_kept, inside_kept, pins_counted, power_reset}
use Rattle.port_laws.proofs.KeepValid.{valid_sound}
use Rattle.port_laws.proofs.Laws.{refused_stands}

-- the half count that an accepted call leaves
abbrev half_after : Call → Port → ℕ
half_after c p = cond (resets c p) 0 (p.half + edges c p)

abbrev Moves : Call → Port → Answer → Type 0
Moves c p (done v q) = q.half ≡ half_after c p
Moves c p (refused n offset q) = Unit {0}

-- a call that counts none and resets nothing
module _ (p : Port) (k : Kept p.half p) where
  stands : (q : Port) → Kept p.half q → q.half ≡ p.half + 0
  stands q m = omega (arith, m.ok.sends.at)

  called_moves : (c : Call) → Moves c p (called c p)
  unfolding called
  called_moves (Read a) = both_arms (Moves (Read a) p) (leb a 65535) _ _ (both_arms (Moves (Read a) p) (handles a) _ _ (stands (read a p) (read_kept p.half p k a)) tt) tt
  called_moves (Write a v) =
      both_arms (Moves (Write a v) p) (leb a 65535 && leb v 255) _ _
      (by_cond (Moves (Write a v) p) (handles a) _ _
      (λ ok. by_cond (Moves (Write a v) p) (eqb a 0xffa7 && leb 128 v) _ _ (λ b. tt) (λ b. stands (write a v p) (write_kept a v p.half p ok b k))) (λ ok. tt)) tt
  called_moves (Wait n) =
      both_arms (Moves (Wait n) p) (leb n 65535) _ _
      (by_cond (Moves (Wait n) p) (internal p) _ _
      (λ i. both_arms (Moves (Wait n) p) (leb (p.half + n) limit) _ _ (rw i (omega (arith, (kept_halves n p.half p k (internal_external p i)).ok.sends.at))) tt)
      (λ i. rw i (stands (uncounted n p) (uncounted_kept p.half p k n)))) tt
  called_moves (Line line) =
      both_arms (Moves (Line line) p) (leb line 1) _ _ (stands (receive_input (bit line) p) (line_kept p.half p k (bit line))) tt
  called_moves (Pins clock line) =
      both_arms (Moves (Pins clock line) p) (leb clock 1 && leb line 1) _ _
      (both_arms (Moves (Pins clock line) p) (pins_change (bit clock) (bit line) p && (edge_counts (bit clock) p && leb limit p.half)) _ _ tt
      (⊎_elim (λ m. rw m.1 (stands _ m.0)) (λ m. rw m.1 (omega (arith, m.0.ok.sends.at))) (pins_counted (bit clock) (bit line) p.half p k))) tt
  called_moves (Power b) =
      both_arms (Moves (Power b) p) (leb b 15) _ _
      (⊎_elim (λ m. rw m.1 (stands _ m.0)) (λ m. rw m.1 m.0.ok.sends.at) (power_reset (has b 1) (has b 2) (has b 4) (has b 8) p.half p k)) tt
  called_moves Inside = stands (inside p) (inside_kept p.half p k)

direct_moves : (c : Call) (p : Port) → Moves c p (direct c p)
unfolding direct
direct_moves c p = by_cond (Moves c p) (valid p) _ _ (λ e. called_moves p (valid_sound p e).kept c) (λ e. tt)

pub edges_move_half_count : EdgesMoveHalfCount
unfolding EdgesMoveHalfCount
edges_move_half_count c p q v e = subst (Moves c p) e (direct_moves c p)

pub resets_count_none : ResetsCountNone
unfolding ResetsCountNone
resets_count_none (Read a) p e = refl
resets_count_none (Write a v) p e = refl
resets_count_none (Wait n) p e = absurd (false≢true e)
resets_count_none (Line line) p e = refl
resets_count_none (Pins clock line) p e = absurd (false≢true e)
resets_count_none (Power b) p e = refl
resets_count_none Inside p e = refl

-- what a player counts by: only a reset lowers the half count, and it counts no edge
pub edges_by_half_count : (c : Call) (p q : Port) (v : ℕ) → direct c p ≡ done v q → edges c p ≡ q.half - p.half
unfolding EdgesMoveHalfCount ResetsCountNone
edges_by_half_count c p q v e =
    either_way (resets c p)
    (λ r. omega (arith, resets_count_none c p r, edges_move_half_count c p q v e ∙ ap (λ (t : Bool). cond t 0 (p.half + edges c p)) r))
    (λ r. omega (arith, edges_move_half_count c p q v e ∙ ap (λ (t : Bool). cond t 0 (p.half + edges c p)) r))

-- ---- lists of calls
one_moves : (c : Call) (p : Port) (a : Answer) → direct c p ≡ a → resets c p ≡ false → (after a).half ≡ p.half + edges_by c p a
unfolding EdgesMoveHalfCount RefusedStands
one_moves c p (done v q) e r = edges_move_half_count c p q v e ∙ ap (λ (t : Bool). cond t 0 (p.half + edges c p)) r
one_moves c p (refused n offset q) e r = omega (arith, ap (λ (x : Port). x.half) (refused_stands c p q n offset e).0)

pub runs_move_half_count : RunsMoveHalfCount
unfolding RunsMoveHalfCount run edges_of
runs_move_half_count [] p r = omega arith
runs_move_half_count (c ∷ cs) p r =
    omega (arith, one_moves c p (direct c p) refl r.0, runs_move_half_count cs (after (direct c p)) r.1)

pub edges_append : (xs ys : List Call) (p : Port) → edges_of p (xs ++ ys) ≡ edges_of p xs + edges_of (run p xs) ys
unfolding edges_of run
edges_append [] ys p = omega arith
edges_append (c ∷ xs) ys p = omega (arith, edges_append xs ys (after (direct c p)))
