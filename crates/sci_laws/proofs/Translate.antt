-- A direct call on the port with its clock comes to calls on the port: one lemma for every answer, and from it the claims of specs/Translate.antt.
-- Assumes nothing.
use mathlib.Core.Path.{◌≡◌, refl, sym, ap, subst, ◌∙◌}
use mathlib.Core.Logic.{inl, inr, ⊎_elim}
use mathlib.Core.Bool.{Bool, true, false, cond, ◌&&◌, true≢false}
use mathlib.Core.List.{List, [], ◌∷◌, ◌++◌}
use Prim.Native.Nat.{ℕ, zero, suc, ◌+◌, ◌≤◌}
use native.Mathlib.Omega.{arith}
use lib.Dec.{eqb, leb}
use borrow.Author.Tests.{eqb-true, leb-true, le-leb}
use Rattle.branches.proofs.Branches.{by_cond, cond_true, either_way}
use Rattle.frame.proofs.Truth.{and_left}
use Rattle.command.specs.declared.Call.{Call}
use Rattle.command.specs.declared.Call.TheVariants.{Wait, Inside}
use Rattle.command.specs.declared.Command.{Command}
use Rattle.command.specs.declared.Command.TheVariants.{OnPort, Cycles}
use Rattle.command.specs.declared.Source.{Source}
use Rattle.command.specs.declared.Source.TheVariants.{System, Watch}
use Rattle.command.specs.Command.{in_range}
use Rattle.port.specs.declared.Port.{Port}
use Rattle.port.specs.Baud.{internal}
use Rattle.port.specs.Half.{half_step, halves, inside}
use Rattle.port.specs.Valid.{limit, valid as port_valid}
use Rattle.port.specs.Calls.{Answer as PortAnswer, done as port_done, refused as port_refused, after as port_after, called as port_called, direct as port_direct, run as port_run}
use Rattle.port_laws.specs.Edges.{edges_of}
use Rattle.port_laws.specs.Laws.{AcceptedPasses, OneOf, RefusedStands}
use Rattle.port_laws.proofs.Edges.{edges_by_half_count}
use Rattle.port_laws.proofs.Laws.{accepted_passes, passing_not_8, refused_stands}
use Rattle.recovery.specs.Layers.{Layer}
use Rattle.recovery.proofs.Layers.{held_after}
use Rattle.sci.specs.declared.Baud.{Baud}
use Rattle.sci.specs.declared.Sci.{Sci}
use Rattle.sci.specs.Cycle.{total, passed, ticks, cycle, cycles, counts_half, halves_counted}
use Rattle.sci.specs.Calls.{Answer, done, refused, refuse, after, most, fresh, valid, called, direct, edges, lifted}
use Rattle.sci.specs.Laws.{CyclesMoveHalfCount}
use Rattle.sci.proofs.Cycle.{cycles_move_half_count}
use Rattle.sci.proofs.Steps.{port_passes}
use Rattle.sci_laws.specs.Translate.{cycle_call, cycle_calls, calls_by, calls, leaves, SamePort, SameAnswers, SameEdges}

-- ---- a half, and time inside one, as calls
module _ (p : Port) (v : port_valid p ≡ true) where
  half_is : internal p ≡ true → p.half + 1 ≤ limit → port_direct (Wait 1) p ≡ port_done 0 (half_step p)
  unfolding port_direct port_called halves
  half_is i l = rw (v, i, le-leb (p.half + 1) limit l)

  inside_is : port_direct Inside p ≡ port_done 0 (inside p)
  unfolding port_direct port_called
  inside_is = rw v

  -- a cycle, by whether it is a tick and the last one
  either : (t r : Bool) (a b c : Baud) → (t ≡ true → internal p ≡ true) → p.half + cond (t && r) 1 0 ≤ limit
      → let s : Sci = cond t (cond r (record { port = half_step p; baud = a }) (record { port = inside p; baud = b })) (record { port = inside p; baud = c }) in
      port_direct (cond (t && r) (Wait 1) Inside) p ≡ port_done 0 s.port
  either true true a b c i l = half_is (i refl) l
  either true false a b c i l = inside_is
  either false r a b c i l = inside_is

-- ---- cycles
cycle_is : (source : Source) (s : Sci) → port_valid s.port ≡ true → s.port.half + cond (counts_half source s) 1 0 ≤ limit
    → port_direct (cycle_call source s) s.port ≡ port_done 0 (cycle source s).port
unfolding half_step
cycle_is System s v l = either s.port v (ticks System (passed System s)) (eqb s.baud.remaining 1) _ _ _ (λ t. and_left _ _ (and_left _ _ t)) l
cycle_is Watch s v l = either s.port v (ticks Watch (passed Watch s)) (eqb s.baud.remaining 1) _ _ _ (λ t. and_left _ _ (and_left _ _ t)) l

-- the calls leave this port, and count so many edges
abbrev Comes : Port → List Call → Port → ℕ → Type 0
Comes p cs q n = (port_run p cs ≡ q) × (n ≡ edges_of p cs)

cycles_come : (source : Source) (n : ℕ) (s : Sci) → port_valid s.port ≡ true → (cycles source n s).port.half ≤ limit
    → Comes s.port (cycle_calls source n s) (cycles source n s).port (halves_counted source n s)
unfolding cycles cycle_calls halves_counted port_run edges_of CyclesMoveHalfCount AcceptedPasses
cycles_come source zero s v l = (refl, refl)
cycles_come source (suc n) s v l =
    let e = cycle_is source s v (omega (arith, cycles_move_half_count source (suc n) s)) in
    let rest = cycles_come source n (cycle source s) (accepted_passes (cycle_call source s) s.port (cycle source s).port 0 e) l in
    (rw (e, port_run) rest.0, rw (e, edges_of) (omega (arith, rest.1, edges_by_half_count (cycle_call source s) s.port (cycle source s).port 0 e, cycles_move_half_count source 1 s)))

-- ---- every direct call
-- kinds 1 to 7 answer what the port does, and cycles answer 0
abbrev pub ValueIs : Command → Sci → ℕ → Sci → Type 0
ValueIs (OnPort c) s v t = port_direct c s.port ≡ port_done v t.port
ValueIs (Cycles source n) s v t = v ≡ 0

-- what is told of an answer; by 8 only a state that fails the field test is refused
abbrev pub Answered : Command → Sci → Answer → Type 0
Answered c s (done v t) = Comes s.port (calls_by c s (done v t)) t.port (edges c s) × ValueIs c s v t
Answered c s (refused n offset t) = (t ≡ s) × (offset ≡ 0) × OneOf (8 ∷ 2 ∷ 1 ∷ 3 ∷ 10 ∷ 4 ∷ []) n × (valid s ≡ true → eqb n 8 ≡ false)

on_port_answered : (c : Call) (s : Sci) → valid s ≡ true → (a : PortAnswer) → port_direct c s.port ≡ a → Answered (OnPort c) s (lifted c s a)
unfolding port_run edges_of RefusedStands
on_port_answered c s v (port_done w q) e = ((ap port_after e, rw e (omega arith)), e)
on_port_answered c s v (port_refused n offset q) e =
    let r = refused_stands c s.port q n offset e in (
      refl,
      r.1,
      wider (8 ∷ 2 ∷ 1 ∷ 3 ∷ []) (4 ∷ []) r.2,
      λ v. either_way (eqb n 8) (λ g. absurd (passing_not_8 c s.port q offset (port_passes s v) (e ∙ ap (λ (n : ℕ). port_refused n offset q) (eqb-true n 8 g)))) (λ g. g),
    )
  where
    wider : (ms ns : List ℕ) → OneOf (ms ++ ns) n → OneOf (ms ++ (10 ∷ ns)) n
    wider [] ns o = inr o
    wider (m ∷ ms) ns o = ⊎_elim inl (λ o. inr (wider ms ns o)) o

called_answered : (c : Command) (s : Sci) → valid s ≡ true → Answered c s (called c s)
unfolding called port_direct
called_answered (OnPort c) s v = on_port_answered c s v (port_called c s.port) (cond_true (port_valid s.port) _ _ (port_passes s v))
called_answered (Cycles source n) s v =
    by_cond P (in_range (Cycles source n)) _ _
    (λ r. by_cond P (leb (total source s.baud + n) most) _ _
    (λ t. by_cond P (leb (cycles source n s).port.half limit) _ _
    (λ l. (cycles_come source n s (port_passes s v) (leb-true _ _ l), refl)) (λ l. (refl, refl, inr (inr (inr (inr (inr (inl refl))))), λ v. refl)))
    (λ t. (refl, refl, inr (inr (inr (inr (inl refl)))), λ v. refl)))
    (λ r. (refl, refl, inr (inl refl), λ v. refl))
  where
    P : Answer → Type 0
    P = Answered (Cycles source n) s

pub direct_answered : (c : Command) (s : Sci) → Answered c s (direct c s)
unfolding direct
direct_answered c s = by_cond (Answered c s) (valid s) (called c s) (refuse 8 s) (called_answered c s) (λ e. (refl, refl, inl refl, λ v. absurd (true≢false (sym v ∙ e))))

-- ---- the claims
pub leaves_port : (c : Command) (s : Sci) → (leaves c s).port ≡ port_run s.port (calls c s)
unfolding port_run
leaves_port c s = go (direct c s) (direct_answered c s)
  where
    go : (a : Answer) → Answered c s a → (after a).port ≡ port_run s.port (calls_by c s a)
    go (done v t) k = sym k.0.0
    go (refused n offset t) k = ap (λ (s : Sci). s.port) k.0

pub layer : Layer leaves calls fresh (λ s p. s.port ≡ p)
unfolding fresh
layer = record { first_held = refl; kept = λ c s p e. leaves_port c s ∙ ap (λ (p : Port). port_run p (calls c s)) e }

pub same_port : SamePort
unfolding SamePort
same_port cs s = held_after leaves calls fresh (λ s p. s.port ≡ p) layer cs s s.port refl

pub value_is : (c : Command) (s t : Sci) (v : ℕ) → direct c s ≡ done v t → ValueIs c s v t
value_is c s t v e = (subst (Answered c s) e (direct_answered c s)).1

pub same_answers : SameAnswers
unfolding SameAnswers
same_answers c s t v e = value_is (OnPort c) s t v e

pub same_edges : SameEdges
unfolding SameEdges
same_edges c s t v e = (subst (Answered c s) e (direct_answered c s)).0.1 ∙ ap (λ (a : Answer). edges_of s.port (calls_by c s a)) (sym e)
