-- The laws of the port, carried over by the calls that a command comes to (Translate.antt).
-- Assumes nothing.
use mathlib.Core.Path.{◌≡◌, refl, sym, subst}
use mathlib.Core.Bool.{true, true≢false}
use mathlib.Core.List.{List}
use Prim.Native.Nat.{ℕ, ◌<◌}
use native.Mathlib.Omega.{arith}
use Rattle.command.specs.declared.Command.{Command}
use Rattle.command.specs.declared.Command.TheVariants.{OnPort, Cycles}
use Rattle.port_laws.specs.Ranges.{InRange, FreshInRange, AnswersAByte as PortAnswersAByte}
use Rattle.port_laws.proofs.Ranges.{answers_a_byte as port_answers_a_byte, fresh_in_range, run_in_range}
use Rattle.recovery.proofs.Layers.{all_keep}
use Rattle.sci.specs.declared.Sci.{Sci}
use Rattle.sci.specs.Calls.{Answer, done, refused, after, fresh, valid, direct}
use Rattle.sci.specs.Laws.{AcceptedPasses, FreshPasses}
use Rattle.sci.proofs.Laws.{accepted_passes, fresh_passes}
use Rattle.sci_laws.specs.Translate.{calls, leaves, run}
use Rattle.sci_laws.specs.Laws.{AnswersAByte, KeepsRanges, GrownPasses, GrownInRange, NeverRefusedBy8, RefusedStands}
use Rattle.sci_laws.proofs.Translate.{Answered, ValueIs, direct_answered, leaves_port, value_is}

-- ---- refusals
refused_is : (c : Command) (s t : Sci) (n offset : ℕ) → direct c s ≡ refused n offset t → Answered c s (refused n offset t)
refused_is c s t n offset e = subst (Answered c s) e (direct_answered c s)

pub refused_stands : RefusedStands
unfolding RefusedStands
refused_stands c s t n offset e = let r = refused_is c s t n offset e in (r.0, r.1, r.2)

-- ---- ranges, and the field test
leaves_in_range : (c : Command) (s : Sci) → InRange s.port → InRange (leaves c s).port
leaves_in_range c s k = subst InRange (sym (leaves_port c s)) (run_in_range (calls c s) s.port k)

pub keeps_ranges : KeepsRanges
unfolding KeepsRanges
keeps_ranges c s t v k e = subst (λ (a : Answer). InRange (after a).port) e (leaves_in_range c s k)

pub answers_a_byte : AnswersAByte
unfolding AnswersAByte PortAnswersAByte
answers_a_byte c s t v k e = go c (value_is c s t v e)
  where
    go : (c : Command) → ValueIs c s v t → v < 256
    go (OnPort c) h = port_answers_a_byte c s.port t.port v k h
    go (Cycles source n) h = omega (arith, h)

-- what every command keeps, be it accepted or refused
pub record Passing (s : Sci) : Type 0 where
  pub in_range : InRange s.port
  pub passes : valid s ≡ true

pub passing_after : (c : Command) (s : Sci) → Passing s → Passing (leaves c s)
unfolding AcceptedPasses
passing_after c s g = record { in_range = leaves_in_range c s g.in_range; passes = go (direct c s) refl }
  where
    go : (a : Answer) → direct c s ≡ a → valid (after a) ≡ true
    go (done v t) e = accepted_passes c s t v g.in_range.brr< e
    go (refused n offset t) e = subst (λ (t : Sci). valid t ≡ true) (sym (refused_is c s t n offset e).0) g.passes

pub passing_run : (cs : List Command) (s : Sci) → Passing s → Passing (run s cs)
passing_run cs s g = all_keep leaves Passing passing_after cs s g

pub passing_fresh : Passing fresh
unfolding fresh FreshPasses FreshInRange
passing_fresh = record { in_range = fresh_in_range; passes = fresh_passes }

pub grown_passes : GrownPasses
unfolding GrownPasses
grown_passes cs = (passing_run cs fresh passing_fresh).passes

pub grown_in_range : GrownInRange
unfolding GrownInRange
grown_in_range cs = (passing_run cs fresh passing_fresh).in_range

pub passing_not_8 : (c : Command) (s t : Sci) (offset : ℕ) → valid s ≡ true → direct c s ≡ refused 8 offset t → ⊥
passing_not_8 c s t offset v e = true≢false ((refused_is c s t 8 offset e).3 v)

pub never_refused_by_8 : NeverRefusedBy8
unfolding NeverRefusedBy8 GrownPasses
never_refused_by_8 cs c offset t e = passing_not_8 c (run fresh cs) t offset (grown_passes cs) e
