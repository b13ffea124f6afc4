-- Why a flag rose, on the port with its clock (document 02, "Five"): a cycle gives the cause of the half that it counts, a call the one of its last word.
-- Assumes nothing.
use Rattle.std.specs.Prelude.{ℕ, zero, suc, cond}
use Rattle.command.specs.declared.Command.{Command}
use Rattle.command.specs.declared.Command.TheVariants.{OnPort, Cycles}
use Rattle.command.specs.declared.Source.{Source}
use Rattle.shift.specs.declared.cause.Cause.{Cause}
use Rattle.shift.specs.declared.cause.Cause.TheVariants.{NoWord}
use Rattle.shift.specs.Cause.{followed_by}
use Rattle.port.specs.Cause.{half_cause, call_cause as port_call_cause}
use Rattle.sci.specs.declared.Sci.{Sci}
use Rattle.sci.specs.Cycle.{passed, cycle, counts_half}

abbrev pub cycle_cause : Source → Sci → Cause
cycle_cause source s = cond (counts_half source s) (half_cause (passed source s).port) NoWord

unfoldable pub cycles_cause : Source → ℕ → Sci → Cause
cycles_cause source zero s = NoWord
cycles_cause source (suc n) s = followed_by (cycle_cause source s) (cycles_cause source n (cycle source s))

-- an accepted call
unfoldable pub call_cause : Command → Sci → Cause
call_cause (OnPort c) s = port_call_cause c s.port
call_cause (Cycles source n) s = cycles_cause source n s
