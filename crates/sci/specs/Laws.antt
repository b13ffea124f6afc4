-- Laws of the direct calls on the port with its clock. Proved in proofs/Laws.antt.
-- Assumes nothing.
use Rattle.std.specs.Prelude.{◌≡◌, ℕ, ◌+◌, ◌<◌, true}
use Rattle.command.specs.declared.Command.{Command}
use Rattle.command.specs.declared.Source.{Source}
use Rattle.sci.specs.declared.Sci.{Sci}
use Rattle.port.specs.Cause.{halves_cause}
use Rattle.sci.specs.Cycle.{cycles, halves_counted}
use Rattle.sci.specs.Cause.{cycles_cause}
use Rattle.sci.specs.Calls.{fresh, valid, done, direct}

-- ---- the field test
unfoldable pub FreshPasses : Type 0
FreshPasses = valid fresh ≡ true

-- what an accepted call leaves passes, whatever the state was; that BRR is a byte, the state's own type says
unfoldable pub AcceptedPasses : Type 0
AcceptedPasses = (c : Command) (s t : Sci) (v : ℕ) → s.port.brr < 256 → direct c s ≡ done v t → valid t ≡ true

-- ---- the half count
-- cycles move it by exactly the halves that they count
unfoldable pub CyclesMoveHalfCount : Type 0
CyclesMoveHalfCount = (source : Source) (n : ℕ) (s : Sci) → (cycles source n s).port.half ≡ s.port.half + halves_counted source n s

-- ---- the cause
-- cycles tell what the halves that they count tell one after the other
unfoldable pub CyclesTellHalves : Type 0
CyclesTellHalves = (source : Source) (n : ℕ) (s : Sci) → cycles_cause source n s ≡ halves_cause (halves_counted source n s) s.port
