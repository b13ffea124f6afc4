-- The laws of the direct calls on the port with its clock that are laws of the port (port_laws' Laws.antt and Ranges.antt), carried over.
-- Proved in proofs/Laws.antt.
-- Assumes nothing.
use Rattle.std.specs.Prelude.{◌≡◌, ℕ, ◌<◌, true, List, [], ◌∷◌}
use Rattle.command.specs.declared.Command.{Command}
use Rattle.port_laws.specs.Laws.{OneOf}
use Rattle.port_laws.specs.Ranges.{InRange}
use Rattle.sci.specs.declared.Sci.{Sci}
use Rattle.sci.specs.Calls.{fresh, valid, done, refused, direct}
use Rattle.sci_laws.specs.Translate.{run}

-- the numbers of the port stay in the ranges of their types
unfoldable pub KeepsRanges : Type 0
KeepsRanges = (c : Command) (s t : Sci) (v : ℕ) → InRange s.port → direct c s ≡ done v t → InRange t.port

-- and an accepted call answers a byte
unfoldable pub AnswersAByte : Type 0
AnswersAByte = (c : Command) (s t : Sci) (v : ℕ) → InRange s.port → direct c s ≡ done v t → v < 256

-- a state grown from a fresh one by any direct calls is in range and passes the field test, so none of its calls is refused by 8
unfoldable pub GrownPasses : Type 0
GrownPasses = (cs : List Command) → valid (run fresh cs) ≡ true

unfoldable pub GrownInRange : Type 0
GrownInRange = (cs : List Command) → InRange (run fresh cs).port

unfoldable pub NeverRefusedBy8 : Type 0
NeverRefusedBy8 = (cs : List Command) (c : Command) (offset : ℕ) (t : Sci) → direct c (run fresh cs) ≡ refused 8 offset t → ⊥

-- a refused call leaves the state as it was, at offset 0, with one of the numbers of the direct calls' tests
unfoldable pub RefusedStands : Type 0
RefusedStands =
    (c : Command) (s t : Sci) (n offset : ℕ) → direct c s ≡ refused n offset t
    → (t ≡ s) × (offset ≡ 0) × OneOf (8 ∷ 2 ∷ 1 ∷ 3 ∷ 10 ∷ 4 ∷ []) n
