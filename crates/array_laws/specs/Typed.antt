-- Every state that an array holds, and every one grown from a fresh one, has its numbers in the ranges of their declared types (capi's Round.antt), so its
-- encoding decodes to it.
-- Proved in proofs/Typed.antt.
-- Assumes nothing.
use Rattle.std.specs.Prelude.{◌≡◌, ℕ, List, Some}
use Rattle.command.specs.declared.Command.{Command}
use Rattle.sci.specs.declared.Sci.{Sci}
use Rattle.sci.specs.Calls.{done, direct, fresh}
use Rattle.sci_laws.specs.Translate.{run}
use Rattle.capi.specs.State.{decode}
use Rattle.capi.specs.Round.{SciTyped}

unfoldable pub DecodedTyped : Type 0
DecodedTyped = (array : List ℕ) (s : Sci) → decode array ≡ Some s → SciTyped s

unfoldable pub FreshTyped : Type 0
FreshTyped = SciTyped fresh

unfoldable pub KeepsTyped : Type 0
KeepsTyped = (c : Command) (s t : Sci) (v : ℕ) → SciTyped s → direct c s ≡ done v t → SciTyped t

unfoldable pub GrownTyped : Type 0
GrownTyped = (cs : List Command) → SciTyped (run fresh cs)
