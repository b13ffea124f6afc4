-- Document 02's example on the port: its three writes, made on a fresh port that is switched on, and then the cycles of a cell. So what Writes.antt and
-- Cells.antt ask can be met.
-- Proved in proofs/Example.antt.
-- Assumes nothing.
use Rattle.std.specs.Prelude.{◌≡◌, false}
use Rattle.command.specs.declared.Call.TheVariants.{Power}
use Rattle.command.specs.declared.Command.TheVariants.{OnPort}
use Rattle.command.specs.declared.Source.TheVariants as clock
use Rattle.rates.specs.declared.Select.TheVariants.{System}
use Rattle.rates.specs.declared.Setting.{Setting}
use Rattle.rates.specs.Rates.{setting}
use Rattle.sci.specs.declared.Sci.{Sci}
use Rattle.sci.specs.Cycle.{halves_counted}
use Rattle.sci.specs.Calls.{fresh, after, direct}
use Rattle.rate_laws.specs.Writes.{set_rate, AtRate}

abbrev pub example : Setting
example = setting System false 11

-- even parity, by SMR 20
unfoldable pub at_9600 : Sci
at_9600 = set_rate example 0x20 (after (direct (OnPort (Power 3)) fresh))

unfoldable pub Worked : Type 0
Worked = AtRate example at_9600 × (halves_counted clock.System 384 at_9600 ≡ 32)
