-- The claim of specs/Example.antt.
-- Assumes nothing.
use Rattle.std.proofs.Common.{◌≡◌, ℕ, ◌*◌, ◌<◌, true, refl, ap, ◌∙◌}
use lib.Dec.{lit<}
use Rattle.command.specs.declared.Call.TheVariants.{Power}
use Rattle.command.specs.declared.Command.TheVariants.{OnPort}
use Rattle.port.specs.Valid.{registers_valid, valid as port_valid}
use Rattle.port.specs.Power.{fresh as fresh_port, reset_registers, reset, set_power}
use Rattle.port.specs.Clocked.{refresh_sync_clock}
use Rattle.port.specs.Receiver.{arm_receive}
use Rattle.port.specs.Calls.{called as port_called}
use Rattle.rates.specs.Rates.{period}
use Rattle.sci.specs.declared.Sci.{Sci}
use Rattle.sci.specs.Calls.{fresh, after, baud_valid, valid, called, direct}
use Rattle.rate_laws.specs.Writes.{Settable, AtRate, WritesSet}
use Rattle.rate_laws.specs.Cells.{Pass, SameCell, CellsPass}
use Rattle.rate_laws.specs.Example.{example, at_9600, Worked}
use Rattle.rate_laws.proofs.Writes.{writes_set}
use Rattle.rate_laws.proofs.Cells.{same_cell, cells_pass}

on : Sci
on = after (direct (OnPort (Power 3)) fresh)

on_valid : valid on ≡ true
unfolding on direct called port_called port_valid registers_valid baud_valid fresh fresh_port reset_registers reset set_power refresh_sync_clock arm_receive
on_valid = refl

on_ready : Settable on.port
unfolding on direct called port_called port_valid registers_valid baud_valid fresh fresh_port reset_registers reset set_power refresh_sync_clock arm_receive
on_ready = record { takes = refl; main = refl; own_clock = refl; off = refl }

on_byte : on.port.brr < 256
unfolding on direct called port_called port_valid registers_valid baud_valid fresh fresh_port reset_registers reset set_power refresh_sync_clock arm_receive
on_byte = lit< tt

at_set : AtRate example at_9600
unfolding WritesSet at_9600 on
at_set = writes_set example 0x20 on on_valid on_byte on_ready (lit< tt) refl (lit< tt)

one_cell : Pass example 1 at_9600
unfolding CellsPass
one_cell = cells_pass example 1 at_9600 at_set.registers at_set.runs at_set.full

pub worked : Worked
unfolding Worked SameCell period
worked = (at_set, one_cell.counted ∙ ap (λ (k : ℕ). 1 * k) (same_cell example at_9600.port at_set.registers))
