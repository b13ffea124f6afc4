-- One half (document 01, "One half"): count, and if a start-stop receiver is due now the basic work and a refresh; then basic work, clocked edge, refresh.
-- Assumes nothing.
use Rattle.std.specs.Prelude.{ℕ, zero, suc, false, cond, not, None}
use Rattle.shift.specs.Receiver.{rx_due_on}
use Rattle.port.specs.declared.Port.{Port}
use Rattle.port.specs.Fields.{with_edge}
use Rattle.port.specs.Baud.{counted}
use Rattle.shift.specs.Due.{due_now}
use Rattle.port.specs.Receiver.{arm_receive, advance_rx}
use Rattle.port.specs.Sender.{advance_tx}
use Rattle.port.specs.Clocked.{with_clock, refresh_sync_clock, sync_edge}

-- the basic work at a half: the sender's step, the receiver's, and a new word if the line asks for one
unfoldable pub process_basic : Port → Port
process_basic p = arm_receive (advance_rx (advance_tx p))

-- what `sync` does on the way to `advance`
unfoldable pub sync : Port → Port
sync p = cond (rx_due_on p.rx p.half) (refresh_sync_clock (process_basic p)) p

-- the clock of clocked form toggles at its due half
unfoldable pub clocked_edge : Port → Port
clocked_edge p =
    cond (due_now p.sync_next p.half) (sync_edge (not p.sck) (with_clock p None (not p.sck))) p

unfoldable pub advance : Port → Port
advance p = refresh_sync_clock (clocked_edge (process_basic p))

unfoldable pub half_step : Port → Port
half_step p = advance (sync (counted p))

unfoldable pub halves : ℕ → Port → Port
halves zero p = p
halves (suc n) p = halves n (half_step p)

-- time passes inside the half: the port is no longer at the edge
abbrev pub inside : Port → Port
inside p = with_edge p false

-- n halves' time on a port whose internal clock does not count
abbrev pub uncounted : ℕ → Port → Port
uncounted zero p = p
uncounted (suc n) p = inside p
