-- The pins that others drive (document 01, "The nine registers": `input_pins`): the receive line and the clock pin.
-- Assumes nothing.
use Rattle.std.specs.Prelude.{Bool, cond, ◌||◌}
use Rattle.frame.specs.Frame.{differ}
use Rattle.port.specs.declared.Port.{Port}
use Rattle.port.specs.Fields.{with_input, with_input_clock}
use Rattle.port.specs.Baud.{edge_counted, edge_counts}
use Rattle.port.specs.Receiver.{arm_receive}
use Rattle.port.specs.Clocked.{refresh_sync_clock, sync_edge}
use Rattle.port.specs.Half.{process_basic}

-- the receive line; a change may begin a word
unfoldable pub receive_input : Bool → Port → Port
receive_input level p = cond (differ level p.input) (arm_receive (with_input p level)) p

-- a counted edge: basic work, then the clocked edge, then the clock
unfoldable pub external_edge : Bool → Port → Port
external_edge level p =
    cond (edge_counts level p) (refresh_sync_clock (sync_edge level (process_basic (edge_counted p level)))) p

-- both pins as they stand: nothing
abbrev pub pins_change : Bool → Bool → Port → Bool
pins_change clock line p = differ line p.input || differ clock p.input_clock

unfoldable pub input_pins : Bool → Bool → Port → Port
input_pins clock line p =
    cond (pins_change clock line p) (external_edge clock (with_input_clock (receive_input line p) clock)) p
