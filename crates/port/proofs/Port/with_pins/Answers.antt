use Rattle.std.proofs.Common.{rules, refl}
use Rattle.port.proofs.Keep.{ready_half, ready_tx, ready_rx, receive_input_ready}
use Rattle.port.proofs.Checked.{pins_room}
use Rattle.port.proofs.Port.with_pins.Goals as goal

pub edges-requires : goal.edges-requires
edges-requires c =
    (search (receive_input_ready, ready_half, ready_tx, ready_rx, rules) depth 10, search (pins_room, rules) depth 10, refl, refl)
