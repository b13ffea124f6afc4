use Rattle.port.proofs.Keep.{ready_half, ready_tx, receive_bit_ready}
use Rattle.port.proofs.Port.sync_edge.Goals as goal

pub tail_ends-requires : goal.tail_ends-requires
tail_ends-requires c =
    let r = receive_bit_ready c.receive_bit-cause.new.self c.args.self.now c.receive_bit-cause.ensures.port c.requires in
    (ready_half c.receive_bit-cause.new.self r, ready_tx c.receive_bit-cause.new.self r)
