use Rattle.port.proofs.Keep.{ready_half, ready_rx, advance_tx_ready, advance_rx_ready}
use Rattle.port.proofs.Port.process_basic.Goals as goal

pub advance_rx-cause-requires : goal.advance_rx-cause-requires
advance_rx-cause-requires c =
    let r = advance_tx_ready c.advance_tx.new.self c.args.self.now c.advance_tx.ensures c.requires in
    (ready_half c.advance_tx.new.self r, ready_rx c.advance_tx.new.self r)

pub arm_receive-requires : goal.arm_receive-requires
arm_receive-requires c =
    let r = advance_tx_ready c.advance_tx.new.self c.args.self.now c.advance_tx.ensures c.requires in
    ready_half c.advance_rx-cause.new.self (advance_rx_ready c.advance_rx-cause.new.self c.advance_tx.new.self c.advance_rx-cause.ensures.port r)
