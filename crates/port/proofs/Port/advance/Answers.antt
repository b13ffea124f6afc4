use Rattle.port.proofs.Keep.{ready_half, process_basic_ready}
use Rattle.port.proofs.Skip.{edge_ready}
use Rattle.port.proofs.Port.advance.Goals as goal

pub clocked_edge-clocked-requires : goal.clocked_edge-clocked-requires
clocked_edge-clocked-requires c = process_basic_ready c.process_basic-basic.new.self c.args.self.now c.process_basic-basic.ensures.port c.requires

pub refresh_sync_clock-requires : goal.refresh_sync_clock-requires
refresh_sync_clock-requires c =
    let r = process_basic_ready c.process_basic-basic.new.self c.args.self.now c.process_basic-basic.ensures.port c.requires in
    ready_half c.clocked_edge-clocked.new.self (edge_ready c.clocked_edge-clocked.new.self c.process_basic-basic.new.self c.args.pin c.clocked_edge-clocked.ensures.port r)
