use Rattle.std.proofs.Common.{arith}
use Rattle.port.specs.Private.Ready.{Ready}
use Rattle.port.proofs.Keep.{ready_half, ready_tx, load_tail_ready, try_start_ready}
use Rattle.port.proofs.Port.after_store.Goals as goal

-- the port stays ready
loaded : (c : goal.After-try_start-arg-1) → Ready c.load_tail.new.self.half c.load_tail.new.self
loaded c = load_tail_ready c.load_tail.new.self c.args.self.now c.load_tail.ensures c.requires

started : (c : goal.After-arm_receive-arg-1) → Ready c.try_start.new.self.half c.try_start.new.self
started c = try_start_ready c.try_start.new.self c.load_tail.new.self c.try_start.ensures (loaded c.before.before)

pub try_start-requires : goal.try_start-requires
try_start-requires c = (ready_half c.load_tail.new.self (loaded c), ready_tx c.load_tail.new.self (loaded c))

pub arm_receive-requires : goal.arm_receive-requires
arm_receive-requires c = ready_half c.try_start.new.self (started c)

pub refresh_sync_clock-requires : goal.refresh_sync_clock-requires
refresh_sync_clock-requires c = omega (arith, c.arm_receive.ensures.kept, ready_half c.try_start.new.self (started c.before.before))
