use Rattle.std.proofs.Common.{rules}
use Rattle.port.proofs.Keep.{halved}
use Rattle.port.proofs.Port.powered.Goals as goal

pub refresh_sync_clock-requires : goal.refresh_sync_clock-requires
refresh_sync_clock-requires c = search (halved, rules) depth 10
