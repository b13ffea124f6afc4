use Rattle.std.proofs.Common.{rules}
use Rattle.capi.proofs.Copy.{stored}
use Rattle.capi.proofs.store_port.Goals as goal

pub returns : goal.returns
returns c = search (stored, rules)
