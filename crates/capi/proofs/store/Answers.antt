use Rattle.std.proofs.Common.{arith}
use Rattle.capi.proofs.Copy.{state_stored}
use Rattle.capi.proofs.store.Goals as goal

pub returns : goal.returns
returns c = state_stored c.args.sci _ _ _ c.baud_words.ensures c.store_port.ensures c.put.ensures (omega (arith, c.put.auto, c.store_port.auto, c.requires))
