use Rattle.std.proofs.Common.{rules}
use Rattle.shift.specs.Private.Ready.{falling}
use Rattle.shift.proofs.SignedLaws.{bits_is}
use Rattle.shift.proofs.Rx.falling.Goals as goal

pub returns : goal.returns
unfolding falling
returns c = search (bits_is, rules)
