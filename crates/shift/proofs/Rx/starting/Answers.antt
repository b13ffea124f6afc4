use Rattle.std.proofs.Common.{rules}
use Rattle.shift.specs.Private.Ready.{starting}
use Rattle.shift.proofs.SignedLaws.{bits_is}
use Rattle.shift.proofs.Rx.starting.Goals as goal

pub returns : goal.returns
unfolding starting
returns c = search (bits_is, rules)
