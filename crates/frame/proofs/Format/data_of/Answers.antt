use Rattle.frame.proofs.Shifts.{data_made}
use Rattle.frame.proofs.Format.data_of.Goals as goal

pub returns : goal.returns
returns c = data_made c.args.self c.args.word c.low_ones.result c.if-self.false c.low_ones.ensures
