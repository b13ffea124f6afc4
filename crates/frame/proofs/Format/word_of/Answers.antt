use Rattle.std.proofs.Common.{◌∙◌}
use Rattle.frame.proofs.Laws.{from_bool_is}
use Rattle.frame.proofs.Shifts.{word_made, clocked_made}
use Rattle.frame.proofs.Format.word_of.Goals as goal

pub returns-then-self : goal.returns-then-self
returns-then-self c = clocked_made c.args.self c.args.value c.if-self.true

pub returns : goal.returns
returns c =
    word_made c.args.self c.args.value c.low_ones.result c.low_ones-2.result c.stop.result c.from-2.result c.from.result
    c.requires c.if-self.false c.low_ones.ensures c.low_ones-2.ensures c.stop.ensures.value
    (c.from-2.ensures ∙ from_bool_is c.args.self.parity) (c.from.ensures ∙ from_bool_is c.args.self.odd)
