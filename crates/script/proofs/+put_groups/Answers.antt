use Rattle.std.proofs.Common.{◌-◌, ◌/◌, ◌∙◌, refl, arith}
use Rattle.script.specs.Encode.{encode_in}
use Rattle.script.proofs.Laws.{large, joined}
use Rattle.script.proofs.+put_groups.Goals as goal

pub returns : goal.returns
returns t c =
    let a = c.args in
    let g = large a.more a.v c.if-v-lt128.false c.requires.0 in (
      omega (arith, g.long, c.put_groups.ensures.0),
      joined a.buf.now _ (encode_in (a.more - 1) (a.v / 128)) _ (omega (arith, g.long, c.requires.1)) c.put_groups.ensures.1 ∙ rw g.bytes refl,
    )
