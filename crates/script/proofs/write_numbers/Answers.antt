use Rattle.std.proofs.Common.{◌∙◌, arith}
use Rattle.script.specs.Write.{encode_all}
use Rattle.script.proofs.Writes.{all_long, untouched, one_fits, one_written}
use Rattle.script.proofs.write_numbers.Goals as goal

pub put_number-end-requires : goal.put_number-end-requires
put_number-end-requires c =
    let l = c.loop-v in
    let long = c.size_of_all.ensures ∙ all_long c.args.numbers.now in
    one_fits c.args.numbers.now c.args.at c.args.buf.now (omega (arith, long, c.fits.ensures.room c.if-fits.true)) l.v-index l.end l.buf l.invariant c.loop-v-test.true

pub loop-v-preserved : goal.loop-v-preserved
loop-v-preserved c =
    let l = c.loop-v in
    let long = c.size_of_all.ensures ∙ all_long c.args.numbers.now in
    one_written c.args.numbers.now c.args.at c.args.buf.now (omega (arith, long, c.fits.ensures.room c.if-fits.true)) l.v-index l.end l.buf l.invariant c.loop-v-test.true
    c.put_number-end.ensures

pub returns : goal.returns
returns c =
    untouched c.args.at c.size_of_all.result (encode_all c.args.numbers.now) c.args.buf.now c.fits.result c.fits.ensures.value c.if-fits.false
    (c.size_of_all.ensures ∙ all_long c.args.numbers.now)
