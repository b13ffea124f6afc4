use Rattle.std.proofs.Common.{arith, ap, ◌∙◌, ℕ, length, length-append}
use Rattle.report.proofs.Printouts.{first_lines_long, one_more}
use Rattle.report.proofs.push_records.Goals as goal

pub push_str-requires : goal.push_str-requires
push_str-requires c =
    let line = ap length (c.deref.ensures.0 ∙ c.record_line.ensures) in
    let out = ap length c.loop-bytes.invariant in
    let before = first_lines_long c.args.records.now c.loop-bytes.bytes-index (omega arith) in
    (omega arith, omega (arith, length-append {A = ℕ}))

pub loop-bytes-preserved : goal.loop-bytes-preserved
loop-bytes-preserved c =
    let lines = one_more c.args.out.now.bytes c.args.records.now c.loop-bytes.bytes-index c.loop-bytes-test.true in
    cc
