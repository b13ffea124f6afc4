-- The sign and the digits are the text of the number.
use Rattle.std.proofs.Common.{to_z-of_z}
use Rattle.rate_report.proofs.Numbers.{negative, not_negative}
use Rattle.rate_report.proofs.push_signed.Goals as goal
use Rattle.rate_report.proofs.push_signed.Goals.{then-n-lt0, else-n-lt0}

pub returns-clause-text : goal.returns-clause-text
returns-clause-text c =
    let same = to_z-of_z c.ranges.n in
    let digits = c.unsigned_abs.ensures.value in
    elim c.if-n-lt0.branch [
      | then-n-lt0 w ↦ rw (c.push_number.ensures.number, w.line-is, w.push_str.ensures.bytes, digits, same) (negative c.args.n c.args.line.now.bytes (rw same at w.if-n-lt0.true))
      | else-n-lt0 w ↦ rw (c.push_number.ensures.number, w.line-is, digits, same) (not_negative c.args.n c.args.line.now.bytes (rw same at w.if-n-lt0.false))
    ]
