-- The texts that are appended one after the other are the line.
use Rattle.std.proofs.Common.{rules, ◌≡◌, ℤ, to_z, of_z, w64}
use Rattle.text.specs.Decimal.{decimal}
use Rattle.rate_report.specs.Lines.{signed, setting_text}
use Rattle.rate_report.proofs.Numbers.{joined}
use Rattle.rate_report.proofs.found_line.Goals as goal

pub returns : goal.returns
returns c =
    let n : ℤ = c.args.found.error.numerator in
    let same : to_z w64 (of_z w64 n) ≡ n = search rules in
    rw (c.push_str-2.ensures.bytes, c.push_number.ensures.number, c.push_str.ensures.bytes, c.push_signed.ensures.text, c.setting_line-line.ensures.text, same)
    (joined (setting_text c.args.found.setting) (signed n) (decimal c.args.found.error.denominator))
