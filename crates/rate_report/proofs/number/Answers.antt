-- Digit by digit.
use Rattle.std.proofs.Common.{sym, ◌∙◌}
use Rattle.std.proofs.lemmas.List.{take_all}
use Rattle.rate_report.proofs.Numbers.{one_more, one_wrong, all_right}
use Rattle.rate_report.proofs.number.Goals as goal

pub returns-then-not-is_ascii_digit : goal.returns-then-not-is_ascii_digit
returns-then-not-is_ascii_digit c =
    sym (one_wrong c.args.text.now c.loop-byte.byte-index c.loop-byte-test.true (sym c.is_ascii_digit.ensures.value ∙ c.if-not-is_ascii_digit.true))

pub loop-byte-preserved : goal.loop-byte-preserved
loop-byte-preserved c =
    let more =
    one_more c.args.text.now c.loop-byte.byte-index c.loop-byte.value c.loop-byte-test.true c.loop-byte.invariant.0 c.loop-byte.invariant.1
    (sym c.is_ascii_digit.ensures.value ∙ c.if-not-is_ascii_digit.false) in
    (more.0, rw (c.saturating_add-value.ensures, c.saturating_mul.ensures, c.from.ensures) more.1)

pub returns : goal.returns
returns c =
    let all = take_all c.loop-byte.byte-index c.args.text.now c.loop-byte-test.false in
    rw (c.then_some.ensures, c.is_empty.ensures, c.loop-byte.invariant.1, all) (sym (all_right c.args.text.now (rw all at c.loop-byte.invariant.0)))
