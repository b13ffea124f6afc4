use Rattle.std.proofs.Common.{◌≡◌, true, min, take}
use Rattle.text.specs.Decimal.{value}
use Rattle.rate_report.specs.Printout.{digits_alone, greatest}
use Rattle.rate_report.proofs.number.Given as goal

-- the bytes so far are digits, and the number is theirs
abbrev pub invariant-loop-byte : goal.invariant-loop-byte
invariant-loop-byte l = (digits_alone (take l.byte-index l.text) ≡ true) × (l.value ≡ min (value 0 (take l.byte-index l.text)) greatest)
