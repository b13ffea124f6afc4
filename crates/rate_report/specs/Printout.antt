-- What the program prints for its three arguments.
-- Assumes nothing.
use Rattle.std.specs.Prelude.{ℕ, min, Bool, true, cond, ◌&&◌, List, [], ◌∷◌, Option, None, Some}
use Rattle.std.specs.Char.{is_ascii_digit}
use Rattle.arrayvec.specs.ArrayString.{ArrayString}
use Rattle.text.specs.Decimal.{value}
use Rattle.rates.specs.Rates.{nearest_rate}
use Rattle.rate_report.specs.Lines.{rate_line}

abbrev pub digits_alone : List ℕ → Bool
digits_alone [] = true
digits_alone (d ∷ ds) = is_ascii_digit d && digits_alone ds

abbrev pub greatest : ℕ
greatest = 18446744073709551615

-- one or more decimal digits are a number. One that 64 bits do not hold is the greatest that they do: both are above every range
unfoldable pub number : List ℕ → Option ℕ
number [] = None
number (d ∷ ds) = cond (digits_alone (d ∷ ds)) (Some (min (value 0 (d ∷ ds)) greatest)) None

abbrev pub line_of : Option ℕ → Option ℕ → Option ℕ → Option (List ℕ)
line_of (Some clock) (Some rate) (Some tolerance) = Some (rate_line (nearest_rate clock rate tolerance))
line_of None rate tolerance = None
line_of (Some clock) None tolerance = None
line_of (Some clock) (Some rate) None = None

-- the line, where all three are numbers
unfoldable pub printout : List ℕ → List ℕ → List ℕ → Option (List ℕ)
printout clock rate tolerance = line_of (number clock) (number rate) (number tolerance)

abbrev pub text_of : Option ArrayString → Option (List ℕ)
text_of None = None
text_of (Some line) = Some line.bytes
