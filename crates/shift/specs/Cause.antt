-- Why a flag rose (document 02, "Five"; the manual's receive error table): which rule applied when a word was completed. Overrun is by RDRF before the word,
-- the rest by the word's own errors, whatever error flags SSR has.
-- Assumes nothing.
use Rattle.std.specs.Prelude.{ℕ, Bool, cond, ◌+◌}
use Rattle.frame.specs.Frame.{has}
use Rattle.shift.specs.declared.cause.Errors.{Errors}
use Rattle.shift.specs.declared.cause.Errors.TheVariants.{Clean, Parity, Framing, Both}
use Rattle.shift.specs.declared.cause.Cause.{Cause}
use Rattle.shift.specs.declared.cause.Cause.TheVariants.{NoWord, Taken, Overrun}

-- a word's own errors
abbrev pub errors_of : ℕ → Errors
errors_of error = cond (has error 8) (cond (has error 0x10) Both Parity) (cond (has error 0x10) Framing Clean)

-- a whole word with these errors: lost where RDRF was set before it, else taken to RDR
abbrev pub cause_of : Bool → ℕ → Cause
cause_of full error = cond full (Overrun (errors_of error)) (Taken (errors_of error))

-- "When several words complete in one command the last stands there"
abbrev pub followed_by : Cause → Cause → Cause
followed_by first NoWord = first
followed_by first (Taken e) = Taken e
followed_by first (Overrun e) = Overrun e

-- "0 no completion, 1 taken, 2 parity, 3 framing, 4 both, 5 to 8 overrun with none, parity, framing, both"
abbrev pub errors_number : Errors → ℕ
errors_number Clean = 0
errors_number Parity = 1
errors_number Framing = 2
errors_number Both = 3

abbrev pub cause_number : Cause → ℕ
cause_number NoWord = 0
cause_number (Taken e) = 1 + errors_number e
cause_number (Overrun e) = 5 + errors_number e
