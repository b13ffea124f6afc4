-- What each exported function answers, and what it leaves in the lent array.
-- Of all but sci3_play and sci3_rate: an answer below 256 is that of an accepted call; 256 and document 01's number is a refusal, and the array is then as it was.
-- Assumes nothing.
use Rattle.std.specs.Prelude.{Result, Ok, Err, ℕ, ◌+◌, ◌*◌, cond, ◌&&◌, List, [], ◌∷◌, eqb, leb, length, Option, None, Some}
use Rattle.std.specs.Int.{w64, cast_unsigned}
use Rattle.frame.specs.Frame.{one_if}
use Rattle.pins.specs.declared.Drive.{Drive}
use Rattle.pins.specs.declared.Drive.TheVariants.{Floating, Low, High}
use Rattle.pins.specs.declared.Pins.{Pins}
use Rattle.command.specs.Command.{command_of}
use Rattle.shift.specs.declared.cause.Cause.{Cause}
use Rattle.shift.specs.declared.cause.Cause.TheVariants.{NoWord}
use Rattle.shift.specs.Cause.{cause_number}
use Rattle.port.specs.declared.Outcome.{Outcome}
use Rattle.pins.specs.Pins.{pins, interrupt, level_number}
use Rattle.sci.specs.declared.Sci.{Sci}
use Rattle.sci.specs.declared.Refusal.{Refusal}
use Rattle.sci.specs.Cause.{call_cause}
use Rattle.sci.specs.Calls.{Answer, done, refused, fresh, valid, direct}
use Rattle.machine.specs.Machine.{Run}
use Rattle.player.specs.Play.{Progress, play}
use Rattle.rates.specs.Rates.{code, semr, Answer as RateAnswer, found, refused as rate_refused, nearest_rate}
use Rattle.capi.specs.State.{decode, encode, state_max}

-- an answer, and the array after it
pub record Lent : Type 0 where
  pub answer : ℕ
  pub state : List ℕ

abbrev pub lent : ℕ → List ℕ → Lent
lent n s = record { answer = n; state = s }

abbrev pub refusal : ℕ → ℕ
refusal n = 256 + n

-- ---- sci3_call
-- an answer, the number of its cause, and the array after it
pub record Calling : Type 0 where
  pub answer : ℕ
  pub cause : ℕ
  pub state : List ℕ

abbrev pub calling : ℕ → ℕ → List ℕ → Calling
calling n cause s = record { answer = n; cause = cause; state = s }

-- the value read, or 0, the cause, and the state after the call; a refusal has cause 0
abbrev pub call_left : List ℕ → Cause → Answer → Calling
call_left s cause (done v q) = calling v (cause_number cause) (encode q)
call_left s cause (refused n offset q) = calling (refusal n) 0 s

-- of the code's answer
abbrev pub cause_of : Result Outcome Refusal → Cause
cause_of (Ok r) = r.cause
cause_of (Err refusal) = NoWord

-- "Direct calls test 8" first, so it comes before the test of the kind
abbrev pub call_on : ℕ → ℕ → ℕ → List ℕ → Option Sci → Calling
call_on kind a b s None = calling (refusal 8) 0 s
call_on kind a b s (Some p) =
    cond (valid p)
    (cond (leb 1 kind && leb kind 9) (call_left s (call_cause (command_of kind a b) p) (direct (command_of kind a b) p)) (calling (refusal 7) 0 s))
    (calling (refusal 8) 0 s)

unfoldable pub call : ℕ → ℕ → ℕ → List ℕ → Calling
call kind a b s = call_on kind a b s (decode s)

-- ---- sci3_pins
-- 0 where the clock pin is not the port's; else floating, low, high
abbrev pub drive_number : Drive → ℕ
drive_number Floating = 1
drive_number Low = 2
drive_number High = 3

abbrev pub clock_number : Option Drive → ℕ
clock_number None = 0
clock_number (Some d) = drive_number d

-- bits 0 and 1 the clock pin, 2 and 3 document 01's transmit level, 4 whether reception is enabled
unfoldable pub pins_number : Pins → ℕ
pins_number x = clock_number x.clock + (4 * level_number x.transmit + 16 * one_if x.receive)

abbrev pub pins_on : Option Sci → ℕ
pins_on None = refusal 8
pins_on (Some s) = pins_number (pins s.port)

unfoldable pub pins_answer : List ℕ → ℕ
pins_answer s = pins_on (decode s)

-- ---- sci3_interrupt
abbrev pub interrupt_on : Option Sci → ℕ
interrupt_on None = refusal 8
interrupt_on (Some s) = one_if (interrupt s.port)

unfoldable pub interrupt_answer : List ℕ → ℕ
interrupt_answer s = interrupt_on (decode s)

-- ---- sci3_fresh
-- whatever the array held, if it is as long as a state
unfoldable pub fresh_state : List ℕ → Lent
fresh_state s = cond (eqb (length s) (length state_max)) (lent 0 (encode fresh)) (lent (refusal 8) s)

-- ---- sci3_play
-- document 01's number (0: accepted); told: the offset of the refused command's first byte, how many bytes of the log are written, and the run's length;
-- the array and the log after the run
pub record Playing : Type 0 where
  pub number : ℕ
  pub told : List ℕ
  pub state : List ℕ
  pub log : List ℕ

abbrev pub playing : ℕ → List ℕ → List ℕ → List ℕ → Playing
playing n t s l = record { number = n; told = t; state = s; log = l }

-- by 8 the array stays as it was
abbrev pub run_left : List ℕ → Run Progress → Playing
run_left s r = playing r.number (r.offset ∷ r.used ∷ r.state.length ∷ []) (cond (eqb r.number 8) s (encode r.state.sci)) r.log

abbrev pub play_on : List ℕ → List ℕ → List ℕ → Option Sci → Playing
play_on s script log None = playing 8 (0 ∷ 0 ∷ 0 ∷ []) s log
play_on s script log (Some p) = run_left s (play p script log)

unfoldable pub played : List ℕ → List ℕ → List ℕ → Playing
played s script log = play_on s script log (decode s)

-- ---- sci3_rate
-- 0, and told are the bits of SMR, SEMR, BRR, and the error, numerator modulo 2 to the 64th and denominator; or document 02's number, and told are zeros
pub record Rating : Type 0 where
  pub number : ℕ
  pub told : List ℕ

abbrev pub rating : ℕ → List ℕ → Rating
rating n t = record { number = n; told = t }

abbrev pub rate_told : RateAnswer → Rating
rate_told (found s n d) = rating 0 (code s.select ∷ semr s.short_cell ∷ s.brr ∷ cast_unsigned w64 n ∷ d ∷ [])
rate_told (rate_refused n) = rating n (0 ∷ 0 ∷ 0 ∷ 0 ∷ 0 ∷ [])

unfoldable pub rated : ℕ → ℕ → ℕ → Rating
rated clock rate tolerance = rate_told (nearest_rate clock rate tolerance)
