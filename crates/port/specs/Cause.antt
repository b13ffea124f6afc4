-- Why a flag rose (document 02, "Five"): beside each step that can complete a word, the cause that it answers. The order of the steps is that of Half.antt,
-- Clocked.antt, Receiver.antt and Input.antt; the causes themselves are in the crate shift.
-- Assumes nothing.
use Rattle.std.specs.Prelude.{ℕ, zero, suc, Bool, cond, not, ◌&&◌, Option, None, Some}
use Rattle.command.specs.declared.Call.{Call}
use Rattle.command.specs.declared.Call.TheVariants.{Read, Write, Wait, Line, Pins, Power, Inside}
use Rattle.frame.specs.Frame.{has}
use Rattle.shift.specs.declared.Rx.{Rx}
use Rattle.shift.specs.declared.Sampled.{Sampled}
use Rattle.shift.specs.declared.Sampled.TheVariants.{Dropped, Onward, Whole}
use Rattle.shift.specs.declared.cause.Cause.{Cause}
use Rattle.shift.specs.declared.cause.Cause.TheVariants.{NoWord}
use Rattle.shift.specs.Cause.{cause_of, followed_by}
use Rattle.shift.specs.Due.{due_now}
use Rattle.shift.specs.Receiver.{sample, clocked_word, bit_taken, last_bit, rx_due_on}
use Rattle.port.specs.declared.Port.{Port}
use Rattle.port.specs.Fields.{with_rx, with_input_clock}
use Rattle.port.specs.Baud.{format_of, internal, counted, edge_counted, edge_counts}
use Rattle.port.specs.Receiver.{input_level, error_free}
use Rattle.port.specs.Sender.{advance_tx}
use Rattle.port.specs.Clocked.{with_clock}
use Rattle.port.specs.Half.{process_basic, sync, half_step}
use Rattle.port.specs.Input.{receive_input, pins_change}
use Rattle.port.specs.Calls.{bit}

-- a whole word
abbrev pub complete_cause : Port → Rx → Cause
complete_cause p r = cause_of (has p.ssr 0x40) r.error

-- ---- start-stop form
abbrev pub sample_cause : Sampled → Port → Cause
sample_cause Dropped p = NoWord
sample_cause (Onward r) p = NoWord
sample_cause (Whole r) p = complete_cause (with_rx p None) r

abbrev pub rx_cause_on : Option Rx → Port → Cause
rx_cause_on None p = NoWord
rx_cause_on (Some r) p = cond (due_now r.next p.half) (sample_cause (sample (format_of p) (input_level p) p.half r) p) NoWord

abbrev pub rx_cause : Port → Cause
rx_cause p = rx_cause_on p.rx p

unfoldable pub basic_cause : Port → Cause
basic_cause p = rx_cause (advance_tx p)

-- ---- clocked form
abbrev pub bit_cause : Port → Rx → Cause
bit_cause p r = cond (last_bit r.position) (complete_cause (with_rx p None) (bit_taken (input_level p) r)) NoWord

abbrev pub receive_cause_on : Option Rx → Port → Cause
receive_cause_on None p = cond (format_of p).synchronous (bit_cause p (clocked_word (format_of p))) NoWord
receive_cause_on (Some r) p = cond r.format.synchronous (bit_cause p r) NoWord

unfoldable pub receive_cause : Port → Cause
receive_cause p = cond (has p.scr 0x10 && error_free p) (receive_cause_on p.rx p) NoWord

unfoldable pub edge_cause : Bool → Port → Cause
edge_cause high p = cond high (receive_cause p) NoWord

unfoldable pub clocked_cause : Port → Cause
clocked_cause p = cond (due_now p.sync_next p.half) (edge_cause (not p.sck) (with_clock p None (not p.sck))) NoWord

-- ---- a half, and many
unfoldable pub advance_cause : Port → Cause
advance_cause p = followed_by (basic_cause p) (clocked_cause (process_basic p))

unfoldable pub sync_cause : Port → Cause
sync_cause p = cond (rx_due_on p.rx p.half) (basic_cause p) NoWord

unfoldable pub half_cause : Port → Cause
half_cause p = followed_by (sync_cause (counted p)) (advance_cause (sync (counted p)))

unfoldable pub halves_cause : ℕ → Port → Cause
halves_cause zero p = NoWord
halves_cause (suc n) p = followed_by (half_cause p) (halves_cause n (half_step p))

-- ---- an edge of the clock pin
unfoldable pub external_cause : Bool → Port → Cause
external_cause level p =
    cond (edge_counts level p) (followed_by (basic_cause (edge_counted p level)) (edge_cause level (process_basic (edge_counted p level)))) NoWord

unfoldable pub pins_cause : Bool → Bool → Port → Cause
pins_cause clock line p =
    cond (pins_change clock line p) (external_cause clock (with_input_clock (receive_input line p) clock)) NoWord

-- ---- an accepted call
unfoldable pub call_cause : Call → Port → Cause
call_cause (Read a) p = NoWord
call_cause (Write a v) p = NoWord
call_cause (Wait n) p = cond (internal p) (halves_cause n p) NoWord
call_cause (Line line) p = NoWord
call_cause (Pins clock line) p = pins_cause (bit clock) (bit line) p
call_cause (Power b) p = NoWord
call_cause Inside p = NoWord
