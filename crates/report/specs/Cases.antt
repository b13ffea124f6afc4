-- The printed run of document 01, "A script comes in": the line of each of its records, its last line, and the whole of it from the input; its examples
-- of refused commands; with them the greatest length, and the lengths of scripts with resets. Each table has one theorem, by computation.
-- Assumes nothing.
use Rattle.std.specs.Prelude.{ℕ, ◌≡◌, refl, List, [], ◌∷◌, ◌++◌, map, replicate}
use Rattle.frame.specs.Frame.{bits, number, ones, format, parity_cell, frame, word, format_valid, word_valid}
use Rattle.shift.specs.Receiver.{sample_at}
use Rattle.shift.specs.Valid.{character_valid, word_in_place}
use Rattle.port.specs.Receiver.{arm_receive, complete_receive, advance_rx}
use Rattle.port.specs.Sender.{loaded, preloaded, begin, start_at, try_start, next_cell, advance_tx}
use Rattle.port.specs.Clocked.{refresh_sync_clock, take_bit, receive_bit, tail_ends, bit_out, shift_out, sync_edge}
use Rattle.port.specs.Half.{process_basic, sync, clocked_edge, advance, half_step, halves}
use Rattle.port.specs.Registers.{peek, read, write_scr, write_tdr, status_with, status_write, stored, connect, load_tail, after_store, write}
use Rattle.port.specs.Power.{fresh as fresh_port, reset_registers, reset, set_power}
use Rattle.port.specs.Input.{receive_input, external_edge, input_pins}
use Rattle.pins.specs.Pins.{transmit_level, interrupt}
use Rattle.port.specs.Valid.{registers_valid, valid}
use Rattle.port.specs.Calls.{called as port_called}
use Rattle.port.specs.Cause.{basic_cause, receive_cause, edge_cause, clocked_cause, advance_cause, sync_cause, half_cause, halves_cause, call_cause as port_call_cause}
use Rattle.sci.specs.Cycle.{cycles, halves_counted}
use Rattle.sci.specs.Calls.{fresh, baud_valid, called, direct}
use Rattle.sci.specs.Cause.{call_cause}
use Rattle.machine.specs.Machine.{Run, play_items}
use Rattle.player.specs.Play.{Progress, play}
use Rattle.report.specs.Printout.{printout}
use Rattle.report.specs.Lines.{record_line, end_line, refused_line}

-- a record and its line
pub record Case : Type 0 where
  pub kind : ℕ
  pub answer : ℕ
  pub ssr : ℕ
  pub driven : ℕ
  pub interrupt : ℕ
  pub cause : ℕ
  pub text : List ℕ

abbrev row : ℕ → ℕ → ℕ → ℕ → ℕ → ℕ → List ℕ → Case
row k a s d i c t = record { kind = k; answer = a; ssr = s; driven = d; interrupt = i; cause = c; text = t }

-- `6 00 84 - 0 0`, `2 00 84 1 0 0`, `2 00 84 1 0 0`, `2 00 00 1 0 0`, `3 00 80 0 0 0`, `1 80 80 0 0 0`: no word is received, so each cause is 0
abbrev pub cases : List Case
cases =
    row 6 0x00 0x84 2 0 0 (54 ∷ 32 ∷ 48 ∷ 48 ∷ 32 ∷ 56 ∷ 52 ∷ 32 ∷ 45 ∷ 32 ∷ 48 ∷ 32 ∷ 48 ∷ 10 ∷ [])
    ∷ row 2 0x00 0x84 1 0 0 (50 ∷ 32 ∷ 48 ∷ 48 ∷ 32 ∷ 56 ∷ 52 ∷ 32 ∷ 49 ∷ 32 ∷ 48 ∷ 32 ∷ 48 ∷ 10 ∷ [])
    ∷ row 2 0x00 0x84 1 0 0 (50 ∷ 32 ∷ 48 ∷ 48 ∷ 32 ∷ 56 ∷ 52 ∷ 32 ∷ 49 ∷ 32 ∷ 48 ∷ 32 ∷ 48 ∷ 10 ∷ [])
    ∷ row 2 0x00 0x00 1 0 0 (50 ∷ 32 ∷ 48 ∷ 48 ∷ 32 ∷ 48 ∷ 48 ∷ 32 ∷ 49 ∷ 32 ∷ 48 ∷ 32 ∷ 48 ∷ 10 ∷ [])
    ∷ row 3 0x00 0x80 0 0 0 (51 ∷ 32 ∷ 48 ∷ 48 ∷ 32 ∷ 56 ∷ 48 ∷ 32 ∷ 48 ∷ 32 ∷ 48 ∷ 32 ∷ 48 ∷ 10 ∷ [])
    ∷ row 1 0x80 0x80 0 0 0 (49 ∷ 32 ∷ 56 ∷ 48 ∷ 32 ∷ 56 ∷ 48 ∷ 32 ∷ 48 ∷ 32 ∷ 48 ∷ 32 ∷ 48 ∷ 10 ∷ [])
    ∷ []

-- every row holds
pub each_case : map (λ k. record_line k.kind k.answer k.ssr k.driven k.interrupt k.cause) cases ≡ map (λ k. k.text) cases
each_case = refl

-- `end 352`
pub run_ends : end_line 352 ≡ 101 ∷ 110 ∷ 100 ∷ 32 ∷ 51 ∷ 53 ∷ 50 ∷ 10 ∷ []
run_ends = refl

-- `end 18446744073709551615`
pub longest_run : end_line 18446744073709551615 ≡
    101 ∷ 110 ∷ 100 ∷ 32
    ∷ 49 ∷ 56 ∷ 52 ∷ 52 ∷ 54 ∷ 55 ∷ 52 ∷ 52 ∷ 48 ∷ 55 ∷ 51 ∷ 55 ∷ 48 ∷ 57 ∷ 53 ∷ 53 ∷ 49 ∷ 54 ∷ 49 ∷ 53 ∷ 10 ∷ []
longest_run = refl

-- `refused 6 at 17`
pub refusal : refused_line 6 17 ≡ 114 ∷ 101 ∷ 102 ∷ 117 ∷ 115 ∷ 101 ∷ 100 ∷ 32 ∷ 54 ∷ 32 ∷ 97 ∷ 116 ∷ 32 ∷ 49 ∷ 55 ∷ 10 ∷ []
refusal = refl

-- ---- the whole of it
-- document 01's input
abbrev pub input : List ℕ
input =
    0x06 ∷ 0x03 ∷ 0x02 ∷ 0x91 ∷ 0xFF ∷ 0x03 ∷ 0x10 ∷ 0x02 ∷ 0x9A ∷ 0xFF ∷ 0x03 ∷ 0x20 ∷ 0x02 ∷ 0x9B ∷ 0xFF ∷ 0x03 ∷ 0x55 ∷ 0x03 ∷ 0xE0 ∷ 0x02
    ∷ 0x01 ∷ 0x9C ∷ 0xFF ∷ 0x03 ∷ []

-- the lines above one after the other, and `end 352`
abbrev pub joined : List (List ℕ) → List ℕ
joined [] = 101 ∷ 110 ∷ 100 ∷ 32 ∷ 51 ∷ 53 ∷ 50 ∷ 10 ∷ []
joined (l ∷ ls) = l ++ joined ls

pub whole_run : printout input ≡ joined (map (λ k. k.text) cases)
unfolding printout play play_items transmit_level interrupt direct called port_called baud_valid cycles halves_counted valid registers_valid character_valid word_in_place format_valid word_valid fresh fresh_port reset_registers reset set_power receive_input external_edge input_pins peek read write_scr write_tdr status_with status_write stored connect load_tail after_store write process_basic sync clocked_edge advance half_step halves refresh_sync_clock take_bit receive_bit tail_ends bit_out shift_out sync_edge loaded preloaded begin start_at try_start next_cell advance_tx sample_at arm_receive complete_receive advance_rx bits number ones format parity_cell frame word call_cause port_call_cause halves_cause half_cause sync_cause advance_cause basic_cause clocked_cause edge_cause receive_cause
whole_run = refl

-- ---- refused commands
-- a script, the length of the log, and number, offset and bytes written
pub record Refused : Type 0 where
  pub script : List ℕ
  pub room : ℕ
  pub told : List ℕ

abbrev refused_row : List ℕ → ℕ → List ℕ → Refused
refused_row s n t = record { script = s; room = n; told = t }

-- the examples of document 01's table, 1 to 9 without 4 and 8, which no script from a fresh port meets; and beside 9 what a log just holds, an empty script, a
-- refusal after other commands, and 9 before the command is read
abbrev pub refused_cases : List Refused
refused_cases =
    refused_row (0x01 ∷ 0xA5 ∷ 0xFF ∷ 0x03 ∷ []) 20 (1 ∷ 0 ∷ 0 ∷ [])
    ∷ refused_row (0x03 ∷ 0x80 ∷ 0x80 ∷ 0x04 ∷ []) 20 (2 ∷ 0 ∷ 0 ∷ [])
    ∷ refused_row (0x02 ∷ 0xA7 ∷ 0xFF ∷ 0x03 ∷ 0x80 ∷ 0x01 ∷ []) 20 (3 ∷ 0 ∷ 0 ∷ [])
    ∷ refused_row (0x03 ∷ []) 20 (5 ∷ 0 ∷ 0 ∷ [])
    ∷ refused_row (0x80 ∷ 0x00 ∷ []) 20 (6 ∷ 0 ∷ 0 ∷ [])
    ∷ refused_row (0x0A ∷ []) 20 (7 ∷ 0 ∷ 0 ∷ [])
    ∷ refused_row (0x08 ∷ []) 20 (5 ∷ 0 ∷ 0 ∷ [])
    ∷ refused_row (0x07 ∷ []) 5 (9 ∷ 0 ∷ 0 ∷ [])
    ∷ refused_row (0x07 ∷ []) 6 (0 ∷ 0 ∷ 6 ∷ [])
    ∷ refused_row (0x07 ∷ 0x07 ∷ []) 11 (9 ∷ 1 ∷ 6 ∷ [])
    ∷ refused_row [] 0 (0 ∷ 0 ∷ 0 ∷ [])
    ∷ refused_row (0x06 ∷ 0x03 ∷ 0x04 ∷ 0x00 ∷ 0x0A ∷ []) 20 (7 ∷ 4 ∷ 12 ∷ [])
    ∷ refused_row (0x08 ∷ []) 5 (9 ∷ 0 ∷ 0 ∷ [])
    ∷ []

abbrev pub told_by : Run Progress → List ℕ
told_by r = r.number ∷ r.offset ∷ r.used ∷ []

pub each_refusal : map (λ k. told_by (play fresh k.script (replicate k.room 0))) refused_cases ≡ map (λ k. k.told) refused_cases
unfolding play play_items transmit_level interrupt direct called port_called baud_valid cycles halves_counted valid registers_valid character_valid word_in_place format_valid word_valid fresh fresh_port reset_registers reset set_power receive_input external_edge input_pins peek read write_scr write_tdr status_with status_write stored connect load_tail after_store write process_basic sync clocked_edge advance half_step halves refresh_sync_clock take_bit receive_bit tail_ends bit_out shift_out sync_edge loaded preloaded begin start_at try_start next_cell advance_tx sample_at arm_receive complete_receive advance_rx bits number ones format parity_cell frame word
each_refusal = refl

-- ---- the length
-- a script on a fresh port, and the edges that it counts across its resets: the module off and on again in mid script; reset mode; edges of the clock pin
-- before the module goes off; a wait while the clock stands; a refused command after others; cycles of either clock
pub record Counted : Type 0 where
  pub script : List ℕ
  pub length : ℕ

abbrev counted_row : List ℕ → ℕ → Counted
counted_row s n = record { script = s; length = n }

abbrev pub counted_cases : List Counted
counted_cases =
    counted_row (0x06 ∷ 0x03 ∷ 0x03 ∷ 0x05 ∷ 0x06 ∷ 0x00 ∷ 0x06 ∷ 0x03 ∷ 0x03 ∷ 0x07 ∷ []) 12
    ∷ counted_row (0x06 ∷ 0x03 ∷ 0x03 ∷ 0x05 ∷ 0x06 ∷ 0x0B ∷ []) 5
    ∷ counted_row
    (0x06 ∷ 0x03 ∷ 0x02 ∷ 0x9A ∷ 0xFF ∷ 0x03 ∷ 0x02 ∷ 0x05 ∷ 0x00 ∷ 0x01 ∷ 0x05 ∷ 0x01 ∷ 0x01 ∷ 0x06 ∷ 0x00 ∷ [])
    2
    ∷ counted_row (0x03 ∷ 0x05 ∷ []) 0
    ∷ counted_row (0x06 ∷ 0x03 ∷ 0x03 ∷ 0x05 ∷ 0x06 ∷ 0x00 ∷ 0x0A ∷ []) 5
    -- 100 system cycles from 256 ticks left on; TE off, RE on: BRR 0 counts from the next half on; and the 157th cycle more is that half, the 158th the next
    ∷ counted_row
    (0x06 ∷ 0x03 ∷ 0x08 ∷ 0x64 ∷ 0x02 ∷ 0x9A ∷ 0xFF ∷ 0x03 ∷ 0x10 ∷ 0x02 ∷ 0x99 ∷ 0xFF ∷ 0x03 ∷ 0x00 ∷ 0x08 ∷ 0x9D ∷ 0x01 ∷ [])
    2
    -- 15 cycles with all off, then system/16, BRR 0: the next cycle is the 16th
    ∷ counted_row
    (0x08 ∷ 0x0F ∷ 0x06 ∷ 0x03 ∷ 0x02 ∷ 0x98 ∷ 0xFF ∷ 0x03 ∷ 0x02 ∷ 0x02 ∷ 0x99 ∷ 0xFF ∷ 0x03 ∷ 0x00 ∷ 0x08 ∷ 0x01 ∷ [])
    1
    ∷ []

pub each_length : map (λ k. (play fresh k.script (replicate 50 0)).state.length) counted_cases ≡ map (λ k. k.length) counted_cases
unfolding play play_items transmit_level interrupt direct called port_called baud_valid cycles halves_counted valid registers_valid character_valid word_in_place format_valid word_valid fresh fresh_port reset_registers reset set_power receive_input external_edge input_pins peek read write_scr write_tdr status_with status_write stored connect load_tail after_store write process_basic sync clocked_edge advance half_step halves refresh_sync_clock take_bit receive_bit tail_ends bit_out shift_out sync_edge loaded preloaded begin start_at try_start next_cell advance_tx sample_at arm_receive complete_receive advance_rx bits number ones format parity_cell frame word
each_length = refl

-- a run on the port that another left begins with 0: so each of two runs of the same script has its own edges only
pub each_its_own :
    (play (play fresh (0x06 ∷ 0x03 ∷ 0x03 ∷ 0x05 ∷ []) (replicate 50 0)).state.sci (0x06 ∷ 0x03 ∷ 0x03 ∷ 0x05 ∷ []) (replicate 50 0)).state.length ≡ 5
unfolding play play_items transmit_level interrupt direct called port_called baud_valid cycles halves_counted valid registers_valid character_valid word_in_place format_valid word_valid fresh fresh_port reset_registers reset set_power receive_input external_edge input_pins peek read write_scr write_tdr status_with status_write stored connect load_tail after_store write process_basic sync clocked_edge advance half_step halves refresh_sync_clock take_bit receive_bit tail_ends bit_out shift_out sync_edge loaded preloaded begin start_at try_start next_cell advance_tx sample_at arm_receive complete_receive advance_rx bits number ones format parity_cell frame word
each_its_own = refl
