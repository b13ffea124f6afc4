-- A word received, computed: direct calls from a fresh port, and what follows. Document 01's figures are in crates/port_laws/specs/Facts.antt, its printed
-- run in crates/report/specs/Cases.antt; this one stands beside the definition, so that one in which nothing happens, or no word arrives, is refused here.
-- Assumes nothing.
use Rattle.std.specs.Prelude.{◌≡◌, ℕ, zero, suc, ◌/◌, ◌%◌, Bool, true, ◌&&◌, List, [], ◌∷◌, ◌++◌, ◌==◌, refl}
use Rattle.frame.specs.Frame.{bits, number, ones, format, parity_cell, frame, word, format_valid, word_valid, has, differ, one_if}
use Rattle.port.specs.declared.Port.{Port}
use Rattle.shift.specs.Receiver.{sample_at}
use Rattle.port.specs.Receiver.{arm_receive, complete_receive, advance_rx}
use Rattle.port.specs.Sender.{loaded, preloaded, begin, start_at, try_start, next_cell, advance_tx}
use Rattle.port.specs.Clocked.{refresh_sync_clock, take_bit, receive_bit, tail_ends, bit_out, shift_out, sync_edge}
use Rattle.port.specs.Half.{process_basic, sync, clocked_edge, advance, half_step, halves}
use Rattle.port.specs.Registers.{peek, read, write_scr, write_tdr, status_with, status_write, stored, connect, load_tail, after_store, write}
use Rattle.port.specs.Power.{fresh, reset_registers, reset, set_power}
use Rattle.port.specs.Input.{receive_input, external_edge, input_pins}
use Rattle.shift.specs.Valid.{character_valid, word_in_place}
use Rattle.port.specs.Valid.{registers_valid, valid}
use Rattle.command.specs.declared.Call.{Call}
use Rattle.command.specs.declared.Call.TheVariants.{Write, Wait, Line, Power}
use Rattle.port.specs.Calls.{Answer, called, direct, run}

-- ---- how they are computed
-- a direct call with every definition under it open
unfoldable pub computed : Call → Port → Answer
unfolding direct called valid registers_valid character_valid word_in_place format_valid word_valid fresh reset_registers reset set_power receive_input external_edge input_pins peek read write_scr write_tdr status_with status_write stored connect load_tail after_store write process_basic sync clocked_edge advance half_step halves refresh_sync_clock take_bit receive_bit tail_ends bit_out shift_out sync_edge loaded preloaded begin start_at try_start next_cell advance_tx sample_at arm_receive complete_receive advance_rx bits number ones format parity_cell frame word
computed c p = direct c p

unfoldable pub after_calls : List Call → Port
unfolding computed run fresh
after_calls cs = run fresh cs

-- ---- words received
-- the line at mark, or not, with SPCR bit 0 as given
abbrev pub line : ℕ → Bool → Call
line spcr high = Line (one_if (differ high (has spcr 1)))

-- a port that receives with these SMR, SEMR and SPCR, its line at mark
abbrev pub receiving : ℕ → ℕ → ℕ → List Call
receiving smr semr spcr =
    line spcr true ∷ Power 3 ∷ Write 0xff91 spcr ∷ Write 0xff98 smr ∷ Write 0xffa6 semr ∷ Write 0xff9a 0x10 ∷ []

-- a word's cells on the line, low bit first, each for one cell length
unfoldable pub cells_on_line : ℕ → ℕ → ℕ → ℕ → List Call
cells_on_line spcr cell zero w = []
cells_on_line spcr cell (suc n) w = line spcr (w % 2 == 1) ∷ Wait cell ∷ cells_on_line spcr cell n (w / 2)

unfoldable pub words_on_line : ℕ → ℕ → ℕ → List ℕ → List Call
unfolding cells_on_line
words_on_line spcr cell n [] = []
words_on_line spcr cell n (w ∷ ws) = cells_on_line spcr cell n w ++ words_on_line spcr cell n ws

-- SMR, SEMR and its cell length, SPCR, the number of cells, words of so many, none read; SSR, RDR and the tally of words received at the end
pub data Received : Type 0 where
  receives : ℕ → ℕ → ℕ → ℕ → ℕ → List ℕ → ℕ → ℕ → ℕ → Received

unfoldable pub as_received : Received → Bool
unfolding after_calls words_on_line
as_received (receives smr semr cell spcr n ws ssr rdr tally) =
    let p : Port = after_calls (receiving smr semr spcr ++ words_on_line spcr cell n ws) in
    (p.ssr == ssr) && (p.rdr == rdr && p.received == tally)

-- the first of document 01's words
pub word_received : as_received (receives 0x00 0 32 0 10 (0x2AA ∷ []) 0xc4 0x55 1) ≡ true
unfolding as_received
word_received = refl
