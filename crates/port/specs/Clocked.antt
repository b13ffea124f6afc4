-- Clocked form: when its clock runs, and what each of the clock's edges does (document 01, "One half", "Sender", "Receiver").
-- Assumes nothing.
use Rattle.std.specs.Option.{option_or}
use Rattle.std.specs.Prelude.{ℕ, suc, ◌+◌, Bool, true, cond, ◌&&◌, ◌||◌, ◌==◌, Option, None, Some}
use Rattle.frame.specs.Frame.{has}
use Rattle.shift.specs.Sender.{tx_clocked, level}
use Rattle.shift.specs.Receiver.{clocked_word, bit_taken, last_bit, rx_clocked}
use Rattle.port.specs.declared.Port.{Port}
use Rattle.shift.specs.declared.Character.{Character}
use Rattle.shift.specs.declared.Rx.{Rx}
use Rattle.shift.specs.declared.Tx.{Tx}
use Rattle.shift.specs.declared.Tx.TheVariants.{Off, Blocked, Mark, Start, Data, Tail}
use Rattle.port.specs.Fields.{with_rx, with_tx, with_sck, with_sync_next}
use Rattle.port.specs.Baud.{format_of, external}
use Rattle.port.specs.Receiver.{input_level, error_free, complete_receive}
use Rattle.port.specs.Sender.{drive, tailed, finish_tail}

-- the clock runs for a clocked word that is sent, and for reception in clocked form while no error flag stands
abbrev pub sync_needed : Port → Bool
sync_needed p =
    tx_clocked p.tx || (has p.scr 0x10 && (error_free p && ((format_of p).synchronous || rx_clocked p.rx)))

-- the clock's level, and the half of its next edge
abbrev pub with_clock : Port → Option ℕ → Bool → Port
with_clock p next high = with_sync_next (with_sck p high) next

-- on the external clock no edge is planned; on the internal one the next edge is two halves on, if none is planned; an idle clock is high
unfoldable pub refresh_sync_clock : Port → Port
refresh_sync_clock p =
    cond (external p) (with_sync_next p None)
    (cond (sync_needed p) (with_sync_next p (option_or p.sync_next (Some (p.half + 2))))
    (with_clock p None true))

-- ---- a rising edge: a bit is received, and a clocked tail ends
-- the eighth bit makes the word whole
unfoldable pub take_bit : Port → Rx → Port
take_bit p r =
    cond (last_bit r.position) (complete_receive (with_rx p None) (bit_taken (input_level p) r))
    (with_rx p (Some (bit_taken (input_level p) r)))

-- a clocked word goes on, or begins if the present format is clocked
abbrev pub receive_bit_on : Option Rx → Port → Port
receive_bit_on None p = cond (format_of p).synchronous (take_bit p (clocked_word (format_of p))) p
receive_bit_on (Some r) p = cond r.format.synchronous (take_bit p r) p

unfoldable pub receive_bit : Port → Port
receive_bit p = cond (has p.scr 0x10 && error_free p) (receive_bit_on p.rx p) p

abbrev pub finish_clocked : Option ℕ → Option Character → Port → Port
finish_clocked None l p = finish_tail l p
finish_clocked (Some n) l p = p

abbrev pub tail_ends_on : Tx → Port → Port
tail_ends_on Off p = p
tail_ends_on (Blocked ch) p = p
tail_ends_on (Mark next) p = p
tail_ends_on (Start ch next) p = p
tail_ends_on (Data ch cell next) p = p
tail_ends_on (Tail l next) p = finish_clocked next l p

unfoldable pub tail_ends : Port → Port
tail_ends p = tail_ends_on p.tx p

-- ---- a falling edge: a clocked word's next bit on the line; with the eighth its tail
unfoldable pub bit_out : Character → ℕ → Port → Port
bit_out ch cell p =
    cond (cell == 7) (tailed (drive p (level ch cell)) None) (with_tx (drive p (level ch cell)) (Data ch (suc cell) None))

abbrev pub shift_clocked : Option ℕ → Character → ℕ → Port → Port
shift_clocked None ch cell p = bit_out ch cell p
shift_clocked (Some n) ch cell p = p

abbrev pub shift_out_on : Tx → Port → Port
shift_out_on Off p = p
shift_out_on (Blocked ch) p = p
shift_out_on (Mark next) p = p
shift_out_on (Start ch next) p = p
shift_out_on (Data ch cell next) p = shift_clocked next ch cell p
shift_out_on (Tail l next) p = p

unfoldable pub shift_out : Port → Port
shift_out p = shift_out_on p.tx p

-- an edge of the clock to this level
unfoldable pub sync_edge : Bool → Port → Port
sync_edge high p = cond high (tail_ends (receive_bit p)) (shift_out p)
