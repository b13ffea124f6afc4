-- The sender (document 01, "Sender"): blocked, mark, start, data with a cell number, and tail.
-- Assumes nothing.
use Rattle.std.specs.Prelude.{ℕ, suc, ◌+◌, ◌*◌, ◌%◌, ◌^◌, Bool, cond, not, ◌&&◌, ◌||◌, ◌==◌, bit_and, bit_or, Option, None, Some, is_some}
use Rattle.frame.specs.Frame.{has, stop, word}
use Rattle.shift.specs.Sender.{level, tx_next}
use Rattle.port.specs.declared.Port.{Port}
use Rattle.shift.specs.declared.Character.{Character}
use Rattle.shift.specs.declared.Tx.{Tx}
use Rattle.shift.specs.declared.Tx.TheVariants.{Off, Blocked, Mark, Start, Data, Tail}
use Rattle.port.specs.Fields.{with_tx, with_ssr, with_holding, with_uart, with_bit_start, with_transmitted}
use Rattle.port.specs.Baud.{format_of, boundary}
use Rattle.shift.specs.Due.{due_now}
use Rattle.port.specs.Receiver.{error_free}

-- the word of a value, in the format that the registers ask for now
abbrev pub character : Port → ℕ → Character
character p v = record { format = format_of p; word = word (format_of p) v }

-- the holding place's byte becomes the next word and TDRE is set, TEND clear; with none TEND is set
abbrev pub loaded_on : Option ℕ → Port → Option Character
loaded_on None p = None
loaded_on (Some v) p = Some (character p v)

abbrev pub preloaded_on : Option ℕ → Port → Port
preloaded_on None p = with_ssr p (bit_or p.ssr 4)
preloaded_on (Some v) p = with_holding (with_ssr p (bit_and (bit_or p.ssr 0x80) 0xfb)) None

unfoldable pub loaded : Port → Option Character
loaded p = loaded_on p.holding p

unfoldable pub preloaded : Port → Port
preloaded p = preloaded_on p.holding p

-- a cell begins: its level on the line, the present half its start
abbrev pub drive : Port → Bool → Port
drive p high = with_bit_start (with_uart p high) p.half

-- a word's first cell. A clocked word has no due half: its cells follow the clock's edges
unfoldable pub begin : Port → Character → Port
begin p ch =
    cond ch.format.synchronous (with_tx p (Data ch 0 None))
    (with_tx (drive p (level ch 0)) (Data ch 0 (Some (p.half + ch.format.half_bit))))

-- a start-stop word begins now if a cell can, else it waits
unfoldable pub start_at : Port → Character → ℕ → Port
start_at p ch next = cond (next == p.half) (begin p ch) (with_tx p (Start ch next))

abbrev pub start_loaded : Option Character → Port → Port
start_loaded None p = p
start_loaded (Some ch) p =
    cond ch.format.synchronous (begin p ch) (start_at p ch (boundary p ch.format.half_bit))

-- with no sender a held byte is taken, TE set; in clocked form not while an error flag stands. A blocked word begins once none stands
abbrev pub try_start_on : Tx → Port → Port
try_start_on Off p =
    cond (has p.scr 0x20 && (is_some p.holding && (not (format_of p).synchronous || error_free p)))
    (start_loaded (loaded p) (preloaded p)) p
try_start_on (Blocked ch) p = cond (error_free p) (begin p ch) p
try_start_on (Mark next) p = p
try_start_on (Start ch next) p = p
try_start_on (Data ch cell next) p = p
try_start_on (Tail l next) p = p

unfoldable pub try_start : Port → Port
try_start p = try_start_on p.tx p

-- a word is finished: no sender, and the tally of words finished one higher, wrapping to zero
abbrev pub one_sent : Port → Port
one_sent p = with_tx (with_transmitted p (suc p.transmitted % 2 ^ 64)) Off

-- the tail ends: the next word begins, or is blocked if it is clocked and an error flag stands
abbrev pub finish_tail : Option Character → Port → Port
finish_tail None p = try_start (one_sent p)
finish_tail (Some ch) p =
    cond (ch.format.synchronous && not (error_free p)) (with_tx (one_sent p) (Blocked ch)) (begin (one_sent p) ch)

-- a word's last cells, with the next word taken from the holding place
abbrev pub tailed : Port → Option ℕ → Port
tailed p next = with_tx (preloaded p) (Tail (loaded p) next)

-- a cell of a start-stop word begins; with the first stop cell the tail
unfoldable pub next_cell : Character → ℕ → Port → Port
next_cell ch cell p =
    cond (cell == stop ch.format)
    (tailed (drive p (level ch cell)) (Some (p.half + ch.format.stops * ch.format.half_bit)))
    (with_tx (drive p (level ch cell)) (Data ch cell (Some (p.half + ch.format.half_bit))))

-- what it does then
abbrev pub send_step_on : Tx → Port → Port
send_step_on Off p = p
send_step_on (Blocked ch) p = p
send_step_on (Mark next) p = try_start (with_tx p Off)
send_step_on (Start ch next) p = begin p ch
send_step_on (Data ch cell next) p = next_cell ch (suc cell) p
send_step_on (Tail l next) p = finish_tail l p

-- the sender's step, at the half on which it is due
abbrev pub advance_tx_on : Tx → Port → Port
advance_tx_on t p = cond (due_now (tx_next t) p.half) (send_step_on t p) p

unfoldable pub advance_tx : Port → Port
advance_tx p = advance_tx_on p.tx p
