-- The field test of due halves, words and formats, clause by clause (document 01).
-- Assumes nothing.
use Rattle.std.specs.Prelude.{ℕ, zero, suc, ◌+◌, Bool, true, false, cond, not, ◌&&◌, ◌||◌, eqb, ltb, leb, ℤ, pos, negsuc, Option, None, Some}
use Rattle.frame.specs.declared.Format.{Format}
use Rattle.frame.specs.Frame.{one_if, stop, format_valid, word_valid}
use Rattle.shift.specs.declared.Character.{Character}
use Rattle.shift.specs.declared.Tx.{Tx}
use Rattle.shift.specs.declared.Tx.TheVariants.{Off, Blocked, Mark, Start, Data, Tail}
use Rattle.shift.specs.declared.Rx.{Rx}

-- "each due half 1 to 448 above the half count": here one that is present
abbrev pub due_at : ℕ → ℕ → Bool
due_at half n = ltb half n && leb n (half + 448)

-- present or not
abbrev pub due_either : Option ℕ → ℕ → Bool
due_either None half = true
due_either (Some n) half = due_at half n

-- present exactly for a start-stop word
abbrev pub due_by : Option ℕ → Bool → ℕ → Bool
due_by None synchronous half = synchronous
due_by (Some n) synchronous half = not synchronous && due_at half n

-- "formats and words that some SMR, SEMR and value give"
unfoldable pub character_valid : Character → Bool
character_valid ch = format_valid ch.format && word_valid ch.format ch.word

abbrev pub loaded_valid : Option Character → Bool
loaded_valid None = true
loaded_valid (Some ch) = character_valid ch

-- "a transmit cell below the stop cell (clocked: at most 7)"
abbrev pub cell_valid : Format → ℕ → Bool
cell_valid f cell = ltb cell (cond f.synchronous 8 (stop f))

-- due halves: "present in mark and start, in data exactly for a start-stop word, in tail either way"
abbrev pub tx_valid : Tx → ℕ → Bool
tx_valid Off half = true
tx_valid (Blocked ch) half = character_valid ch
tx_valid (Mark next) half = due_at half next
tx_valid (Start ch next) half = character_valid ch && due_at half next
tx_valid (Data ch cell next) half =
    character_valid ch && (cell_valid ch.format cell && due_by next ch.format.synchronous half)
tx_valid (Tail l next) half = loaded_valid l && due_either next half

-- "receive position -2 to data bits plus parity (clocked: 0 to 7)"
abbrev pub position_valid : ℤ → Format → Bool
position_valid (negsuc (suc (suc n))) f = false
position_valid (negsuc (suc zero)) f = not f.synchronous
position_valid (negsuc zero) f = not f.synchronous
position_valid (pos j) f = leb j (cond f.synchronous 7 (f.«data» + one_if f.parity))

-- "receive error 0 or 8"; a due half "in the receiver exactly for a start-stop word"
unfoldable pub word_in_place : Rx → ℕ → Bool
word_in_place r half =
    format_valid r.format && (position_valid r.position r.format
    && ((eqb r.error 0 || eqb r.error 8) && due_by r.next r.format.synchronous half))

abbrev pub rx_valid : Option Rx → ℕ → Bool
rx_valid None half = true
rx_valid (Some r) half = word_in_place r half
