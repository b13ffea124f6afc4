-- What the cells of a start-stop frame are (document 01, section "Frame"), with the data bits, the parity, the odd flag and the stops as parameters:
-- any numbers and flags, whether registers give them or not. Proved in proofs/Facts.antt, as `frame_facts`.
-- Assumes nothing.
use Rattle.std.specs.Prelude.{ℕ, suc, ◌+◌, ◌/◌, ◌%◌, ◌^◌, ◌<◌, ◌≡◌, Bool, true, false, eqb, length, get_or, count_ones}
use Rattle.frame.specs.declared.Format.{Format}
use Rattle.frame.specs.Frame.{bits, frame, word, stop, cells, one_if}

-- a start-stop format: d data bits, a parity cell or none, even or odd, the stops, and the cell length
abbrev pub start_stop : ℕ → Bool → Bool → ℕ → ℕ → Format
start_stop d parity odd stops half =
    record { synchronous = false; «data» = d; parity = parity; odd = odd; stops = stops; half_bit = half }

-- bit i of a number
abbrev pub bit : ℕ → ℕ → ℕ
bit x i = x / 2 ^ i % 2

-- what a parity cell holds for the value v: the ones among its d data bits plus the odd bit, remainder by two
abbrev pub parity_of : ℕ → Bool → ℕ → ℕ
parity_of d odd v = (count_ones (v % 2 ^ d) + one_if odd) % 2

-- the level of cell i in the list of the frame's cells
abbrev pub level : Format → ℕ → ℕ → Bool
level f v i = get_or (frame f (bits f.«data» v)) i false

-- the list: start cell 0, data cells low bit first, parity cell, stop cells 1, and no more
pub record Levels (f : Format) (v : ℕ) : Type 0 where
  pub start : level f v 0 ≡ false
  pub low_first : (i : ℕ) → i < f.«data» → level f v (suc i) ≡ eqb (bit v i) 1
  pub parity : f.parity ≡ true → level f v (suc f.«data») ≡ eqb (parity_of f.«data» f.odd v) 1
  pub stops : (i : ℕ) → i < f.stops → level f v (stop f + i) ≡ true
  pub no_more : length (frame f (bits f.«data» v)) ≡ cells f

-- the word, the number that the list makes: the same of its bits, and the value's data bits read back
pub record Word (f : Format) (v : ℕ) : Type 0 where
  pub start : bit (word f v) 0 ≡ 0
  pub low_first : (i : ℕ) → i < f.«data» → bit (word f v) (suc i) ≡ bit v i
  pub parity : f.parity ≡ true → bit (word f v) (suc f.«data») ≡ parity_of f.«data» f.odd v
  pub stops : (i : ℕ) → i < f.stops → bit (word f v) (stop f + i) ≡ 1
  pub no_more : word f v < 2 ^ cells f
  pub reads_back : word f v / 2 % 2 ^ f.«data» ≡ v % 2 ^ f.«data»

-- the claim
abbrev pub FrameFacts : Type 0
FrameFacts =
    (d : ℕ) (parity odd : Bool) (stops half v : ℕ)
    → Levels (start_stop d parity odd stops half) v × Word (start_stop d parity odd stops half) v
