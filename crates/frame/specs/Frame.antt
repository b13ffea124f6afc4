-- The frame of a character (document 01, section "Frame"): its format from SMR and SEMR, its cells, and its word, which holds the cells as bits.
-- Assumes nothing.
use Rattle.std.specs.Prelude.{ℕ, zero, suc, ◌+◌, ◌*◌, ◌/◌, ◌%◌, ◌^◌, Bool, true, false, cond, not, ◌&&◌, ◌||◌, List, [], ◌∷◌, ◌++◌, eqb, replicate}
use Rattle.std.specs.Bool.{beq}
use Rattle.std.specs.Int.Bits.{bit_and}
use Rattle.frame.specs.declared.Format.{Format}

-- some bit of the mask is set in x
abbrev pub has : ℕ → ℕ → Bool
has x mask = not (eqb (bit_and x mask) 0)

-- exactly one of the two
abbrev pub differ : Bool → Bool → Bool
differ a b = not (beq a b)

-- a flag as a number
abbrev pub one_if : Bool → ℕ
one_if b = cond b 1 0

-- the low d bits of a number, low bit first, a one as true
unfoldable pub bits : ℕ → ℕ → List Bool
bits zero v = []
bits (suc d) v = eqb (v % 2) 1 ∷ bits d (v / 2)

-- the number that a list of bits makes, low bit first
unfoldable pub number : List Bool → ℕ
number [] = 0
number (b ∷ bs) = one_if b + number bs * 2

-- how many of the bits are ones
unfoldable pub ones : List Bool → ℕ
ones [] = 0
ones (b ∷ bs) = one_if b + ones bs

-- the format that SMR and SEMR give; `half_bit` is the cell length in halves
unfoldable pub format : ℕ → ℕ → Format
format smr semr =
    record {
      synchronous = has smr 0x80;
      «data» = cond (has smr 0x80) 8 (cond (has smr 4) 5 (cond (has smr 0x40) 7 8));
      parity = not (has smr 0x80) && has smr 0x20 && (not (has smr 4) || has smr 0x40);
      odd = has smr 0x10;
      stops = cond (has smr 8) 2 1;
      half_bit = cond (has semr 8) 16 32;
    }

-- the number of the first stop cell: the start cell is 0, then come the data cells and the parity cell
abbrev pub stop : Format → ℕ
stop f = suc (f.«data» + one_if f.parity)

-- the number of cells
abbrev pub cells : Format → ℕ
cells f = stop f + f.stops

-- the parity bit of these data bits: the ones among them plus the odd bit, remainder by two. With it the ones are even in number, odd with `odd`
abbrev pub parity_bit : Format → List Bool → ℕ
parity_bit f bs = (ones bs + one_if f.odd) % 2

-- the parity cell of these data bits, if the format has one
unfoldable pub parity_cell : Format → List Bool → List Bool
parity_cell f bs = cond f.parity (eqb (parity_bit f bs) 1 ∷ []) []

-- the levels of the cells with these data bits, a one as true: start, data, parity, stops
unfoldable pub frame : Format → List Bool → List Bool
frame f bs = (false ∷ (bs ++ parity_cell f bs)) ++ replicate f.stops true

-- the word of a value: with clocked form its eight bits, else the cells of its frame, the first in bit 0
unfoldable pub word : Format → ℕ → ℕ
word f v = cond f.synchronous (v % 256) (number (frame f (bits f.«data» v)))

-- a format that some SMR and SEMR give (specs/Valid.antt)
unfoldable pub format_valid : Format → Bool
format_valid f =
    (eqb f.«data» 5 || eqb f.«data» 7 || eqb f.«data» 8) && (eqb f.stops 1 || eqb f.stops 2)
    && (eqb f.half_bit 16 || eqb f.half_bit 32)
    && (not f.synchronous || eqb f.«data» 8 && not f.parity)

-- the value in a word: with clocked form the word itself, else its data cells
abbrev pub data_of : Format → ℕ → ℕ
data_of f w = cond f.synchronous w (w / 2 % 2 ^ f.«data»)

-- a word that some value gives in this format: the word of the value in it (specs/Valid.antt)
unfoldable pub word_valid : Format → ℕ → Bool
word_valid f w = eqb (word f (data_of f w)) w
