-- What the receive line carries while words come, counted in halves; and the counts that the claim of Recovery.antt is about.
-- A picture in numbers, for SMR 0 and SEMR 0 (8 data bits, no parity, 1 stop bit, a cell of 32 halves), a word being halves 1 to 320:
--
--     halves               1-32     33-64    ..   257-288   289-320
--     cell                 start    data 0   ..   data 7    first stop    (sampled at half 304 or 305, by the phase: the completion)
--     stop_cells_begun     0        0        ..   0         1
--     stop_cells_passed    0        0        ..   0         0, and 1 when half 320 has passed
--
-- Of frame: `bits n x` are the low n bits of x, low bit first; `word f v` is the frame's word of a value; `stop f` is the number of cells before the first
-- stop cell (start, data, parity), `cells f` that of all cells; f's `half_bit` is the cell length in halves, its `data` the number of data bits; `one_if b` is 1
-- or 0. proofs/Facts.antt has the numbers of the picture, and others, computed.
-- Assumes nothing.
use Rattle.std.specs.Prelude.{◌≡◌, ℕ, zero, suc, ◌+◌, ◌-◌, ◌*◌, ◌%◌, ◌^◌, Bool, true, false, List, [], ◌∷◌, ◌++◌, ltb, leb, replicate}
use Rattle.frame.specs.declared.Format.{Format}
use Rattle.frame.specs.Frame.{bits, cells, one_if, stop, word}

-- ---- what the line carries (document 01: "mark for any number of halves, and words")
pub data LineItem : Type 0 where
  mark : ℕ → LineItem
  word_of : ℕ → LineItem

-- "each cell one cell length of halves"
unfoldable pub spread : ℕ → List Bool → List Bool
spread n [] = []
spread n (b ∷ bs) = replicate n b ++ spread n bs

-- the halves that a word takes
abbrev pub span : Format → ℕ
span f = cells f * f.half_bit

-- the level of each half, mark as true: "the frame's word of some value .., low bit first, a one as mark and a zero as the other level".
-- The value may be any number, and only its data bits count (document 01 has 0 to 255)
unfoldable pub signal : Format → List LineItem → List Bool
signal f [] = []
signal f (mark n ∷ is) = replicate n true ++ signal f is
signal f (word_of v ∷ is) = spread f.half_bit (bits (cells f) (word f v)) ++ signal f is

-- these levels are a first part of those: "up to the list's end, which may cut a word"
abbrev pub prefix : List Bool → List Bool → Type 0
prefix [] ys = Unit {0}
prefix (x ∷ xs) [] = ⊥
prefix (x ∷ xs) (y ∷ ys) = (x ≡ y) × prefix xs ys

-- "the number that the word's data bits make, low bit first": the value modulo 2 to the number of data bits
unfoldable pub values : Format → List LineItem → List ℕ
values f [] = []
values f (mark n ∷ is) = values f is
values f (word_of v ∷ is) = v % 2 ^ f.«data» ∷ values f is

-- the halves that items take, and the words among them
unfoldable pub span_of : Format → List LineItem → ℕ
span_of f [] = 0
span_of f (mark n ∷ is) = n + span_of f is
span_of f (word_of v ∷ is) = span f + span_of f is

unfoldable pub words_in : List LineItem → ℕ
words_in [] = 0
words_in (mark n ∷ is) = words_in is
words_in (word_of v ∷ is) = suc (words_in is)

-- the words whose first stop cell has begun within the first k halves (at least one half of it has passed), and those whose first stop cell has passed
unfoldable pub stop_cells_begun : Format → List LineItem → ℕ → ℕ
stop_cells_begun f [] k = 0
stop_cells_begun f (mark n ∷ is) k = stop_cells_begun f is (k - n)
stop_cells_begun f (word_of v ∷ is) k = one_if (ltb (stop f * f.half_bit) k) + stop_cells_begun f is (k - span f)

unfoldable pub stop_cells_passed : Format → List LineItem → ℕ → ℕ
stop_cells_passed f [] k = 0
stop_cells_passed f (mark n ∷ is) k = stop_cells_passed f is (k - n)
stop_cells_passed f (word_of v ∷ is) k = one_if (leb (suc (stop f) * f.half_bit) k) + stop_cells_passed f is (k - span f)

-- ---- what happens, and what is counted
-- A moment is a half that passes, or another accepted call. Its event: a half, with the level that it sees (mark as true) and whether it is a
-- completion; a read of RDR, with its answer; or anything else
pub data Event : Type 0 where
  half_passes : Bool → Bool → Event
  rdr_read : ℕ → Event
  other : Event

-- halves passed, completions, and whether RDR has yet to be read after the last completion
pub record Count : Type 0 where
  pub halves : ℕ
  pub completions : ℕ
  pub unread : Bool

abbrev pub none_yet : Count
none_yet = record { halves = 0; completions = 0; unread = false }

abbrev pub count_after : Count → Event → Count
count_after c (half_passes m true) = record { halves = suc c.halves; completions = suc c.completions; unread = true }
count_after c (half_passes m false) = record { halves = suc c.halves; completions = c.completions; unread = c.unread }
count_after c (rdr_read a) = record { halves = c.halves; completions = c.completions; unread = false }
count_after c other = c

-- a tally after n words more: each adds one, "wrapping to zero" at 2 to the 64th
unfoldable pub tally_after : ℕ → ℕ → ℕ
tally_after zero t = t
tally_after (suc n) t = suc (tally_after n t) % 2 ^ 64
