-- A word in the receiver (document 01, "Receiver"; the manual's receive error table): what each sample makes of it.
-- Assumes nothing.
use Rattle.std.specs.Prelude.{ℕ, zero, suc, ◌+◌, ◌-◌, ◌/◌, ◌^◌, Bool, false, cond, not, ◌&&◌, ◌||◌, eqb, ltb, ℤ, pos, negsuc, Option, None, Some}
use Rattle.std.specs.Int.Bits.{bit_or}
use Rattle.frame.specs.declared.Format.{Format}
use Rattle.frame.specs.Frame.{differ, one_if}
use Rattle.shift.specs.declared.Rx.{Rx}
use Rattle.shift.specs.declared.Sampled.{Sampled}
use Rattle.shift.specs.declared.Sampled.TheVariants.{Dropped, Onward, Whole}
use Rattle.shift.specs.Due.{due_now}

-- ---- a word in the receiver, at its sample
-- a word of which nothing has been received
abbrev pub empty_word : Format → ℤ → Option ℕ → Rx
empty_word f z next = record { format = f; value = 0; position = z; parity = false; error = 0; next = next }

-- a new word, which waits for the next falling phase at position -2
abbrev pub armed : Format → ℕ → Rx
armed f next = empty_word f (negsuc (suc zero)) (Some next)

-- the falling phase: the start cell begins in the present format, and is sampled in its middle at position -1
abbrev pub started : Format → ℕ → Rx → Rx
started now half r =
    record { format = now; value = r.value; position = negsuc zero; parity = r.parity; error = r.error; next = Some (half + now.half_bit / 2 - 1) }

-- the position after a sample
abbrev pub next_position : ℤ → ℤ
next_position (pos j) = pos (suc j)
next_position (negsuc zero) = pos 0
next_position (negsuc (suc j)) = negsuc j

-- the bit of the received value that a position stands for
abbrev pub bit_at : ℤ → ℕ
bit_at (pos j) = 2 ^ j
bit_at (negsuc j) = 0

-- on from position z: the next cell is sampled one cell length later
abbrev pub stepped : ℕ → ℤ → ℕ → Bool → ℕ → Rx → Rx
stepped half z value parity error r =
    record { format = r.format; value = value; position = next_position z; parity = parity; error = error; next = Some (half + r.format.half_bit) }

-- the word's errors after the parity cell, which makes the ones among data and parity even, or odd; and after the first stop cell, which is at mark
abbrev pub parity_error : Bool → Rx → ℕ
parity_error high r = cond (differ high (differ r.parity r.format.odd)) (bit_or r.error 8) r.error

abbrev pub framing_error : Bool → Rx → ℕ
framing_error high r = cond high r.error (bit_or r.error 0x10)

-- the first stop cell
abbrev pub stopped : Bool → Rx → Rx
stopped high r =
    record { format = r.format; value = r.value; position = r.position; parity = r.parity; error = framing_error high r; next = r.next }

-- a sample at a position: -2 and -1 drop a word whose line is back at mark, then come data cells, the parity cell and the first stop cell
unfoldable pub sample_at : ℤ → Format → Bool → ℕ → Rx → Sampled
sample_at (negsuc (suc (suc n))) now high half r = Dropped
sample_at (negsuc (suc zero)) now high half r = cond (high || now.synchronous) Dropped (Onward (started now half r))
sample_at (negsuc zero) now high half r = cond high Dropped (Onward (stepped half (negsuc zero) r.value r.parity r.error r))
sample_at (pos j) now high half r =
    cond (ltb j r.format.«data»)
    (Onward (stepped half (pos j) (cond high (bit_or r.value (bit_at (pos j))) r.value) (differ r.parity high) r.error r))
    (cond (eqb j r.format.«data» && r.format.parity)
    (Onward (stepped half (pos j) r.value r.parity (parity_error high r) r))
    (Whole (stopped high r)))

abbrev pub sample : Format → Bool → ℕ → Rx → Sampled
sample now high half r = sample_at r.position now high half r

-- ---- a clocked word: a new one, and a bit of it taken
abbrev pub clocked_word : Format → Rx
clocked_word f = empty_word f (pos 0) None

abbrev pub bit_taken : Bool → Rx → Rx
bit_taken high r =
    record { format = r.format; value = cond high (bit_or r.value (bit_at r.position)) r.value; position = next_position r.position; parity = r.parity; error = r.error; next = r.next }

-- the eighth bit
abbrev pub last_bit : ℤ → Bool
last_bit (pos j) = eqb j 7
last_bit (negsuc j) = false

-- ---- the receiver
-- the half on which it acts next
abbrev pub rx_next : Option Rx → Option ℕ
rx_next None = None
rx_next (Some r) = r.next

abbrev pub rx_clocked : Option Rx → Bool
rx_clocked None = false
rx_clocked (Some r) = r.format.synchronous

-- a start-stop receiver is due now
abbrev pub rx_due_on : Option Rx → ℕ → Bool
rx_due_on None half = false
rx_due_on (Some r) half = not r.format.synchronous && due_now r.next half

-- ---- a completion (document 01): the half that samples the first stop cell
abbrev pub at_stop : ℤ → Rx → Bool
at_stop (negsuc n) r = false
at_stop (pos j) r = eqb j (r.format.«data» + one_if r.format.parity)

abbrev pub completing_on : Option Rx → ℕ → Bool
completing_on None half = false
completing_on (Some r) half = due_now r.next half && at_stop r.position r
