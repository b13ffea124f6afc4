-- The state as a list of numbers and back: the port, one for each field in the order of the fields of `Sci` of sci.rs, and after them its clock.
--   0 to 9    SPCR, SMR, BRR, SCR, TDR, SSR, RDR, SEMR, IRCR, and the status bits seen
--   10 to 13  module, main clock, subclock, reset mode
--   14 to 16  half count, clock phase, edge
--   17, 18    holding place
--   19 to 30  sender
--   31 to 43  receiver
--   44 to 48  transmit line, bit start, receive line, clock pin, clock of clocked form
--   49, 50    its next edge
--   51, 52    tallies of words sent and received
--   53 to 55  ticks that remain to the next half, cycles of the system clock and of the watch clock
-- A bool is 0 or 1. An enum is its variant's number, counted from 0 in the order of its declaration, and then its values at places of their own; a place
-- that a variant does not use is written as 0; where the list is read, only its range is looked at.
-- Assumes nothing.
use Rattle.std.specs.Prelude.{ℕ, ◌+◌, ◌-◌, Bool, true, false, cond, not, ◌&&◌, List, [], ◌∷◌, ◌++◌, eqb, leb, ℤ, pos, negsuc, take, drop, get_or, Option, None, Some, unwrap_or}
use Rattle.frame.specs.declared.Format.{Format}
use Rattle.frame.specs.Frame.{one_if}
use Rattle.port.specs.declared.Port.{Port}
use Rattle.shift.specs.declared.Character.{Character}
use Rattle.shift.specs.declared.Tx.{Tx}
use Rattle.shift.specs.declared.Tx.TheVariants.{Off, Blocked, Mark, Start, Data, Tail}
use Rattle.shift.specs.declared.Rx.{Rx}
use Rattle.shift.specs.Sender.{tx_next}
use Rattle.sci.specs.declared.Baud.{Baud}
use Rattle.sci.specs.declared.Sci.{Sci}

-- ---- the state as numbers
-- whether there is a value
abbrev pub tag : {A : Type 0} → Option A → ℕ
tag None = 0
tag (Some x) = 1

-- a number, if there is one: a due half, or the held byte
abbrev pub number_list : Option ℕ → List ℕ
number_list x = tag x ∷ unwrap_or x 0 ∷ []

abbrev pub format_list : Format → List ℕ
format_list f = one_if f.synchronous ∷ f.«data» ∷ one_if f.parity ∷ one_if f.odd ∷ f.stops ∷ f.half_bit ∷ []

-- a format, and the word
abbrev pub character_list : Character → List ℕ
character_list k = format_list k.format ++ (k.word ∷ [])

-- stands where there is none: its numbers are 0
abbrev pub no_format : Format
no_format = record { synchronous = false; «data» = 0; parity = false; odd = false; stops = 0; half_bit = 0 }

abbrev pub no_character : Character
no_character = record { format = no_format; word = 0 }

abbrev pub no_rx : Rx
no_rx = record { format = no_format; value = 0; position = negsuc 127; parity = false; error = 0; next = None }

-- the sender: variant, character, cell, due half, and whether the next word is loaded. The character of a Tail is that word
abbrev pub tx_tag : Tx → ℕ
tx_tag Off = 0
tx_tag (Blocked k) = 1
tx_tag (Mark n) = 2
tx_tag (Start k n) = 3
tx_tag (Data k cell d) = 4
tx_tag (Tail l d) = 5

abbrev pub tx_character : Tx → Character
tx_character Off = no_character
tx_character (Blocked k) = k
tx_character (Mark n) = no_character
tx_character (Start k n) = k
tx_character (Data k cell d) = k
tx_character (Tail l d) = unwrap_or l no_character

abbrev pub tx_cell : Tx → ℕ
tx_cell Off = 0
tx_cell (Blocked k) = 0
tx_cell (Mark n) = 0
tx_cell (Start k n) = 0
tx_cell (Data k cell d) = cell
tx_cell (Tail l d) = 0

abbrev pub tx_loaded : Tx → ℕ
tx_loaded Off = 0
tx_loaded (Blocked k) = 0
tx_loaded (Mark n) = 0
tx_loaded (Start k n) = 0
tx_loaded (Data k cell d) = 0
tx_loaded (Tail l d) = tag l

abbrev pub tx_list : Tx → List ℕ
tx_list t =
    tx_tag t ∷ (character_list (tx_character t) ++ (tx_cell t ∷ (number_list (tx_next t) ++ (tx_loaded t ∷ []))))

-- the receiver: variant, format, value, position, parity, error, due half. A position stands as itself plus 128
abbrev pub position_number : ℤ → ℕ
position_number (pos n) = 128 + n
position_number (negsuc n) = 127 - n

abbrev pub word_list : Rx → List ℕ
word_list r =
    format_list r.format ++ (r.value ∷ position_number r.position ∷ one_if r.parity ∷ r.error ∷ number_list r.next)

abbrev pub rx_list : Option Rx → List ℕ
rx_list x = tag x ∷ word_list (unwrap_or x no_rx)

abbrev pub register_list : Port → List ℕ
register_list p = p.spcr ∷ p.smr ∷ p.brr ∷ p.scr ∷ p.tdr ∷ p.ssr ∷ p.rdr ∷ p.semr ∷ p.ircr ∷ p.seen ∷ []

abbrev pub power_list : Port → List ℕ
power_list p =
    one_if p.«module» ∷ one_if p.main ∷ one_if p.sub ∷ one_if p.reset_mode ∷ p.half ∷ one_if p.high ∷ one_if p.edge ∷ []

abbrev pub line_list : Port → List ℕ
line_list p =
    one_if p.uart ∷ p.bit_start ∷ one_if p.input ∷ one_if p.input_clock ∷ one_if p.sck
    ∷ (number_list p.sync_next ++ (p.transmitted ∷ p.received ∷ []))

unfoldable pub port_list : Port → List ℕ
port_list p =
    register_list p ++ (power_list p ++ (number_list p.holding ++ (tx_list p.tx ++ (rx_list p.rx ++ line_list p))))

abbrev pub baud_list : Baud → List ℕ
baud_list b = b.remaining ∷ b.system ∷ b.watch ∷ []

unfoldable pub encode : Sci → List ℕ
encode s = port_list s.port ++ baud_list s.baud

-- ---- the greatest number of each place
abbrev pub bit_max : ℕ
bit_max = 1

abbrev pub u8_max : ℕ
u8_max = 255

abbrev pub u16_max : ℕ
u16_max = 65535

abbrev pub u32_max : ℕ
u32_max = 4294967295

abbrev pub u64_max : ℕ
u64_max = 18446744073709551615

abbrev pub due_max : List ℕ
due_max = 1 ∷ u32_max ∷ []

abbrev pub holding_max : List ℕ
holding_max = 1 ∷ u8_max ∷ []

abbrev pub format_max : List ℕ
format_max = bit_max ∷ u8_max ∷ bit_max ∷ bit_max ∷ u8_max ∷ u32_max ∷ []

abbrev pub character_max : List ℕ
character_max = format_max ++ (u16_max ∷ [])

abbrev pub tx_max : List ℕ
tx_max = 5 ∷ (character_max ++ (u8_max ∷ (due_max ++ (1 ∷ []))))

abbrev pub word_max : List ℕ
word_max = format_max ++ (u8_max ∷ u8_max ∷ bit_max ∷ u8_max ∷ due_max)

abbrev pub rx_max : List ℕ
rx_max = 1 ∷ word_max

abbrev pub register_max : List ℕ
register_max = u8_max ∷ u8_max ∷ u8_max ∷ u8_max ∷ u8_max ∷ u8_max ∷ u8_max ∷ u8_max ∷ u8_max ∷ u8_max ∷ []

abbrev pub power_max : List ℕ
power_max = bit_max ∷ bit_max ∷ bit_max ∷ bit_max ∷ u32_max ∷ bit_max ∷ bit_max ∷ []

abbrev pub line_max : List ℕ
line_max = bit_max ∷ u32_max ∷ bit_max ∷ bit_max ∷ bit_max ∷ (due_max ++ (u64_max ∷ u64_max ∷ []))

abbrev pub port_max : List ℕ
port_max = register_max ++ (power_max ++ (holding_max ++ (tx_max ++ (rx_max ++ line_max))))

abbrev pub baud_max : List ℕ
baud_max = u16_max ∷ u64_max ∷ u64_max ∷ []

abbrev pub state_max : List ℕ
state_max = port_max ++ baud_max

-- as many numbers as there are places, none above its place's greatest
unfoldable pub fits : List ℕ → List ℕ → Bool
fits [] [] = true
fits [] (x ∷ xs) = false
fits (m ∷ ms) [] = false
fits (m ∷ ms) (x ∷ xs) = leb x m && fits ms xs

-- ---- numbers as a state
abbrev pub flag : ℕ → Bool
flag n = not (eqb n 0)

-- the number at a place, and n numbers from a place on
abbrev pub at : List ℕ → ℕ → ℕ
at s i = get_or s i 0

abbrev pub part : ℕ → ℕ → List ℕ → List ℕ
part i n s = take n (drop i s)

-- a number, if there is one
unfoldable pub number_in : List ℕ → Option ℕ
number_in s = cond (flag (at s 0)) (Some (at s 1)) None

unfoldable pub format_in : List ℕ → Format
format_in s =
    record { synchronous = flag (at s 0); «data» = at s 1; parity = flag (at s 2); odd = flag (at s 3); stops = at s 4; half_bit = at s 5 }

unfoldable pub character_in : List ℕ → Character
character_in s = record { format = format_in (part 0 6 s); word = at s 6 }

-- a word's last cells, and the next word if it is loaded
unfoldable pub tail_of : Character → Option ℕ → Bool → Tx
tail_of k d loaded = cond loaded (Tail (Some k) d) (Tail None d)

-- the variant that a number names
unfoldable pub tx_of : ℕ → Character → ℕ → Option ℕ → ℕ → Bool → Tx
tx_of tag k cell d n loaded =
    cond (eqb tag 0) Off
    (cond (eqb tag 1) (Blocked k)
    (cond (eqb tag 2) (Mark n)
    (cond (eqb tag 3) (Start k n)
    (cond (eqb tag 4) (Data k cell d)
    (tail_of k d loaded)))))

unfoldable pub tx_in : List ℕ → Tx
tx_in s = tx_of (at s 0) (character_in (part 1 7 s)) (at s 8) (number_in (part 9 2 s)) (at s 10) (flag (at s 11))

unfoldable pub position_of : ℕ → ℤ
position_of n = cond (leb 128 n) (pos (n - 128)) (negsuc (127 - n))

unfoldable pub word_in : List ℕ → Rx
word_in s =
    record {
      format = format_in (part 0 6 s);
      value = at s 6;
      position = position_of (at s 7);
      parity = flag (at s 8);
      error = at s 9;
      next = number_in (part 10 2 s);
    }

unfoldable pub rx_in : List ℕ → Option Rx
rx_in s = cond (flag (at s 0)) (Some (word_in (part 1 12 s))) None

-- the enums among its fields come with it
unfoldable pub port_of : List ℕ → Option ℕ → Tx → Option Rx → Option ℕ → Port
port_of s h t r d =
    record {
      spcr = at s 0;
      smr = at s 1;
      brr = at s 2;
      scr = at s 3;
      tdr = at s 4;
      ssr = at s 5;
      rdr = at s 6;
      semr = at s 7;
      ircr = at s 8;
      seen = at s 9;
      «module» = flag (at s 10);
      main = flag (at s 11);
      sub = flag (at s 12);
      reset_mode = flag (at s 13);
      half = at s 14;
      high = flag (at s 15);
      edge = flag (at s 16);
      holding = h;
      tx = t;
      rx = r;
      uart = flag (at s 44);
      bit_start = at s 45;
      input = flag (at s 46);
      input_clock = flag (at s 47);
      sck = flag (at s 48);
      sync_next = d;
      transmitted = at s 51;
      received = at s 52;
    }

unfoldable pub port_in : List ℕ → Port
port_in s = port_of s (number_in (part 17 2 s)) (tx_in (part 19 12 s)) (rx_in (part 31 13 s)) (number_in (part 49 2 s))

unfoldable pub baud_in : List ℕ → Baud
baud_in s = record { remaining = at s 0; system = at s 1; watch = at s 2 }

unfoldable pub sci_in : List ℕ → Sci
sci_in s = record { port = port_in (part 0 53 s); baud = baud_in (part 53 3 s) }

-- the state that a list is, if it is one
unfoldable pub decode : List ℕ → Option Sci
decode s = cond (fits state_max s) (Some (sci_in s)) None
