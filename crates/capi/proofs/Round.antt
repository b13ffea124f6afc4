-- The claim of specs/Round.antt, proved: an encoding fits its places, and each part of it is read back.
-- Assumes nothing.
use Rattle.std.specs.Prelude.{Option, None, Some}
use mathlib.Core.Path.{◌≡◌, refl, ap, ap₂, ◌∙◌}
use mathlib.Core.Bool.{Bool, true, false, cond, ◌&&◌, false≢true}
use mathlib.Core.List.{List, [], ◌∷◌, ◌++◌}
use Prim.Native.Nat.{ℕ, ◌+◌, ◌-◌, ◌≤◌, ◌<◌}
use native.Mathlib.Omega.{arith}
use lib.Dec.{leb, lit≤}
use lib.IntN.{ℤ, pos, negsuc}
use lib.Signed.{mag}
use borrow.Author.Tests.{le-leb, lt-leb}
use Rattle.frame.specs.declared.Format.{Format}
use Rattle.frame.specs.Frame.{one_if}
use Rattle.port.specs.declared.Port.{Port}
use Rattle.shift.specs.declared.Character.{Character}
use Rattle.shift.specs.declared.Tx.{Tx}
use Rattle.shift.specs.declared.Tx.TheVariants.{Off, Blocked, Mark, Start, Data, Tail}
use Rattle.shift.specs.declared.Rx.{Rx}
use Rattle.shift.specs.Sender.{tx_next}
use Rattle.sci.specs.declared.Baud.{Baud}
use Rattle.sci.specs.declared.Sci.{Sci}
use Rattle.capi.specs.State.{flag, number_list, format_list, character_list, tx_character, tx_cell, tx_loaded, tx_tag, tx_list, position_number, word_list, rx_list, register_list, power_list, line_list, port_list, baud_list, encode, u8_max, u32_max, u64_max, due_max, holding_max, format_max, character_max, tx_max, word_max, rx_max, register_max, power_max, line_max, port_max, baud_max, state_max, fits, number_in, format_in, character_in, tail_of, tx_of, tx_in, position_of, word_in, rx_in, port_of, port_in, baud_in, sci_in, decode}
use Rattle.frame.proofs.Truth.{and_left, and_right}
use Rattle.frame.proofs.Laws.{one_if≤}
use Rattle.capi.specs.Round.{DueTyped, HoldingTyped, FormatTyped, CharacterTyped, TxTyped, RxTyped, ReceiverTyped, PortTyped, BaudTyped, SciTyped, RoundTrip}

-- ---- an encoding fits
fits_cons : (m x : ℕ) (ms xs : List ℕ) → x ≤ m → fits ms xs ≡ true → fits (m ∷ ms) (x ∷ xs) ≡ true
unfolding fits
fits_cons m x ms xs h k = ap₂ ◌&&◌ (le-leb x m h) k

fits_nil : fits [] [] ≡ true
unfolding fits
fits_nil = refl

fits_append : (ms xs ns ys : List ℕ) → fits ms xs ≡ true → fits ns ys ≡ true → fits (ms ++ ns) (xs ++ ys) ≡ true
unfolding fits
fits_append [] [] ns ys h k = k
fits_append [] (x ∷ xs) ns ys h k = absurd (false≢true h)
fits_append (m ∷ ms) [] ns ys h k = absurd (false≢true h)
fits_append (m ∷ ms) (x ∷ xs) ns ys h k =
    ap₂ ◌&&◌ (and_left (leb x m) (fits ms xs) h) (fits_append ms xs ns ys (and_right (leb x m) (fits ms xs) h) k)

ruleset sums = (fits_cons, fits_nil, one_if≤)

due_fits : (d : Option ℕ) → DueTyped d → fits due_max (number_list d) ≡ true
unfolding fits
due_fits None h = refl
due_fits (Some n) h = fits_cons 1 1 (u32_max ∷ []) (n ∷ []) (lit≤ tt) (fits_cons u32_max n [] [] h fits_nil)

holding_fits : (x : Option ℕ) → HoldingTyped x → fits holding_max (number_list x) ≡ true
unfolding fits
holding_fits None h = refl
holding_fits (Some b) h = fits_cons 1 1 (u8_max ∷ []) (b ∷ []) (lit≤ tt) (fits_cons u8_max b [] [] h fits_nil)

format_fits : (f : Format) → FormatTyped f → fits format_max (format_list f) ≡ true
format_fits f h = search (h.data≤, h.stops≤, h.half≤, sums) depth 20

character_fits : (k : Character) → CharacterTyped k → fits character_max (character_list k) ≡ true
character_fits k h = fits_append format_max (format_list k.format) _ _ (format_fits k.format h.format) (search (h.word≤, sums))

-- the places that stand for a character, a cell, a due half and a loaded word
no_character_fits : fits character_max (character_list (tx_character Off)) ≡ true
unfolding fits
no_character_fits = refl

tx_parts : (t : Tx) → tx_tag t ≤ 5 → fits character_max (character_list (tx_character t)) ≡ true → tx_cell t ≤ u8_max → DueTyped (tx_next t) → tx_loaded t ≤ 1 → fits tx_max (tx_list t) ≡ true
tx_parts t ht hk hc hd hl =
    fits_cons 5 (tx_tag t) _ _ ht
    (fits_append character_max (character_list (tx_character t)) _ _ hk
    (fits_cons u8_max (tx_cell t) _ _ hc
    (fits_append due_max (number_list (tx_next t)) _ _ (due_fits (tx_next t) hd) (fits_cons 1 (tx_loaded t) [] [] hl fits_nil))))

tx_fits : (t : Tx) → TxTyped t → fits tx_max (tx_list t) ≡ true
tx_fits Off h = tx_parts Off (lit≤ tt) no_character_fits (lit≤ tt) tt (lit≤ tt)
tx_fits (Blocked k) h = tx_parts (Blocked k) (lit≤ tt) (character_fits k h) (lit≤ tt) tt (lit≤ tt)
tx_fits (Mark n) h = tx_parts (Mark n) (lit≤ tt) no_character_fits (lit≤ tt) h (lit≤ tt)
tx_fits (Start k n) h = tx_parts (Start k n) (lit≤ tt) (character_fits k h.0) (lit≤ tt) h.1 (lit≤ tt)
tx_fits (Data k c d) h = tx_parts (Data k c d) (lit≤ tt) (character_fits k h.0) h.1 h.2 (lit≤ tt)
tx_fits (Tail None d) h = tx_parts (Tail None d) (lit≤ tt) no_character_fits (lit≤ tt) h.1 (lit≤ tt)
tx_fits (Tail (Some k) d) h = tx_parts (Tail (Some k) d) (lit≤ tt) (character_fits k h.0) (lit≤ tt) h.1 (lit≤ tt)

position≤ : (z : ℤ) → mag z < 128 → position_number z ≤ u8_max
position≤ (pos n) h = omega arith
position≤ (negsuc n) h = omega arith

word_fits : (r : Rx) → RxTyped r → fits word_max (word_list r) ≡ true
word_fits r h =
    fits_append format_max (format_list r.format) _ _ (format_fits r.format h.format)
    (search (h.value≤, position≤ r.position h.position<, h.error≤, due_fits r.next h.next, sums) depth 20)

rx_fits : (x : Option Rx) → ReceiverTyped x → fits rx_max (rx_list x) ≡ true
unfolding fits
rx_fits None h = refl
rx_fits (Some r) h = fits_cons 1 1 word_max (word_list r) (lit≤ tt) (word_fits r h)

module _ (p : Port) (h : PortTyped p) where
  register_fits : fits register_max (register_list p) ≡ true
  register_fits = search (h.spcr≤, h.smr≤, h.brr≤, h.scr≤, h.tdr≤, h.ssr≤, h.rdr≤, h.semr≤, h.ircr≤, h.seen≤, sums) depth 30

  power_fits : fits power_max (power_list p) ≡ true
  power_fits = search (h.half≤, sums) depth 20

  tally_fits : fits (u64_max ∷ u64_max ∷ []) (p.transmitted ∷ p.received ∷ []) ≡ true
  tally_fits = search (h.transmitted≤, h.received≤, sums)

  line_fits : fits line_max (line_list p) ≡ true
  line_fits =
      search (h.start≤, fits_append due_max (number_list p.sync_next) _ _ (due_fits p.sync_next h.next) tally_fits, sums) depth 20

  port_fits : fits port_max (port_list p) ≡ true
  unfolding port_list
  port_fits =
      fits_append register_max (register_list p) _ _ register_fits
      (fits_append power_max (power_list p) _ _ power_fits
      (fits_append holding_max (number_list p.holding) _ _ (holding_fits p.holding h.holding)
      (fits_append tx_max (tx_list p.tx) _ _ (tx_fits p.tx h.tx)
      (fits_append rx_max (rx_list p.rx) _ _ (rx_fits p.rx h.rx) line_fits))))

baud_fits : (b : Baud) → BaudTyped b → fits baud_max (baud_list b) ≡ true
baud_fits b h = search (h.remaining≤, h.system≤, h.watch≤, sums) depth 20

encode_fits : (s : Sci) → SciTyped s → fits state_max (encode s) ≡ true
unfolding encode
encode_fits s h = fits_append port_max (port_list s.port) _ _ (port_fits s.port h.port) (baud_fits s.baud h.baud)

-- ---- and is read back
flag_back : (b : Bool) → flag (one_if b) ≡ b
flag_back true = refl
flag_back false = refl

number_back : (x : Option ℕ) → number_in (number_list x) ≡ x
unfolding number_in
number_back None = refl
number_back (Some n) = refl

format_back : (f : Format) → format_in (format_list f) ≡ f
unfolding format_in
format_back f =
    λ i.
    record { synchronous = flag_back f.synchronous i; «data» = f.«data»; parity = flag_back f.parity i; odd = flag_back f.odd i; stops = f.stops; half_bit = f.half_bit }

character_back : (k : Character) → character_in (character_list k) ≡ k
unfolding character_in
character_back k = λ i. record { format = format_back k.format i; word = k.word }

tx_back : (t : Tx) → tx_in (tx_list t) ≡ t
unfolding tx_in tx_of tail_of
tx_back Off = refl
tx_back (Blocked k) = ap Blocked (character_back k)
tx_back (Mark n) = refl
tx_back (Start k n) = ap (λ (x : Character). Start x n) (character_back k)
tx_back (Data k c d) = ap₂ (λ (x : Character) (y : Option ℕ). Data x c y) (character_back k) (number_back d)
tx_back (Tail None d) = ap (Tail None) (number_back d)
tx_back (Tail (Some k) d) = ap₂ (λ (x : Character) (y : Option ℕ). Tail (Some x) y) (character_back k) (number_back d)

position_back : (z : ℤ) → mag z < 128 → position_of (position_number z) ≡ z
unfolding position_of
position_back (pos n) h =
    let e : 128 + n - 128 ≡ n = omega arith in
    ap (λ (b : Bool). cond b (pos (128 + n - 128)) (negsuc (127 - (128 + n)))) (le-leb 128 (128 + n) (omega arith)) ∙ ap pos e
position_back (negsuc n) h =
    let e : 127 - (127 - n) ≡ n = omega arith in
    ap (λ (b : Bool). cond b (pos (127 - n - 128)) (negsuc (127 - (127 - n)))) (lt-leb 128 (127 - n) (omega arith)) ∙ ap negsuc e

word_back : (r : Rx) → mag r.position < 128 → word_in (word_list r) ≡ r
unfolding word_in
word_back r h =
    λ i.
    record {
      format = format_back r.format i;
      value = r.value;
      position = position_back r.position h i;
      parity = flag_back r.parity i;
      error = r.error;
      next = number_back r.next i;
    }

rx_back : (x : Option Rx) → ReceiverTyped x → rx_in (rx_list x) ≡ x
unfolding rx_in
rx_back None h = refl
rx_back (Some r) h = ap Some (word_back r h.position<)

port_back : (p : Port) → PortTyped p → port_in (port_list p) ≡ p
unfolding port_in port_of port_list
port_back p h =
    λ i.
    record {
      spcr = p.spcr;
      smr = p.smr;
      brr = p.brr;
      scr = p.scr;
      tdr = p.tdr;
      ssr = p.ssr;
      rdr = p.rdr;
      semr = p.semr;
      ircr = p.ircr;
      seen = p.seen;
      «module» = flag_back p.«module» i;
      main = flag_back p.main i;
      sub = flag_back p.sub i;
      reset_mode = flag_back p.reset_mode i;
      half = p.half;
      high = flag_back p.high i;
      edge = flag_back p.edge i;
      holding = number_back p.holding i;
      tx = tx_back p.tx i;
      rx = rx_back p.rx h.rx i;
      uart = flag_back p.uart i;
      bit_start = p.bit_start;
      input = flag_back p.input i;
      input_clock = flag_back p.input_clock i;
      sck = flag_back p.sck i;
      sync_next = number_back p.sync_next i;
      transmitted = p.transmitted;
      received = p.received;
    }

sci_back : (s : Sci) → SciTyped s → sci_in (encode s) ≡ s
unfolding sci_in baud_in encode port_list
sci_back s h = λ i. record { port = port_back s.port h.port i; baud = s.baud }

pub round_trip : RoundTrip
unfolding decode
round_trip s h = ap (λ (b : Bool). cond b (Some (sci_in (encode s))) None) (encode_fits s h) ∙ ap Some (sci_back s h)
