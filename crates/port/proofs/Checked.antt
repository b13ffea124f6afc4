-- What the field test says of a port: it is ready for every step. And what test 4 of kind 5 says: a clock edge that counts finds room in the half count.
-- Assumes nothing.
use Rattle.std.specs.Prelude.{Option, None, Some}
use Rattle.std.proofs.Common.{◌≡◌, ℕ, ◌+◌, ◌<◌, ◌≤◌, Bool, true, false, cond, ◌&&◌, ◌||◌, eqb, ltb, leb, sym, refl, ap, ◌∙◌, arith, ltb-true, leb-true}
use mathlib.Core.Path.{subst⁻¹}
use mathlib.Core.Bool.{false≢true}
use Rattle.frame.specs.declared.Format.{Format}
use Rattle.frame.specs.Frame.{differ, stop, format_valid, word_valid}
use Rattle.frame.proofs.Truth.{and_left, and_right}
use Rattle.port.specs.declared.Port.{Port}
use Rattle.shift.specs.declared.Character.{Character}
use Rattle.shift.specs.declared.Rx.{Rx}
use Rattle.shift.specs.declared.Tx.{Tx}
use Rattle.shift.specs.declared.Tx.TheVariants.{Off, Blocked, Mark, Start, Data, Tail}
use Rattle.port.specs.Fields.{with_input, with_input_clock}
use Rattle.port.specs.Baud.{edge_counts}
use Rattle.port.specs.Receiver.{arms, arm_receive_on, arm_receive}
use Rattle.port.specs.Input.{receive_input}
use Rattle.shift.specs.Valid.{due_at, due_either, due_by, character_valid, loaded_valid, cell_valid, tx_valid, position_valid, word_in_place, rx_valid}
use Rattle.port.specs.Valid.{limit, registers_valid, valid}
use Rattle.shift.specs.Private.Ready.{Bounded, Plain, Placed, PlacedIn, LoadedBounded, Below, Sendable}
use Rattle.port.specs.Private.Ready.{Ready}
use Rattle.port.proofs.Steps.{valid_bounded}
use Rattle.branches.proofs.Branches.{both_arms}

-- ---- a due half only with a start-stop word
valid_plain : (d : Option ℕ) (s : Bool) (half : ℕ) → due_by d s half ≡ true → Plain d s
valid_plain None s half e = tt
valid_plain (Some n) true half e = absurd (false≢true e)
valid_plain (Some n) false half e = refl

valid_below : (d : Option ℕ) (f : Format) (cell half : ℕ) → cell_valid f cell ≡ true → due_by d f.synchronous half ≡ true → Below d f cell
valid_below None f cell half c e =
    let low : cell < 8 = ltb-true cell 8 (ap (λ (b : Bool). ltb cell (cond b 8 (stop f))) (sym e) ∙ c) in
    omega arith
valid_below (Some n) f cell half c e =
    let plain : f.synchronous ≡ false = valid_plain (Some n) f.synchronous half e in
    ltb-true cell (stop f) (ap (λ (b : Bool). ltb cell (cond b 8 (stop f))) (sym plain) ∙ c)

-- ---- the parts of the field test
valid_character : (k : Character) → character_valid k ≡ true → Bounded k.format
unfolding character_valid
valid_character k e = valid_bounded k.format (and_left (format_valid k.format) (word_valid k.format k.word) e)

valid_loaded : (l : Option Character) → loaded_valid l ≡ true → LoadedBounded l
valid_loaded None e = tt
valid_loaded (Some k) e = valid_character k e

pub valid_sendable : (t : Tx) (half : ℕ) → tx_valid t half ≡ true → Sendable t
valid_sendable Off half e = tt
valid_sendable (Blocked k) half e = valid_character k e
valid_sendable (Mark next) half e = tt
valid_sendable (Start k next) half e = valid_character k (and_left (character_valid k) (due_at half next) e)
valid_sendable (Data k cell next) half e =
    let c : Bool = cell_valid k.format cell in
    let d : Bool = due_by next k.format.synchronous half in
    let cd : (c && d) ≡ true = and_right (character_valid k) (c && d) e in
    (valid_character k (and_left (character_valid k) (c && d) e), valid_below next k.format cell half (and_left c d cd) (and_right c d cd))
valid_sendable (Tail l next) half e = valid_loaded l (and_left (loaded_valid l) (due_either next half) e)

valid_placed : (r : Rx) (half : ℕ) → word_in_place r half ≡ true → Placed r
unfolding word_in_place
valid_placed r half e =
    let f : Bool = format_valid r.format in
    let z : Bool = position_valid r.position r.format in
    let x : Bool = eqb r.error 0 || eqb r.error 8 in
    let d : Bool = due_by r.next r.format.synchronous half in
    let zxd : (z && (x && d)) ≡ true = and_right f (z && (x && d)) e in
    record {
      bounded = valid_bounded r.format (and_left f (z && (x && d)) e);
      place = and_left z (x && d) zxd;
      plain = valid_plain r.next r.format.synchronous half (and_right x d (and_right z (x && d) zxd));
    }

pub valid_in : (x : Option Rx) (half : ℕ) → rx_valid x half ≡ true → PlacedIn x
valid_in None half e = tt
valid_in (Some r) half e = valid_placed r half e

pub valid_ready : (p : Port) → valid p ≡ true → Ready p.half p
unfolding valid
valid_ready p e =
    let a : Bool = leb p.half limit in
    let b : Bool = registers_valid p in
    let c : Bool = tx_valid p.tx p.half in
    let d : Bool = rx_valid p.rx p.half in
    let f : Bool = leb p.bit_start p.half && due_either p.sync_next p.half in
    let cdf : (c && (d && f)) ≡ true = and_right b (c && (d && f)) (and_right a (b && (c && (d && f))) e) in
    record {
      half≡ = refl;
      half≤ = leb-true p.half limit (and_left a (b && (c && (d && f))) e);
      placed = valid_in p.rx p.half (and_left d f (and_right c (d && f) cdf));
      sendable = valid_sendable p.tx p.half (and_left c (d && f) cdf);
    }

-- ---- kind 5
-- the new line and the new clock level are no part of whether an edge counts
pub edge_counts_kept : (clock line : Bool) (p : Port) → edge_counts clock (with_input_clock (receive_input line p) clock) ≡ edge_counts clock p
unfolding receive_input arm_receive
edge_counts_kept clock line p = both_arms Same (differ line p.input) _ _ (go p.rx) refl where
  Same : Port → Type 0
  Same q = edge_counts clock (with_input_clock q clock) ≡ edge_counts clock p

  go : (x : Option Rx) → Same (arm_receive_on x (with_input p line))
  go None = both_arms Same (arms (with_input p line)) _ _ refl refl
  go (Some x) = refl

-- nor do they move the half count
pub receive_input_half : (line : Bool) (p : Port) → (receive_input line p).half ≡ p.half
unfolding receive_input arm_receive
receive_input_half line p = both_arms Same (differ line p.input) _ _ (go p.rx) refl where
  Same : Port → Type 0
  Same q = q.half ≡ p.half

  go : (x : Option Rx) → Same (arm_receive_on x (with_input p line))
  go None = both_arms Same (arms (with_input p line)) _ _ refl refl
  go (Some x) = refl

-- the same of a call's result, and of a test that another call made of it
pub pins_room : (r p : Port) (line clock f : Bool) → r ≡ receive_input line p → (edge_counts clock p ≡ true → p.half < limit)
    → f ≡ edge_counts clock (with_input_clock r clock) → f ≡ true → r.half + 1 ≤ limit
pins_room r p line clock f e h ef t =
    let counts : edge_counts clock p ≡ true = sym (edge_counts_kept clock line p) ∙ ap (λ (x : Port). edge_counts clock (with_input_clock x clock)) (sym e) ∙ sym ef ∙ t in
    let below : r.half < limit = subst⁻¹ (λ (m : ℕ). m < limit) (ap (λ (x : Port). x.half) e ∙ receive_input_half line p) (h counts) in
    omega (arith, below)
