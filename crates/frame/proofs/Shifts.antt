-- What the code's shifts, masks and calls give, in the words of specs/Frame.antt.
-- Assumes nothing.
use mathlib.Core.Path.{◌≡◌, sym, ap, ap₂, ◌∙◌}
use Prim.Native.Nat.{ℕ, ◌+◌, ◌-◌, ◌*◌, ◌/◌, ◌%◌, ◌^◌, ◌≤◌, ◌<◌}
use native.Mathlib.Omega.{arith}
use native.Mathlib.Nat.{mod-lt, lt_of_lt_of_le}
use mathlib.Core.Bool.{Bool, true, false, cond}
use lib.Arith.{digits_lt}
use lib.Pow.{pow_pos, pow_mono, pow-add, ones_lt, shl_exact, shl_lt}
use lib.Bits.{bit_and, bit_or, and_mask}
use lib.Count.{ones as count_ones}
use Rattle.frame.specs.declared.Format.{Format}
use Rattle.frame.specs.Frame.{one_if, bits, ones, stop, word, format_valid, data_of}
use Rattle.frame.proofs.Truth.{by_flag}
use Rattle.frame.proofs.Laws.{stacked}
use Rattle.frame.proofs.Words.{ones_bits, parity_cell_of, word_sum, word_clocked, Shape, shape}

-- the bounds that the code's shifts need
pub data_fits : (f : Format) → format_valid f ≡ true → f.«data» ≤ 8
data_fits f ok = (shape f ok).wide

pub stops_fit : (f : Format) → format_valid f ≡ true → f.stops ≤ 2
stops_fit f ok = (shape f ok).two

-- the shifts and masks of the code make the sum, with the numbers that its calls give
module _ (f : Format) (v M S s p o : ℕ) (ok : format_valid f ≡ true) (plain : f.synchronous ≡ false)
    (eM : M ≡ 2 ^ f.«data» - 1) (eS : S ≡ 2 ^ f.stops - 1) (es : s ≡ stop f) (ep : p ≡ one_if f.parity) (eo : o ≡ one_if f.odd) where
  masked : bit_and v M ≡ v % 2 ^ f.«data»
  masked = ap (bit_and v) eM ∙ and_mask v f.«data»

  made_cell : p * ((count_ones (bit_and v M) + o) % 2) ≡ parity_cell_of f v
  made_cell = rw (ep, eo, masked, ones_bits f.«data» v)

  -- the parity cell takes room only where the format has it
  cell_room : (b : Bool) (n : ℕ) → one_if b * (n % 2) < 2 ^ one_if b
  cell_room true n = omega arith
  cell_room false n = omega arith

  pub word_made : bit_or (bit_or ((bit_and v M * 2) % 65536) ((p * ((count_ones (bit_and v M) + o) % 2) * 2 ^ (f.«data» + 1)) % 65536)) ((S * 2 ^ s) % 65536) ≡ word f v
  word_made =
      let sh : Shape f = shape f ok in
      let x : ℕ = v % 2 ^ f.«data» in
      let q : ℕ = parity_cell_of f v in
      let x< : x < 2 ^ f.«data» = mod-lt v (pow_pos f.«data») in
      let x2< : x * 2 < 2 ^ (f.«data» + 1) = shl_lt f.«data» 1 x< in
      let q< : q < 2 ^ one_if f.parity = cell_room f.parity (ones (bits f.«data» v) + one_if f.odd) in
      let k≤1 : one_if f.parity ≤ 1 = by_flag (λ (b : Bool). one_if b ≤ 1) (omega arith) (omega arith) f.parity in
      let e : stop f ≡ one_if f.parity + (f.«data» + 1) = omega arith in
      let y< : q * 2 ^ (f.«data» + 1) + x * 2 < 2 ^ stop f = rw (e, pow-add 2 (one_if f.parity) (f.«data» + 1)) (digits_lt q< x2<) in
      let S< : 2 ^ f.stops - 1 < 2 ^ 2 = lt_of_lt_of_le (ones_lt f.stops) (pow_mono sh.two) in
      ap₂ (λ (a b : ℕ). bit_or (bit_or ((a * 2) % 65536) ((b * 2 ^ (f.«data» + 1)) % 65536)) ((S * 2 ^ s) % 65536)) masked made_cell
      ∙ ap (λ (a : ℕ). bit_or (bit_or a ((q * 2 ^ (f.«data» + 1)) % 65536)) ((S * 2 ^ s) % 65536)) (shl_exact f.«data» 1 16 x< (omega (arith, sh.wide)))
      ∙ ap (λ (a : ℕ). bit_or a ((S * 2 ^ s) % 65536)) (stacked (one_if f.parity) (f.«data» + 1) q (x * 2) q< x2< (omega (arith, sh.wide)))
      ∙ ap₂ (λ (a b : ℕ). bit_or (q * 2 ^ (f.«data» + 1) + x * 2) ((a * 2 ^ b) % 65536)) eS es
      ∙ stacked 2 (stop f) (2 ^ f.stops - 1) (q * 2 ^ (f.«data» + 1) + x * 2) S< y< (omega (arith, sh.wide))
      ∙ sym (word_sum f v plain)

-- the code's clocked word, its value in a word, and its test of a word
pub clocked_made : (f : Format) (v : ℕ) → f.synchronous ≡ true → bit_and v 255 ≡ word f v
clocked_made f v c = and_mask v 8 ∙ sym (word_clocked f v c)

pub data_made : (f : Format) (w M : ℕ) → f.synchronous ≡ false → M ≡ 2 ^ f.«data» - 1 → bit_and (w / 2) M ≡ data_of f w
data_made f w M c e = ap (bit_and (w / 2)) e ∙ and_mask (w / 2) f.«data» ∙ sym (ap (λ (b : Bool). cond b w (w / 2 % 2 ^ f.«data»)) c)
