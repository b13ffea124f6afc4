-- The claims of specs/Cells.antt and specs/Valid.antt, proved.
-- Assumes nothing.
use mathlib.Core.Path.{◌≡◌, refl, sym, ap, ◌∙◌, subst, subst⁻¹}
use mathlib.Core.Logic.{⊎_elim}
use Prim.Native.Nat.{ℕ, suc, ◌+◌, ◌*◌, ◌/◌, ◌%◌, ◌^◌, ◌<◌}
use native.Mathlib.Nat.{mod-lt, lt_of_lt_of_le}
use mathlib.Core.Bool.{Bool, true, false, cond, not, ◌&&◌, ◌||◌, beq}
use mathlib.Core.List.{List}
use lib.Count.{ones as count_ones}
use lib.Dec.{eqb, ltb, lit<}
use lib.ListN.{length}
use lib.Pow.{pow_pos, pow_mono}
use borrow.Author.Tests.{eqb-true, eq-eqb, ltb-true}
use Rattle.frame.specs.declared.Format.{Format}
use Rattle.frame.specs.Frame.{bits, frame, format, word, stop, one_if, parity_bit, format_valid, data_of, word_valid}
use Rattle.frame.specs.Cells.{start_stop, bit, parity_of, level, Levels, Word, FrameFacts}
use Rattle.frame.specs.Valid.{ValidFormats, ValidWords}
use Rattle.frame.proofs.Truth.{and_left, and_right, beq_true, by_flag, Test, Always, every_row, by_table}
use Rattle.frame.proofs.Laws.{one_if_bit}
use Rattle.frame.proofs.Words.{bits_length, bits_at, number_lt, number_at, number_bits, ones_bits, cells_length, data_cell, parity_at, stop_at, word_plain, word_clocked, word_data, word_again, same_format, Parts, parts, shape, format_good}

-- ---- the cells of a frame

module _ (f : Format) (v : ℕ) where
  levels : Levels f v
  unfolding frame
  levels =
      record {
        start = refl;
        low_first = λ i h. data_cell f bs full i h ∙ bits_at f.«data» v i h;
        parity = λ p. parity_at f bs full p ∙ counted;
        stops = stop_at f bs full;
        no_more = cells_length f bs full;
      }
    where
      bs : List Bool
      bs = bits f.«data» v

      full : length bs ≡ f.«data»
      full = bits_length f.«data» v

      counted : eqb (parity_bit f bs) 1 ≡ eqb (parity_of f.«data» f.odd v) 1
      counted = ap (λ (n : ℕ). eqb ((n + one_if f.odd) % 2) 1) (ones_bits f.«data» v)

  -- each bit of the word is the level of its cell
  word_is : f.synchronous ≡ false → Word f v
  unfolding frame
  word_is c =
      record {
        start = cell 0;
        low_first = λ i h. cell (suc i) ∙ ap one_if (levels.low_first i h) ∙ one_if_bit (v / 2 ^ i);
        parity = λ p. cell (suc f.«data») ∙ ap one_if (levels.parity p) ∙ one_if_bit (count_ones (v % 2 ^ f.«data») + one_if f.odd);
        stops = λ i h. cell (stop f + i) ∙ ap one_if (levels.stops i h);
        no_more = rw (word_plain f v c, ← levels.no_more) (number_lt (frame f (bits f.«data» v)));
        reads_back = word_data f v c ∙ number_bits f.«data» v;
      }
    where
      cell : (i : ℕ) → bit (word f v) i ≡ one_if (level f v i)
      cell i = ap (λ (w : ℕ). bit w i) (word_plain f v c) ∙ number_at (frame f (bits f.«data» v)) i

pub frame_facts : FrameFacts
frame_facts d parity odd stops half v =
    (levels (start_stop d parity odd stops half) v, word_is (start_stop d parity odd stops half) v refl)

-- ---- the formats that registers give

-- the format with these flags, and an SMR and an SEMR for them
abbrev formed : Bool → Bool → Bool → Bool → Bool → Bool → Bool → Format
formed clocked five seven parity odd two quick =
    record { synchronous = clocked; «data» = cond five 5 (cond seven 7 8); parity = parity; odd = odd; stops = cond two 2 1; half_bit = cond quick 16 32 }

abbrev smr_of : Bool → Bool → Bool → Bool → Bool → Bool → ℕ
smr_of clocked five seven parity odd two =
    one_if clocked * 0x80 + cond five 0x44 (cond seven 0x40 0) + one_if parity * 0x20 + one_if odd * 0x10 + one_if two * 8

abbrev semr_of : Bool → ℕ
semr_of quick = one_if quick * 8

-- two formats have the same fields
same : Format → Format → Bool
same f g =
    beq f.synchronous g.synchronous && (eqb f.«data» g.«data» && (beq f.parity g.parity
    && (beq f.odd g.odd && (eqb f.stops g.stops && eqb f.half_bit g.half_bit))))

same_true : (f g : Format) → same f g ≡ true → f ≡ g
unfolding same
same_true f g e =
    let e1 = and_right (beq f.synchronous g.synchronous) _ e in
    let e2 = and_right (eqb f.«data» g.«data») _ e1 in
    let e3 = and_right (beq f.parity g.parity) _ e2 in
    let e4 = and_right (beq f.odd g.odd) _ e3 in
    same_format f.synchronous g.synchronous f.«data» g.«data» f.parity g.parity f.odd g.odd
    f.stops g.stops f.half_bit g.half_bit
    (beq_true _ _ (and_left (beq f.synchronous g.synchronous) _ e))
    (eqb-true _ _ (and_left (eqb f.«data» g.«data») _ e1))
    (beq_true _ _ (and_left (beq f.parity g.parity) _ e2))
    (beq_true _ _ (and_left (beq f.odd g.odd) _ e3))
    (eqb-true _ _ (and_left (eqb f.stops g.stops) _ e4))
    (eqb-true _ _ (and_right (eqb f.stops g.stops) _ e4))

-- the format with the flags of f
abbrev flagged : Format → Format
flagged f =
    formed f.synchronous (eqb f.«data» 5) (eqb f.«data» 7) f.parity f.odd (eqb f.stops 2) (eqb f.half_bit 16)

-- what the flags of a number say it is
abbrev wide : ℕ → ℕ
wide n = cond (eqb n 5) 5 (cond (eqb n 7) 7 8)

abbrev ends : ℕ → ℕ
ends n = cond (eqb n 2) 2 1

abbrev long : ℕ → ℕ
long n = cond (eqb n 16) 16 32

-- a valid format is that one: each of its numbers is what its flags say
is_flagged : (f : Format) → Parts f → f ≡ flagged f
is_flagged f p =
    same_format f.synchronous f.synchronous f.«data» (wide f.«data») f.parity f.parity f.odd f.odd
    f.stops (ends f.stops) f.half_bit (long f.half_bit) refl
    (⊎_elim (at wide 5 refl) (λ r. ⊎_elim (at wide 7 refl) (at wide 8 refl) r) p.width) refl refl
    (⊎_elim (at ends 1 refl) (at ends 2 refl) p.ends) (⊎_elim (at long 16 refl) (at long 32 refl) p.cell)
  where
    at : (g : ℕ → ℕ) (n : ℕ) → n ≡ g n → {m : ℕ} → m ≡ n → m ≡ g m
    at g n e h = subst⁻¹ (λ (d : ℕ). d ≡ g d) h e

-- the registers of the flags are bytes, and give the format of the flags if it is valid: a table over the flags
abbrev right : Test 7
right a b c d e t q =
    not (format_valid (formed a b c d e t q))
    || (ltb (smr_of a b c d e t) 256 && same (format (smr_of a b c d e t) (semr_of q)) (formed a b c d e t q))

all_right : Always 7 right
unfolding format format_valid same every_row
all_right = by_table 7 right refl

pub valid_formats : ValidFormats
valid_formats = record { given = format_good; found = found }
  where
    implied : (a b : Bool) → (not a || b) ≡ true → a ≡ true → b ≡ true
    implied a b e h = subst (λ (x : Bool). (not x || b) ≡ true) h e

    found : (f : Format) → format_valid f ≡ true → (smr : ℕ) × (semr : ℕ) × (smr < 256) × (semr < 256) × (format smr semr ≡ f)
    found f ok =
        let b = eqb f.«data» 5 in
        let c = eqb f.«data» 7 in
        let t = eqb f.stops 2 in
        let q = eqb f.half_bit 16 in
        let m : ℕ = smr_of f.synchronous b c f.parity f.odd t in
        let e : f ≡ flagged f = is_flagged f (parts f ok) in
        let r : (ltb m 256 && same (format m (semr_of q)) (flagged f)) ≡ true
        = implied (format_valid (flagged f)) _ (all_right f.synchronous b c f.parity f.odd t q) (sym (ap format_valid e) ∙ ok) in (
          m,
          semr_of q,
          ltb-true m 256 (and_left (ltb m 256) _ r),
          by_flag (λ (x : Bool). semr_of x < 256) (lit< tt) (lit< tt) q,
          same_true (format m (semr_of q)) (flagged f) (and_right (ltb m 256) _ r) ∙ sym e,
        )

-- ---- the words that values give

-- the value in a valid word is a byte
value_lt : (f : Format) (w : ℕ) → format_valid f ≡ true → word_valid f w ≡ true → data_of f w < 256
unfolding word_valid
value_lt f w ok e = go f.synchronous refl
  where
    again : word f (data_of f w) ≡ w
    again = eqb-true (word f (data_of f w)) w e

    go : (b : Bool) → f.synchronous ≡ b → data_of f w < 256
    go true c =
        let is : data_of f w ≡ w = ap (λ (b : Bool). cond b w (w / 2 % 2 ^ f.«data»)) c in
        let low : data_of f w % 256 ≡ data_of f w = sym (word_clocked f (data_of f w) c) ∙ again ∙ sym is in
        subst (λ (x : ℕ). x < 256) low (mod-lt (data_of f w) (lit< tt))
    go false c =
        subst⁻¹ (λ (b : Bool). cond b w (w / 2 % 2 ^ f.«data») < 256) c
        (lt_of_lt_of_le (mod-lt (w / 2) (pow_pos f.«data»)) (pow_mono {j = 8} (shape f ok).wide))

pub valid_words : ValidWords
unfolding word_valid
valid_words =
    record {
      given = λ f v. eq-eqb (word f (data_of f (word f v))) (word f v) (word_again f v);
      found = λ f w ok e. (data_of f w, value_lt f w ok e, eqb-true (word f (data_of f w)) w e);
    }
