-- Facts of the definitions of specs/Frame.antt alone: bits and numbers, the cells of a frame, words, and the formats that registers give.
-- Assumes nothing.
use mathlib.Core.Path.{◌≡◌, refl, sym, ap, ap₂, ◌∙◌, subst}
use mathlib.Core.Logic.{◌⊎◌, inl, inr, ⊎_elim}
use Prim.Native.Nat.{ℕ, zero, suc, ◌+◌, ◌-◌, ◌*◌, ◌/◌, ◌%◌, ◌^◌, ◌≤◌, ◌<◌}
use native.Mathlib.Omega.{arith}
use native.Mathlib.Nat.{pow-suc, mod-one, mod-mod, div-one, zero-div, mul_assoc, not-suc-le-zero}
use mathlib.Core.Bool.{Bool, true, false, cond, not, ◌&&◌, ◌||◌}
use mathlib.Core.List.{List, [], ◌∷◌, ◌++◌, append_assoc, append-nil}
use lib.Dec.{eqb, lit<}
use lib.ListN.{length, get_or, replicate, length-append, length-replicate, get_or-replicate, get_or-append}
use lib.Arith.{digits_mod}
use lib.Pow.{pow_pos, pow-add, shr-shr, mod-pow-add}
use lib.Seq.{get_or-append-add}
use lib.Count.{ones as count_ones}
use borrow.Author.Tests.{eqb-true}
use Rattle.frame.specs.declared.Format.{Format}
use Rattle.frame.specs.Frame.{has, one_if, bits, number, ones, format, stop, cells, parity_bit, parity_cell, frame, word, format_valid, data_of}
use Rattle.frame.proofs.Truth.{and_left, and_right, or_cases, every_row, by_table}
use Rattle.frame.proofs.Laws.{one_if_bit, ones_low}

-- ---- bits and numbers

pub bits_length : (d v : ℕ) → length (bits d v) ≡ d
unfolding bits
bits_length zero v = refl
bits_length (suc d) v = ap suc (bits_length d (v / 2))

-- element i of the bits is bit i
pub bits_at : (d v i : ℕ) → i < d → get_or (bits d v) i false ≡ eqb (v / 2 ^ i % 2) 1
unfolding bits
bits_at zero v i h = absurd (not-suc-le-zero h)
bits_at (suc d) v zero h = ap (λ (x : ℕ). eqb (x % 2) 1) (sym (div-one v))
bits_at (suc d) v (suc i) h =
    bits_at d (v / 2) i (omega arith) ∙ ap (λ (x : ℕ). eqb (x % 2) 1) (shr-shr v 1 i ∙ ap (λ (k : ℕ). v / 2 ^ k) (omega arith))

pub number_lt : (bs : List Bool) → number bs < 2 ^ length bs
unfolding number
number_lt [] = lit< tt
number_lt (true ∷ bs) = rw (pow-suc 2 (length bs)) (omega (arith, number_lt bs))
number_lt (false ∷ bs) = rw (pow-suc 2 (length bs)) (omega (arith, number_lt bs))

pub number_append : (bs xs : List Bool) → number (bs ++ xs) ≡ number xs * 2 ^ length bs + number bs
unfolding number
number_append [] xs = omega arith
number_append (b ∷ bs) xs = rw (number_append bs xs, pow-suc 2 (length bs)) (omega arith)

pub number_mod : (bs xs : List Bool) → number (bs ++ xs) % 2 ^ length bs ≡ number bs
number_mod bs xs = rw (number_append bs xs) (digits_mod (number xs) (number_lt bs))

pub number_ones : (n : ℕ) → number (replicate n true) ≡ 2 ^ n - 1
unfolding number
number_ones zero = refl
number_ones (suc n) = rw (number_ones n, pow-suc 2 n) (omega (arith, pow_pos n))

-- halving drops the first element
number_half : (b : Bool) (bs : List Bool) → number (b ∷ bs) / 2 ≡ number bs
unfolding number
number_half true bs = omega arith
number_half false bs = omega arith

-- bit i of the number is element i
pub number_at : (bs : List Bool) (i : ℕ) → number bs / 2 ^ i % 2 ≡ one_if (get_or bs i false)
unfolding number
number_at [] i = rw (zero-div (2 ^ i))
number_at (true ∷ bs) zero = rw (div-one (1 + number bs * 2)) (omega arith)
number_at (false ∷ bs) zero = rw (div-one (0 + number bs * 2)) (omega arith)
number_at (b ∷ bs) (suc i) =
    ap (λ (k : ℕ). number (b ∷ bs) / 2 ^ k % 2) (omega arith) ∙ ap (λ (x : ℕ). x % 2) (sym (shr-shr (number (b ∷ bs)) 1 i))
    ∙ ap (λ (x : ℕ). x / 2 ^ i % 2) (number_half b bs) ∙ number_at bs i

pub number_bits : (d v : ℕ) → number (bits d v) ≡ v % 2 ^ d
unfolding bits number
number_bits zero v = sym (mod-one v)
number_bits (suc d) v =
    let e : v % 2 ^ (d + 1) ≡ (v / 2 % 2 ^ d) * 2 + v % 2 = mod-pow-add v d 1 in
    let s : suc d ≡ d + 1 = omega arith in
    rw (one_if_bit v, number_bits d (v / 2), s, e) (omega arith)

pub bits_number : (bs xs : List Bool) → bits (length bs) (number (bs ++ xs)) ≡ bs
unfolding bits number
bits_number [] xs = refl
bits_number (true ∷ bs) xs =
    let e : (1 + number (bs ++ xs) * 2) % 2 ≡ 1 = omega arith in
    let g : (1 + number (bs ++ xs) * 2) / 2 ≡ number (bs ++ xs) = omega arith in
    rw (e, g, bits_number bs xs)
bits_number (false ∷ bs) xs =
    let e : (0 + number (bs ++ xs) * 2) % 2 ≡ 0 = omega arith in
    let g : (0 + number (bs ++ xs) * 2) / 2 ≡ number (bs ++ xs) = omega arith in
    rw (e, g, bits_number bs xs)

pub bits_again : (d v : ℕ) → bits d (number (bits d v)) ≡ bits d v
bits_again d v =
    ap₂ bits (sym (bits_length d v)) (ap number (sym (append-nil (bits d v)))) ∙ bits_number (bits d v) []

-- the ones among a value's data bits are those of its number
pub ones_bits : (d v : ℕ) → ones (bits d v) ≡ count_ones (v % 2 ^ d)
unfolding bits ones count_ones
ones_bits zero v = rw (mod-one v)
ones_bits (suc d) v = rw (one_if_bit v, ones_bits d (v / 2)) (sym (ones_low d v))

-- ---- the cells of a frame

pub parity_length : (f : Format) (bs : List Bool) → length (parity_cell f bs) ≡ one_if f.parity
unfolding parity_cell
parity_length f bs = go f.parity
  where
    go : (p : Bool) → length (cond p (eqb (parity_bit f bs) 1 ∷ []) []) ≡ one_if p
    go true = refl
    go false = refl

-- as a number it is the parity bit, 0 where the format has none
pub parity_number : (f : Format) (bs : List Bool) → number (parity_cell f bs) ≡ one_if f.parity * parity_bit f bs
unfolding parity_cell number
parity_number f bs = go f.parity
  where
    go : (p : Bool) → number (cond p (eqb (parity_bit f bs) 1 ∷ []) []) ≡ one_if p * parity_bit f bs
    go true = rw (one_if_bit (ones bs + one_if f.odd)) (omega arith)
    go false = omega arith

pub front_length : (f : Format) (bs : List Bool) → length bs ≡ f.«data» → length (false ∷ (bs ++ parity_cell f bs)) ≡ stop f
front_length f bs e = rw (length-append, parity_length f bs, e)

-- a frame with the data bits bs
module _ (f : Format) (bs : List Bool) (full : length bs ≡ f.«data») where
  pub cells_length : length (frame f bs) ≡ cells f
  unfolding frame
  cells_length = rw (length-append, length-replicate, front_length f bs full)

  pub start_cell : get_or (frame f bs) 0 false ≡ false
  unfolding frame
  start_cell = refl

  pub data_cell : (j : ℕ) → j < f.«data» → get_or (frame f bs) (suc j) false ≡ get_or bs j false
  unfolding frame
  data_cell j h =
      rw (append_assoc bs (parity_cell f bs) (replicate f.stops true))
      (get_or-append bs (parity_cell f bs ++ replicate f.stops true) false j (omega (arith, full)))

  pub parity_at : f.parity ≡ true → get_or (frame f bs) (suc f.«data») false ≡ eqb (parity_bit f bs) 1
  unfolding frame parity_cell
  parity_at p =
      let e : f.«data» ≡ length bs + 0 = omega (arith, full) in
      let cell : List Bool = eqb (parity_bit f bs) 1 ∷ [] in
      let ends : List Bool = replicate f.stops true in
      rw (p, append_assoc bs cell ends, e, get_or-append-add bs (cell ++ ends) 0 false)

  -- stop cell i
  pub stop_at : (i : ℕ) → i < f.stops → get_or (frame f bs) (stop f + i) false ≡ true
  unfolding frame
  stop_at i h =
      let e : stop f + i ≡ length (false ∷ (bs ++ parity_cell f bs)) + i = omega (arith, front_length f bs full) in
      rw (e, get_or-append-add (false ∷ (bs ++ parity_cell f bs)) (replicate f.stops true) i false) (get_or-replicate f.stops i true false h)

  pub stop_cell : 0 < f.stops → get_or (frame f bs) (stop f) false ≡ true
  stop_cell h = subst (λ (k : ℕ). get_or (frame f bs) k false ≡ true) (omega arith) (stop_at 0 h)

-- ---- words

pub word_plain : (f : Format) (v : ℕ) → f.synchronous ≡ false → word f v ≡ number (frame f (bits f.«data» v))
unfolding word
word_plain f v c = ap (λ (b : Bool). cond b (v % 256) (number (frame f (bits f.«data» v)))) c

pub word_clocked : (f : Format) (v : ℕ) → f.synchronous ≡ true → word f v ≡ v % 256
unfolding word
word_clocked f v c = ap (λ (b : Bool). cond b (v % 256) (number (frame f (bits f.«data» v)))) c

-- the bits of a start-stop word are its cells
pub word_bits : (f : Format) (v : ℕ) → f.synchronous ≡ false → bits (cells f) (word f v) ≡ frame f (bits f.«data» v)
word_bits f v c =
    let cs : List Bool = frame f (bits f.«data» v) in
    ap₂ bits (sym (cells_length f (bits f.«data» v) (bits_length f.«data» v))) (word_plain f v c ∙ ap number (sym (append-nil cs))) ∙ bits_number cs []

-- its data bits are the value's
pub word_data : (f : Format) (v : ℕ) → f.synchronous ≡ false → word f v / 2 % 2 ^ f.«data» ≡ number (bits f.«data» v)
unfolding frame
word_data f v c =
    let bs : List Bool = bits f.«data» v in
    let ends : List Bool = replicate f.stops true in
    let rest : List Bool = parity_cell f bs ++ ends in
    ap (λ (x : ℕ). x / 2 % 2 ^ f.«data») (word_plain f v c)
    ∙ ap (λ (x : ℕ). x % 2 ^ f.«data») (number_half false ((bs ++ parity_cell f bs) ++ ends) ∙ ap number (append_assoc bs (parity_cell f bs) ends))
    ∙ ap (λ (n : ℕ). number (bs ++ rest) % 2 ^ n) (sym (bits_length f.«data» v)) ∙ number_mod bs rest

-- a word is the one of the value in it
pub word_again : (f : Format) (v : ℕ) → word f (data_of f (word f v)) ≡ word f v
word_again f v = go f.synchronous refl
  where
    go : (b : Bool) → f.synchronous ≡ b → word f (data_of f (word f v)) ≡ word f v
    go true e =
        ap (λ (b : Bool). word f (cond b (word f v) (word f v / 2 % 2 ^ f.«data»))) e ∙ word_clocked f (word f v) e
        ∙ ap (λ (x : ℕ). x % 256) (word_clocked f v e) ∙ mod-mod v 256 ∙ sym (word_clocked f v e)
    go false e =
        ap (λ (b : Bool). word f (cond b (word f v) (word f v / 2 % 2 ^ f.«data»))) e ∙ word_plain f (word f v / 2 % 2 ^ f.«data») e
        ∙ ap (λ (x : ℕ). number (frame f (bits f.«data» x))) (word_data f v e)
        ∙ ap (λ (bs : List Bool). number (frame f bs)) (bits_again f.«data» v) ∙ sym (word_plain f v e)

-- a value's parity cell as a number, 0 where the format has none
abbrev pub parity_cell_of : Format → ℕ → ℕ
parity_cell_of f v = one_if f.parity * parity_bit f (bits f.«data» v)

-- a start-stop word as a sum: its stop cells, its parity cell, its data cells
pub word_sum : (f : Format) (v : ℕ) → f.synchronous ≡ false
    → word f v ≡ (2 ^ f.stops - 1) * 2 ^ stop f + (parity_cell_of f v * 2 ^ (f.«data» + 1) + v % 2 ^ f.«data» * 2)
unfolding frame number
word_sum f v c =
    let bs : List Bool = bits f.«data» v in
    let up : 2 ^ (f.«data» + 1) ≡ 2 ^ f.«data» * 2 = pow-add 2 f.«data» 1 in
    word_plain f v c
    ∙ number_append (false ∷ (bs ++ parity_cell f bs)) (replicate f.stops true)
    ∙ rw (number_ones f.stops, front_length f bs (bits_length f.«data» v), number_append bs (parity_cell f bs), parity_number f bs)
    (rw (bits_length f.«data» v, number_bits f.«data» v, up) (omega (arith, mul_assoc (parity_cell_of f v) (2 ^ f.«data») 2)))

-- ---- formats

-- two formats are equal where their fields are
pub same_format : (a a' : Bool) (b b' : ℕ) (c c' : Bool) (d d' : Bool) (e e' : ℕ) (f f' : ℕ) → a ≡ a' → b ≡ b' → c ≡ c' → d ≡ d' → e ≡ e' → f ≡ f'
    → ◌≡◌ {A = Format} (record { synchronous = a; «data» = b; parity = c; odd = d; stops = e; half_bit = f })
    (record { synchronous = a'; «data» = b'; parity = c'; odd = d'; stops = e'; half_bit = f' })
same_format a a' b b' c c' d d' e e' f f' p q r s t u =
    λ i. record { synchronous = p i; «data» = q i; parity = r i; odd = s i; stops = t i; half_bit = u i }

one_of_two : (x a b : ℕ) → (eqb x a || eqb x b) ≡ true → (x ≡ a) ⊎ (x ≡ b)
one_of_two x a b e = ⊎_elim (λ h. inl (eqb-true x a h)) (λ h. inr (eqb-true x b h)) (or_cases (eqb x a) (eqb x b) e)

-- the parts of the test of a format
pub record Parts (f : Format) : Type 0 where
  pub width : (f.«data» ≡ 5) ⊎ ((f.«data» ≡ 7) ⊎ (f.«data» ≡ 8))
  pub ends : (f.stops ≡ 1) ⊎ (f.stops ≡ 2)
  pub cell : (f.half_bit ≡ 16) ⊎ (f.half_bit ≡ 32)

pub parts : (f : Format) → format_valid f ≡ true → Parts f
unfolding format_valid
parts f e =
    record {
      width = go (or_cases (eqb d 5 || eqb d 7) (eqb d 8) (and_left ds ss e2));
      ends = one_of_two f.stops 1 2 (and_right ds ss e2);
      cell = one_of_two f.half_bit 16 32 (and_right (ds && ss) hs e1);
    }
  where
    d : ℕ
    d = f.«data»

    ds : Bool
    ds = eqb d 5 || eqb d 7 || eqb d 8

    ss : Bool
    ss = eqb f.stops 1 || eqb f.stops 2

    hs : Bool
    hs = eqb f.half_bit 16 || eqb f.half_bit 32

    e1 : (ds && ss && hs) ≡ true
    e1 = and_left (ds && ss && hs) (not f.synchronous || eqb d 8 && not f.parity) e

    e2 : (ds && ss) ≡ true
    e2 = and_left (ds && ss) hs e1

    go : (((eqb d 5 || eqb d 7) ≡ true) ⊎ (eqb d 8 ≡ true)) → (d ≡ 5) ⊎ ((d ≡ 7) ⊎ (d ≡ 8))
    go (inl h) = ⊎_elim (λ a. inl a) (λ a. inr (inl a)) (one_of_two d 5 7 h)
    go (inr h) = inr (inr (eqb-true d 8 h))

-- the bounds of a valid format
pub record Shape (f : Format) : Type 0 where
  pub long : 16 ≤ f.half_bit
  pub short : f.half_bit ≤ 32
  pub one : 1 ≤ f.stops
  pub two : f.stops ≤ 2
  pub wide : f.«data» ≤ 8
  pub narrow : 5 ≤ f.«data»

pub shape : (f : Format) → format_valid f ≡ true → Shape f
shape f e =
    let p : Parts f = parts f e in
    let d : (5 ≤ f.«data») × (f.«data» ≤ 8) = ⊎_elim (λ h. omega arith) (λ r. ⊎_elim (λ h. omega arith) (λ h. omega arith) r) p.width in
    let s : (1 ≤ f.stops) × (f.stops ≤ 2) = ⊎_elim (λ h. omega arith) (λ h. omega arith) p.ends in
    let l : (16 ≤ f.half_bit) × (f.half_bit ≤ 32) = ⊎_elim (λ h. omega arith) (λ h. omega arith) p.cell in
    record { long = l.0; short = l.1; one = s.0; two = s.1; wide = d.1; narrow = d.0 }

-- every format that registers give is valid: a table over the six flags that the test depends on
pub format_good : (smr semr : ℕ) → format_valid (format smr semr) ≡ true
unfolding format format_valid every_row
format_good smr semr =
    by_table 6
    (λ a b c d s l. format_valid
    (record { synchronous = a; «data» = cond a 8 (cond b 5 (cond c 7 8)); parity = not a && d && (not b || c); odd = false; stops = cond s 2 1; half_bit = cond l 16 32 }))
    refl (has smr 0x80) (has smr 4) (has smr 0x40) (has smr 0x20) (has smr 8) (has semr 8)

pub good_format : (f : Format) (smr semr : ℕ) → f ≡ format smr semr → format_valid f ≡ true
good_format f smr semr e = ap format_valid e ∙ format_good smr semr
