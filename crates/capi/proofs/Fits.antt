-- What a list that fits its places' greatest numbers gives: how long it is, how large each number is, and that each part of it fits in turn.
-- Assumes nothing.
use Rattle.std.specs.Prelude.{Option, None, Some, unwrap_or}
use Rattle.std.specs.List.{list_all, zip}
use mathlib.Core.Path.{◌≡◌, refl, sym, ap, ap₂, ◌∙◌, subst}
use mathlib.Core.Bool.{Bool, true, false, cond, ◌&&◌, false≢true}
use mathlib.Core.List.{List, [], ◌∷◌}
use Prim.Native.Nat.{ℕ, zero, suc, ◌<◌, ◌≤◌, zero-le}
use native.Mathlib.Omega.{arith}
use lib.Dec.{eqb, leb, ltb}
use lib.ListN.{length, take, drop, get_or}
use mir.Syntax.{w8, w16, w32}
use mir.Val.{Fits}
use borrow.Author.Tests.{ne_eqb, leb-true, ltb-true}
use Rattle.frame.proofs.Truth.{and_left, and_right}
use Rattle.capi.specs.State.{flag, at, fits, number_in}

pub fits_length : (ms s : List ℕ) → fits ms s ≡ true → length s ≡ length ms
unfolding fits
fits_length [] [] h = refl
fits_length [] (x ∷ xs) h = absurd (false≢true h)
fits_length (m ∷ ms) [] h = absurd (false≢true h)
fits_length (m ∷ ms) (x ∷ xs) h = ap suc (fits_length ms xs (and_right (leb x m) (fits ms xs) h))

pub fits_at : (ms s : List ℕ) (i : ℕ) → fits ms s ≡ true → get_or s i 0 ≤ get_or ms i 0
unfolding fits
fits_at [] [] i h = zero-le
fits_at [] (x ∷ xs) i h = absurd (false≢true h)
fits_at (m ∷ ms) [] i h = absurd (false≢true h)
fits_at (m ∷ ms) (x ∷ xs) zero h = leb-true x m (and_left (leb x m) (fits ms xs) h)
fits_at (m ∷ ms) (x ∷ xs) (suc i) h = fits_at ms xs i (and_right (leb x m) (fits ms xs) h)

-- ---- in the forms that the proofs ask for
pub index_in : (ms s : List ℕ) (i : ℕ) → fits ms s ≡ true → ltb i (length ms) ≡ true → i < length s
index_in ms s i h k = subst (λ (n : ℕ). i < n) (sym (fits_length ms s h)) (ltb-true i (length ms) k)

pub end_in : (ms s : List ℕ) (i : ℕ) → fits ms s ≡ true → leb i (length ms) ≡ true → i ≤ length s
end_in ms s i h k = subst (λ (n : ℕ). i ≤ n) (sym (fits_length ms s h)) (leb-true i (length ms) k)

pub u8_at : (ms s : List ℕ) (i : ℕ) → fits ms s ≡ true → leb (get_or ms i 0) 255 ≡ true → Fits w8 (get_or s i 0)
u8_at ms s i h k = record { fits = omega (arith, fits_at ms s i h, leb-true (get_or ms i 0) 255 k) }

pub u16_at : (ms s : List ℕ) (i : ℕ) → fits ms s ≡ true → leb (get_or ms i 0) 65535 ≡ true → Fits w16 (get_or s i 0)
u16_at ms s i h k = record { fits = omega (arith, fits_at ms s i h, leb-true (get_or ms i 0) 65535 k) }

pub u32_at : (ms s : List ℕ) (i : ℕ) → fits ms s ≡ true → leb (get_or ms i 0) 4294967295 ≡ true → Fits w32 (get_or s i 0)
u32_at ms s i h k = record { fits = omega (arith, fits_at ms s i h, leb-true (get_or ms i 0) 4294967295 k) }

pub most_at : (ms s : List ℕ) (i m : ℕ) → fits ms s ≡ true → leb (get_or ms i 0) m ≡ true → get_or s i 0 ≤ m
most_at ms s i m h k = omega (arith, fits_at ms s i h, leb-true (get_or ms i 0) m k)

drop_fits : (ms s : List ℕ) (i : ℕ) → fits ms s ≡ true → fits (drop i ms) (drop i s) ≡ true
unfolding fits
drop_fits ms s zero h = h
drop_fits [] [] (suc i) h = refl
drop_fits [] (x ∷ xs) (suc i) h = absurd (false≢true h)
drop_fits (m ∷ ms) [] (suc i) h = absurd (false≢true h)
drop_fits (m ∷ ms) (x ∷ xs) (suc i) h = drop_fits ms xs i (and_right (leb x m) (fits ms xs) h)

take_fits : (ms s : List ℕ) (n : ℕ) → fits ms s ≡ true → fits (take n ms) (take n s) ≡ true
unfolding fits
take_fits ms s zero h = refl
take_fits [] [] (suc n) h = refl
take_fits [] (x ∷ xs) (suc n) h = absurd (false≢true h)
take_fits (m ∷ ms) [] (suc n) h = absurd (false≢true h)
take_fits (m ∷ ms) (x ∷ xs) (suc n) h =
    ap₂ ◌&&◌ (and_left (leb x m) (fits ms xs) h) (take_fits ms xs n (and_right (leb x m) (fits ms xs) h))

pub part_fits : (ms ns s : List ℕ) (i n : ℕ) → fits ms s ≡ true → take n (drop i ms) ≡ ns → fits ns (take n (drop i s)) ≡ true
part_fits ms ns s i n h e = subst (λ (l : List ℕ). fits l (take n (drop i s)) ≡ true) e (take_fits (drop i ms) (drop i s) n (drop_fits ms s i h))

-- a number that two places hold is at most the greatest of the second
module _ (ms s : List ℕ) (i x m : ℕ) (o : Option ℕ) (e : o ≡ Some x) (k : o ≡ number_in (take 2 (drop i s))) (h : fits ms s ≡ true)
    (g : leb (get_or (take 2 (drop i ms)) 1 0) m ≡ true) where
  number_most : x ≤ m
  unfolding number_in
  number_most = go (flag (at (take 2 (drop i s)) 0)) (sym k ∙ e) where
    go : (b : Bool) → cond b (Some (at (take 2 (drop i s)) 1)) None ≡ Some x → x ≤ m
    go true f =
        let same : at (take 2 (drop i s)) 1 ≡ x = ap (λ (y : Option ℕ). unwrap_or y 0) f in
        omega (arith, same, most_at (take 2 (drop i ms)) (take 2 (drop i s)) 1 m (part_fits ms _ s i 2 h refl) g)
    go false f = let same : 0 ≡ x = ap (λ (y : Option ℕ). unwrap_or y 0) f in omega (arith, same)

pub number_u8 : (ms s : List ℕ) (i x : ℕ) (o : Option ℕ) → o ≡ Some x → o ≡ number_in (take 2 (drop i s)) → fits ms s ≡ true →
    leb (get_or (take 2 (drop i ms)) 1 0) 255 ≡ true → Fits w8 x
number_u8 ms s i x o e k h g = record { fits = omega (arith, number_most ms s i x 255 o e k h g) }

pub number_u32 : (ms s : List ℕ) (i x : ℕ) (o : Option ℕ) → o ≡ Some x → o ≡ number_in (take 2 (drop i s)) → fits ms s ≡ true →
    leb (get_or (take 2 (drop i ms)) 1 0) 4294967295 ≡ true → Fits w32 x
number_u32 ms s i x o e k h g = record { fits = omega (arith, number_most ms s i x 4294967295 o e k h g) }

pub ruleset placed = (index_in, end_in, most_at, u8_at, u16_at, u32_at, part_fits)

-- ---- the test, number by number
all_fit : (ms s : List ℕ) → length s ≡ length ms → list_all (λ (p : ℕ × ℕ). leb p.0 p.1) (zip s ms) ≡ fits ms s
unfolding fits
all_fit [] [] e = refl
all_fit [] (x ∷ xs) e = absurd (omega (arith, e))
all_fit (m ∷ ms) [] e = absurd (omega (arith, e))
all_fit (m ∷ ms) (x ∷ xs) e = ap (λ (b : Bool). leb x m && b) (all_fit ms xs (omega (arith, e)))

pub fits_each : (ms s : List ℕ) (r : Bool) → length s ≡ length ms → r ≡ list_all (λ (p : ℕ × ℕ). leb p.0 p.1) (zip s ms) → r ≡ fits ms s
fits_each ms s r e h = h ∙ all_fit ms s e

pub fits_short : (ms s : List ℕ) (n : ℕ) → (length s ≡ n → ⊥) → n ≡ length ms → eqb (length s) n ≡ fits ms s
fits_short ms s n h l = ne_eqb (length s) n h ∙ go (fits ms s) refl where
  go : (b : Bool) → fits ms s ≡ b → false ≡ fits ms s
  go true e = absurd (h (fits_length ms s e ∙ sym l))
  go false e = sym e
