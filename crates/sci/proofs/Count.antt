-- Cycle by cycle is the arithmetic: what one cycle more makes of its terms, and by induction the claim of specs/Count.antt.
-- Assumes nothing.
use Rattle.std.proofs.Common.{◌≡◌, ℕ, zero, suc, ◌+◌, ◌-◌, ◌*◌, ◌/◌, ◌%◌, ◌≤◌, ◌<◌, Bool, true, false, ◌&&◌, cond, eqb, ltb, subst, refl, ◌∙◌, arith}
use Rattle.std.proofs.Math.Nat.{mod-lt, div-one, div-eq_of_lt, div-eq-sub-div, mod-eq_of_lt, mod-eq-sub-mod, div-mul-le_self, le-div_iff_mul-le, suc-mul}
use Rattle.std.proofs.lemmas.Nat.{div-add-mod'}
use Rattle.std.proofs.lemmas.Bool.Decides.{nat_tests}
use lib.Arith.{digits_div, digits_mod}
use borrow.Author.Tests.{eqb-true, eqb-false}
use Rattle.branches.proofs.Branches.{by_cond, either_way}
use Rattle.sci.specs.Count.{Count, cycled, counted, ticks_in, halves_in, left_in, Counting}

-- ---- ticks
-- one more, divided: the quotient grows where it becomes a multiple
div_suc : (x d : ℕ) → 0 < d → suc x / d ≡ cond (eqb (suc x % d) 0) (suc (x / d)) (x / d)
div_suc x d h =
    let b = div-add-mod' x d in
    either_way (eqb (suc (x % d)) d)
    (λ e. as_digits (suc (x / d)) 0 h (omega (arith, b, eqb-true (suc (x % d)) d e, suc-mul (x / d) d)) refl)
    (λ e. as_digits (x / d) (suc (x % d)) (omega (arith, mod-lt x h, eqb-false (suc (x % d)) d e)) (omega (arith, b)) (grind (arith, nat_tests)))
  where
    as_digits : (q r : ℕ) → r < d → suc x ≡ q * d + r → q ≡ cond (eqb r 0) (suc (x / d)) (x / d) → suc x / d ≡ cond (eqb (suc x % d) 0) (suc (x / d)) (x / d)
    as_digits q r l e g = rw (e, digits_div q l, digits_mod q l) g

ticks_none : (d t : ℕ) → ticks_in d t 0 ≡ 0
unfolding ticks_in
ticks_none d t = let e : t + 0 ≡ t = omega arith in rw e (omega arith)

ticks_suc : (d t n : ℕ) → 0 < d → ticks_in d t (suc n) ≡ cond (eqb (suc t % d) 0) (suc (ticks_in d (suc t) n)) (ticks_in d (suc t) n)
unfolding ticks_in
ticks_suc d t n h =
    let e : t + suc n ≡ suc t + n = omega arith in
    let l : suc t / d ≤ (suc t + n) / d = (le-div_iff_mul-le h).1 (omega (arith, div-mul-le_self (suc t) d)) in
    rw e (grind (arith, div_suc t d h, nat_tests))

pub ticks_few : (d t n : ℕ) → 0 < d → ticks_in d t n ≤ n
ticks_few d t zero h = omega (arith, ticks_none d t)
ticks_few d t (suc n) h = grind (arith, ticks_suc d t n h, ticks_few d (suc t) n h)

-- ---- halves
halves_suc : (l r k : ℕ) → 0 < l → 0 < r → halves_in l r (suc k) ≡ cond (eqb l 1) (suc (halves_in r r k)) (halves_in (l - 1) r k)
unfolding halves_in
halves_suc l r k hl hr = grind (arith, nat_tests, div-eq_of_lt {n = k} {m = r}, div-eq-sub-div {m = r} {n = k} hr)

left_suc : (l r k : ℕ) → 0 < l → 0 < r → left_in l r (suc k) ≡ cond (eqb l 1) (left_in r r k) (left_in (l - 1) r k)
unfolding left_in
left_suc l r k hl hr = grind (arith, nat_tests, mod-eq_of_lt {n = k} {m = r}, mod-eq-sub-mod {n = k} {m = r})

-- ---- the claim
module _ (d r : ℕ) (hd : 0 < d) (hr : 0 < r) where
  abbrev target : ℕ → Count → Count
  target n c =
      let ticks = ticks_in d c.total n in
      record { total = c.total + n; remaining = left_in c.remaining r ticks; halves = c.halves + halves_in c.remaining r ticks }

  same : {a b x y u v : ℕ} → a ≡ b → x ≡ y → u ≡ v → ◌≡◌ {A = Count} (record { total = a; remaining = x; halves = u }) (record { total = b; remaining = y; halves = v })
  same p q e = λ i. record { total = p i; remaining = q i; halves = e i }

  abbrev Moves : ℕ → Count → Count → Type 0
  Moves n c m = (0 < m.remaining) × (target n m ≡ target (suc n) c)

  moves : (n : ℕ) (c : Count) → 0 < c.remaining → Moves n c (cycled d r c)
  moves n c h =
      let t = ticks_suc d c.total n hd in
      let k = ticks_in d (suc c.total) n in
      by_cond (Moves n c) (eqb (suc c.total % d) 0) _ _
      (λ e. by_cond (Moves n c) (eqb c.remaining 1) _ _
      (λ g. (hr, same (omega arith) (rw (t, e, left_suc c.remaining r k h hr, g)) (rw (t, e, halves_suc c.remaining r k h hr, g) (omega arith))))
      (λ g. (omega (arith, eqb-false c.remaining 1 g), same (omega arith) (rw (t, e, left_suc c.remaining r k h hr, g)) (rw (t, e, halves_suc c.remaining r k h hr, g)))))
      (λ e. (h, same (omega arith) (rw (t, e)) (rw (t, e))))

  counting_for : (n : ℕ) (c : Count) → 0 < c.remaining → counted d r n c ≡ target n c
  unfolding counted halves_in left_in
  counting_for zero c h = rw (ticks_none d c.total) (same (omega arith) (grind (arith, nat_tests)) (grind (arith, nat_tests)))
  counting_for (suc n) c h = let m = moves n c h in counting_for n (cycled d r c) m.0 ∙ m.1

pub counting : Counting
unfolding Counting
counting d r n c hd hr = counting_for d r hd hr n c

-- what is left of a count is less than the reload
pub rest_below : (x r : ℕ) → 0 < r → x % r < r
rest_below x r h = mod-lt x h

-- where each cycle is a tick
pub ticks_one : (t n : ℕ) → ticks_in 1 t n ≡ n
unfolding ticks_in
ticks_one t n = rw (div-one (t + n), div-one t) (omega arith)

-- ---- whether the last cycle counts a half
-- it is a tick where the total becomes a multiple of the divider
ticks_last : (d t n : ℕ) → 0 < d → ticks_in d t (suc n) ≡ cond (eqb ((t + suc n) % d) 0) (suc (ticks_in d t n)) (ticks_in d t n)
unfolding ticks_in
ticks_last d t n h =
    let e : t + suc n ≡ suc (t + n) = omega arith in
    let l : t / d ≤ (t + n) / d = (le-div_iff_mul-le h).1 (omega (arith, div-mul-le_self t d)) in
    rw e (grind (arith, div_suc (t + n) d h, nat_tests))

-- a tick counts one where a whole number of reloads is past
halves_last : (l r k : ℕ) → 0 < r → l ≤ suc k → ltb (halves_in l r k) (halves_in l r (suc k)) ≡ eqb ((suc k - l) % r) 0
unfolding halves_in
halves_last l r k h g =
    either_way (eqb l (suc k))
    (λ e. let same : l ≡ suc k = eqb-true l (suc k) e in grind (arith, nat_tests, same, div-eq_of_lt {n = 0} {m = r}, mod-eq_of_lt {n = 0} {m = r}))
    (λ e.
    let more : l ≤ k = omega (arith, g, eqb-false l (suc k) e) in
    let past : suc k - l ≡ suc (k - l) = omega (arith, more) in
    rw past (grind (arith, nat_tests, more, div_suc (k - l) r h)))

pub edge_last : (d r t l n : ℕ) → 0 < d → 0 < r → 0 < l → l ≤ ticks_in d t n
    → ltb (halves_in l r (ticks_in d t (n - 1))) (halves_in l r (ticks_in d t n)) ≡ (eqb ((t + n) % d) 0 && eqb ((ticks_in d t n - l) % r) 0)
edge_last d r t l zero hd hr hl g = absurd (omega (arith, g, hl, ticks_none d t))
edge_last d r t l (suc n) hd hr hl g = last (eqb ((t + suc n) % d) 0) (ticks_in d t (suc n)) (ticks_last d t n hd) g
  where
    k : ℕ
    k = ticks_in d t n

    less : suc n - 1 ≡ n
    less = omega arith

    none : ltb (halves_in l r k) (halves_in l r k) ≡ false
    none = grind (arith, nat_tests)

    last : (b : Bool) (m : ℕ) → m ≡ cond b (suc k) k → l ≤ m → ltb (halves_in l r (ticks_in d t (suc n - 1))) (halves_in l r m) ≡ (b && eqb ((m - l) % r) 0)
    last true m e g = rw (less, e) (halves_last l r k hr (subst (λ (x : ℕ). l ≤ x) e g))
    last false m e g = rw (less, e) none
