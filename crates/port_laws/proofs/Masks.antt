-- Laws of masks, over every number: a mask goes through a mask and through an or.
-- Assumes nothing.
use mathlib.Core.Path.{◌≡◌, refl, sym, ap, ap₂, ◌∙◌}
use Prim.Native.Nat.{ℕ, ◌+◌, ◌*◌, ◌/◌, ◌%◌, ◌<◌, min, max}
use native.Mathlib.Nat.{mod-lt}
use native.Mathlib.Omega.{arith}
use lib.Arith.{bin_ind, digits_div, digits_mod}
use lib.Bits.{bit_and, bit_or, and_step, or_step, and_comm}
use lib.Dec.{lit<}

odd_lt : (x : ℕ) → x % 2 < 2
odd_lt x = mod-lt x (lit< tt)

half_and : (a b : ℕ) → bit_and a b / 2 ≡ bit_and (a / 2) (b / 2)
half_and a b = rw (and_step a b) (digits_div (bit_and (a / 2) (b / 2)) (omega (arith, odd_lt a)))

odd_and : (a b : ℕ) → bit_and a b % 2 ≡ min (a % 2) (b % 2)
odd_and a b = rw (and_step a b) (digits_mod (bit_and (a / 2) (b / 2)) (omega (arith, odd_lt a)))

half_or : (a b : ℕ) → bit_or a b / 2 ≡ bit_or (a / 2) (b / 2)
half_or a b = rw (or_step a b) (digits_div (bit_or (a / 2) (b / 2)) (omega (arith, odd_lt a, odd_lt b)))

odd_or : (a b : ℕ) → bit_or a b % 2 ≡ max (a % 2) (b % 2)
odd_or a b = rw (or_step a b) (digits_mod (bit_or (a / 2) (b / 2)) (omega (arith, odd_lt a, odd_lt b)))

join : {r r' c c' : ℕ} → r ≡ r' → c ≡ c' → r * 2 + c ≡ r' * 2 + c'
join p q = ap₂ (λ (x y : ℕ). x * 2 + y) p q

min_assoc : (x y z : ℕ) → min (min x y) z ≡ min x (min y z)
min_assoc x y z = omega arith

min_max : (x y z : ℕ) → min (max x y) z ≡ max (min x z) (min y z)
min_max x y z = omega arith

pub and_and : (a b m : ℕ) → bit_and (bit_and a b) m ≡ bit_and a (bit_and b m)
and_and =
    bin_ind (λ (n : ℕ). (b m : ℕ) → bit_and (bit_and n b) m ≡ bit_and n (bit_and b m)) (λ b m. refl)
    (λ n ih b m.
    and_step (bit_and n b) m
    ∙ ap₂ (λ (x y : ℕ). bit_and x (m / 2) * 2 + min y (m % 2)) (half_and n b) (odd_and n b)
    ∙ join (ih (b / 2) (m / 2)) (min_assoc (n % 2) (b % 2) (m % 2))
    ∙ sym (and_step n (bit_and b m) ∙ ap₂ (λ (x y : ℕ). bit_and (n / 2) x * 2 + min (n % 2) y) (half_and b m) (odd_and b m)))

pub and_or : (a b m : ℕ) → bit_and (bit_or a b) m ≡ bit_or (bit_and a m) (bit_and b m)
and_or =
    bin_ind (λ (n : ℕ). (b m : ℕ) → bit_and (bit_or n b) m ≡ bit_or (bit_and n m) (bit_and b m)) (λ b m. refl)
    (λ n ih b m.
    and_step (bit_or n b) m
    ∙ ap₂ (λ (x y : ℕ). bit_and x (m / 2) * 2 + min y (m % 2)) (half_or n b) (odd_or n b)
    ∙ join (ih (b / 2) (m / 2)) (min_max (n % 2) (b % 2) (m % 2))
    ∙ sym (or_step (bit_and n m) (bit_and b m)
    ∙ ap₂ (λ (x y : ℕ). x * 2 + y) (ap₂ bit_or (half_and n m) (half_and b m)) (ap₂ max (odd_and n m) (odd_and b m))))

-- a mask whose bits are clear in both parts, and in the first
pub or_clear : (x y m : ℕ) → bit_and x m ≡ 0 → bit_and y m ≡ 0 → bit_and (bit_or x y) m ≡ 0
or_clear x y m e g = and_or x y m ∙ ap₂ bit_or e g

pub and_clear : (x y m : ℕ) → bit_and x m ≡ 0 → bit_and (bit_and x y) m ≡ 0
and_clear x y m e = and_and x y m ∙ ap (bit_and x) (and_comm y m) ∙ sym (and_and x m y) ∙ ap (λ (z : ℕ). bit_and z y) e
