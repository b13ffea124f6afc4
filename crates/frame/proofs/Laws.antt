-- Laws of bits, masks and shifts, over 16-bit numbers where a shift could lose bits.
-- Assumes nothing.
use mathlib.Core.Path.{◌≡◌, refl, ap, ◌∙◌}
use mathlib.Core.Logic.{◌⊎◌, inl, inr}
use mathlib.Core.Bool.{Bool, true, false, not}
use Prim.Native.Nat.{ℕ, zero, suc, ◌+◌, ◌*◌, ◌/◌, ◌%◌, ◌^◌, ◌≤◌, ◌<◌}
use native.Mathlib.Nat.{mod-lt}
use native.Mathlib.Omega.{arith}
use lib.Dec.{eqb, lit≤, lit<}
use lib.Pow.{shl_exact, field, mod-mod-pow}
use lib.Bits.{bit_and, bit_or, or_shifted_r}
use lib.Count.{ones as count_ones, ones_step}
use borrow.Author.Tests.{eqb-true, eq-eqb, not-true, not-false}
use Rattle.std.specs.Int.{from_bool}
use Rattle.frame.specs.Frame.{has, one_if}

-- no bit of the mask is set
pub clear_of : (x m : ℕ) → has x m ≡ false → bit_and x m ≡ 0
clear_of x m e = eqb-true (bit_and x m) 0 (not-false (eqb (bit_and x m) 0) e)

pub without : (x m : ℕ) → not (has x m) ≡ true → bit_and x m ≡ 0
without x m e = clear_of x m (not-true (has x m) e)

pub without_test : (x m : ℕ) → bit_and x m ≡ 0 → not (has x m) ≡ true
without_test x m e = ap not (ap not (eq-eqb (bit_and x m) 0 e))

pub one_if≤ : (b : Bool) → one_if b ≤ 1
one_if≤ true = lit≤ tt
one_if≤ false = lit≤ tt

-- the library's conversion of a flag
pub from_bool_is : (b : Bool) → from_bool b ≡ one_if b
from_bool_is true = refl
from_bool_is false = refl

-- a number of k bits, with another above it whose shift fits 16 bits
pub stacked : (j k a b : ℕ) → a < 2 ^ j → b < 2 ^ k → j + k ≤ 16 → bit_or b ((a * 2 ^ k) % 65536) ≡ a * 2 ^ k + b
stacked j k a b ha hb h = ap (bit_or b) (shl_exact j k 16 ha h) ∙ or_shifted_r a k b hb

-- a remainder by two is 0 or 1
pub two : (n : ℕ) → (n % 2 ≡ 0) ⊎ (n % 2 ≡ 1)
two n = go (n % 2) (mod-lt n (lit< tt))
  where
    go : (r : ℕ) → r < 2 → (r ≡ 0) ⊎ (r ≡ 1)
    go zero h = inl refl
    go (suc r) h = inr (omega arith)

-- the flag of a low bit, as a number
pub one_if_bit : (n : ℕ) → one_if (eqb (n % 2) 1) ≡ n % 2
one_if_bit n = go (two n)
  where
    go : ((n % 2 ≡ 0) ⊎ (n % 2 ≡ 1)) → one_if (eqb (n % 2) 1) ≡ n % 2
    go (inl e) = rw e
    go (inr e) = rw e

-- the ones among the low bits: the lowest, and those of the rest
pub ones_low : (d v : ℕ) → count_ones (v % 2 ^ suc d) ≡ v % 2 + count_ones (v / 2 % 2 ^ d)
ones_low d v =
    let e : v % 2 ^ (d + 1) % 2 ≡ v % 2 = mod-mod-pow v d 1 in
    let g : v % 2 ^ (d + 1) / 2 ≡ v / 2 % 2 ^ d = field v d 1 in
    let s : suc d ≡ d + 1 = omega arith in
    rw (s, ones_step (v % 2 ^ (d + 1)), e, g)
