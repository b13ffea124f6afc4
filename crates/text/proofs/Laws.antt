-- How a number is written in decimal: one digit, or the digits of its tenth and one more; and that this is what the library writes.
-- Assumes nothing.
use mathlib.Core.Path.{◌≡◌, refl, sym, ◌∙◌}
use mathlib.Core.List.{[], ◌∷◌, ◌++◌}
use Prim.Native.Nat.{ℕ, zero, suc, ◌-◌, ◌*◌, ◌/◌, ◌%◌, ◌^◌, ◌≤◌, ◌<◌}
use native.Mathlib.Omega.{arith, pow_step}
use lib.Dec.{ltb}
use borrow.Author.Tests.{lt-ltb, le-ltb, ltb-true, ltb-false}
use Rattle.branches.proofs.Branches.{either_way}
use Rattle.std.specs.Fmt as library
use Rattle.std.proofs.lemmas.Fmt.{decimal_digit, decimal_step}
use Rattle.text.specs.Decimal.{digit, digits, decimal}

pub few : (k v : ℕ) → v < 10 → digits k v ≡ digit v ∷ []
few zero v h = refl
few (suc k) v h = rw (lt-ltb v 10 h)

pub record Many (m v : ℕ) : Type 0 where
  pub text : digits m v ≡ digits (m - 1) (v / 10) ++ (digit (v % 10) ∷ [])
  pub rest : v / 10 < 10 * 10 ^ (m - 1)

pub many : (m v : ℕ) → 10 ≤ v → v < 10 * 10 ^ m → Many m v
many zero v h g = absurd (omega arith)
many (suc k) v h g =
    let g' : v < 10 * (10 * 10 ^ k) = rw (pow_step 10 k) at g in
    let down : suc k - 1 ≡ k = omega arith in
    record { text = rw (le-ltb v 10 h, down); rest = rw down (omega arith) }

-- the library's digits of a number, from its first one on
written_after : (k v : ℕ) → v < 10 * 10 ^ k → v < 2 ^ 64 → library.decimal v ≡ digits k v
written_after zero v h g = decimal_digit v (omega arith)
written_after (suc k) v h g =
    either_way (ltb v 10)
    (λ t. let small = ltb-true v 10 t in decimal_digit v small ∙ sym (few (suc k) v small))
    (λ t.
    let big : 10 ≤ v = ltb-false v 10 t in
    let m = many (suc k) v big h in
    let down : suc k - 1 ≡ k = omega arith in
    let rest : v / 10 < 10 * 10 ^ k = rw down at m.rest in
    rw (decimal_step v big g, m.text, down, written_after k (v / 10) rest (omega arith)))

pub written : (v : ℕ) → v < 2 ^ 64 → library.decimal v ≡ decimal v
written v h = written_after 19 v (omega arith) h
