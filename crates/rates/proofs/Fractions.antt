-- Fractions compared by their cross products, and how far f/P is from r: |f − r·P| / P.
-- Assumes nothing.
use mathlib.Core.Path.{◌≡◌, ap, ◌∙◌}
use Prim.Native.Nat.{ℕ, ◌+◌, ◌*◌, ◌≤◌, ◌<◌}
use native.Mathlib.Nat.{add-mul, mul_right_comm, mul-le-mul_left, mul-le-mul_right, mul-lt-mul_of_pos_left, mul-lt-mul_of_pos_right, le_of_mul-le-mul_right, lt_of_mul-lt-mul_right, le_trans, lt_of_lt_of_le, le_of_lt}
use native.Mathlib.Omega.{arith}
use Rattle.std.specs.Int.{abs_diff}

-- a/A ≤ b/B and b/B ≤ c/C give a/A ≤ c/C, and < where the first is: stated of the products
module _ (a A b B c C : ℕ) where
  pub le_chain : 0 < B → a * B ≤ b * A → b * C ≤ c * B → a * C ≤ c * A
  le_chain h p q =
      le_of_mul-le-mul_right
      (rw (mul_right_comm a C B) (le_trans (mul-le-mul_right C p) (rw (mul_right_comm b A C) (le_trans (mul-le-mul_right A q) (rw (mul_right_comm c B A) (omega arith)))))) h

  pub lt_chain : 0 < C → a * B < b * A → b * C ≤ c * B → a * C < c * A
  lt_chain h p q =
      lt_of_mul-lt-mul_right B
      (rw (mul_right_comm a C B) (lt_of_lt_of_le (mul-lt-mul_of_pos_right p h) (rw (mul_right_comm b A C) (le_trans (mul-le-mul_right A q) (rw (mul_right_comm c B A) (omega arith))))))

-- f/P falls as P grows: not below r the larger P is nearer, below r the smaller
module _ (f r P Q : ℕ) (some : 0 < f) (grows : P < Q) where
  pub above_nearer : r * Q ≤ f → abs_diff f (r * Q) * P < abs_diff f (r * P) * Q
  above_nearer h =
      let low : r * P ≤ f = le_trans (mul-le-mul_left r (le_of_lt grows)) h in
      let p : f * P ≡ r * Q * P + abs_diff f (r * Q) * P = ap (λ (x : ℕ). x * P) (omega arith) ∙ add-mul (r * Q) (abs_diff f (r * Q)) P in
      let q : f * Q ≡ r * P * Q + abs_diff f (r * P) * Q = ap (λ (x : ℕ). x * Q) (omega arith) ∙ add-mul (r * P) (abs_diff f (r * P)) Q in
      omega (arith, mul_right_comm r Q P, mul-lt-mul_of_pos_left grows some)

  pub below_nearer : f < r * P → abs_diff f (r * P) * Q < abs_diff f (r * Q) * P
  below_nearer h =
      let high : r * P ≤ r * Q = mul-le-mul_left r (le_of_lt grows) in
      let p : r * P * Q ≡ f * Q + abs_diff f (r * P) * Q = ap (λ (x : ℕ). x * Q) (omega arith) ∙ add-mul f (abs_diff f (r * P)) Q in
      let q : r * Q * P ≡ f * P + abs_diff f (r * Q) * P = ap (λ (x : ℕ). x * P) (omega arith) ∙ add-mul f (abs_diff f (r * Q)) P in
      omega (arith, mul_right_comm r Q P, mul-lt-mul_of_pos_left grows some)
