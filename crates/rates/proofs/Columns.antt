-- Of the 256 settings with one divider and one cell length two decide which is the nearest. Rates fall as BRR grows: those not below r come nearer to
-- it, and those below r go away from it. Where the one kind ends is a quotient, f / (r·P) with P the period at BRR 0.
-- Assumes nothing.
use mathlib.Core.Path.{◌≡◌, refl, sym, ap, ◌∙◌, subst}
use mathlib.Core.Bool.{Bool, true, false}
use mathlib.Core.List.{◌++◌}
use Prim.Native.Nat.{ℕ, zero, suc, ◌+◌, ◌-◌, ◌*◌, ◌/◌, min, ◌≤◌, ◌<◌}
use native.Mathlib.Nat.{le_refl, le_trans, le_of_lt, sub-le, min-eq_left, min-eq_right, add-zero, zero-add, suc-add, mul-one, mul_assoc, mul-pos, mul-le-mul_left, mul-lt-mul_of_pos_left, mul-div-le, lt-mul-div-succ}
use native.Mathlib.Omega.{arith}
use lib.Dec.{leb}
use borrow.Author.Tests.{leb-true, leb-false, lt-ltb}
use Rattle.branches.proofs.Branches.{either_way, cond_false}
use Rattle.rates.specs.declared.Select.{Select}
use Rattle.rates.specs.declared.Setting.{Setting}
use Rattle.rates.specs.Rates.{setting, divider, cell, period, column, nearer, closer, nearest_of}
use Rattle.rates.proofs.Fractions.{above_nearer, below_nearer}
use Rattle.rates.proofs.Order.{unit_pos, period_pos, nearer_asym, closer_second, closer_over, closer_again, nearest_append}

module _ (select : Select) (short_cell : Bool) where
  abbrev in_column : ℕ → Setting
  in_column b = setting select short_cell b

  period_grows : (b c : ℕ) → b < c → period (in_column b) < period (in_column c)
  unfolding period
  period_grows b c h = mul-lt-mul_of_pos_left (omega arith) (unit_pos select short_cell)

  -- by the period at BRR 0
  period_unit : (b : ℕ) → period (in_column b) ≡ period (in_column 0) * suc b
  unfolding period
  period_unit b = ap (λ (u : ℕ). u * suc b) (sym (mul-one (divider select * cell short_cell)))

  column_split : (b n k : ℕ) → column select short_cell b (n + k) ≡ column select short_cell b n ++ column select short_cell (b + n) k
  unfolding column
  column_split b zero k = rw (zero-add k, add-zero b)
  column_split b (suc n) k =
      let e : suc b + n ≡ b + suc n = omega arith in
      rw (suc-add n k, column_split (suc b) n k, e)

  module _ (f r : ℕ) (some : 0 < f) where
    above : (b c : ℕ) → b < c → r * period (in_column c) ≤ f → nearer f r (in_column c) (in_column b) ≡ true
    unfolding nearer
    above b c h l = lt-ltb _ _ (above_nearer f r (period (in_column b)) (period (in_column c)) some (period_grows b c h) l)

    below : (b c : ℕ) → b < c → f < r * period (in_column b) → nearer f r (in_column b) (in_column c) ≡ true
    unfolding nearer
    below b c h l = lt-ltb _ _ (below_nearer f r (period (in_column b)) (period (in_column c)) some (period_grows b c h) l)

    -- of settings whose rates are not below r, the last decides
    last_decides : (best : Setting) (b n c : ℕ) → b + n ≡ c → r * period (in_column c) ≤ f
        → nearest_of f r best (column select short_cell b (suc n)) ≡ closer f r best (in_column c)
    unfolding nearest_of column
    last_decides best b zero c e l = ap (λ (k : ℕ). closer f r best (in_column k)) (omega arith)
    last_decides best b (suc n) c e l =
        last_decides (closer f r best (in_column b)) (suc b) n c (omega arith) l
        ∙ closer_over f r best (in_column b) (in_column c) (above b c (omega arith) l)

    none_closer : (best : Setting) (b n : ℕ) → ((c : ℕ) → b ≤ c → nearer f r (in_column c) best ≡ false)
        → nearest_of f r best (column select short_cell b n) ≡ best
    unfolding nearest_of column
    none_closer best b zero h = refl
    none_closer best b (suc n) h =
        ap (λ (s : Setting). nearest_of f r s (column select short_cell (suc b) n))
        (cond_false (nearer f r (in_column b) best) (in_column b) best (h b (le_refl b)))
        ∙ none_closer best (suc b) n (λ c l. h c (omega arith))

    -- of settings whose rates are below r, the first decides
    first_decides : (best : Setting) (b n : ℕ) → f < r * period (in_column b)
        → nearest_of f r best (column select short_cell b (suc n)) ≡ closer f r best (in_column b)
    unfolding nearest_of column
    first_decides best b n l =
        none_closer (closer f r best (in_column b)) (suc b) n
        (λ c h. closer_second f r best (in_column b) (in_column c) (nearer_asym f r (in_column b) (in_column c) (below b c (omega arith) l)))

    -- the two that decide: at BRR count - 1 the rate is the last that is not below r, at BRR count the first below
    module _ (best : Setting) (count : ℕ) (known : count ≡ f / (r * period (in_column 0))) (wanted : 0 < r) where
      cycles : (b : ℕ) → r * period (in_column b) ≡ r * period (in_column 0) * suc b
      cycles b = ap (λ (p : ℕ). r * p) (period_unit b) ∙ sym (mul_assoc r (period (in_column 0)) (suc b))

      not_below : (b : ℕ) → b < count → r * period (in_column b) ≤ f
      not_below b h =
          let l : suc b ≤ f / (r * period (in_column 0)) = omega arith in
          rw (cycles b) (le_trans (mul-le-mul_left (r * period (in_column 0)) l) (mul-div-le f (r * period (in_column 0))))

      is_below : f < r * period (in_column count)
      is_below =
          let e : suc count ≡ f / (r * period (in_column 0)) + 1 = omega arith in
          rw (cycles count, e) (lt-mul-div-succ f (mul-pos wanted (period_pos (in_column 0))))

      none_above : count ≡ 0 → nearest_of f r best (column select short_cell 0 256) ≡ closer f r best (in_column 0)
      none_above z = first_decides best 0 255 (subst (λ (c : ℕ). f < r * period (in_column c)) z is_below)

      some_above : 0 < count
          → nearest_of f r best (column select short_cell 0 256)
          ≡ closer f r (closer f r best (in_column (min (count - 1) 255))) (in_column (min count 255))
      some_above h =
          either_way (leb count 255)
          (λ (t : leb count 255 ≡ true).
          let l : count ≤ 255 = leb-true count 255 t in
          let n : suc (count - 1) ≡ count = omega arith in
          let k : 256 ≡ count + suc (255 - count) = omega arith in
          rw (min-eq_left l, min-eq_left (le_trans (sub-le count 1) l), k, column_split 0 count (suc (255 - count)), nearest_append, zero-add count)
          (ap (λ (s : Setting). nearest_of f r s (column select short_cell count (suc (255 - count))))
          (ap (λ (c : ℕ). nearest_of f r best (column select short_cell 0 c)) (sym n)
          ∙ last_decides best 0 (count - 1) (count - 1) (zero-add (count - 1)) (not_below (count - 1) (omega arith)))
          ∙ first_decides (closer f r best (in_column (count - 1))) count (255 - count) is_below))
          (λ (t : leb count 255 ≡ false).
          let l : 255 < count = leb-false count 255 t in
          let c : min (count - 1) 255 ≡ 255 = min-eq_right (omega arith) in
          rw (min-eq_right (le_of_lt l), c)
          (last_decides best 0 255 255 refl (not_below 255 l) ∙ sym (closer_again f r best (in_column 255))))

      -- where none is above, the two are the same setting
      pub two_decide : nearest_of f r best (column select short_cell 0 256)
          ≡ closer f r (closer f r best (in_column (min (count - 1) 255))) (in_column (min count 255))
      two_decide =
          either_way (leb count 0)
          (λ (t : leb count 0 ≡ true).
          let z : count ≡ 0 = omega (arith, leb-true count 0 t) in
          rw z (none_above z ∙ sym (closer_again f r best (in_column 0))))
          (λ (t : leb count 0 ≡ false). some_above (leb-false count 0 t))
