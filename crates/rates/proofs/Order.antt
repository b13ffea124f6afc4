-- Nearer is an order of settings, and the closer of two is not farther than either.
-- Assumes nothing.
use mathlib.Core.Path.{◌≡◌, refl, sym, ◌∙◌}
use mathlib.Core.Bool.{Bool, true, false}
use mathlib.Core.List.{List, [], ◌∷◌, ◌++◌}
use Prim.Native.Nat.{ℕ, ◌*◌, ◌<◌}
use native.Mathlib.Nat.{le_refl, mul-pos}
use native.Mathlib.Omega.{arith}
use lib.Dec.{lit<}
use borrow.Author.Tests.{ltb-true, ltb-false, lt-ltb, le-ltb}
use Rattle.branches.proofs.Branches.{by_cond, cond_true, cond_false}
use Rattle.rates.specs.declared.Select.{Select}
use Rattle.rates.specs.declared.Select.TheVariants.{System, System16, System64}
use Rattle.rates.specs.declared.Setting.{Setting}
use Rattle.rates.specs.Rates.{divider, cell, period, miss, nearer, closer, nearest_of}
use Rattle.rates.proofs.Fractions.{le_chain, lt_chain}

divider_pos : (select : Select) → 0 < divider select
divider_pos System = lit< tt
divider_pos System16 = lit< tt
divider_pos System64 = lit< tt

cell_pos : (short_cell : Bool) → 0 < cell short_cell
cell_pos true = lit< tt
cell_pos false = lit< tt

pub unit_pos : (select : Select) (short_cell : Bool) → 0 < divider select * cell short_cell
unit_pos select short_cell = mul-pos (divider_pos select) (cell_pos short_cell)

pub period_pos : (s : Setting) → 0 < period s
unfolding period
period_pos s = mul-pos (unit_pos s.select s.short_cell) (omega arith)

module _ (f r : ℕ) where
  not_nearer_trans : (x y z : Setting) → nearer f r y x ≡ false → nearer f r z y ≡ false → nearer f r z x ≡ false
  unfolding nearer
  not_nearer_trans x y z p q =
      le-ltb _ _
      (le_chain (miss f r x) (period x) (miss f r y) (period y) (miss f r z) (period z) (period_pos y) (ltb-false _ _ p) (ltb-false _ _ q))

  pub nearer_trans : (x y z : Setting) → nearer f r x y ≡ true → nearer f r z y ≡ false → nearer f r x z ≡ true
  unfolding nearer
  nearer_trans x y z p q =
      lt-ltb _ _
      (lt_chain (miss f r x) (period x) (miss f r y) (period y) (miss f r z) (period z) (period_pos z) (ltb-true _ _ p) (ltb-false _ _ q))

  pub nearer_asym : (x y : Setting) → nearer f r x y ≡ true → nearer f r y x ≡ false
  unfolding nearer
  nearer_asym x y p = le-ltb _ _ (omega (arith, ltb-true _ _ p))

  pub nearer_irrefl : (x : Setting) → nearer f r x x ≡ false
  unfolding nearer
  nearer_irrefl x = le-ltb _ _ (le_refl _)

  -- what is not nearer than one of the two is not nearer than the closer
  pub closer_second : (x y z : Setting) → nearer f r z y ≡ false → nearer f r z (closer f r x y) ≡ false
  closer_second x y z h =
      by_cond (λ (s : Setting). nearer f r z s ≡ false) (nearer f r y x) y x (λ e. h) (λ e. not_nearer_trans x y z e h)

  pub closer_first : (x y z : Setting) → nearer f r z x ≡ false → nearer f r z (closer f r x y) ≡ false
  closer_first x y z h =
      by_cond (λ (s : Setting). nearer f r z s ≡ false) (nearer f r y x) y x (λ e. not_nearer_trans y x z (nearer_asym y x e) h) (λ e. h)

  -- a setting may be skipped before a nearer one
  pub closer_over : (x y z : Setting) → nearer f r z y ≡ true → closer f r (closer f r x y) z ≡ closer f r x z
  closer_over x y z h =
      by_cond (λ (s : Setting). closer f r s z ≡ closer f r x z) (nearer f r y x) y x
      (λ e. cond_true (nearer f r z y) z y h ∙ sym (cond_true (nearer f r z x) z x (nearer_trans z y x h (nearer_asym y x e)))) (λ e. refl)

  pub closer_again : (x y : Setting) → closer f r (closer f r x y) y ≡ closer f r x y
  closer_again x y = cond_false (nearer f r y (closer f r x y)) y (closer f r x y) (closer_second x y y (nearer_irrefl y))

  pub nearest_append : (best : Setting) (xs ys : List Setting) → nearest_of f r best (xs ++ ys) ≡ nearest_of f r (nearest_of f r best xs) ys
  unfolding nearest_of
  nearest_append best [] ys = refl
  nearest_append best (x ∷ xs) ys = nearest_append (closer f r best x) xs ys
