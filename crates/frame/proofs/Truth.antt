-- Flags: a conjunction and a disjunction taken apart, and a statement about flags proved by its truth table.
-- Assumes nothing.
use Prim.Native.Nat.{ℕ, zero, suc}
use mathlib.Core.Path.{◌≡◌, refl}
use mathlib.Core.Logic.{◌⊎◌, inl, inr}
use mathlib.Core.Bool.{Bool, true, false, ◌&&◌, ◌||◌, beq, false≢true}

pub and_left : (a b : Bool) → (a && b) ≡ true → a ≡ true
and_left true b e = refl
and_left false b e = absurd (false≢true e)

pub and_right : (a b : Bool) → (a && b) ≡ true → b ≡ true
and_right true b e = e
and_right false b e = absurd (false≢true e)

pub and_both : (a b : Bool) → a ≡ true → b ≡ true → (a && b) ≡ true
and_both true b e g = g
and_both false b e g = absurd (false≢true e)

pub or_cases : (a b : Bool) → (a || b) ≡ true → (a ≡ true) ⊎ (b ≡ true)
or_cases true b e = inl refl
or_cases false b e = inr e

pub beq_true : (a b : Bool) → beq a b ≡ true → a ≡ b
beq_true true true e = refl
beq_true true false e = absurd (false≢true e)
beq_true false true e = absurd (false≢true e)
beq_true false false e = refl

-- a test of n flags
abbrev pub Test : ℕ → Type 0
Test zero = Bool
Test (suc n) = Bool → Test n

-- it holds in every row of its truth table
unfoldable pub every_row : (n : ℕ) → Test n → Bool
every_row zero t = t
every_row (suc n) t = every_row n (t true) && every_row n (t false)

-- it holds of all flags
abbrev pub Always : (n : ℕ) → Test n → Type 0
Always zero t = t ≡ true
Always (suc n) t = (b : Bool) → Always n (t b)

pub by_flag : (P : Bool → Type 0) → P true → P false → (b : Bool) → P b
by_flag P t f true = t
by_flag P t f false = f

-- the table is computed, so that its proof is `refl`
pub by_table : (n : ℕ) (t : Test n) → every_row n t ≡ true → Always n t
unfolding every_row
by_table zero t e = e
by_table (suc n) t e =
    by_flag (λ (b : Bool). Always n (t b)) (by_table n (t true) (and_left (every_row n (t true)) (every_row n (t false)) e))
    (by_table n (t false) (and_right (every_row n (t true)) (every_row n (t false)) e))
