-- Due halves: an `Option ℕ` each, `None` where nothing is due.
-- Assumes nothing.
use Rattle.std.specs.Prelude.{ℕ, ◌-◌, Bool, false, cond, eqb, ltb, Option, None, Some}

-- due at this half
abbrev pub due_now : Option ℕ → ℕ → Bool
due_now None half = false
due_now (Some n) half = eqb n half

-- the halves up to a due half ahead, at most left
abbrev pub within : Option ℕ → ℕ → ℕ → ℕ
within None half left = left
within (Some n) half left = cond (ltb half n) (cond (ltb (n - half) left) (n - half) left) left
