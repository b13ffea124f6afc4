-- What `search` is handed to choose the arm of a `cond` by the tests on the way to a return: what the crate branches has of it, and flags that a call gave.
-- Assumes nothing.
use mathlib.Core.Path.{◌≡◌, sym, ◌∙◌}
use mathlib.Core.Bool.{Bool, true, false}
pub use Rattle.branches.proofs.Choose.{cond_t, cond_f}

-- a flag that a call gave, and what its contract says of it
pub flag_t : (r b : Bool) → r ≡ b → r ≡ true → b ≡ true
flag_t r b p q = sym p ∙ q

pub flag_f : (r b : Bool) → r ≡ b → r ≡ false → b ≡ false
flag_f r b p q = sym p ∙ q
