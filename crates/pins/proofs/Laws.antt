-- What the proofs of the pins cite.
-- Assumes nothing.
use mathlib.Core.Path.{◌≡◌}
use mathlib.Core.Bool.{true}
use Prim.Native.Nat.{◌<◌}
use native.Mathlib.Omega.{arith}
use Rattle.frame.specs.declared.Format.{Format}
use Rattle.frame.specs.Frame.{format_valid}
use Rattle.frame.proofs.Words.{shape}

-- a cell's length is not 0
pub spans : (f : Format) → format_valid f ≡ true → 0 < f.half_bit
spans f h = omega (arith, (shape f h).long)
