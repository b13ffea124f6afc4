-- What the port's private steps ask of it, so that no sum wraps and no shift is too wide. No caller of a public call is asked any of it: the field test
-- implies it (proofs/Checked.antt). What is asked of words and formats is in the crate shift.
-- Assumes nothing.
use Rattle.std.specs.Prelude.{◌≡◌, ℕ, ◌≤◌}
use Rattle.shift.specs.Private.Ready.{PlacedIn, Sendable}
use Rattle.port.specs.declared.Port.{Port}
use Rattle.port.specs.Valid.{limit}

-- the port, at the half n
pub record Ready (n : ℕ) (p : Port) : Type 0 where
  pub half≡ : p.half ≡ n
  pub half≤ : p.half ≤ limit
  pub placed : PlacedIn p.rx
  pub sendable : Sendable p.tx
