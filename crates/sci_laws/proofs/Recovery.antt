-- Demand 3 for commands of kinds 1 to 9 (specs/Recovery.antt): an instance of recovery's layers.
-- Assumes nothing.
use mathlib.Core.Path.{◌≡◌}
use Rattle.recovery.proofs.Layers.{carries_over}
use Rattle.sci.specs.Calls.{fresh}
use Rattle.sci_laws.specs.Translate.{leaves, calls}
use Rattle.sci_laws.specs.Recovery.{CommandsRecover}
use Rattle.sci_laws.proofs.Translate.{layer}

pub commands_recover : CommandsRecover
commands_recover = carries_over leaves calls fresh (λ s p. s.port ≡ p) layer
