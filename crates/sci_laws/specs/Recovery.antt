-- Demand 3 for commands of kinds 1 to 9: commands whose direct calls on the port are history, rest and words recover (recovery's Layers.antt), and the port
-- inside is the one that the theorem is about. Where history and rest end is free: it may be in the midst of a command of cycles, as in Example.antt.
-- Proved in proofs/Recovery.antt.
-- Assumes nothing.
use Rattle.std.specs.Prelude.{◌≡◌}
use Rattle.recovery.specs.Layers.{CarriesOver}
use Rattle.sci.specs.Calls.{fresh}
use Rattle.sci_laws.specs.Translate.{leaves, calls}

abbrev pub CommandsRecover : Type 0
CommandsRecover = CarriesOver leaves calls fresh (λ s p. s.port ≡ p)
