-- A run writes no more than the log holds, and the log keeps its length.
-- Assumes nothing.
use mathlib.Core.List.{List}
use Prim.Native.Nat.{ℕ}
use Rattle.branches.proofs.Branches.{by_cond}
use Rattle.sci.specs.declared.Sci.{Sci}
use Rattle.sci.specs.Calls.{valid}
use Rattle.machine.proofs.Used.{Within, ended_within, items_within}
use Rattle.player.specs.Play.{room, items, started, act, play}
use Rattle.player.proofs.Laws.{sound}

pub within : (p : Sci) (s log : List ℕ) → Within log (play p s log)
unfolding play
within p s log = by_cond (Within log) (valid p) _ _ (λ t. items_within room act sound (started p) (items s) log) (λ t. ended_within 8 0 (started p) log)
