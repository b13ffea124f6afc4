-- How demand 3 carries over to what stands above the port: a script's commands, exported calls on an array, anything whose commands come to direct calls on
-- one port. `Recovers` (Recovery.antt) is about lists of direct calls; here the list is the one that such commands make, one command after the other.
-- Proved in proofs/Layers.antt, once for all layers. (Outside.antt has conditions that a caller can check, from which `Rest` and `Words` follow.)
-- Assumes nothing.
use Rattle.std.specs.Prelude.{◌≡◌, List, [], ◌∷◌, ◌++◌}
use Rattle.port.specs.declared.Port.{Port}
use Rattle.command.specs.declared.Call.{Call}
use Rattle.port.specs.Calls.{direct, run as port_run}
use Rattle.port.specs.Power.{fresh}
use Rattle.recovery.specs.Corollaries.{Sentences}
use Rattle.recovery.specs.Line.{LineItem}
use Rattle.recovery.specs.Recovery.{HistoryEnd, Recovered, Rest, Words, rest_end, run_wired, start, trace}

-- A layer has states S and commands C. A command changes the state (`does`) and makes direct calls (`calls`), none, one or many, by the state that it is given.
-- The state after a list of commands, each on the state that the one before left
unfoldable pub state_after : {S C : Type 0} → (C → S → S) → S → List C → S
state_after does s [] = s
state_after does s (c ∷ cs) = state_after does (does c s) cs

-- the calls that they make, in order
unfoldable pub calls_made : {S C : Type 0} → (C → S → S) → (C → S → List Call) → S → List C → List Call
calls_made does calls s [] = []
calls_made does calls s (c ∷ cs) = calls c s ++ calls_made does calls (does c s) cs

-- `first` is its first state, and `holds s p` says that its state s holds the port p
module _ {S C : Type 0} (does : C → S → S) (calls : C → S → List Call) (first : S) (holds : S → Port → Type 0) where
  -- what a layer has to show: its first state holds the fresh port; and where a state holds a port, the state after a command holds the port that the
  -- command's calls leave of it
  pub record Layer : Type 0 where
    pub first_held : holds first fresh
    pub kept : (c : C) (s : S) (p : Port) → holds s p → holds (does c s) (port_run p (calls c s))

  -- what then holds of commands whose calls are history, rest and words: what the theorem says of these calls, the demand's sentences, and that the state
  -- after the commands holds the port that both are about
  pub record Carried (cs : List C) (history rest words : List Call) (line : List LineItem) : Type 0 where
    pub recovered : Recovered direct history rest words line
    pub sentences : Sentences (rest_end direct history rest).port line (trace direct (rest_end direct history rest) words)
    pub held : holds (state_after does first cs) (run_wired direct (rest_end direct history rest) words).port

  -- where history and rest end is free: it may be in the midst of one command's calls
  unfoldable pub CarriesOver : Type 0
  CarriesOver =
      (cs : List C) (history rest words : List Call) (line : List LineItem) → calls_made does calls first cs ≡ history ++ (rest ++ words)
      → HistoryEnd (run_wired direct start history) → Rest direct (run_wired direct start history) rest → Words direct (rest_end direct history rest) words line
      → Carried cs history rest words line
