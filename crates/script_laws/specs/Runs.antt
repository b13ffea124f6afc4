-- What holds of every run of a script. A run is its commands' direct calls, each on the state that the one before left, and its log their records; the
-- test 8 at entry is the only one that can refuse by 8; and what the recovery theorem says of lists of direct calls holds of lists of direct calls and
-- scripts (document 01, "Healing": "Once the player is there, a script counts as its commands' calls").
-- Proved in proofs/Runs.antt; proofs/Example.antt has a list with a noisy history that meets all that demand 3 asks.
-- Assumes nothing.
use Rattle.std.specs.Prelude.{◌≡◌, ℕ, true, List}
use Rattle.command.specs.declared.Call.{Call}
use Rattle.command.specs.declared.Command.{Command}
use Rattle.machine.specs.Machine.{Run, commands, played, IsItsCommands}
use Rattle.port.specs.Calls.{run as port_run}
use Rattle.port.specs.Power.{fresh as fresh_port}
use Rattle.port_laws.specs.Ranges.{InRange}
use Rattle.sci.specs.declared.Sci.{Sci}
use Rattle.sci.specs.Calls.{fresh, valid}
use Rattle.player.specs.Play.{Progress, room, items, started, act, play}
use Rattle.recovery.specs.Layers.{CarriesOver, calls_made, state_after}
use Rattle.sci_laws.specs.Translate.{calls, run, all_calls as calls_of, leaves as call_leaves}

-- ---- a run is its commands' direct calls
-- the commands that were played: the first ones, as many as filled the bytes of the log that were written
abbrev pub commands_played : List ℕ → Run Progress → List Command
commands_played b r = played room r.used (commands (items b))

-- the run r of the script b on the state s, where the log was `before`
pub record IsItsCalls (s : Sci) (b before : List ℕ) (r : Run Progress) : Type 0 where
  -- none of them was refused; the log begins with their records, and every other byte is as it was; a script that was accepted was played whole
  -- (machine's Machine.antt)
  pub its_commands : IsItsCommands room act (started s) (commands (items b)) before r
  -- their direct calls leave the state
  pub sci : r.state.sci ≡ run s (commands_played b r)

abbrev pub RunsAreCalls : Type 0
RunsAreCalls = (s : Sci) (b log : List ℕ) → IsItsCalls s b log (play s b log)

-- ---- "The player tests 8 once at entry"
abbrev pub EightAtEntryOnly : Type 0
EightAtEntryOnly = (s : Sci) (b log : List ℕ) → InRange s.port → valid s ≡ true → (play s b log).number ≡ 8 → ⊥

-- ---- scripts after scripts
-- what is done with a state: a direct call is made, or a whole script (its bytes, and the log that is lent) is played
pub data Action : Type 0 where
  makes_call : Command → Action
  plays_script : List ℕ → List ℕ → Action

-- the state that an action leaves, be it accepted or refused
abbrev pub leaves : Action → Sci → Sci
leaves (makes_call c) s = call_leaves c s
leaves (plays_script b log) s = (play s b log).state.sci

-- its direct calls on the port (sci_laws' Translate.antt): "a script counts as its commands' calls": those that were played, up to the one that was refused
abbrev pub counts_as : Action → Sci → List Call
counts_as (makes_call c) s = calls c s
counts_as (plays_script b log) s = calls_of s (commands_played b (play s b log))

-- actions made one after the other on a fresh state, each on the state that the one before left: the state after them, and their calls
abbrev pub sci_after : List Action → Sci
sci_after = state_after leaves fresh

abbrev pub all_calls : List Action → List Call
all_calls = calls_made leaves counts_as fresh

-- after any actions the port is the one that their calls leave, and the state passes the field test: so a script that is played next is never refused by 8
-- (and by `RunsAreCalls` it is its calls, and its log their records)
pub record AfterActions (acts : List Action) : Type 0 where
  pub port : (sci_after acts).port ≡ port_run fresh_port (all_calls acts)
  pub passes : valid (sci_after acts) ≡ true
  pub never_by_8 : (b log : List ℕ) → (play (sci_after acts) b log).number ≡ 8 → ⊥

abbrev pub ActionsAreCalls : Type 0
ActionsAreCalls = (acts : List Action) → AfterActions acts

-- ---- demand 3
-- actions whose calls are history, rest and words recover: `Recovered` and the demand's sentences hold of these calls, and the port after the actions is
-- the one that they are about. Where history and rest end is free: between two actions, or inside a script (recovery's Layers.antt). One script on a fresh
-- state is the list of that one action
abbrev pub ScriptsRecover : Type 0
ScriptsRecover = CarriesOver leaves counts_as fresh (λ s p. s.port ≡ p)
