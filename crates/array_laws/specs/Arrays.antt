-- What holds of the lent array. From `sci3_fresh` on, through any `sci3_call` and `sci3_play`, it is the encoding of one state: the port with its clock after the
-- direct calls and scripts that they are. So what is proved of lists of direct calls and scripts is proved of the array: the laws, and demand 3.
-- The array is nobody else's to write meanwhile. Operands are any numbers, those of 32 bits among them.
-- Proved in proofs/Arrays.antt.
-- Assumes nothing.
use Rattle.std.specs.Prelude.{◌≡◌, ℕ, ◌<◌, true, false, cond, ◌&&◌, List, [], ◌∷◌, ◌++◌, map, leb, length, get_or, Some}
use Rattle.frame.specs.Frame.{one_if}
use Rattle.command.specs.declared.Call.{Call}
use Rattle.command.specs.declared.Command.{Command}
use Rattle.command.specs.Command.{command_of, kind, operands}
use Rattle.port.specs.declared.Port.{Port}
use Rattle.port.specs.Calls.{direct as port_direct, run as port_run}
use Rattle.port.specs.Power.{fresh as fresh_port}
use Rattle.pins.specs.Pins.{pins, interrupt}
use Rattle.sci.specs.declared.Sci.{Sci}
use Rattle.sci.specs.Calls.{done, direct, fresh, valid}
use Rattle.sci.specs.Cause.{call_cause}
use Rattle.player.specs.Play.{play}
use Rattle.recovery.specs.Line.{LineItem}
use Rattle.recovery.specs.Layers.{Carried, state_after}
use Rattle.recovery.specs.Recovery.{HistoryEnd, Rest, Words, rest_end, start, run_wired}
use Rattle.script_laws.specs.Runs.{Action, makes_call, plays_script, leaves, counts_as, sci_after, all_calls}
use Rattle.capi.specs.State.{decode, encode, state_max}
use Rattle.capi.specs.Exports.{calling, refusal, call_left, call, pins_number, pins_answer, interrupt_answer, fresh_state, playing, played}

-- ---- exported calls
-- the two that write the array: `sci3_call` with kind and operands, `sci3_play` with a script and what the lent log holds
pub data Exported : Type 0 where
  sci3_call : ℕ → ℕ → ℕ → Exported
  sci3_play : List ℕ → List ℕ → Exported

-- the array after one, and after a list of them
abbrev pub array_left : Exported → List ℕ → List ℕ
array_left (sci3_call k a b) array = (call k a b array).state
array_left (sci3_play script log) array = (played array script log).state

abbrev pub array_after : List ℕ → List Exported → List ℕ
array_after = state_after array_left

-- what one is as an action on a state: a direct call, nothing where the kind is none of 1 to 9, a script
abbrev pub action_of : Exported → List Action
action_of (sci3_call k a b) = cond (leb 1 k && leb k 9) (makes_call (command_of k a b) ∷ []) []
action_of (sci3_play script log) = plays_script script log ∷ []

abbrev pub actions : List Exported → List Action
actions [] = []
actions (e ∷ es) = action_of e ++ actions es

-- each action is one: the call of its kind and operands (0 where there is none), or the script
abbrev pub exported : Action → Exported
exported (makes_call c) = sci3_call (kind c) (get_or (operands c) 0 0) (get_or (operands c) 1 0)
exported (plays_script script log) = sci3_play script log

unfoldable pub AllActionsExported : Type 0
AllActionsExported = (acts : List Action) → actions (map exported acts) ≡ acts

-- ---- the array holds the state
-- an array that decodes to a state, as one that was stored and is lent again: it then decodes to the state after these actions
abbrev pub Holds : List ℕ → Sci → Type 0
Holds array s = decode array ≡ Some s

unfoldable pub ArraysHoldStates : Type 0
ArraysHoldStates = (array : List ℕ) (s : Sci) (es : List Exported) → Holds array s → Holds (array_after array es) (state_after leaves s (actions es))

-- after `sci3_fresh` it is the state's encoding, number for number; `first` is the array before, whatever it holds
unfoldable pub ArraysAreStates : Type 0
ArraysAreStates =
    (first : List ℕ) (es : List Exported) → length first ≡ length state_max
    → array_after (fresh_state first).state es ≡ encode (sci_after (actions es))

-- the state with this port in it
abbrev pub with_port : Sci → Port → Sci
with_port s p = record { port = p; baud = s.baud }

-- so the laws of grown ports are laws of it: its port is the one after the direct calls on the port that these actions are
unfoldable pub ArraysAreCalls : Type 0
ArraysAreCalls =
    (first : List ℕ) (es : List Exported) → length first ≡ length state_max
    → array_after (fresh_state first).state es ≡ encode (with_port (sci_after (actions es)) (port_run fresh_port (all_calls (actions es))))

-- ---- what is answered
-- by each export on an array that holds the state s: what a direct call on s, a run on s, the pins of its port and its interrupt request are; never 8
pub record Answers (array : List ℕ) (s : Sci) : Type 0 where
  pub of_call : (k a b : ℕ) → call k a b array ≡ cond (leb 1 k && leb k 9) (call_left array (call_cause (command_of k a b) s) (direct (command_of k a b) s)) (calling (refusal 7) 0 array)
  -- below 256, so that no value is taken for a refusal
  pub of_read : (c : Command) (v : ℕ) (t : Sci) → direct c s ≡ done v t → v < 256
  pub of_play : (script log : List ℕ) → let r = play s script log in played array script log ≡ playing r.number (r.offset ∷ r.used ∷ r.state.length ∷ []) (encode r.state.sci) r.log
  pub of_pins : pins_answer array ≡ pins_number (pins s.port)
  pub of_interrupt : interrupt_answer array ≡ one_if (interrupt s.port)

unfoldable pub HoldingAnswers : Type 0
HoldingAnswers = (array : List ℕ) (s : Sci) → Holds array s → valid s ≡ true → Answers array s

-- on an array whose state fails the field test: 8, whatever the kind or the script, and nothing is written
unfoldable pub FailingRefused : Type 0
FailingRefused =
    (array : List ℕ) (s : Sci) → Holds array s → valid s ≡ false
    → ((k a b : ℕ) → call k a b array ≡ calling (refusal 8) 0 array) × ((script log : List ℕ) → played array script log ≡ playing 8 (0 ∷ 0 ∷ 0 ∷ []) array log)

-- from `sci3_fresh` on the first of the two always
unfoldable pub ArraysAnswer : Type 0
ArraysAnswer =
    (first : List ℕ) (es : List Exported) → length first ≡ length state_max
    → Answers (array_after (fresh_state first).state es) (sci_after (actions es))

-- ---- demand 3
-- exported calls whose direct calls on the port are history, rest and words recover: `Recovered` and the demand's sentences hold of these calls (recovery's
-- Layers.antt), and the array is the encoding of a state with the port that they are about
unfoldable pub ArraysRecover : Type 0
ArraysRecover =
    (first : List ℕ) (es : List Exported) (history rest words : List Call) (line : List LineItem) → length first ≡ length state_max
    → all_calls (actions es) ≡ history ++ (rest ++ words)
    → HistoryEnd (run_wired port_direct start history) → Rest port_direct (run_wired port_direct start history) rest
    → Words port_direct (rest_end port_direct history rest) words line
    → Carried leaves counts_as fresh (λ s p. s.port ≡ p) (actions es) history rest words line
    × (array_after (fresh_state first).state es ≡ encode (with_port (sci_after (actions es)) (run_wired port_direct (rest_end port_direct history rest) words).port))
