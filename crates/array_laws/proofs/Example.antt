-- Runs' worked list of scripts and direct calls with a noisy history, made on an array by exported calls: it meets all that demand 3 asks, so `ArraysRecover`
-- is not empty. The array is at the end the encoding of a state whose port has received both words.
-- Assumes nothing.
use mathlib.Core.Path.{◌≡◌, refl, ap, ◌∙◌}
use mathlib.Core.Bool.{true}
use Prim.Native.Nat.{ℕ}
use mathlib.Core.List.{List, [], ◌∷◌, ◌++◌, map}
use lib.ListN.{length, take, drop}
use Rattle.port.specs.Calls.{direct as port_direct}
use Rattle.sci.specs.Cycle.{cycles}
use Rattle.sci.specs.Calls.{baud_valid, called, direct, fresh}
use Rattle.recovery.specs.Layers.{state_after}
use Rattle.recovery.specs.Recovery.{rest_end, run_wired}
use Rattle.recovery.proofs.Computes.{computes}
use Rattle.script_laws.specs.Runs.{Action, sci_after}
use Rattle.script_laws.proofs.Example as worked
use Rattle.capi.specs.State.{encode, port_list, state_max, fits, number_in, format_in, character_in, tail_of, tx_of, tx_in, position_of, word_in, rx_in, port_of, port_in, baud_in, sci_in, decode}
use Rattle.capi.specs.Exports.{fresh_state, call}
use Rattle.array_laws.specs.Arrays.{Exported, sci3_call, array_after, actions, exported, with_port, AllActionsExported, ArraysAreStates}
use Rattle.array_laws.proofs.Arrays.{all_actions_exported, arrays_are_states}

pub exports : List Exported
exports = map exported worked.actions

pub recovers : (first : List ℕ) → length first ≡ length state_max
    → array_after (fresh_state first).state exports
    ≡ encode (with_port (sci_after worked.actions) (run_wired port_direct (rest_end port_direct worked.history worked.rest) worked.words).port)
unfolding ArraysAreStates AllActionsExported exports
recovers first h =
    arrays_are_states first exports h ∙ ap (λ (acts : List Action). encode (sci_after acts)) (all_actions_exported worked.actions)
    ∙ ap (λ p. encode (with_port (sci_after worked.actions) p)) (worked.follows).held

-- BRR 0, system cycles to the half 32, and then a kind that is none of 1 to 9: it counts for nothing, so the port stands at the edge of that half
abbrev unknown_kind : List Exported
unknown_kind = sci3_call 6 3 0 ∷ sci3_call 2 0xff99 0 ∷ sci3_call 8 32 0 ∷ sci3_call 10 0 0 ∷ []

at_edge : (sci_after (actions unknown_kind)).port.edge ≡ true
unfolding computes state_after fresh direct called baud_valid cycles
at_edge = refl

-- the same in numbers, through the array: module, main clock, subclock, reset mode, half count, phase, edge; and the clock
after_cycles : List ℕ
unfolding at_edge call decode fits sci_in baud_in port_in port_of number_in format_in character_in tx_in tx_of tail_of word_in rx_in position_of encode port_list
after_cycles = array_after (encode fresh) unknown_kind

in_numbers : take 7 (drop 10 after_cycles) ++ drop 53 after_cycles ≡ 1 ∷ 1 ∷ 0 ∷ 0 ∷ 32 ∷ 1 ∷ 1 ∷ 1 ∷ 32 ∷ 0 ∷ []
unfolding after_cycles
in_numbers = refl
