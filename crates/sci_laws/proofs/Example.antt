-- The worked list of specs/Example.antt meets what is asked, by computation; and what follows for it.
-- Assumes nothing.
use mathlib.Core.Path.{◌≡◌, refl}
use mathlib.Core.Bool.{Bool}
use mathlib.Core.List.{◌++◌}
use Rattle.port.specs.Calls.{direct as port_direct}
use Rattle.recovery.specs.Layers.{Carried, CarriesOver, calls_made, state_after}
use Rattle.recovery.specs.Line.{signal, spread, stop_cells_begun, stop_cells_passed, tally_after, values}
use Rattle.recovery.specs.Recovery.{completed, levels, run_wired, trace, wait_trace}
use Rattle.recovery.proofs.Compute.{count_halves, Met, all_may, are_separated, asked_of, history_meets, is_prefix, may_read, may_rest, meets, met, rest_meets, was_read, words_meet}
use Rattle.recovery.proofs.Computes.{computes}
use Rattle.sci.specs.Cycle.{cycles}
use Rattle.sci.specs.Calls.{baud_valid, called, direct, fresh}
use Rattle.sci_laws.specs.Translate.{all_calls, calls, cycle_calls, leaves, run}
use Rattle.sci_laws.specs.Example.{commands, history, rest, words, line, Worked}
use Rattle.sci_laws.proofs.Recovery.{commands_recover}

these : all_calls fresh commands ≡ history ++ (rest ++ words)
unfolding computes fresh direct called baud_valid cycles cycle_calls calls_made state_after commands history rest words
these = refl

computed : Bool
unfolding computes spread signal values stop_cells_begun stop_cells_passed tally_after levels completed run_wired wait_trace trace is_prefix may_rest may_read was_read are_separated all_may count_halves history_meets rest_meets words_meet asked_of meets history rest words
computed = meets port_direct history rest words line

asked : Met port_direct history rest words line
unfolding computed
asked = met port_direct history rest words line refl

pub worked : Worked
unfolding Worked
worked = (these, asked.ended, asked.rested, asked.worded)

pub follows : Carried leaves calls fresh (λ s p. s.port ≡ p) commands history rest words line
unfolding CarriesOver
follows = commands_recover commands history rest words line these asked.ended asked.rested asked.worded

-- both words were received, the stale one and the one that was cut
received : (run fresh commands).port.received ≡ 2
unfolding these
received = refl
