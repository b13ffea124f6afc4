-- A worked list of scripts and direct calls with a noisy history: it meets all that `ScriptsRecover` asks, so the claim is not empty; and what follows for it.
-- It goes as the list of recovery's Example.antt does: the first script is refused in mid word, a direct call resets the port, a direct call is refused, the second
-- script ends the history, holds the rest and the first word, and the third, on the state that it left, the second word. History, rest and the first word are in
-- cycles.
-- Assumes nothing.
use Prim.Native.Nat.{ℕ}
use mathlib.Core.Path.{◌≡◌, refl}
use mathlib.Core.Bool.{Bool, cond}
use mathlib.Core.List.{List, [], ◌∷◌, ◌++◌, map}
use lib.ListN.{replicate}
use Rattle.frame.specs.Frame.{bits, format, word}
use Rattle.command.specs.declared.Call.{Call}
use Rattle.command.specs.declared.Call.TheVariants.{Wait, Power, Read, Write, Line, Inside}
use Rattle.command.specs.declared.Command.{Command}
use Rattle.command.specs.declared.Command.TheVariants.{OnPort, Cycles}
use Rattle.command.specs.declared.Source.TheVariants.{System, Watch}
use Rattle.port.specs.Calls.{direct as port_direct}
use Rattle.pins.specs.Pins.{interrupt, transmit_level}
use Rattle.sci.specs.Cycle.{cycles}
use Rattle.sci.specs.Calls.{baud_valid, called, direct, fresh}
use Rattle.script.specs.RoundTrip.{script}
use Rattle.machine.specs.Machine.{play_items}
use Rattle.player.specs.Play.{play}
use Rattle.recovery.specs.Line.{LineItem, mark, signal, spread, stop_cells_begun, stop_cells_passed, tally_after, values, word_of}
use Rattle.recovery.specs.Layers.{Carried, CarriesOver, calls_made, state_after}
use Rattle.recovery.specs.Recovery.{completed, levels, run_wired, trace, wait_trace}
use Rattle.recovery.proofs.Compute.{count_halves, Met, all_may, are_separated, asked_of, history_meets, is_prefix, may_read, may_rest, meets, met, rest_meets, was_read, words_meet}
use Rattle.recovery.proofs.Computes.{computes}
use Rattle.sci_laws.specs.Translate.{cycle_calls}
use Rattle.script_laws.specs.Runs.{Action, all_calls, counts_as, leaves, makes_call, plays_script, sci_after}
use Rattle.script_laws.proofs.Runs.{scripts_recover}

-- a word begins
noise : List Call
noise = Power 3 ∷ Write 0xff98 0x20 ∷ Write 0xffa6 8 ∷ Write 0xff9a 0x10 ∷ Line 0 ∷ Wait 20 ∷ []

-- SPCR inverts the line, and BRR 0 makes each system cycle a half; the format changes in the word that begins at once; the line goes to mark
set_up : List Command
set_up =
    map OnPort (Power 3 ∷ Line 1 ∷ Write 0xff98 0x20 ∷ Write 0xff91 0x01 ∷ Write 0xff99 0 ∷ Write 0xff9a 0x10 ∷ [])
    ++ (Cycles System 45 ∷ map OnPort (Write 0xff98 0x60 ∷ Line 0 ∷ []))

-- 384 halves at mark, in which the stale word ends in a parity error, and cycles that count none; the flags are read, RDR is read, and the flags are cleared
resting : List Command
resting = Cycles System 384 ∷ Cycles Watch 3 ∷ map OnPort (Read 0xff9c ∷ Read 0xff9d ∷ Write 0xff9c 0x87 ∷ [])

-- cells on the inverted line, in each of which these commands pass 32 halves
send : List Command → List Bool → List Command
send cell [] = []
send cell (b ∷ bs) = OnPort (Line (cond b 0 1)) ∷ (cell ++ send cell bs)

-- five halves of mark and the word of 0x55; then RDR read, and with no mark between the word of 0x23, cut in its first stop cell
one_word : List Command
one_word = OnPort (Wait 5) ∷ send (Cycles System 32 ∷ []) (bits 10 (word (format 0x60 0) 0x55))

another : List Command
another =
    map OnPort (Read 0xff9d ∷ Inside ∷ []) ++ (send (map OnPort (Wait 8 ∷ Wait 24 ∷ [])) (bits 9 (word (format 0x60 0) 0x23)) ++ map OnPort (Line 0 ∷ Wait 20 ∷ []))

pub on_line : List LineItem
on_line = mark 5 ∷ word_of 0x55 ∷ word_of 0x23 ∷ []

log : List ℕ
log = replicate 300 0

-- what is done: after `noise` a byte that is no kind (10), at which the script is refused
pub actions : List Action
actions =
    plays_script (script (map OnPort noise) ++ (10 ∷ [])) log ∷ makes_call (OnPort (Power 8)) ∷ makes_call (OnPort (Wait 70000))
    ∷ plays_script (script (set_up ++ (resting ++ one_word))) log ∷ plays_script (script another) log ∷ []

-- the calls of commands where each system cycle is a half, and SMR does not choose the watch clock
counted : List Command → List Call
counted [] = []
counted (OnPort c ∷ cs) = c ∷ counted cs
counted (Cycles System n ∷ cs) = replicate n (Wait 1) ++ counted cs
counted (Cycles Watch n ∷ cs) = replicate n Inside ++ counted cs

-- its calls
pub history : List Call
history = noise ++ (Power 8 ∷ counted set_up)

pub rest : List Call
rest = counted resting

pub words : List Call
words = counted one_word ++ counted another

computed : Bool
unfolding computes spread signal values stop_cells_begun stop_cells_passed tally_after levels completed run_wired wait_trace trace is_prefix may_rest may_read was_read are_separated all_may count_halves history_meets rest_meets words_meet asked_of meets noise set_up resting send one_word another on_line counted history rest words
computed = meets port_direct history rest words on_line

noisy : Met port_direct history rest words on_line
unfolding computed
noisy = met port_direct history rest words on_line refl

these : all_calls actions ≡ history ++ (rest ++ words)
unfolding computed actions log fresh direct called baud_valid cycles cycle_calls calls_made state_after play play_items transmit_level interrupt
these = refl

pub follows : Carried leaves counts_as fresh (λ s p. s.port ≡ p) actions history rest words on_line
unfolding CarriesOver
follows = scripts_recover actions history rest words on_line these noisy.ended noisy.rested noisy.worded

-- the first script was refused, for a kind that is none of 1 to 9
refused_7 : (play fresh (script (map OnPort noise) ++ (10 ∷ [])) log).number ≡ 7
unfolding these
refused_7 = refl

-- the port received both words, one from each of the last two scripts
received_2 : (sci_after actions).port.received ≡ 2
unfolding these
received_2 = refl
