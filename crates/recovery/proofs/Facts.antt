-- Computed facts: single numbers of the statement and of the real port on short lists, so that a mistake that definition and theorem share shows.
-- Assumes nothing.
use mathlib.Core.Path.{◌≡◌, refl}
use Prim.Native.Nat.{ℕ, suc}
use mathlib.Core.Bool.{Bool, true, false, cond}
use mathlib.Core.List.{List, [], ◌∷◌, ◌++◌}
use lib.Dec.{eqb}
use lib.ListN.{replicate, length}
use Rattle.frame.specs.Frame.{bits, format, one_if, word}
use Rattle.command.specs.declared.Call.{Call}
use Rattle.port.specs.Calls.{direct}
use Rattle.command.specs.declared.Call.TheVariants.{Wait, Read, Line, Power, Write}
use Rattle.shift.specs.Receiver.{rx_clocked}
use Rattle.recovery.specs.Line.{mark, signal, spread, stop_cells_begun, stop_cells_passed, tally_after, values, word_of}
use Rattle.recovery.specs.Outside.{clock_runs}
use Rattle.recovery.specs.Recovery.{Rest, Wired, completed, levels, run_wired, start, trace, wait_trace}
use Rattle.recovery.proofs.Compute.{count_halves, all_may, all_stand, are_separated, asked_of, breaks, history_meets, is_prefix, may_read, may_rest, none_by_8, rest_meets, says, stands, was_read, words_meet}
use Rattle.recovery.proofs.Computes.{computes}
use native.Mathlib.Omega.{arith}

-- ---- the line: cells, levels, and the halves of the first stop cell
-- SMR 4 (five data bits), SEMR 8 (16 halves): start, 1 0 1 0 1, stop; 0x15 and 0x55 have the same data bits
five : signal (format 4 8) (mark 3 ∷ word_of 0x55 ∷ [])
    ≡ replicate 3 true ++ (replicate 16 false ++ (replicate 16 true ++ (replicate 16 false ++ (replicate 16 true ++ (replicate 16 false ++ replicate 32 true)))))
unfolding computes spread signal
five = refl

five_value : values (format 4 8) (mark 3 ∷ word_of 0x55 ∷ []) ≡ 0x15 ∷ []
unfolding computes values
five_value = refl

-- SMR 0, SEMR 0: the first stop cell is halves 289 to 320
stop_cell : (stop_cells_begun (format 0 0) (word_of 0x55 ∷ []) 288 ∷ stop_cells_begun (format 0 0) (word_of 0x55 ∷ []) 289
    ∷ stop_cells_passed (format 0 0) (word_of 0x55 ∷ []) 319 ∷ stop_cells_passed (format 0 0) (word_of 0x55 ∷ []) 320 ∷ []) ≡ 0 ∷ 1 ∷ 0 ∷ 1 ∷ []
unfolding computes stop_cells_begun stop_cells_passed
stop_cell = refl

-- the tally wraps to zero
wraps : tally_after 1 0xffffffffffffffff ≡ 0
unfolding tally_after
wraps = refl

-- ---- the port: one word of 0x55 on a line that falls after `at` halves; SEMR and SPCR as given, and the level of mark to match
cell_of : ℕ → List Call
cell_of semr = cond (eqb semr 8) (Wait 8 ∷ Wait 8 ∷ []) (replicate 4 (Wait 8))

send : ℕ → ℕ → List Bool → List Call
send semr spcr [] = []
send semr spcr (b ∷ bs) = Line (cond (eqb spcr 1) (cond b 0 1) (one_if b)) ∷ (cell_of semr ++ send semr spcr bs)

set_up : ℕ → ℕ → ℕ → List Call
set_up semr spcr at = Power 3 ∷ Write 0xff91 spcr ∷ Write 0xffa6 semr ∷ Line (cond (eqb spcr 1) 0 1) ∷ Write 0xff9a 0x10 ∷ Wait at ∷ []

words : ℕ → ℕ → List Call
words semr spcr = send semr spcr (bits 10 (word (format 0 semr) 0x55))

-- the completions within the first k halves of the word, and within k + 1; the halves of the trace; then the port's half count, RDR, SSR and tally
report : ℕ → ℕ → ℕ → ℕ → List ℕ
unfolding computes levels completed run_wired wait_trace trace cell_of send set_up words
report semr spcr at k =
    let s = run_wired direct start (set_up semr spcr at) in
    let ms = trace direct s (words semr spcr) in
    let p = (run_wired direct s (words semr spcr)).port in
    completed ms k ∷ completed ms (suc k) ∷ length (levels ms) ∷ p.half ∷ p.rdr ∷ p.ssr ∷ p.received ∷ []

-- a cell of 32 halves: the stop sample is half 304 of the word if the word begins after an even half, and 305 after an odd one
even : report 0 0 100 303 ≡ 0 ∷ 1 ∷ 320 ∷ 420 ∷ 0x55 ∷ 0xc4 ∷ 1 ∷ []
unfolding report
even = refl

odd : report 0 0 101 304 ≡ 0 ∷ 1 ∷ 320 ∷ 421 ∷ 0x55 ∷ 0xc4 ∷ 1 ∷ []
unfolding report
odd = refl

-- SEMR bit 3: a cell of 16 halves; the first stop cell is halves 145 to 160, sampled at 152
fast : report 8 0 100 151 ≡ 0 ∷ 1 ∷ 160 ∷ 260 ∷ 0x55 ∷ 0xc4 ∷ 1 ∷ []
unfolding report
fast = refl

-- SPCR bit 0: the same with the line inverted
inverted : report 8 1 100 151 ≡ 0 ∷ 1 ∷ 160 ∷ 260 ∷ 0x55 ∷ 0xc4 ∷ 1 ∷ []
unfolding report
inverted = refl

-- ---- the rest: 383 halves are no rest
h : Wired
h = run_wired direct start (set_up 0 0 0)

short : length (levels (trace direct h (replicate 42 (Wait 9) ++ (Wait 5 ∷ [])))) ≡ 383
unfolding report h
short = refl

no_rest : Rest direct h (replicate 42 (Wait 9) ++ (Wait 5 ∷ [])) → ⊥
no_rest rs = omega (arith, short, rs.long)

-- and with 256 for 384 the claim would be false. A word of 8 data bits and parity is in the receiver at history's end, its start cell just sampled. After
-- 256 halves at mark it is there still, with no flag set, and takes the first cells of the next word for its own
too_early : List Call
too_early = Power 3 ∷ Write 0xff98 0x20 ∷ Write 0xff9a 0x10 ∷ Line 0 ∷ Wait 17 ∷ Line 1 ∷ []

with_256 : breaks direct 256 too_early (Wait 256 ∷ []) (send 0 0 (bits 4 (word (format 0x20 0) 0x55))) (word_of 0x55 ∷ []) ≡ true
unfolding report too_early spread signal values stop_cells_begun stop_cells_passed tally_after is_prefix may_rest may_read was_read are_separated all_may count_halves history_meets rest_meets words_meet asked_of says stands all_stand none_by_8 breaks
with_256 = refl

-- ---- what can be checked from outside (specs/Outside.antt): why it is asked
-- RDR read in the first stop cell, but before its sample, is read too early: the next word overruns (SSR 0xe4). Read when the cell has passed it is in time (0xc4)
two_words : List Call → List Call → List Call
two_words inside behind =
    send 8 0 (bits 9 (word (format 0 8) 0x55)) ++ (Line 1 ∷ Wait 4 ∷ (inside ++ (Wait 12 ∷ (behind ++ send 8 0 (bits 10 (word (format 0 8) 0x23))))))

too_early_read : (run_wired direct (run_wired direct start (set_up 8 0 100)) (two_words (Read 0xff9d ∷ []) [])).port.ssr ≡ 0xe4
unfolding report two_words
too_early_read = refl

read_in_time : (run_wired direct (run_wired direct start (set_up 8 0 100)) (two_words [] (Read 0xff9d ∷ []))).port.ssr ≡ 0xc4
unfolding report two_words
read_in_time = refl

-- a clocked word, begun while SMR asked for it, stays in the receiver when SMR goes back to start-stop form with RE set, and goes with RE
left : List Call
left = Power 3 ∷ Write 0xff98 0x80 ∷ Write 0xff9a 0x10 ∷ Wait 4 ∷ Write 0xff98 0 ∷ []

stays_clocked : rx_clocked (run_wired direct start left).port.rx ≡ true
unfolding report left
stays_clocked = refl

goes_with_re : rx_clocked (run_wired direct start (left ++ (Write 0xff9a 0 ∷ Write 0xff9a 0x10 ∷ []))).port.rx ≡ false
unfolding report left
goes_with_re = refl

-- the internal clock runs with module and main clock on; not in reset mode, without a clock, on the subclock unless SMR asks for it, or on the clock pin
clock : (clock_runs 3 0 0 ∷ clock_runs 11 0 0 ∷ clock_runs 1 0 0 ∷ clock_runs 5 0 0 ∷ clock_runs 5 0 1 ∷ clock_runs 3 2 0 ∷ []) ≡ true ∷ false ∷ false ∷ false ∷ true ∷ false ∷ []
unfolding computes
clock = refl
