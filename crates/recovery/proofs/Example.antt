-- A worked list with a noisy history: it meets all that the claim asks, so the claim is not empty; and what follows for it.
-- Assumes nothing.
use mathlib.Core.Path.{◌≡◌, refl, ap, subst}
use Prim.Native.Nat.{ℕ, zero, suc, ◌<◌}
use native.Mathlib.Omega.{arith}
use mathlib.Core.Bool.{Bool, true, cond}
use mathlib.Core.List.{List, [], ◌∷◌, ◌++◌}
use lib.ListN.{replicate, length, take, drop, get_or}
use borrow.Author.Tests.{leb-true}
use Rattle.frame.specs.Frame.{bits, format, word}
use Rattle.port.specs.Baud.{format_of}
use Rattle.command.specs.declared.Call.{Call}
use Rattle.port.specs.Calls.{direct}
use Rattle.command.specs.declared.Call.TheVariants.{Wait, Inside, Read, Line, Pins, Power, Write}
use Rattle.port.specs.Power.{fresh}
use Rattle.recovery.specs.Corollaries.{Demand, Sentences, halves_in}
use Rattle.recovery.specs.Line.{LineItem, mark, other, signal, spread, stop_cells_begun, stop_cells_passed, tally_after, values, word_of}
use Rattle.recovery.specs.Outside.{ReadAfter, ReadBetween, RecoversOutside, RestOutside, WordsOutside}
use Rattle.recovery.specs.Recovery.{Moment, Recovered, Recovers, Rest, Wired, rest_end, completed, levels, run_wired, start, trace, wait_trace}
use Rattle.recovery.proofs.Compute.{count_halves, forms_sound, may_form, Met, all_may, are_separated, asked_of, history_meets, is_prefix, may_read, may_rest, meets, met, rest_meets, was_read, words_meet}
use Rattle.recovery.proofs.Computes.{computes}
use Rattle.recovery.proofs.Corollaries.{demand}
use Rattle.recovery.proofs.Outside.{recovers_outside}
use Rattle.recovery.proofs.Recovery.{recovery}

-- a word begins and reset mode comes in mid word; SPCR inverts the line, so that line 1 is off mark and a word begins at once; the format changes in
-- that word, from 8 data bits and parity to 7 and parity; the line goes to mark, and the word is left, stale
pub history : List Call
history =
    Power 3 ∷ Write 0xff98 0x20 ∷ Write 0xffa6 8 ∷ Write 0xff9a 0x10 ∷ Line 0 ∷ Wait 20 ∷ Power 8 ∷ Power 3 ∷ Line 1
    ∷ Write 0xff98 0x20 ∷ Write 0xff91 0x01 ∷ Write 0xff9a 0x10 ∷ Wait 45 ∷ Write 0xff98 0x60 ∷ Line 0 ∷ []

-- 384 halves at mark, in which the stale word ends in a parity error; the flags are read, RDR is read, and the flags are cleared; two calls are refused
pub rest : List Call
rest = Wait 384 ∷ Read 0xff9c ∷ Read 0xff9d ∷ Write 0xff9c 0x87 ∷ Wait 70000 ∷ Power 16 ∷ []

-- a cell of 32 halves on the inverted line
send : List Bool → List Call
send [] = []
send (b ∷ bs) = Line (cond b 0 1) ∷ (replicate 4 (Wait 8) ++ send bs)

-- five halves of mark, the word of 0x55, a refused write, RDR read, and with no mark between the word of 0x23, cut after 20 halves of its first stop cell
pub words : List Call
words =
    Wait 5 ∷ (send (bits 10 (word (format 0x60 0) 0x55)) ++ (Write 0xff98 300 ∷ Read 0xff9d ∷ Inside
    ∷ (send (bits 9 (word (format 0x60 0) 0x23)) ++ (Pins 1 0 ∷ Wait 8 ∷ Wait 12 ∷ []))))

pub items : List LineItem
items = mark 5 ∷ word_of 0x55 ∷ word_of 0x23 ∷ []

-- the test of what is asked, with all that it takes to compute it
computed : Bool
unfolding computes spread signal values stop_cells_begun stop_cells_passed tally_after levels completed run_wired wait_trace trace is_prefix may_rest may_read was_read are_separated all_may count_halves history_meets rest_meets words_meet asked_of meets history rest send words items
computed = meets direct history rest words items

-- it meets what is asked
noisy : Met direct history rest words items
unfolding computed
noisy = met direct history rest words items refl

-- and so what is claimed follows
pub follows : Recovered direct history rest words items
unfolding Recovers
follows = recovery history rest words items noisy.ended noisy.rested noisy.worded

pub sentences : Sentences (run_wired direct (run_wired direct start history) rest).port items (trace direct (run_wired direct (run_wired direct start history) rest) words)
unfolding Demand
sentences = demand history rest words items noisy.ended noisy.rested noisy.worded

-- it also meets what can be checked from outside. RDR is read after the first stop cell of the first word, halves 294 to 325, and before that of the second, which
-- begins at half 614: at the 336th moment, 325 halves and ten calls of the line before it. Clocked form is never asked for
r : Wired
r = run_wired direct (run_wired direct start history) rest

ms : List Moment
ms = trace direct r words

split_at : (k : ℕ) (l : List Moment) (m : Moment) → k < length l → l ≡ take k l ++ (get_or l k m ∷ drop (suc k) l)
split_at k [] m h = let z : ⊥ = omega arith in absurd z
split_at zero (x ∷ l) m h = refl
split_at (suc k) (x ∷ l) m h = ap (λ (xs : List Moment). x ∷ xs) (split_at k l m (omega arith))

first_read : ReadAfter (format_of r.port) items ms 1
unfolding computed r ms
first_read =
    record {
      before = take 335 ms;
      read = get_or ms 335 (record { event = other; port = r.port });
      later = drop 336 ms;
      split = split_at 335 ms (record { event = other; port = r.port }) (leb-true 336 (length ms) refl);
      answer = 0x55;
      of_rdr = refl;
      passed = refl;
      begun = refl;
    }

two_begun : stop_cells_begun (format_of r.port) items (halves_in ms) ≡ 2
unfolding computed r ms
two_begun = refl

reads_between : ReadBetween (format_of r.port) items ms
reads_between n lo up = let e : 1 ≡ n = omega (arith, two_begun) in subst (ReadAfter (format_of r.port) items ms) e first_read

form : Bool
unfolding computed may_form
form = all_may direct may_form (λ q. true) start (history ++ rest)

rested_outside : RestOutside direct history rest
unfolding form fresh
rested_outside =
    let w : Rest direct (run_wired direct start history) rest = noisy.rested in
    record {
      line = w.line;
      calls = w.calls;
      long = w.long;
      flags = w.flags;
      form = record { before = []; since = history ++ rest; split = refl; re_clear = refl; start_stop = refl; kept = forms_sound direct (history ++ rest) start refl };
    }

worded_outside : WordsOutside direct (rest_end direct history rest) words items
unfolding ms r
worded_outside = record { calls = noisy.worded.calls; line = noisy.worded.line; reads = reads_between }

pub follows_outside : Recovered direct history rest words items × Sentences (rest_end direct history rest).port items (trace direct (rest_end direct history rest) words)
unfolding RecoversOutside
follows_outside = recovers_outside history rest words items noisy.ended rested_outside worded_outside

-- both words completed, the second in a cell that was cut
two : completed (trace direct r words) 645 ≡ 2
unfolding computed completed r
two = refl

-- the history was noisy: after the 384 halves SSR had TDRE, TEND and a parity error, of the stale word
parity_error : (run_wired direct (run_wired direct start history) (Wait 384 ∷ [])).port.ssr ≡ 0x8c
unfolding computed
parity_error = refl
