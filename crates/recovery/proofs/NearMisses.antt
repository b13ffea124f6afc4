-- The near misses (specs/NearMisses.antt), each by one worked list: it meets what is asked, and of the port in question what is claimed fails.
-- Assumes nothing.
use mathlib.Core.Path.{◌≡◌, refl}
use Prim.Native.Nat.{ℕ, zero, suc}
use mathlib.Core.Bool.{Bool, false}
use mathlib.Core.List.{List, [], ◌∷◌, ◌++◌}
use Rattle.port.specs.declared.Port.{Port}
use Rattle.frame.specs.Frame.{bits, format, one_if, word}
use Rattle.port.specs.Calls.{Answer, direct}
use Rattle.command.specs.declared.Call.{Call}
use Rattle.command.specs.declared.Call.TheVariants.{Wait, Read, Line, Power, Write}
use Rattle.recovery.specs.Line.{LineItem, signal, spread, stop_cells_begun, stop_cells_passed, tally_after, values, word_of}
use Rattle.recovery.specs.NearMisses.{NearMisses, counts_none, counts_two, deaf, halves_by, nothing_at_a_half, nothing_untested, rdr_never_varies, repeat, tally_stands, two_completions}
use Rattle.recovery.specs.Recovery.{Recovers, levels, run_wired, trace, wait_trace}
use Rattle.recovery.proofs.Compute.{count_halves, all_may, all_stand, are_separated, asked_of, breaks, history_meets, is_prefix, may_read, may_rest, none_by_8, refuted, rest_meets, says, stands, was_read, words_meet}
use Rattle.recovery.proofs.Computes.{computes}

-- the cells of a word, 16 halves each, in waits of eight
send : List Bool → List Call
send [] = []
send (b ∷ bs) = Line (one_if b) ∷ (Wait 8 ∷ Wait 8 ∷ send bs)

-- n halves one by one, RDR read after each
by_halves : ℕ → List Call
by_halves zero = []
by_halves (suc n) = Wait 1 ∷ Read 0xff9d ∷ by_halves n

-- module and main clock on, five data bits, a cell of 16 halves, RE: so the list is short
history : List Call
history = Power 3 ∷ Write 0xff98 4 ∷ Write 0xffa6 8 ∷ Write 0xff9a 0x10 ∷ []

-- 384 halves
rest : List Call
rest = Wait 384 ∷ []

-- the word of 0x15, RDR read after each half of its stop cell
words : List Call
words = send (bits 6 (word (format 4 8) 0x15)) ++ (Line 1 ∷ by_halves 16)

items : List LineItem
items = word_of 0x15 ∷ []

-- the test on this list, with all that it takes to compute it
computed : (Call → Port → Answer) → Bool
unfolding computes spread signal values stop_cells_begun stop_cells_passed tally_after levels run_wired wait_trace trace is_prefix may_rest may_read was_read are_separated all_may count_halves history_meets rest_meets words_meet asked_of says stands all_stand none_by_8 breaks repeat halves_by deaf rdr_never_varies tally_stands send by_halves history rest words items
computed port = breaks port 384 history rest words items

-- of the real port the list refutes nothing
real_stands : computed direct ≡ false
unfolding computed
real_stands = refl

nothing_at_a_half_fails : Recovers nothing_at_a_half → ⊥
unfolding computed
nothing_at_a_half_fails = refuted nothing_at_a_half history rest words items refl

nothing_untested_fails : Recovers nothing_untested → ⊥
unfolding computed
nothing_untested_fails = refuted nothing_untested history rest words items refl

counts_two_fails : Recovers counts_two → ⊥
unfolding computed
counts_two_fails = refuted counts_two history rest words items refl

counts_none_fails : Recovers counts_none → ⊥
unfolding computed
counts_none_fails = refuted counts_none history rest words items refl

two_completions_fails : Recovers two_completions → ⊥
unfolding computed
two_completions_fails = refuted two_completions history rest words items refl

deaf_fails : Recovers deaf → ⊥
unfolding computed
deaf_fails = refuted deaf history rest words items refl

rdr_never_varies_fails : Recovers rdr_never_varies → ⊥
unfolding computed
rdr_never_varies_fails = refuted rdr_never_varies history rest words items refl

tally_stands_fails : Recovers tally_stands → ⊥
unfolding computed
tally_stands_fails = refuted tally_stands history rest words items refl

pub near_misses : NearMisses
near_misses =
    record {
      not_nothing_at_a_half = nothing_at_a_half_fails;
      not_nothing_untested = nothing_untested_fails;
      not_counts_two = counts_two_fails;
      not_counts_none = counts_none_fails;
      not_two_completions = two_completions_fails;
      not_deaf = deaf_fails;
      not_rdr_never_varies = rdr_never_varies_fails;
      not_tally_stands = tally_stands_fails;
    }
