-- The claim of specs/Recovery.antt, proved of the real port.
-- Assumes nothing.
use mathlib.Core.Path.{sym, ap, ◌∙◌, subst}
use Prim.Native.Nat.{◌≤◌}
use mathlib.Core.Bool.{Bool}
use mathlib.Core.List.{List, ◌++◌}
use lib.ListN.{length}
use Rattle.frame.specs.Frame.{differ, has}
use Rattle.port.specs.Baud.{format_of}
use Rattle.command.specs.declared.Call.{Call}
use Rattle.port.specs.Calls.{direct}
use Rattle.port_laws.proofs.Laws.{fresh_passes}
use Rattle.port_laws.specs.Laws.{FreshPasses}
use Rattle.recovery.specs.Line.{LineItem, none_yet, prefix, signal}
use Rattle.recovery.specs.Recovery.{HistoryEnd, Moment, Recovers, Rest, Wired, allowed_in_words, each, levels, run_wired, separated, start, throughout, trace}
use Rattle.recovery.proofs.Bridge.{Grown, grown_run, never_by_8, rest_calls, run_is, trace_is, words_calls}
use Rattle.recovery.proofs.LineFold.{lined_start}
use Rattle.recovery.proofs.Once.{once_each}
use Rattle.recovery.proofs.Reached.{near_fresh}
use Rattle.recovery.proofs.RestCalls.{Asked, all_hold, first_holds}
use Rattle.recovery.proofs.WordCalls.{separately}

pub grown_start : Grown start
unfolding FreshPasses
grown_start = record { lined = lined_start; tested = fresh_passes; near = near_fresh }

pub asked : (h : Wired) (rest words : List Call) (items : List LineItem) → Grown h → HistoryEnd h → Rest direct h rest
    → each direct (λ c a s. allowed_in_words c a) (run_wired direct h rest) words → prefix (levels (trace direct (run_wired direct h rest) words)) (signal (format_of (run_wired direct h rest).port) items)
    → Asked h.port (run_wired direct h rest).port rest words items
asked h rest words items g he rs calls line =
    let r : Wired = run_wired direct h rest in
    record {
      re = he.re;
      start_stop = he.start_stop;
      clock = he.clock;
      line = ap (λ (b : Bool). differ b (has h.port.spcr 1)) g.lined ∙ rs.line;
      calls = rest_calls rest h g.lined rs.calls;
      long = subst (λ (ms : List Moment). 384 ≤ length (levels ms)) (trace_is rest h g) rs.long;
      reached = run_is rest h;
      flags = rs.flags;
      no_clocked_word = rs.no_clocked_word;
      reading = words_calls words r calls;
      signals = subst (λ (ms : List Moment). prefix (levels ms) (signal (format_of r.port) items)) (trace_is words r (grown_run rest h g)) line;
    }

-- demand 3
pub recovery : Recovers direct
unfolding Recovers
recovery history rest words items he rs ws =
    let h : Wired = run_wired direct start history in
    let r : Wired = run_wired direct h rest in
    let gh : Grown h = grown_run history start grown_start in
    let gr : Grown r = grown_run rest h gh in
    let a : Asked h.port r.port rest words items = asked h rest words items gh he rs ws.calls ws.line in
    let ms : throughout r.port items none_yet (trace direct r words)
    = subst (throughout r.port items none_yet) (sym (trace_is words r gr))
    (all_hold h.port r.port rest words items gh.near a separated (separately r.port items) (subst (separated none_yet) (trace_is words r gr) ws.reads)) in
    record {
      tested = never_by_8 (history ++ (rest ++ words)) start grown_start;
      at_first = first_holds h.port r.port rest words items gh.near a;
      conditions = ms;
      once = λ xs ys v e. once_each r.port items (trace direct r words) ms xs ys v e;
    }
