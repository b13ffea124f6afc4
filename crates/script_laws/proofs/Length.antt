-- The laws of the length (specs/Length.antt), by those of runs (Runs.antt), of edges (port_laws' Edges.antt, sci_laws' Translate.antt), and of scripts in two parts
-- (machine's and script's Parts.antt).
-- Assumes nothing.
use mathlib.Core.Path.{◌≡◌, refl, sym, ap, ◌∙◌}
use mathlib.Core.Bool.{true}
use mathlib.Core.List.{List, [], ◌∷◌, ◌++◌}
use Prim.Native.Nat.{ℕ, ◌+◌, ◌%◌, ◌^◌, ◌≤◌}
use native.Mathlib.Omega.{arith}
use lib.ListN.{length, drop}
use lib.Dec.{ltb}
use Rattle.branches.proofs.Branches.{cond_true, either_way}
use Rattle.command.specs.declared.Call.{Call}
use Rattle.command.specs.declared.Command.{Command}
use Rattle.port.specs.declared.Port.{Port}
use Rattle.port.specs.Calls.{run as port_run}
use Rattle.port.specs.Valid.{limit, valid as port_valid}
use Rattle.port_laws.specs.Edges.{RunsMoveHalfCount, edges_of}
use Rattle.port_laws.specs.Ranges.{InRange}
use Rattle.port_laws.proofs.Edges.{edges_append, runs_move_half_count}
use Rattle.port_laws.proofs.KeepValid.{valid_sound}
use Rattle.port_laws.proofs.Laws.{run_valid}
use Rattle.sci.specs.declared.Sci.{Sci}
use Rattle.sci.specs.Cause.{call_cause}
use Rattle.sci.specs.Calls.{Answer, done, refused, direct, edges, valid}
use Rattle.sci.proofs.Steps.{port_passes}
use Rattle.script.proofs.Parts.{script_in_parts}
use Rattle.machine.specs.Machine.{Item, a_command, a_fault, Acts, AllAct, left, last, Run, recorded, answered, play_items}
use Rattle.machine.proofs.Parts.{joined, runs_in_parts}
use Rattle.machine.proofs.Whole.{ReadWhole, accepted_whole}
use Rattle.player.specs.Play.{Progress, record_length, record_of, room, items, started, longer, act_of, act, play}
use Rattle.player.proofs.Laws.{sound}
use Rattle.recovery.specs.Layers.{calls_made}
use Rattle.sci_laws.specs.Translate.{SamePort, SameEdges, all_calls, calls, leaves}
use Rattle.sci_laws.proofs.Laws.{passing_run}
use Rattle.sci_laws.proofs.Translate.{leaves_port, same_edges, same_port}
use Rattle.script_laws.specs.Runs.{commands_played}
use Rattle.script_laws.specs.Length.{LengthIsEdges, LengthIsGrowth, both, PlayedInParts, LengthsAdd}
use Rattle.script_laws.proofs.Runs.{one_call, runs_are_calls, no_fault_0}

-- ---- edges

-- one command that is played
one_longer : (c : Command) (p : Progress) (a : Answer) → direct c p.sci ≡ a → Acts (act_of c p a) →
    (left p (act_of c p a)).length ≡ longer p.length (edges_of p.sci.port (calls c p.sci))
unfolding SameEdges
one_longer c p (done v s) e h = ap (longer p.length) (same_edges c p.sci s v e)
one_longer c p (refused n offset s) e h = absurd h

lengths : (cs : List Command) (p : Progress) (x : ℕ) → AllAct act p cs → p.length ≡ x % 2 ^ 64 →
    (last act p cs).length ≡ (x + edges_of p.sci.port (all_calls p.sci cs)) % 2 ^ 64
unfolding calls_made edges_of
lengths [] p x h e = omega (arith, e)
lengths (c ∷ cs) p x h e =
    let s : Sci = leaves c p.sci in
    let n : ℕ = edges_of p.sci.port (calls c p.sci) in
    let one : (left p (act c p)).length ≡ (x + n) % 2 ^ 64 = omega (arith, one_longer c p (direct c p.sci) refl h.0, e) in
    lengths cs (left p (act c p)) (x + n) h.1 one
    ∙ ap (λ (t : Sci). (x + n + edges_of t.port (all_calls t cs)) % 2 ^ 64) (one_call c p (direct c p.sci) h.0)
    ∙ omega (arith, edges_append (calls c p.sci) (all_calls s cs) p.sci.port, ap (λ (q : Port). edges_of q (all_calls s cs)) (leaves_port c p.sci))

pub length_is_edges : LengthIsEdges
length_is_edges s b log =
    let i = runs_are_calls s b log in
    ap (λ (p : Progress). p.length) i.its_commands.state
    ∙ lengths (commands_played b (play s b log)) (started s) 0 i.its_commands.accepted refl ∙ omega arith

pub length_is_growth : LengthIsGrowth
unfolding play SamePort RunsMoveHalfCount
length_is_growth s b log r =
    either_way (valid s)
    (λ v.
    let cs : List Call = all_calls s (commands_played b (play s b log)) in
    let port : (play s b log).state.sci.port ≡ port_run s.port cs =
    ap (λ (t : Sci). t.port) (runs_are_calls s b log).sci ∙ same_port (commands_played b (play s b log)) s in
    let half : (play s b log).state.sci.port.half ≡ s.port.half + edges_of s.port cs = ap (λ (p : Port). p.half) port ∙ runs_move_half_count cs s.port r in
    let low : (play s b log).state.sci.port.half ≤ limit =
    (valid_sound (play s b log).state.sci.port (ap port_valid port ∙ run_valid cs s.port (port_passes s v))).low in
    omega (arith, half, low, length_is_edges s b log))
    (λ v. rw v (omega arith))

-- ---- a script in two parts

abbrev lengthen : ℕ → Progress → Progress
lengthen l p = record { sci = p.sci; length = longer l p.length }

abbrev lengthened : ℕ → Run Progress → Run Progress
lengthened l r = record { state = lengthen l r.state; number = r.number; offset = r.offset; used = r.used; log = r.log }

longer_twice : (l m n : ℕ) → longer (longer l m) n ≡ longer l (longer m n)
longer_twice l m n = omega arith

-- what was counted before is carried through a run
act_carried : (at l : ℕ) (c : Command) (p : Progress) (log : List ℕ) (go : Progress → List ℕ → Run Progress) (a : Answer) →
    ((q : Progress) (k : List ℕ) → go (lengthen l q) k ≡ lengthened l (go q k)) →
    answered at (lengthen l p) log go (act_of c (lengthen l p) a) ≡ lengthened l (answered at p log go (act_of c p a))
act_carried at l c p log go (done v s) h =
    ap (λ (n : ℕ). recorded (record_of c v (call_cause c p.sci) s.port) (go (record { sci = s; length = n }) (drop record_length log))) (longer_twice l p.length (edges c p.sci))
    ∙ ap (recorded (record_of c v (call_cause c p.sci) s.port)) (h (record { sci = s; length = longer p.length (edges c p.sci) }) (drop record_length log))
act_carried at l c p log go (refused n offset s) h = refl

carried : (l : ℕ) (p : Progress) (is : List (Item Command)) (log : List ℕ) → play_items room act (lengthen l p) is log ≡ lengthened l (play_items room act p is log)
unfolding play_items
carried l p [] log = refl
carried l p (a_fault at needs n ∷ is) log = either_way (ltb (length log) needs) (λ t. rw t refl) (λ t. rw t refl)
carried l p (a_command at c ∷ is) log =
    either_way (ltb (length log) (room c)) (λ t. rw t refl)
    (λ t. rw t (act_carried at l c p log (λ q. play_items room act q is) (direct c p.sci) (λ q k. carried l q is k)))

module _ (s : Sci) (first second log : List ℕ) (v : valid s ≡ true) where
  played : (b : List ℕ) → play s b log ≡ play_items room act (started s) (items b) log
  unfolding play
  played b = cond_true (valid s) _ _ v

  parts : (r : Run Progress) → r ≡ play_items room act (started s) (items first) log → r.number ≡ 0 → r.state ≡ lengthen r.state.length (started r.state.sci) → valid r.state.sci ≡ true →
      play_items room act (started s) (items (first ++ second)) log ≡ both first r (play r.state.sci second (drop r.used r.log))
  unfolding play
  parts r e z l h =
      let w : ReadWhole (items first) = accepted_whole room act sound (started s) (items first) log (no_fault_0 first) (sym (ap (λ (x : Run Progress). x.number) e) ∙ z) in
      ap (λ (is : List (Item Command)). play_items room act (started s) is log) (script_in_parts record_length first second w)
      ∙ runs_in_parts room act sound (length first) (started s) (items first) (items second) log w (no_fault_0 second) (sym (ap (λ (x : Run Progress). x.number) e) ∙ z)
      ∙ ap (λ (x : Run Progress). joined (length first) x (play_items room act x.state (items second) (drop x.used x.log))) (sym e)
      ∙ ap (λ (x : Progress). joined (length first) r (play_items room act x (items second) (drop r.used r.log))) l
      ∙ ap (joined (length first) r) (carried r.state.length (started r.state.sci) (items second) (drop r.used r.log))
      ∙ ap (both first r) (sym (cond_true (valid r.state.sci) _ _ h))

  -- what the first part leaves passes the field test
  part_passes : InRange s.port → valid (play s first log).state.sci ≡ true
  part_passes k = ap valid (runs_are_calls s first log).sci ∙ (passing_run (commands_played first (play s first log)) s (record { passes = v; in_range = k })).passes

pub played_in_parts : PlayedInParts
unfolding play
played_in_parts s first second log k z =
    either_way (valid s)
    (λ v.
    let r : Run Progress = play s first log in
    let small : r.state.length ≡ longer r.state.length 0 = omega (arith, length_is_edges s first log) in
    played s first second log v (first ++ second)
    ∙ parts s first second log v r (played s first second log v first) z (ap (λ (n : ℕ). record { sci = r.state.sci; length = n }) small)
    (part_passes s first second log v k))
    (λ v. let e : ◌≡◌ {A = ℕ} 8 0 = rw v at z in absurd (omega arith))

pub lengths_add : LengthsAdd
lengths_add s first second log k z = ap (λ (r : Run Progress). r.state.length) (played_in_parts s first second log k z)
