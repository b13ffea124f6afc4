-- The laws of runs (specs/Runs.antt): those of every machine (machine's Runs.antt and Whole.antt), for the one-port player.
-- Assumes nothing.
use mathlib.Core.Path.{◌≡◌, refl, sym, ap, subst, ◌∙◌}
use mathlib.Core.List.{List, [], ◌∷◌}
use Prim.Native.Nat.{ℕ, zero, suc, ◌-◌}
use native.Mathlib.Omega.{arith}
use lib.ListN.{length}
use lib.Dec.{ltb}
use Rattle.branches.proofs.Branches.{by_cond}
use Rattle.command.specs.declared.Command.{Command}
use Rattle.port.specs.declared.Port.{Port}
use Rattle.port.specs.Calls.{run as port_run}
use Rattle.port.specs.Power.{fresh as fresh_port}
use Rattle.sci.specs.declared.Sci.{Sci}
use Rattle.sci.specs.Calls.{Answer, done, refused, after, direct, edges, fresh, valid}
use Rattle.script.specs.declared.Fault.{Fault}
use Rattle.script.specs.declared.Fault.TheVariants.{Short, Number, Kind, Operand}
use Rattle.std.proofs.Common.{Ok, Err}
use Rattle.script.specs.Number.{fault_number, Reads}
use Rattle.script.specs.Command.{command_at}
use Rattle.script.specs.Items.{reading, read_at}
use Rattle.machine.specs.Machine.{Item, item, items_up_to, commands, acts, refuses, Acts, AllAct, left, last, Run, IsItsCommands}
use Rattle.machine.proofs.Runs.{runs_are_commands, none_are_commands}
use Rattle.machine.proofs.Whole.{NoFault, never}
use Rattle.player.specs.Play.{Progress, record_length, room, items, started, longer, act_of, act, play}
use Rattle.player.proofs.Laws.{sound}
use Rattle.recovery.specs.Layers.{Layer, state_after}
use Rattle.recovery.proofs.Layers.{all_keep, carries_over, held_after}
use Rattle.sci_laws.specs.Translate.{calls, leaves as call_leaves, run}
use Rattle.sci_laws.proofs.Translate.{layer as call_layer}
use Rattle.sci_laws.proofs.Laws.{Passing, passing_after, passing_run, passing_fresh, passing_not_8}
use Rattle.script_laws.specs.Runs.{Action, ActionsAreCalls, EightAtEntryOnly, IsItsCalls, RunsAreCalls, ScriptsRecover, commands_played, counts_as, leaves, makes_call, plays_script, sci_after}

-- ---- a run is its commands' direct calls

-- commands of which none is refused leave the state that their direct calls leave
pub one_call : (c : Command) (p : Progress) (a : Answer) → Acts (act_of c p a) → (left p (act_of c p a)).sci ≡ after a
one_call c p (done v s) h = refl
one_call c p (refused n offset s) h = absurd h

last_is_run : (cs : List Command) (p : Progress) → AllAct act p cs → (last act p cs).sci ≡ run p.sci cs
unfolding state_after
last_is_run [] p h = refl
last_is_run (c ∷ cs) p h = last_is_run cs (left p (act c p)) h.1 ∙ ap (λ (s : Sci). run s cs) (one_call c p (direct c p.sci) h.0)

its_calls : (s : Sci) (b log : List ℕ) (r : Run Progress) → IsItsCommands room act (started s) (commands (items b)) log r → IsItsCalls s b log r
its_calls s b log r i = record { its_commands = i; sci = ap (λ (x : Progress). x.sci) i.state ∙ last_is_run (commands_played b r) (started s) i.accepted }

pub runs_are_calls : RunsAreCalls
unfolding play
runs_are_calls s b log =
    its_calls s b log (play s b log)
    (by_cond (IsItsCommands room act (started s) (commands (items b)) log) (valid s) _ _ (λ t. runs_are_commands room act sound (started s) (items b) log)
    (λ t. none_are_commands room act sound 8 0 (started s) (commands (items b)) log (λ z. absurd (omega arith))))

-- ---- the test 8

fault_not_8 : (f : Fault) → fault_number f ≡ 8 → ⊥
fault_not_8 Short e = omega arith
fault_not_8 Number e = omega arith
fault_not_8 Kind e = omega arith
fault_not_8 Operand e = omega arith

fault_not_0 : (f : Fault) → fault_number f ≡ 0 → ⊥
fault_not_0 Short e = omega arith
fault_not_0 Number e = omega arith
fault_not_0 Kind e = omega arith
fault_not_0 Operand e = omega arith

-- a number that no fault has is none that reading gives
module _ (m : ℕ) (faults : (f : Fault) → fault_number f ≡ m → ⊥) where
  read_not : (next : ℕ → List (Item Command)) (at : ℕ) (d : Reads Command) → ((n : ℕ) → NoFault m (next n)) → NoFault m (item next at (reading record_length d))
  read_not next at (Ok found) h = h found.next
  read_not next at (Err why) h = faults why

  items_not : (k : ℕ) (b : List ℕ) (at : ℕ) → NoFault m (items_up_to k (read_at record_length b) (length b) at)
  items_not zero b at = tt
  items_not (suc k) b at =
      by_cond (NoFault m) (ltb at (length b)) _ _
      (λ t. read_not (items_up_to k (read_at record_length b) (length b)) at (command_at b at) (λ n. items_not k b n)) (λ t. tt)

  all_not : (b : List ℕ) → NoFault m (items b)
  all_not b = items_not (length b - 0) b 0

pub no_fault_0 : (b : List ℕ) → NoFault 0 (items b)
no_fault_0 b = all_not 0 fault_not_0 b

-- nor does a call on a state that passes the field test, and what it leaves passes too
module _ (c : Command) (p : Progress) (h : Passing p.sci) where
  act_passing : (q : Progress) (bs : List ℕ) (a : Answer) → direct c p.sci ≡ a → act_of c p a ≡ acts bs q → Passing q.sci
  act_passing q bs (done v s) e z =
      let same : record { sci = s; length = longer p.length (edges c p.sci) } ≡ q = cc in
      subst (λ (x : Progress). Passing x.sci) same (subst (λ (a : Answer). Passing (after a)) e (passing_after c p.sci h))
  act_passing q bs (refused n offset s) e z = let f : ◌≡◌ {A = ℕ} 0 1 = cc in absurd (omega arith)

  act_not_8 : (n : ℕ) (a : Answer) → direct c p.sci ≡ a → act_of c p a ≡ refuses n → n ≡ 8 → ⊥
  act_not_8 n (done v s) e z w = let f : ◌≡◌ {A = ℕ} 0 1 = cc in absurd (omega arith)
  act_not_8 n (refused m offset s) e z w =
      let f : m ≡ n = cc in passing_not_8 c p.sci s offset h.passes (e ∙ ap (λ (k : ℕ). refused k offset s) (f ∙ w))

pub eight_at_entry_only : EightAtEntryOnly
unfolding play
eight_at_entry_only s b log r h =
    rw h
    (never room act 8 (λ z. omega arith) (λ z. omega arith) (λ (p : Progress). Passing p.sci)
    (λ c p q bs g e. act_passing c p g q bs (direct c p.sci) refl e) (λ c p n g e. act_not_8 c p g n (direct c p.sci) refl e) (started s) (items b) log (record { passes = h; in_range = r })
    (all_not 8 fault_not_8 b))

-- ---- scripts after scripts

action_passing : (a : Action) (s : Sci) → Passing s → Passing (leaves a s)
action_passing (makes_call c) s h = passing_after c s h
action_passing (plays_script b log) s h = subst Passing (sym (runs_are_calls s b log).sci) (passing_run (commands_played b (play s b log)) s h)

layer : Layer leaves counts_as fresh (λ s p. s.port ≡ p)
layer = record { first_held = call_layer.first_held; kept = kept }
  where
    kept : (a : Action) (s : Sci) (p : Port) → s.port ≡ p → (leaves a s).port ≡ port_run p (counts_as a s)
    kept (makes_call c) s p e = call_layer.kept c s p e
    kept (plays_script b log) s p e =
        ap (λ (t : Sci). t.port) (runs_are_calls s b log).sci
        ∙ held_after call_leaves calls fresh (λ t q. t.port ≡ q) call_layer (commands_played b (play s b log)) s p e

pub actions_are_calls : ActionsAreCalls
actions_are_calls actions =
    let k : Passing (sci_after actions) = all_keep leaves Passing action_passing actions fresh passing_fresh in
    record {
      port = held_after leaves counts_as fresh (λ s p. s.port ≡ p) layer actions fresh fresh_port layer.first_held;
      passes = k.passes;
      never_by_8 = λ b log. eight_at_entry_only (sci_after actions) b log k.in_range k.passes;
    }

-- ---- demand 3

pub scripts_recover : ScriptsRecover
scripts_recover = carries_over leaves counts_as fresh (λ s p. s.port ≡ p) layer
