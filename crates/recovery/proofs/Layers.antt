-- Demand 3 carries over to every layer above the port (specs/Layers.antt).
-- Assumes nothing.
use mathlib.Core.Path.{◌≡◌, refl, sym, ap, ◌∙◌, subst}
use mathlib.Core.List.{List, [], ◌∷◌, ◌++◌}
use Rattle.port.specs.declared.Port.{Port}
use Rattle.command.specs.declared.Call.{Call}
use Rattle.port.specs.Calls.{after, direct, run as port_run}
use Rattle.port.specs.Power.{fresh}
use Rattle.recovery.specs.Corollaries.{Demand, OneList}
use Rattle.recovery.specs.Layers.{CarriesOver, Layer, calls_made, state_after}
use Rattle.recovery.specs.Recovery.{Recovers, Wired, run_wired, rest_end, start}
use Rattle.recovery.proofs.Bridge.{run_is}
use Rattle.recovery.proofs.Corollaries.{demand, one_list}
use Rattle.recovery.proofs.Recovery.{recovery}

pub port_run_append : (xs ys : List Call) (p : Port) → port_run p (xs ++ ys) ≡ port_run (port_run p xs) ys
unfolding port_run
port_run_append [] ys p = refl
port_run_append (c ∷ xs) ys p = port_run_append xs ys (after (direct c p))

-- what each command keeps, a list of them keeps
pub all_keep : {S C : Type 0} (does : C → S → S) (P : S → Type 0) → ((c : C) (s : S) → P s → P (does c s)) → (cs : List C) (s : S) → P s → P (state_after does s cs)
unfolding state_after
all_keep does P k [] s h = h
all_keep does P k (c ∷ cs) s h = all_keep does P k cs (does c s) (k c s h)

-- history, rest and words are one list of calls on the fresh port
port_is : (history rest words : List Call) → port_run fresh (history ++ (rest ++ words)) ≡ (run_wired direct (rest_end direct history rest) words).port
unfolding OneList
port_is history rest words = run_is (history ++ (rest ++ words)) start ∙ ap (λ (w : Wired). w.port) (one_list direct history rest words)

module _ {S C : Type 0} (does : C → S → S) (calls : C → S → List Call) (first : S) (holds : S → Port → Type 0) (l : Layer does calls first holds) where
  -- the state after any commands holds the port that their calls leave
  pub held_after : (cs : List C) (s : S) (p : Port) → holds s p → holds (state_after does s cs) (port_run p (calls_made does calls s cs))
  unfolding state_after calls_made port_run
  held_after [] s p h = h
  held_after (c ∷ cs) s p h =
      subst (holds (state_after does (does c s) cs)) (sym (port_run_append (calls c s) (calls_made does calls (does c s) cs) p))
      (held_after cs (does c s) (port_run p (calls c s)) (l.kept c s p h))

  pub carries_over : CarriesOver does calls first holds
  unfolding CarriesOver Recovers Demand
  carries_over cs history rest words line e he rs ws =
      record {
        recovered = recovery history rest words line he rs ws;
        sentences = demand history rest words line he rs ws;
        held = subst (holds (state_after does first cs)) (ap (port_run fresh) e ∙ port_is history rest words) (held_after cs first fresh l.first_held);
      }
