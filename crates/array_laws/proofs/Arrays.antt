-- The claims of specs/Arrays.antt: what one exported call makes of an array that holds a state, and then lists of them.
-- Assumes nothing.
use Rattle.std.specs.Prelude.{Some}
use mathlib.Core.Path.{◌≡◌, refl, sym, ap, subst, ◌∙◌}
use mathlib.Core.Logic.{◌⊎◌, inl, inr}
use Prim.Native.Nat.{ℕ}
use mathlib.Core.Bool.{Bool, true, false, cond, ◌&&◌}
use mathlib.Core.List.{List, [], ◌∷◌, ◌++◌}
use lib.Dec.{eqb, leb}
use lib.ListN.{length}
use borrow.Author.Tests.{eq-eqb, eqb-true, ne_eqb}
use Rattle.branches.proofs.Branches.{by_cond, both_arms}
use Rattle.command.specs.declared.Call.TheVariants.{Read, Write, Wait, Line, Pins, Power, Inside}
use Rattle.command.specs.declared.Command.{Command}
use Rattle.command.specs.declared.Command.TheVariants.{OnPort, Cycles}
use Rattle.command.specs.declared.Source.TheVariants.{System, Watch}
use Rattle.command.specs.Command.{command_of}
use Rattle.port.specs.declared.Port.{Port}
use Rattle.port_laws.specs.Ranges.{InRange}
use Rattle.sci.specs.declared.Sci.{Sci}
use Rattle.sci.specs.Calls.{Answer, done, refused, after, called, direct, fresh, refuse, valid}
use Rattle.sci.specs.Cause.{call_cause}
use Rattle.machine.specs.Machine.{Run, ended, play_items}
use Rattle.player.specs.Play.{Progress, room, items, started, act, play}
use Rattle.recovery.specs.Layers.{CarriesOver, state_after}
use Rattle.recovery.proofs.Layers.{all_keep}
use Rattle.sci_laws.specs.Laws.{AnswersAByte, RefusedStands}
use Rattle.sci_laws.specs.Translate.{leaves as call_leaves}
use Rattle.sci_laws.proofs.Laws.{answers_a_byte, refused_stands}
use Rattle.script_laws.specs.Runs.{Action, makes_call, plays_script, leaves, commands_played, sci_after}
use Rattle.script_laws.proofs.Runs.{runs_are_calls, eight_at_entry_only, actions_are_calls, scripts_recover}
use Rattle.capi.specs.State.{encode, state_max}
use Rattle.capi.specs.Exports.{Calling, lent, calling, refusal, call_left, call_on, call, pins_on, pins_answer, interrupt_on, interrupt_answer, fresh_state, Playing, playing, run_left, play_on, played}
use Rattle.capi.specs.Round.{SciTyped}
use Rattle.capi.proofs.Round.{round_trip}
use Rattle.array_laws.specs.Typed.{DecodedTyped, FreshTyped, KeepsTyped}
use Rattle.array_laws.specs.Arrays.{Exported, sci3_call, sci3_play, array_left, array_after, action_of, actions, exported, with_port, AllActionsExported, Holds, ArraysHoldStates, ArraysAreStates, ArraysAreCalls, Answers, HoldingAnswers, FailingRefused, ArraysAnswer, ArraysRecover}
use Rattle.array_laws.proofs.Typed.{typed_in_range, fresh_typed, keeps_typed}
use Rattle.array_laws.proofs.Decoded.{decoded_typed}

-- ---- every action is an exported call
call_exported : (c : Command) → action_of (exported (makes_call c)) ≡ makes_call c ∷ []
call_exported (OnPort (Read a)) = refl
call_exported (OnPort (Write a v)) = refl
call_exported (OnPort (Wait n)) = refl
call_exported (OnPort (Line b)) = refl
call_exported (OnPort (Pins c b)) = refl
call_exported (OnPort (Power b)) = refl
call_exported (OnPort Inside) = refl
call_exported (Cycles System n) = refl
call_exported (Cycles Watch n) = refl

pub all_actions_exported : AllActionsExported
unfolding AllActionsExported
all_actions_exported [] = refl
all_actions_exported (makes_call c ∷ acts) = λ i. call_exported c i ++ all_actions_exported acts i
all_actions_exported (plays_script script log ∷ acts) = ap (λ (l : List Action). plays_script script log ∷ l) (all_actions_exported acts)

-- ---- one exported call on an array that holds a state
-- the array x and the state t after it: as they were, or the encoding of the state
abbrev Left : List ℕ → Sci → List ℕ → Sci → Type 0
Left array s x t = ((x ≡ array) × (t ≡ s)) ⊎ (x ≡ encode t)

-- the direct call tests 8 itself, so it may come before the test of the kind
late_test : (c : Command) (known : Bool) (array : List ℕ) (x : Calling) (s : Sci)
    → cond known (call_left array (call_cause c s) (direct c s)) (cond (valid s) x (calling (refusal 8) 0 array)) ≡ cond (valid s) (cond known (call_left array (call_cause c s) (direct c s)) x) (calling (refusal 8) 0 array)
unfolding direct
late_test c known array x s = go known (valid s)
  where
    go : (k v : Bool) → let a = call_left array (call_cause c s) (cond v (called c s) (refuse 8 s)) in cond k a (cond v x (calling (refusal 8) 0 array)) ≡ cond v (cond k a x) (calling (refusal 8) 0 array)
    go true true = refl
    go true false = refl
    go false true = refl
    go false false = refl

module _ (array : List ℕ) (s : Sci) (d : Holds array s) where
  in_range : InRange s.port
  unfolding DecodedTyped
  in_range = typed_in_range s.port (decoded_typed array s d).port

  on_call : (k a b : ℕ) → call k a b array
      ≡ cond (leb 1 k && leb k 9) (call_left array (call_cause (command_of k a b) s) (direct (command_of k a b) s)) (cond (valid s) (calling (refusal 7) 0 array) (calling (refusal 8) 0 array))
  unfolding call
  on_call k a b = ap (call_on k a b array) d ∙ sym (late_test (command_of k a b) (leb 1 k && leb k 9) array (calling (refusal 7) 0 array) s)

  on_play : (script log : List ℕ) → played array script log ≡ run_left array (play s script log)
  unfolding played
  on_play script log = ap (play_on array script log) d

  -- a run that is refused by 8 leaves the state as it was
  at_8 : (script log : List ℕ) → (play s script log).number ≡ 8 → (play s script log).state.sci ≡ s
  unfolding play
  at_8 script log z = go (valid s) refl
    where
      go : (b : Bool) → valid s ≡ b → (play s script log).state.sci ≡ s
      go true e = absurd (eight_at_entry_only s script log in_range e z)
      go false e = ap (λ (b : Bool). (cond b (play_items room act (started s) (items script) log) (ended 8 0 (started s) log)).state.sci) e

  answer_left : (c : Command) (r : Answer) → direct c s ≡ r → Left array s (call_left array (call_cause c s) r).state (after r)
  unfolding RefusedStands
  answer_left c (done v t) e = inr refl
  answer_left c (refused n offset t) e = inl (refl, (refused_stands c s t n offset e).0)

  left : (e : Exported) → Left array s (array_left e array) (state_after leaves s (action_of e))
  unfolding state_after
  left (sci3_call k a b) =
      subst (λ (l : Calling). Left array s l.state (state_after leaves s (action_of (sci3_call k a b)))) (sym (on_call k a b)) (go (leb 1 k && leb k 9))
    where
      c : Command
      c = command_of k a b

      unknown : Calling
      unknown = cond (valid s) (calling (refusal 7) 0 array) (calling (refusal 8) 0 array)

      go : (known : Bool) → Left array s (cond known (call_left array (call_cause c s) (direct c s)) unknown).state (state_after leaves s (cond known (makes_call c ∷ []) []))
      go true = answer_left c (direct c s) refl
      go false = both_arms (λ (l : Calling). Left array s l.state s) (valid s) (calling (refusal 7) 0 array) (calling (refusal 8) 0 array) (inl (refl, refl)) (inl (refl, refl))
  left (sci3_play script log) =
      let r : Run Progress = play s script log in
      subst (λ (l : Playing). Left array s l.state r.state.sci) (sym (on_play script log))
      (by_cond (λ (x : List ℕ). Left array s x r.state.sci) (eqb r.number 8) array (encode r.state.sci) (λ e. inl (refl, at_8 script log (eqb-true r.number 8 e))) (λ e. inr refl))

  answers : valid s ≡ true → Answers array s
  unfolding AnswersAByte pins_answer interrupt_answer
  answers e =
      record {
        of_call = λ k a b. on_call k a b
            ∙ ap (λ (v : Bool). cond (leb 1 k && leb k 9) (call_left array (call_cause (command_of k a b) s) (direct (command_of k a b) s)) (cond v (calling (refusal 7) 0 array) (calling (refusal 8) 0 array))) e;
        of_read = λ c v t h. answers_a_byte c s t v in_range h;
        of_play = λ script log. let r : Run Progress = play s script log in
            on_play script log
            ∙ ap (λ (b : Bool). playing r.number (r.offset ∷ r.used ∷ r.state.length ∷ []) (cond b array (encode r.state.sci)) r.log) (ne_eqb r.number 8 (eight_at_entry_only s script log in_range e));
        of_pins = ap pins_on d;
        of_interrupt = ap interrupt_on d;
      }

pub holding_answers : HoldingAnswers
unfolding HoldingAnswers
holding_answers array s d e = answers array s d e

pub failing_refused : FailingRefused
unfolding FailingRefused call play
failing_refused array s d e = (
  λ k a b. ap (call_on k a b array) d
      ∙ ap (λ (v : Bool). cond v (cond (leb 1 k && leb k 9) (call_left array (call_cause (command_of k a b) s) (direct (command_of k a b) s)) (calling (refusal 7) 0 array)) (calling (refusal 8) 0 array)) e,
  λ script log. on_play array s d script log ∙ ap (λ (v : Bool). run_left array (cond v (play_items room act (started s) (items script) log) (ended 8 0 (started s) log))) e,
)

-- ---- actions keep a state typed
after_typed : (c : Command) (s : Sci) → SciTyped s → SciTyped (call_leaves c s)
unfolding KeepsTyped RefusedStands
after_typed c s t = go (direct c s) refl
  where
    go : (r : Answer) → direct c s ≡ r → SciTyped (after r)
    go (done v q) e = keeps_typed c s q v t e
    go (refused n offset q) e = subst SciTyped (sym (refused_stands c s q n offset e).0) t

leaves_typed : (a : Action) (s : Sci) → SciTyped s → SciTyped (leaves a s)
leaves_typed (makes_call c) s t = after_typed c s t
leaves_typed (plays_script script log) s t =
    subst SciTyped (sym (runs_are_calls s script log).sci) (all_keep call_leaves SciTyped after_typed (commands_played script (play s script log)) s t)

actions_typed : (acts : List Action) (s : Sci) → SciTyped s → SciTyped (state_after leaves s acts)
actions_typed acts s t = all_keep leaves SciTyped leaves_typed acts s t

-- ---- lists of exported calls
actions_append : (xs ys : List Action) (s : Sci) → state_after leaves s (xs ++ ys) ≡ state_after leaves (state_after leaves s xs) ys
unfolding state_after
actions_append [] ys s = refl
actions_append (x ∷ xs) ys s = actions_append xs ys (leaves x s)

left_held : (array : List ℕ) (s : Sci) (e : Exported) → Holds array s → Holds (array_left e array) (state_after leaves s (action_of e))
unfolding DecodedTyped
left_held array s e d = go (array_left e array) (state_after leaves s (action_of e)) (actions_typed (action_of e) s (decoded_typed array s d)) (left array s d e)
  where
    go : (x : List ℕ) (t : Sci) → SciTyped t → Left array s x t → Holds x t
    go x t ty (inl k) = subst (λ (y : List ℕ). Holds y t) (sym k.0) (d ∙ ap Some (sym k.1))
    go x t ty (inr k) = subst (λ (y : List ℕ). Holds y t) (sym k) (round_trip t ty)

pub arrays_hold_states : ArraysHoldStates
unfolding ArraysHoldStates state_after
arrays_hold_states array s [] d = d
arrays_hold_states array s (e ∷ es) d =
    subst (Holds (array_after (array_left e array) es)) (sym (actions_append (action_of e) (actions es) s))
    (arrays_hold_states (array_left e array) (state_after leaves s (action_of e)) es (left_held array s e d))

-- an encoding stays one
left_encoded : (s : Sci) (e : Exported) → SciTyped s → array_left e (encode s) ≡ encode (state_after leaves s (action_of e))
left_encoded s e t = go (array_left e (encode s)) (state_after leaves s (action_of e)) (left (encode s) s (round_trip s t) e)
  where
    go : (x : List ℕ) (t : Sci) → Left (encode s) s x t → x ≡ encode t
    go x t (inl k) = k.0 ∙ ap encode (sym k.1)
    go x t (inr k) = k

array_is : (es : List Exported) (s : Sci) → SciTyped s → array_after (encode s) es ≡ encode (state_after leaves s (actions es))
unfolding state_after
array_is [] s t = refl
array_is (e ∷ es) s t =
    ap (λ (array : List ℕ). array_after array es) (left_encoded s e t)
    ∙ array_is es (state_after leaves s (action_of e)) (actions_typed (action_of e) s t)
    ∙ ap encode (sym (actions_append (action_of e) (actions es) s))

-- ---- from `sci3_fresh` on
first_is : (first : List ℕ) → length first ≡ length state_max → (fresh_state first).state ≡ encode fresh
unfolding fresh_state
first_is first h = ap (λ (b : Bool). (cond b (lent 0 (encode fresh)) (lent (refusal 8) first)).state) (eq-eqb (length first) (length state_max) h)

pub arrays_are_states : ArraysAreStates
unfolding ArraysAreStates FreshTyped
arrays_are_states first es h = ap (λ (array : List ℕ). array_after array es) (first_is first h) ∙ array_is es fresh fresh_typed

-- with the port that the state is known to have
arrays_have : (first : List ℕ) (es : List Exported) (p : Port) → length first ≡ length state_max → (sci_after (actions es)).port ≡ p
    → array_after (fresh_state first).state es ≡ encode (with_port (sci_after (actions es)) p)
unfolding ArraysAreStates
arrays_have first es p h e = arrays_are_states first es h ∙ ap (λ (p : Port). encode (with_port (sci_after (actions es)) p)) e

pub arrays_are_calls : ArraysAreCalls
unfolding ArraysAreCalls
arrays_are_calls first es h = arrays_have first es _ h (actions_are_calls (actions es)).port

pub arrays_answer : ArraysAnswer
unfolding ArraysAnswer ArraysAreStates FreshTyped
arrays_answer first es h =
    let s : Sci = sci_after (actions es) in
    subst (λ (array : List ℕ). Answers array s) (sym (arrays_are_states first es h))
    (answers (encode s) s (round_trip s (actions_typed (actions es) fresh fresh_typed)) (actions_are_calls (actions es)).passes)

pub arrays_recover : ArraysRecover
unfolding ArraysRecover CarriesOver
arrays_recover first es history rest words line h e he rs ws =
    let c = scripts_recover (actions es) history rest words line e he rs ws in (c, arrays_have first es _ h c.held)
