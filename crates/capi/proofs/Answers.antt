-- What the proofs of the exported functions put together from what calls gave.
-- Assumes nothing.
use Rattle.std.specs.Prelude.{Some, Result, Ok, Err, IfOk}
use mathlib.Core.Path.{◌≡◌, refl, ap, ◌∙◌}
use mathlib.Core.Bool.{true, ◌&&◌}
use mathlib.Core.List.{List}
use Prim.Native.Nat.{ℕ}
use lib.Dec.{leb}
use Rattle.sci.specs.declared.Sci.{Sci}
use Rattle.command.specs.declared.Kind.{Kind}
use Rattle.command.specs.declared.Kind.TheVariants.{Read, Write, Wait, Line, Pins, Power, Inside, System, Watch}
use Rattle.command.specs.Command.{code, command_of}
use Rattle.shift.specs.declared.cause.Cause.{Cause}
use Rattle.port.specs.declared.Outcome.{Outcome}
use Rattle.sci.specs.declared.Refusal.{Refusal}
use Rattle.sci.specs.Cause.{call_cause}
use Rattle.sci.specs.Calls.{Answer, done, answered, valid, called, direct}
use Rattle.capi.specs.State.{decode}
use Rattle.capi.specs.Exports.{Calling, call_left, cause_of, call}

-- ---- sci3_call
in_table : (k : Kind) → (leb 1 (code k) && leb (code k) 9) ≡ true
in_table Read = refl
in_table Write = refl
in_table Wait = refl
in_table Line = refl
in_table Pins = refl
in_table Power = refl
in_table Inside = refl
in_table System = refl
in_table Watch = refl

-- an answer's cause counts only where it is accepted
pub outcome_left : (s : List ℕ) (r : Result Outcome Refusal) (q : Sci) (c : Cause) (a : Answer) → answered r q ≡ a → IfOk r (λ x. x.cause ≡ c) → call_left s (cause_of r) (answered r q) ≡ call_left s c a
outcome_left s (Ok x) q c a e f = ap (λ (y : Cause). call_left s y (done x.value q)) f ∙ ap (call_left s c) e
outcome_left s (Err n) q c a e f = ap (call_left s c) e

-- the direct call of a kind of the table, on a state that passes the field test
pub tested_call : (k : Kind) (kind a b : ℕ) (s : List ℕ) (p q : Sci) (x : Calling) → Some p ≡ decode s → q ≡ p → valid q ≡ true → code k ≡ kind
    → x ≡ call_left s (call_cause (command_of (code k) a b) q) (called (command_of (code k) a b) q) → x ≡ call kind a b s
unfolding call direct
tested_call k kind a b s p q x d g t e h =
    h ∙ rw (← d, ← e, ← g, t, in_table)
