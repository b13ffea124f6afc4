-- One command of a run, case by case, and a turn of the player's loop as a turn of `play_items` (machine's Turns.antt).
-- Assumes nothing.
use mathlib.Core.Path.{◌≡◌, refl, sym, ap, subst, subst⁻¹, ◌∙◌}
use mathlib.Core.Bool.{Bool, true, false}
use mathlib.Core.List.{List, [], ◌∷◌, ◌++◌}
use Prim.Native.Nat.{ℕ, ◌-◌, ◌≤◌, ◌<◌}
use native.Mathlib.Omega.{arith}
use lib.ListN.{length, take, drop}
use borrow.Rule.Slice.PartMut.{put_mid}
use borrow.Author.Tests.{lt-ltb, le-ltb}
use Rattle.branches.proofs.Branches.{cond_true}
use Rattle.frame.proofs.Laws.{from_bool_is}
use Rattle.command.specs.declared.Command.{Command}
use Rattle.command.specs.Command.{kind}
use Rattle.shift.specs.declared.cause.Cause.{Cause}
use Rattle.shift.specs.Cause.{cause_number}
use Rattle.port.specs.declared.Port.{Port}
use Rattle.pins.specs.declared.Pins.{Pins}
use Rattle.sci.specs.declared.Sci.{Sci}
use Rattle.sci.specs.Calls.{Answer, done, refused, valid, called, direct, edges}
use Rattle.sci.specs.Cause.{call_cause}
use Rattle.pins.specs.Pins.{pins, level_number, interrupt}
use Rattle.sci.proofs.Laws.{refused_not_0, edges_by_half_count}
use Rattle.script.specs.declared.Fault.{Fault}
use Rattle.std.specs.Prelude.{OnErr}
use Rattle.std.proofs.Common.{Result, Ok, Err}
use Rattle.std.specs.Int.{from_bool}
use Rattle.script.specs.Number.{fault_number, Reads, finds}
use Rattle.script.specs.Command.{command_at}
use Rattle.script.specs.Items.{reading, read_at, script_items}
use Rattle.script.proofs.Items.{command_moves}
use Rattle.machine.specs.Machine.{Act, acts, refuses, Run, ended, recorded, play_items, Sound}
use Rattle.machine.specs.Private.Step.{onward, stopped, met, step}
use Rattle.machine.proofs.Turns.{GoesOn, goes_on, stands, finishes}
use Rattle.player.specs.declared.Reason.{Reason}
use Rattle.player.specs.Play.{Progress, record_length, record_of, room, started, longer, act_of, act, play, ran}
use Rattle.player.specs.Private.Step.{stepped, port_step, play_on}

-- ---- one command

pub record_made : (c : Command) (v : ℕ) (cause : Cause) (p : Port) (x : Pins) (k l i n : ℕ) (b : Bool) →
    k ≡ kind c → x ≡ pins p → l ≡ level_number x.transmit → b ≡ interrupt p → i ≡ from_bool b → n ≡ cause_number cause →
    k ∷ v ∷ p.ssr ∷ l ∷ i ∷ n ∷ [] ≡ record_of c v cause p
unfolding pins
record_made c v cause p x k l i n b ek ex el eb ei en = rw (ek, ei, from_bool_is b, eb, el, ex, en)

-- commands write as much as they need, and no refusal is 0
abbrev Fills : Act Progress → Type 0
Fills (acts bs q) = length bs ≡ record_length
Fills (refuses n) = n ≡ 0 → ⊥

fills_of : (c : Command) (p : Progress) (a : Answer) → direct c p.sci ≡ a → Fills (act_of c p a)
fills_of c p (done v q) e = refl
fills_of c p (refused n offset q) e = refused_not_0 c p.sci q n offset e

pub sound : Sound room act
sound = record {
  some = λ c. omega arith;
  fills = λ c p q bs e. subst Fills e (fills_of c p (direct c p.sci) refl);
  refusals = λ c p n e. subst Fills e (fills_of c p (direct c p.sci) refl);
}

-- a state that passes the field test is called at once
pub passed : (c : Command) (p : Sci) → valid p ≡ true → direct c p ≡ called c p
unfolding direct
passed c p h = cond_true (valid p) _ _ h

-- the edges that a command counted are what the half count grew by
pub step_edges : (c : Command) (p q : Sci) (v : ℕ) → valid p ≡ true → done v q ≡ called c p → q.port.half - p.port.half ≡ edges c p
step_edges c p q v t e = sym (edges_by_half_count c p q v (passed c p t ∙ sym e))

module _ (p : Progress) (s : List ℕ) (at : ℕ) (log : List ℕ) where
  full : (d : Reads Command) → length log < record_length → stopped 9 log ≡ met room act p log (reading record_length d)
  full (Ok found) h = rw (lt-ltb (length log) record_length h)
  full (Err why) h = rw (lt-ltb (length log) record_length h)

  pub step_full : length log < record_length → stopped 9 log ≡ port_step p s at log
  unfolding port_step step
  step_full h = full (command_at s at) h

  pub step_fault : (f : Fault) → record_length ≤ length log → command_at s at ≡ Err f → stopped (fault_number f) log ≡ port_step p s at log
  unfolding port_step step
  step_fault f h d = rw (d, le-ltb (length log) record_length h)

  pub step_refused : (c : Command) (next n : ℕ) (q : Sci) → valid p.sci ≡ true → record_length ≤ length log →
      command_at s at ≡ finds c next → refused n 0 q ≡ called c p.sci → stopped n log ≡ port_step p s at log
  unfolding port_step step
  step_refused c next n q v h d e = rw (d, le-ltb (length log) record_length h, passed c p.sci v, ← e)

  pub step_onward : (c : Command) (next n v : ℕ) (cause : Cause) (q : Sci) (after : List ℕ) → valid p.sci ≡ true → record_length ≤ length log →
      command_at s at ≡ finds c next → done v q ≡ called c p.sci → cause ≡ call_cause c p.sci → n ≡ longer p.length (q.port.half - p.sci.port.half) →
      after ≡ record_of c v cause q.port ++ drop record_length log →
      onward (record { sci = q; length = n }) next record_length after ≡ port_step p s at log
  unfolding port_step step
  step_onward c next n v cause q after t h d e r l w =
      rw (d, le-ltb (length log) record_length h, passed c p.sci t, ← e, w, r, l, step_edges c p.sci q v t e)

-- ---- a turn of the loop

-- the run from an offset on
abbrev pub from_at : Progress → List ℕ → ℕ → List ℕ → Run Progress
from_at p s at log = play_items room act p (script_items record_length s at) log

abbrev pub Goes : Run Progress → ℕ → List ℕ → ℕ → List ℕ → List ℕ → Progress → ℕ → Type 0
Goes run used s at log whole q next =
    GoesOn room act sound (read_at record_length s) (length s) (command_moves record_length s) run used at log whole q next record_length

module _ (run : Run Progress) (p : Progress) (used : ℕ) (s : List ℕ) (at : ℕ) (log ys : List ℕ) (q : Progress) (st : Result ℕ Reason)
    (inside : used ≤ length log) (here : at < length s)
    (so_far : run ≡ recorded (take used log) (from_at p s at (drop used log)))
    (turn : stepped st q ys ≡ port_step p s at (take (length log - used) (drop used log)))
    (kept : length ys ≡ length (take (length log - used) (drop used log))) where
  pub port_goes_on : {next : ℕ} → st ≡ Ok next → Goes run used s at log (put_mid used (length log - used) log ys) q next
  unfolding port_step
  port_goes_on {next} e =
      goes_on room act sound (read_at record_length s) (length s) (command_moves record_length s) run p used at log ys (stepped st q ys) inside here so_far turn kept
      (ap (λ (t : Result ℕ Reason). stepped t q ys) e)

  pub port_stands : {reason : Reason} → st ≡ Err reason → OnErr st (q ≡ p) →
      ran (record { sci = q.sci; length = q.length; end = Err (record { reason = reason; offset = at }); used = used }) (put_mid used (length log - used) log ys) ≡ run
  unfolding port_step
  port_stands {reason} e as_it_was =
      let same : q ≡ p = subst (λ (t : Result ℕ Reason). OnErr t (q ≡ p)) e as_it_was in
      subst⁻¹ (λ (x : Progress). ran (record { sci = x.sci; length = x.length; end = Err (record { reason = reason; offset = at }); used = used }) (put_mid used (length log - used) log ys) ≡ run) same
      (stands room act sound (read_at record_length s) (length s) (command_moves record_length s) run p used at log ys (stepped st q ys) inside here so_far turn kept
      (ap (λ (t : Result ℕ Reason). stepped t q ys) e))

pub port_finishes : (run : Run Progress) (p : Progress) (used : ℕ) (s : List ℕ) (at : ℕ) (log : List ℕ) → used ≤ length log → length s ≤ at →
    run ≡ recorded (take used log) (from_at p s at (drop used log)) → ran (record { sci = p.sci; length = p.length; end = Ok tt; used = used }) log ≡ run
port_finishes run p used s at log inside h so_far =
    finishes room act sound (read_at record_length s) (length s) (command_moves record_length s) run p used at log inside h so_far

-- ---- the whole run

pub play_tested : (p : Sci) (s log : List ℕ) (b : Bool) (z : Run Progress) → b ≡ valid p → b ≡ true → z ≡ play_on p s log → z ≡ play p s log
unfolding play
play_tested p s log b z e t h = h ∙ sym (rw (← e, t))

pub play_refused : (p : Sci) (s log : List ℕ) (b : Bool) → b ≡ valid p → b ≡ false → ended 8 0 (started p) log ≡ play p s log
unfolding play
play_refused p s log b e t = sym (rw (← e, t))
