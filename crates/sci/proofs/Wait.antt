-- n cycles as the port's own wait for the halves that they count: the port's answer to it is what the definition, cycle by cycle, asks for.
-- Assumes nothing.
use Rattle.std.proofs.Common.{◌≡◌, ℕ, zero, suc, ◌+◌, ◌-◌, ◌≤◌, Bool, true, false, cond, ◌&&◌, ◌||◌, eqb, leb, ltb, refl, sym, ap, ◌∙◌, arith}
use Prim.Native.Nat.compare
use borrow.Author.Tests.{le-leb, leb-true}
use Rattle.branches.proofs.Branches.{by_cond, both_arms}
use Rattle.command.specs.declared.Call.TheVariants.{Wait}
use Rattle.command.specs.declared.Command.TheVariants.{Cycles}
use Rattle.command.specs.declared.Source.{Source}
use Rattle.command.specs.declared.Source.TheVariants.{System, Watch}
use Rattle.command.specs.Command.{in_range}
use Rattle.port.specs.declared.Port.{Port}
use Rattle.port.specs.Fields.{with_edge}
use Rattle.port.specs.Baud.{internal}
use Rattle.port.specs.Half.{halves, inside, uncounted}
use Rattle.port.specs.Valid.{limit}
use Rattle.port.specs.Calls.{Answer as PortAnswer, done as port_done, refused as port_refused, refuse as port_refuse, called as port_called}
use Rattle.port.specs.Cause.{halves_cause, call_cause as port_call_cause}
use Rattle.port.proofs.CallLaws.{valid_half}
use Rattle.shift.specs.declared.cause.Cause.{Cause}
use Rattle.shift.specs.declared.cause.Cause.TheVariants.{NoWord}
use Rattle.sci.specs.Cause.{cycles_cause}
use Rattle.sci.specs.declared.Baud.{Baud}
use Rattle.sci.specs.declared.Sci.{Sci}
use Rattle.sci.specs.Cycle.{total, cycle, cycles, counts_half, halves_counted}
use Rattle.sci.specs.Quick.{halves_passed, at_edge, edge_kept, baud_passed, quick, Simulates}
use Rattle.sci.specs.Calls.{most, valid, Answer, done, refused, refuse, called}
use Rattle.sci.specs.Laws.{CyclesMoveHalfCount}
use Rattle.sci.proofs.Cycle.{cycles_move_half_count, halves_are, causes_are, simulates}
use Rattle.sci.proofs.Steps.{remaining_some, port_passes}

counted_few : (source : Source) (n : ℕ) (s : Sci) → halves_counted source n s ≤ n
unfolding halves_counted
counted_few source zero s = omega arith
counted_few source (suc n) s =
    let h = counted_few source n (cycle source s) in
    both_arms (λ (k : ℕ). k + halves_counted source n (cycle source s) ≤ suc n) (counts_half source s) 1 0 (omega arith) (omega arith)

pub at_edge_is : (source : Source) (n : ℕ) (p : Port) (b : Baud) → at_edge source n p b ≡ (eqb n 0 || ltb (halves_passed source (n - 1) p b) (halves_passed source n p b))
unfolding at_edge
at_edge_is source zero p b = refl
at_edge_is source (suc n) p b = let e : suc n - 1 ≡ n = omega arith in rw (compare.suc-zero, e)

edge_and : (b : Bool) (q : Port) → with_edge q (q.edge && b) ≡ edge_kept b q
edge_and b q = both b q.edge
  where
    both : (b e : Bool) → with_edge q (e && b) ≡ cond b (with_edge q e) (inside q)
    both true true = refl
    both true false = refl
    both false true = refl
    both false false = refl

-- the port's answer to the wait, as the answer to n cycles
abbrev pub lifted : Source → ℕ → Sci → PortAnswer → Answer
lifted source n s (port_done v q) =
    done 0 (record { port = with_edge q (q.edge && at_edge source n s.port s.baud); baud = baud_passed source n s.port s.baud })
lifted source n s (port_refused m offset q) = refused m offset s

in_arm : {A : Type 0} (b : Bool) (x y z : A) → (b ≡ true → x ≡ z) → cond b x y ≡ cond b z y
in_arm true x y z f = f refl
in_arm false x y z f = refl

in_range_is : (source : Source) (n : ℕ) → in_range (Cycles source n) ≡ leb n 65535
in_range_is System n = refl
in_range_is Watch n = refl

module _ (source : Source) (n : ℕ) (s : Sci) (v : valid s ≡ true) where
  abbrev p : Port
  p = s.port

  abbrev k : ℕ
  k = halves_passed source n p s.baud

  k_is : halves_counted source n s ≡ k
  k_is = halves_are source n s (remaining_some s v)

  half_after : (cycles source n s).port.half ≡ p.half + k
  unfolding CyclesMoveHalfCount
  half_after = omega (arith, k_is, cycles_move_half_count source n s)

  -- where the internal clock stands no half is counted
  none_stopped : internal p ≡ false → k ≡ 0
  unfolding halves_passed
  none_stopped i = rw i

  still : internal p ≡ false → uncounted k p ≡ halves k p
  unfolding halves
  still i = rw (none_stopped i)

  at_once : lifted source n s (port_done 0 (halves k p)) ≡ done 0 (cycles source n s)
  unfolding quick Simulates
  at_once =
      ap (λ (q : Port). done 0 (record { port = q; baud = baud_passed source n p s.baud })) (edge_and (at_edge source n p s.baud) (halves k p))
      ∙ ap (done 0) (sym (simulates source n s (remaining_some s v)))

  abbrev Is : PortAnswer → Type 0
  Is a = lifted source n s a ≡ cond (leb (p.half + k) limit) (done 0 (cycles source n s)) (refuse 4 s)

  waits : n ≤ 65535 → Is (port_called (Wait k) p)
  unfolding port_called
  waits l =
      let w : k ≤ 65535 = omega (arith, k_is, counted_few source n s) in
      let h : p.half ≤ limit = valid_half p (port_passes s v) in
      rw le-leb
      (by_cond Is (internal p) _ (port_done 0 (uncounted k p))
      (λ i. by_cond Is (leb (p.half + k) limit) _ (port_refuse 4 p) (λ e. rw e at_once) (λ e. rw e))
      (λ i. let f : p.half + k ≤ limit = omega (arith, none_stopped i) in rw (still i, le-leb (p.half + k) limit f) at_once))

  -- and the cause
  pub waits_cause : port_call_cause (Wait k) p ≡ cycles_cause source n s
  unfolding port_call_cause halves_cause
  waits_cause =
      by_cond (λ (c : Cause). c ≡ halves_cause k p) (internal p) _ NoWord (λ i. refl) (λ i. rw (none_stopped i)) ∙ sym (causes_are source n s (remaining_some s v))

  -- the tests in order, and then what the port answers
  pub called_waits : called (Cycles source n) s
      ≡ cond (leb n 65535) (cond (leb (total source s.baud + n) most) (lifted source n s (port_called (Wait k) p)) (refuse 10 s)) (refuse 2 s)
  unfolding called
  called_waits =
      rw (in_range_is source n)
      (in_arm (leb n 65535) _ _ _
      (λ l. in_arm (leb (total source s.baud + n) most) _ _ _
      (λ r. ap (λ (h : ℕ). cond (leb h limit) (done 0 (cycles source n s)) (refuse 4 s)) half_after ∙ sym (waits (leb-true n 65535 l)))))
