-- The claims of specs/Laws.antt on the field test.
-- Assumes nothing.
use Rattle.std.proofs.Common.{◌≡◌, ℕ, suc, ◌+◌, ◌-◌, ◌≤◌, ◌<◌, true, not, ◌&&◌, leb, ltb, eqb, refl, subst, ◌∙◌, arith}
use Rattle.std.proofs.Math.Nat.{mod-lt}
use borrow.Author.Tests.{leb-true, ltb-true}
use Rattle.branches.proofs.Branches.{by_cond, both_arms, cond_true}
use Rattle.frame.proofs.Truth.{and_right}
use Rattle.frame.specs.Frame.{has}
use Rattle.command.specs.declared.Call.{Call}
use Rattle.command.specs.declared.Call.TheVariants.{Read, Write, Wait, Line, Pins, Power, Inside}
use Rattle.command.specs.declared.Command.{Command}
use Rattle.command.specs.declared.Command.TheVariants.{OnPort, Cycles}
use Rattle.command.specs.declared.Source.{Source}
use Rattle.command.specs.Command.{in_range}
use Rattle.port.specs.declared.Port.{Port}
use Rattle.port.specs.Baud.{internal}
use Rattle.port.specs.Registers.{takes_writes}
use Rattle.port.specs.Power.{resets}
use Rattle.port.specs.Valid.{limit, valid as port_valid}
use Rattle.port.specs.Calls.{Answer as PortAnswer, done as port_done, refused as port_refused, called as port_called, direct as port_direct}
use Rattle.port_laws.specs.Laws.{FreshPasses as PortFreshPasses}
use Rattle.port_laws.proofs.Laws.{fresh_passes as port_fresh_passes, refused_not_0 as port_refused_not_0}
use Rattle.port_laws.proofs.Edges.{edges_by_half_count as port_edges}
use Rattle.sci.specs.declared.Baud.{Baud}
use Rattle.sci.specs.declared.Sci.{Sci}
use Rattle.sci.specs.Count.{ticks_in, left_in}
use Rattle.sci.specs.Cycle.{divider, total, cycles, halves_counted}
use Rattle.sci.specs.Quick.{counts, halves_passed, left_passed}
use Rattle.sci.specs.Calls.{most, baud_valid, valid, fresh, Answer, done, refused, refuse, remaining_after, lifted as port_lifted, called, direct, edges}
use Rattle.sci.specs.Laws.{FreshPasses, AcceptedPasses, CyclesMoveHalfCount}
use Rattle.sci.proofs.Steps.{Sound, sound, port_passes, accepted_in_range}
use Rattle.sci.proofs.Cycle.{cycles_move_half_count}
use Rattle.sci.proofs.Kept.{on_port_kept, cycles_kept}
use Rattle.sci.proofs.Wait.{lifted, called_waits}

pub fresh_passes : FreshPasses
unfolding FreshPasses PortFreshPasses fresh baud_valid
fresh_passes = rw port_fresh_passes

abbrev Passes : Answer → Type 0
Passes (done v t) = valid t ≡ true
Passes (refused n offset t) = Unit {0}

-- ---- kinds 1 to 7
abbrev Remains : ℕ → Type 0
Remains n = (0 < n) × (n ≤ 256)

module _ (p : Port) (n : ℕ) (byte : p.brr < 256) (h : Remains n) where
  remains : (c : Call) → in_range (OnPort c) ≡ true → Remains (remaining_after c p n)
  remains (Read a) e = h
  remains (Write a v) e = both_arms Remains (eqb a 0xff99 && (takes_writes p && not (has p.scr 0x30))) (suc v) n (omega arith, omega (arith, leb-true v 255 (and_right (leb a 65535) (leb v 255) e))) h
  remains (Wait halves) e = both_arms Remains (internal p && not (eqb halves 0)) _ n (omega arith, omega arith) h
  remains (Line line) e = h
  remains (Pins clock line) e = h
  remains (Power b) e = both_arms Remains (resets (has b 1) (has b 8) p) 256 n (omega arith, omega arith) h
  remains Inside e = h

-- ---- n cycles
left_remains : (l r t : ℕ) → Remains l → Remains r → Remains (left_in l r t)
unfolding left_in
left_remains l r t hl hr =
    by_cond Remains (ltb t l) _ _ (λ e. (omega (arith, ltb-true t l e), omega arith)) (λ e. (omega (arith, mod-lt (t - l) hr.0), omega arith))

passed_remains : (source : Source) (n : ℕ) (p : Port) (b : Baud) → p.brr < 256 → Remains b.remaining → Remains (left_passed source n p b)
unfolding left_passed
passed_remains source n p b byte h =
    both_arms Remains (counts source p) _ b.remaining (left_remains b.remaining (suc p.brr) (ticks_in (divider p.smr) (total source b) n) h (omega arith, omega arith)) h

-- ---- a call
module _ (s : Sci) (byte : s.port.brr < 256) (v : valid s ≡ true) where
  b : Sound s.baud
  b = sound s v

  called_passes : (c : Command) → Passes (called c s)
  unfolding called
  called_passes (OnPort c) = go (port_called c s.port) refl
    where
      go : (a : PortAnswer) → a ≡ port_called c s.port → Passes (port_lifted c s a)
      go (port_done w q) e =
          let k = remains s.port s.baud.remaining byte (b.some, b.few) c (accepted_in_range c s.port q w e) in
          on_port_kept s v c w q e _ k.0 k.1
      go (port_refused m offset q) e = tt
  called_passes (Cycles source n) =
      rw (called_waits source n s v)
      (both_arms Passes (leb n 65535) _ _
      (by_cond Passes (leb (total source s.baud + n) most) _ _
      (λ r. go (leb-true (total source s.baud + n) most r) (port_called (Wait halves) s.port) refl) (λ r. tt)) tt)
    where
      halves : ℕ
      halves = halves_passed source n s.port s.baud

      go : total source s.baud + n ≤ most → (a : PortAnswer) → a ≡ port_called (Wait halves) s.port → Passes (lifted source n s a)
      go r (port_done w q) e =
          let k = passed_remains source n s.port s.baud byte (b.some, b.few) in cycles_kept s v (Wait halves) w q e source n _ _ _ refl r k.0 k.1
      go r (port_refused m offset q) e = tt

pub accepted_passes : AcceptedPasses
unfolding AcceptedPasses direct
accepted_passes c s t v byte e = subst Passes e (by_cond Passes (valid s) _ _ (λ f. called_passes s byte f c) (λ f. tt))

-- ---- what an accepted call counts, by the half count; and no refusal is 0
abbrev Says : Command → Sci → Answer → Type 0
Says c s (done v t) = edges c s ≡ t.port.half - s.port.half
Says c s (refused n offset t) = n ≡ 0 → ⊥

module _ (s : Sci) (v : valid s ≡ true) where
  at_once : (c : Call) → port_direct c s.port ≡ port_called c s.port
  unfolding port_direct
  at_once c = cond_true (port_valid s.port) _ _ (port_passes s v)

  called_says : (c : Command) → Says c s (called c s)
  unfolding called CyclesMoveHalfCount
  called_says (OnPort c) = go (port_called c s.port) refl
    where
      go : (a : PortAnswer) → port_called c s.port ≡ a → Says (OnPort c) s (port_lifted c s a)
      go (port_done w q) e = port_edges c s.port q w (at_once c ∙ e)
      go (port_refused n offset q) e = port_refused_not_0 c s.port q n offset (at_once c ∙ e)
  called_says (Cycles source n) =
      let moved : (cycles source n s).port.half ≡ s.port.half + halves_counted source n s = cycles_move_half_count source n s in
      both_arms (Says (Cycles source n) s) (in_range (Cycles source n)) _ (refuse 2 s)
      (both_arms (Says (Cycles source n) s) (leb (total source s.baud + n) most) _ (refuse 10 s)
      (both_arms (Says (Cycles source n) s) (leb (cycles source n s).port.half limit) (done 0 (cycles source n s)) (refuse 4 s) (omega (arith, moved)) (λ z. omega arith))
      (λ z. omega arith)) (λ z. omega arith)

says : (c : Command) (s : Sci) → Says c s (direct c s)
unfolding direct
says c s = by_cond (Says c s) (valid s) (called c s) (refuse 8 s) (λ v. called_says s v c) (λ v z. omega arith)

pub edges_by_half_count : (c : Command) (s t : Sci) (v : ℕ) → direct c s ≡ done v t → edges c s ≡ t.port.half - s.port.half
edges_by_half_count c s t v e = subst (Says c s) e (says c s)

pub refused_not_0 : (c : Command) (s t : Sci) (n offset : ℕ) → direct c s ≡ refused n offset t → n ≡ 0 → ⊥
refused_not_0 c s t n offset e = subst (Says c s) e (says c s)
