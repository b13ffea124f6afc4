-- Cycle by cycle is all at once: the claim of specs/Quick.antt. Its numbers are those of Count.antt, with the port's half count for the halves; its port has
-- passed the halves that the cycles count.
-- Assumes nothing.
use Rattle.std.proofs.Common.{◌≡◌, ℕ, zero, suc, ◌+◌, ◌-◌, ◌%◌, ◌<◌, Bool, true, false, cond, ◌&&◌, eqb, ltb, refl, sym, ap, ◌∙◌, arith, add-one}
use Rattle.std.proofs.lemmas.Bool.Decides.{nat_tests}
use native.Mathlib.Numerals.{one-add}
use native.Mathlib.Nat.{zero-add, add-zero}
use Prim.Native.Nat.compare
use Rattle.branches.proofs.Branches.{both_arms}
use Rattle.command.specs.declared.Source.{Source}
use Rattle.command.specs.declared.Source.TheVariants.{System, Watch}
use Rattle.shift.specs.declared.cause.Cause.{Cause}
use Rattle.shift.specs.declared.cause.Cause.TheVariants.{NoWord}
use Rattle.shift.specs.Cause.{followed_by}
use Rattle.shift.specs.Receiver.{rx_due_on}
use Rattle.port.specs.declared.Port.{Port}
use Rattle.port.specs.Baud.{counted as counted_port, internal}
use Rattle.port.specs.Clocked.{refresh_sync_clock}
use Rattle.port.specs.Half.{process_basic, sync, half_step, halves, inside}
use Rattle.port.specs.Cause.{half_cause, halves_cause}
use Rattle.port.proofs.Causes.{none_followed}
use Rattle.port.proofs.SenderKeeps.{SenderClosed, free_sender}
use Rattle.port.proofs.ReceiverKeeps.{ReceiverClosed, free_receiver, refresh_keeps, basic_keeps, advance_keeps}
use Rattle.sci.specs.declared.Baud.{Baud}
use Rattle.sci.specs.declared.Sci.{Sci}
use Rattle.sci.specs.Count.{Count, ticked, counted, ticks_in, halves_in, left_in, Counting}
use Rattle.sci.specs.Cycle.{chosen, divider, total, advanced, with_remaining, reload, cycle, cycles, counts_half, halves_counted}
use Rattle.sci.specs.Cause.{cycle_cause, cycles_cause}
use Rattle.sci.specs.Quick.{counts, halves_passed, left_passed, on_edge, at_edge, edge_kept, quick, Simulates}
use Rattle.sci.specs.Laws.{CyclesMoveHalfCount, CyclesTellHalves}
use Rattle.sci.proofs.Count.{counting}

-- ---- a half
-- the port counts one, and keeps what a clock's cycle looks at
abbrev Counts : Port → Port → Type 0
Counts p q = (internal q ≡ internal p) × (q.smr ≡ p.smr) × (q.brr ≡ p.brr) × (q.half ≡ suc p.half)

half_counts : (p : Port) → Counts p (half_step p)
unfolding half_step sync
half_counts p =
    advance_keeps P sends receives (λ q d b k. k) _
    (both_arms P (rx_due_on p.rx (suc p.half)) (refresh_sync_clock (process_basic q)) q
    (refresh_keeps P (λ q d b k. k) (process_basic q) (basic_keeps P sends receives q (refl, refl, refl, refl))) (refl, refl, refl, refl))
  where
    q : Port
    q = counted_port p

    P : Port → Type 0
    P = Counts p

    sends : SenderClosed P
    sends = free_sender P (λ q t u b s x k. k) (λ q n k. k)

    receives : ReceiverClosed P
    receives = free_receiver P (λ q x s v n k. k)

-- the edge bit does not matter to it
half_inside : (p : Port) → half_step (inside p) ≡ half_step p
unfolding half_step
half_inside p = refl

-- ---- a cycle
total_more : (source : Source) (n k : ℕ) (b : Baud) → total source (with_remaining (advanced source n b) k) ≡ total source b + n
total_more System n k b = refl
total_more Watch n k b = refl

abbrev count : Source → Sci → Count
count source s = record { total = total source s.baud; remaining = s.baud.remaining; halves = s.port.half }

module _ (source : Source) (s : Sci) where
  abbrev p : Port
  p = s.port

  -- the state after it, by the port and the ticks that remain
  abbrev to : Port → ℕ → Sci
  to q k = record { port = q; baud = with_remaining (advanced source 1 s.baud) k }

  abbrev count_to : ℕ → ℕ → Count
  count_to k h = record { total = total source s.baud + 1; remaining = k; halves = h }

  -- with a half or without one
  record Cycled (half : Bool) (m : Count) (t : Sci) : Type 0 where
    kept : (internal t.port ≡ internal p) × (t.port.smr ≡ p.smr) × (t.port.brr ≡ p.brr)
    port : t.port ≡ edge_kept half (halves (cond half 1 0) p)
    half_count : t.port.half ≡ p.half + cond half 1 0
    clocks : t.baud ≡ with_remaining (advanced source 1 s.baud) t.baud.remaining
    counted_so : count source t ≡ m

  count_is : (k : ℕ) {h g : ℕ} → h ≡ g → ◌≡◌ {A = Count} (record { total = total source (with_remaining (advanced source 1 s.baud) k); remaining = k; halves = h }) (count_to k g)
  count_is k e = λ i. record { total = total_more source 1 k s.baud i; remaining = k; halves = e i }

  a_half : Cycled true (count_to (reload p) (suc p.half)) (to (half_step (inside p)) (reload p))
  unfolding halves
  a_half =
      let h = half_counts (inside p) in
      record { kept = (h.0, h.1, h.2); port = half_inside p; half_count = h.3 ∙ sym (add-one p.half); clocks = refl; counted_so = count_is (reload p) h.3 }

  no_half : (k : ℕ) → Cycled false (count_to k p.half) (to (inside p) k)
  unfolding halves
  no_half k = record { kept = (refl, refl, refl); port = refl; half_count = omega arith; clocks = refl; counted_so = count_is k refl }

  -- by whether the clock counts, a tick is due, and it is the last
  by_tests : (c d l : Bool)
      → Cycled ((c && d) && l)
      (cond (c && d) (cond l (count_to (reload p) (suc p.half)) (count_to (s.baud.remaining - 1) p.half)) (count_to s.baud.remaining p.half))
      (cond (c && d) (cond l (to (half_step (inside p)) (reload p)) (to (inside p) (s.baud.remaining - 1))) (to (inside p) s.baud.remaining))
  by_tests true true true = a_half
  by_tests true true false = no_half (s.baud.remaining - 1)
  by_tests true false l = no_half s.baud.remaining
  by_tests false d l = no_half s.baud.remaining

-- the count after a cycle of a clock that counts, or that does not
abbrev stepped : Bool → ℕ → ℕ → Count → Count
stepped c d r m =
    let more : Count = record { total = m.total + 1; remaining = m.remaining; halves = m.halves } in
    cond (c && eqb (more.total % d) 0) (ticked r more) more

one : (source : Source) (s : Sci)
    → Cycled source s (counts_half source s) (stepped (counts source s.port) (divider s.port.smr) (reload s.port) (count source s)) (cycle source s)
one System s = by_tests System s (counts System s.port) (eqb ((s.baud.system + 1) % divider s.port.smr) 0) (eqb s.baud.remaining 1)
one Watch s = by_tests Watch s (counts Watch s.port) (eqb ((s.baud.watch + 1) % divider s.port.smr) 0) (eqb s.baud.remaining 1)

-- ---- the port
edge_inside : (a k : ℕ) (p : Port) → edge_kept (ltb a k) (halves k (inside p)) ≡ edge_kept (ltb a k) (halves k p)
unfolding halves
edge_inside a zero p = rw compare.suc-zero
edge_inside a (suc k) p = ap (λ (q : Port). edge_kept (ltb a (suc k)) (halves k q)) (half_inside p)

-- a cycle more before n: with a half it is the port's, without one the edge bit is cleared
ports_more : (half : Bool) (f g : ℕ → ℕ) (p : Port) → f 0 ≡ 0 → g 0 ≡ 0 → ((k : ℕ) → f (suc k) ≡ cond half 1 0 + g k) → (n : ℕ)
    → edge_kept (on_edge g n) (halves (g n) (edge_kept half (halves (cond half 1 0) p))) ≡ edge_kept (on_edge f (suc n)) (halves (f (suc n)) p)
unfolding halves
ports_more true f g p f0 g0 e zero = rw (e 0, f0, g0)
ports_more true f g p f0 g0 e (suc m) = rw (e m, e (suc m), one-add (g m), one-add (g (suc m)), compare.suc-suc)
ports_more false f g p f0 g0 e zero = rw (e 0, f0, g0)
ports_more false f g p f0 g0 e (suc m) = rw (e m, e (suc m), zero-add (g m), zero-add (g (suc m))) (edge_inside (g m) (g (suc m)) p)

cycles_port : (source : Source) (n : ℕ) (s : Sci)
    → (cycles source n s).port ≡ edge_kept (on_edge (λ k. halves_counted source k s) n) (halves (halves_counted source n s) s.port)
unfolding cycles halves_counted halves
cycles_port source zero s = refl
cycles_port source (suc n) s =
    let t = cycle source s in
    cycles_port source n t
    ∙ ap (λ (q : Port). edge_kept (on_edge (λ k. halves_counted source k t) n) (halves (halves_counted source n t) q)) (one source s).port
    ∙ ports_more (counts_half source s) (λ k. halves_counted source k s) (λ k. halves_counted source k t) s.port refl refl (λ k. refl) n

-- the half count moves by the halves counted
pub cycles_move_half_count : CyclesMoveHalfCount
unfolding CyclesMoveHalfCount cycles halves_counted
cycles_move_half_count source zero s = omega arith
cycles_move_half_count source (suc n) s = omega (arith, cycles_move_half_count source n (cycle source s), (one source s).half_count)

-- ---- the cause
half_cause_inside : (p : Port) → half_cause (inside p) ≡ half_cause p
unfolding half_cause
half_cause_inside p = refl

halves_cause_inside : (k : ℕ) (p : Port) → halves_cause k (inside p) ≡ halves_cause k p
unfolding halves_cause half_cause half_step
halves_cause_inside zero p = refl
halves_cause_inside (suc k) p = refl

-- that of a cycle, and of the halves after it
causes_more : (half : Bool) (m : ℕ) (p : Port)
    → followed_by (cond half (half_cause (inside p)) NoWord) (halves_cause m (edge_kept half (halves (cond half 1 0) p))) ≡ halves_cause (cond half 1 0 + m) p
unfolding halves halves_cause
causes_more true m p =
    ap (λ (c : Cause). followed_by c (halves_cause m (half_step p))) (half_cause_inside p) ∙ ap (λ (k : ℕ). halves_cause k p) (sym (one-add m))
causes_more false m p =
    none_followed (halves_cause m (inside p)) ∙ halves_cause_inside m p ∙ ap (λ (k : ℕ). halves_cause k p) (sym (zero-add m))

pub cycles_tell_halves : CyclesTellHalves
unfolding CyclesTellHalves cycles_cause halves_counted halves_cause
cycles_tell_halves source zero s = refl
cycles_tell_halves source (suc n) s =
    let t = cycle source s in
    ap (followed_by (cycle_cause source s)) (cycles_tell_halves source n t ∙ ap (halves_cause (halves_counted source n t)) (one source s).port)
    ∙ causes_more (counts_half source s) (halves_counted source n t) s.port

-- ---- the clocks
advanced_none : (source : Source) (b : Baud) → b ≡ with_remaining (advanced source 0 b) b.remaining
advanced_none System b = rw add-zero
advanced_none Watch b = rw add-zero

advanced_more : (source : Source) (n k j : ℕ) (b : Baud) → with_remaining (advanced source n (with_remaining (advanced source 1 b) j)) k ≡ with_remaining (advanced source (suc n) b) k
advanced_more System n k j b = let e : b.system + 1 + n ≡ b.system + suc n = omega arith in rw e
advanced_more Watch n k j b = let e : b.watch + 1 + n ≡ b.watch + suc n = omega arith in rw e

cycles_clocks : (source : Source) (n : ℕ) (s : Sci) → let b = (cycles source n s).baud in b ≡ with_remaining (advanced source n s.baud) b.remaining
unfolding cycles
cycles_clocks source zero s = advanced_none source s.baud
cycles_clocks source (suc n) s =
    let t = cycle source s in
    let k = (cycles source n t).baud.remaining in
    cycles_clocks source n t ∙ ap (λ (b : Baud). with_remaining (advanced source n b) k) (one source s).clocks ∙ advanced_more source n k t.baud.remaining s.baud

-- ---- the numbers
abbrev stepping : Bool → ℕ → ℕ → ℕ → Count → Count
stepping c d r n m = cond c (counted d r n m) (record { total = m.total + n; remaining = m.remaining; halves = m.halves })

stepping_more : (c : Bool) (d r n : ℕ) (m : Count) → stepping c d r n (stepped c d r m) ≡ stepping c d r (suc n) m
unfolding counted
stepping_more true d r n m = rw add-one
stepping_more false d r n m = let e : m.total + 1 + n ≡ m.total + suc n = omega arith in rw e

cycles_count : (source : Source) (n : ℕ) (s : Sci) → count source (cycles source n s) ≡ stepping (counts source s.port) (divider s.port.smr) (reload s.port) n (count source s)
unfolding cycles counted
cycles_count source zero s = both_arms (λ (m : Count). count source s ≡ m) (counts source s.port) _ _ refl (rw add-zero)
cycles_count source (suc n) s =
    let o = one source s in
    cycles_count source n (cycle source s)
    ∙ (λ i. stepping (o.kept.0 i && chosen source (o.kept.1 i)) (divider (o.kept.1 i)) (suc (o.kept.2 i)) n (o.counted_so i))
    ∙ stepping_more (counts source s.port) (divider s.port.smr) (reload s.port) n (count source s)

stepping_is : (c : Bool) (d r n : ℕ) (m : Count) → 0 < d → 0 < r → 0 < m.remaining
    → let ticks = ticks_in d m.total n in
    stepping c d r n m
    ≡ record { total = m.total + n; remaining = cond c (left_in m.remaining r ticks) m.remaining; halves = m.halves + cond c (halves_in m.remaining r ticks) 0 }
unfolding Counting
stepping_is true d r n m hd hr h = counting d r n m hd hr h
stepping_is false d r n m hd hr h = rw add-zero

divider_positive : (smr : ℕ) → 0 < divider smr
divider_positive smr = grind (arith, nat_tests)

numbers : (source : Source) (n : ℕ) (s : Sci) → 0 < s.baud.remaining
    → count source (cycles source n s)
    ≡ record { total = total source s.baud + n; remaining = left_passed source n s.port s.baud; halves = s.port.half + halves_passed source n s.port s.baud }
unfolding left_passed halves_passed
numbers source n s h =
    cycles_count source n s
    ∙ stepping_is (counts source s.port) (divider s.port.smr) (reload s.port) n (count source s) (divider_positive s.port.smr) (omega arith) h

pub halves_are : (source : Source) (n : ℕ) (s : Sci) → 0 < s.baud.remaining → halves_counted source n s ≡ halves_passed source n s.port s.baud
unfolding CyclesMoveHalfCount
halves_are source n s h = omega (arith, ap (λ (m : Count). m.halves) (numbers source n s h), cycles_move_half_count source n s)

pub causes_are : (source : Source) (n : ℕ) (s : Sci) → 0 < s.baud.remaining → cycles_cause source n s ≡ halves_cause (halves_passed source n s.port s.baud) s.port
unfolding CyclesTellHalves
causes_are source n s h = cycles_tell_halves source n s ∙ ap (λ (k : ℕ). halves_cause k s.port) (halves_are source n s h)

pub simulates : Simulates
unfolding Simulates quick at_edge
simulates source n s h = λ i.
    record {
      port = (cycles_port source n s ∙ ap (λ (f : ℕ → ℕ). edge_kept (on_edge f n) (halves (f n) s.port)) (λ j k. halves_are source k s h j)) i;
      baud = (cycles_clocks source n s ∙ ap (λ (m : Count). with_remaining (advanced source n s.baud) m.remaining) (numbers source n s h)) i;
    }
