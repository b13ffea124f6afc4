-- Halves on which nothing happens only count, so that a run of them may be counted at once; and what the loop of `halves` cites.
-- Assumes nothing.
use Rattle.std.specs.Prelude.{Option, None, Some, is_some, unwrap_or}
use Rattle.std.proofs.Common.{◌≡◌, ℕ, zero, suc, ◌+◌, ◌-◌, ◌%◌, ◌<◌, ◌≤◌, Bool, true, false, cond, not, ◌||◌, eqb, ltb, sym, refl, ap, ◌∙◌, subst, ap₂, true≢false, le_trans, suc-add, zero-add, arith, ltb-false, ltb-true, lt-ltb, eq-eqb, ne_eqb, eqb-true}
use mathlib.Core.Path.{subst⁻¹}
use borrow.Author.Tests.{eqb-false}
use Rattle.frame.specs.Frame.{differ}
use Rattle.branches.proofs.Branches.{by_cond}
use Rattle.frame.proofs.Choose.{cond_t}
use Rattle.shift.specs.Due.{due_now, within}
use Rattle.shift.specs.Sender.{tx_next}
use Rattle.shift.specs.Receiver.{rx_next}
use Rattle.port.specs.declared.Port.{Port}
use Rattle.port.specs.Fields.{with_half, with_high, with_edge}
use Rattle.port.specs.Baud.{external, counted}
use Rattle.port.specs.Clocked.{refresh_sync_clock, sync_edge}
use Rattle.port.specs.Half.{process_basic, clocked_edge, advance, half_step, halves}
use Rattle.port.specs.Private.Skip.{arms_on, clock_fresh, deadline, counted_by, toggled, edge_of, edge_of_cause, edge_work, work_cause, ClockGives, Planned, edges, edges_cause}
use Rattle.port.specs.Valid.{limit}
use Rattle.port.specs.Private.Ready.{Ready}
use Rattle.port.proofs.Keep.{own, keep_process_basic, keep_sync_edge, keep_clocked_edge, keep_refresh_sync_clock, keep_counted, sync_edge_ready, clocked_edge_ready, with_clock_ready}
use Rattle.port.proofs.SenderKeeps.{free_sender}
use Rattle.port.proofs.ReceiverKeeps.{free_receiver, advance_keeps}
use Rattle.port.proofs.OnePass.{basic_still, edge_still, refresh_still, half_once}
use Rattle.shift.specs.declared.Rx.{Rx}
use Rattle.shift.specs.declared.cause.Cause.{Cause}
use Rattle.shift.specs.declared.cause.Cause.TheVariants.{NoWord}
use Rattle.shift.specs.Cause.{followed_by}
use Rattle.port.specs.Cause.{edge_cause, clocked_cause, advance_cause, halves_cause}
use Rattle.port.proofs.Causes.{none_followed, followed_assoc, basic_cause_still, clocked_cause_still, half_cause_once, halves_cause_add}

-- ---- the first half that is due
-- a due half is none of the k halves after h
abbrev Clear : Option ℕ → ℕ → ℕ → Type 0
Clear None h k = Unit
Clear (Some n) h k = h < n → h + k < n

not_now : (d : Option ℕ) (h k : ℕ) → Clear d h (suc k) → due_now d (suc h) ≡ false
not_now None h k c = refl
not_now (Some n) h k c = ne_eqb n (suc h) (λ e. let l : h + suc k < n = c (omega (arith, e)) in omega (arith, e, l))

later : (d : Option ℕ) (h k : ℕ) → Clear d h (suc k) → Clear d (suc h) k
later None h k c = tt
later (Some n) h k c = λ b. let l : h + suc k < n = c (omega (arith, b)) in omega (arith, l)

within_bounds : (d : Option ℕ) (h left : ℕ) → 1 ≤ left → (1 ≤ within d h left) × (within d h left ≤ left)
within_bounds None h left l = (l, omega arith)
within_bounds (Some n) h left l =
    by_cond (λ (x : ℕ). (1 ≤ x) × (x ≤ left)) (ltb h n) _ _
    (λ e. by_cond (λ (x : ℕ). (1 ≤ x) × (x ≤ left)) (ltb (n - h) left) _ _
    (λ f. (omega (arith, ltb-true h n e), omega (arith, ltb-true (n - h) left f))) (λ f. (l, omega arith)))
    (λ e. (l, omega arith))

within_clear : (d : Option ℕ) (h left k : ℕ) → k < within d h left → Clear d h k
within_clear None h left k l = tt
within_clear (Some n) h left k l = λ b. near b (subst (λ (x : Bool). k < cond x (cond (ltb (n - h) left) (n - h) left) left) (lt-ltb h n b) l)
  where
    near : h < n → k < cond (ltb (n - h) left) (n - h) left → h + k < n
    near b m =
        by_cond (λ (x : ℕ). k < x → h + k < n) (ltb (n - h) left) _ _ (λ e g. omega arith) (λ e g. omega (arith, ltb-false (n - h) left e)) m

-- ---- k halves counted one by one are k counted at once
odd_suc : (k : ℕ) → not (eqb (suc k % 2) 0) ≡ not (not (eqb (k % 2) 0))
odd_suc k = go (eqb (k % 2) 0) refl
  where
    go : (b : Bool) → eqb (k % 2) 0 ≡ b → not (eqb (suc k % 2) 0) ≡ not (not b)
    go true e = let f : k % 2 ≡ 0 = eqb-true (k % 2) 0 e in ap not (ne_eqb (suc k % 2) 0 (omega (arith, f)))
    go false e = let f : k % 2 ≡ 0 → ⊥ = eqb-false (k % 2) 0 e in ap not (eq-eqb (suc k % 2) 0 (omega (arith, f)))

differ_not : (a b : Bool) → differ (not a) b ≡ differ a (not b)
differ_not true true = refl
differ_not true false = refl
differ_not false true = refl
differ_not false false = refl

not_differ : (b : Bool) → not b ≡ differ b true
not_differ true = refl
not_differ false = refl

abbrev at_half : ℕ → Bool → Port → Port
at_half n b p = with_edge (with_high (with_half p n) b) true

one_counted : (p : Port) → counted p ≡ counted_by 1 p
unfolding counted_by
one_counted p = ap₂ (λ (n : ℕ) (b : Bool). at_half n b p) (omega arith) (not_differ p.high)

then_counted : (k : ℕ) (p : Port) → counted_by k (counted p) ≡ counted_by (suc k) p
unfolding counted_by
then_counted k p =
    let further : suc p.half + k ≡ p.half + suc k = omega arith in
    ap (λ (e : Bool). with_edge (with_high (with_half p (suc p.half + k)) (differ (not p.high) (not (eqb (k % 2) 0)))) e) (or_true (not (eqb k 0)))
    ∙ ap₂ (λ (n : ℕ) (b : Bool). at_half n b p) further (differ_not p.high _ ∙ ap (differ p.high) (sym (odd_suc k)))
    ∙ ap (λ (b : Bool). with_edge (with_high (with_half p (p.half + suc k)) (differ p.high (not (eqb (suc k % 2) 0)))) (not b || p.edge)) (sym some)
  where
    some : eqb (suc k) 0 ≡ false
    some = ne_eqb (suc k) 0 (λ e. omega (arith, e))

    or_true : (b : Bool) → (b || true) ≡ true
    or_true true = refl
    or_true false = refl

counted_none : (p : Port) → counted_by 0 p ≡ p
unfolding counted_by
counted_none p = ap₂ (λ (n : ℕ) (b : Bool). with_edge (with_high (with_half p n) b) p.edge) (omega arith) (same p.high)
  where
    same : (b : Bool) → differ b false ≡ b
    same true = refl
    same false = refl

-- ---- a half on which nothing happens
-- no word begins, the clock of clocked form is planned, and nothing is due in the k halves to come
record Still (k : ℕ) (p : Port) : Type 0 where
  pub unarmed : arms_on p.rx p ≡ false
  pub fresh : clock_fresh p ≡ true
  pub sends : Clear (tx_next p.tx) p.half k
  pub receives : Clear (rx_next p.rx) p.half k
  pub clocks : Clear p.sync_next p.half k

arms_counted : (x : Option Rx) (p : Port) → arms_on x (counted p) ≡ arms_on x p
arms_counted None p = refl
arms_counted (Some r) p = refl

fresh_counted : (p : Port) → clock_fresh (counted p) ≡ clock_fresh p
unfolding clock_fresh
fresh_counted p = refl

still_counted : (k : ℕ) (p : Port) → Still (suc k) p → Still k (counted p)
still_counted k p s =
    record {
      unarmed = arms_counted p.rx p ∙ s.unarmed;
      fresh = fresh_counted p ∙ s.fresh;
      sends = later (tx_next p.tx) p.half k s.sends;
      receives = later (rx_next p.rx) p.half k s.receives;
      clocks = later p.sync_next p.half k s.clocks;
    }

advance_still : (k : ℕ) (p : Port) → external p ≡ false → Still (suc k) p → advance (counted p) ≡ counted p
unfolding advance
advance_still k p x s =
    let q : Port = counted p in
    let b : process_basic q ≡ q = basic_still q (not_now (tx_next p.tx) p.half k s.sends) (not_now (rx_next p.rx) p.half k s.receives) (arms_counted p.rx p ∙ s.unarmed) in
    let c : clocked_edge q ≡ q = edge_still q (not_now p.sync_next p.half k s.clocks) in
    ap (λ (w : Port). refresh_sync_clock (clocked_edge w)) b ∙ ap refresh_sync_clock c ∙ refresh_still q x (fresh_counted p ∙ s.fresh)

still_cause : (k : ℕ) (p : Port) → Still (suc k) p → advance_cause (counted p) ≡ NoWord
unfolding advance_cause
still_cause k p s =
    let q : Port = counted p in
    let sends = not_now (tx_next p.tx) p.half k s.sends in
    let receives = not_now (rx_next p.rx) p.half k s.receives in
    ap₂ followed_by (basic_cause_still q sends receives)
    (ap clocked_cause (basic_still q sends receives (arms_counted p.rx p ∙ s.unarmed)) ∙ clocked_cause_still q (not_now p.sync_next p.half k s.clocks))

-- ---- k halves, of which only the last may do more than count
one_half : {n : ℕ} (p : Port) → Ready n p → n < limit → external p ≡ false → halves 1 p ≡ advance (counted_by 1 p)
unfolding halves
one_half p r l x = half_once r l x ∙ ap advance (one_counted p)

skip : {n : ℕ} (k : ℕ) (p : Port) → Ready n p → n + suc k ≤ limit → external p ≡ false → Still k p → halves (suc k) p ≡ advance (counted_by (suc k) p)
unfolding halves
skip zero p r l x s = one_half p r (omega (arith, l)) x
skip (suc k) p r l x s =
    let c : half_step p ≡ counted p = half_once r (omega (arith, l)) x ∙ advance_still k p x s in
    ap (halves (suc k)) c ∙ skip k (counted p) (keep_counted r (omega (arith, l))) (omega (arith, l)) x (still_counted k p s) ∙ ap advance (then_counted (suc k) p)

-- k halves that all only count
all_still : {n : ℕ} (k : ℕ) (p : Port) → Ready n p → n + suc k ≤ limit → external p ≡ false → Still (suc k) p → halves (suc k) p ≡ counted_by (suc k) p
unfolding halves
all_still zero p r l x s = half_once r (omega (arith, l)) x ∙ advance_still zero p x s ∙ one_counted p
all_still (suc k) p r l x s =
    let c : half_step p ≡ counted p = half_once r (omega (arith, l)) x ∙ advance_still (suc k) p x s in
    ap (halves (suc k)) c ∙ all_still k (counted p) (keep_counted r (omega (arith, l))) (omega (arith, l)) x (still_counted (suc k) p s) ∙ then_counted (suc k) p

-- the causes of these
one_cause : {n : ℕ} (p : Port) → Ready n p → n < limit → external p ≡ false → halves_cause 1 p ≡ advance_cause (counted_by 1 p)
unfolding halves_cause
one_cause p r l x = half_cause_once r l x ∙ ap advance_cause (one_counted p)

none_first : {n : ℕ} (k m : ℕ) (p : Port) → Ready n p → n < limit → external p ≡ false → Still (suc k) p → halves_cause (suc m) p ≡ halves_cause m (counted p)
unfolding halves_cause
none_first k m p r l x s =
    ap₂ followed_by (half_cause_once r l x ∙ still_cause k p s) (ap (halves_cause m) (half_once r l x ∙ advance_still k p x s)) ∙ none_followed (halves_cause m (counted p))

skip_cause : {n : ℕ} (k : ℕ) (p : Port) → Ready n p → n + suc k ≤ limit → external p ≡ false → Still k p → halves_cause (suc k) p ≡ advance_cause (counted_by (suc k) p)
skip_cause zero p r l x s = one_cause p r (omega (arith, l)) x
skip_cause (suc k) p r l x s =
    none_first k (suc k) p r (omega (arith, l)) x s ∙ skip_cause k (counted p) (keep_counted r (omega (arith, l))) (omega (arith, l)) x (still_counted k p s)
    ∙ ap advance_cause (then_counted (suc k) p)

all_none : {n : ℕ} (k : ℕ) (p : Port) → Ready n p → n + suc k ≤ limit → external p ≡ false → Still (suc k) p → halves_cause (suc k) p ≡ NoWord
unfolding halves_cause
all_none zero p r l x s = none_first zero zero p r (omega (arith, l)) x s
all_none (suc k) p r l x s =
    none_first (suc k) (suc k) p r (omega (arith, l)) x s ∙ all_none k (counted p) (keep_counted r (omega (arith, l))) (omega (arith, l)) x (still_counted (suc k) p s)

-- as many as the deadline says
pub deadline_bounds : (p : Port) (left k : ℕ) → 1 ≤ left → k ≡ deadline left p → (1 ≤ k) × (k ≤ left)
unfolding deadline
deadline_bounds p left k l e =
    subst⁻¹ (λ (m : ℕ). (1 ≤ m) × (m ≤ left)) e
    (by_cond (λ (x : ℕ). (1 ≤ x) × (x ≤ left)) (arms_on p.rx p) _ _ (λ f. (omega arith, l))
    (λ f. by_cond (λ (x : ℕ). (1 ≤ x) × (x ≤ left)) (clock_fresh p) _ _
    (λ g.
    let a = within_bounds (tx_next p.tx) p.half left l in
    let b = within_bounds (rx_next p.rx) p.half _ a.0 in
    let c = within_bounds p.sync_next p.half _ b.0 in
    (c.0, le_trans c.1 (le_trans b.1 a.1)))
    (λ g. (omega arith, l))))

-- before the last of them, where there are more than one, all is still
deadline_still : (p : Port) (left i : ℕ) → 1 ≤ left → suc (suc i) ≡ deadline left p → Still (suc i) p
unfolding deadline
deadline_still p left i l e = go (arms_on p.rx p) (clock_fresh p) refl refl e
  where
    sent : ℕ
    sent = within (tx_next p.tx) p.half left

    taken : ℕ
    taken = within (rx_next p.rx) p.half sent

    first : ℕ
    first = within p.sync_next p.half taken

    go : (a f : Bool) → arms_on p.rx p ≡ a → clock_fresh p ≡ f → suc (suc i) ≡ cond a 1 (cond f first 1) → Still (suc i) p
    go true f u v d = absurd (omega (arith, d))
    go false false u v d = absurd (omega (arith, d))
    go false true u v d =
        let s = within_bounds (tx_next p.tx) p.half left l in
        let t = within_bounds (rx_next p.rx) p.half sent s.0 in
        let c = within_bounds p.sync_next p.half taken t.0 in
        record {
          unarmed = u;
          fresh = v;
          sends = within_clear (tx_next p.tx) p.half left (suc i) (omega (arith, d, t.1, c.1));
          receives = within_clear (rx_next p.rx) p.half sent (suc i) (omega (arith, d, c.1));
          clocks = within_clear p.sync_next p.half taken (suc i) (omega (arith, d));
        }

-- a deadline after all of them: they only count
pub idle_halves : (z p : Port) (n k : ℕ) → Ready p.half p → p.half + n ≤ limit → external p ≡ false → k ≡ deadline (n + 1) p → n < k → z ≡ counted_by n p → z ≡ halves n p
unfolding halves
idle_halves z p zero k r l x ek t e = e ∙ counted_none p
idle_halves z p (suc i) k r l x ek t e =
    let b = deadline_bounds p (suc i + 1) k (omega arith) ek in
    let same : suc (suc i) ≡ k = omega (arith, b.1, t) in
    e ∙ sym (all_still i p r l x (deadline_still p (suc i + 1) i (omega arith) (same ∙ ek)))

pub idle_cause : (z : Cause) (p : Port) (n k : ℕ) → Ready p.half p → p.half + n ≤ limit → external p ≡ false → k ≡ deadline (n + 1) p → n < k → z ≡ NoWord → z ≡ halves_cause n p
unfolding halves_cause
idle_cause z p zero k r l x ek t e = e
idle_cause z p (suc i) k r l x ek t e =
    let b = deadline_bounds p (suc i + 1) k (omega arith) ek in
    let same : suc (suc i) ≡ k = omega (arith, b.1, t) in
    e ∙ sym (all_none i p r l x (deadline_still p (suc i + 1) i (omega arith) (same ∙ ek)))

deadline_cause : (p : Port) (left k : ℕ) → Ready p.half p → external p ≡ false → k ≤ left → p.half + left ≤ limit → k ≡ deadline (left + 1) p → advance_cause (counted_by k p) ≡ halves_cause k p
deadline_cause p left zero r x l h e = absurd (omega (arith, (deadline_bounds p (left + 1) zero (omega arith) e).0))
deadline_cause p left (suc zero) r x l h e = sym (one_cause p r (omega (arith, l, h)) x)
deadline_cause p left (suc (suc i)) r x l h e = sym (skip_cause (suc i) p r (omega (arith, h, l)) x (deadline_still p (left + 1) i (omega arith) e))

-- The halves up to the next one that may do more than count, counted at once, and then the work of that one.
pub skip_deadline : (p : Port) (left k : ℕ) → Ready p.half p → external p ≡ false → 1 ≤ left → p.half + left ≤ limit → k ≡ deadline left p → advance (counted_by k p) ≡ halves k p
skip_deadline p left zero r x l h e = absurd (omega (arith, (deadline_bounds p left zero l e).0))
skip_deadline p left (suc zero) r x l h e = sym (one_half p r (omega (arith, l, h)) x)
skip_deadline p left (suc (suc i)) r x l h e =
    sym (skip (suc i) p r (omega (arith, h, (deadline_bounds p left (suc (suc i)) l e).1)) x (deadline_still p left i l e))

-- likewise where the next one is looked for one half further than they go, as `edges` does
pub skip_planned : (p : Port) (left k : ℕ) → Ready p.half p → external p ≡ false → k ≤ left → p.half + left ≤ limit → k ≡ deadline (left + 1) p → advance (counted_by k p) ≡ halves k p
skip_planned p left zero r x l h e = absurd (omega (arith, (deadline_bounds p (left + 1) zero (omega arith) e).0))
skip_planned p left (suc zero) r x l h e = sym (one_half p r (omega (arith, l, h)) x)
skip_planned p left (suc (suc i)) r x l h e = sym (skip (suc i) p r (omega (arith, h, l)) x (deadline_still p (left + 1) i (omega arith) e))

-- SCR is kept, so a port on the internal clock stays there
abbrev Internal : Port → Type 0
Internal q = external q ≡ false

pub advance_internal : (p : Port) → Internal p → Internal (advance p)
advance_internal p x =
    advance_keeps Internal (free_sender Internal (λ q t u b s x k. k) (λ q n k. k)) (free_receiver Internal (λ q x s v n k. k)) (λ q d b k. k) p x

-- ---- the work of an edge of the basic clock
pub toggled_ready : (q p : Port) (pin : Option Bool) → q ≡ toggled pin p → Ready p.half p → Ready q.half q
toggled_ready q p None e r = with_clock_ready q p None (not p.sck) e r
toggled_ready q p (Some level) e r = with_clock_ready q p p.sync_next p.sck e r

pub edge_t : (z q p : Port) (pin : Option Bool) (d : Bool) → d ≡ due_now p.sync_next p.half → (is_some pin || d) ≡ true → q ≡ toggled pin p
    → z ≡ sync_edge (unwrap_or pin (not p.sck)) q → z ≡ edge_of pin p
unfolding clocked_edge
edge_t z q p None d ed t eq e = cond_t (due_now p.sync_next p.half) _ p z (sym ed ∙ t) (e ∙ ap (sync_edge (not p.sck)) eq)
edge_t z q p (Some level) d ed t eq e = e ∙ ap (sync_edge level) eq

pub edge_f : (z p : Port) (pin : Option Bool) (d : Bool) → d ≡ due_now p.sync_next p.half → (is_some pin || d) ≡ false → z ≡ p → z ≡ edge_of pin p
edge_f z p None d ed t e = e ∙ sym (edge_still p (sym ed ∙ t))
edge_f z p (Some level) d ed t e = absurd (true≢false t)

pub edge_cause_t : (z : Cause) (q p : Port) (pin : Option Bool) (d : Bool) → d ≡ due_now p.sync_next p.half → (is_some pin || d) ≡ true → q ≡ toggled pin p
    → z ≡ edge_cause (unwrap_or pin (not p.sck)) q → z ≡ edge_of_cause pin p
unfolding clocked_cause
edge_cause_t z q p None d ed t eq e =
    cond_t (due_now p.sync_next p.half) _ NoWord z (sym ed ∙ t) (e ∙ ap (edge_cause (not p.sck)) eq)
edge_cause_t z q p (Some level) d ed t eq e = e ∙ ap (edge_cause level) eq

pub edge_cause_f : (z : Cause) (p : Port) (pin : Option Bool) (d : Bool) → d ≡ due_now p.sync_next p.half → (is_some pin || d) ≡ false → z ≡ NoWord → z ≡ edge_of_cause pin p
edge_cause_f z p None d ed t e = e ∙ sym (clocked_cause_still p (sym ed ∙ t))
edge_cause_f z p (Some level) d ed t e = absurd (true≢false t)

pub edge_ready : (r p : Port) (pin : Option Bool) → r ≡ edge_of pin p → Ready p.half p → Ready r.half r
edge_ready r p None e h = clocked_edge_ready r p e h
edge_ready r p (Some level) e h = sync_edge_ready r p level e h

keep_work : {n : ℕ} {p : Port} (pin : Option Bool) → Ready n p → Ready n (edge_work pin p)
keep_work None r = keep_refresh_sync_clock (keep_clocked_edge (keep_process_basic r))
keep_work (Some level) r = keep_refresh_sync_clock (keep_sync_edge (keep_process_basic r) level)

work_internal : (p : Port) → Internal p → Internal (edge_work None p)
unfolding advance
work_internal p x = advance_internal p x

-- ---- the loop: what is left makes of the port what all of them make of the first one
halves_add : (k m : ℕ) (p : Port) → halves (k + m) p ≡ halves m (halves k p)
unfolding halves
halves_add zero m p = ap (λ (n : ℕ). halves n p) (zero-add m)
halves_add (suc k) m p = ap (λ (n : ℕ). halves n p) (suc-add k m) ∙ halves_add k m (half_step p)

keep_counted_by : {n : ℕ} {p : Port} (k : ℕ) → Ready n p → n + k ≤ limit → Ready (n + k) (counted_by k p)
unfolding counted_by
keep_counted_by k r l =
    record { half≡ = ap (λ (m : ℕ). m + k) r.half≡; half≤ = omega (arith, r.half≡, l); placed = r.placed; sendable = r.sendable }

external_counted : (k : ℕ) (p : Port) → external (counted_by k p) ≡ external p
unfolding counted_by
external_counted k p = refl

-- a port that the loop may go on with, left edges from its end
abbrev Held : Option Bool → ℕ → Port → Type 0
Held None left p = external p ≡ false
Held (Some level) left p = left ≤ 1

abbrev pub Goes : Option Bool → ℕ → Port → Type 0
Goes pin left p = Ready p.half p × (p.half + left ≤ limit) × Held pin left p

pub goes_in : (pin : Option Bool) (n : ℕ) (p : Port) → Ready p.half p × (p.half + n ≤ limit) × ClockGives pin n p → Goes pin n p
goes_in None n p h = h
goes_in (Some level) n p h = (h.0, h.1, omega (arith, h.2))

module _ (pin : Option Bool) (p : Port) (left k : ℕ) (g : Goes pin left p) (e : Planned pin left k p) where
  pub planned_bounds : (1 ≤ k) × (k ≤ left + 1)
  planned_bounds = go pin e
    where
      go : (b : Option Bool) → Planned b left k p → (1 ≤ k) × (k ≤ left + 1)
      go None h = deadline_bounds p (left + 1) k (omega arith) h
      go (Some level) h = (omega (arith, h), omega (arith, h))

  -- the edges that are left only count where none of them is the planned one
  pub edges_end : (z : Port) → left < k → z ≡ counted_by left p → z ≡ edges pin left p
  unfolding halves
  edges_end z t d = go pin g.2 e
    where
      go : (b : Option Bool) → Held b left p → Planned b left k p → z ≡ edges b left p
      go None x h = idle_halves z p left k g.0 g.1 x h t d
      go (Some level) x h =
          let none : left ≡ 0 = omega (arith, h, t) in
          d ∙ ap (λ (m : ℕ). counted_by m p) none ∙ counted_none p ∙ sym (ap (λ (m : ℕ). edges (Some level) m p) none)

  -- nor have they a cause
  pub causes_end : (c : Cause) → left < k → c ≡ followed_by c (edges_cause pin left p)
  unfolding halves_cause
  causes_end c t = ap (followed_by c) (go pin g.2 e)
    where
      go : (b : Option Bool) → Held b left p → Planned b left k p → NoWord ≡ edges_cause b left p
      go None x h = idle_cause NoWord p left k g.0 g.1 x h t refl
      go (Some level) x h = let none : left ≡ 0 = omega (arith, h, t) in sym (ap (λ (m : ℕ). edges_cause (Some level) m p) none)

  module _ (l : k ≤ left) (r q : Port) (f : q ≡ counted_by k p) where
    counted_ready : Ready (p.half + k) q
    counted_ready = subst⁻¹ (Ready (p.half + k)) f (keep_counted_by k g.0 (omega (arith, g.1, l)))

    counted_clocked : ClockGives pin 1 q
    counted_clocked = go pin g.2
      where
        go : (b : Option Bool) → Held b left p → ClockGives b 1 q
        go (Some level) h = refl
        go None h = ap external f ∙ external_counted k p ∙ h

    pub counted_goes : Ready q.half q
    counted_goes = own q (p.half + k) counted_ready

    pub goes_on : r ≡ edge_work pin q → Goes pin (left - k) r
    goes_on d =
        let y : Ready (p.half + k) r = subst⁻¹ (Ready (p.half + k)) d (keep_work pin counted_ready) in
        (own r (p.half + k) y, omega (arith, y.half≡, g.1, l), go pin g.2 counted_clocked d)
      where
        go : (b : Option Bool) → Held b left p → ClockGives b 1 q → r ≡ edge_work b q → Held b (left - k) r
        go (Some level) h x d = omega (arith, h)
        go None h x d = ap external d ∙ work_internal q x

    pub plan_on : (m : ℕ) → m ≡ deadline (left - k + 1) r → Planned pin (left - k) m r
    plan_on m d = go pin g.2
      where
        go : (b : Option Bool) → Held b left p → Planned b (left - k) m r
        go None h = d
        go (Some level) h =
            let b = deadline_bounds r (left - k + 1) m (omega arith) d in
            omega (arith, h, planned_bounds.0, b.0, b.1)

    pub edges_on : (n : ℕ) (p₀ : Port) → r ≡ edge_work pin q → edges pin left p ≡ edges pin n p₀ → edges pin (left - k) r ≡ edges pin n p₀
    unfolding advance
    edges_on n p₀ d h = go pin g.2 e d ∙ h
      where
        go : (b : Option Bool) → Held b left p → Planned b left k p → r ≡ edge_work b q → edges b (left - k) r ≡ edges b left p
        go (Some level) h all d =
            let one : left ≡ 1 = omega (arith, h, l, all) in
            let none : left - k ≡ 0 = omega (arith, one, all) in
            ap (λ (m : ℕ). edges (Some level) m r) none ∙ d ∙ ap (edge_work (Some level)) (f ∙ ap (λ (m : ℕ). counted_by m p) all ∙ sym (one_counted p))
            ∙ sym (ap (λ (m : ℕ). edges (Some level) m p) one)
        go None h plan d =
            ap (halves (left - k)) (d ∙ ap advance f ∙ skip_planned p left k g.0 h l g.1 plan) ∙ sym (halves_add k (left - k) p)
            ∙ ap (λ (m : ℕ). halves m p) (omega (arith, l))

    -- and of their causes
    pub causes_on : (n : ℕ) (p₀ : Port) (old new next : Cause) → r ≡ edge_work pin q → new ≡ work_cause pin q → next ≡ followed_by old new
        → followed_by old (edges_cause pin left p) ≡ edges_cause pin n p₀ → followed_by next (edges_cause pin (left - k) r) ≡ edges_cause pin n p₀
    unfolding advance advance_cause
    causes_on n p₀ old new next d w j h =
        ap (λ (c : Cause). followed_by c (edges_cause pin (left - k) r)) (j ∙ ap (followed_by old) w)
        ∙ sym (followed_assoc old (work_cause pin q) (edges_cause pin (left - k) r)) ∙ ap (followed_by old) (go pin g.2 e d) ∙ h
      where
        go : (b : Option Bool) → Held b left p → Planned b left k p → r ≡ edge_work b q → followed_by (work_cause b q) (edges_cause b (left - k) r) ≡ edges_cause b left p
        go (Some level) h all d =
            let one : left ≡ 1 = omega (arith, h, l, all) in
            let none : left - k ≡ 0 = omega (arith, one, all) in
            ap (λ (m : ℕ). followed_by (work_cause (Some level) q) (edges_cause (Some level) m r)) none
            ∙ ap (work_cause (Some level)) (f ∙ ap (λ (m : ℕ). counted_by m p) all ∙ sym (one_counted p))
            ∙ sym (ap (λ (m : ℕ). edges_cause (Some level) m p) one)
        go None h plan d =
            ap₂ followed_by (ap advance_cause f ∙ deadline_cause p left k g.0 h l g.1 plan)
            (ap (halves_cause (left - k)) (d ∙ ap advance f ∙ skip_planned p left k g.0 h l g.1 plan))
            ∙ sym (halves_cause_add k (left - k) p) ∙ ap (λ (m : ℕ). halves_cause m p) (omega (arith, l))
