-- One half of the port: what stands still, the bound, and, with no clocked word in the receiver, the view.
-- Assumes nothing.
use Rattle.std.specs.Prelude.{Option, None, Some}
use mathlib.Core.Path.{◌≡◌, refl, sym, ap, ◌∙◌, subst}
use Prim.Native.Nat.{ℕ, zero, suc, ◌^◌}
use mathlib.Core.Bool.{Bool, true, false, cond, not, ◌&&◌, ◌||◌, true≢false}
use lib.Dec.{eqb, ltb}
use lib.Bits.{bit_or}
use lib.IntN.{ℤ, pos, negsuc}
use Rattle.frame.specs.declared.Format.{Format}
use Rattle.port.specs.declared.Port.{Port}
use Rattle.shift.specs.declared.Rx.{Rx}
use Rattle.shift.specs.declared.Sampled.{Sampled}
use Rattle.shift.specs.declared.Sampled.TheVariants.{Dropped, Onward, Whole}
use Rattle.frame.specs.Frame.{differ, has}
use Rattle.port.specs.Baud.{counted, format_of}
use Rattle.shift.specs.Receiver.{bit_taken, clocked_word, last_bit, rx_clocked, rx_due_on, armed, sample, sample_at, started, stepped, stopped}
use Rattle.port.specs.Clocked.{receive_bit, receive_bit_on, refresh_sync_clock, sync_edge, take_bit, with_clock}
use Rattle.port.specs.Fields.{with_rx}
use Rattle.port.specs.Half.{advance, clocked_edge, half_step, process_basic, sync}
use Rattle.shift.specs.Due.{due_now}
use Rattle.port.specs.Receiver.{complete_receive, error_free, input_level}
use Rattle.branches.proofs.Branches.{by_cond}
use Rattle.recovery.proofs.Bounds.{Fits, basic_fits, basic_twice, by_clock, by_half, format_sound, no_word, v_complete_rx}
use Rattle.recovery.proofs.Project.{same_either, view, view_basic, view_complete, view_refresh, view_shift_out, view_tail_step}
use Rattle.recovery.proofs.View.{View, fall, v_advance, v_advance_on, v_arm, v_arm_on, v_basic, v_can_arm, v_complete, v_count, v_half, v_outcome, v_rx}

-- what of the view only registers, pins, power and the count of halves change
pub record Core : Type 0 where
  pub fmt : Format
  pub on : Bool
  pub runs : Bool
  pub half : ℕ
  pub high : Bool
  pub mark : Bool

abbrev pub core : View → Core
core v = record { fmt = v.fmt; on = v.on; runs = v.runs; half = v.half; high = v.high; mark = v.mark }

core_complete : (v : View) (r : Rx) → core (v_complete v r) ≡ core v
core_complete v r =
    by_cond (λ (w : View). core w ≡ core v) (has v.flags 0x40) _ _ (λ e. refl) (λ e. by_cond (λ (w : View). core w ≡ core v) (eqb r.error 0) _ _ (λ g. refl) (λ g. refl))

core_outcome : (o : Sampled) (v : View) → core (v_outcome o v) ≡ core v
core_outcome Dropped v = refl
core_outcome (Onward r) v = refl
core_outcome (Whole r) v = core_complete (v_rx v None) r

pub core_advance : (v : View) → core (v_advance v) ≡ core v
unfolding v_advance
core_advance v = go v.rx
  where
    go : (x : Option Rx) → core (v_advance_on x v) ≡ core v
    go None = refl
    go (Some r) =
        by_cond (λ (w : View). core w ≡ core v) (due_now r.next v.half) (v_outcome (sample v.fmt v.mark v.half r) v) v
        (λ e. core_outcome (sample v.fmt v.mark v.half r) v) (λ e. refl)

pub core_arm : (v : View) → core (v_arm v) ≡ core v
unfolding v_arm
core_arm v = go v.rx
  where
    go : (x : Option Rx) → core (v_arm_on x v) ≡ core v
    go None = by_cond (λ (w : View). core w ≡ core v) (v_can_arm v) (v_rx v (Some (armed v.fmt (fall v.half v.high)))) v (λ e. refl) (λ e. refl)
    go (Some r) = refl

pub core_basic : (v : View) → core (v_basic v) ≡ core v
unfolding v_basic
core_basic v = core_arm (v_advance v) ∙ core_advance v

-- ---- the clocked edge
core_take_bit : (p : Port) (r : Rx) → core (view (take_bit p r)) ≡ core (view p)
unfolding take_bit
core_take_bit p r =
    by_cond (λ (q : Port). core (view q) ≡ core (view p)) (last_bit r.position) (complete_receive (with_rx p None) (bit_taken (input_level p) r)) (with_rx p (Some (bit_taken (input_level p) r)))
    (λ e. ap core (view_complete (with_rx p None) (bit_taken (input_level p) r)) ∙ core_complete (view (with_rx p None)) (bit_taken (input_level p) r)) (λ e. refl)

core_receive_bit : (p : Port) → core (view (receive_bit p)) ≡ core (view p)
unfolding receive_bit
core_receive_bit p =
    by_cond (λ (q : Port). core (view q) ≡ core (view p)) (has p.scr 0x10 && error_free p) (receive_bit_on p.rx p) p (λ e. go p.rx) (λ e. refl)
  where
    go : (x : Option Rx) → core (view (receive_bit_on x p)) ≡ core (view p)
    go None = by_cond (λ (q : Port). core (view q) ≡ core (view p)) (format_of p).synchronous (take_bit p (clocked_word (format_of p))) p (λ e. core_take_bit p (clocked_word (format_of p))) (λ e. refl)
    go (Some r) = by_cond (λ (q : Port). core (view q) ≡ core (view p)) r.format.synchronous (take_bit p r) p (λ e. core_take_bit p r) (λ e. refl)

pub complete_rx : (p : Port) (r : Rx) → (complete_receive (with_rx p None) r).rx ≡ None
complete_rx p r = ap (λ (v : View). v.rx) (view_complete (with_rx p None) r) ∙ v_complete_rx (view (with_rx p None)) r

take_bit_fits : (p : Port) (h : ℕ) (r : Rx) → r.format.synchronous ≡ true → r.next ≡ None → Fits h (take_bit p r).rx
unfolding take_bit
take_bit_fits p h r c n =
    by_cond (λ (q : Port). Fits h q.rx) (last_bit r.position) (complete_receive (with_rx p None) (bit_taken (input_level p) r)) (with_rx p (Some (bit_taken (input_level p) r)))
    (λ e. subst (Fits h) (sym (complete_rx p (bit_taken (input_level p) r))) no_word) (λ e. by_clock (bit_taken (input_level p) r) c n)

receive_bit_fits : (p : Port) (h : ℕ) → Fits h p.rx → Fits h (receive_bit p).rx
unfolding receive_bit
receive_bit_fits p h t =
    by_cond (λ (q : Port). Fits h q.rx) (has p.scr 0x10 && error_free p) (receive_bit_on p.rx p) p (λ e. go p.rx refl t) (λ e. t)
  where
    go : (x : Option Rx) → p.rx ≡ x → Fits h x → Fits h (receive_bit_on x p).rx
    go x q no_word =
        by_cond (λ (q : Port). Fits h q.rx) (format_of p).synchronous (take_bit p (clocked_word (format_of p))) p
        (λ e. take_bit_fits p h (clocked_word (format_of p)) e refl) (λ e. t)
    go x q (by_clock r c n) = by_cond (λ (q : Port). Fits h q.rx) r.format.synchronous (take_bit p r) p (λ e. take_bit_fits p h r e n) (λ e. t)
    go x q (by_half r u c n lt sr nr) =
        by_cond (λ (q : Port). Fits h q.rx) r.format.synchronous (take_bit p r) p (λ e. absurd (true≢false (sym e ∙ c))) (λ e. t)

pub core_sync_edge : (b : Bool) (p : Port) → core (view (sync_edge b p)) ≡ core (view p)
unfolding sync_edge
core_sync_edge true p = ap core (view_tail_step (receive_bit p)) ∙ core_receive_bit p
core_sync_edge false p = ap core (view_shift_out p)

pub sync_edge_fits : (b : Bool) (p : Port) (h : ℕ) → Fits h p.rx → Fits h (sync_edge b p).rx
unfolding sync_edge
sync_edge_fits true p h t = subst (Fits h) (sym (ap (λ (v : View). v.rx) (view_tail_step (receive_bit p)))) (receive_bit_fits p h t)
sync_edge_fits false p h t = subst (Fits h) (sym (ap (λ (v : View). v.rx) (view_shift_out p))) t

-- ---- one half
core_clocked_step : (p : Port) → core (view (clocked_edge p)) ≡ core (view p)
unfolding clocked_edge
core_clocked_step p =
    by_cond (λ (q : Port). core (view q) ≡ core (view p)) (due_now p.sync_next p.half) (sync_edge (not p.sck) (with_clock p None (not p.sck))) p
    (λ e. core_sync_edge (not p.sck) (with_clock p None (not p.sck))) (λ e. refl)

clocked_step_fits : (p : Port) (h : ℕ) → Fits h p.rx → Fits h (clocked_edge p).rx
unfolding clocked_edge
clocked_step_fits p h t =
    by_cond (λ (q : Port). Fits h q.rx) (due_now p.sync_next p.half) (sync_edge (not p.sck) (with_clock p None (not p.sck))) p
    (λ e. sync_edge_fits (not p.sck) (with_clock p None (not p.sck)) h t) (λ e. t)

-- the basic work of a half is done once
pub early_basic : (p : Port) → Fits p.half p.rx → view (process_basic (sync (counted p))) ≡ v_basic (v_count (view p))
unfolding sync
early_basic p t =
    by_cond (λ (q : Port). view (process_basic q) ≡ v_basic (v_count (view p))) (rx_due_on p.rx (suc p.half)) (refresh_sync_clock (process_basic (counted p))) (counted p)
    (λ e. view_basic (refresh_sync_clock (process_basic (counted p))) ∙ ap v_basic (view_refresh (process_basic (counted p)) ∙ view_basic (counted p))
    ∙ basic_twice (v_count (view p)) p.half refl (format_sound p.smr p.semr) t)
    (λ e. view_basic (counted p))

pub core_half : (p : Port) → Fits p.half p.rx → core (view (half_step p)) ≡ core (v_count (view p))
unfolding half_step advance
core_half p t =
    ap core (view_refresh (clocked_edge (process_basic (sync (counted p))))) ∙ core_clocked_step (process_basic (sync (counted p))) ∙ ap core (early_basic p t)
    ∙ core_basic (v_count (view p))

pub half_fits : (p : Port) → Fits p.half p.rx → Fits (suc p.half) (half_step p).rx
unfolding half_step advance
half_fits p t =
    subst (Fits (suc p.half)) (sym (ap (λ (v : View). v.rx) (view_refresh (clocked_edge (process_basic (sync (counted p)))))))
    (clocked_step_fits (process_basic (sync (counted p))) (suc p.half)
    (subst (Fits (suc p.half)) (sym (ap (λ (v : View). v.rx) (early_basic p t))) (basic_fits (v_count (view p)) p.half refl (format_sound p.smr p.semr) t)))

-- ---- no clocked word in the receiver
abbrev pub OutcomePlain : Sampled → Type 0
OutcomePlain Dropped = Unit {0}
OutcomePlain (Onward r) = r.format.synchronous ≡ false
OutcomePlain (Whole r) = Unit {0}

pub sample_plain : (now : Format) (high : Bool) (h : ℕ) (r : Rx) → now.synchronous ≡ false → r.format.synchronous ≡ false → (z : ℤ) → OutcomePlain (sample_at z now high h r)
unfolding sample_at
sample_plain now high h r c d (negsuc zero) = by_cond OutcomePlain high Dropped (Onward (stepped h (negsuc zero) r.value r.parity r.error r)) (λ e. tt) (λ e. d)
sample_plain now high h r c d (negsuc (suc zero)) = by_cond OutcomePlain (high || now.synchronous) Dropped (Onward (started now h r)) (λ e. tt) (λ e. c)
sample_plain now high h r c d (negsuc (suc (suc k))) = tt
sample_plain now high h r c d (pos j) =
    by_cond OutcomePlain (ltb j r.format.«data») (Onward (stepped h (pos j) (cond high (bit_or r.value (2 ^ j)) r.value) (differ r.parity high) r.error r)) _
    (λ e. d) (λ e. by_cond OutcomePlain (eqb j r.format.«data» && r.format.parity) (Onward (stepped h (pos j) r.value r.parity (cond (differ high (differ r.parity r.format.odd)) (bit_or r.error 8) r.error) r)) (Whole (stopped high r)) (λ g. d) (λ g. tt))

abbrev pub Plain : Option Rx → Type 0
Plain x = rx_clocked x ≡ false

outcome_plain : (o : Sampled) (v : View) → OutcomePlain o → Plain (v_outcome o v).rx
outcome_plain Dropped v t = refl
outcome_plain (Onward r) v t = t
outcome_plain (Whole r) v t = ap rx_clocked (v_complete_rx (v_rx v None) r)

advance_plain : (v : View) → v.fmt.synchronous ≡ false → Plain v.rx → Plain (v_advance v).rx
unfolding v_advance
advance_plain v c t = go v.rx t
  where
    go : (x : Option Rx) → Plain x → Plain (v_advance_on x v).rx
    go None g = t
    go (Some r) g =
        by_cond (λ (w : View). Plain w.rx) (due_now r.next v.half) (v_outcome (sample v.fmt v.mark v.half r) v) v
        (λ e. outcome_plain (sample v.fmt v.mark v.half r) v (sample_plain v.fmt v.mark v.half r c g r.position)) (λ e. t)

arm_plain : (v : View) → v.fmt.synchronous ≡ false → Plain v.rx → Plain (v_arm v).rx
unfolding v_arm
arm_plain v c t = go v.rx
  where
    go : (x : Option Rx) → Plain (v_arm_on x v).rx
    go None = by_cond (λ (w : View). Plain w.rx) (v_can_arm v) (v_rx v (Some (armed v.fmt (fall v.half v.high)))) v (λ e. c) (λ e. t)
    go (Some r) = t

pub basic_plain : (v : View) → v.fmt.synchronous ≡ false → Plain v.rx → Plain (v_basic v).rx
unfolding v_basic
basic_plain v c t = arm_plain (v_advance v) (ap (λ (k : Core). k.fmt.synchronous) (core_advance v) ∙ c) (advance_plain v c t)

receive_bit_plain : (p : Port) → (format_of p).synchronous ≡ false → Plain p.rx → view (receive_bit p) ≡ view p
unfolding receive_bit
receive_bit_plain p c t =
    same_either (has p.scr 0x10 && error_free p) (receive_bit_on p.rx p) p (view p) (go p.rx t) refl
  where
    go : (x : Option Rx) → Plain x → view (receive_bit_on x p) ≡ view p
    go None g = by_cond (λ (q : Port). view q ≡ view p) (format_of p).synchronous (take_bit p (clocked_word (format_of p))) p (λ e. absurd (true≢false (sym e ∙ c))) (λ e. refl)
    go (Some r) g = by_cond (λ (q : Port). view q ≡ view p) r.format.synchronous (take_bit p r) p (λ e. absurd (true≢false (sym e ∙ g))) (λ e. refl)

sync_edge_plain : (b : Bool) (p : Port) → (format_of p).synchronous ≡ false → Plain p.rx → view (sync_edge b p) ≡ view p
unfolding sync_edge
sync_edge_plain true p c t = view_tail_step (receive_bit p) ∙ receive_bit_plain p c t
sync_edge_plain false p c t = view_shift_out p

pub clocked_step_plain : (p : Port) → (format_of p).synchronous ≡ false → Plain p.rx → view (clocked_edge p) ≡ view p
unfolding clocked_edge
clocked_step_plain p c t =
    same_either (due_now p.sync_next p.half) (sync_edge (not p.sck) (with_clock p None (not p.sck))) p (view p)
    (sync_edge_plain (not p.sck) (with_clock p None (not p.sck)) c t) refl

pub view_half : (p : Port) → Fits p.half p.rx → (format_of p).synchronous ≡ false → Plain p.rx → view (half_step p) ≡ v_half (view p)
unfolding half_step advance v_half
view_half p t c g =
    let q : Port = process_basic (sync (counted p)) in
    let e : view q ≡ v_basic (v_count (view p)) = early_basic p t in
    view_refresh (clocked_edge q)
    ∙ clocked_step_plain q (ap (λ (v : View). v.fmt.synchronous) e ∙ ap (λ (k : Core). k.fmt.synchronous) (core_basic (v_count (view p))) ∙ c)
    (ap (λ (v : View). rx_clocked v.rx) e ∙ basic_plain (v_count (view p)) c g)
    ∙ e
