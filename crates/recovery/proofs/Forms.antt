-- What word the receiver can hold, by RE and the format: with RE clear none; and none of clocked form, where there was none and SMR asks for start-stop form.
-- Both are kept by every call, and both for one reason, so the way through the port's steps is gone once.
-- Assumes nothing.
use Rattle.std.specs.Prelude.{Option, None, Some, is_some}
use mathlib.Core.Path.{◌≡◌, refl, sym, ap, ◌∙◌, subst}
use Prim.Native.Nat.{ℕ, zero, suc, ◌+◌}
use mathlib.Core.Bool.{Bool, true, false, not, cond, ◌&&◌, ◌||◌, true≢false}
use mathlib.Core.List.{List, [], ◌∷◌}
use lib.Dec.{eqb, leb}
use lib.Bits.{bit_and}
use borrow.Author.Tests.{not-true}
use Rattle.frame.specs.declared.Format.{Format}
use Rattle.port.specs.declared.Port.{Port}
use Rattle.shift.specs.declared.Rx.{Rx}
use Rattle.shift.specs.declared.Sampled.{Sampled}
use Rattle.shift.specs.declared.Sampled.TheVariants.{Dropped, Onward, Whole}
use Rattle.frame.proofs.Truth.{and_left, and_right}
use Rattle.frame.specs.Frame.{differ, format, has}
use Rattle.port.specs.Baud.{counted, edge_counted, edge_counts, external, format_of, internal}
use Rattle.port.specs.Calls.{Answer, after, bit, called, direct, refuse, run as port_run}
use Rattle.command.specs.declared.Call.{Call}
use Rattle.command.specs.declared.Call.TheVariants.{Wait, Inside, Read, Line, Pins, Power, Write}
use Rattle.port.specs.Clocked.{receive_bit, receive_bit_on, refresh_sync_clock, sync_edge, take_bit, with_clock}
use Rattle.port.specs.Fields.{with_input, with_input_clock, with_rx, with_scr, with_semr, with_smr}
use Rattle.port.specs.Half.{advance, clocked_edge, half_step, halves, process_basic, sync, uncounted}
use Rattle.port.specs.Input.{external_edge, input_pins, receive_input}
use Rattle.port.specs.Power.{fresh, reset, reset_registers, set_power, with_power}
use Rattle.port.specs.Receiver.{arm_receive, complete_receive, error_free, input_level}
use Rattle.port.specs.Registers.{cleared, connect, handles, load_tail, read, scr_tx, sender_off, sender_on, after_store, status_with, status_write, stored, write, write_scr, write_tdr}
use Rattle.port.specs.Sender.{try_start}
use Rattle.port.specs.Valid.{limit, valid}
use Rattle.shift.specs.Due.{due_now}
use Rattle.shift.specs.Receiver.{armed, bit_taken, clocked_word, last_bit, rx_clocked, rx_due_on, sample}
use Rattle.branches.proofs.Branches.{both_arms, by_cond}
use Rattle.recovery.specs.Outside.{StartStopSince, keeps_start_stop}
use Rattle.recovery.specs.Recovery.{Wired, accepted, each, run_wired, start, wired_after}
use Rattle.recovery.proofs.Bridge.{run_is}
use Rattle.recovery.proofs.Corollaries.{run_append}
use Rattle.recovery.proofs.Halves.{OutcomePlain, sample_plain}
use Rattle.recovery.proofs.LineFold.{by_stored}
use Rattle.recovery.proofs.Project.{has_mask, view, view_arm, view_basic, view_complete, view_load_tail, view_refresh, view_shift_out, view_tail_step, view_try_start}
use Rattle.recovery.proofs.View.{View, fall, v_advance, v_advance_on, v_arm, v_arm_on, v_basic, v_can_arm, v_complete, v_outcome, v_rx}

-- what is said of the receiver, by the format and RE
abbrev Said : Type 1
Said = Format → Bool → Option Rx → Type 0

abbrev AfterSample : Said → Format → Bool → Sampled → Type 0
AfterSample Q f on Dropped = Unit {0}
AfterSample Q f on (Onward r) = Q f on (Some r)
AfterSample Q f on (Whole r) = Unit {0}

-- it is kept where a word goes, begins, is sampled, or takes a bit
record Kept (Q : Said) : Type 0 where
  pub goes : (f : Format) (on : Bool) (x : Option Rx) → Q f on x → Q f on None
  pub begins : (f : Format) (on : Bool) (t : ℕ) → on ≡ true → f.synchronous ≡ false → Q f on None → Q f on (Some (armed f t))
  pub sampled : (f : Format) (on high : Bool) (h : ℕ) (r : Rx) → Q f on (Some r) → AfterSample Q f on (sample f high h r)
  pub clocked : (f : Format) (on high : Bool) → on ≡ true → f.synchronous ≡ true → Q f on None → Q f on (Some (bit_taken high (clocked_word f)))
  pub taken : (f : Format) (on high : Bool) (r : Rx) → Q f on (Some r) → Q f on (Some (bit_taken high r))

module _ (Q : Said) (k : Kept Q) where
  abbrev In : View → Type 0
  In v = Q v.fmt v.on v.rx

  abbrev Of : Port → Type 0
  Of p = Q (format_of p) (has p.scr 0x10) p.rx

  of_view : (p q : Port) → view p ≡ view q → Of q → Of p
  of_view p q e t = subst In (sym e) t

  -- ---- the basic work
  arm_in : (v : View) → In v → In (v_arm v)
  unfolding v_arm
  arm_in v t = go v.rx t
    where
      go : (x : Option Rx) → Q v.fmt v.on x → In (v_arm_on x v)
      go None g =
          by_cond In (v_can_arm v) (v_rx v (Some (armed v.fmt (fall v.half v.high)))) v
          (λ e. k.begins v.fmt v.on (fall v.half v.high) (and_left v.on _ e)
          (not-true v.fmt.synchronous (and_left (not v.fmt.synchronous) _ (and_right (not (has v.flags 0x38)) _ (and_right v.on _ e)))) g)
          (λ e. t)
      go (Some r) g = t

  complete_in : (v : View) (r : Rx) → In v → In (v_complete v r)
  complete_in v r t = by_cond In (has v.flags 0x40) _ _ (λ e. t) (λ e. by_cond In (eqb r.error 0) _ _ (λ g. t) (λ g. t))

  outcome_in : (o : Sampled) (v : View) → In v → AfterSample Q v.fmt v.on o → In (v_outcome o v)
  outcome_in Dropped v t g = k.goes v.fmt v.on v.rx t
  outcome_in (Onward r) v t g = g
  outcome_in (Whole r) v t g = complete_in (v_rx v None) r (k.goes v.fmt v.on v.rx t)

  advance_in : (v : View) → In v → In (v_advance v)
  unfolding v_advance
  advance_in v t = go v.rx t
    where
      go : (x : Option Rx) → Q v.fmt v.on x → In (v_advance_on x v)
      go None g = t
      go (Some r) g =
          by_cond In (due_now r.next v.half) (v_outcome (sample v.fmt v.mark v.half r) v) v
          (λ e. outcome_in (sample v.fmt v.mark v.half r) v t (k.sampled v.fmt v.on v.mark v.half r g)) (λ e. t)

  of_arm : (p : Port) → Of p → Of (arm_receive p)
  of_arm p t = subst In (sym (view_arm p)) (arm_in (view p) t)

  of_basic : (p : Port) → Of p → Of (process_basic p)
  unfolding v_basic
  of_basic p t = subst In (sym (view_basic p)) (arm_in (v_advance (view p)) (advance_in (view p) t))

  of_refresh : (p : Port) → Of p → Of (refresh_sync_clock p)
  of_refresh p t = of_view (refresh_sync_clock p) p (view_refresh p) t

  -- ---- the clocked edge
  of_take_bit : (p : Port) (r : Rx) → Of p → Q (format_of p) (has p.scr 0x10) (Some (bit_taken (input_level p) r)) → Of (take_bit p r)
  unfolding take_bit
  of_take_bit p r t g =
      by_cond Of (last_bit r.position) (complete_receive (with_rx p None) (bit_taken (input_level p) r)) (with_rx p (Some (bit_taken (input_level p) r)))
      (λ e. subst In (sym (view_complete (with_rx p None) (bit_taken (input_level p) r)))
      (complete_in (view (with_rx p None)) (bit_taken (input_level p) r) (k.goes (format_of p) (has p.scr 0x10) p.rx t)))
      (λ e. g)

  of_receive_bit : (p : Port) → Of p → Of (receive_bit p)
  unfolding receive_bit
  of_receive_bit p t =
      by_cond Of (has p.scr 0x10 && error_free p) (receive_bit_on p.rx p) p (λ e. go (and_left (has p.scr 0x10) (error_free p) e) p.rx t) (λ e. t)
    where
      go : has p.scr 0x10 ≡ true → (x : Option Rx) → Q (format_of p) (has p.scr 0x10) x → Of (receive_bit_on x p)
      go o None g =
          by_cond Of (format_of p).synchronous (take_bit p (clocked_word (format_of p))) p
          (λ e. of_take_bit p (clocked_word (format_of p)) t (k.clocked (format_of p) (has p.scr 0x10) (input_level p) o e g)) (λ e. t)
      go o (Some r) g =
          by_cond Of r.format.synchronous (take_bit p r) p (λ e. of_take_bit p r t (k.taken (format_of p) (has p.scr 0x10) (input_level p) r g)) (λ e. t)

  of_sync_edge : (b : Bool) (p : Port) → Of p → Of (sync_edge b p)
  unfolding sync_edge
  of_sync_edge true p t = subst In (sym (view_tail_step (receive_bit p))) (of_receive_bit p t)
  of_sync_edge false p t = subst In (sym (view_shift_out p)) t

  of_clocked_edge : (p : Port) → Of p → Of (clocked_edge p)
  unfolding clocked_edge
  of_clocked_edge p t =
      by_cond Of (due_now p.sync_next p.half) (sync_edge (not p.sck) (with_clock p None (not p.sck))) p
      (λ e. of_sync_edge (not p.sck) (with_clock p None (not p.sck)) t) (λ e. t)

  -- ---- halves, pins, stores
  of_half : (p : Port) → Of p → Of (half_step p)
  unfolding half_step advance sync
  of_half p t =
      of_refresh (clocked_edge (process_basic (sync (counted p)))) (of_clocked_edge (process_basic (sync (counted p))) (of_basic (sync (counted p))
      (by_cond Of (rx_due_on p.rx (suc p.half)) (refresh_sync_clock (process_basic (counted p))) (counted p) (λ e. of_refresh (process_basic (counted p)) (of_basic (counted p) t)) (λ e. t))))

  of_halves : (n : ℕ) (p : Port) → Of p → Of (halves n p)
  unfolding halves
  of_halves zero p t = t
  of_halves (suc n) p t = of_halves n (half_step p) (of_half p t)

  of_uncounted : (n : ℕ) (p : Port) → Of p → Of (uncounted n p)
  of_uncounted zero p t = t
  of_uncounted (suc n) p t = t

  of_line : (b : Bool) (p : Port) → Of p → Of (receive_input b p)
  unfolding receive_input
  of_line b p t = by_cond Of (differ b p.input) _ _ (λ e. of_arm (with_input p b) t) (λ e. t)

  of_pins : (c b : Bool) (p : Port) → Of p → Of (input_pins c b p)
  unfolding input_pins external_edge
  of_pins c b p t =
      by_cond Of (differ b p.input || differ c p.input_clock) (external_edge c q) p
      (λ e. by_cond Of (edge_counts c q) (refresh_sync_clock (sync_edge c (process_basic (edge_counted q c)))) q
      (λ g. of_refresh (sync_edge c (process_basic (edge_counted q c))) (of_sync_edge c (process_basic (edge_counted q c)) (of_basic (edge_counted q c) (of_line b p t))))
      (λ g. of_line b p t))
      (λ e. t)
    where
      q : Port
      q = with_input_clock (receive_input b p) c

  of_read : (a : ℕ) (p : Port) → Of p → Of (read a p)
  unfolding read
  of_read a p t = by_cond Of (eqb a 0xff9c) _ _ (λ e. t) (λ e. by_cond Of (eqb a 0xff9d) _ _ (λ g. t) (λ g. t))

  -- stores: SCR sets RE, SMR and SEMR the format, no other touches any of it
  of_scr : (v : ℕ) (p : Port) → (has v 0x10 ≡ true → Q (format_of p) (has (bit_and v 0xf7) 0x10) p.rx) → Q (format_of p) (has (bit_and v 0xf7) 0x10) None → Of (write_scr v p)
  unfolding write_scr
  of_scr v p t z =
      by_cond Of (has v 0x10) (scr_tx (has p.scr 0x20) v s) (with_rx (scr_tx (has p.scr 0x20) v s) None) (λ e. sender Of (t e) (t e) (t e))
      (λ e. sender (λ (q : Port). Q (format_of q) (has q.scr 0x10) None) z z z)
    where
      s : Port
      s = with_scr p (bit_and v 0xf7)

      sender : (P : Port → Type 0) → P (sender_on s) → P s → P (sender_off s) → P (scr_tx (has p.scr 0x20) v s)
      sender P x y w =
          by_cond P (has v 0x20) (cond (not (has p.scr 0x20) && not (format_of s).synchronous) (sender_on s) s) (sender_off s)
          (λ g. by_cond P (not (has p.scr 0x20) && not (format_of s).synchronous) (sender_on s) s (λ h. x) (λ h. y)) (λ g. w)

  of_tdr : (v : ℕ) (p : Port) → Of p → Of (write_tdr v p)
  unfolding write_tdr
  of_tdr v p t = by_cond Of (has p.scr 0x20) _ _ (λ e. t) (λ e. t)

  of_ssr : (v : ℕ) (p : Port) → Of p → Of (status_write v p)
  unfolding status_write status_with
  of_ssr v p t =
      by_cond Of (has p.scr 0x20) _ _
      (λ e. by_cond Of (not (has (cleared v p) 0x80) && not (is_some p.holding)) _ _ (λ g. t) (λ g. t)) (λ e. t)

  of_stored : (a v : ℕ) (p : Port) → Of p → Of (write_scr v p) → (eqb a 0xff98 ≡ true → Of (with_smr p v)) → Of (with_semr p (bit_and v 8)) → Of (stored a v p)
  of_stored a v p t scr smr semr = by_stored Of a v p t smr t scr (of_tdr v p t) (of_ssr v p t) t semr t

  -- what follows a store
  of_write : (a v : ℕ) (p : Port) → Of p → Of (stored a v p) → Of (write a v p)
  unfolding write after_store connect
  of_write a v p t g =
      by_cond Of (p.«module» && not p.reset_mode) _ p
      (λ e. of_refresh (arm_receive q) (of_arm q (of_view q r (view_try_start (load_tail r) ∙ view_load_tail r)
      (by_cond Of (not (external p) && external (stored a v p)) _ (stored a v p) (λ h. g) (λ h. g)))))
      (λ e. t)
    where
      r : Port
      r = connect (external p) (stored a v p)

      q : Port
      q = try_start (load_tail r)

  of_power : (a b c d : Bool) (p : Port) → Of p → Q (format 0 0) false None → Of (set_power a b c d p)
  unfolding set_power reset reset_registers fresh
  of_power a b c d p t g =
      of_refresh (with_power q a b c d) (by_cond Of (not a && p.«module») _ _ (λ e. g) (λ e. by_cond Of (d && not p.reset_mode) _ _ (λ h. g) (λ h. t)))
    where
      q : Port
      q = reset a d p

  -- ---- calls: an accepted write by what it stores
  abbrev OfAfter : Answer → Type 0
  OfAfter r = Of (after r)

  of_writes : (a v : ℕ) (p : Port) → Of p → (accepted (called (Write a v) p) ≡ true → Of (stored a v p)) → Of (after (called (Write a v) p))
  unfolding called
  of_writes a v p t =
      both_arms Stores (leb a 65535 && leb v 255) _ _
      (both_arms Stores (handles a) _ _ (both_arms Stores (eqb a 0xffa7 && leb 128 v) _ _ (λ s. t) (λ s. of_write a v p t (s refl))) (λ s. t)) (λ s. t)
    where
      Stores : Answer → Type 0
      Stores r = (accepted r ≡ true → Of (stored a v p)) → OfAfter r

  of_called : (c : Call) (p : Port) → Of p → Q (format 0 0) false None → ((a v : ℕ) → c ≡ Write a v → accepted (called c p) ≡ true → Of (stored a v p)) → Of (after (called c p))
  unfolding called
  of_called (Read a) p t z s = both_arms OfAfter (leb a 65535) _ _ (both_arms OfAfter (handles a) _ _ (of_read a p t) t) t
  of_called (Write a v) p t z s = of_writes a v p t (s a v refl)
  of_called (Wait n) p t z s =
      both_arms OfAfter (leb n 65535) _ _
      (both_arms OfAfter (internal p) _ _ (both_arms OfAfter (leb (p.half + n) limit) _ _ (of_halves n p t) t) (of_uncounted n p t)) t
  of_called (Line b) p t z s = both_arms OfAfter (leb b 1) _ _ (of_line (bit b) p t) t
  of_called (Pins c b) p t z s =
      both_arms OfAfter (leb c 1 && leb b 1) _ _
      (both_arms OfAfter ((differ (bit b) p.input || differ (bit c) p.input_clock) && (edge_counts (bit c) p && leb limit p.half)) _ _ t (of_pins (bit c) (bit b) p t)) t
  of_called (Power b) p t z s = both_arms OfAfter (leb b 15) _ _ (of_power (has b 1) (has b 2) (has b 4) (has b 8) p t z) t
  of_called Inside p t z s = t

  of_direct : (c : Call) (p : Port) → Of p → Q (format 0 0) false None → ((a v : ℕ) → c ≡ Write a v → accepted (direct c p) ≡ true → Of (stored a v p)) → Of (after (direct c p))
  unfolding direct
  of_direct c p t z =
      by_cond Stores (valid p) (called c p) (refuse 8 p) (λ e. of_called c p t z) (λ e s. t)
    where
      Stores : Answer → Type 0
      Stores r = ((a v : ℕ) → c ≡ Write a v → accepted r ≡ true → Of (stored a v p)) → OfAfter r

-- ---- with RE clear the receiver holds no word
abbrev EmptyIfOff : Said
EmptyIfOff f on x = on ≡ false → x ≡ None

abbrev busy : Option Rx → Bool
busy None = false
busy (Some r) = true

empty_if_off : Kept EmptyIfOff
empty_if_off =
    record {
      goes = λ f on x q e. refl;
      begins = λ f on t o c q e. absurd (true≢false (sym o ∙ e));
      sampled = λ f on high h r q. go f on r q (sample f high h r);
      clocked = λ f on high o c q e. absurd (true≢false (sym o ∙ e));
      taken = λ f on high r q e. absurd (true≢false (ap busy (q e)));
    }
  where
    go : (f : Format) (on : Bool) (r : Rx) → EmptyIfOff f on (Some r) → (o : Sampled) → AfterSample EmptyIfOff f on o
    go f on r q Dropped = tt
    go f on r q (Onward r') = λ e. absurd (true≢false (ap busy (q e)))
    go f on r q (Whole r') = tt

empty_if_off_stored : (a v : ℕ) (p : Port) → Of EmptyIfOff empty_if_off p → Of EmptyIfOff empty_if_off (stored a v p)
empty_if_off_stored a v p t =
    of_stored EmptyIfOff empty_if_off a v p t (of_scr EmptyIfOff empty_if_off v p (λ e q. absurd (true≢false (sym e ∙ has_mask v 0xf7 0x10 refl ∙ q))) (λ e. refl)) (λ e. t) t

empty_if_off_run : (cs : List Call) (p : Port) → Of EmptyIfOff empty_if_off p → Of EmptyIfOff empty_if_off (port_run p cs)
unfolding port_run
empty_if_off_run [] p t = t
empty_if_off_run (c ∷ cs) p t = empty_if_off_run cs (after (direct c p)) (of_direct EmptyIfOff empty_if_off c p t (λ e. refl) (λ a v e g. empty_if_off_stored a v p t))

-- ---- in start-stop form the receiver takes no word of clocked form
abbrev NoneClocked : Said
NoneClocked f on x = (f.synchronous ≡ false) × (rx_clocked x ≡ false)

none_clocked : Kept NoneClocked
none_clocked =
    record {
      goes = λ f on x q. (q.0, refl);
      begins = λ f on t o c q. (c, c);
      sampled = λ f on high h r q. go f on q.0 (sample f high h r) (sample_plain f high h r q.0 q.1 r.position);
      clocked = λ f on high o c q. absurd (true≢false (sym c ∙ q.0));
      taken = λ f on high r q. q;
    }
  where
    go : (f : Format) (on : Bool) → f.synchronous ≡ false → (o : Sampled) → OutcomePlain o → AfterSample NoneClocked f on o
    go f on q Dropped t = tt
    go f on q (Onward r) t = (q, t)
    go f on q (Whole r) t = tt

none_clocked_stored : (a v : ℕ) (p : Port) → (eqb a 0xff98 ≡ true → has v 0x80 ≡ false) → Of NoneClocked none_clocked p → Of NoneClocked none_clocked (stored a v p)
unfolding format
none_clocked_stored a v p s t =
    of_stored NoneClocked none_clocked a v p t (of_scr NoneClocked none_clocked v p (λ e. t) (t.0, refl)) (λ e. (s e, t.1)) t

none_clocked_call : (c : Call) (p : Port) → keeps_start_stop c (direct c p) → Of NoneClocked none_clocked p → Of NoneClocked none_clocked (after (direct c p))
unfolding format
none_clocked_call c p s t =
    of_direct NoneClocked none_clocked c p t (refl, refl)
    (λ a v e g. none_clocked_stored a v p (subst (λ (x : Call). keeps_start_stop x (direct x p)) e s (subst (λ (x : Call). accepted (direct x p) ≡ true) e g)) t)

none_clocked_run : (cs : List Call) (s : Wired) → each direct (λ c a q. keeps_start_stop c a) s cs → Of NoneClocked none_clocked s.port
    → Of NoneClocked none_clocked (run_wired direct s cs).port
unfolding run_wired
none_clocked_run [] s e t = t
none_clocked_run (c ∷ cs) s e t = none_clocked_run cs (wired_after c (direct c s.port) s) e.1 (none_clocked_call c s.port e.0 t)

-- start-stop form since RE was clear: no clocked word
pub no_clocked_word : (calls : List Call) → StartStopSince direct calls → rx_clocked (run_wired direct start calls).port.rx ≡ false
unfolding fresh format
no_clocked_word calls s =
    let q : Wired = run_wired direct start s.before in
    let idle : q.port.rx ≡ None = subst (Of EmptyIfOff empty_if_off) (run_is s.before start) (empty_if_off_run s.before fresh (λ e. refl)) s.re_clear in
    ap (λ (cs : List Call). rx_clocked (run_wired direct start cs).port.rx) s.split ∙ ap (λ (w : Wired). rx_clocked w.port.rx) (run_append direct s.before s.since start)
    ∙ (none_clocked_run s.since q s.kept (s.start_stop, ap rx_clocked idle)).1
