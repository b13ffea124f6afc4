-- The rest, call by call: after 384 halves at mark the receiver is empty; and from there the words.
-- Assumes nothing.
use Rattle.std.specs.Prelude.{Option, None, Some, is_some}
use mathlib.Core.Path.{◌≡◌, refl, sym, ap, ◌∙◌, subst}
use Prim.Native.Nat.{ℕ, zero, suc, ◌+◌, ◌-◌, ◌≤◌}
use native.Mathlib.Omega.{arith}
use mathlib.Core.Bool.{Bool, true, false, cond, not, ◌&&◌, ◌||◌, true≢false, false≢true}
use mathlib.Core.List.{List, [], ◌∷◌, ◌++◌}
use lib.Dec.{eqb, leb}
use lib.Bits.{bit_and}
use lib.ListN.{length}
use borrow.Author.Tests.{eqb-true}
use Rattle.port.specs.Calls.{run as port_run, Answer, after, bit, called, direct, done, refuse}
use Rattle.command.specs.declared.Call.{Call}
use Rattle.command.specs.declared.Call.TheVariants.{Wait, Inside, Read, Line, Pins, Power, Write}
use Rattle.port.specs.declared.Port.{Port}
use Rattle.shift.specs.declared.Rx.{Rx}
use Rattle.frame.proofs.Truth.{and_right}
use Rattle.frame.proofs.Laws.{clear_of}
use Rattle.frame.specs.Frame.{differ, format, has}
use Rattle.port.specs.Baud.{counted, edge_counted, edge_counts, external, format_of, internal}
use Rattle.shift.specs.Receiver.{bit_taken, clocked_word, last_bit, rx_clocked}
use Rattle.port.specs.Clocked.{receive_bit, receive_bit_on, refresh_sync_clock, sync_edge, take_bit, with_clock}
use Rattle.port.specs.Fields.{with_input, with_input_clock, with_rx}
use Rattle.port.specs.Half.{advance, clocked_edge, half_step, halves, inside, process_basic, sync, uncounted}
use Rattle.port.specs.Input.{external_edge, input_pins, receive_input}
use Rattle.port.specs.Power.{set_power}
use Rattle.shift.specs.Due.{due_now}
use Rattle.port.specs.Receiver.{arm_receive, complete_receive, error_free, input_level}
use Rattle.port.specs.Registers.{cleared, connect, handles, load_tail, peek, read, after_store, status_with, status_write, stored, write}
use Rattle.port.specs.Sender.{try_start}
use Rattle.port.specs.Valid.{limit, valid}
use Rattle.branches.proofs.Branches.{by_cond}
use Rattle.port.proofs.CallLaws.{internal_external}
use Rattle.recovery.specs.Line.{Count, Event, LineItem, half_passes, none_yet, other, prefix, rdr_read, signal}
use Rattle.recovery.specs.Recovery.{Holds, Moment, allowed_in_words, level_of, levels, one_moment, throughout}
use Rattle.recovery.proofs.Bounds.{Fits, advance_quiet, by_clock, format_sound}
use Rattle.recovery.proofs.Halfwise.{each_call, half_moments, moments, moments_of, none_refused, rests}
use Rattle.recovery.proofs.Halves.{Core, Plain, complete_rx, core, core_arm, core_half, early_basic, view_half}
use Rattle.recovery.proofs.Project.{view, view_arm, view_load_tail, view_refresh, view_shift_out, view_tail_step, view_try_start}
use Rattle.recovery.proofs.Reached.{Near, near_called}
use Rattle.recovery.proofs.Rest.{Calm, arm_at_mark, basic_calm, calm_fits, calm_over, clocked, ending, fits_calm, none}
use Rattle.recovery.proofs.View.{View, state, v_arm, v_basic, v_count, v_half}
use Rattle.recovery.proofs.WordCalls.{Reading, no_edge, to_holds, words_along}
use Rattle.recovery.proofs.Words.{Where, start_where}

-- ---- the clocked edge, with no start-stop word in the receiver
data Quiet : Option Rx → Type 0 where
  empty : Quiet None
  by_edge : (r : Rx) → r.format.synchronous ≡ true → r.next ≡ None → Quiet (Some r)

quiet_calm : {x : Option Rx} (h left : ℕ) → Quiet x → Calm h left x
quiet_calm h left empty = none
quiet_calm h left (by_edge r c n) = clocked r c n

take_bit_quiet : (p : Port) (r : Rx) → r.format.synchronous ≡ true → r.next ≡ None → Quiet (take_bit p r).rx
unfolding take_bit
take_bit_quiet p r c n =
    by_cond (λ (q : Port). Quiet q.rx) (last_bit r.position) (complete_receive (with_rx p None) (bit_taken (input_level p) r)) (with_rx p (Some (bit_taken (input_level p) r)))
    (λ e. subst Quiet (sym (complete_rx p (bit_taken (input_level p) r))) empty) (λ e. by_edge (bit_taken (input_level p) r) c n)

receive_bit_quiet : (p : Port) → (format_of p).synchronous ≡ false → Quiet p.rx → Quiet (receive_bit p).rx
unfolding receive_bit
receive_bit_quiet p f t =
    by_cond (λ (q : Port). Quiet q.rx) (has p.scr 0x10 && error_free p) (receive_bit_on p.rx p) p (λ e. go p.rx refl t) (λ e. t)
  where
    go : (x : Option Rx) → p.rx ≡ x → Quiet x → Quiet (receive_bit_on x p).rx
    go x q empty = by_cond (λ (w : Port). Quiet w.rx) (format_of p).synchronous (take_bit p (clocked_word (format_of p))) p (λ e. absurd (true≢false (sym e ∙ f))) (λ e. t)
    go x q (by_edge r c n) = by_cond (λ (w : Port). Quiet w.rx) r.format.synchronous (take_bit p r) p (λ e. take_bit_quiet p r c n) (λ e. t)

sync_edge_quiet : (b : Bool) (p : Port) → (format_of p).synchronous ≡ false → Quiet p.rx → Quiet (sync_edge b p).rx
unfolding sync_edge
sync_edge_quiet true p f t = subst Quiet (sym (ap (λ (v : View). v.rx) (view_tail_step (receive_bit p)))) (receive_bit_quiet p f t)
sync_edge_quiet false p f t = subst Quiet (sym (ap (λ (v : View). v.rx) (view_shift_out p))) t

clocked_step_quiet : (p : Port) → (format_of p).synchronous ≡ false → Quiet p.rx → Quiet (clocked_edge p).rx
unfolding clocked_edge
clocked_step_quiet p f t =
    by_cond (λ (q : Port). Quiet q.rx) (due_now p.sync_next p.half) (sync_edge (not p.sck) (with_clock p None (not p.sck))) p
    (λ e. sync_edge_quiet (not p.sck) (with_clock p None (not p.sck)) f t) (λ e. t)

-- ---- the rest
record Resting (left : ℕ) (p : Port) : Type 0 where
  plain : (format_of p).synchronous ≡ false
  on : has p.scr 0x10 ≡ true
  runs : internal p ≡ true
  line : input_level p ≡ true
  calm : Calm p.half left p.rx

-- a clocked word waits through the basic work
clocked_half : (p : Port) (r : Rx) → (format_of p).synchronous ≡ false → input_level p ≡ true → p.rx ≡ Some r → r.format.synchronous ≡ true → r.next ≡ None → Quiet (half_step p).rx
unfolding half_step advance v_basic
clocked_half p r f mk e c n =
    let w : View = v_count (view p) in
    let q : Port = process_basic (sync (counted p)) in
    let fits : (h : ℕ) → Fits h p.rx = λ h. subst (Fits h) (sym e) (by_clock r c n) in
    let still : v_basic w ≡ w = ap v_arm (advance_quiet w (fits (suc p.half))) ∙ arm_at_mark w mk in
    let g : view q ≡ w = early_basic p (fits p.half) ∙ still in
    subst Quiet (sym (ap (λ (v : View). v.rx) (view_refresh (clocked_edge q))))
    (clocked_step_quiet q (ap (λ (v : View). v.fmt.synchronous) g ∙ f) (subst Quiet (sym (ap (λ (v : View). v.rx) g ∙ e)) (by_edge r c n)))

half_calm : (p : Port) (left : ℕ) → (format_of p).synchronous ≡ false → input_level p ≡ true → Calm p.half left p.rx → Calm (suc p.half) (left - 1) (half_step p).rx
unfolding v_half
half_calm p left f mk t = go p.rx refl t
  where
    plain_case : Plain p.rx → Calm (suc p.half) (left - 1) (half_step p).rx
    plain_case g =
        subst (λ (v : View). Calm (suc p.half) (left - 1) v.rx) (sym (view_half p (calm_fits t) f g)) (basic_calm (v_count (view p)) p.half left refl mk t)

    go : (x : Option Rx) → p.rx ≡ x → Calm p.half left x → Calm (suc p.half) (left - 1) (half_step p).rx
    go x e none = plain_case (ap rx_clocked e)
    go x e (clocked r c n) = quiet_calm (suc p.half) (left - 1) (clocked_half p r f mk e c n)
    go x e (ending r u c n lt sr nr s) = plain_case (ap rx_clocked e ∙ c)

-- the same registers, pins, power and count, with the same word in the receiver
resting_same : (left : ℕ) (p q : Port) → core (view q) ≡ core (view p) → q.rx ≡ p.rx → Resting left p → Resting left q
resting_same left p q e g r =
    record {
      plain = ap (λ (k : Core). k.fmt.synchronous) e ∙ r.plain;
      on = ap (λ (k : Core). k.on) e ∙ r.on;
      runs = ap (λ (k : Core). k.runs) e ∙ r.runs;
      line = ap (λ (k : Core). k.mark) e ∙ r.line;
      calm = subst (λ (k : Core). Calm k.half left q.rx) (sym e) (subst (Calm p.half left) (sym g) r.calm);
    }

resting_view : (left : ℕ) (p q : Port) → view q ≡ view p → Resting left p → Resting left q
resting_view left p q e r = resting_same left p q (ap core e) (ap (λ (v : View). v.rx) e) r

resting_half : (left : ℕ) (p : Port) → Resting left p → Resting (left - 1) (half_step p)
resting_half left p r =
    let e : core (view (half_step p)) ≡ core (v_count (view p)) = core_half p (calm_fits r.calm) in
    record {
      plain = ap (λ (k : Core). k.fmt.synchronous) e ∙ r.plain;
      on = ap (λ (k : Core). k.on) e ∙ r.on;
      runs = ap (λ (k : Core). k.runs) e ∙ r.runs;
      line = ap (λ (k : Core). k.mark) e ∙ r.line;
      calm = subst (λ (k : Core). Calm k.half (left - 1) (half_step p).rx) (sym e) (half_calm p left r.plain r.line r.calm);
    }

resting_halves : (n left : ℕ) (p : Port) → Resting left p → Resting (left - n) (halves n p)
unfolding halves
resting_halves zero left p r = let e : left - 0 ≡ left = omega arith in rw e r
resting_halves (suc n) left p r = let e : left - suc n ≡ left - 1 - n = omega arith in rw e (resting_halves n (left - 1) (half_step p) (resting_half left p r))

resting_read : (a left : ℕ) (p : Port) → Resting left p → Resting left (read a p)
unfolding read
resting_read a left p r =
    by_cond (Resting left) (eqb a 0xff9c) _ _ (λ e. resting_same left p _ refl refl r) (λ e. by_cond (Resting left) (eqb a 0xff9d) _ _ (λ g. resting_same left p _ refl refl r) (λ g. r))

-- arming at mark does nothing
arm_rests : (left : ℕ) (p : Port) → Resting left p → Resting left (arm_receive p)
arm_rests left p r = resting_view left p (arm_receive p) (view_arm p ∙ arm_at_mark (view p) r.line) r

resting_line : (b : Bool) (left : ℕ) (p : Port) → Resting left p → input_level (receive_input b p) ≡ true → Resting left (receive_input b p)
unfolding receive_input
resting_line b left p r =
    by_cond (λ (q : Port). input_level q ≡ true → Resting left q) (differ b p.input) (arm_receive w) p
    (λ e mk. arm_rests left w (record { plain = r.plain; on = r.on; runs = r.runs; line = sym (ap (λ (k : Core). k.mark) (ap core (view_arm w) ∙ core_arm (view w))) ∙ mk; calm = r.calm }))
    (λ e mk. r)
  where
    w : Port
    w = with_input p b

line_runs : (b : Bool) (p : Port) → internal (receive_input b p) ≡ internal p
unfolding receive_input
line_runs b p =
    by_cond (λ (q : Port). internal q ≡ internal p) (differ b p.input) (arm_receive (with_input p b)) p
    (λ e. ap (λ (k : Core). k.runs) (ap core (view_arm (with_input p b)) ∙ core_arm (view (with_input p b)))) (λ e. refl)

resting_pins : (c b : Bool) (left : ℕ) (p : Port) → Resting left p → input_level (input_pins c b p) ≡ true → Resting left (input_pins c b p)
unfolding input_pins external_edge
resting_pins c b left p r =
    by_cond (λ (w : Port). input_level w ≡ true → Resting left w) (differ b p.input || differ c p.input_clock) (external_edge c q) p
    (λ e. by_cond (λ (w : Port). input_level w ≡ true → Resting left w) (edge_counts c q) (refresh_sync_clock (sync_edge c (process_basic (edge_counted q c)))) q
    (λ h. absurd (true≢false (sym h ∙ no_edge c q (line_runs b p ∙ r.runs))))
    (λ h mk. resting_same left (receive_input b p) q refl refl (resting_line b left p r mk)))
    (λ e mk. r)
  where
    q : Port
    q = with_input_clock (receive_input b p) c

resting_ssr : (v left : ℕ) (p : Port) → Resting left p → Resting left (status_write v p)
unfolding status_write status_with
resting_ssr v left p r =
    by_cond (Resting left) (has p.scr 0x20) _ _
    (λ e. by_cond (Resting left) (not (has (cleared v p) 0x80) && not (is_some p.holding)) _ _ (λ g. resting_same left p _ refl refl r) (λ g. resting_same left p _ refl refl r))
    (λ e. resting_same left p _ refl refl r)

resting_tail : (was : Bool) (left : ℕ) (s : Port) → Resting left s → Resting left (refresh_sync_clock (arm_receive (try_start (load_tail (connect was s)))))
unfolding connect
resting_tail was left s r =
    resting_view left (arm_receive u) (refresh_sync_clock (arm_receive u)) (view_refresh (arm_receive u)) (arm_rests left u (resting_view left c u (view_try_start (load_tail c) ∙ view_load_tail c) rc))
  where
    c : Port
    c = connect was s

    u : Port
    u = try_start (load_tail c)

    rc : Resting left c
    rc =
        by_cond (Resting left) (not was && external s) _ s
        (λ e. absurd (true≢false (sym (and_right (not was) (external s) e) ∙ internal_external s r.runs)))
        (λ e. r)

resting_write_ssr : (v left : ℕ) (p : Port) → Resting left p → Resting left (write 0xff9c v p)
unfolding write stored after_store
resting_write_ssr v left p r =
    by_cond (Resting left) (p.«module» && not p.reset_mode) _ p (λ e. resting_tail (external p) left (status_write v p) (resting_ssr v left p r)) (λ e. r)

resting_write_rdr : (v left : ℕ) (p : Port) → Resting left p → Resting left (write 0xff9d v p)
unfolding write stored after_store
resting_write_rdr v left p r = by_cond (Resting left) (p.«module» && not p.reset_mode) _ p (λ e. resting_tail (external p) left p r) (λ e. r)

resting_write : (a v left : ℕ) (p : Port) (b : Bool) → eqb a 0xff9c ≡ b → (b || eqb a 0xff9d) ≡ true → Resting left p → Resting left (write a v p)
resting_write a v left p true e g r = subst (λ (x : ℕ). Resting left (write x v p)) (sym (eqb-true a 0xff9c e)) (resting_write_ssr v left p r)
resting_write a v left p false e g r = subst (λ (x : ℕ). Resting left (write x v p)) (sym (eqb-true a 0xff9d g)) (resting_write_rdr v left p r)

-- ---- the calls of the rest
half_count : (n : ℕ) (p : Port) → length (levels (half_moments n p)) ≡ n
unfolding half_moments levels
half_count zero p = refl
half_count (suc n) p = ap suc (half_count n (half_step p))

module _ (left : ℕ) (p : Port) (r : Resting left p) where
  abbrev After : Call → Answer → Type 0
  After x a = rests x a (after a) → Resting (left - length (levels (moments_of x a p))) (after a)

  keep : (q : Port) → Resting left q → Resting (left - 0) q
  keep q s = let e : left - 0 ≡ left = omega arith in rw e s

  after_refused : (x : Call) (n : ℕ) → After x (refuse n p)
  unfolding levels
  after_refused x n g = rw (none_refused x n 0 p p) (keep p r)

  after_read : (a v : ℕ) (b : Bool) → Resting (left - length (levels (one_moment (λ u. cond b (rdr_read u) other) (done v (read a p))))) (read a p)
  unfolding levels
  after_read a v true = keep (read a p) (resting_read a left p r)
  after_read a v false = keep (read a p) (resting_read a left p r)

  after_halves : (n : ℕ) (b : Bool) → b ≡ true → Resting (left - length (levels (cond b (half_moments n p) (one_moment (λ u. other) (done 0 (halves n p)))))) (halves n p)
  after_halves n true e = rw (half_count n p) (resting_halves n left p r)
  after_halves n false e = absurd (false≢true e)

  after_call : (x : Call) → After x (called x p)
  unfolding called levels
  after_call (Read a) =
      by_cond (After (Read a)) (leb a 65535) _ (refuse 2 p)
      (λ e. by_cond (After (Read a)) (handles a) _ (refuse 1 p) (λ g h. after_read a (peek p a) (eqb a 0xff9d)) (λ g. after_refused (Read a) 1)) (λ e. after_refused (Read a) 2)
  after_call (Write a v) =
      by_cond (After (Write a v)) (leb a 65535 && leb v 255) _ (refuse 2 p)
      (λ e. by_cond (After (Write a v)) (handles a) _ (refuse 1 p)
      (λ g. by_cond (After (Write a v)) (eqb a 0xffa7 && leb 128 v) (refuse 3 p) (done 0 (write a v p)) (λ h. after_refused (Write a v) 3)
      (λ h k. keep (write a v p) (resting_write a v left p (eqb a 0xff9c) refl (k.0 refl) r)))
      (λ g. after_refused (Write a v) 1))
      (λ e. after_refused (Write a v) 2)
  after_call (Wait n) =
      by_cond (After (Wait n)) (leb n 65535) _ (refuse 2 p)
      (λ e. by_cond (After (Wait n)) (internal p) _ (done 0 (uncounted n p))
      (λ i. by_cond (After (Wait n)) (leb (p.half + n) limit) (done 0 (halves n p)) (refuse 4 p) (λ g h. after_halves n (internal p) i) (λ g. after_refused (Wait n) 4))
      (λ i. absurd (true≢false (sym r.runs ∙ i))))
      (λ e. after_refused (Wait n) 2)
  after_call (Line b) =
      by_cond (After (Line b)) (leb b 1) (done 0 (receive_input (bit b) p)) (refuse 2 p) (λ e k. keep (receive_input (bit b) p) (resting_line (bit b) left p r k.1)) (λ e. after_refused (Line b) 2)
  after_call (Pins d b) =
      by_cond (After (Pins d b)) (leb d 1 && leb b 1) _ (refuse 2 p)
      (λ e. by_cond (After (Pins d b)) ((differ (bit b) p.input || differ (bit d) p.input_clock) && (edge_counts (bit d) p && leb limit p.half)) (refuse 4 p) (done 0 (input_pins (bit d) (bit b) p))
      (λ g. after_refused (Pins d b) 4) (λ g k. keep (input_pins (bit d) (bit b) p) (resting_pins (bit d) (bit b) left p r k.1)))
      (λ e. after_refused (Pins d b) 2)
  after_call (Power b) =
      by_cond (After (Power b)) (leb b 15) (done 0 (set_power (has b 1) (has b 2) (has b 4) (has b 8) p)) (refuse 2 p) (λ e k. absurd (true≢false k.0)) (λ e. after_refused (Power b) 2)
  after_call Inside = λ k. keep (inside p) (resting_same left p (inside p) refl refl r)

  after_direct : (x : Call) → After x (direct x p)
  unfolding direct
  after_direct x = by_cond (After x) (valid p) (called x p) (refuse 8 p) (λ e. after_call x) (λ e. after_refused x 8)

pub levels_append : (xs ys : List Moment) → length (levels (xs ++ ys)) ≡ length (levels xs) + length (levels ys)
unfolding levels
levels_append [] ys = omega arith
levels_append (m ∷ xs) ys = go m.event (levels_append xs ys)
  where
    go : (e : Event) → length (levels (xs ++ ys)) ≡ length (levels xs) + length (levels ys)
        → length (level_of e (levels (xs ++ ys))) ≡ length (level_of e (levels xs)) + length (levels ys)
    go (half_passes b d) q = omega arith
    go (rdr_read a) q = q
    go other q = q

pub near_direct : (c : Call) (p : Port) → Near p → Near (after (direct c p))
unfolding direct
near_direct c p t = by_cond (λ (a : Answer). Near (after a)) (valid p) (called c p) (refuse 8 p) (λ e. near_called c p t) (λ e. t)

rest_run : (cs : List Call) (left : ℕ) (p : Port) → Resting left p → each_call rests p cs → Resting (left - length (levels (moments p cs))) (port_run p cs)
unfolding port_run moments levels
rest_run [] left p r q = let e : left - 0 ≡ left = omega arith in rw e r
rest_run (c ∷ cs) left p r q =
    let xs : List Moment = moments_of c (direct c p) p in
    let ys : List Moment = moments (after (direct c p)) cs in
    let e : left - length (levels (xs ++ ys)) ≡ left - length (levels xs) - length (levels ys) = omega (arith, levels_append xs ys) in
    rw e (rest_run cs (left - length (levels xs)) (after (direct c p)) (after_direct left p r c q.0) q.1)

-- the view of a port that has rested
rested : (p : Port) → Resting 0 p → bit_and p.ssr 0x78 ≡ 0 → rx_clocked p.rx ≡ false → view p ≡ state (format_of p) None p.half p.high true 0 p.rdr p.received
rested p r e g = λ i.
    record {
      fmt = format_of p;
      on = r.on i;
      runs = r.runs i;
      rx = calm_over r.calm g i;
      half = p.half;
      high = p.high;
      mark = r.line i;
      flags = e i;
      rdr = p.rdr;
      received = p.received;
    }

over : (k : ℕ) → 384 ≤ k → 384 - k ≡ 0
over k h = omega arith

-- what is asked of the port h at history's end, of the rest, which leads to the port r, and of the words
pub record Asked (h r : Port) (rest words : List Call) (items : List LineItem) : Type 0 where
  pub re : has h.scr 0x10 ≡ true
  pub start_stop : has h.smr 0x80 ≡ false
  pub clock : internal h ≡ true
  pub line : input_level h ≡ true
  pub calls : each_call rests h rest
  pub long : 384 ≤ length (levels (moments h rest))
  pub reached : port_run h rest ≡ r
  pub flags : has r.ssr 0x78 ≡ false
  pub no_clocked_word : rx_clocked r.rx ≡ false
  pub reading : each_call (λ c a q. allowed_in_words c a) r words
  pub signals : prefix (levels (moments r words)) (signal (format_of r) items)

module _ (h r : Port) (rest words : List Call) (items : List LineItem) (t : Near h) (a : Asked h r rest words items) where
  begin : Resting 384 h
  unfolding format
  begin = record { plain = a.start_stop; on = a.re; runs = a.clock; line = a.line; calm = fits_calm t }

  end : Resting 0 r
  end =
      subst (Resting 0) a.reached
      (subst (λ (k : ℕ). Resting k (port_run h rest)) (over (length (levels (moments h rest))) a.long) (rest_run rest 384 h begin a.calls))

  at_start : Where (format_of r) items r.received none_yet (levels (moments r words)) (view r)
  at_start =
      subst (Where (format_of r) items r.received none_yet (levels (moments r words))) (sym (rested r end (clear_of r.ssr 0x78 a.flags) a.no_clocked_word))
      (start_where (format_of r) items r.received end.plain (format_sound r.smr r.semr).long (format_sound r.smr r.semr).stops (levels (moments r words)) r.half r.high r.rdr a.signals)

  -- before the first moment
  pub first_holds : Holds r items none_yet (record { event = other; port = r })
  first_holds = to_holds r items end.plain none_yet (levels (moments r words)) r other at_start tt

  -- and at every moment of the words, where each completion finds RDR read
  pub all_hold : (Apart : Count → List Moment → Type 0) → ((plain : (format_of r).synchronous ≡ false) → Reading r items plain Apart) → Apart none_yet (moments r words)
      → throughout r items none_yet (moments r words)
  all_hold Apart known s = words_along r items end.plain Apart (known end.plain) words r none_yet (calm_fits end.calm) at_start s a.reading
