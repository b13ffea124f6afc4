-- The bound holds of every state that a fresh port comes to.
-- Assumes nothing.
use Rattle.std.specs.Prelude.{is_some}
use mathlib.Core.Path.{◌≡◌, refl, sym, ap, ◌∙◌, subst}
use Prim.Native.Nat.{ℕ, zero, suc, ◌+◌}
use mathlib.Core.Bool.{Bool, not, ◌&&◌, ◌||◌}
use lib.Dec.{eqb, leb}
use Rattle.port.specs.declared.Port.{Port}
use Rattle.frame.specs.Frame.{differ, has}
use Rattle.port.specs.Baud.{edge_counted, edge_counts, external, format_of, internal}
use Rattle.port.specs.Calls.{Answer, after, bit, called}
use Rattle.command.specs.declared.Call.{Call}
use Rattle.command.specs.declared.Call.TheVariants.{Wait, Inside, Read, Line, Pins, Power, Write}
use Rattle.port.specs.Clocked.{refresh_sync_clock, sync_edge}
use Rattle.port.specs.Fields.{with_input, with_input_clock}
use Rattle.port.specs.Half.{half_step, halves, process_basic, uncounted}
use Rattle.port.specs.Input.{external_edge, input_pins, receive_input}
use Rattle.port.specs.Power.{fresh, reset, reset_registers, set_power, with_power}
use Rattle.port.specs.Receiver.{arm_receive}
use Rattle.port.specs.Registers.{cleared, connect, handles, load_tail, read, after_store, status_with, status_write, stored, write, write_scr, write_tdr}
use Rattle.port.specs.Sender.{try_start}
use Rattle.port.specs.Valid.{limit}
use Rattle.branches.proofs.Branches.{both_arms, by_cond}
use Rattle.recovery.proofs.Bounds.{Fits, arm_fits, basic_fits, format_sound, no_word}
use Rattle.recovery.proofs.Halves.{Core, core, core_arm, core_basic, core_half, core_sync_edge, half_fits, sync_edge_fits}
use Rattle.recovery.proofs.Project.{view, view_arm, view_basic, view_load_tail, view_refresh, view_try_start}
use Rattle.recovery.proofs.View.{View}

abbrev pub Near : Port → Type 0
Near p = Fits p.half p.rx

pub near_view : (p q : Port) → view p ≡ view q → Near q → Near p
near_view p q e t = subst (λ (v : View). Fits v.half v.rx) (sym e) t

at_half : (p : Port) (h : ℕ) → p.half ≡ h → Fits h p.rx → Near p
at_half p h e t = subst (λ (k : ℕ). Fits k p.rx) (sym e) t

pub near_fresh : Near fresh
unfolding fresh
near_fresh = no_word

pub near_arm : (p : Port) → Near p → Near (arm_receive p)
near_arm p t =
    at_half (arm_receive p) p.half (ap (λ (v : View). v.half) (view_arm p) ∙ ap (λ (k : Core). k.half) (core_arm (view p)))
    (subst (Fits p.half) (sym (ap (λ (v : View). v.rx) (view_arm p))) (arm_fits (view p) (format_sound p.smr p.semr) t))

pub near_half : (p : Port) → Near p → Near (half_step p)
near_half p t = at_half (half_step p) (suc p.half) (ap (λ (k : Core). k.half) (core_half p t)) (half_fits p t)

pub near_halves : (n : ℕ) (p : Port) → Near p → Near (halves n p)
unfolding halves
near_halves zero p t = t
near_halves (suc n) p t = near_halves n (half_step p) (near_half p t)

pub near_read : (a : ℕ) (p : Port) → Near p → Near (read a p)
unfolding read
near_read a p t = by_cond Near (eqb a 0xff9c) _ _ (λ e. t) (λ e. by_cond Near (eqb a 0xff9d) _ _ (λ g. t) (λ g. t))

near_scr : (v : ℕ) (p : Port) → Near p → Near (write_scr v p)
unfolding write_scr
near_scr v p t =
    by_cond Near (has v 0x10) _ _
    (λ e. by_cond Near (has v 0x20) _ _ (λ g. by_cond Near (not (has p.scr 0x20) && not (format_of p).synchronous) _ _ (λ h. t) (λ h. t)) (λ g. t))
    (λ e. no_word)

near_tdr : (v : ℕ) (p : Port) → Near p → Near (write_tdr v p)
unfolding write_tdr
near_tdr v p t = by_cond Near (has p.scr 0x20) _ _ (λ e. t) (λ e. t)

near_ssr : (v : ℕ) (p : Port) → Near p → Near (status_write v p)
unfolding status_write status_with
near_ssr v p t =
    by_cond Near (has p.scr 0x20) _ _
    (λ e. by_cond Near (not (has (cleared v p) 0x80) && not (is_some p.holding)) _ _ (λ g. t) (λ g. t)) (λ e. t)

near_stored : (a v : ℕ) (p : Port) → Near p → Near (stored a v p)
unfolding stored
near_stored a v p t =
    by_cond Near (eqb a 0xff91) _ _ (λ e. t) (λ e.
    by_cond Near (eqb a 0xff98) _ _ (λ e. t) (λ e.
    by_cond Near (eqb a 0xff99) _ _ (λ e. t) (λ e.
    by_cond Near (eqb a 0xff9a) _ _ (λ e. near_scr v p t) (λ e.
    by_cond Near (eqb a 0xff9b) _ _ (λ e. near_tdr v p t) (λ e.
    by_cond Near (eqb a 0xff9c) _ _ (λ e. near_ssr v p t) (λ e.
    by_cond Near (eqb a 0xff9d) _ _ (λ e. t) (λ e.
    by_cond Near (eqb a 0xffa6) _ _ (λ e. t) (λ e. t))))))))

near_connected : (b : Bool) (p : Port) → Near p → Near (connect b p)
unfolding connect
near_connected b p t = by_cond Near (not b && external p) _ _ (λ e. t) (λ e. t)

pub near_write : (a v : ℕ) (p : Port) → Near p → Near (write a v p)
unfolding write after_store
near_write a v p t =
    by_cond Near (p.«module» && not p.reset_mode) _ p (λ e. near_view (refresh_sync_clock (arm_receive q)) (arm_receive q) (view_refresh (arm_receive q)) (near_arm q nq)) (λ e. t)
  where
    r : Port
    r = connect (external p) (stored a v p)

    q : Port
    q = try_start (load_tail r)

    nq : Near q
    nq = near_view q r (view_try_start (load_tail r) ∙ view_load_tail r) (near_connected (external p) (stored a v p) (near_stored a v p t))

pub near_line : (b : Bool) (p : Port) → Near p → Near (receive_input b p)
unfolding receive_input
near_line b p t = by_cond Near (differ b p.input) _ _ (λ e. near_arm (with_input p b) t) (λ e. t)

near_edge : (c : Bool) (p : Port) → Near p → Near (external_edge c p)
unfolding external_edge
near_edge c p t =
    by_cond Near (edge_counts c p) _ p (λ e. near_view (refresh_sync_clock (sync_edge c q)) (sync_edge c q) (view_refresh (sync_edge c q)) ne) (λ e. t)
  where
    q : Port
    q = process_basic (edge_counted p c)

    ne : Near (sync_edge c q)
    ne =
        at_half (sync_edge c q) (suc p.half)
        (ap (λ (k : Core). k.half) (core_sync_edge c q ∙ ap core (view_basic (edge_counted p c)) ∙ core_basic (view (edge_counted p c))))
        (sync_edge_fits c q (suc p.half)
        (subst (Fits (suc p.half)) (sym (ap (λ (v : View). v.rx) (view_basic (edge_counted p c))))
        (basic_fits (view (edge_counted p c)) p.half refl (format_sound p.smr p.semr) t)))

pub near_pins : (c b : Bool) (p : Port) → Near p → Near (input_pins c b p)
unfolding input_pins
near_pins c b p t = by_cond Near (differ b p.input || differ c p.input_clock) _ _ (λ e. near_edge c (with_input_clock (receive_input b p) c) (near_line b p t)) (λ e. t)

pub near_power : (a b c d : Bool) (p : Port) → Near p → Near (set_power a b c d p)
unfolding set_power reset reset_registers fresh
near_power a b c d p t =
    near_view (refresh_sync_clock (with_power q a b c d)) (with_power q a b c d) (view_refresh (with_power q a b c d)) nq
  where
    q : Port
    q = reset a d p

    nq : Near q
    nq = by_cond Near (not a && p.«module») _ _ (λ e. no_word) (λ e. by_cond Near (d && not p.reset_mode) _ _ (λ g. no_word) (λ g. t))

abbrev NearAfter : Answer → Type 0
NearAfter r = Near (after r)

pub near_no_halves : (n : ℕ) (p : Port) → Near p → Near (uncounted n p)
near_no_halves zero p t = t
near_no_halves (suc n) p t = t

pub near_called : (c : Call) (p : Port) → Near p → Near (after (called c p))
unfolding called
near_called (Read a) p t = both_arms NearAfter (leb a 65535) _ _ (both_arms NearAfter (handles a) _ _ (near_read a p t) t) t
near_called (Write a v) p t =
    both_arms NearAfter (leb a 65535 && leb v 255) _ _
    (both_arms NearAfter (handles a) _ _ (both_arms NearAfter (eqb a 0xffa7 && leb 128 v) _ _ t (near_write a v p t)) t) t
near_called (Wait n) p t =
    both_arms NearAfter (leb n 65535) _ _
    (both_arms NearAfter (internal p) _ _ (both_arms NearAfter (leb (p.half + n) limit) _ _ (near_halves n p t) t) (near_no_halves n p t)) t
near_called (Line b) p t = both_arms NearAfter (leb b 1) _ _ (near_line (bit b) p t) t
near_called (Pins c b) p t =
    both_arms NearAfter (leb c 1 && leb b 1) _ _
    (both_arms NearAfter ((differ (bit b) p.input || differ (bit c) p.input_clock) && (edge_counts (bit c) p && leb limit p.half)) _ _ t (near_pins (bit c) (bit b) p t)) t
near_called (Power b) p t = both_arms NearAfter (leb b 15) _ _ (near_power (has b 1) (has b 2) (has b 4) (has b 8) p t) t
near_called Inside p t = t
