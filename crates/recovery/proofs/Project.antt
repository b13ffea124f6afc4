-- The receiver's view of the port, and what each function of the port does to it.
-- Assumes nothing.
use Rattle.std.specs.Prelude.{Option, None, Some}
use mathlib.Core.Path.{◌≡◌, refl, ap, ap₂, ◌∙◌, sym}
use Prim.Native.Nat.{ℕ, suc, ◌%◌, ◌^◌}
use mathlib.Core.Bool.{Bool, true, false, not, ◌&&◌, cond}
use lib.Dec.{eqb}
use lib.Bits.{bit_and, bit_or, or_zero_r}
use Rattle.port.specs.declared.Port.{Port}
use Rattle.shift.specs.declared.Rx.{Rx}
use Rattle.shift.specs.declared.Sampled.{Sampled}
use Rattle.shift.specs.declared.Sampled.TheVariants.{Dropped, Onward, Whole}
use Rattle.frame.specs.Frame.{has}
use Rattle.port.specs.Baud.{format_of, internal, next_fall}
use Rattle.port.specs.Clocked.{refresh_sync_clock, shift_out, tail_ends}
use Rattle.port.specs.Fields.{with_rdr, with_received, with_rx, with_ssr}
use Rattle.port.specs.Half.{process_basic}
use Rattle.shift.specs.Receiver.{armed, sample}
use Rattle.shift.specs.Due.{due_now}
use Rattle.port.specs.Receiver.{advance_rx, advance_rx_on, after_sample, arm_receive, arm_receive_on, complete_receive, error_free, input_level}
use Rattle.port.specs.Registers.{load_tail}
use Rattle.port.specs.Sender.{advance_tx, try_start}
use Rattle.branches.proofs.Branches.{by_cond}
use Rattle.port_laws.proofs.Masks.{and_and, and_or}
use Rattle.port.proofs.ReceiverKeeps.{refresh_keeps}
use Rattle.port.proofs.SenderKeeps.{SenderClosed, StartClosed, advance_tx_keeps, load_tail_keeps, shift_keeps, tail_keeps, try_keeps}
use Rattle.recovery.proofs.View.{View, v_advance, v_advance_on, v_arm, v_arm_on, v_basic, v_complete, v_flags, v_outcome, v_word}

abbrev pub view : Port → View
view p =
    record {
      fmt = format_of p;
      on = has p.scr 0x10;
      runs = internal p;
      rx = p.rx;
      half = p.half;
      high = p.high;
      mark = input_level p;
      flags = bit_and p.ssr 0x78;
      rdr = p.rdr;
      received = p.received;
    }

-- ---- a choice
pub view_either : (b : Bool) (x y : Port) → view (cond b x y) ≡ cond b (view x) (view y)
view_either true x y = refl
view_either false x y = refl

pub same_either : (b : Bool) (x y : Port) (v : View) → view x ≡ v → view y ≡ v → view (cond b x y) ≡ v
same_either b x y v e g = by_cond (λ (p : Port). view p ≡ v) b x y (λ i. e) (λ i. g)

-- ---- SSR
-- a flag test on a part of the flags
pub has_mask : (x m n : ℕ) → bit_and m n ≡ n → has x n ≡ has (bit_and x m) n
has_mask x m n e = ap (λ (y : ℕ). not (eqb y 0)) (sym (and_and x m n ∙ ap (bit_and x) e))

-- another SSR with the receiver's flags the same
same_ssr : (p : Port) (s : ℕ) → bit_and s 0x78 ≡ bit_and p.ssr 0x78 → view (with_ssr p s) ≡ view p
same_ssr p s e = rw e

-- ---- the receiver
pub view_arm : (p : Port) → view (arm_receive p) ≡ v_arm (view p)
unfolding arm_receive v_arm
view_arm p = go p.rx
  where
    go : (x : Option Rx) → view (arm_receive_on x p) ≡ v_arm_on x (view p)
    go None =
        rw (← has_mask p.ssr 0x78 0x38 refl)
        (view_either (has p.scr 0x10 && (error_free p && (not (format_of p).synchronous && not (input_level p)))) (with_rx p (Some (armed (format_of p) (next_fall p)))) p)
    go (Some r) = refl

pub view_complete : (p : Port) (r : Rx) → view (complete_receive p r) ≡ v_complete (view p) r
unfolding complete_receive
view_complete p r =
    view_either (has p.ssr 0x40) (with_ssr p (bit_or p.ssr (bit_or r.error 0x20))) rest
    ∙ ap₂ (λ (u w : View). cond (has p.ssr 0x40) u w) (ap (v_flags (view p)) (and_or p.ssr (bit_or r.error 0x20) 0x78))
    (view_either (eqb r.error 0) clean faulty
    ∙ ap₂ (λ (u w : View). cond (eqb r.error 0) u w)
    (ap (λ (s : ℕ). v_word (view p) s r.value (suc p.received % 2 ^ 64)) (and_or p.ssr 0x40 0x78))
    (ap (λ (s : ℕ). v_word (view p) s r.value p.received) (and_or p.ssr r.error 0x78)))
    ∙ ap (λ (b : Bool). cond b (v_flags (view p) (bit_or (bit_and p.ssr 0x78) (bit_and (bit_or r.error 0x20) 0x78)))
    (cond (eqb r.error 0)
    (v_word (view p) (bit_or (bit_and p.ssr 0x78) 0x40) r.value (suc p.received % 2 ^ 64))
    (v_word (view p) (bit_or (bit_and p.ssr 0x78) (bit_and r.error 0x78)) r.value p.received))) (has_mask p.ssr 0x78 0x40 refl)
  where
    clean : Port
    clean = with_received (with_ssr (with_rdr p r.value) (bit_or p.ssr 0x40)) (suc p.received % 2 ^ 64)

    faulty : Port
    faulty = with_ssr (with_rdr p r.value) (bit_or p.ssr r.error)

    rest : Port
    rest = cond (eqb r.error 0) clean faulty

pub view_outcome : (o : Sampled) (p : Port) → view (after_sample o p) ≡ v_outcome o (view p)
view_outcome Dropped p = refl
view_outcome (Onward r) p = refl
view_outcome (Whole r) p = view_complete (with_rx p None) r

pub view_advance : (p : Port) → view (advance_rx p) ≡ v_advance (view p)
unfolding advance_rx v_advance
view_advance p = go p.rx
  where
    go : (x : Option Rx) → view (advance_rx_on x p) ≡ v_advance_on x (view p)
    go None = refl
    go (Some r) =
        view_either (due_now r.next p.half) (after_sample (sample (format_of p) (input_level p) p.half r) p) p
        ∙ ap (λ (w : View). cond (due_now r.next p.half) w (view p)) (view_outcome (sample (format_of p) (input_level p) p.half r) p)

-- ---- the sender leaves the view as it is
module _ (v : View) where
  Is : Port → Type 0
  Is q = view q ≡ v

  starts_closed : StartClosed Is
  unfolding Is
  starts_closed =
      record {
        by_tx = λ q t e. e;
        by_drive = λ q b e. e;
        by_tend = λ q e. same_ssr q (bit_or q.ssr 4) (and_or q.ssr 4 0x78 ∙ or_zero_r (bit_and q.ssr 0x78)) ∙ e;
        by_taken = λ q e.
            same_ssr q (bit_and (bit_or q.ssr 0x80) 0xfb) (and_and (bit_or q.ssr 0x80) 0xfb 0x78 ∙ and_or q.ssr 0x80 0x78 ∙ or_zero_r (bit_and q.ssr 0x78)) ∙ e;
      }

  sends_closed : SenderClosed Is
  unfolding Is
  sends_closed = record { start = starts_closed; by_sent = λ q e. e }

pub view_try_start : (p : Port) → view (try_start p) ≡ view p
unfolding Is
view_try_start p = try_keeps (Is (view p)) (starts_closed (view p)) p refl

pub view_advance_tx : (p : Port) → view (advance_tx p) ≡ view p
unfolding Is
view_advance_tx p = advance_tx_keeps (Is (view p)) (sends_closed (view p)) p refl

pub view_tail_step : (p : Port) → view (tail_ends p) ≡ view p
unfolding Is
view_tail_step p = tail_keeps (Is (view p)) (sends_closed (view p)) p refl

pub view_load_tail : (p : Port) → view (load_tail p) ≡ view p
unfolding Is
view_load_tail p = load_tail_keeps (Is (view p)) (starts_closed (view p)) p refl

pub view_shift_out : (p : Port) → view (shift_out p) ≡ view p
unfolding Is
view_shift_out p = shift_keeps (Is (view p)) (starts_closed (view p)) p refl

pub view_refresh : (p : Port) → view (refresh_sync_clock p) ≡ view p
unfolding Is
view_refresh p = refresh_keeps (Is (view p)) (λ q d b e. e) p refl

pub view_basic : (p : Port) → view (process_basic p) ≡ v_basic (view p)
unfolding process_basic v_basic
view_basic p =
    view_arm (advance_rx (advance_tx p)) ∙ ap v_arm (view_advance (advance_tx p) ∙ ap v_advance (view_advance_tx p))
