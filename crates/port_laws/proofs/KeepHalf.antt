-- The field test is kept by one half, and by any number of them.
-- Assumes nothing.
use Rattle.std.specs.Option.{option_or}
use Rattle.std.specs.Prelude.{Option, None, Some}
use mathlib.Core.Path.{◌≡◌, sym, ap, subst}
use Prim.Native.Nat.{ℕ, zero, suc, ◌+◌, ◌≤◌}
use native.Mathlib.Omega.{arith}
use mathlib.Core.Bool.{Bool, true, false, not}
use Rattle.port.specs.declared.Port.{Port}
use Rattle.port.specs.Baud.{counted, external}
use Rattle.shift.specs.Due.{due_now}
use Rattle.port.specs.Receiver.{arm_receive, advance_rx}
use Rattle.port.specs.Sender.{advance_tx}
use Rattle.port.specs.Clocked.{sync_needed, with_clock, refresh_sync_clock, receive_bit, sync_edge}
use Rattle.port.specs.Half.{process_basic, clocked_edge, advance, half_step, halves}
use Rattle.branches.proofs.Branches.{by_cond, both_arms}
use Rattle.port.proofs.OnePass.{one_pass}
use Rattle.port.proofs.SenderKeeps.{SenderClosed, free_sender, advance_tx_keeps, tail_keeps, shift_keeps}
use Rattle.port.proofs.ReceiverKeeps.{ReceiverClosed, free_receiver, refresh_keeps, arm_keeps, advance_rx_keeps, receive_bit_keeps, basic_keeps, sync_edge_keeps, half_keeps}
use Rattle.port_laws.proofs.KeepSender.{DueMaybe, TxFits, Sends, later_maybe, advance_tx_sends, tx_not_due, tail_ends_sends, shift_out_sends}
use Rattle.port_laws.proofs.KeepReceiver.{Side, side_closed, side_arm, side_advance, rx_not_due, side_receive_bit}

-- all but the clocked edge's due half
pub record Ok (h : ℕ) (p : Port) : Type 0 where
  pub sends : Sends h p
  pub side : Side h h p

-- all, at the half h
pub record Kept (h : ℕ) (p : Port) : Type 0 where
  pub ok : Ok h p
  pub due : DueMaybe h p.sync_next

-- the receiver's steps keep the sender
sends_closed : (h : ℕ) → ReceiverClosed (Sends h)
sends_closed h = free_receiver (Sends h) (λ q x s v n k. k)

pub ok_arm : (h : ℕ) (p : Port) → Ok h p → Ok h (arm_receive p)
ok_arm h p o = record { sends = arm_keeps (Sends h) (λ q x k. k) p o.sends; side = side_arm h p o.side }

-- ---- basic work at a counted half
pub basic_first : (h : ℕ) (p : Port) → TxFits h p.tx → Side (suc h) h p → Ok (suc h) (process_basic p)
unfolding process_basic
basic_first h p t d =
    let q : Port = advance_tx p in
    ok_arm (suc h) (advance_rx q)
    (record {
      sends = advance_rx_keeps (Sends (suc h)) (sends_closed (suc h)) q (advance_tx_sends h p d.at t);
      side = side_advance h q (advance_tx_keeps (Side (suc h) h) (side_closed (suc h) h) p d);
    })

-- ---- the clock of clocked form
-- with another clock level or due half nothing else changes
pub ok_clock : (h : ℕ) (p : Port) (d : Option ℕ) (b : Bool) → Ok h p → Ok h (with_clock p d b)
ok_clock h p d b o = record { sends = o.sends; side = o.side }

pub ok_refresh : (h : ℕ) (p : Port) → Ok h p → Ok h (refresh_sync_clock p)
ok_refresh h = refresh_keeps (Ok h) (ok_clock h)

abbrev pub DueNext : ℕ → Port → Type 0
DueNext k p = DueMaybe k p.sync_next

-- k is the present half, or the one before
pub due_refresh : (k : ℕ) (p : Port) → k ≤ p.half → p.half ≤ suc k → DueNext k p → DueNext k (refresh_sync_clock p)
unfolding refresh_sync_clock
due_refresh k p lo up m = both_arms (DueNext k) (external p) _ _ tt (both_arms (DueNext k) (sync_needed p) _ _ (go p.sync_next m) tt)
  where
    go : (d : Option ℕ) → DueMaybe k d → DueMaybe k (option_or d (Some (p.half + 2)))
    go None f = (omega arith, omega arith)
    go (Some n) f = f

pub kept_refresh : (h : ℕ) (p : Port) → Ok h p → DueNext h p → Kept h (refresh_sync_clock p)
kept_refresh h p o m =
    record { ok = ok_refresh h p o; due = due_refresh h p (omega (arith, o.sends.at)) (omega (arith, o.sends.at)) m }

-- neither sender nor receiver plans the clock's edge
pub due_sender : (k : ℕ) → SenderClosed (DueNext k)
due_sender k = free_sender (DueNext k) (λ q t u b s x k. k) (λ q n k. k)

pub due_receiver : (k : ℕ) → ReceiverClosed (DueNext k)
due_receiver k = free_receiver (DueNext k) (λ q x s v n k. k)

due_basic : (k : ℕ) (p : Port) → DueNext k p → DueNext k (process_basic p)
due_basic k = basic_keeps (DueNext k) (due_sender k) (due_receiver k)

-- ---- the clocked edge
pub ok_sync_edge : (b : Bool) (h : ℕ) (p : Port) → Ok h p → Ok h (sync_edge b p)
unfolding sync_edge
ok_sync_edge true h p o =
    let q : Port = receive_bit p in
    record {
      sends = tail_ends_sends h q (receive_bit_keeps (Sends h) (sends_closed h) p o.sends);
      side = tail_keeps (Side h h) (side_closed h h) q (side_receive_bit h p o.side);
    }
ok_sync_edge false h p o =
    record { sends = shift_out_sends h p o.sends; side = shift_keeps (Side h h) (side_closed h h).start p o.side }

ok_clocked_edge : (h : ℕ) (p : Port) → Ok h p → Ok h (clocked_edge p)
unfolding clocked_edge
ok_clocked_edge h p o =
    both_arms (Ok h) (due_now p.sync_next p.half) _ p (ok_sync_edge (not p.sck) h (with_clock p None (not p.sck)) (ok_clock h p None (not p.sck) o)) o

due_clocked_edge : (k : ℕ) (p : Port) → p.half ≡ suc k → DueNext k p → DueNext (suc k) (clocked_edge p)
unfolding clocked_edge
due_clocked_edge k p e m =
    by_cond (DueNext (suc k)) (due_now p.sync_next p.half) _ p
    (λ b. sync_edge_keeps (DueNext (suc k)) (due_sender (suc k)) (due_receiver (suc k)) (not p.sck) (with_clock p None (not p.sck)) tt)
    (λ b. later_maybe k p.sync_next m (subst (λ (h : ℕ). due_now p.sync_next h ≡ false) e b))

-- ---- one half
-- the half is counted: the receiver's word may be due now
pub side_counted : (h : ℕ) (p : Port) → Side h h p → Side (suc h) h (counted p)
side_counted h p d =
    record { at = ap suc d.at; fits = d.fits; began = omega (arith, d.began); flags = d.flags; seen_flags = d.seen_flags; stored = d.stored }

module _ (h : ℕ) (p : Port) (k : Kept h p) (x : external p ≡ false) where
  pub basic_ok : Ok (suc h) (process_basic (counted p))
  basic_ok = basic_first h (counted p) k.ok.sends.fits (side_counted h p k.ok.side)

  -- the basic work on the way adds nothing
  pub half_in_one : half_step p ≡ advance (counted p)
  unfolding half_step
  half_in_one =
      let b : Port = process_basic (counted p) in
      one_pass (counted p) (tx_not_due (suc h) b basic_ok.sends) (rx_not_due (suc h) b basic_ok.side) x

  pub kept_half : Kept (suc h) (half_step p)
  unfolding advance
  kept_half =
      let b : Port = process_basic (counted p) in
      subst (Kept (suc h)) (sym half_in_one)
      (kept_refresh (suc h) (clocked_edge b) (ok_clocked_edge (suc h) b basic_ok) (due_clocked_edge h b basic_ok.sends.at (due_basic h (counted p) k.due)))

-- a half does not change which clock runs
pub external_half : (p : Port) → external p ≡ false → external (half_step p) ≡ false
external_half p x =
    let P : Port → Type 0 = λ (q : Port). external q ≡ false in
    half_keeps P (free_sender P (λ q t u b s x k. k) (λ q n k. k)) (free_receiver P (λ q x s v n k. k)) (λ q d b k. k) (λ q k. k) p x

pub kept_halves : (n h : ℕ) (p : Port) → Kept h p → external p ≡ false → Kept (n + h) (halves n p)
unfolding halves
kept_halves zero h p k x = let e : 0 + h ≡ h = omega arith in rw e k
kept_halves (suc n) h p k x =
    let e : suc n + h ≡ n + suc h = omega arith in rw e (kept_halves n (suc h) (half_step p) (kept_half h p k x) (external_half p x))
