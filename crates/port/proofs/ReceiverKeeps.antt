-- The receiver keeps whatever does not depend on its word, SSR, RDR and its tally; with the sender's lemma, so does the work of a half or an edge.
-- And the clock of clocked form keeps whatever does not depend on it.
-- Assumes nothing.
use Rattle.std.specs.Option.{option_or}
use Rattle.std.specs.Prelude.{Option, None, Some}
use Rattle.std.proofs.Common.{ℕ, suc, ◌+◌, Bool, true, not, ◌&&◌, eqb}
use Rattle.frame.specs.Frame.{has}
use Rattle.port.specs.declared.Port.{Port}
use Rattle.shift.specs.declared.Rx.{Rx}
use Rattle.shift.specs.declared.Sampled.{Sampled}
use Rattle.shift.specs.declared.Sampled.TheVariants.{Dropped, Onward, Whole}
use Rattle.port.specs.Fields.{with_rx, with_ssr, with_rdr, with_received}
use Rattle.port.specs.Baud.{format_of, external, counted}
use Rattle.shift.specs.Due.{due_now}
use Rattle.shift.specs.Receiver.{sample, last_bit, bit_taken, clocked_word, rx_due_on}
use Rattle.port.specs.Receiver.{input_level, error_free, arms, arm_receive, arm_receive_on, complete_receive, after_sample, advance_rx, advance_rx_on}
use Rattle.port.specs.Sender.{advance_tx}
use Rattle.port.specs.Clocked.{sync_needed, with_clock, refresh_sync_clock, take_bit, receive_bit, receive_bit_on, sync_edge}
use Rattle.port.specs.Half.{process_basic, sync, clocked_edge, advance, half_step}
use Rattle.branches.proofs.Branches.{both_arms}
use Rattle.port.proofs.SenderKeeps.{SenderClosed, advance_tx_keeps, tail_keeps, shift_keeps}

-- P is kept by each of the receiver's primitive updates
pub record ReceiverClosed (P : Port → Type 0) : Type 0 where
  pub by_rx : (q : Port) (x : Option Rx) → P q → P (with_rx q x)
  pub by_ssr : (q : Port) (s : ℕ) → P q → P (with_ssr q s)
  pub by_rdr : (q : Port) (v : ℕ) → P q → P (with_rdr q v)
  pub by_received : (q : Port) (n : ℕ) → P q → P (with_received q n)

-- for a P that reads none of the fields that change: the argument is then `λ q x s v n k. k`
abbrev pub receiver_set : Port → Option Rx → ℕ → ℕ → ℕ → Port
receiver_set q x s v n = with_received (with_rdr (with_ssr (with_rx q x) s) v) n

pub free_receiver : (P : Port → Type 0) → ((q : Port) (x : Option Rx) (s v n : ℕ) → P q → P (receiver_set q x s v n)) → ReceiverClosed P
free_receiver P free =
    record {
      by_rx = λ q x k. free q x q.ssr q.rdr q.received k;
      by_ssr = λ q s k. free q q.rx s q.rdr q.received k;
      by_rdr = λ q v k. free q q.rx q.ssr v q.received k;
      by_received = λ q n k. free q q.rx q.ssr q.rdr n k;
    }

-- the clock of clocked form is planned anew
pub refresh_any : (P : Port → Type 0) (p : Port) → ((d : Option ℕ) (b : Bool) → P (with_clock p d b)) → P (refresh_sync_clock p)
unfolding refresh_sync_clock
refresh_any P p k =
    both_arms P (external p) _ _ (k None p.sck)
    (both_arms P (sync_needed p) _ _ (k (option_or p.sync_next (Some (p.half + 2))) p.sck) (k None true))

pub refresh_keeps : (P : Port → Type 0) → ((q : Port) (d : Option ℕ) (b : Bool) → P q → P (with_clock q d b)) → (p : Port) → P p → P (refresh_sync_clock p)
refresh_keeps P by_clock p k = refresh_any P p (λ d b. by_clock p d b k)

-- a word begins
pub arm_keeps : (P : Port → Type 0) → ((q : Port) (x : Option Rx) → P q → P (with_rx q x)) → (p : Port) → P p → P (arm_receive p)
unfolding arm_receive
arm_keeps P by_rx p k = go p.rx
  where
    go : (x : Option Rx) → P (arm_receive_on x p)
    go None = both_arms P (arms p) _ p (by_rx p _ k) k
    go (Some r) = k

module _ (P : Port → Type 0) (c : ReceiverClosed P) where
  complete_keeps : (p : Port) (r : Rx) → P p → P (complete_receive p r)
  unfolding complete_receive
  complete_keeps p r k =
      let q : Port = with_rdr p r.value in
      let g : P q = c.by_rdr p r.value k in
      both_arms P (has p.ssr 0x40) _ _ (c.by_ssr p _ k) (both_arms P (eqb r.error 0) _ _ (c.by_received (with_ssr q _) _ (c.by_ssr q _ g)) (c.by_ssr q _ g))

  pub advance_rx_keeps : (p : Port) → P p → P (advance_rx p)
  unfolding advance_rx
  advance_rx_keeps p k = go p.rx
    where
      out : (o : Sampled) → P (after_sample o p)
      out Dropped = c.by_rx p None k
      out (Onward r) = c.by_rx p (Some r) k
      out (Whole r) = complete_keeps (with_rx p None) r (c.by_rx p None k)

      go : (x : Option Rx) → P (advance_rx_on x p)
      go None = k
      go (Some r) = both_arms P (due_now r.next p.half) _ p (out (sample (format_of p) (input_level p) p.half r)) k

  take_keeps : (p : Port) (r : Rx) → P p → P (take_bit p r)
  unfolding take_bit
  take_keeps p r k =
      both_arms P (last_bit r.position) _ _ (complete_keeps (with_rx p None) (bit_taken (input_level p) r) (c.by_rx p None k)) (c.by_rx p _ k)

  pub receive_bit_keeps : (p : Port) → P p → P (receive_bit p)
  unfolding receive_bit
  receive_bit_keeps p k = both_arms P (has p.scr 0x10 && error_free p) _ p (go p.rx) k
    where
      go : (x : Option Rx) → P (receive_bit_on x p)
      go None = both_arms P (format_of p).synchronous _ p (take_keeps p (clocked_word (format_of p)) k) k
      go (Some r) = both_arms P r.format.synchronous _ p (take_keeps p r k) k

module _ (P : Port → Type 0) (s : SenderClosed P) (c : ReceiverClosed P) where
  pub basic_keeps : (p : Port) → P p → P (process_basic p)
  unfolding process_basic
  basic_keeps p k = arm_keeps P c.by_rx (advance_rx (advance_tx p)) (advance_rx_keeps P c (advance_tx p) (advance_tx_keeps P s p k))

  pub sync_edge_keeps : (b : Bool) (p : Port) → P p → P (sync_edge b p)
  unfolding sync_edge
  sync_edge_keeps b p k = both_arms P b _ _ (tail_keeps P s (receive_bit p) (receive_bit_keeps P c p k)) (shift_keeps P s.start p k)

-- ---- a whole half
module _ (P : Port → Type 0) (s : SenderClosed P) (c : ReceiverClosed P) (by_clock : (q : Port) (d : Option ℕ) (b : Bool) → P q → P (with_clock q d b)) where
  pub clocked_edge_keeps : (p : Port) → P p → P (clocked_edge p)
  unfolding clocked_edge
  clocked_edge_keeps p k =
      both_arms P (due_now p.sync_next p.half) _ p (sync_edge_keeps P s c (not p.sck) (with_clock p None (not p.sck)) (by_clock p None (not p.sck) k)) k

  pub advance_keeps : (p : Port) → P p → P (advance p)
  unfolding advance
  advance_keeps p k =
      refresh_keeps P by_clock (clocked_edge (process_basic p)) (clocked_edge_keeps (process_basic p) (basic_keeps P s c p k))

  pub half_keeps : ((q : Port) → P q → P (counted q)) → (p : Port) → P p → P (half_step p)
  unfolding half_step sync
  half_keeps by_count p k =
      let q : Port = counted p in
      let kq : P q = by_count p k in
      advance_keeps (sync q)
      (both_arms P (rx_due_on p.rx (suc p.half)) (refresh_sync_clock (process_basic q)) q (refresh_keeps P by_clock (process_basic q) (basic_keeps P s c q kq)) kq)
