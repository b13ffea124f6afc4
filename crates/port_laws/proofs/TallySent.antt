-- The tally of words sent, through the sender's steps: it grows at the end of a tail, at most once in a half, and not else.
-- Assumes nothing.
use Rattle.std.specs.Prelude.{Option, None, Some, is_none, is_some}
use mathlib.Core.Path.{◌≡◌, refl, sym, ap, ap₂, ◌∙◌}
use Prim.Native.Nat.{ℕ, suc, ◌%◌}
use mathlib.Core.Bool.{Bool, true, false, not, ◌&&◌, ◌||◌, and-false, and-true}
use lib.Dec.{eqb}
use Rattle.frame.specs.Frame.{has, stop}
use Rattle.port.specs.declared.Port.{Port}
use Rattle.shift.specs.declared.Character.{Character}
use Rattle.shift.specs.declared.Tx.{Tx}
use Rattle.shift.specs.declared.Tx.TheVariants.{Off, Blocked, Mark, Start, Data, Tail}
use Rattle.port.specs.Fields.{with_tx}
use Rattle.port.specs.Baud.{format_of, boundary}
use Rattle.shift.specs.Due.{due_now}
use Rattle.port.specs.Receiver.{error_free, advance_rx}
use Rattle.port.specs.Sender.{loaded, preloaded, preloaded_on, begin, start_at, start_loaded, try_start, try_start_on, one_sent, finish_tail, next_cell, advance_tx, advance_tx_on}
use Rattle.port.specs.Clocked.{receive_bit, tail_ends, tail_ends_on, sync_edge}
use Rattle.port.specs.Half.{process_basic}
use Rattle.port_laws.specs.Laws.{wrap, tally, finishes_on}
use Rattle.branches.proofs.Branches.{by_cond, both_arms}
use Rattle.port.proofs.SenderKeeps.{StartClosed, free_start, begin_keeps, try_keeps, next_keeps, shift_keeps}
use Rattle.port.proofs.ReceiverKeeps.{ReceiverClosed, free_receiver, arm_keeps, advance_rx_keeps, receive_bit_keeps}

-- ---- the end of a tail
abbrev pub Sent : ℕ → Port → Type 0
Sent n q = q.transmitted ≡ n

start_sent : (n : ℕ) → StartClosed (Sent n)
start_sent n = free_start (Sent n) (λ q t u b s x k. k)

pub finish_sent : (l : Option Character) (p : Port) → Sent (suc p.transmitted % wrap) (finish_tail l p)
finish_sent None p = let n : ℕ = suc p.transmitted % wrap in try_keeps (Sent n) (start_sent n) (one_sent p) refl
finish_sent (Some ch) p =
    let n : ℕ = suc p.transmitted % wrap in
    both_arms (Sent n) (ch.format.synchronous && not (error_free p)) _ _ refl (begin_keeps (Sent n) (start_sent n) (one_sent p) ch refl)

-- a tail that waits for the clock of clocked form
abbrev pub clocked_tail : Tx → Bool
clocked_tail Off = false
clocked_tail (Blocked ch) = false
clocked_tail (Mark next) = false
clocked_tail (Start ch next) = false
clocked_tail (Data ch cell next) = false
clocked_tail (Tail l next) = is_none next

-- no step at a due half leads to one
abbrev Open : Port → Type 0
Open q = clocked_tail q.tx ≡ false

begin_open : (p : Port) (ch : Character) → Open (begin p ch)
unfolding begin
begin_open p ch = both_arms Open ch.format.synchronous _ _ refl refl

start_open : (l : Option Character) (p : Port) → Open p → Open (start_loaded l p)
unfolding start_at
start_open None p o = o
start_open (Some ch) p o =
    both_arms Open ch.format.synchronous _ _ (begin_open p ch) (both_arms Open (eqb (boundary p ch.format.half_bit) p.half) _ _ (begin_open p ch) refl)

preloaded_open : (p : Port) → Open p → Open (preloaded p)
unfolding preloaded
preloaded_open p o = go p.holding
  where
    go : (x : Option ℕ) → Open (preloaded_on x p)
    go None = o
    go (Some v) = o

try_open : (p : Port) → Open p → Open (try_start p)
unfolding try_start
try_open p o = go p.tx
  where
    go : (t : Tx) → Open (try_start_on t p)
    go Off =
        both_arms Open (has p.scr 0x20 && (is_some p.holding && (not (format_of p).synchronous || error_free p))) (start_loaded (loaded p) (preloaded p)) p
        (start_open (loaded p) (preloaded p) (preloaded_open p o)) o
    go (Blocked ch) = both_arms Open (error_free p) (begin p ch) p (begin_open p ch) o
    go (Mark next) = o
    go (Start ch next) = o
    go (Data ch cell next) = o
    go (Tail l next) = o

finish_open : (l : Option Character) (p : Port) → Open (finish_tail l p)
finish_open None p = try_open (one_sent p) refl
finish_open (Some ch) p = both_arms Open (ch.format.synchronous && not (error_free p)) _ _ refl (begin_open (one_sent p) ch)

next_open : (ch : Character) (cell : ℕ) (p : Port) → Open (next_cell ch cell p)
unfolding next_cell
next_open ch cell p = both_arms Open (eqb cell (stop ch.format)) _ _ refl refl

advance_tail : (p : Port) → clocked_tail (advance_tx p).tx ≡ clocked_tail p.tx
unfolding advance_tx
advance_tail p = go p.tx refl
  where
    go : (t : Tx) → p.tx ≡ t → clocked_tail (advance_tx_on t p).tx ≡ clocked_tail t
    go Off e = ap clocked_tail e
    go (Blocked ch) e = ap clocked_tail e
    go (Mark n) e = both_arms Open (eqb n p.half) _ p (try_open (with_tx p Off) refl) (ap clocked_tail e)
    go (Start ch n) e = both_arms Open (eqb n p.half) _ p (begin_open p ch) (ap clocked_tail e)
    go (Data ch cell d) e = both_arms Open (due_now d p.half) _ p (next_open ch (suc cell) p) (ap clocked_tail e)
    go (Tail l None) e = ap clocked_tail e
    go (Tail l (Some n)) e = both_arms Open (eqb n p.half) _ p (finish_open l p) (ap clocked_tail e)

advance_sent : (p : Port) → Sent (tally (finishes_on p.tx false p.half) p.transmitted) (advance_tx p)
unfolding advance_tx
advance_sent p = go p.tx
  where
    T : ℕ
    T = p.transmitted

    go : (t : Tx) → Sent (tally (finishes_on t false p.half) T) (advance_tx_on t p)
    go Off = refl
    go (Blocked ch) = refl
    go (Mark n) = both_arms (Sent T) (eqb n p.half) _ p (try_keeps (Sent T) (start_sent T) (with_tx p Off) refl) refl
    go (Start ch n) = both_arms (Sent T) (eqb n p.half) _ p (begin_keeps (Sent T) (start_sent T) p ch refl) refl
    go (Data ch cell d) = both_arms (Sent T) (due_now d p.half) _ p (next_keeps (Sent T) (start_sent T) ch (suc cell) p refl) refl
    go (Tail l None) = refl
    go (Tail l (Some n)) =
        by_cond (Sent (tally (eqb n p.half) T)) (eqb n p.half) _ p (λ e. finish_sent l p ∙ sym (ap (λ (b : Bool). tally b T) e)) (λ e. sym (ap (λ (b : Bool). tally b T) e))

-- the receiver keeps both
receiver_sent : (n : ℕ) → ReceiverClosed (Sent n)
receiver_sent n = free_receiver (Sent n) (λ q x s v n k. k)

abbrev pub Tailed : Bool → Port → Type 0
Tailed b q = clocked_tail q.tx ≡ b

receiver_tail : (b : Bool) → ReceiverClosed (Tailed b)
receiver_tail b = free_receiver (Tailed b) (λ q x s v n k. k)

pub basic_sent : (p : Port) → Sent (tally (finishes_on p.tx false p.half) p.transmitted) (process_basic p)
unfolding process_basic
basic_sent p =
    let n : ℕ = tally (finishes_on p.tx false p.half) p.transmitted in
    arm_keeps (Sent n) (λ q x k. k) (advance_rx (advance_tx p)) (advance_rx_keeps (Sent n) (receiver_sent n) (advance_tx p) (advance_sent p))

pub basic_tail : (p : Port) → Tailed (clocked_tail p.tx) (process_basic p)
unfolding process_basic
basic_tail p =
    let b : Bool = clocked_tail p.tx in
    arm_keeps (Tailed b) (λ q x k. k) (advance_rx (advance_tx p)) (advance_rx_keeps (Tailed b) (receiver_tail b) (advance_tx p) (advance_tail p))

tail_sent : (p : Port) → Sent (tally (clocked_tail p.tx) p.transmitted) (tail_ends p)
unfolding tail_ends
tail_sent p = go p.tx
  where
    go : (t : Tx) → Sent (tally (clocked_tail t) p.transmitted) (tail_ends_on t p)
    go Off = refl
    go (Blocked ch) = refl
    go (Mark next) = refl
    go (Start ch next) = refl
    go (Data ch cell next) = refl
    go (Tail l None) = finish_sent l p
    go (Tail l (Some n)) = refl

pub edge_sent : (b : Bool) (p : Port) → Sent (tally (b && clocked_tail p.tx) p.transmitted) (sync_edge b p)
unfolding sync_edge
edge_sent true p =
    tail_sent (receive_bit p)
    ∙ ap₂ tally (receive_bit_keeps (Tailed (clocked_tail p.tx)) (receiver_tail (clocked_tail p.tx)) p refl) (receive_bit_keeps (Sent p.transmitted) (receiver_sent p.transmitted) p refl)
edge_sent false p = shift_keeps (Sent p.transmitted) (start_sent p.transmitted) p refl

-- both together: the tail's due half, or the rising edge
pub sent_once : (t : Tx) (r : Bool) (half n : ℕ) → tally (r && clocked_tail t) (tally (finishes_on t false half) n) ≡ tally (finishes_on t r half) n
sent_once t r half n = go t
  where
    none : (m : ℕ) → tally (r && false) m ≡ m
    none m = ap (λ (b : Bool). tally b m) (and-false r)

    go : (t : Tx) → tally (r && clocked_tail t) (tally (finishes_on t false half) n) ≡ tally (finishes_on t r half) n
    go Off = none n
    go (Blocked ch) = none n
    go (Mark next) = none n
    go (Start ch next) = none n
    go (Data ch cell next) = none n
    go (Tail l None) = ap (λ (b : Bool). tally b n) (and-true r)
    go (Tail l (Some k)) = none (tally (eqb k half) n)
