-- The sender keeps whatever does not depend on its own state, its line, its tally, the holding place and SSR's 0x84.
-- Assumes nothing.
use Rattle.std.specs.Prelude.{Option, None, Some, is_some}
use Rattle.std.proofs.Common.{ℕ, suc, ◌%◌, ◌^◌, Bool, not, ◌&&◌, ◌||◌, eqb}
use lib.Bits.{bit_and, bit_or}
use Rattle.frame.specs.Frame.{has, stop}
use Rattle.shift.specs.declared.Character.{Character}
use Rattle.port.specs.declared.Port.{Port}
use Rattle.shift.specs.declared.Tx.{Tx}
use Rattle.shift.specs.declared.Tx.TheVariants.{Off, Blocked, Mark, Start, Data, Tail}
use Rattle.port.specs.Fields.{with_tx, with_ssr, with_holding, with_uart, with_bit_start, with_transmitted}
use Rattle.port.specs.Baud.{format_of, boundary}
use Rattle.shift.specs.Due.{due_now}
use Rattle.port.specs.Receiver.{error_free}
use Rattle.shift.specs.Sender.{level, tx_next}
use Rattle.port.specs.Sender.{loaded, preloaded, preloaded_on, drive, begin, start_at, start_loaded, try_start, try_start_on, one_sent, finish_tail, next_cell, send_step_on, advance_tx}
use Rattle.port.specs.Clocked.{tail_ends, tail_ends_on, bit_out, shift_out, shift_out_on}
use Rattle.port.specs.Registers.{load_tail, load_tail_on}
use Rattle.branches.proofs.Branches.{both_arms}

-- P is kept by each of the sender's primitive updates: those by which a word starts and goes on, and the end of one
pub record StartClosed (P : Port → Type 0) : Type 0 where
  pub by_tx : (q : Port) (t : Tx) → P q → P (with_tx q t)
  pub by_drive : (q : Port) (b : Bool) → P q → P (drive q b)
  pub by_tend : (q : Port) → P q → P (with_ssr q (bit_or q.ssr 4))
  pub by_taken : (q : Port) → P q → P (with_holding (with_ssr q (bit_and (bit_or q.ssr 0x80) 0xfb)) None)

pub record SenderClosed (P : Port → Type 0) : Type 0 where
  pub start : StartClosed P
  pub by_sent : (q : Port) → P q → P (one_sent q)

-- for a P that reads none of the fields that change both are had at once: the argument is then `λ q t u b s x k. k`
abbrev pub start_set : Port → Tx → Bool → ℕ → ℕ → Option ℕ → Port
start_set q t u b s x = with_holding (with_ssr (with_bit_start (with_uart (with_tx q t) u) b) s) x

pub free_start : (P : Port → Type 0) → ((q : Port) (t : Tx) (u : Bool) (b s : ℕ) (x : Option ℕ) → P q → P (start_set q t u b s x)) → StartClosed P
free_start P free =
    record {
      by_tx = λ q t k. free q t q.uart q.bit_start q.ssr q.holding k;
      by_drive = λ q u k. free q q.tx u q.half q.ssr q.holding k;
      by_tend = λ q k. free q q.tx q.uart q.bit_start (bit_or q.ssr 4) q.holding k;
      by_taken = λ q k. free q q.tx q.uart q.bit_start (bit_and (bit_or q.ssr 0x80) 0xfb) None k;
    }

pub free_sender : (P : Port → Type 0) → ((q : Port) (t : Tx) (u : Bool) (b s : ℕ) (x : Option ℕ) → P q → P (start_set q t u b s x))
    → ((q : Port) (n : ℕ) → P q → P (with_transmitted q n)) → SenderClosed P
free_sender P free by_tally =
    let start : StartClosed P = free_start P free in
    record { start = start; by_sent = λ q k. start.by_tx (with_transmitted q (suc q.transmitted % 2 ^ 64)) Off (by_tally q (suc q.transmitted % 2 ^ 64) k) }

-- ---- up to the tail
module _ (P : Port → Type 0) (c : StartClosed P) where
  preloaded_keeps : (p : Port) → P p → P (preloaded p)
  unfolding preloaded
  preloaded_keeps p k = go p.holding
    where
      go : (x : Option ℕ) → P (preloaded_on x p)
      go None = c.by_tend p k
      go (Some v) = c.by_taken p k

  pub begin_keeps : (p : Port) (ch : Character) → P p → P (begin p ch)
  unfolding begin
  begin_keeps p ch k =
      both_arms P ch.format.synchronous _ _ (c.by_tx p _ k) (c.by_tx (drive p (level ch 0)) _ (c.by_drive p (level ch 0) k))

  start_keeps : (x : Option Character) (p : Port) → P p → P (start_loaded x p)
  unfolding start_at
  start_keeps None p k = k
  start_keeps (Some ch) p k =
      both_arms P ch.format.synchronous _ _ (begin_keeps p ch k)
      (both_arms P (eqb (boundary p ch.format.half_bit) p.half) _ _ (begin_keeps p ch k) (c.by_tx p _ k))

  pub try_keeps : (p : Port) → P p → P (try_start p)
  unfolding try_start
  try_keeps p k = go p.tx
    where
      go : (t : Tx) → P (try_start_on t p)
      go Off =
          both_arms P (has p.scr 0x20 && (is_some p.holding && (not (format_of p).synchronous || error_free p))) (start_loaded (loaded p) (preloaded p)) p
          (start_keeps (loaded p) (preloaded p) (preloaded_keeps p k)) k
      go (Blocked ch) = both_arms P (error_free p) (begin p ch) p (begin_keeps p ch k) k
      go (Mark n) = k
      go (Start ch n) = k
      go (Data ch cell next) = k
      go (Tail l next) = k

  tailed_keeps : (p : Port) (t : Tx) → P p → P (with_tx (preloaded p) t)
  tailed_keeps p t k = c.by_tx (preloaded p) t (preloaded_keeps p k)

  pub next_keeps : (ch : Character) (cell : ℕ) (p : Port) → P p → P (next_cell ch cell p)
  unfolding next_cell
  next_keeps ch cell p k =
      let q : Port = drive p (level ch cell) in
      let g : P q = c.by_drive p (level ch cell) k in
      both_arms P (eqb cell (stop ch.format)) _ _ (tailed_keeps q _ g) (c.by_tx q _ g)

  pub shift_keeps : (p : Port) → P p → P (shift_out p)
  unfolding shift_out bit_out
  shift_keeps p k = go p.tx
    where
      go : (t : Tx) → P (shift_out_on t p)
      go Off = k
      go (Blocked ch) = k
      go (Mark n) = k
      go (Start ch n) = k
      go (Data ch cell None) =
          let q : Port = drive p (level ch cell) in
          let g : P q = c.by_drive p (level ch cell) k in
          both_arms P (eqb cell 7) _ _ (tailed_keeps q _ g) (c.by_tx q _ g)
      go (Data ch cell (Some n)) = k
      go (Tail l next) = k

  pub load_tail_keeps : (p : Port) → P p → P (load_tail p)
  unfolding load_tail
  load_tail_keeps p k = go p.tx
    where
      go : (t : Tx) → P (load_tail_on t p)
      go Off = k
      go (Blocked ch) = k
      go (Mark n) = k
      go (Start ch n) = k
      go (Data ch cell next) = k
      go (Tail None next) = both_arms P (is_some p.holding) _ p (tailed_keeps p _ k) k
      go (Tail (Some ch) next) = k

-- ---- with the end of a tail
module _ (P : Port → Type 0) (c : SenderClosed P) where
  finish_keeps : (x : Option Character) (p : Port) → P p → P (finish_tail x p)
  finish_keeps None p k = try_keeps P c.start (one_sent p) (c.by_sent p k)
  finish_keeps (Some ch) p k =
      both_arms P (ch.format.synchronous && not (error_free p)) _ _ (c.start.by_tx (one_sent p) _ (c.by_sent p k)) (begin_keeps P c.start (one_sent p) ch (c.by_sent p k))

  pub advance_tx_keeps : (p : Port) → P p → P (advance_tx p)
  unfolding advance_tx
  advance_tx_keeps p k = both_arms P (due_now (tx_next p.tx) p.half) _ p (go p.tx) k
    where
      go : (t : Tx) → P (send_step_on t p)
      go Off = k
      go (Blocked ch) = k
      go (Mark n) = try_keeps P c.start (with_tx p Off) (c.start.by_tx p Off k)
      go (Start ch n) = begin_keeps P c.start p ch k
      go (Data ch cell d) = next_keeps P c.start ch (suc cell) p k
      go (Tail l d) = finish_keeps l p k

  pub tail_keeps : (p : Port) → P p → P (tail_ends p)
  unfolding tail_ends
  tail_keeps p k = go p.tx
    where
      go : (t : Tx) → P (tail_ends_on t p)
      go Off = k
      go (Blocked ch) = k
      go (Mark n) = k
      go (Start ch n) = k
      go (Data ch cell next) = k
      go (Tail l None) = finish_keeps l p k
      go (Tail l (Some n)) = k
