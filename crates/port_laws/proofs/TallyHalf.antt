-- Both tallies through an edge of the clock pin, and through a half.
-- Assumes nothing.
use Rattle.std.specs.Prelude.{None}
use mathlib.Core.Path.{◌≡◌, refl, sym, ap, ap₂, ◌∙◌}
use Prim.Native.Nat.{ℕ, suc}
use mathlib.Core.Bool.{Bool, true, false, not, ◌&&◌}
use lib.Bits.{bit_and}
use Rattle.frame.specs.Frame.{has}
use Rattle.port.specs.declared.Port.{Port}
use Rattle.port.specs.Baud.{external, counted, edge_counted}
use Rattle.shift.specs.Due.{due_now}
use Rattle.port.specs.Receiver.{error_free}
use Rattle.port.specs.Clocked.{with_clock, refresh_sync_clock, sync_edge}
use Rattle.port.specs.Half.{process_basic, clocked_edge, advance, half_step}
use Rattle.port_laws.specs.Laws.{tally, finishes, receives, rises}
use Rattle.branches.proofs.Branches.{by_cond}
use Rattle.port.proofs.SenderKeeps.{free_sender}
use Rattle.port.proofs.ReceiverKeeps.{free_receiver, refresh_keeps, basic_keeps}
use Rattle.port_laws.proofs.KeepReceiver.{Side}
use Rattle.port_laws.proofs.KeepHalf.{Kept, side_counted, half_in_one}
use Rattle.port_laws.proofs.TallySent.{Sent, clocked_tail, basic_sent, basic_tail, edge_sent, sent_once}
use Rattle.port_laws.proofs.TallyReceived.{Got, last_clocked, Last, ready, basic_got, basic_last, basic_flags, same_flag, edge_got, received_once}

-- ---- the clock of clocked form
-- it rises now
abbrev pub rising : Port → Bool
rising p = due_now p.sync_next p.half && not p.sck

clocked_edge_sent : (p : Port) → Sent (tally (rising p && clocked_tail p.tx) p.transmitted) (clocked_edge p)
unfolding clocked_edge
clocked_edge_sent p =
    let e : Bool → ℕ = λ (b : Bool). tally ((b && not p.sck) && clocked_tail p.tx) p.transmitted in
    by_cond (Sent (e (due_now p.sync_next p.half))) (due_now p.sync_next p.half) _ p
    (λ b. edge_sent (not p.sck) (with_clock p None (not p.sck)) ∙ sym (ap e b)) (λ b. sym (ap e b))

clocked_edge_got : (p : Port) → Got (tally (rising p && (last_clocked p.rx && ready p)) p.received) (clocked_edge p)
unfolding clocked_edge
clocked_edge_got p =
    let e : Bool → ℕ = λ (b : Bool). tally ((b && not p.sck) && (last_clocked p.rx && ready p)) p.received in
    by_cond (Got (e (due_now p.sync_next p.half))) (due_now p.sync_next p.half) _ p
    (λ b. edge_got (not p.sck) (with_clock p None (not p.sck)) ∙ sym (ap e b)) (λ b. sym (ap e b))

-- basic work does not touch it
abbrev Rising : Bool → Port → Type 0
Rising b q = rising q ≡ b

pub basic_rising : (p : Port) → Rising (rising p) (process_basic p)
basic_rising p =
    let P : Port → Type 0 = Rising (rising p) in basic_keeps P (free_sender P (λ q t u b s x k. k) (λ q n k. k)) (free_receiver P (λ q x s v n k. k)) p refl

-- ---- an edge of the clock pin, which is counted
module _ (h : ℕ) (p : Port) (k : Kept h p) (level : Bool) where
  abbrev q : Port
  q = edge_counted p level

  side : Side (suc h) h q
  side = side_counted h p k.ok.side

  -- a clocked word finds RE and the flags as they were
  basic_ready : Last true p → ready (process_basic q) ≡ ready p
  basic_ready l =
      let f : bit_and (process_basic q).ssr 0x78 ≡ bit_and p.ssr 0x78 = basic_flags h q side l in
      let P : Port → Type 0 = λ (w : Port). w.scr ≡ p.scr in
      let scr : (process_basic q).scr ≡ p.scr = basic_keeps P (free_sender P (λ q t u b s x k. k) (λ q n k. k)) (free_receiver P (λ q x s v n k. k)) q refl in
      ap₂ (λ (a b : Bool). (a && not b) && not (has (process_basic q).ssr 0x40)) (ap (λ (n : ℕ). has n 0x10) scr) (same_flag (process_basic q).ssr p.ssr 0x38 refl f)
      ∙ ap (λ (b : Bool). (has p.scr 0x10 && error_free p) && not b) (same_flag (process_basic q).ssr p.ssr 0x40 refl f)

  pub edge_finishes : (refresh_sync_clock (sync_edge level (process_basic q))).transmitted ≡ tally (finishes level p) p.transmitted
  edge_finishes =
      refresh_keeps (Sent (tally (finishes level p) p.transmitted)) (λ w d b e. e) (sync_edge level (process_basic q))
      (edge_sent level (process_basic q)
      ∙ ap₂ (λ (c : Bool) (n : ℕ). tally (level && c) n) (basic_tail q) (basic_sent q)
      ∙ sent_once p.tx level (suc p.half) p.transmitted)

  pub edge_receives : (refresh_sync_clock (sync_edge level (process_basic q))).received ≡ tally (receives level p) p.received
  edge_receives =
      refresh_keeps (Got (tally (receives level p) p.received)) (λ w d b e. e) (sync_edge level (process_basic q))
      (edge_got level (process_basic q)
      ∙ received_once h p (process_basic q) level k.ok.side.fits (basic_got q) (basic_last h q side) basic_ready)

-- ---- a half
module _ (h : ℕ) (p : Port) (k : Kept h p) (x : external p ≡ false) where
  abbrev now : Port
  now = counted p

  abbrev worked : Port
  worked = process_basic now

  pub half_finishes : (half_step p).transmitted ≡ tally (finishes (rises p) p) p.transmitted
  unfolding advance
  half_finishes =
      ap (λ (w : Port). w.transmitted) (half_in_one h p k x)
      ∙ refresh_keeps (Sent (tally (finishes (rises p) p) p.transmitted)) (λ w d b e. e) (clocked_edge worked)
      (clocked_edge_sent worked
      ∙ ap (λ (r : Bool). tally (r && clocked_tail worked.tx) worked.transmitted) (basic_rising now)
      ∙ ap₂ (λ (c : Bool) (n : ℕ). tally (rises p && c) n) (basic_tail now) (basic_sent now)
      ∙ sent_once p.tx (rises p) (suc p.half) p.transmitted)

  pub half_receives : (half_step p).received ≡ tally (receives (rises p) p) p.received
  unfolding advance
  half_receives =
      ap (λ (w : Port). w.received) (half_in_one h p k x)
      ∙ refresh_keeps (Got (tally (receives (rises p) p) p.received)) (λ w d b e. e) (clocked_edge worked)
      (clocked_edge_got worked
      ∙ ap (λ (r : Bool). tally (r && (last_clocked worked.rx && ready worked)) worked.received) (basic_rising now)
      ∙ received_once h p worked (rises p) k.ok.side.fits (basic_got now) (basic_last h now (side_counted h p k.ok.side)) (basic_ready h p k (not p.high)))
