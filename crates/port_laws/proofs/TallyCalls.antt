-- The two tallies through every call and every list of direct calls: one proof for both.
-- Assumes nothing.
use Rattle.std.specs.Prelude.{is_some}
use mathlib.Core.Path.{◌≡◌, refl, sym, ap, ◌∙◌}
use Prim.Native.Nat.{ℕ, zero, suc, ◌+◌, ◌%◌, ◌<◌}
use native.Mathlib.Omega.{arith}
use mathlib.Core.Bool.{Bool, true, false, cond, not, ◌&&◌}
use mathlib.Core.List.{List, [], ◌∷◌}
use lib.Dec.{eqb, leb, lit<}
use lib.Bits.{bit_and}
use Rattle.frame.specs.Frame.{has, differ, one_if}
use Rattle.port.specs.declared.Port.{Port}
use Rattle.port.specs.Fields.{with_scr, with_input}
use Rattle.port.specs.Baud.{format_of, external, internal, edge_counts}
use Rattle.port.specs.Receiver.{arm_receive}
use Rattle.port.specs.Sender.{try_start}
use Rattle.port.specs.Half.{half_step, halves, uncounted, inside}
use Rattle.port.specs.Registers.{handles, read, scr_tx, write_scr, write_tdr, cleared, status_with, status_write, stored, connect, load_tail, after_store, write}
use Rattle.port.specs.Power.{fresh, reset_registers, reset, with_power, set_power}
use Rattle.port.specs.Input.{receive_input, external_edge, pins_change, input_pins}
use Rattle.port.specs.Valid.{limit, valid}
use Rattle.command.specs.declared.Call.{Call}
use Rattle.command.specs.declared.Call.TheVariants.{Read, Write, Wait, Line, Pins, Power, Inside}
use Rattle.port.specs.Calls.{Answer, after, refuse, bit, called, direct, run}
use Rattle.port_laws.specs.Laws.{wrap, tally, grown, finishes, receives, rises, in_halves, pins_set, in_call, in_calls}
use Rattle.branches.proofs.Branches.{by_cond, both_arms}
use Rattle.port.proofs.CallLaws.{internal_external}
use Rattle.port.proofs.SenderKeeps.{StartClosed, free_start, try_keeps, load_tail_keeps}
use Rattle.port.proofs.ReceiverKeeps.{refresh_keeps, arm_keeps}
use Rattle.port_laws.proofs.KeepHalf.{Kept, kept_half, external_half}
use Rattle.port_laws.proofs.KeepCalls.{pins_set_kept}
use Rattle.port_laws.proofs.KeepValid.{valid_sound}
use Rattle.port_laws.proofs.TallyHalf.{edge_finishes, edge_receives}

-- both tallies are as in p
abbrev Stood : Port → Port → Type 0
Stood p q = (q.received ≡ p.received) × (q.transmitted ≡ p.transmitted)

start_closed : (p : Port) → StartClosed (Stood p)
start_closed p = free_start (Stood p) (λ q t u b s x k. k)

pub pin_receives : (level : Bool) (h : ℕ) (p : Port) → Kept h p → (external_edge level p).received ≡ tally (edge_counts level p && receives level p) p.received
unfolding external_edge
pin_receives level h p k =
    let n : Bool → ℕ = λ (b : Bool). tally (b && receives level p) p.received in
    by_cond (λ (q : Port). q.received ≡ n (edge_counts level p)) (edge_counts level p) _ p (λ e. edge_receives h p k level ∙ sym (ap n e)) (λ e. sym (ap n e))

pub pin_finishes : (level : Bool) (h : ℕ) (p : Port) → Kept h p → (external_edge level p).transmitted ≡ tally (edge_counts level p && finishes level p) p.transmitted
unfolding external_edge
pin_finishes level h p k =
    let n : Bool → ℕ = λ (b : Bool). tally (b && finishes level p) p.transmitted in
    by_cond (λ (q : Port). q.transmitted ≡ n (edge_counts level p)) (edge_counts level p) _ p (λ e. edge_finishes h p k level ∙ sym (ap n e)) (λ e. sym (ap n e))

-- ---- sums, modulo 2 to the 64th
suc_wrap : (x : ℕ) → suc (x % wrap) % wrap ≡ suc x % wrap
suc_wrap x = omega arith

pub grown_wraps : (n t : ℕ) → t < wrap → grown n t ≡ (t + n) % wrap
unfolding grown
grown_wraps zero t h = omega arith
grown_wraps (suc n) t h = ap (λ (x : ℕ). suc x % wrap) (grown_wraps n t h) ∙ suc_wrap (t + n) ∙ ap (λ (x : ℕ). x % wrap) (omega arith)

grown_grown : (k m t : ℕ) → grown m (grown k t) ≡ grown (k + m) t
unfolding grown
grown_grown k zero t = let e : k + 0 ≡ k = omega arith in rw e
grown_grown k (suc m) t =
    let e : k + suc m ≡ suc (k + m) = omega arith in
    ap (λ (x : ℕ). suc x % wrap) (grown_grown k m t) ∙ sym (ap (λ (n : ℕ). grown n t) e)

grown_one : (b : Bool) (t : ℕ) → tally b t ≡ grown (one_if b) t
unfolding grown
grown_one true t = refl
grown_one false t = refl

-- ---- calls that leave both as they were
stored_stood : (a v : ℕ) (p : Port) → Stood p (stored a v p)
unfolding stored write_scr write_tdr status_write status_with
stored_stood a v p =
    arm (eqb a 0xff91) _ _ (refl, refl)
    (arm (eqb a 0xff98) _ _ (refl, refl)
    (arm (eqb a 0xff99) _ _ (refl, refl)
    (arm (eqb a 0xff9a) _ _ (arm (has v 0x10) _ _ scr (scr.0, scr.1))
    (arm (eqb a 0xff9b) _ _ (arm (has p.scr 0x20) _ _ (refl, refl) (refl, refl))
    (arm (eqb a 0xff9c) _ _ (arm (has p.scr 0x20) _ _ (arm (not (has (cleared v p) 0x80) && not (is_some p.holding)) _ _ (refl, refl) (refl, refl)) (refl, refl))
    (arm (eqb a 0xff9d) _ _ (refl, refl)
    (arm (eqb a 0xffa6) _ _ (refl, refl) (refl, refl))))))))
  where
    arm : (b : Bool) (x y : Port) → Stood p x → Stood p y → Stood p (cond b x y)
    arm = both_arms (Stood p)

    scr : Stood p (scr_tx (has p.scr 0x20) v (with_scr p (bit_and v 0xf7)))
    scr = arm (has v 0x20) _ _ (arm (not (has p.scr 0x20) && not (format_of p).synchronous) _ _ (refl, refl) (refl, refl)) (refl, refl)

write_stood : (a v : ℕ) (p : Port) → Stood p (write a v p)
unfolding write after_store connect
write_stood a v p =
    let q : Port = connect (external p) (stored a v p) in
    let k : Stood p (stored a v p) = stored_stood a v p in
    let kq : Stood p q = both_arms (Stood p) (not (external p) && external (stored a v p)) _ (stored a v p) (k.0, k.1) k in
    let c : StartClosed (Stood p) = start_closed p in
    both_arms (Stood p) (p.«module» && not p.reset_mode) _ p
    (refresh_keeps (Stood p) (λ w d b k. k) (arm_receive (try_start (load_tail q)))
    (arm_keeps (Stood p) (λ w x k. k) (try_start (load_tail q)) (try_keeps (Stood p) c (load_tail q) (load_tail_keeps (Stood p) c q kq))))
    (refl, refl)

line_stood : (b : Bool) (p : Port) → Stood p (receive_input b p)
unfolding receive_input
line_stood b p = both_arms (Stood p) (differ b p.input) _ p (arm_keeps (Stood p) (λ w x k. k) (with_input p b) (refl, refl)) (refl, refl)

power_stood : (a b c d : Bool) (p : Port) → Stood p (set_power a b c d p)
unfolding set_power reset reset_registers fresh
power_stood a b c d p =
    refresh_keeps (Stood p) (λ w x y k. k) (with_power (reset a d p) a b c d)
    (both_arms (λ (w : Port). Stood p (with_power w a b c d)) (not a && p.«module») (reset_registers 0xc0 p) _ (refl, refl)
    (both_arms (λ (w : Port). Stood p (with_power w a b c d)) (d && not p.reset_mode) (reset_registers p.spcr p) p (refl, refl) (refl, refl)))

read_stood : (a : ℕ) (p : Port) → Stood p (read a p)
unfolding read
read_stood a p = both_arms (Stood p) (eqb a 0xff9c) _ _ (refl, refl) (both_arms (Stood p) (eqb a 0xff9d) _ p (refl, refl) (refl, refl))

uncounted_stood : (n : ℕ) (p : Port) → Stood p (uncounted n p)
uncounted_stood zero p = (refl, refl)
uncounted_stood (suc n) p = (refl, refl)

-- ---- every call, for either tally: `field` Read it, and `f` says when a half or an edge counts
module _ (field : Port → ℕ) (f : Bool → Port → Bool) (stands : (p q : Port) → Stood p q → field q ≡ field p)
    (half : (h : ℕ) (p : Port) → Kept h p → external p ≡ false → field (half_step p) ≡ tally (f (rises p) p) (field p))
    (edge : (level : Bool) (h : ℕ) (p : Port) → Kept h p → field (external_edge level p) ≡ tally (edge_counts level p && f level p) (field p)) where
  halves_count : (n h : ℕ) (p : Port) → Kept h p → external p ≡ false → field (halves n p) ≡ grown (in_halves f n p) (field p)
  unfolding halves in_halves grown
  halves_count zero h p k x = refl
  halves_count (suc n) h p k x =
      halves_count n (suc h) (half_step p) (kept_half h p k x) (external_half p x)
      ∙ ap (grown (in_halves f n (half_step p))) (half h p k x ∙ grown_one (f (rises p) p) (field p))
      ∙ grown_grown (one_if (f (rises p) p)) (in_halves f n (half_step p)) (field p)

  -- both pins: at most one edge
  pins_count : (clock line : Bool) (h : ℕ) (p : Port) → Kept h p → let w = pins_set clock line p in
      field (input_pins clock line p) ≡ grown (one_if (pins_change clock line p && (edge_counts clock w && f clock w))) (field p)
  unfolding input_pins grown
  pins_count clock line h p k =
      let w : Port = pins_set clock line p in
      let b : Bool = edge_counts clock w && f clock w in
      let n : Bool → ℕ = λ (c : Bool). grown (one_if (c && b)) (field p) in
      let s : Stood p (receive_input line p) = line_stood line p in
      by_cond (λ (q : Port). field q ≡ n (pins_change clock line p)) (pins_change clock line p) _ p
      (λ e. edge clock h w (pins_set_kept clock line h p k) ∙ ap (tally b) (stands p w (s.0, s.1)) ∙ grown_one b (field p) ∙ sym (ap n e)) (λ e. sym (ap n e))

  -- an answer to the call c on the port p counts as the law says
  abbrev Counts : Call → Port → Answer → Type 0
  Counts c p r = field (after r) ≡ grown (in_call f c r p) (field p)

  called_counts : (c : Call) (p : Port) → Kept p.half p → Counts c p (called c p)
  unfolding called grown
  called_counts (Read a) p k =
      let C : Answer → Type 0 = Counts (Read a) p in
      both_arms C (leb a 65535) _ _ (both_arms C (handles a) _ _ (stands p (read a p) (read_stood a p)) refl) refl
  called_counts (Write a v) p k =
      let C : Answer → Type 0 = Counts (Write a v) p in
      both_arms C (leb a 65535 && leb v 255) _ _
      (both_arms C (handles a) _ _ (both_arms C (eqb a 0xffa7 && leb 128 v) _ _ refl (stands p (write a v p) (write_stood a v p))) refl) refl
  called_counts (Wait n) p k =
      let C : Answer → Type 0 = Counts (Wait n) p in
      let e : Bool → ℕ = λ (b : Bool). grown (cond b (in_halves f n p) 0) (field p) in
      both_arms C (leb n 65535) _ _
      (by_cond C (internal p) _ _ (λ i. both_arms C (leb (p.half + n) limit) _ _ (halves_count n p.half p k (internal_external p i) ∙ sym (ap e i)) refl) (λ i. stands p (uncounted n p) (uncounted_stood n p) ∙ sym (ap e i)))
      refl
  called_counts (Line line) p k = both_arms (Counts (Line line) p) (leb line 1) _ _ (stands p (receive_input (bit line) p) (line_stood (bit line) p)) refl
  called_counts (Pins clock line) p k =
      let C : Answer → Type 0 = Counts (Pins clock line) p in
      both_arms C (leb clock 1 && leb line 1) _ _
      (both_arms C (pins_change (bit clock) (bit line) p && (edge_counts (bit clock) p && leb limit p.half)) _ _ refl (pins_count (bit clock) (bit line) p.half p k)) refl
  called_counts (Power b) p k =
      both_arms (Counts (Power b) p) (leb b 15) _ _ (stands p (set_power (has b 1) (has b 2) (has b 4) (has b 8) p) (power_stood (has b 1) (has b 2) (has b 4) (has b 8) p)) refl
  called_counts Inside p k = stands p (inside p) (refl, refl)

  pub direct_counts : (c : Call) (p : Port) → Counts c p (direct c p)
  unfolding direct grown
  direct_counts c p = by_cond (Counts c p) (valid p) (called c p) (refuse 8 p) (λ e. called_counts c p (valid_sound p e).kept) (λ e. refl)

  pub run_counts : (cs : List Call) (p : Port) → field (run p cs) ≡ grown (in_calls f p cs) (field p)
  unfolding run in_calls grown
  run_counts [] p = refl
  run_counts (c ∷ cs) p =
      let q : Port = after (direct c p) in
      run_counts cs q ∙ ap (grown (in_calls f q cs)) (direct_counts c p) ∙ grown_grown (in_call f c (direct c p) p) (in_calls f q cs) (field p)

-- a fresh port's tallies are 0
pub from_zero : (n : ℕ) → grown n 0 ≡ n % wrap
from_zero n = let e : 0 + n ≡ n = omega arith in grown_wraps n 0 (lit< tt) ∙ ap (λ (x : ℕ). x % wrap) e
