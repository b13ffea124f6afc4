-- A half of the internal clock does its basic work once: what `sync` does on the way to `advance` is what `advance` does anyway.
-- Nothing is claimed of the external clock; no half passes there.
-- Assumes nothing.
use Rattle.std.specs.Option.{option_or}
use Rattle.std.specs.Prelude.{Option, None, Some, is_none, is_some}
use Rattle.std.proofs.Common.{◌≡◌, ℕ, zero, suc, ◌+◌, ◌*◌, ◌<◌, ◌≤◌, Bool, true, false, cond, not, ◌&&◌, ◌||◌, eqb, ltb, ℤ, pos, negsuc, sym, refl, ap, ◌∙◌, ap₂, true≢false, arith, ne_eqb}
use mathlib.Core.Bool.{false≢true}
use Rattle.frame.specs.declared.Format.{Format}
use Rattle.frame.specs.Frame.{has, stop}
use Rattle.branches.proofs.Branches.{by_cond, both_arms, cond_true, cond_false, or_left, or_right}
use Rattle.frame.proofs.Truth.{and_left, and_right}
use Rattle.shift.specs.declared.Character.{Character}
use Rattle.shift.specs.declared.Tx.{Tx}
use Rattle.shift.specs.declared.Tx.TheVariants.{Off, Blocked, Mark, Start, Data, Tail}
use Rattle.shift.specs.declared.Rx.{Rx}
use Rattle.shift.specs.declared.Sampled.{Sampled}
use Rattle.shift.specs.declared.Sampled.TheVariants.{Dropped, Onward, Whole}
use Rattle.shift.specs.Due.{due_now}
use Rattle.shift.specs.Sender.{tx_next, tx_clocked}
use Rattle.shift.specs.Receiver.{sample_at, sample, rx_next, rx_clocked, rx_due_on}
use Rattle.shift.specs.Private.Ready.{Bounded, LoadedBounded, Sendable, PlacedIn}
use Rattle.port.specs.declared.Port.{Port}
use Rattle.port.specs.Fields.{with_tx, with_rx, with_sync_next}
use Rattle.port.specs.Baud.{format_of, external, counted, next_fall, boundary}
use Rattle.port.specs.Receiver.{input_level, error_free, arms, arm_receive_on, arm_receive, complete_receive, after_sample, advance_rx_on, advance_rx}
use Rattle.port.specs.Sender.{character, loaded_on, preloaded_on, loaded, preloaded, begin, start_at, start_loaded, try_start_on, try_start, one_sent, finish_tail, next_cell, send_step_on, advance_tx}
use Rattle.port.specs.Clocked.{sync_needed, with_clock, refresh_sync_clock, receive_bit_on, receive_bit, tail_ends_on, tail_ends, shift_out_on, shift_out, sync_edge}
use Rattle.port.specs.Half.{process_basic, sync, clocked_edge, advance, half_step}
use Rattle.port.specs.Private.Skip.{arms_on, clock_fresh}
use Rattle.port.specs.Valid.{limit, valid}
use Rattle.port.specs.Private.Ready.{Ready}
use Rattle.port.proofs.Steps.{product≤}
use Rattle.port.proofs.Keep.{bounded_now, keep_counted, keep_advance_tx, keep_advance_rx, keep_process_basic}
use Rattle.port.proofs.Checked.{valid_ready}
use Rattle.port.proofs.SenderKeeps.{free_sender}
use Rattle.port.proofs.ReceiverKeeps.{free_receiver, refresh_any, arm_keeps, advance_rx_keeps, basic_keeps}

-- ---- a step at a half on which it has nothing to do
pub tx_still : (p : Port) → due_now (tx_next p.tx) p.half ≡ false → advance_tx p ≡ p
unfolding advance_tx
tx_still p h = cond_false (due_now (tx_next p.tx) p.half) _ p h

pub rx_still : (p : Port) → due_now (rx_next p.rx) p.half ≡ false → advance_rx p ≡ p
unfolding advance_rx
rx_still p h = go p.rx h
  where
    go : (x : Option Rx) → due_now (rx_next x) p.half ≡ false → advance_rx_on x p ≡ p
    go None e = refl
    go (Some r) e = cond_false (due_now r.next p.half) _ p e

pub arm_still : (p : Port) → arms_on p.rx p ≡ false → arm_receive p ≡ p
unfolding arm_receive
arm_still p h = go p.rx h
  where
    go : (x : Option Rx) → arms_on x p ≡ false → arm_receive_on x p ≡ p
    go None e = cond_false (arms p) _ p e
    go (Some r) e = refl

pub basic_still : (p : Port) → due_now (tx_next p.tx) p.half ≡ false → due_now (rx_next p.rx) p.half ≡ false → arms_on p.rx p ≡ false → process_basic p ≡ p
unfolding process_basic
basic_still p t r a =
    ap (λ (q : Port). arm_receive (advance_rx q)) (tx_still p t) ∙ ap arm_receive (rx_still p r) ∙ arm_still p a

pub edge_still : (p : Port) → due_now p.sync_next p.half ≡ false → clocked_edge p ≡ p
unfolding clocked_edge
edge_still p h = cond_false (due_now p.sync_next p.half) _ p h

absent_never : (d : Option ℕ) → is_none d ≡ true → d ≡ None
absent_never None e = refl
absent_never (Some n) e = absurd (false≢true e)

present : (d : Option ℕ) (n : ℕ) → not (is_none d) ≡ true → option_or d (Some n) ≡ d
present None n e = absurd (false≢true e)
present (Some m) n e = refl

pub refresh_still : (p : Port) → external p ≡ false → clock_fresh p ≡ true → refresh_sync_clock p ≡ p
unfolding refresh_sync_clock clock_fresh
refresh_still p x f = cond_false (external p) _ _ x ∙ go (sync_needed p) f
  where
    go : (b : Bool) → cond b (not (is_none p.sync_next)) (is_none p.sync_next && p.sck) ≡ true → cond b (with_sync_next p (option_or p.sync_next (Some (p.half + 2)))) (with_clock p None true) ≡ p
    go true e = ap (with_sync_next p) (present p.sync_next (p.half + 2) e)
    go false e =
        let a : Bool = is_none p.sync_next in
        ap₂ (with_clock p) (sym (absent_never p.sync_next (and_left a p.sck e))) (sym (and_right a p.sck e))

-- ---- after the sender's step it is not due again at this half
abbrev pub Sent : ℕ → Port → Type 0
Sent h q = due_now (tx_next q.tx) h ≡ false

ahead : (h k : ℕ) → 1 ≤ k → eqb (h + k) h ≡ false
ahead h k l = ne_eqb (h + k) h (omega (arith, l))

begin_sent : (p : Port) (ch : Character) → Bounded ch.format → Sent p.half (begin p ch)
unfolding begin
begin_sent p ch b =
    both_arms (Sent p.half) ch.format.synchronous _ _ refl (ahead p.half ch.format.half_bit (omega (arith, b.half≥16)))

start_sent : (l : Option Character) (p : Port) → LoadedBounded l → Sent p.half p → Sent p.half (start_loaded l p)
unfolding start_at
start_sent None p b k = k
start_sent (Some ch) p b k =
    both_arms (Sent p.half) ch.format.synchronous _ _ (begin_sent p ch b)
    (by_cond (Sent p.half) (eqb (boundary p ch.format.half_bit) p.half) _ _ (λ e. begin_sent p ch b) (λ e. e))

try_sent : (p : Port) → Sendable p.tx → Sent p.half p → Sent p.half (try_start p)
unfolding try_start loaded preloaded
try_sent p s k = go p.tx s
  where
    held : (x : Option ℕ) → Sent p.half (start_loaded (loaded_on x p) (preloaded_on x p))
    held None = k
    held (Some v) = start_sent (Some (character p v)) (preloaded_on (Some v) p) (bounded_now p) k

    go : (t : Tx) → Sendable t → Sent p.half (try_start_on t p)
    go Off s =
        both_arms (Sent p.half) (has p.scr 0x20 && (is_some p.holding && (not (format_of p).synchronous || error_free p))) _ _ (held p.holding) k
    go (Blocked ch) s = both_arms (Sent p.half) (error_free p) _ _ (begin_sent p ch s) k
    go (Mark next) s = k
    go (Start ch next) s = k
    go (Data ch cell next) s = k
    go (Tail l next) s = k

finish_sent : (l : Option Character) (p : Port) → LoadedBounded l → Sent p.half (finish_tail l p)
finish_sent None p b = try_sent (one_sent p) tt refl
finish_sent (Some ch) p b =
    both_arms (Sent p.half) (ch.format.synchronous && not (error_free p)) _ _ refl (begin_sent (one_sent p) ch b)

cell_sent : (ch : Character) (cell : ℕ) (p : Port) → Bounded ch.format → Sent p.half (next_cell ch cell p)
unfolding next_cell
cell_sent ch cell p b =
    let n : ℕ = ch.format.stops * ch.format.half_bit in
    let m : 1 * 16 ≤ n = product≤ 1 16 ch.format.stops ch.format.half_bit b.stops≥1 b.half≥16 in
    both_arms (Sent p.half) (eqb cell (stop ch.format)) _ _ (ahead p.half n (omega (arith, m)))
    (ahead p.half ch.format.half_bit (omega (arith, b.half≥16)))

module _ {n : ℕ} {p : Port} (r : Ready n p) where
  step_sent : Sent p.half (advance_tx p)
  unfolding advance_tx
  step_sent = by_cond (Sent p.half) (due_now (tx_next p.tx) p.half) _ _ (λ e. go p.tx r.sendable e) (λ e. e)
    where
      go : (t : Tx) → Sendable t → due_now (tx_next t) p.half ≡ true → Sent p.half (send_step_on t p)
      go Off s e = absurd (false≢true e)
      go (Blocked ch) s e = absurd (false≢true e)
      go (Mark next) s e = try_sent (with_tx p Off) tt refl
      go (Start ch next) s e = begin_sent p ch s
      go (Data ch cell next) s e = cell_sent ch (suc cell) p s.0
      go (Tail l next) s e = finish_sent l p s

-- ---- nor is the receiver
abbrev pub Taken : ℕ → Port → Type 0
Taken h q = due_now (rx_next q.rx) h ≡ false

abbrev TakenBy : ℕ → Sampled → Type 0
TakenBy h Dropped = Unit
TakenBy h (Onward r) = due_now r.next h ≡ false
TakenBy h (Whole r) = Unit

sample_taken : (z : ℤ) (now : Format) (high : Bool) (h : ℕ) (r : Rx) → Bounded now → Bounded r.format → TakenBy h (sample_at z now high h r)
unfolding sample_at
sample_taken (negsuc (suc (suc n))) now high h r b f = tt
sample_taken (negsuc (suc zero)) now high h r b f =
    both_arms (TakenBy h) (high || now.synchronous) _ _ tt (ne_eqb _ h (omega (arith, b.half≥16)))
sample_taken (negsuc zero) now high h r b f =
    both_arms (TakenBy h) high _ _ tt (ahead h r.format.half_bit (omega (arith, f.half≥16)))
sample_taken (pos j) now high h r b f =
    let next = ahead h r.format.half_bit (omega (arith, f.half≥16)) in
    both_arms (TakenBy h) (ltb j r.format.«data») _ _ next
    (both_arms (TakenBy h) (eqb j r.format.«data» && r.format.parity) _ _ next tt)

complete_taken : (p : Port) (r : Rx) → Taken p.half (complete_receive (with_rx p None) r)
unfolding complete_receive
complete_taken p r =
    both_arms (Taken p.half) (has p.ssr 0x40) _ _ refl (both_arms (Taken p.half) (eqb r.error 0) _ _ refl refl)

after_taken : (o : Sampled) (p : Port) → TakenBy p.half o → Taken p.half (after_sample o p)
after_taken Dropped p k = refl
after_taken (Onward r) p k = k
after_taken (Whole r) p k = complete_taken p r

module _ {n : ℕ} {p : Port} (r : Ready n p) where
  step_taken : Taken p.half (advance_rx p)
  unfolding advance_rx
  step_taken = go p.rx refl r.placed
    where
      go : (x : Option Rx) → p.rx ≡ x → PlacedIn x → Taken p.half (advance_rx_on x p)
      go None e h = ap (λ (y : Option Rx). due_now (rx_next y) p.half) e
      go (Some x) e h =
          by_cond (Taken p.half) (due_now x.next p.half) _ _
          (λ d. after_taken (sample (format_of p) (input_level p) p.half x) p (sample_taken x.position (format_of p) (input_level p) p.half x (bounded_now p) h.bounded))
          (λ d. ap (λ (y : Option Rx). due_now (rx_next y) p.half) e ∙ d)

-- ---- a word that begins waits for a later half, and none is left to begin
fall_ahead : (p : Port) → eqb (next_fall p) p.half ≡ false
fall_ahead p =
    both_arms (λ (n : ℕ). eqb n p.half ≡ false) p.high _ _ (ne_eqb _ p.half (omega arith)) (ne_eqb _ p.half (omega arith))

arm_taken : (p : Port) → Taken p.half p → Taken p.half (arm_receive p)
unfolding arm_receive
arm_taken p k = go p.rx
  where
    go : (x : Option Rx) → Taken p.half (arm_receive_on x p)
    go None = both_arms (Taken p.half) (arms p) _ _ (fall_ahead p) k
    go (Some r) = k

pub arm_done : (p : Port) → arms_on (arm_receive p).rx (arm_receive p) ≡ false
unfolding arm_receive
arm_done p = go p.rx refl
  where
    Disarmed : Port → Type 0
    Disarmed q = arms_on q.rx q ≡ false

    go : (x : Option Rx) → p.rx ≡ x → Disarmed (arm_receive_on x p)
    go None e = by_cond Disarmed (arms p) _ _ (λ a. refl) (λ a. ap (λ (y : Option Rx). arms_on y p) e ∙ a)
    go (Some r) e = ap (λ (y : Option Rx). arms_on y p) e

-- ---- so after the basic work neither is due
module _ {n : ℕ} {p : Port} (r : Ready n p) where
  same_half : (q : Port) → Ready n q → p.half ≡ q.half
  same_half q k = r.half≡ ∙ sym k.half≡

  pub basic_sent : Sent (process_basic p).half (process_basic p)
  unfolding process_basic
  basic_sent =
      let P : Port → Type 0 = Sent p.half in
      let w : Port = advance_rx (advance_tx p) in
      let k : P w = advance_rx_keeps P (free_receiver P (λ q x s v n k. k)) (advance_tx p) (step_sent r) in
      ap (λ (h : ℕ). due_now (tx_next (process_basic p).tx) h) (sym (same_half (process_basic p) (keep_process_basic r))) ∙ arm_keeps P (λ q x k. k) w k

  pub basic_taken : Taken (process_basic p).half (process_basic p)
  unfolding process_basic
  basic_taken =
      let t : Port = advance_tx p in
      let w : Port = advance_rx t in
      let kt : Ready n t = keep_advance_tx r in
      let k : Taken w.half w = ap (λ (h : ℕ). due_now (rx_next w.rx) h) ((keep_advance_rx kt).half≡ ∙ sym kt.half≡) ∙ step_taken kt in
      ap (λ (h : ℕ). due_now (rx_next (process_basic p).rx) h) ((keep_process_basic r).half≡ ∙ sym (keep_advance_rx kt).half≡) ∙ arm_taken w k

-- ---- the clock of clocked form, planned twice
-- an edge of it does nothing where nothing needs it
idle_edge : (b : Bool) (p : Port) → sync_needed p ≡ false → sync_edge b p ≡ p
unfolding sync_edge receive_bit tail_ends shift_out
idle_edge b p e = go b
  where
    sends : tx_clocked p.tx ≡ false
    sends = or_left (tx_clocked p.tx) _ e

    shifts : (t : Tx) → tx_clocked t ≡ false → shift_out_on t p ≡ p
    shifts Off c = refl
    shifts (Blocked ch) c = refl
    shifts (Mark n) c = refl
    shifts (Start ch n) c = refl
    shifts (Data ch cell None) c = absurd (true≢false c)
    shifts (Data ch cell (Some n)) c = refl
    shifts (Tail l next) c = refl

    ends : (t : Tx) → tx_clocked t ≡ false → tail_ends_on t p ≡ p
    ends Off c = refl
    ends (Blocked ch) c = refl
    ends (Mark n) c = refl
    ends (Start ch n) c = refl
    ends (Data ch cell next) c = refl
    ends (Tail l None) c = absurd (true≢false c)
    ends (Tail l (Some n)) c = refl

    takes : (x : Option Rx) → ((format_of p).synchronous || rx_clocked x) ≡ false → receive_bit_on x p ≡ p
    takes None c = cond_false (format_of p).synchronous _ p (or_left (format_of p).synchronous false c)
    takes (Some r) c = cond_false r.format.synchronous _ p (or_right (format_of p).synchronous r.format.synchronous c)

    receives : (a f : Bool) → (a && (f && ((format_of p).synchronous || rx_clocked p.rx))) ≡ false → cond (a && f) (receive_bit_on p.rx p) p ≡ p
    receives true true c = takes p.rx c
    receives true false c = refl
    receives false f c = refl

    go : (b : Bool) → cond b (tail_ends_on (receive_bit p).tx (receive_bit p)) (shift_out_on p.tx p) ≡ p
    go true =
        let k = receives (has p.scr 0x10) (error_free p) (or_right (tx_clocked p.tx) _ e) in
        ap (λ (q : Port). tail_ends_on q.tx q) k ∙ ends p.tx sends
    go false = shifts p.tx sends

pub refresh_needed : (p : Port) → external p ≡ false → sync_needed p ≡ true → refresh_sync_clock p ≡ with_sync_next p (option_or p.sync_next (Some (p.half + 2)))
unfolding refresh_sync_clock
refresh_needed p x e = cond_false (external p) _ _ x ∙ cond_true (sync_needed p) _ _ e

pub refresh_idle : (p : Port) → external p ≡ false → sync_needed p ≡ false → refresh_sync_clock p ≡ with_clock p None true
unfolding refresh_sync_clock
refresh_idle p x e = cond_false (external p) _ _ x ∙ cond_false (sync_needed p) _ _ e

edge_idle : (p : Port) → external p ≡ false → sync_needed p ≡ false → refresh_sync_clock (clocked_edge p) ≡ with_clock p None true
unfolding clocked_edge
edge_idle p x e =
    let c : Port = with_clock p None (not p.sck) in
    by_cond (λ (w : Port). refresh_sync_clock w ≡ with_clock p None true) (due_now p.sync_next p.half) _ p
    (λ d. ap refresh_sync_clock (idle_edge (not p.sck) c e) ∙ refresh_idle c x e) (λ d. refresh_idle p x e)

-- a refresh before the edge adds nothing to the one after it
planned_once : (p : Port) → external p ≡ false → refresh_sync_clock (clocked_edge (refresh_sync_clock p)) ≡ refresh_sync_clock (clocked_edge p)
planned_once p x = go (sync_needed p) refl
  where
    both : Port → Port
    both q = refresh_sync_clock (clocked_edge q)

    Same : Type 0
    Same = both (refresh_sync_clock p) ≡ both p

    on : (d : Option ℕ) → p.sync_next ≡ d → sync_needed p ≡ true → Same
    on (Some m) d e =
        ap both (refresh_needed p x e ∙ ap (with_sync_next p) (ap (λ (y : Option ℕ). option_or y (Some (p.half + 2))) d ∙ sym d))
    on None d e =
        let q : Port = with_sync_next p (Some (p.half + 2)) in
        let f : refresh_sync_clock p ≡ q = refresh_needed p x e ∙ ap (λ (y : Option ℕ). with_sync_next p (option_or y (Some (p.half + 2)))) d in
        ap both f ∙ ap refresh_sync_clock (edge_still q (ne_eqb (p.half + 2) p.half (omega arith))) ∙ refresh_needed q x e ∙ sym f
        ∙ ap refresh_sync_clock (sym (edge_still p (ap (λ (y : Option ℕ). due_now y p.half) d)))

    go : (b : Bool) → sync_needed p ≡ b → Same
    go true e = on p.sync_next refl e
    go false e =
        let q : Port = with_clock p None true in
        ap both (refresh_idle p x e) ∙ ap refresh_sync_clock (edge_still q refl) ∙ refresh_idle q x e ∙ sym (edge_idle p x e)

-- ---- a half's work, in one pass, where after the basic work neither sender nor receiver is due
arms_clock : (x : Option Rx) (p : Port) (d : Option ℕ) (b : Bool) → arms_on x (with_clock p d b) ≡ arms_on x p
arms_clock None p d b = refl
arms_clock (Some r) p d b = refl

basic_armed : (p : Port) → arms_on (process_basic p).rx (process_basic p) ≡ false
unfolding process_basic
basic_armed p = arm_done (advance_rx (advance_tx p))

module _ (p : Port) (sent : Sent (process_basic p).half (process_basic p)) (taken : Taken (process_basic p).half (process_basic p)) where
  -- the basic work changes nothing more, whatever the clock of clocked form
  pub basic_again : (d : Option ℕ) (b : Bool) → process_basic (with_clock (process_basic p) d b) ≡ with_clock (process_basic p) d b
  basic_again d b = basic_still (with_clock (process_basic p) d b) sent taken (arms_clock (process_basic p).rx (process_basic p) d b ∙ basic_armed p)

  pub one_pass : external p ≡ false → advance (sync p) ≡ advance p
  unfolding advance sync
  one_pass x =
      let b : Port = process_basic p in
      let P : Port → Type 0 = λ (q : Port). external q ≡ false in
      let y : P b = basic_keeps P (free_sender P (λ q t u b s x k. k) (λ q n k. k)) (free_receiver P (λ q x s v n k. k)) p x in
      by_cond (λ (q : Port). refresh_sync_clock (clocked_edge (process_basic q)) ≡ refresh_sync_clock (clocked_edge b)) (rx_due_on p.rx p.half) _ p
      (λ d. ap (λ (q : Port). refresh_sync_clock (clocked_edge q)) (refresh_any (λ (q : Port). process_basic q ≡ q) b basic_again) ∙ planned_once b y)
      (λ d. refl)

pub half_once : {n : ℕ} {p : Port} → Ready n p → n < limit → external p ≡ false → half_step p ≡ advance (counted p)
unfolding half_step
half_once {p = p} r h x = let k = keep_counted r h in one_pass (counted p) (basic_sent k) (basic_taken k) x

-- of every port that passes the field test
pub valid_once : (p : Port) → valid p ≡ true → p.half < limit → external p ≡ false → half_step p ≡ advance (counted p)
valid_once p v h x = half_once (valid_ready p v) h x
