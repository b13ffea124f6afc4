-- The steps keep a port ready: its half count within the limit, a received word in its place, formats and a sent word's cell within the frame's bounds.
-- A law `keep-f` is about the step f at a half n; `f-ready` about a call's result, known by the equation that its contract gives.
-- Assumes nothing.
use Rattle.std.specs.Prelude.{Option, None, Some, is_some}
use Rattle.std.proofs.Common.{◌≡◌, ℕ, zero, suc, ◌+◌, ◌*◌, ◌<◌, ◌≤◌, Bool, true, false, cond, not, ◌&&◌, ◌||◌, eqb, ltb, leb, ℤ, pos, negsuc, sym, refl, ap, ◌∙◌, subst, zero-le, arith, lit≤, rules, ltb-true, eqb-true, le-leb, leb-true}
use mathlib.Core.Path.{subst⁻¹}
use mathlib.Core.Bool.{false≢true}
use borrow.Author.Tests.{eqb-false, not-true}
use lib.Arith.{lt_of_le-ne}
use Rattle.frame.specs.declared.Format.{Format}
use Rattle.frame.specs.Frame.{has, differ, stop, one_if}
use Rattle.frame.proofs.Truth.{and_left, and_right}
use Rattle.branches.proofs.Branches.{by_cond, both_arms, or_right}
use Rattle.frame.proofs.Words.{format_good}
use Rattle.port.specs.declared.Port.{Port}
use Rattle.shift.specs.declared.Character.{Character}
use Rattle.shift.specs.declared.Rx.{Rx}
use Rattle.shift.specs.declared.Sampled.{Sampled}
use Rattle.shift.specs.declared.Sampled.TheVariants.{Dropped, Onward, Whole}
use Rattle.shift.specs.declared.Tx.{Tx}
use Rattle.shift.specs.declared.Tx.TheVariants.{Off, Blocked, Mark, Start, Data, Tail}
use Rattle.port.specs.Fields.{with_tx, with_rx, with_input}
use Rattle.port.specs.Baud.{format_of, counted, edge_counted, next_fall, boundary}
use Rattle.shift.specs.Receiver.{next_position, armed, sample_at, sample, last_bit, bit_taken, clocked_word}
use Rattle.shift.specs.Due.{due_now}
use Rattle.port.specs.Receiver.{input_level, error_free, arms, arm_receive_on, arm_receive, complete_receive, after_sample, advance_rx_on, advance_rx}
use Rattle.shift.specs.Sender.{level, tx_next}
use Rattle.port.specs.Sender.{loaded_on, preloaded_on, loaded, preloaded, drive, begin, start_at, start_loaded, try_start_on, try_start, one_sent, finish_tail, tailed, next_cell, send_step_on, advance_tx}
use Rattle.port.specs.Clocked.{with_clock, refresh_sync_clock, take_bit, receive_bit_on, receive_bit, tail_ends_on, tail_ends, bit_out, shift_out_on, shift_out, sync_edge}
use Rattle.port.specs.Half.{process_basic, clocked_edge}
use Rattle.port.specs.Registers.{scr_tx, scr_rx, write_scr, write_tdr, status_with, status_write, stored, connect, load_tail_on, load_tail}
use Rattle.port.specs.Power.{fresh, reset_registers, reset, with_power}
use Rattle.port.specs.Input.{receive_input}
use Rattle.shift.specs.Valid.{position_valid}
use Rattle.port.specs.Valid.{limit}
use Rattle.shift.specs.Private.Ready.{Bounded, Plain, Placed, PlacedIn, LoadedBounded, Sendable}
use Rattle.port.specs.Private.Ready.{Ready}
use Rattle.port.proofs.Steps.{valid_bounded}

-- the same as a rule for `search`, which then builds the record of each result
keep_cond : (n : ℕ) (b : Bool) (x y : Port) → Ready n x → Ready n y → Ready n (cond b x y)
keep_cond n b x y h k = both_arms (Ready n) b _ _ h k

-- registers give no format out of bounds
pub bounded_now : (p : Port) → Bounded (format_of p)
bounded_now p = valid_bounded (format_of p) (format_good p.smr p.semr)

-- ---- the parts
module _ {n : ℕ} {p : Port} (r : Ready n p) where
  pub keep_tx : (t : Tx) → Sendable t → Ready n (with_tx p t)
  keep_tx t s = record { half≡ = r.half≡; half≤ = r.half≤; placed = r.placed; sendable = s }

  pub keep_rx : (x : Option Rx) → PlacedIn x → Ready n (with_rx p x)
  keep_rx x s = record { half≡ = r.half≡; half≤ = r.half≤; placed = s; sendable = r.sendable }

  -- a port with the same half count, receiver and sender
  pub keep_same : (q : Port) → q.half ≡ p.half → q.rx ≡ p.rx → q.tx ≡ p.tx → Ready n q
  keep_same q h x t =
      record {
        half≡ = h ∙ r.half≡;
        half≤ = subst⁻¹ (λ (m : ℕ). m ≤ limit) h r.half≤;
        placed = subst⁻¹ PlacedIn x r.placed;
        sendable = subst⁻¹ Sendable t r.sendable;
      }

  pub keep_drive : (high : Bool) → Ready n (drive p high)
  keep_drive high = keep_same (drive p high) refl refl refl

  pub keep_sent : Ready n (one_sent p)
  keep_sent = record { half≡ = r.half≡; half≤ = r.half≤; placed = r.placed; sendable = tt }

  pub keep_preloaded : Ready n (preloaded p)
  unfolding preloaded
  keep_preloaded = go p.holding where
    go : (h : Option ℕ) → Ready n (preloaded_on h p)
    go None = keep_same _ refl refl refl
    go (Some v) = keep_same _ refl refl refl

pub loaded_bounded : (p : Port) → LoadedBounded (loaded p)
unfolding loaded
loaded_bounded p = go p.holding where
  go : (h : Option ℕ) → LoadedBounded (loaded_on h p)
  go None = tt
  go (Some v) = bounded_now p

-- ---- the sender
module _ {n : ℕ} {p : Port} (r : Ready n p) where
  pub keep_begin : (k : Character) → Bounded k.format → Ready n (begin p k)
  unfolding begin
  keep_begin k f =
      both_arms (Ready n) k.format.synchronous _ _ (keep_tx r (Data k 0 None) (f, lit≤ tt))
      (keep_tx (keep_drive r (level k 0)) (Data k 0 (Some (p.half + k.format.half_bit))) (f, omega arith))

  pub keep_start_at : (k : Character) (next : ℕ) → Bounded k.format → Ready n (start_at p k next)
  unfolding start_at
  keep_start_at k next f = both_arms (Ready n) (eqb next p.half) _ _ (keep_begin k f) (keep_tx r (Start k next) f)

  pub keep_start_loaded : (l : Option Character) → LoadedBounded l → Ready n (start_loaded l p)
  keep_start_loaded None f = r
  keep_start_loaded (Some k) f =
      both_arms (Ready n) k.format.synchronous _ _ (keep_begin k f) (keep_start_at k (boundary p k.format.half_bit) f)

  -- a word's last cells, with whatever the holding place has
  pub keep_tailed : (next : Option ℕ) → Ready n (tailed p next)
  keep_tailed next = keep_tx (keep_preloaded r) (Tail (loaded p) next) (loaded_bounded p)

module _ {n : ℕ} {p : Port} (r : Ready n p) where
  pub keep_try_start : Ready n (try_start p)
  unfolding try_start
  keep_try_start = go p.tx r.sendable where
    go : (t : Tx) → Sendable t → Ready n (try_start_on t p)
    go Off s =
        both_arms (Ready n) (has p.scr 0x20 && (is_some p.holding && (not (format_of p).synchronous || error_free p))) _ _
        (keep_start_loaded (keep_preloaded r) (loaded p) (loaded_bounded p)) r
    go (Blocked k) s = both_arms (Ready n) (error_free p) _ _ (keep_begin r k s) r
    go (Mark next) s = r
    go (Start k next) s = r
    go (Data k cell next) s = r
    go (Tail l next) s = r

  -- the cell after one below the stop cell: the stop cell, or below it
  pub keep_next_cell : (k : Character) (cell : ℕ) → Bounded k.format → cell ≤ stop k.format → Ready n (next_cell k cell p)
  unfolding next_cell
  keep_next_cell k cell f h =
      by_cond (Ready n) (eqb cell (stop k.format)) _ _
      (λ _. keep_tailed (keep_drive r (level k cell)) (Some (p.half + k.format.stops * k.format.half_bit)))
      (λ e. keep_tx (keep_drive r (level k cell)) (Data k cell (Some (p.half + k.format.half_bit)))
      (f, lt_of_le-ne h (eqb-false cell (stop k.format) e)))

module _ {n : ℕ} {p : Port} (r : Ready n p) where
  pub keep_finish_tail : (l : Option Character) → LoadedBounded l → Ready n (finish_tail l p)
  keep_finish_tail None f = keep_try_start (keep_sent r)
  keep_finish_tail (Some k) f =
      both_arms (Ready n) (k.format.synchronous && not (error_free p)) _ _ (keep_tx (keep_sent r) (Blocked k) f) (keep_begin (keep_sent r) k f)

  -- due: so a word in data is a start-stop one, below its stop cell
  keep_due : (t : Tx) → Sendable t → due_now (tx_next t) p.half ≡ true → Ready n (send_step_on t p)
  keep_due Off s e = r
  keep_due (Blocked k) s e = r
  keep_due (Mark next) s e = keep_try_start (keep_tx r Off tt)
  keep_due (Start k next) s e = keep_begin r k s
  keep_due (Data k cell None) s e = absurd (false≢true e)
  keep_due (Data k cell (Some m)) s e = keep_next_cell r k (suc cell) s.0 s.1
  keep_due (Tail l next) s e = keep_finish_tail l s

  pub keep_send_step : due_now (tx_next p.tx) p.half ≡ true → Ready n (send_step_on p.tx p)
  keep_send_step e = keep_due p.tx r.sendable e

  pub keep_advance_tx : Ready n (advance_tx p)
  unfolding advance_tx
  keep_advance_tx = by_cond (Ready n) (due_now (tx_next p.tx) p.half) _ _ (λ e. keep_send_step e) (λ _. r)

-- ---- the receiver
-- the places from 0 on
place_cell : (f : Format) (j : ℕ) → f.synchronous ≡ false → j ≤ f.«data» + one_if f.parity → position_valid (pos j) f ≡ true
place_cell f j s h =
    ap (λ (b : Bool). leb j (cond b 7 (f.«data» + one_if f.parity))) s ∙ le-leb j (f.«data» + one_if f.parity) h

place_bit : (f : Format) (j : ℕ) → f.synchronous ≡ true → j ≤ 7 → position_valid (pos j) f ≡ true
place_bit f j s h = ap (λ (b : Bool). leb j (cond b 7 (f.«data» + one_if f.parity))) s ∙ le-leb j 7 h

-- the word that a sample leaves in the receiver, if any, is in its place
abbrev pub PlacedBy : Sampled → Type 0
PlacedBy Dropped = Unit
PlacedBy (Onward r) = Placed r
PlacedBy (Whole r) = Unit

sampled_at : (z : ℤ) (now : Format) (high : Bool) (half : ℕ) (r : Rx) → Bounded now → Bounded r.format → r.format.synchronous ≡ false
    → PlacedBy (sample_at z now high half r)
unfolding sample_at
sampled_at (negsuc (suc (suc n))) now high half r b f s = tt
sampled_at (negsuc (suc zero)) now high half r b f s =
    by_cond PlacedBy (high || now.synchronous) _ _ (λ _. tt)
    (λ e. record { bounded = b; place = ap not (or_right high now.synchronous e); plain = or_right high now.synchronous e })
sampled_at (negsuc zero) now high half r b f s =
    both_arms PlacedBy high _ _ tt (record { bounded = f; place = place_cell r.format 0 s zero-le; plain = s })
sampled_at (pos j) now high half r b f s =
    let d : ℕ = r.format.«data» in
    let c : Bool = r.format.parity in
    by_cond PlacedBy (ltb j d) _ _
    (λ e. record { bounded = f; place = place_cell r.format (suc j) s (omega (arith, ltb-true j d e)); plain = s })
    (λ _. by_cond PlacedBy (eqb j d && c) _ _
    (λ e. record {
      bounded = f;
      place = place_cell r.format (suc j) s (omega (arith, eqb-true j d (and_left (eqb j d) c e), ap one_if (and_right (eqb j d) c e)));
      plain = s;
    })
    (λ _. tt))

pub sample_placed : (now : Format) (high : Bool) (half : ℕ) (r : Rx) → Bounded now → Placed r → r.format.synchronous ≡ false
    → PlacedBy (sample now high half r)
sample_placed now high half r b h s = sampled_at r.position now high half r b h.bounded s

module _ {n : ℕ} {p : Port} (r : Ready n p) where
  pub keep_complete_receive : (x : Rx) → Ready n (complete_receive p x)
  unfolding complete_receive
  keep_complete_receive x = search (keep_cond, rules) depth 10

  pub keep_arm_receive : Ready n (arm_receive p)
  unfolding arm_receive
  keep_arm_receive = go p.rx where
    plain : arms p ≡ true → not (format_of p).synchronous ≡ true
    plain e =
        and_left (not (format_of p).synchronous) (not (input_level p))
        (and_right (error_free p) (not (format_of p).synchronous && not (input_level p))
        (and_right (has p.scr 0x10) (error_free p && (not (format_of p).synchronous && not (input_level p))) e))

    go : (x : Option Rx) → Ready n (arm_receive_on x p)
    go None =
        by_cond (Ready n) (arms p) _ _
        (λ e. keep_rx r (Some (armed (format_of p) (next_fall p)))
        (record { bounded = bounded_now p; place = plain e; plain = not-true (format_of p).synchronous (plain e) }))
        (λ _. r)
    go (Some x) = r

module _ {n : ℕ} {p : Port} (r : Ready n p) where
  pub keep_after_sample : (s : Sampled) → PlacedBy s → Ready n (after_sample s p)
  keep_after_sample Dropped h = keep_rx r None tt
  keep_after_sample (Onward x) h = keep_rx r (Some x) h
  keep_after_sample (Whole x) h = keep_complete_receive (keep_rx r None tt) x

  -- only a start-stop word has a due half
  due_start_stop : (x : Rx) (d : Option ℕ) → Plain d x.format.synchronous → due_now d p.half ≡ true → x.format.synchronous ≡ false
  due_start_stop x None h e = absurd (false≢true e)
  due_start_stop x (Some m) h e = h

  pub keep_advance_rx : Ready n (advance_rx p)
  unfolding advance_rx
  keep_advance_rx = go p.rx r.placed where
    go : (x : Option Rx) → PlacedIn x → Ready n (advance_rx_on x p)
    go None h = r
    go (Some x) h =
        by_cond (Ready n) (due_now x.next p.half) _ _
        (λ e. keep_after_sample (sample (format_of p) (input_level p) p.half x)
        (sample_placed (format_of p) (input_level p) p.half x (bounded_now p) h (due_start_stop x x.next h.plain e)))
        (λ _. r)

-- ---- clocked form
-- the bit after one that is not the last
next_bit : (z : ℤ) (f : Format) → f.synchronous ≡ true → position_valid z f ≡ true → last_bit z ≡ false → position_valid (next_position z) f ≡ true
next_bit (pos j) f s e l =
    let up : j ≤ 7 = leb-true j 7 (ap (λ (b : Bool). leb j (cond b 7 (f.«data» + one_if f.parity))) (sym s) ∙ e) in
    place_bit f (suc j) s (lt_of_le-ne up (eqb-false j 7 l))
next_bit (negsuc zero) f s e l = absurd (false≢true (ap not (sym s) ∙ e))
next_bit (negsuc (suc zero)) f s e l = absurd (false≢true (ap not (sym s) ∙ e))
next_bit (negsuc (suc (suc m))) f s e l = absurd (false≢true e)

clocked_placed : (f : Format) → Bounded f → f.synchronous ≡ true → Placed (clocked_word f)
clocked_placed f b s = record { bounded = b; place = place_bit f 0 s zero-le; plain = tt }

module _ {n : ℕ} {p : Port} (r : Ready n p) where
  pub keep_refresh_sync_clock : Ready n (refresh_sync_clock p)
  unfolding refresh_sync_clock
  keep_refresh_sync_clock = search (keep_cond, rules) depth 10

  pub keep_clock : (next : Option ℕ) (high : Bool) → Ready n (with_clock p next high)
  keep_clock next high = keep_same r (with_clock p next high) refl refl refl

  pub keep_take_bit : (x : Rx) → Placed x → x.format.synchronous ≡ true → Ready n (take_bit p x)
  unfolding take_bit
  keep_take_bit x h s =
      by_cond (Ready n) (last_bit x.position) _ _ (λ _. keep_complete_receive (keep_rx r None tt) (bit_taken (input_level p) x))
      (λ e. keep_rx r (Some (bit_taken (input_level p) x))
      (record { bounded = h.bounded; place = next_bit x.position x.format s h.place e; plain = h.plain }))

  pub keep_receive_bit : Ready n (receive_bit p)
  unfolding receive_bit
  keep_receive_bit = both_arms (Ready n) (has p.scr 0x10 && error_free p) _ _ (go p.rx r.placed) r where
    go : (x : Option Rx) → PlacedIn x → Ready n (receive_bit_on x p)
    go None h =
        by_cond (Ready n) (format_of p).synchronous _ _
        (λ s. keep_take_bit (clocked_word (format_of p)) (clocked_placed (format_of p) (bounded_now p) s) s)
        (λ _. r)
    go (Some x) h = by_cond (Ready n) x.format.synchronous _ _ (λ s. keep_take_bit x h s) (λ _. r)

  pub keep_tail_ends : Ready n (tail_ends p)
  unfolding tail_ends
  keep_tail_ends = go p.tx r.sendable where
    go : (t : Tx) → Sendable t → Ready n (tail_ends_on t p)
    go Off s = r
    go (Blocked k) s = r
    go (Mark next) s = r
    go (Start k next) s = r
    go (Data k cell next) s = r
    go (Tail l None) s = keep_finish_tail r l s
    go (Tail l (Some m)) s = r

  pub keep_bit_out : (k : Character) (cell : ℕ) → Bounded k.format → cell ≤ 7 → Ready n (bit_out k cell p)
  unfolding bit_out
  keep_bit_out k cell f h =
      by_cond (Ready n) (eqb cell 7) _ _ (λ _. keep_tailed (keep_drive r (level k cell)) None)
      (λ e. keep_tx (keep_drive r (level k cell)) (Data k (suc cell) None) (f, lt_of_le-ne h (eqb-false cell 7 e)))

  pub keep_shift_out : Ready n (shift_out p)
  unfolding shift_out
  keep_shift_out = go p.tx r.sendable where
    go : (t : Tx) → Sendable t → Ready n (shift_out_on t p)
    go Off s = r
    go (Blocked k) s = r
    go (Mark next) s = r
    go (Start k next) s = r
    go (Data k cell None) s = keep_bit_out k cell s.0 s.1
    go (Data k cell (Some m)) s = r
    go (Tail l next) s = r

module _ {n : ℕ} {p : Port} (r : Ready n p) where
  pub keep_sync_edge : (high : Bool) → Ready n (sync_edge high p)
  unfolding sync_edge
  keep_sync_edge high = both_arms (Ready n) high _ _ (keep_tail_ends (keep_receive_bit r)) (keep_shift_out r)

-- ---- one half
module _ {n : ℕ} {p : Port} (r : Ready n p) where
  pub keep_process_basic : Ready n (process_basic p)
  unfolding process_basic
  keep_process_basic = keep_arm_receive (keep_advance_rx (keep_advance_tx r))

  pub keep_clocked_edge : Ready n (clocked_edge p)
  unfolding clocked_edge
  keep_clocked_edge =
      both_arms (Ready n) (due_now p.sync_next p.half) _ _ (keep_sync_edge (keep_clock r None (not p.sck)) (not p.sck)) r

  -- a counted edge, also one of the internal clock, at the next half
  pub keep_edge_counted : (high : Bool) → n < limit → Ready (suc n) (edge_counted p high)
  keep_edge_counted high h =
      record { half≡ = ap suc r.half≡; half≤ = subst⁻¹ (λ (m : ℕ). suc m ≤ limit) r.half≡ h; placed = r.placed; sendable = r.sendable }

module _ {n : ℕ} {p : Port} (r : Ready n p) where
  pub keep_counted : n < limit → Ready (suc n) (counted p)
  keep_counted h = keep_edge_counted r (not p.high) h

-- ---- the registers
module _ {n : ℕ} {p : Port} (r : Ready n p) where
  pub keep_scr_tx : (was : Bool) (v : ℕ) → Ready n (scr_tx was v p)
  keep_scr_tx was v = search (keep_cond, rules) depth 10

  pub keep_scr_rx : (v : ℕ) → Ready n (scr_rx v p)
  keep_scr_rx v = search (keep_cond, rules) depth 10

  pub keep_write_tdr : (v : ℕ) → Ready n (write_tdr v p)
  unfolding write_tdr
  keep_write_tdr v = search (keep_cond, rules) depth 10

  pub keep_status_write : (v : ℕ) → Ready n (status_write v p)
  unfolding status_write status_with
  keep_status_write v = search (keep_cond, rules) depth 10

  pub keep_connect : (was : Bool) → Ready n (connect was p)
  unfolding connect
  keep_connect was = search (keep_cond, rules) depth 10

  pub keep_load_tail : Ready n (load_tail p)
  unfolding load_tail
  keep_load_tail = go p.tx where
    go : (t : Tx) → Ready n (load_tail_on t p)
    go Off = r
    go (Blocked k) = r
    go (Mark next) = r
    go (Start k next) = r
    go (Data k cell next) = r
    go (Tail None next) = both_arms (Ready n) (is_some p.holding) _ _ (keep_tailed r next) r
    go (Tail (Some k) next) = r

module _ {n : ℕ} {p : Port} (r : Ready n p) where
  pub keep_write_scr : (v : ℕ) → Ready n (write_scr v p)
  unfolding write_scr
  keep_write_scr v = keep_scr_rx (keep_scr_tx (keep_same r _ refl refl refl) (has p.scr 0x20) v) v

module _ {n : ℕ} {p : Port} (r : Ready n p) where
  pub keep_stored : (a v : ℕ) → Ready n (stored a v p)
  unfolding stored
  keep_stored a v = search (keep_cond, keep_write_scr, keep_write_tdr, keep_status_write, rules) depth 14

-- ---- the pins
module _ {n : ℕ} {p : Port} (r : Ready n p) where
  pub keep_receive_input : (level : Bool) → Ready n (receive_input level p)
  unfolding receive_input
  keep_receive_input level =
      both_arms (Ready n) (differ level p.input) _ _ (keep_arm_receive (keep_same r (with_input p level) refl refl refl)) r

-- ---- steps after which the half is the port's own: a counted edge adds one, a reset begins again at 0
abbrev Own : Port → Type 0
Own p = Ready p.half p

pub own : (p : Port) (n : ℕ) → Ready n p → Own p
own p n h = subst (λ (m : ℕ). Ready m p) (sym h.half≡) h

-- ---- at a call: what a ready port gives
pub ready_half : (p : Port) → Ready p.half p → p.half ≤ limit
ready_half p r = r.half≤

pub ready_tx : (p : Port) → Ready p.half p → Sendable p.tx
ready_tx p r = r.sendable

pub ready_rx : (p : Port) → Ready p.half p → PlacedIn p.rx
ready_rx p r = r.placed

-- ---- the result of a call, which its contract says to be a step's
result : {n : ℕ} (r q : Port) → r ≡ q → Ready n q → Ready r.half r
result {n} r q e h = subst⁻¹ Own e (own q n h)

pub try_start_ready : (r p : Port) → r ≡ try_start p → Ready p.half p → Ready r.half r
try_start_ready r p e h = result r (try_start p) e (keep_try_start h)

pub advance_tx_ready : (r p : Port) → r ≡ advance_tx p → Ready p.half p → Ready r.half r
advance_tx_ready r p e h = result r (advance_tx p) e (keep_advance_tx h)

pub advance_rx_ready : (r p : Port) → r ≡ advance_rx p → Ready p.half p → Ready r.half r
advance_rx_ready r p e h = result r (advance_rx p) e (keep_advance_rx h)

pub receive_bit_ready : (r p : Port) → r ≡ receive_bit p → Ready p.half p → Ready r.half r
receive_bit_ready r p e h = result r (receive_bit p) e (keep_receive_bit h)

pub sync_edge_ready : (r p : Port) (high : Bool) → r ≡ sync_edge high p → Ready p.half p → Ready r.half r
sync_edge_ready r p high e h = result r (sync_edge high p) e (keep_sync_edge h high)

pub process_basic_ready : (r p : Port) → r ≡ process_basic p → Ready p.half p → Ready r.half r
process_basic_ready r p e h = result r (process_basic p) e (keep_process_basic h)

pub clocked_edge_ready : (r p : Port) → r ≡ clocked_edge p → Ready p.half p → Ready r.half r
clocked_edge_ready r p e h = result r (clocked_edge p) e (keep_clocked_edge h)

pub stored_ready : (r p : Port) (a v : ℕ) → r ≡ stored a v p → Ready p.half p → Ready r.half r
stored_ready r p a v e h = result r (stored a v p) e (keep_stored h a v)

pub connect_ready : (r p : Port) (was : Bool) → r ≡ connect was p → Ready p.half p → Ready r.half r
connect_ready r p was e h = result r (connect was p) e (keep_connect h was)

pub load_tail_ready : (r p : Port) → r ≡ load_tail p → Ready p.half p → Ready r.half r
load_tail_ready r p e h = result r (load_tail p) e (keep_load_tail h)

pub receive_input_ready : (r p : Port) (level : Bool) → r ≡ receive_input level p → Ready p.half p → Ready r.half r
receive_input_ready r p level e h = result r (receive_input level p) e (keep_receive_input h level)

pub with_clock_ready : (r p : Port) (next : Option ℕ) (high : Bool) → r ≡ with_clock p next high → Ready p.half p → Ready r.half r
with_clock_ready r p next high e h = result r (with_clock p next high) e (keep_clock h next high)

-- ---- less than ready: where a step asks only for the half count
half_as : (r q : Port) → r ≡ q → q.half ≤ limit → r.half ≤ limit
half_as r q e h = subst⁻¹ (λ (x : Port). x.half ≤ limit) e h

pub with_power_half : (r p : Port) (a b c d : Bool) → r ≡ with_power p a b c d → p.half ≤ limit → r.half ≤ limit
with_power_half r p a b c d e h = half_as r (with_power p a b c d) e h

pub reset_half : (r p : Port) (module_on reset_on : Bool) → r ≡ reset module_on reset_on p → p.half ≤ limit → r.half ≤ limit
unfolding reset reset_registers fresh
reset_half r p module_on reset_on e h =
    half_as r (reset module_on reset_on p) e
    (both_arms (λ (x : Port). x.half ≤ limit) (not module_on && p.«module») _ _ zero-le
    (both_arms (λ (x : Port). x.half ≤ limit) (reset_on && not p.reset_mode) _ _ zero-le h))

-- ---- a ruleset for the calls that ask only for the half count
pub ruleset halved = (with_power_half, reset_half)
