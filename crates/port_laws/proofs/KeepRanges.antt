-- The numbers that the field test leaves open stay in their ranges: sender, receiver, half, registers, pins and power.
-- Assumes nothing.
use Rattle.std.specs.Prelude.{Option, None, Some, is_some}
use mathlib.Core.Path.{◌≡◌, refl, sym, ap, ◌∙◌}
use Prim.Native.Nat.{ℕ, zero, suc, ◌+◌, ◌%◌, ◌^◌, ◌≤◌, ◌<◌}
use native.Mathlib.Omega.{arith}
use native.Mathlib.Nat.{mod-lt}
use mathlib.Core.Bool.{Bool, true, false, cond, not, ◌&&◌, ◌||◌}
use lib.Dec.{eqb, ltb, leb, lit<}
use lib.Bits.{bit_and, bit_or, and_le_l, or_lt}
use lib.Pow.{pow-lt}
use lib.IntN.{ℤ, pos, negsuc}
use borrow.Author.Tests.{leb-true, leb-false, ltb-true}
use Rattle.frame.specs.declared.Format.{Format}
use Rattle.frame.specs.Frame.{has, differ, one_if}
use Rattle.shift.specs.declared.Rx.{Rx}
use Rattle.shift.specs.declared.Sampled.{Sampled}
use Rattle.shift.specs.declared.Sampled.TheVariants.{Dropped, Onward, Whole}
use Rattle.shift.specs.Private.Ready.{PlacedIn}
use Rattle.shift.specs.Valid.{position_valid}
use Rattle.shift.specs.Due.{due_now}
use Rattle.shift.specs.Receiver.{armed, bit_at, sample_at, sample, last_bit, bit_taken, clocked_word, rx_due_on}
use Rattle.port.specs.declared.Port.{Port}
use Rattle.port.specs.Fields.{with_rx, with_ssr, with_rdr, with_received, with_seen, with_scr, with_input, with_input_clock}
use Rattle.port.specs.Baud.{format_of, external, counted, edge_counted, edge_counts, next_fall}
use Rattle.port.specs.Receiver.{input_level, error_free, arms, arm_receive, arm_receive_on, complete_receive, after_sample, advance_rx, advance_rx_on}
use Rattle.port.specs.Sender.{advance_tx, try_start}
use Rattle.port.specs.Clocked.{refresh_sync_clock, take_bit, receive_bit, receive_bit_on, sync_edge}
use Rattle.port.specs.Half.{process_basic, sync, clocked_edge, advance, half_step, halves, uncounted}
use Rattle.port.specs.Registers.{read, scr_tx, write_scr, write_tdr, cleared, status_with, status_write, stored, connect, load_tail, after_store, write}
use Rattle.port.specs.Power.{fresh, reset_registers, reset, with_power, set_power}
use Rattle.port.specs.Input.{receive_input, external_edge, pins_change, input_pins}
use Rattle.port.specs.Private.Ready.{Ready}
use Rattle.port.specs.Valid.{limit}
use Rattle.port_laws.specs.Laws.{wrap}
use Rattle.port_laws.specs.Ranges.{HeldInRange, WordInRange, Ranges, InRange}
use Rattle.branches.proofs.Branches.{by_cond, both_arms}
use Rattle.port.proofs.Checked.{edge_counts_kept}
use Rattle.port.proofs.SenderKeeps.{StartClosed, SenderClosed, advance_tx_keeps, try_keeps, tail_keeps, shift_keeps, load_tail_keeps}
use Rattle.port.proofs.ReceiverKeeps.{refresh_keeps}
use Rattle.port.proofs.Keep.{keep_advance_tx, keep_process_basic, keep_refresh_sync_clock, keep_clock, keep_clocked_edge, keep_edge_counted, keep_counted, keep_receive_input, keep_same}

-- ---- bytes
pub or_byte : (a b : ℕ) → a < 256 → b < 256 → bit_or a b < 256
or_byte a b h k = or_lt 8 a b h k

-- a mask makes no number larger
and_byte : (a b : ℕ) → a < 256 → bit_and a b < 256
and_byte a b h = omega (arith, and_le_l a b, h)

-- ---- fields changed
module _ (p : Port) (k : InRange p) where
  in_flags : (s n : ℕ) → s < 256 → n < 256 → InRange (with_seen (with_ssr p s) n)
  in_flags s n e g =
      record { smr< = k.smr<; brr< = k.brr<; scr< = k.scr<; tdr< = k.tdr<; ssr< = e; rdr< = k.rdr<; seen< = g; held_in = k.held_in; word_in = k.word_in; transmitted< = k.transmitted<; received< = k.received< }

  in_ssr : (s : ℕ) → s < 256 → InRange (with_ssr p s)
  in_ssr s e = in_flags s p.seen e k.seen<

  in_rx : (x : Option Rx) → WordInRange x → InRange (with_rx p x)
  in_rx x e =
      record { smr< = k.smr<; brr< = k.brr<; scr< = k.scr<; tdr< = k.tdr<; ssr< = k.ssr<; rdr< = k.rdr<; seen< = k.seen<; held_in = k.held_in; word_in = e; transmitted< = k.transmitted<; received< = k.received< }

-- ---- the sender
in_sender : SenderClosed InRange
in_sender =
    record {
      start = record {
        by_tx = λ q t k. k;
        by_drive = λ q b k. k;
        by_tend = λ q k. in_ssr q k (bit_or q.ssr 4) (or_byte q.ssr 4 k.ssr< (lit< tt));
        by_taken = λ q k. let s : bit_and (bit_or q.ssr 0x80) 0xfb < 256 = and_byte (bit_or q.ssr 0x80) 0xfb (or_byte q.ssr 0x80 k.ssr< (lit< tt)) in
            record { smr< = k.smr<; brr< = k.brr<; scr< = k.scr<; tdr< = k.tdr<; ssr< = s; rdr< = k.rdr<; seen< = k.seen<; held_in = tt; word_in = k.word_in; transmitted< = k.transmitted<; received< = k.received< };
      };
      by_sent = λ q k.
          record { smr< = k.smr<; brr< = k.brr<; scr< = k.scr<; tdr< = k.tdr<; ssr< = k.ssr<; rdr< = k.rdr<; seen< = k.seen<; held_in = k.held_in; word_in = k.word_in; transmitted< = mod-lt (suc q.transmitted) (lit< tt); received< = k.received< };
    }

-- ---- a word in the receiver
abbrev SampleInRange : Sampled → Type 0
SampleInRange Dropped = Unit {0}
SampleInRange (Onward r) = WordInRange (Some r)
SampleInRange (Whole r) = WordInRange (Some r)

-- the bit of one of eight cells
bit_byte : (j : ℕ) → j < 8 → 2 ^ j < 256
bit_byte j h = pow-lt {i = j} {j = 8} h

with_flag : (b : Bool) (x y : ℕ) → x < 256 → y < 256 → cond b (bit_or x y) x < 256
with_flag b x y h k = both_arms (λ (n : ℕ). n < 256) b (bit_or x y) x (or_byte x y h k) h

sample_in : (z : ℤ) (now : Format) (high : Bool) (half : ℕ) (r : Rx) → r.format.«data» ≤ 8 → WordInRange (Some r) → SampleInRange (sample_at z now high half r)
unfolding sample_at
sample_in (negsuc (suc (suc n))) now high half r d w = tt
sample_in (negsuc (suc zero)) now high half r d w = both_arms SampleInRange (high || now.synchronous) _ _ tt w
sample_in (negsuc zero) now high half r d w = both_arms SampleInRange high _ _ tt w
sample_in (pos j) now high half r d w =
    by_cond SampleInRange (ltb j r.format.«data») _ _
    (λ e. (with_flag high r.value (2 ^ j) w.0 (bit_byte j (omega (arith, d, ltb-true j r.format.«data» e))), w.1))
    (λ e. both_arms SampleInRange (eqb j r.format.«data» && r.format.parity) _ _
    (w.0, with_flag (differ high (differ r.parity r.format.odd)) r.error 8 w.1 (lit< tt))
    (w.0, both_arms (λ (n : ℕ). n < 256) high r.error (bit_or r.error 0x10) w.1 (or_byte r.error 0x10 w.1 (lit< tt))))

-- a clocked word's position is one of eight
clocked_byte : (z : ℤ) (f : Format) → f.synchronous ≡ true → position_valid z f ≡ true → bit_at z < 256
clocked_byte (pos j) f s e =
    let up : j ≤ 7 = leb-true j 7 (ap (λ (b : Bool). leb j (cond b 7 (f.«data» + one_if f.parity))) (sym s) ∙ e) in bit_byte j (omega (arith, up))
clocked_byte (negsuc j) f s e = lit< tt

-- ---- the receiver
in_arm : (p : Port) → InRange p → InRange (arm_receive p)
unfolding arm_receive
in_arm p k = go p.rx
  where
    go : (x : Option Rx) → InRange (arm_receive_on x p)
    go None = both_arms InRange (arms p) _ p (in_rx p k (Some (armed (format_of p) (next_fall p))) (lit< tt, lit< tt)) k
    go (Some r) = k

in_complete : (p : Port) (r : Rx) → WordInRange (Some r) → InRange p → InRange (complete_receive p r)
unfolding complete_receive
in_complete p r w k =
    both_arms InRange (has p.ssr 0x40) _ _
    (in_ssr p k (bit_or p.ssr (bit_or r.error 0x20)) (or_byte p.ssr (bit_or r.error 0x20) k.ssr< (or_byte r.error 0x20 w.1 (lit< tt))))
    (both_arms InRange (eqb r.error 0) _ _
    (taken (bit_or p.ssr 0x40) (suc p.received % 2 ^ 64) (or_byte p.ssr 0x40 k.ssr< (lit< tt)) (mod-lt (suc p.received) (lit< tt)))
    (taken (bit_or p.ssr r.error) p.received (or_byte p.ssr r.error k.ssr< w.1) k.received<))
  where
    taken : (s n : ℕ) → s < 256 → n < wrap → InRange (with_received (with_ssr (with_rdr p r.value) s) n)
    taken s n e g =
        record { smr< = k.smr<; brr< = k.brr<; scr< = k.scr<; tdr< = k.tdr<; ssr< = e; rdr< = w.0; seen< = k.seen<; held_in = k.held_in; word_in = k.word_in; transmitted< = k.transmitted<; received< = g }

-- a word is in its place where the port is ready
module _ {n : ℕ} {p : Port} (r : Ready n p) (k : InRange p) where
  in_advance_rx : InRange (advance_rx p)
  unfolding advance_rx
  in_advance_rx = go p.rx r.placed k.word_in
    where
      out : (o : Sampled) → SampleInRange o → InRange (after_sample o p)
      out Dropped w = in_rx p k None tt
      out (Onward x) w = in_rx p k (Some x) w
      out (Whole x) w = in_complete (with_rx p None) x w (in_rx p k None tt)

      go : (x : Option Rx) → PlacedIn x → WordInRange x → InRange (advance_rx_on x p)
      go None h w = k
      go (Some x) h w =
          both_arms InRange (due_now x.next p.half) _ p
          (out (sample (format_of p) (input_level p) p.half x) (sample_in x.position (format_of p) (input_level p) p.half x h.bounded.data≤8 w)) k

  in_take : (x : Rx) → bit_at x.position < 256 → WordInRange (Some x) → InRange (take_bit p x)
  unfolding take_bit
  in_take x b w =
      let taken : WordInRange (Some (bit_taken (input_level p) x)) = (with_flag (input_level p) x.value (bit_at x.position) w.0 b, w.1) in
      both_arms InRange (last_bit x.position) _ _ (in_complete (with_rx p None) (bit_taken (input_level p) x) taken (in_rx p k None tt)) (in_rx p k (Some (bit_taken (input_level p) x)) taken)

  in_receive_bit : InRange (receive_bit p)
  unfolding receive_bit
  in_receive_bit = both_arms InRange (has p.scr 0x10 && error_free p) _ p (go p.rx r.placed k.word_in) k
    where
      go : (x : Option Rx) → PlacedIn x → WordInRange x → InRange (receive_bit_on x p)
      go None h w = both_arms InRange (format_of p).synchronous _ p (in_take (clocked_word (format_of p)) (lit< tt) (lit< tt, lit< tt)) k
      go (Some x) h w =
          by_cond InRange x.format.synchronous _ p (λ s. in_take x (clocked_byte x.position x.format s h.place) w) (λ s. k)

-- ---- one half
in_refresh : (p : Port) → InRange p → InRange (refresh_sync_clock p)
in_refresh = refresh_keeps InRange (λ q d b k. k)

module _ {n : ℕ} {p : Port} (r : Ready n p) (k : InRange p) where
  in_basic : InRange (process_basic p)
  unfolding process_basic
  in_basic = in_arm (advance_rx (advance_tx p)) (in_advance_rx (keep_advance_tx r) (advance_tx_keeps InRange in_sender p k))

  in_sync_edge : (b : Bool) → InRange (sync_edge b p)
  unfolding sync_edge
  in_sync_edge b =
      both_arms InRange b _ _ (tail_keeps InRange in_sender (receive_bit p) (in_receive_bit r k)) (shift_keeps InRange in_sender.start p k)

module _ {n : ℕ} {p : Port} (r : Ready n p) (k : InRange p) where
  in_advance : InRange (advance p)
  unfolding advance clocked_edge
  in_advance =
      let q : Port = process_basic p in
      let kq : InRange q = in_basic r k in
      in_refresh (clocked_edge q)
      (both_arms InRange (due_now q.sync_next q.half) _ q (in_sync_edge (keep_clock (keep_process_basic r) None (not q.sck)) kq (not q.sck)) kq)

  -- the basic work on the way to `advance` keeps it too
  in_sync : InRange (sync p)
  unfolding sync
  in_sync = both_arms InRange (rx_due_on p.rx p.half) _ p (in_refresh (process_basic p) (in_basic r k)) k

ready_sync : {n : ℕ} {p : Port} → Ready n p → Ready n (sync p)
unfolding sync
ready_sync {n} {p} r = both_arms (Ready n) (rx_due_on p.rx p.half) _ p (keep_refresh_sync_clock (keep_process_basic r)) r

pub in_halves : (m n : ℕ) (p : Port) → Ready n p → InRange p → n + m ≤ limit → InRange (halves m p)
unfolding halves half_step advance
in_halves zero n p r k h = k
in_halves (suc m) n p r k h =
    let rs : Ready (suc n) (sync (counted p)) = ready_sync (keep_counted r (omega (arith, h))) in
    in_halves m (suc n) (half_step p) (keep_refresh_sync_clock (keep_clocked_edge (keep_process_basic rs)))
    (in_advance rs (in_sync (keep_counted r (omega (arith, h))) k)) (omega (arith, h))

pub in_uncounted : (m : ℕ) (p : Port) → InRange p → InRange (uncounted m p)
in_uncounted zero p k = k
in_uncounted (suc m) p k = k

-- ---- the registers
-- a record of the port, which compares faster where tests are nested
pub record Within (p : Port) : Type 0 where
  pub ranges : InRange p

module _ (p : Port) (k : InRange p) where
  pub in_read : (a : ℕ) → InRange (read a p)
  unfolding read
  in_read a =
      both_arms InRange (eqb a 0xff9c) _ _ (in_flags p k p.ssr p.ssr k.ssr< k.ssr<)
      (both_arms InRange (eqb a 0xff9d) _ p (in_flags p k (bit_and p.ssr 0xbf) (bit_and p.seen 0xbf) (and_byte p.ssr 0xbf k.ssr<) (and_byte p.seen 0xbf k.seen<)) k)

  -- bytes that a write stores, with what it holds and with the flags after it
  in_stored : (smr brr scr tdr ssr seen : ℕ) (held : Option ℕ) → smr < 256 → brr < 256 → scr < 256 → tdr < 256 → ssr < 256 → seen < 256 → HeldInRange held
      → Ranges smr brr scr tdr ssr p.rdr seen held p.rx p.transmitted p.received
  in_stored smr brr scr tdr ssr seen held e1 e2 e3 e4 e5 e6 e7 =
      record { smr< = e1; brr< = e2; scr< = e3; tdr< = e4; ssr< = e5; rdr< = k.rdr<; seen< = e6; held_in = e7; word_in = k.word_in; transmitted< = k.transmitted<; received< = k.received< }

  module _ (v : ℕ) (h : v < 256) where
    in_tdr : InRange (write_tdr v p)
    unfolding write_tdr
    in_tdr =
        both_arms InRange (has p.scr 0x20) _ _
        (in_stored p.smr p.brr p.scr v (bit_and p.ssr 0x7b) (bit_and p.seen 0x7b) (Some v) k.smr< k.brr< k.scr< h (and_byte p.ssr 0x7b k.ssr<) (and_byte p.seen 0x7b k.seen<) h)
        (in_stored p.smr p.brr p.scr v p.ssr p.seen p.holding k.smr< k.brr< k.scr< h k.ssr< k.seen< k.held_in)

    in_status : InRange (status_write v p)
    unfolding status_write status_with
    in_status =
        let c : cleared v p < 256 = and_byte p.ssr _ k.ssr< in
        let n : bit_and p.seen v < 256 = and_byte p.seen v k.seen< in
        both_arms InRange (has p.scr 0x20) _ _
        (both_arms InRange (not (has (cleared v p) 0x80) && not (is_some p.holding)) _ _
        (in_stored p.smr p.brr p.scr p.tdr (bit_and (cleared v p) 0xfb) (bit_and p.seen v) (Some p.tdr) k.smr< k.brr< k.scr< k.tdr< (and_byte (cleared v p) 0xfb c) n k.tdr<)
        (in_flags p k (cleared v p) (bit_and p.seen v) c n))
        (in_flags p k (bit_or (cleared v p) 0x80) (bit_and p.seen v) (or_byte (cleared v p) 0x80 c (lit< tt)) n)

    -- SCR: the sender off, on or as it was; the receiver off or as it was
    in_scr : InRange (write_scr v p)
    unfolding write_scr
    in_scr =
        let scr : bit_and v 0xf7 < 256 = and_byte v 0xf7 h in
        let with : InRange (with_scr p (bit_and v 0xf7)) = in_stored p.smr p.brr (bit_and v 0xf7) p.tdr p.ssr p.seen p.holding k.smr< k.brr< scr k.tdr< k.ssr< k.seen< k.held_in in
        let q : Port = scr_tx (has p.scr 0x20) v (with_scr p (bit_and v 0xf7)) in
        let kq : InRange q
        = both_arms InRange (has v 0x20) _ _ (both_arms InRange (not (has p.scr 0x20) && not (format_of p).synchronous) _ _ with with)
        (in_stored p.smr p.brr (bit_and v 0xf7) p.tdr (bit_or p.ssr 0x84) p.seen None k.smr< k.brr< scr k.tdr< (or_byte p.ssr 0x84 k.ssr< (lit< tt)) k.seen< tt) in
        both_arms InRange (has v 0x10) q (with_rx q None) kq (in_rx q kq None tt)

    in_store : (a : ℕ) → Within (stored a v p)
    unfolding stored
    in_store a =
        arm (eqb a 0xff91) _ _ (record { ranges = k })
        (arm (eqb a 0xff98) _ _ (record { ranges = in_stored v p.brr p.scr p.tdr p.ssr p.seen p.holding h k.brr< k.scr< k.tdr< k.ssr< k.seen< k.held_in })
        (arm (eqb a 0xff99) _ _ (record { ranges = in_stored p.smr v p.scr p.tdr p.ssr p.seen p.holding k.smr< h k.scr< k.tdr< k.ssr< k.seen< k.held_in })
        (arm (eqb a 0xff9a) _ _ (record { ranges = in_scr })
        (arm (eqb a 0xff9b) _ _ (record { ranges = in_tdr })
        (arm (eqb a 0xff9c) _ _ (record { ranges = in_status })
        (arm (eqb a 0xff9d) _ _ (record { ranges = k }) (arm (eqb a 0xffa6) _ _ (record { ranges = k }) (record { ranges = k }))))))))
      where
        arm : (b : Bool) (x y : Port) → Within x → Within y → Within (cond b x y)
        arm = both_arms Within

pub in_write : (a v : ℕ) (p : Port) → v < 256 → InRange p → InRange (write a v p)
unfolding write after_store connect
in_write a v p h k =
    let s : Port = stored a v p in
    let ks : InRange s = (in_store p k v h a).ranges in
    let q : Port = connect (external p) s in
    let kq : InRange q = both_arms InRange (not (external p) && external s) _ s ks ks in
    let c : StartClosed InRange = in_sender.start in
    both_arms InRange (p.«module» && not p.reset_mode) _ p
    (in_refresh (arm_receive (try_start (load_tail q)))
    (in_arm (try_start (load_tail q)) (try_keeps InRange c (load_tail q) (load_tail_keeps InRange c q kq)))) k

-- ---- the pins
pub in_line : (b : Bool) (p : Port) → InRange p → InRange (receive_input b p)
unfolding receive_input
in_line b p k = both_arms InRange (differ b p.input) _ p (in_arm (with_input p b) k) k

-- an edge that is counted leaves room for one half more, or kind 5 is refused
pub in_pins : (clock line : Bool) (p : Port) → Ready p.half p → InRange p → (pins_change clock line p && (edge_counts clock p && leb limit p.half)) ≡ false
    → InRange (input_pins clock line p)
unfolding input_pins external_edge
in_pins clock line p r k free =
    let q : Port = with_input_clock (receive_input line p) clock in
    let kq : InRange q = in_line line p k in
    let rq : Ready p.half q = keep_same (keep_receive_input r line) q refl refl refl in
    by_cond InRange (pins_change clock line p) _ p
    (λ e. by_cond InRange (edge_counts clock q) _ q
    (λ g. let re : Ready (suc p.half) (edge_counted q clock) = keep_edge_counted rq clock (room e (sym (edge_counts_kept clock line p) ∙ g)) in
    in_refresh (sync_edge clock (process_basic (edge_counted q clock))) (in_sync_edge (keep_process_basic re) (in_basic re kq) clock)) (λ g. kq)) (λ e. k)
  where
    room : pins_change clock line p ≡ true → edge_counts clock p ≡ true → p.half < limit
    room e g =
        leb-false limit p.half
        (sym (ap (λ (b : Bool). b && (edge_counts clock p && leb limit p.half)) e ∙ ap (λ (b : Bool). b && leb limit p.half) g) ∙ free)

-- ---- power
-- a reset keeps both tallies; all else is a fresh port's
in_reset : (x : ℕ) (p : Port) → InRange p → InRange (reset_registers x p)
unfolding reset_registers fresh
in_reset x p k =
    record { smr< = lit< tt; brr< = lit< tt; scr< = lit< tt; tdr< = lit< tt; ssr< = lit< tt; rdr< = lit< tt; seen< = lit< tt; held_in = tt; word_in = tt; transmitted< = k.transmitted<; received< = k.received< }

pub in_fresh : InRange fresh
unfolding fresh
in_fresh =
    record { smr< = lit< tt; brr< = lit< tt; scr< = lit< tt; tdr< = lit< tt; ssr< = lit< tt; rdr< = lit< tt; seen< = lit< tt; held_in = tt; word_in = tt; transmitted< = lit< tt; received< = lit< tt }

pub in_power : (a b c d : Bool) (p : Port) → InRange p → InRange (set_power a b c d p)
unfolding set_power reset
in_power a b c d p k =
    in_refresh (with_power (reset a d p) a b c d)
    (both_arms InRange (not a && p.«module») (reset_registers 0xc0 p) _ (in_reset 0xc0 p k)
    (both_arms InRange (d && not p.reset_mode) (reset_registers p.spcr p) p (in_reset p.spcr p k) k))
