-- The port's own record of the line, its field `input`, is the line that the callers set: the fold of specs/Recovery.antt. And its record of power is what
-- they commanded (specs/Outside.antt).
-- Assumes nothing.
use Rattle.std.specs.Prelude.{None, is_some}
use mathlib.Core.Path.{◌≡◌, refl, sym, ap, ◌∙◌}
use Prim.Native.Nat.{ℕ, zero, suc, ◌+◌}
use mathlib.Core.Bool.{Bool, true, false, cond, not, ◌&&◌, ◌||◌}
use mathlib.Core.List.{List, [], ◌∷◌}
use lib.Dec.{eqb, leb}
use lib.Bits.{bit_and, bit_or}
use Rattle.port.specs.declared.Port.{Port}
use Rattle.frame.specs.Frame.{differ, has}
use Rattle.port.specs.Baud.{edge_counted, edge_counts, external, format_of, internal}
use Rattle.port.specs.Calls.{Answer, after, bit, called, direct, done, refuse, refused}
use Rattle.command.specs.declared.Call.{Call}
use Rattle.command.specs.declared.Call.TheVariants.{Wait, Inside, Read, Line, Pins, Power, Write}
use Rattle.port.specs.Clocked.{refresh_sync_clock, sync_edge}
use Rattle.port.specs.Fields.{with_brr, with_input, with_input_clock, with_ircr, with_rx, with_scr, with_semr, with_smr, with_spcr}
use Rattle.port.specs.Half.{half_step, halves, process_basic, uncounted}
use Rattle.port.specs.Input.{external_edge, input_pins, receive_input}
use Rattle.port.specs.Power.{fresh, reset, reset_registers, set_power, with_power}
use Rattle.port.specs.Receiver.{arm_receive}
use Rattle.port.specs.Registers.{cleared, connect, handles, load_tail, read, scr_tx, sender_off, sender_on, after_store, status_with, status_write, stored, write, write_scr, write_tdr}
use Rattle.port.specs.Sender.{try_start}
use Rattle.port.specs.Valid.{limit, valid}
use Rattle.branches.proofs.Branches.{both_arms, by_cond, or_left}
use Rattle.port.proofs.ReceiverKeeps.{ReceiverClosed, arm_keeps, basic_keeps, free_receiver, half_keeps, refresh_keeps, sync_edge_keeps}
use Rattle.port.proofs.SenderKeeps.{SenderClosed, free_sender, load_tail_keeps, try_keeps}
use Rattle.recovery.specs.Outside.{ClockAsCommanded, power_after, power_commanded}
use Rattle.recovery.specs.Recovery.{Wired, accepted, line_after, run_wired, start, wired_after}

-- a store, register by register
pub by_stored : (P : Port → Type 0) (a v : ℕ) (p : Port) → P (with_spcr p (bit_or (bit_and v 0x13) 0xc0)) → (eqb a 0xff98 ≡ true → P (with_smr p v)) → P (with_brr p v) → P (write_scr v p)
    → P (write_tdr v p) → P (status_write v p) → P p → P (with_semr p (bit_and v 8)) → P (with_ircr p (bit_and v 0xf0)) → P (stored a v p)
unfolding stored
by_stored P a v p spcr smr brr scr tdr ssr rdr semr ircr =
    both_arms P (eqb a 0xff91) _ _ spcr
    (by_cond P (eqb a 0xff98) _ _ smr
    (λ e. both_arms P (eqb a 0xff99) _ _ brr
    (both_arms P (eqb a 0xff9a) _ _ scr (both_arms P (eqb a 0xff9b) _ _ tdr (both_arms P (eqb a 0xff9c) _ _ ssr (both_arms P (eqb a 0xff9d) _ _ rdr (both_arms P (eqb a 0xffa6) _ _ semr ircr)))))))

-- what callers set, the line and the power bits, as the port records it
record Outer : Type 0 where
  input : Bool
  on : Bool
  main : Bool
  sub : Bool
  resets : Bool

abbrev outer : Port → Outer
outer p = record { input = p.input; on = p.«module»; main = p.main; sub = p.sub; resets = p.reset_mode }

abbrev Level : Outer → Port → Type 0
Level l p = outer p ≡ l

-- ---- one half
module _ (l : Outer) where
  sends : SenderClosed (Level l)
  sends = free_sender (Level l) (λ q t u b s x k. k) (λ q n k. k)

  receives : ReceiverClosed (Level l)
  receives = free_receiver (Level l) (λ q x s v n k. k)

  level_refresh : (p : Port) → Level l p → Level l (refresh_sync_clock p)
  level_refresh = refresh_keeps (Level l) (λ q d b k. k)

  level_half : (p : Port) → Level l p → Level l (half_step p)
  level_half = half_keeps (Level l) sends receives (λ q d b k. k) (λ q k. k)

  level_halves : (n : ℕ) (p : Port) → Level l p → Level l (halves n p)
  unfolding halves
  level_halves zero p e = e
  level_halves (suc n) p e = level_halves n (half_step p) (level_half p e)

  level_no_halves : (n : ℕ) (p : Port) → Level l p → Level l (uncounted n p)
  level_no_halves zero p e = e
  level_no_halves (suc n) p e = e

  -- ---- registers and power
  level_read : (a : ℕ) (p : Port) → Level l p → Level l (read a p)
  unfolding read
  level_read a p e = by_cond (Level l) (eqb a 0xff9c) _ _ (λ g. e) (λ g. by_cond (Level l) (eqb a 0xff9d) _ _ (λ h. e) (λ h. e))

  level_scr : (v : ℕ) (p : Port) → Level l p → Level l (write_scr v p)
  unfolding write_scr
  level_scr v p e =
      by_cond (Level l) (has v 0x10) (scr_tx (has p.scr 0x20) v s) (with_rx (scr_tx (has p.scr 0x20) v s) None) (λ g. sender) (λ g. sender)
    where
      s : Port
      s = with_scr p (bit_and v 0xf7)

      sender : Level l (scr_tx (has p.scr 0x20) v s)
      sender =
          by_cond (Level l) (has v 0x20) (cond (not (has p.scr 0x20) && not (format_of s).synchronous) (sender_on s) s) (sender_off s)
          (λ g. by_cond (Level l) (not (has p.scr 0x20) && not (format_of s).synchronous) (sender_on s) s (λ h. e) (λ h. e)) (λ g. e)

  level_tdr : (v : ℕ) (p : Port) → Level l p → Level l (write_tdr v p)
  unfolding write_tdr
  level_tdr v p e = by_cond (Level l) (has p.scr 0x20) _ _ (λ g. e) (λ g. e)

  level_ssr : (v : ℕ) (p : Port) → Level l p → Level l (status_write v p)
  unfolding status_write status_with
  level_ssr v p e =
      by_cond (Level l) (has p.scr 0x20) _ _
      (λ g. by_cond (Level l) (not (has (cleared v p) 0x80) && not (is_some p.holding)) _ _ (λ h. e) (λ h. e)) (λ g. e)

  level_stored : (a v : ℕ) (p : Port) → Level l p → Level l (stored a v p)
  level_stored a v p e = by_stored (Level l) a v p e (λ g. e) e (level_scr v p e) (level_tdr v p e) (level_ssr v p e) e e e

  level_write : (a v : ℕ) (p : Port) → Level l p → Level l (write a v p)
  unfolding write after_store connect
  level_write a v p e =
      by_cond (Level l) (p.«module» && not p.reset_mode) _ p
      (λ g. level_refresh (arm_receive (try_start (load_tail c))) (arm_keeps (Level l) (λ q x k. k) (try_start (load_tail c))
      (try_keeps (Level l) sends.start (load_tail c) (load_tail_keeps (Level l) sends.start c
      (by_cond (Level l) (not (external p) && external (stored a v p)) _ (stored a v p) (λ h. level_stored a v p e) (λ h. level_stored a v p e))))))
      (λ g. e)
    where
      c : Port
      c = connect (external p) (stored a v p)

abbrev powered : Outer → Bool → Bool → Bool → Bool → Outer
powered o a b c d = record { input = o.input; on = a; main = b; sub = c; resets = d }

level_power : (a b c d : Bool) (p : Port) → Level (powered (outer p) a b c d) (set_power a b c d p)
unfolding set_power reset reset_registers
level_power a b c d p =
    level_refresh (powered (outer p) a b c d) (with_power (reset a d p) a b c d)
    (by_cond (λ (q : Port). Level (powered (outer p) a b c d) (with_power q a b c d)) (not a && p.«module») _ _ (λ g. refl)
    (λ g. by_cond (λ (q : Port). Level (powered (outer p) a b c d) (with_power q a b c d)) (d && not p.reset_mode) _ _ (λ h. refl) (λ h. refl)))

-- ---- the line
same_level : (b x : Bool) → differ b x ≡ false → x ≡ b
same_level true true e = refl
same_level true false e = sym e
same_level false true e = e
same_level false false e = refl

abbrev lined : Outer → Bool → Outer
lined o b = record { input = b; on = o.on; main = o.main; sub = o.sub; resets = o.resets }

level_line : (b : Bool) (p : Port) → Level (lined (outer p) b) (receive_input b p)
unfolding receive_input
level_line b p =
    by_cond (Level (lined (outer p) b)) (differ b p.input) (arm_receive (with_input p b)) p
    (λ g. arm_keeps (Level (lined (outer p) b)) (λ q x k. k) (with_input p b) refl) (λ g. ap (lined (outer p)) (same_level b p.input g))

level_pins : (c b : Bool) (p : Port) → Level (lined (outer p) b) (input_pins c b p)
unfolding input_pins external_edge
level_pins c b p =
    by_cond (Level l) (differ b p.input || differ c p.input_clock) (external_edge c q) p
    (λ g. by_cond (Level l) (edge_counts c q) (refresh_sync_clock (sync_edge c (process_basic (edge_counted q c)))) q
    (λ h. level_refresh l (sync_edge c (process_basic (edge_counted q c))) (sync_edge_keeps (Level l) (sends l) (receives l) c (process_basic (edge_counted q c)) (basic_keeps (Level l) (sends l) (receives l) (edge_counted q c) lq))) (λ h. lq))
    (λ g. ap (lined (outer p)) (same_level b p.input (or_left (differ b p.input) (differ c p.input_clock) g)))
  where
    l : Outer
    l = lined (outer p) b

    q : Port
    q = with_input_clock (receive_input b p) c

    lq : Level l q
    lq = level_line b p

-- ---- every call
-- the power bit of the mask m after a call
abbrev bit_after : ℕ → Call → Answer → Bool → Bool
bit_after m (Power b) a x = cond (accepted a) (has b m) x
bit_after m (Read y) a x = x
bit_after m (Write y v) a x = x
bit_after m (Wait n) a x = x
bit_after m (Line b) a x = x
bit_after m (Pins c b) a x = x
bit_after m Inside a x = x

abbrev outer_after : Call → Answer → Outer → Outer
outer_after c a o =
    record { input = line_after c a o.input; on = bit_after 1 c a o.on; main = bit_after 2 c a o.main; sub = bit_after 4 c a o.sub; resets = bit_after 8 c a o.resets }

module _ (c : Call) (p : Port) where
  Is : Answer → Type 0
  Is r = outer (after r) ≡ outer_after c r (outer p)

called_outer : (c : Call) (p : Port) → Is c p (called c p)
unfolding called Is
called_outer (Read a) p =
    by_cond (Is (Read a) p) (leb a 65535) _ (refuse 2 p) (λ e. by_cond (Is (Read a) p) (handles a) _ (refuse 1 p) (λ g. level_read (outer p) a p refl) (λ g. refl)) (λ e. refl)
called_outer (Write a v) p =
    by_cond (Is (Write a v) p) (leb a 65535 && leb v 255) _ (refuse 2 p)
    (λ e. by_cond (Is (Write a v) p) (handles a) _ (refuse 1 p)
    (λ g. by_cond (Is (Write a v) p) (eqb a 0xffa7 && leb 128 v) (refuse 3 p) (done 0 (write a v p)) (λ h. refl) (λ h. level_write (outer p) a v p refl)) (λ g. refl))
    (λ e. refl)
called_outer (Wait n) p =
    by_cond (Is (Wait n) p) (leb n 65535) _ (refuse 2 p)
    (λ e. by_cond (Is (Wait n) p) (internal p) _ (done 0 (uncounted n p))
    (λ i. by_cond (Is (Wait n) p) (leb (p.half + n) limit) (done 0 (halves n p)) (refuse 4 p) (λ g. level_halves (outer p) n p refl) (λ g. refl))
    (λ i. level_no_halves (outer p) n p refl))
    (λ e. refl)
called_outer (Line b) p = by_cond (Is (Line b) p) (leb b 1) (done 0 (receive_input (bit b) p)) (refuse 2 p) (λ e. level_line (bit b) p) (λ e. refl)
called_outer (Pins c b) p =
    by_cond (Is (Pins c b) p) (leb c 1 && leb b 1) _ (refuse 2 p)
    (λ e. by_cond (Is (Pins c b) p) ((differ (bit b) p.input || differ (bit c) p.input_clock) && (edge_counts (bit c) p && leb limit p.half)) (refuse 4 p) (done 0 (input_pins (bit c) (bit b) p))
    (λ g. refl) (λ g. level_pins (bit c) (bit b) p))
    (λ e. refl)
called_outer (Power b) p =
    by_cond (Is (Power b) p) (leb b 15) (done 0 (set_power (has b 1) (has b 2) (has b 4) (has b 8) p)) (refuse 2 p)
    (λ e. level_power (has b 1) (has b 2) (has b 4) (has b 8) p) (λ e. refl)
called_outer Inside p = refl

refused_outer : (c : Call) (n : ℕ) (p : Port) → Is c p (refuse n p)
unfolding Is
refused_outer (Read a) n p = refl
refused_outer (Write a v) n p = refl
refused_outer (Wait k) n p = refl
refused_outer (Line b) n p = refl
refused_outer (Pins c b) n p = refl
refused_outer (Power b) n p = refl
refused_outer Inside n p = refl

direct_outer : (c : Call) (p : Port) → outer (after (direct c p)) ≡ outer_after c (direct c p) (outer p)
unfolding direct Is
direct_outer c p = by_cond (Is c p) (valid p) (called c p) (refuse 8 p) (λ e. called_outer c p) (λ e. refused_outer c 8 p)

-- the port's record and the line are one: at the start, after a call, and so after a list
abbrev pub Lined : Wired → Type 0
Lined s = s.port.input ≡ s.line

pub lined_start : Lined start
unfolding fresh
lined_start = refl

pub lined_after : (c : Call) (s : Wired) → Lined s → Lined (wired_after c (direct c s.port) s)
lined_after c s e = ap (λ (o : Outer). o.input) (direct_outer c s.port) ∙ ap (line_after c (direct c s.port)) e

pub lined_run : (cs : List Call) (s : Wired) → Lined s → Lined (run_wired direct s cs)
unfolding run_wired
lined_run [] s e = e
lined_run (c ∷ cs) s e = lined_run cs (wired_after c (direct c s.port) s) (lined_after c s e)

-- ---- the record of power is what was commanded
abbrev bits_of : ℕ → Outer → Outer
bits_of n o = powered o (has n 1) (has n 2) (has n 4) (has n 8)

bit_is : (m n : ℕ) (c : Call) (a : Answer) → bit_after m c a (has n m) ≡ has (power_after c a n) m
bit_is m n (Power b) (done v q) = refl
bit_is m n (Power b) (refused k offset q) = refl
bit_is m n (Read x) a = refl
bit_is m n (Write x v) a = refl
bit_is m n (Wait k) a = refl
bit_is m n (Line b) a = refl
bit_is m n (Pins c b) a = refl
bit_is m n Inside a = refl

-- the power bits of p are those of n
Commanded : ℕ → Port → Type 0
Commanded n p = outer p ≡ bits_of n (outer p)

commanded_call : (n : ℕ) (c : Call) (p : Port) → Commanded n p → Commanded (power_after c (direct c p) n) (after (direct c p))
unfolding Commanded
commanded_call n c p e = λ i.
    record {
      input = (after (direct c p)).input;
      on = (ap (λ (o : Outer). o.on) (direct_outer c p) ∙ ap (λ (o : Outer). bit_after 1 c (direct c p) o.on) e ∙ bit_is 1 n c (direct c p)) i;
      main = (ap (λ (o : Outer). o.main) (direct_outer c p) ∙ ap (λ (o : Outer). bit_after 2 c (direct c p) o.main) e ∙ bit_is 2 n c (direct c p)) i;
      sub = (ap (λ (o : Outer). o.sub) (direct_outer c p) ∙ ap (λ (o : Outer). bit_after 4 c (direct c p) o.sub) e ∙ bit_is 4 n c (direct c p)) i;
      resets = (ap (λ (o : Outer). o.resets) (direct_outer c p) ∙ ap (λ (o : Outer). bit_after 8 c (direct c p) o.resets) e ∙ bit_is 8 n c (direct c p)) i;
    }

commanded_run : (cs : List Call) (n : ℕ) (s : Wired) → Commanded n s.port → Commanded (power_commanded direct n s cs) (run_wired direct s cs).port
unfolding run_wired power_commanded
commanded_run [] n s e = e
commanded_run (c ∷ cs) n s e = commanded_run cs (power_after c (direct c s.port) n) (wired_after c (direct c s.port) s) (commanded_call n c s.port e)

commanded_start : Commanded 0 fresh
unfolding Commanded fresh
commanded_start = refl

-- and so the clock
pub clock_as_commanded : ClockAsCommanded direct
unfolding ClockAsCommanded Commanded
clock_as_commanded calls =
    let p : Port = (run_wired direct start calls).port in
    ap (λ (o : Outer). (o.on && (not o.resets && (o.main || (o.sub && eqb (bit_and p.smr 3) 1)))) && not (has p.scr 2)) (commanded_run calls 0 start commanded_start)
