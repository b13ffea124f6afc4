-- The claim of specs/Writes.antt: what a write stores, and that what follows a store keeps the registers.
-- Assumes nothing.
use Rattle.std.proofs.Common.{◌≡◌, ℕ, suc, ◌<◌, Bool, true, false, not, ◌&&◌, leb, bit_and, refl, sym, ap, ◌∙◌, arith}
use mathlib.Core.Path.{subst⁻¹}
use borrow.Author.Tests.{le-leb}
use lib.Dec.{lit<}
use Rattle.branches.proofs.Branches.{both_arms}
use Rattle.command.specs.declared.Call.TheVariants.{Write}
use Rattle.command.specs.declared.Command.TheVariants.{OnPort}
use Rattle.frame.specs.Frame.{has}
use Rattle.frame.proofs.Truth.{and_left, and_right}
use Rattle.port.specs.declared.Port.{Port}
use Rattle.port.specs.Baud.{external, internal}
use Rattle.port.specs.Registers.{takes_writes, stored, connect, load_tail, after_store, write}
use Rattle.port.specs.Fields.{with_smr, with_semr, with_brr}
use Rattle.port.specs.Receiver.{arm_receive}
use Rattle.port.specs.Sender.{try_start}
use Rattle.port.specs.Calls.{called as port_called}
use Rattle.port.proofs.SenderKeeps.{StartClosed, free_start, try_keeps, load_tail_keeps}
use Rattle.port.proofs.ReceiverKeeps.{refresh_keeps, arm_keeps}
use Rattle.rates.specs.declared.Setting.{Setting}
use Rattle.rates.specs.Rates.{code, semr}
use Rattle.sci.specs.declared.Sci.{Sci}
use Rattle.sci.specs.Cycle.{with_remaining, reload}
use Rattle.sci.specs.Calls.{valid, done, after, remaining_after, called, direct}
use Rattle.sci.specs.Laws.{AcceptedPasses}
use Rattle.sci.proofs.Laws.{accepted_passes}
use Rattle.rate_laws.specs.Writes.{written, set_rate, Settable, AtRate, WritesSet}

-- ---- what follows a store
-- the registers that a rate needs, and power, are those of q
abbrev Same : Port → Port → Type 0
Same q r =
    (r.smr ≡ q.smr) × (r.semr ≡ q.semr) × (r.brr ≡ q.brr) × (r.scr ≡ q.scr) × (r.«module» ≡ q.«module») × (r.reset_mode ≡ q.reset_mode) × (r.main ≡ q.main)

module _ (q : Port) where
  starts : StartClosed (Same q)
  starts = free_start (Same q) (λ r t u b s x k. k)

  store_same : (r : Port) → Same q r → Same q (after_store r)
  unfolding after_store
  store_same r k =
      refresh_keeps (Same q) (λ r d b k. k) (arm_receive (try_start (load_tail r)))
      (arm_keeps (Same q) (λ r x k. k) (try_start (load_tail r)) (try_keeps (Same q) starts (load_tail r) (load_tail_keeps (Same q) starts r k)))

  connect_same : (was : Bool) → Same q (connect was q)
  unfolding connect
  connect_same was =
      both_arms (Same q) (not was && external q) _ q (refl, refl, refl, refl, refl, refl, refl) (refl, refl, refl, refl, refl, refl, refl)

write_same : (a v : ℕ) (p : Port) → takes_writes p ≡ true → Same (stored a v p) (write a v p)
unfolding write
write_same a v p h =
    rw h (store_same (stored a v p) (connect (external p) (stored a v p)) (connect_same (stored a v p) (external p)))

-- ---- a write as a direct call
abbrev leaves : ℕ → ℕ → Sci → Sci
leaves a v t = record { port = write a v t.port; baud = with_remaining t.baud (remaining_after (Write a v) t.port t.baud.remaining) }

abbrev Done : ℕ → ℕ → Sci → Type 0
Done a v t = direct (OnPort (Write a v)) t ≡ done 0 (leaves a v t)

module _ (v : ℕ) (t : Sci) (ok : valid t ≡ true) (byte : v < 256) where
  fits : leb v 255 ≡ true
  fits = le-leb v 255 (omega arith)

  smr_done : Done 0xff98 v t
  unfolding direct called port_called
  smr_done = rw (ok, fits)

  semr_done : Done 0xffa6 v t
  unfolding direct called port_called
  semr_done = rw (ok, fits)

  brr_done : Done 0xff99 v t
  unfolding direct called port_called
  brr_done = rw (ok, fits)

-- what is left passes the field test
passes : (a v : ℕ) (t : Sci) → t.port.brr < 256 → Done a v t → valid (leaves a v t) ≡ true
unfolding AcceptedPasses
passes a v t byte e = accepted_passes (OnPort (Write a v)) t (leaves a v t) 0 byte e

-- ---- the three
settable_of : (p q : Port) → q.scr ≡ p.scr → q.«module» ≡ p.«module» → q.reset_mode ≡ p.reset_mode → q.main ≡ p.main → Settable p → Settable q
settable_of p q s m r n h = record { takes = rw (m, r) h.takes; main = n ∙ h.main; own_clock = rw s h.own_clock; off = rw s h.off }

settable_runs : (p : Port) → Settable p → internal p ≡ true
settable_runs p h = rw (and_left p.«module» (not p.reset_mode) h.takes, and_right p.«module» (not p.reset_mode) h.takes, h.main, h.own_clock)

semr_bit : (short_cell : Bool) → has (bit_and (semr short_cell) 8) 8 ≡ short_cell
semr_bit true = refl
semr_bit false = refl

semr_byte : (short_cell : Bool) → semr short_cell < 256
semr_byte true = lit< tt
semr_byte false = lit< tt

module _ (s : Setting) (smr : ℕ) (t : Sci) (ok : valid t ≡ true) (byte : t.port.brr < 256) (ready : Settable t.port) (smr_byte : smr < 256) (brr_byte : s.brr < 256) where
  -- after SMR
  one : Sci
  one = leaves 0xff98 smr t

  one_same : Same (with_smr t.port smr) one.port
  unfolding one stored
  one_same = write_same 0xff98 smr t.port ready.takes

  one_done : Done 0xff98 smr t
  one_done = smr_done smr t ok smr_byte

  one_brr : one.port.brr < 256
  one_brr = rw one_same.2 byte

  one_ok : valid one ≡ true
  unfolding one
  one_ok = passes 0xff98 smr t byte one_done

  one_ready : Settable one.port
  one_ready = settable_of t.port one.port one_same.3 one_same.4 one_same.5 one_same.6 ready

  -- after SEMR
  two : Sci
  two = leaves 0xffa6 (semr s.short_cell) one

  two_same : Same (with_semr one.port (bit_and (semr s.short_cell) 8)) two.port
  unfolding two stored
  two_same = write_same 0xffa6 (semr s.short_cell) one.port one_ready.takes

  two_done : Done 0xffa6 (semr s.short_cell) one
  two_done = semr_done (semr s.short_cell) one one_ok (semr_byte s.short_cell)

  two_ok : valid two ≡ true
  unfolding two
  two_ok = passes 0xffa6 (semr s.short_cell) one one_brr two_done

  two_ready : Settable two.port
  two_ready = settable_of one.port two.port two_same.3 two_same.4 two_same.5 two_same.6 one_ready

  -- after BRR
  three : Sci
  three = leaves 0xff99 s.brr two

  three_same : Same (with_brr two.port s.brr) three.port
  unfolding three stored
  three_same = write_same 0xff99 s.brr two.port two_ready.takes

  three_done : Done 0xff99 s.brr two
  three_done = brr_done s.brr two two_ok brr_byte

  set_is : set_rate s smr t ≡ three
  unfolding one two three
  set_is =
      ap (λ (x : Sci). written 0xff99 s.brr (written 0xffa6 (semr s.short_cell) x)) (ap after one_done)
      ∙ ap (λ (x : Sci). written 0xff99 s.brr x) (ap after two_done) ∙ ap after three_done

  three_full : three.baud.remaining ≡ reload three.port
  unfolding three
  three_full = rw (two_ready.takes, two_ready.off) (ap suc (sym three_same.2))

  three_set : bit_and smr 3 ≡ code s.select → AtRate s three
  three_set e =
      record {
        registers =
            record {
              select = rw (three_same.0, two_same.0, one_same.0) e;
              short_cell = rw (three_same.1, two_same.1) (semr_bit s.short_cell);
              brr = three_same.2;
            };
        runs = settable_runs three.port (settable_of two.port three.port three_same.3 three_same.4 three_same.5 three_same.6 two_ready);
        full = three_full;
      }

pub writes_set : WritesSet
unfolding WritesSet
writes_set s smr t ok byte ready smr_byte e brr_byte = subst⁻¹ (AtRate s) (set_is s smr t ok byte ready smr_byte brr_byte) (three_set s smr t ok byte ready smr_byte brr_byte e)
