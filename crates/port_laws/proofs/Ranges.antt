-- The theorems of specs/Ranges.antt, and what the field test says of the three registers that it bounds.
-- Assumes nothing.
use mathlib.Core.Path.{◌≡◌, subst}
use Prim.Native.Nat.{ℕ, ◌+◌, ◌<◌}
use native.Mathlib.Omega.{arith}
use mathlib.Core.Bool.{Bool, true, cond, ◌&&◌}
use mathlib.Core.List.{List, [], ◌∷◌}
use lib.Dec.{eqb, leb, lit<}
use lib.Bits.{bit_and, and_le_r}
use borrow.Author.Tests.{leb-true}
use Rattle.frame.specs.Frame.{has}
use Rattle.frame.proofs.Truth.{and_right}
use Rattle.port.specs.declared.Port.{Port}
use Rattle.port.specs.Baud.{internal, edge_counts}
use Rattle.port.specs.Registers.{handles, peek}
use Rattle.port.specs.Power.{fresh}
use Rattle.port.specs.Input.{pins_change}
use Rattle.port.specs.Valid.{limit, valid}
use Rattle.command.specs.declared.Call.{Call}
use Rattle.command.specs.declared.Call.TheVariants.{Read, Write, Wait, Line, Pins, Power, Inside}
use Rattle.port.specs.Calls.{Answer, done, refused, after, refuse, bit, called, direct, run}
use Rattle.port_laws.specs.Ranges.{InRange, FreshInRange, KeepsRanges, AnswersAByte, GrownInRange}
use Rattle.branches.proofs.Branches.{by_cond, both_arms}
use Rattle.port.proofs.Checked.{valid_ready}
use Rattle.port_laws.proofs.KeepReceiver.{Storable}
use Rattle.port_laws.proofs.KeepValid.{valid_sound}
use Rattle.port_laws.proofs.KeepRanges.{Within, or_byte, in_read, in_write, in_halves, in_uncounted, in_line, in_pins, in_power, in_fresh}

-- ---- the three registers
pub record Three (p : Port) : Type 0 where
  pub spcr< : p.spcr < 256
  pub semr< : p.semr < 256
  pub ircr< : p.ircr < 256

pub three : (p : Port) → valid p ≡ true → Three p
three p e =
    let s : Storable p.spcr p.scr p.semr p.ircr = (valid_sound p e).kept.ok.side.stored in
    let low : bit_and p.spcr 0x13 < 256 = omega (arith, and_le_r p.spcr 0x13) in
    record {
      spcr< = subst (λ (n : ℕ). n < 256) s.spcr_bits (or_byte (bit_and p.spcr 0x13) 0xc0 low (lit< tt));
      semr< = omega (arith, s.semr_bits, and_le_r p.semr 8);
      ircr< = omega (arith, s.ircr_bits, and_le_r p.ircr 0x70);
    }

-- ---- every call
abbrev WithinAfter : Answer → Type 0
WithinAfter r = Within (after r)

called_within : (c : Call) (p : Port) → valid p ≡ true → InRange p → WithinAfter (called c p)
unfolding called
called_within c p e k = go c
  where
    same : Within p
    same = record { ranges = k }

    go : (c : Call) → WithinAfter (called c p)
    go (Read a) = both_arms WithinAfter (leb a 65535) _ _ (both_arms WithinAfter (handles a) _ _ (record { ranges = in_read p k a }) same) same
    go (Write a v) =
        by_cond WithinAfter (leb a 65535 && leb v 255) _ _
        (λ f. let small : v < 256 = omega (arith, leb-true v 255 (and_right (leb a 65535) (leb v 255) f)) in
        both_arms WithinAfter (handles a) _ _ (both_arms WithinAfter (eqb a 0xffa7 && leb 128 v) _ _ same (record { ranges = in_write a v p small k })) same) (λ f. same)
    go (Wait n) =
        both_arms WithinAfter (leb n 65535) _ _
        (both_arms WithinAfter (internal p) _ _
        (by_cond WithinAfter (leb (p.half + n) limit) _ _ (λ f. record { ranges = in_halves n p.half p (valid_ready p e) k (leb-true (p.half + n) limit f) }) (λ f. same))
        (record { ranges = in_uncounted n p k })) same
    go (Line line) = both_arms WithinAfter (leb line 1) _ _ (record { ranges = in_line (bit line) p k }) same
    go (Pins clock line) =
        both_arms WithinAfter (leb clock 1 && leb line 1) _ _
        (by_cond WithinAfter (pins_change (bit clock) (bit line) p && (edge_counts (bit clock) p && leb limit p.half)) _ _ (λ f. same)
        (λ f. record { ranges = in_pins (bit clock) (bit line) p (valid_ready p e) k f })) same
    go (Power b) = both_arms WithinAfter (leb b 15) _ _ (record { ranges = in_power (has b 1) (has b 2) (has b 4) (has b 8) p k }) same
    go Inside = record { ranges = k }

pub direct_in_range : (c : Call) (p : Port) → InRange p → Within (after (direct c p))
unfolding direct
direct_in_range c p k =
    by_cond WithinAfter (valid p) (called c p) (refuse 8 p) (λ e. called_within c p e k) (λ e. record { ranges = k })

pub fresh_in_range : FreshInRange
unfolding FreshInRange
fresh_in_range = in_fresh

pub keeps_ranges : KeepsRanges
unfolding KeepsRanges
keeps_ranges c p q v k r = (subst WithinAfter r (direct_in_range c p k)).ranges

pub run_in_range : (cs : List Call) (p : Port) → InRange p → InRange (run p cs)
unfolding run
run_in_range [] p k = k
run_in_range (c ∷ cs) p k = run_in_range cs (after (direct c p)) (direct_in_range c p k).ranges

pub grown_in_range : GrownInRange
unfolding GrownInRange
grown_in_range cs = run_in_range cs fresh in_fresh

-- ---- the answer
abbrev Byte : Answer → Type 0
Byte (done v q) = v < 256
Byte (refused n offset q) = Unit {0}

peek_byte : (p : Port) (a : ℕ) → valid p ≡ true → InRange p → peek p a < 256
unfolding peek
peek_byte p a e k =
    let t : Three p = three p e in
    arm (eqb a 0xff91) _ _ t.spcr<
    (arm (eqb a 0xff98) _ _ k.smr<
    (arm (eqb a 0xff99) _ _ k.brr<
    (arm (eqb a 0xff9a) _ _ k.scr<
    (arm (eqb a 0xff9b) _ _ k.tdr<
    (arm (eqb a 0xff9c) _ _ k.ssr<
    (arm (eqb a 0xff9d) _ _ k.rdr<
    (arm (eqb a 0xffa6) _ _ t.semr< t.ircr<)))))))
  where
    arm : (b : Bool) (x y : ℕ) → x < 256 → y < 256 → cond b x y < 256
    arm = both_arms (λ (n : ℕ). n < 256)

called_byte : (c : Call) (p : Port) → valid p ≡ true → InRange p → Byte (called c p)
unfolding called
called_byte (Read a) p e k = both_arms Byte (leb a 65535) _ _ (both_arms Byte (handles a) _ _ (peek_byte p a e k) tt) tt
called_byte (Write a v) p e k =
    both_arms Byte (leb a 65535 && leb v 255) _ _ (both_arms Byte (handles a) _ _ (both_arms Byte (eqb a 0xffa7 && leb 128 v) _ _ tt (lit< tt)) tt) tt
called_byte (Wait n) p e k =
    both_arms Byte (leb n 65535) _ _ (both_arms Byte (internal p) _ _ (both_arms Byte (leb (p.half + n) limit) _ _ (lit< tt) tt) (lit< tt)) tt
called_byte (Line line) p e k = both_arms Byte (leb line 1) _ _ (lit< tt) tt
called_byte (Pins clock line) p e k =
    both_arms Byte (leb clock 1 && leb line 1) _ _
    (both_arms Byte (pins_change (bit clock) (bit line) p && (edge_counts (bit clock) p && leb limit p.half)) _ _ tt (lit< tt)) tt
called_byte (Power b) p e k = both_arms Byte (leb b 15) _ _ (lit< tt) tt
called_byte Inside p e k = lit< tt

pub answers_a_byte : AnswersAByte
unfolding AnswersAByte direct
answers_a_byte c p q v k r =
    subst Byte r (by_cond Byte (valid p) (called c p) (refuse 8 p) (λ e. called_byte c p e k) (λ e. tt))
