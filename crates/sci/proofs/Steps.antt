-- What the field test says of the clock's numbers, and what an accepted call of the port says of its operands.
-- Assumes nothing.
use mathlib.Core.Path.{◌≡◌, sym, subst}
use mathlib.Core.Bool.{true}
use Prim.Native.Nat.{ℕ, ◌≤◌, ◌<◌}
use native.Mathlib.Omega.{arith}
use lib.Dec.{leb}
use borrow.Author.Tests.{leb-true}
use Rattle.branches.proofs.Branches.{by_cond}
use Rattle.frame.proofs.Truth.{and_left, and_right}
use Rattle.command.specs.declared.Call.{Call}
use Rattle.command.specs.declared.Command.TheVariants.{OnPort}
use Rattle.command.specs.declared.Source.{Source}
use Rattle.command.specs.declared.Source.TheVariants.{System, Watch}
use Rattle.command.specs.Command.{in_range}
use Rattle.port.specs.declared.Port.{Port}
use Rattle.port.specs.Valid.{valid as port_valid}
use Rattle.port.specs.Calls.{Answer, done, refused, ranged, called}
use Rattle.sci.specs.declared.Sci.{Sci}
use Rattle.sci.specs.declared.Baud.{Baud}
use Rattle.sci.specs.Cycle.{total}
use Rattle.sci.specs.Calls.{most, baud_valid, valid}

-- ---- the field test
pub record Sound (b : Baud) : Type 0 where
  pub some : 0 < b.remaining
  pub few : b.remaining ≤ 256
  pub system : b.system ≤ most
  pub watch : b.watch ≤ most

sound_of : (b : Baud) → baud_valid b ≡ true → Sound b
unfolding baud_valid
sound_of b e =
    let one = leb 1 b.remaining in
    let two = leb b.remaining 256 in
    let three = leb b.system most in
    let four = leb b.watch most in
    let rest = and_right one _ e in
    let last = and_right two _ rest in
    record {
      some = omega (arith, leb-true 1 b.remaining (and_left one _ e));
      few = leb-true b.remaining 256 (and_left two _ rest);
      system = leb-true b.system most (and_left three _ last);
      watch = leb-true b.watch most (and_right three _ last);
    }

pub sound : (s : Sci) → valid s ≡ true → Sound s.baud
sound s e = sound_of s.baud (and_right (port_valid s.port) (baud_valid s.baud) e)

pub port_passes : (s : Sci) → valid s ≡ true → port_valid s.port ≡ true
port_passes s e = and_left (port_valid s.port) (baud_valid s.baud) e

pub remaining_some : (s : Sci) → valid s ≡ true → 0 < s.baud.remaining
remaining_some s e = (sound s e).some

pub remaining_few : (s : Sci) → valid s ≡ true → s.baud.remaining ≤ 256
remaining_few s e = (sound s e).few

pub total_within : (source : Source) (s : Sci) → valid s ≡ true → total source s.baud ≤ most
total_within System s e = (sound s e).system
total_within Watch s e = (sound s e).watch

-- ---- an accepted call of the port is in range
abbrev Ranged : Call → Answer → Type 0
Ranged c (done v q) = in_range (OnPort c) ≡ true
Ranged c (refused n offset q) = Unit {0}

ranged_of : (c : Call) (p : Port) → Ranged c (called c p)
unfolding called
ranged_of c p = by_cond (Ranged c) (in_range (OnPort c)) _ _ (λ e. ranged_in (ranged _ c p) e) (λ e. tt)
  where
    ranged_in : (a : Answer) → in_range (OnPort c) ≡ true → Ranged c a
    ranged_in (done v q) e = e
    ranged_in (refused n offset q) e = tt

pub accepted_in_range : (c : Call) (p q : Port) (v : ℕ) → done v q ≡ called c p → in_range (OnPort c) ≡ true
accepted_in_range c p q v e = subst (Ranged c) (sym e) (ranged_of c p)
