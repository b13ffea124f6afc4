-- A call that is accepted keeps the field test, by the port that it leaves and the clock's numbers after it.
-- Assumes nothing.
use Rattle.std.proofs.Common.{◌≡◌, ℕ, ◌+◌, ◌≤◌, ◌<◌, Bool, true, sym, subst, arith}
use Rattle.std.proofs.lemmas.Bool.Decides.{nat_tests}
use Rattle.frame.proofs.Truth.{and_both}
use Rattle.command.specs.declared.Call.{Call}
use Rattle.command.specs.declared.Source.{Source}
use Rattle.command.specs.declared.Source.TheVariants.{System, Watch}
use Rattle.port.specs.declared.Port.{Port}
use Rattle.port.specs.Fields.{with_edge}
use Rattle.port.specs.Valid.{registers_valid, valid as port_valid}
use Rattle.port.specs.Calls.{Answer, done, after, called}
use Rattle.port_laws.proofs.Laws.{called_valid}
use Rattle.sci.specs.declared.Baud.{Baud}
use Rattle.sci.specs.declared.Sci.{Sci}
use Rattle.sci.specs.Cycle.{total, advanced, with_remaining}
use Rattle.sci.specs.Calls.{most, baud_valid, valid}
use Rattle.sci.proofs.Steps.{Sound, sound, port_passes}

pub sound_passes : (b : Baud) → Sound b → baud_valid b ≡ true
unfolding baud_valid
sound_passes b h = grind (arith, nat_tests)

module _ (s : Sci) (t : valid s ≡ true) (c : Call) (v : ℕ) (q : Port) (e : done v q ≡ called c s.port) where
  port_kept : port_valid q ≡ true
  port_kept = subst (λ (a : Answer). port_valid (after a) ≡ true) (sym e) (called_valid c s.port (port_passes s t))

  -- kinds 1 to 7
  pub on_port_kept : (n : ℕ) → 0 < n → n ≤ 256 → valid (record { port = q; baud = with_remaining s.baud n }) ≡ true
  on_port_kept n h g =
      let k : Sound s.baud = sound s t in
      and_both (port_valid q) _ port_kept (sound_passes _ (record { some = h; few = g; system = k.system; watch = k.watch }))

  pub plain_kept : valid (record { port = q; baud = s.baud }) ≡ true
  plain_kept = let k : Sound s.baud = sound s t in on_port_kept s.baud.remaining k.some k.few

  -- n cycles, with any edge bit
  pub cycles_kept : (source : Source) (m n : ℕ) (b : Bool) (a : Baud) → a ≡ advanced source m s.baud → total source s.baud + m ≤ most → 0 < n → n ≤ 256 →
      valid (record { port = with_edge q b; baud = with_remaining a n }) ≡ true
  unfolding port_valid registers_valid
  cycles_kept source m n b a d r h g = and_both (port_valid q) _ port_kept (sound_passes _ (subst (λ (x : Baud). Sound (with_remaining x n)) (sym d) (go source r)))
    where
      k : Sound s.baud
      k = sound s t

      go : (c : Source) → total c s.baud + m ≤ most → Sound (with_remaining (advanced c m s.baud) n)
      go System l = record { some = h; few = g; system = l; watch = k.watch }
      go Watch l = record { some = h; few = g; system = k.system; watch = l }
