-- The elements of a lent slice of `u8` are bytes. The toolchain says it only inside the proof of a function that has the slice, index by index, as
-- `c.shared-slice-known.given` (of a `&mut` slice `c.slice-known.given`); from that form come `Bytes` and the claims that ask for it.
-- Assumes nothing.
use mathlib.Core.Path.{◌≡◌}
use mathlib.Core.List.{List, [], ◌∷◌}
use Prim.Native.Nat.{ℕ, suc, ◌≤◌}
use native.Mathlib.Omega.{arith}
use lib.ListN.{get_or}
use mir.Syntax.{w8}
use mir.Val.{Fits}
use Rattle.command.specs.declared.Command.{Command}
use Rattle.script.specs.Number.{finds, number_at}
use Rattle.script.specs.Encode.{encode}
use Rattle.script.specs.Command.{command_at}
use Rattle.script.specs.Write.{bytes}
use Rattle.command.specs.Command.{InRange}
use Rattle.script.specs.RoundTrip.{largest, Bytes, Stands}
use Rattle.script.proofs.Numbers.{numbers_are_encodings}
use Rattle.script.proofs.Commands.{commands_are_encodings}

pub slice_bytes : (s : List ℕ) → ((i : ℕ) → Fits w8 (get_or s i 0)) → Bytes s
slice_bytes [] h = tt
slice_bytes (b ∷ s) h = (omega (arith, h 0), slice_bytes s (λ i. h (suc i)))

module _ (s : List ℕ) (h : (i : ℕ) → Fits w8 (get_or s i 0)) (at next : ℕ) where
  pub slice_number : (v : ℕ) → number_at s at ≡ finds v next → Stands (encode v) s at next × (v ≤ largest)
  slice_number v e = numbers_are_encodings s at v next (slice_bytes s h) e

  pub slice_command : (c : Command) → command_at s at ≡ finds c next → Stands (bytes c) s at next × InRange c
  slice_command c e = commands_are_encodings s at next c (slice_bytes s h) e
