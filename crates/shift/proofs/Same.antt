-- Two structs are equal where their fields are.
-- Written by tools/generate from other text, which it follows: it need not be read, and is not to be edited.
-- Assumes nothing.
use mathlib.Core.Path.{◌≡◌}
use Prim.Native.Nat.{ℕ}
use Rattle.frame.specs.declared.Format.{Format}
use Rattle.shift.specs.declared.Character.{Character}

pub same_character : (a0 b0 : Format) (a1 b1 : ℕ) → a0 ≡ b0 → a1 ≡ b1 → ◌≡◌ {A = Character} (record { format = a0; word = a1 }) (record { format = b0; word = b1 })
same_character a0 b0 a1 b1 p0 p1 = λ i. record { format = p0 i; word = p1 i }
