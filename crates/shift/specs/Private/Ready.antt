-- What the port's private steps ask of words, formats and cells, so that no sum wraps and no shift is too wide. Also the tests on a receive position that
-- the code makes, as Bools.
-- Assumes nothing.
use Rattle.std.specs.Prelude.{ℕ, ◌≤◌, ◌<◌, Bool, true, false, ◌&&◌, ◌≡◌, T, eqb, ℤ, pos, negsuc, Option, None, Some}
use Rattle.std.specs.Int.Signed.{lt_z, le_z}
use Rattle.frame.specs.declared.Format.{Format}
use Rattle.frame.specs.Frame.{stop}
use Rattle.shift.specs.declared.Character.{Character}
use Rattle.shift.specs.declared.Tx.{Tx}
use Rattle.shift.specs.declared.Tx.TheVariants.{Off, Blocked, Mark, Start, Data, Tail}
use Rattle.shift.specs.declared.Rx.{Rx}
use Rattle.shift.specs.Valid.{position_valid}

-- a format's lengths
pub record Bounded (f : Format) : Type 0 where
  pub data≤8 : f.«data» ≤ 8
  pub stops≥1 : 1 ≤ f.stops
  pub stops≤2 : f.stops ≤ 2
  pub half≤32 : f.half_bit ≤ 32
  pub half≥16 : 16 ≤ f.half_bit

-- only a start-stop word has a due half
abbrev pub Plain : Option ℕ → Bool → Type 0
Plain None synchronous = Unit
Plain (Some n) synchronous = synchronous ≡ false

-- a word in the receiver: -2 to data bits plus parity, or 0 to 7 with clocked form
pub record Placed (r : Rx) : Type 0 where
  pub bounded : Bounded r.format
  pub place : position_valid r.position r.format ≡ true
  pub plain : Plain r.next r.format.synchronous

-- its position is one of a byte's bits
pub record Shiftable (r : Rx) : Type 0 where
  pub from_zero : T (le_z (pos 0) r.position)
  pub below_eight : T (lt_z r.position (pos 8))

abbrev pub PlacedIn : Option Rx → Type 0
PlacedIn None = Unit
PlacedIn (Some r) = Placed r

abbrev pub LoadedBounded : Option Character → Type 0
LoadedBounded None = Unit
LoadedBounded (Some ch) = Bounded ch.format

-- a cell of a word that is being sent: with a due half a start-stop word's, below its stop cell; with none a clocked one's
abbrev pub Below : Option ℕ → Format → ℕ → Type 0
Below None f cell = cell ≤ 7
Below (Some n) f cell = cell < stop f

abbrev pub Sendable : Tx → Type 0
Sendable Off = Unit
Sendable (Blocked ch) = Bounded ch.format
Sendable (Mark next) = Unit
Sendable (Start ch next) = Bounded ch.format
Sendable (Data ch cell next) = Bounded ch.format × Below next ch.format cell
Sendable (Tail l next) = LoadedBounded l

-- ---- tests on a position
abbrev pub eqZ : ℤ → ℤ → Bool
eqZ (pos m) (pos n) = eqb m n
eqZ (negsuc m) (negsuc n) = eqb m n
eqZ (pos m) (negsuc n) = false
eqZ (negsuc m) (pos n) = false

-- it waits for a falling phase; for the middle of the start cell; for a data cell; for the parity cell
unfoldable pub falling : Rx → Bool
falling r = eqZ r.position (negsuc 1)

unfoldable pub starting : Rx → Bool
starting r = eqZ r.position (negsuc 0)

unfoldable pub in_data : Rx → Bool
in_data r = lt_z r.position (pos r.format.«data»)

unfoldable pub at_parity : Rx → Bool
at_parity r = eqZ r.position (pos r.format.«data») && r.format.parity
