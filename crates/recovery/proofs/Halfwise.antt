-- The trace of a list of direct calls, once more, as the proofs go along it: by the half step, with the line that the port itself holds.
-- That it is the trace of specs/Recovery.antt is shown in Bridge.
-- Assumes nothing.
use mathlib.Core.Path.{◌≡◌, refl}
use Prim.Native.Nat.{ℕ, zero, suc}
use mathlib.Core.Bool.{true, cond}
use mathlib.Core.List.{List, [], ◌∷◌, ◌++◌}
use lib.Dec.{eqb}
use Rattle.port.specs.declared.Port.{Port}
use Rattle.port.specs.Baud.{internal}
use Rattle.port.specs.Calls.{Answer, after, direct, done, refused}
use Rattle.command.specs.declared.Call.{Call}
use Rattle.command.specs.declared.Call.TheVariants.{Wait, Inside, Read, Line, Pins, Power, Write}
use Rattle.port.specs.Half.{half_step}
use Rattle.port.specs.Receiver.{input_level}
use Rattle.recovery.specs.Line.{half_passes, other, rdr_read}
use Rattle.recovery.specs.Recovery.{Moment, allowed_in_rest, completes, one_moment}

unfoldable pub half_moments : ℕ → Port → List Moment
half_moments zero p = []
half_moments (suc n) p = record { event = half_passes (input_level p) (completes p); port = half_step p } ∷ half_moments n (half_step p)

abbrev pub half_waits : ℕ → Answer → Port → List Moment
half_waits n (done v q) p = cond (internal p) (half_moments n p) (one_moment (λ v. other) (done v q))
half_waits n (refused k offset q) p = []

abbrev pub moments_of : Call → Answer → Port → List Moment
moments_of (Wait n) a p = half_waits n a p
moments_of (Read x) a p = one_moment (λ v. cond (eqb x 0xff9d) (rdr_read v) other) a
moments_of (Write x v) a p = one_moment (λ v. other) a
moments_of (Line b) a p = one_moment (λ v. other) a
moments_of (Pins c b) a p = one_moment (λ v. other) a
moments_of (Power b) a p = one_moment (λ v. other) a
moments_of Inside a p = one_moment (λ v. other) a

-- a refused call has none
pub none_refused : (c : Call) (n offset : ℕ) (q p : Port) → moments_of c (refused n offset q) p ≡ []
none_refused (Wait k) n offset q p = refl
none_refused (Read x) n offset q p = refl
none_refused (Write x v) n offset q p = refl
none_refused (Line b) n offset q p = refl
none_refused (Pins c b) n offset q p = refl
none_refused (Power b) n offset q p = refl
none_refused Inside n offset q p = refl

-- the moments of a list of calls
unfoldable pub moments : Port → List Call → List Moment
moments p [] = []
moments p (c ∷ cs) = moments_of c (direct c p) p ++ moments (after (direct c p)) cs

-- what is asked of each call: of its answer, and of the port after it
abbrev pub each_call : (Call → Answer → Port → Type 0) → Port → List Call → Type 0
each_call P p [] = Unit {0}
each_call P p (c ∷ cs) = P c (direct c p) (after (direct c p)) × each_call P (after (direct c p)) cs

abbrev pub rests : Call → Answer → Port → Type 0
rests c a q = allowed_in_rest c a × (input_level q ≡ true)
