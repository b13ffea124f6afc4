-- How many edges of the clock a direct call counts, and that the half count moves by them, where no reset takes it back to 0.
-- Proved in proofs/Edges.antt.
-- Assumes nothing.
use Rattle.std.specs.Prelude.{◌≡◌, ℕ, ◌+◌, Bool, true, false, cond, ◌&&◌, List, [], ◌∷◌}
use Rattle.frame.specs.Frame.{has, one_if}
use Rattle.command.specs.declared.Call.{Call}
use Rattle.command.specs.declared.Call.TheVariants.{Read, Write, Wait, Line, Pins, Power, Inside}
use Rattle.port.specs.declared.Port.{Port}
use Rattle.port.specs.Baud.{internal, edge_counts}
use Rattle.port.specs.Input.{pins_change}
use Rattle.port.specs.Power.{resets as power_resets}
use Rattle.port.specs.Calls.{Answer, done, refused, after, bit, direct, run}

-- the edges that a call counts if it is accepted, by the port before it: each half of a wait on the running internal clock, and an edge of the clock pin
-- where that is the clock
abbrev pub edges : Call → Port → ℕ
edges (Wait n) p = cond (internal p) n 0
edges (Pins clock line) p = one_if (pins_change (bit clock) (bit line) p && edge_counts (bit clock) p)
edges (Read a) p = 0
edges (Write a v) p = 0
edges (Line line) p = 0
edges (Power b) p = 0
edges Inside p = 0

-- it brings a reset
abbrev pub resets : Call → Port → Bool
resets (Power b) p = power_resets (has b 1) (has b 8) p
resets (Read a) p = false
resets (Write a v) p = false
resets (Wait n) p = false
resets (Line line) p = false
resets (Pins clock line) p = false
resets Inside p = false

-- an accepted call moves the half count by exactly its edges; after a reset it is 0
unfoldable pub EdgesMoveHalfCount : Type 0
EdgesMoveHalfCount = (c : Call) (p q : Port) (v : ℕ) → direct c p ≡ done v q → q.half ≡ cond (resets c p) 0 (p.half + edges c p)

unfoldable pub ResetsCountNone : Type 0
ResetsCountNone = (c : Call) (p : Port) → resets c p ≡ true → edges c p ≡ 0

-- ---- lists of direct calls, each on the port that the one before left; one that is refused counts none
abbrev pub edges_by : Call → Port → Answer → ℕ
edges_by c p (done v q) = edges c p
edges_by c p (refused n offset q) = 0

unfoldable pub edges_of : Port → List Call → ℕ
edges_of p [] = 0
edges_of p (c ∷ cs) = edges_by c p (direct c p) + edges_of (after (direct c p)) cs

-- no call, on the port that the one before left, brings a reset
abbrev pub NoReset : Port → List Call → Type 0
NoReset p [] = Unit {0}
NoReset p (c ∷ cs) = (resets c p ≡ false) × NoReset (after (direct c p)) cs

-- then the half count moves by the edges of all
unfoldable pub RunsMoveHalfCount : Type 0
RunsMoveHalfCount = (cs : List Call) (p : Port) → NoReset p cs → (run p cs).half ≡ p.half + edges_of p cs
