-- The direct calls of kinds 1 to 7 (document 01, "A script comes in"), with the refusals 8, 2, 1, 3, 4 in that order.
-- Assumes nothing.
use Rattle.std.specs.Prelude.{Result, Ok, Err, ℕ, ◌+◌, Bool, cond, not, ◌&&◌, List, [], ◌∷◌, ◌==◌, nat_le}
use Rattle.command.specs.declared.Call.{Call}
use Rattle.command.specs.declared.Command.TheVariants.{OnPort}
use Rattle.command.specs.declared.Call.TheVariants.{Read, Write, Wait, Line, Pins, Power, Inside}
use Rattle.command.specs.Command.{in_range}
use Rattle.frame.specs.Frame.{has}
use Rattle.port.specs.declared.Port.{Port}
use Rattle.port.specs.declared.Refusal.{Refusal}
use Rattle.port.specs.declared.Refusal.TheVariants.{Address, Operand, Infrared, Count, State}
use Rattle.port.specs.declared.Called.{Called}
use Rattle.port.specs.declared.Outcome.{Outcome}
use Rattle.port.specs.Baud.{internal, edge_counts}
use Rattle.port.specs.Half.{halves, uncounted, inside}
use Rattle.port.specs.Registers.{handles, peek, read, write}
use Rattle.port.specs.Power.{set_power}
use Rattle.port.specs.Input.{receive_input, pins_change, input_pins}
use Rattle.port.specs.Valid.{limit, valid}

-- accepted, with the value read (else 0) and the port after the call; or refused, with document 01's number, the offset, and the port as it was
pub data Answer : Type 0 where
  done : ℕ → Port → Answer
  refused : ℕ → ℕ → Port → Answer

-- the port that a call leaves
abbrev pub after : Answer → Port
after (done v q) = q
after (refused n offset q) = q

-- a direct call is at offset 0
abbrev pub refuse : ℕ → Port → Answer
refuse n p = refused n 0 p

-- an operand 0 or 1 as a level
abbrev pub bit : ℕ → Bool
bit n = not (n == 0)

-- the tests 1, 3 and 4, and the call, for operands in range; the greatest half count is an argument
abbrev pub ranged : ℕ → Call → Port → Answer
ranged most (Read a) p = cond (handles a) (done (peek p a) (read a p)) (refuse 1 p)
ranged most (Write a v) p = cond (handles a) (cond (a == 0xffa7 && nat_le 128 v) (refuse 3 p) (done 0 (write a v p))) (refuse 1 p)
ranged most (Wait n) p =
    cond (internal p) (cond (nat_le (p.half + n) most) (done 0 (halves n p)) (refuse 4 p)) (done 0 (uncounted n p))
ranged most (Line line) p = done 0 (receive_input (bit line) p)
ranged most (Pins clock line) p =
    cond (pins_change (bit clock) (bit line) p && (edge_counts (bit clock) p && nat_le most p.half)) (refuse 4 p)
    (done 0 (input_pins (bit clock) (bit line) p))
ranged most (Power b) p = done 0 (set_power (has b 1) (has b 2) (has b 4) (has b 8) p)
ranged most Inside p = done 0 (inside p)

-- test 2 first, by the table of kinds
abbrev pub called_within : ℕ → Call → Port → Answer
called_within most c p = cond (in_range (OnPort c)) (ranged most c p) (refuse 2 p)

unfoldable pub called : Call → Port → Answer
called c p = called_within limit c p

-- a direct call: test 8 first
unfoldable pub direct : Call → Port → Answer
direct c p = cond (valid p) (called c p) (refuse 8 p)

-- the port after a list of direct calls: each gets the port that the one before left
unfoldable pub run : Port → List Call → Port
run p [] = p
run p (c ∷ cs) = run (after (direct c p)) cs

-- ---- the code's answers, in document 01's numbers
abbrev pub number : Refusal → ℕ
number Address = 1
number Operand = 2
number Infrared = 3
number Count = 4
number State = 8

-- what a call on a port in its place answers, and that port after it
abbrev pub answered : Result Outcome Refusal → Port → Answer
answered (Ok r) p = done r.value p
answered (Err refusal) p = refuse (number refusal) p

-- a refusal leaves the port as it was
abbrev pub answer : Port → Result Called Refusal → Answer
answer p (Ok r) = done r.value r.port
answer p (Err refusal) = refuse (number refusal) p
