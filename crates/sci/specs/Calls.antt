-- The direct calls of kinds 1 to 9 on the port with its clock (document 01, "A script comes in"; document 02, "Two"), with the refusals 8, 2, 1, 3, 10, 4 in
-- that order.
-- Assumes nothing.
use Rattle.std.specs.Prelude.{Result, Ok, Err, ℕ, suc, ◌+◌, Bool, cond, not, ◌&&◌, ◌==◌, nat_le}
use Rattle.command.specs.declared.Call.{Call}
use Rattle.command.specs.declared.Call.TheVariants.{Read, Write, Wait, Line, Pins, Power, Inside}
use Rattle.command.specs.declared.Command.{Command}
use Rattle.command.specs.declared.Command.TheVariants.{OnPort, Cycles}
use Rattle.command.specs.Command.{in_range}
use Rattle.frame.specs.Frame.{has}
use Rattle.port.specs.declared.Port.{Port}
use Rattle.port.specs.declared.Outcome.{Outcome}
use Rattle.port.specs.Baud.{internal}
use Rattle.port.specs.Registers.{takes_writes}
use Rattle.port.specs.Power.{resets, fresh as fresh_port}
use Rattle.port.specs.Valid.{limit, valid as port_valid}
use Rattle.port.specs.Calls.{number as port_number, Answer as PortAnswer, done as port_done, refused as port_refused, called as port_called}
use Rattle.port_laws.specs.Edges.{edges as port_edges}
use Rattle.sci.specs.declared.Baud.{Baud}
use Rattle.sci.specs.declared.Sci.{Sci}
use Rattle.sci.specs.declared.Refusal.{Refusal}
use Rattle.sci.specs.declared.Refusal.TheVariants.{OfPort, Total}
use Rattle.sci.specs.declared.Called.{Called}
use Rattle.sci.specs.Cycle.{total, with_remaining, reload, cycles, halves_counted}

-- the state that every run begins with: no cycle has passed, and a full count of a BRR of 255 waits
unfoldable pub fresh : Sci
fresh = record { port = fresh_port; baud = record { remaining = 256; system = 0; watch = 0 } }

-- "Refused: 10, a cycle total past 281,474,976,710,656"
abbrev pub most : ℕ
most = 281474976710656

-- "The field test asks 1 to 256 ticks left and both totals within number 10."
unfoldable pub baud_valid : Baud → Bool
baud_valid b = nat_le 1 b.remaining && (nat_le b.remaining 256 && (nat_le b.system most && nat_le b.watch most))

abbrev pub valid : Sci → Bool
valid s = port_valid s.port && baud_valid s.baud

-- accepted, with the value read (else 0) and the state after the call; or refused, with the documents' number, the offset, and the state as it was
pub data Answer : Type 0 where
  done : ℕ → Sci → Answer
  refused : ℕ → ℕ → Sci → Answer

-- the state that a call leaves
abbrev pub after : Answer → Sci
after (done v s) = s
after (refused n offset s) = s

-- a direct call is at offset 0
abbrev pub refuse : ℕ → Sci → Answer
refuse n s = refused n 0 s

-- ---- kinds 1 to 7: the port's own call, and what it does to the ticks that remain
-- "BRR written with TE and RE off restarts the count"; "kind 3 passes no cycles and each half it counts leaves a full count waiting"; a reset leaves the
-- fresh count; nothing else changes it
abbrev pub remaining_after : Call → Port → ℕ → ℕ
remaining_after (Write a v) p n = cond (a == 0xff99 && (takes_writes p && not (has p.scr 0x30))) (suc v) n
remaining_after (Wait halves) p n = cond (internal p && not (halves == 0)) (reload p) n
remaining_after (Power b) p n = cond (resets (has b 1) (has b 8) p) 256 n
remaining_after (Read a) p n = n
remaining_after (Line line) p n = n
remaining_after (Pins clock line) p n = n
remaining_after Inside p n = n

abbrev pub lifted : Call → Sci → PortAnswer → Answer
lifted c s (port_done v q) = done v (record { port = q; baud = with_remaining s.baud (remaining_after c s.port s.baud.remaining) })
lifted c s (port_refused n offset q) = refused n offset s

-- ---- all kinds
-- 10 asks about the total of the command's own clock, 4 about the half count after all cycles; both come before the first cycle
unfoldable pub called : Command → Sci → Answer
called (OnPort c) s = lifted c s (port_called c s.port)
called (Cycles source n) s =
    cond (in_range (Cycles source n))
    (cond (nat_le (total source s.baud + n) most)
    (cond (nat_le (cycles source n s).port.half limit) (done 0 (cycles source n s)) (refuse 4 s))
    (refuse 10 s))
    (refuse 2 s)

-- a direct call: test 8 first
unfoldable pub direct : Command → Sci → Answer
direct c s = cond (valid s) (called c s) (refuse 8 s)

-- the edges that a call counts if it is accepted, by the state before it
abbrev pub edges : Command → Sci → ℕ
edges (OnPort c) s = port_edges c s.port
edges (Cycles source n) s = halves_counted source n s

-- ---- the code's answers, in the documents' numbers
abbrev pub number : Refusal → ℕ
number (OfPort refusal) = port_number refusal
number Total = 10

-- what a call on a state in its place answers, and that state after it
abbrev pub answered : Result Outcome Refusal → Sci → Answer
answered (Ok r) s = done r.value s
answered (Err refusal) s = refuse (number refusal) s

-- a refusal leaves the state as it was
abbrev pub answer : Sci → Result Called Refusal → Answer
answer s (Ok r) = done r.value r.sci
answer s (Err refusal) = refuse (number refusal) s
