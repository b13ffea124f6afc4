-- n cycles at once: halves, what remains and the edge bit by arithmetic (Count.antt), and the port's own halves (port's Half.antt).
-- Assumes nothing.
use Rattle.std.specs.Prelude.{◌≡◌, ℕ, zero, suc, ◌<◌, Bool, true, cond, ◌&&◌, ltb}
use Rattle.command.specs.declared.Source.{Source}
use Rattle.port.specs.declared.Port.{Port}
use Rattle.port.specs.Baud.{internal}
use Rattle.port.specs.Half.{halves, inside}
use Rattle.sci.specs.declared.Baud.{Baud}
use Rattle.sci.specs.declared.Sci.{Sci}
use Rattle.sci.specs.Count.{ticks_in, halves_in, left_in}
use Rattle.sci.specs.Cycle.{chosen, divider, total, advanced, with_remaining, reload, cycles}

-- cycles of the clock are ticks where they are multiples of the divider
abbrev pub counts : Source → Port → Bool
counts source p = internal p && chosen source p.smr

-- the halves that n cycles count, and the ticks that remain after them
unfoldable pub halves_passed : Source → ℕ → Port → Baud → ℕ
halves_passed source n p b = cond (counts source p) (halves_in b.remaining (reload p) (ticks_in (divider p.smr) (total source b) n)) 0

unfoldable pub left_passed : Source → ℕ → Port → Baud → ℕ
left_passed source n p b =
    cond (counts source p) (left_in b.remaining (reload p) (ticks_in (divider p.smr) (total source b) n)) b.remaining

-- no cycle passes, or the last one counts a half: n + 1 cycles count more halves than n
abbrev pub on_edge : (ℕ → ℕ) → ℕ → Bool
on_edge f zero = true
on_edge f (suc n) = ltb (f n) (f (suc n))

unfoldable pub at_edge : Source → ℕ → Port → Baud → Bool
at_edge source n p b = on_edge (λ k. halves_passed source k p b) n

-- the edge bit is kept, or cleared
abbrev pub edge_kept : Bool → Port → Port
edge_kept b q = cond b q (inside q)

-- the clocks after n cycles
abbrev pub baud_passed : Source → ℕ → Port → Baud → Baud
baud_passed source n p b = with_remaining (advanced source n b) (left_passed source n p b)

unfoldable pub quick : Source → ℕ → Sci → Sci
quick source n s =
    record {
      port = edge_kept (at_edge source n s.port s.baud) (halves (halves_passed source n s.port s.baud) s.port);
      baud = baud_passed source n s.port s.baud;
    }

-- cycle by cycle is all at once
unfoldable pub Simulates : Type 0
Simulates = (source : Source) (n : ℕ) (s : Sci) → 0 < s.baud.remaining → cycles source n s ≡ quick source n s
