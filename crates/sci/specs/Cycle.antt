-- The cycles of a clock, one at a time, and the halves that they count (document 02, "Two"; baud.rs). A half is the port's own (port's Half.antt).
-- Assumes nothing.
use Rattle.std.specs.Prelude.{ℕ, zero, suc, ◌+◌, ◌-◌, ◌%◌, Bool, cond, not, ◌&&◌, ◌==◌, bit_and}
use Rattle.command.specs.declared.Source.{Source}
use Rattle.command.specs.declared.Source.TheVariants.{System, Watch}
use Rattle.port.specs.declared.Port.{Port}
use Rattle.port.specs.Baud.{internal}
use Rattle.port.specs.Half.{half_step, inside}
use Rattle.sci.specs.declared.Baud.{Baud}
use Rattle.sci.specs.declared.Sci.{Sci}

-- ---- the clocks
-- "SMR bits 0–1 choose system, watch, system/16 or system/64": the watch clock, or else the system clock
abbrev pub chosen : Source → ℕ → Bool
chosen System smr = not (bit_and smr 3 == 1)
chosen Watch smr = bit_and smr 3 == 1

-- so many of its cycles are a tick
abbrev pub divider : ℕ → ℕ
divider smr = cond (bit_and smr 3 == 2) 16 (cond (bit_and smr 3 == 3) 64 1)

-- the cycles of a clock so far
abbrev pub total : Source → Baud → ℕ
total System b = b.system
total Watch b = b.watch

-- n more of them
abbrev pub advanced : Source → ℕ → Baud → Baud
advanced System n b = record { remaining = b.remaining; system = b.system + n; watch = b.watch }
advanced Watch n b = record { remaining = b.remaining; system = b.system; watch = b.watch + n }

abbrev pub with_remaining : Baud → ℕ → Baud
with_remaining b n = record { remaining = n; system = b.system; watch = b.watch }

-- ---- a tick
-- "every BRR+1 ticks of the choice make one half"
abbrev pub reload : Port → ℕ
reload p = suc p.brr

-- a tick: one less remains; where it was the last, a half passes and a full count waits
abbrev pub tick : Sci → Sci
tick s =
    cond (s.baud.remaining == 1) (record { port = half_step s.port; baud = with_remaining s.baud (reload s.port) })
    (record { port = s.port; baud = with_remaining s.baud (s.baud.remaining - 1) })

-- ---- a cycle
-- "The dividers run freely from cycle 0 and are neither held nor reset." "A cycle that counts no half clears the edge bit": a half sets it again
abbrev pub passed : Source → Sci → Sci
passed source s = record { port = inside s.port; baud = advanced source 1 s.baud }

-- a cycle of the clock is a tick: the port runs on its internal clock, SMR chose this one, and its total is a multiple of the divider
abbrev pub ticks : Source → Sci → Bool
ticks source s = (internal s.port && chosen source s.port.smr) && (total source s.baud % divider s.port.smr == 0)

abbrev pub cycle : Source → Sci → Sci
cycle source s = cond (ticks source (passed source s)) (tick (passed source s)) (passed source s)

-- n cycles, one after the other
unfoldable pub cycles : Source → ℕ → Sci → Sci
cycles source zero s = s
cycles source (suc n) s = cycles source n (cycle source s)

-- ---- the halves that they count
abbrev pub counts_half : Source → Sci → Bool
counts_half source s = ticks source (passed source s) && s.baud.remaining == 1

unfoldable pub halves_counted : Source → ℕ → Sci → ℕ
halves_counted source zero s = 0
halves_counted source (suc n) s = cond (counts_half source s) 1 0 + halves_counted source n (cycle source s)
