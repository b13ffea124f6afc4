-- The basic clock: half count, phase and edge bit (document 01, "One half"; baud.rs), and what the registers say of it.
-- Assumes nothing.
use Rattle.std.specs.Prelude.{ℕ, suc, ◌+◌, ◌-◌, ◌%◌, Bool, true, cond, not, ◌&&◌, ◌||◌, ◌==◌, bit_and}
use Rattle.frame.specs.declared.Format.{Format}
use Rattle.frame.specs.Frame.{has, differ, format}
use Rattle.port.specs.declared.Port.{Port}
use Rattle.port.specs.Fields.{with_half, with_high, with_edge}

-- the format that SMR and SEMR ask for now
abbrev pub format_of : Port → Format
format_of p = format p.smr p.semr

-- SCR bit 1: the clock pin is the clock
abbrev pub external : Port → Bool
external p = has p.scr 2

-- power on, no reset mode, and a clock that SMR's source has
abbrev pub running : Port → Bool
running p = p.«module» && (not p.reset_mode && (p.main || (p.sub && bit_and p.smr 3 == 1)))

-- halves pass: the port runs on its internal clock
abbrev pub internal : Port → Bool
internal p = running p && not (external p)

-- a half of the internal clock: count one, toggle the phase, at the edge
abbrev pub counted : Port → Port
counted p = with_edge (with_high (with_half p (suc p.half)) (not p.high)) true

-- an edge of the clock pin, to this level
abbrev pub edge_counted : Port → Bool → Port
edge_counted p level = with_edge (with_high (with_half p (suc p.half)) level) true

-- an edge of the clock pin to this level is counted: the port runs on it, and the phase is another
abbrev pub edge_counts : Bool → Port → Bool
edge_counts level p = running p && (external p && differ p.high level)

-- the next half with a falling phase
abbrev pub next_fall : Port → ℕ
next_fall p = cond p.high (suc p.half) (suc (suc p.half))

-- where a cell can begin: the present half if it is a multiple of the cell and at its edge, else the next multiple
abbrev pub boundary : Port → ℕ → ℕ
boundary p span = cond (p.half % span == 0 && p.edge) p.half (p.half + span - p.half % span)
