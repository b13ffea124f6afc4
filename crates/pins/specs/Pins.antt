-- The pins that the port drives or uses, and the interrupt request (document 01, "The nine registers": `pins`, `interrupt`).
-- Assumes nothing.
use Rattle.std.specs.Prelude.{ℕ, ◌/◌, ◌%◌, Bool, cond, ◌&&◌, ◌||◌, leb, Option, None, Some}
use Rattle.frame.specs.Frame.{has, differ}
use Rattle.port.specs.declared.Port.{Port}
use Rattle.port.specs.Baud.{format_of, external}
use Rattle.pins.specs.declared.Drive.{Drive}
use Rattle.pins.specs.declared.Drive.TheVariants.{Floating, Low, High}
use Rattle.pins.specs.declared.Pins.{Pins}

-- SPCR bit 4 gives the pin to the port; bit 1 inverts it
unfoldable pub transmit_level : Port → Option Bool
transmit_level p = cond (has p.spcr 0x10) (Some (differ p.uart (has p.spcr 2))) None

abbrev pub high_or_low : Bool → Drive
high_or_low b = cond b High Low

-- in clocked form the clock's level; in start-stop form high in the second half of each cell
abbrev pub clock_level : Port → Bool
clock_level p =
    cond (has p.smr 0x80) p.sck (leb ((format_of p).half_bit / 2) (p.half % (format_of p).half_bit))

-- the clock pin: floating as an input; driven with SCR bit 0 or in clocked form; else not the port's.
-- For half a cycle of the system clock after clocked output ends the reference drives it low (`mux_glitch`): document 01 leaves that free, and here it is not the port's
abbrev pub clock_drive : Port → Option Drive
clock_drive p =
    cond (external p) (Some Floating)
    (cond (has p.scr 1 || has p.smr 0x80) (Some (high_or_low (clock_level p))) None)

unfoldable pub pins : Port → Pins
pins p = record { clock = clock_drive p; transmit = transmit_level p; receive = has p.scr 0x10 }

-- TDRE with TIE, RDRF or an error flag with RIE, TEND with TEIE
unfoldable pub interrupt : Port → Bool
interrupt p =
    p.«module» && ((has p.ssr 0x80 && has p.scr 0x80) || ((has p.ssr 0x78 && has p.scr 0x40) || (has p.ssr 4 && has p.scr 4)))

-- document 01's transmit level: 0, 1, or 2 when not driven
abbrev pub level_number : Option Bool → ℕ
level_number None = 2
level_number (Some high) = cond high 1 0
