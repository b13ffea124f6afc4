-- What a setting means on the port with its clock: document 02's P, "divider 1, 16 or 64 times cell length times BRR+1", is the cycles of one cell.
-- Proved in proofs/Cells.antt.
-- Assumes nothing.
use Rattle.std.specs.Prelude.{◌≡◌, ℕ, ◌*◌, true, bit_and}
use Rattle.command.specs.declared.Source.TheVariants.{System}
use Rattle.frame.specs.Frame.{has}
use Rattle.port.specs.declared.Port.{Port}
use Rattle.port.specs.Baud.{format_of, internal}
use Rattle.port.specs.Half.{halves, inside}
use Rattle.rates.specs.declared.Setting.{Setting}
use Rattle.rates.specs.Rates.{code, cell, period}
use Rattle.sci.specs.declared.Sci.{Sci}
use Rattle.sci.specs.Cycle.{reload, cycles, halves_counted}

-- the registers have the setting: bits 0 and 1 of SMR, bit 3 of SEMR, and BRR. The other bits of SMR are the form of a word
pub record HasSetting (s : Setting) (p : Port) : Type 0 where
  pub select : bit_and p.smr 3 ≡ code s.select
  pub short_cell : has p.semr 8 ≡ s.short_cell
  pub brr : p.brr ≡ s.brr

-- a cell of start-stop form has as many halves as the setting says
unfoldable pub SameCell : Type 0
SameCell = (s : Setting) (p : Port) → HasSetting s p → (format_of p).half_bit ≡ cell s.short_cell

-- n · P cycles of the system clock from here: the halves of n cells are counted and passed by the port, and a full count is left again. Whether the last
-- cycle counts a half, which the edge bit shows, is a matter of the cycles before: dividers run freely
pub record Pass (s : Setting) (n : ℕ) (t : Sci) : Type 0 where
  pub counted : halves_counted System (n * period s) t ≡ n * (format_of t.port).half_bit
  pub passed : inside (cycles System (n * period s) t).port ≡ inside (halves (n * (format_of t.port).half_bit) t.port)
  pub full : (cycles System (n * period s) t).baud.remaining ≡ reload t.port

-- so it is on the internal clock, from a full count, for every n: P cycles are one cell
unfoldable pub CellsPass : Type 0
CellsPass = (s : Setting) (n : ℕ) (t : Sci) → HasSetting s t.port → internal t.port ≡ true → t.baud.remaining ≡ reload t.port → Pass s n t
