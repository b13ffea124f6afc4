-- The register writes of a setting: after them the port has it, and a full count waits, so that what Cells.antt says holds from there.
-- Proved in proofs/Writes.antt.
-- Assumes nothing.
use Rattle.std.specs.Prelude.{◌≡◌, ℕ, ◌<◌, true, false, bit_and}
use Rattle.command.specs.declared.Call.TheVariants.{Write}
use Rattle.command.specs.declared.Command.TheVariants.{OnPort}
use Rattle.frame.specs.Frame.{has}
use Rattle.port.specs.declared.Port.{Port}
use Rattle.port.specs.Baud.{external, internal}
use Rattle.port.specs.Registers.{takes_writes}
use Rattle.rates.specs.declared.Setting.{Setting}
use Rattle.rates.specs.Rates.{code, semr}
use Rattle.sci.specs.declared.Sci.{Sci}
use Rattle.sci.specs.Cycle.{reload}
use Rattle.sci.specs.Calls.{valid, after, direct}
use Rattle.rate_laws.specs.Cells.{HasSetting}

-- a write as a direct call: the state that it leaves
abbrev pub written : ℕ → ℕ → Sci → Sci
written a v t = after (direct (OnPort (Write a v)) t)

-- SMR, with whatever form of a word; SEMR; BRR last, which begins the count anew
abbrev pub set_rate : Setting → ℕ → Sci → Sci
set_rate s smr t = written 0xff99 s.brr (written 0xffa6 (semr s.short_cell) (written 0xff98 smr t))

-- module and main clock on, no reset mode, not the clock pin's clock, TE and RE off
pub record Settable (p : Port) : Type 0 where
  pub takes : takes_writes p ≡ true
  pub main : p.main ≡ true
  pub own_clock : external p ≡ false
  pub off : has p.scr 0x30 ≡ false

-- it has the setting and runs on its internal clock, and a full count waits: what Cells.antt asks
pub record AtRate (s : Setting) (t : Sci) : Type 0 where
  pub registers : HasSetting s t.port
  pub runs : internal t.port ≡ true
  pub full : t.baud.remaining ≡ reload t.port

-- the three writes make it so of any state that passes the field test; SMR may hold any form of a word
unfoldable pub WritesSet : Type 0
WritesSet =
    (s : Setting) (smr : ℕ) (t : Sci) → valid t ≡ true → t.port.brr < 256 → Settable t.port → smr < 256 → bit_and smr 3 ≡ code s.select → s.brr < 256
    → AtRate s (set_rate s smr t)
