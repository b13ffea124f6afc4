-- Document 01's worked bytes: the examples of the refused commands that reading refuses, "Kind 3 takes FF FF 03", and the printed run's input;
-- with them the ends of a number's range. One theorem, by computation.
-- Assumes nothing.
use Rattle.std.specs.Prelude.{ℕ, ◌≡◌, refl, List, [], ◌∷◌, map}
use Rattle.script.specs.declared.Fault.{Fault}
use Rattle.script.specs.declared.Fault.TheVariants.{Short, Number as NotANumber, Kind, Operand}
use Rattle.script.specs.Number.{fault_number}
use Rattle.command.specs.declared.Command.{Command}
use Rattle.command.specs.declared.Command.TheVariants.{OnPort, Cycles}
use Rattle.command.specs.declared.Call.{Call}
use Rattle.command.specs.declared.Call.TheVariants.{Read, Write, Wait, Pins, Power, Inside}
use Rattle.command.specs.declared.Source.TheVariants.{System, Watch}
use Rattle.machine.specs.Machine.{Item, a_command, a_fault}
use Rattle.script.specs.Items.{script_items}

-- a script and its items
pub record Case : Type 0 where
  pub script : List ℕ
  pub gives : List (Item Command)

abbrev row : List ℕ → List (Item Command) → Case
row s i = record { script = s; gives = i }

-- reading stops here; so many bytes of the log must be free for the fault to be told
abbrev stopped : ℕ → Fault → Item Command
stopped at why = a_fault at 5 (fault_number why)

abbrev call : ℕ → Call → Item Command
call at c = a_command at (OnPort c)

abbrev pub cases : List Case
cases =
    row [] []
    ∷ row (0x03 ∷ []) (stopped 0 Short ∷ [])
    ∷ row (0x80 ∷ 0x00 ∷ []) (stopped 0 NotANumber ∷ [])
    ∷ row (0x80 ∷ 0x80 ∷ 0x80 ∷ 0x80 ∷ []) (stopped 0 Short ∷ [])
    ∷ row (0x80 ∷ 0x80 ∷ 0x80 ∷ 0x80 ∷ 0x80 ∷ []) (stopped 0 NotANumber ∷ [])
    ∷ row (0xFF ∷ 0xFF ∷ 0xFF ∷ 0xFF ∷ 0x0F ∷ []) (stopped 0 Kind ∷ [])
    ∷ row (0xFF ∷ 0xFF ∷ 0xFF ∷ 0xFF ∷ 0x10 ∷ []) (stopped 0 NotANumber ∷ [])
    ∷ row (0x00 ∷ []) (stopped 0 Kind ∷ [])
    ∷ row (0x08 ∷ []) (stopped 0 Short ∷ [])
    ∷ row (0x0A ∷ []) (stopped 0 Kind ∷ [])
    ∷ row (0x08 ∷ 0xFF ∷ 0xFF ∷ 0x03 ∷ 0x09 ∷ 0x00 ∷ []) (a_command 0 (Cycles System 65535) ∷ a_command 4 (Cycles Watch 0) ∷ [])
    ∷ row (0x09 ∷ 0x80 ∷ 0x80 ∷ 0x04 ∷ []) (stopped 0 Operand ∷ [])
    ∷ row (0x03 ∷ 0x80 ∷ 0x80 ∷ 0x04 ∷ []) (stopped 0 Operand ∷ [])
    ∷ row (0x03 ∷ 0xFF ∷ 0xFF ∷ 0x03 ∷ []) (call 0 (Wait 65535) ∷ [])
    ∷ row (0x02 ∷ 0xA7 ∷ 0xFF ∷ 0x03 ∷ 0x80 ∷ 0x01 ∷ []) (call 0 (Write 0xFFA7 0x80) ∷ [])
    ∷ row (0x02 ∷ 0xA7 ∷ 0xFF ∷ 0x03 ∷ 0x80 ∷ 0x02 ∷ []) (stopped 0 Operand ∷ [])
    ∷ row (0x07 ∷ 0x05 ∷ 0x01 ∷ 0x00 ∷ 0x04 ∷ 0x02 ∷ []) (call 0 Inside ∷ call 1 (Pins 1 0) ∷ stopped 4 Operand ∷ [])
    ∷ row
    (0x06 ∷ 0x03 ∷ 0x02 ∷ 0x91 ∷ 0xFF ∷ 0x03 ∷ 0x10 ∷ 0x02 ∷ 0x9A ∷ 0xFF ∷ 0x03 ∷ 0x20 ∷ 0x02 ∷ 0x9B ∷ 0xFF ∷ 0x03 ∷ 0x55 ∷ 0x03 ∷ 0xE0 ∷ 0x02
    ∷ 0x01 ∷ 0x9C ∷ 0xFF ∷ 0x03 ∷ [])
    (call 0 (Power 3) ∷ call 2 (Write 0xFF91 0x10) ∷ call 7 (Write 0xFF9A 0x20) ∷ call 12 (Write 0xFF9B 0x55) ∷ call 17 (Wait 352)
    ∷ call 20 (Read 0xFF9C) ∷ [])
    ∷ []

-- every row holds
pub each_case : map (λ k. script_items 5 k.script 0) cases ≡ map (λ k. k.gives) cases
each_case = refl
