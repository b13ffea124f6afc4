-- A script as items (machine's Machine.antt): each command with the offset of its first byte, and, where reading stops before the end, the fault there
-- (document 01: "A command that cannot be read ends the run there."). An empty script has no items.
-- Assumes nothing.
use Rattle.std.specs.Prelude.{ℕ, List, length, Ok, Err}
use Rattle.command.specs.declared.Command.{Command}
use Rattle.machine.specs.Machine.{Reading, found, faulty, Item, items}
use Rattle.script.specs.Number.{fault_number, Reads}
use Rattle.script.specs.Command.{command_at}

-- what stands at an offset; a fault is told once so many bytes of the log, `room`, are free
abbrev pub reading : ℕ → Reads Command → Reading Command
reading room (Ok read) = found read.value read.next
reading room (Err why) = faulty room (fault_number why)

abbrev pub read_at : ℕ → List ℕ → ℕ → Reading Command
read_at room s at = reading room (command_at s at)

-- the items from the offset `at` on
abbrev pub script_items : ℕ → List ℕ → ℕ → List (Item Command)
script_items room s at = items (read_at room s) (length s) at
