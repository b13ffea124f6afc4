-- Document 01, "A script comes in": a command (crates/command) read number by number: "each number as it is read (5 or 6, then 7 for the kind, 2 for an
-- operand)".
-- Assumes nothing.
use Rattle.std.specs.Prelude.{ℕ, cond, List, leb, Option, None, Some, Err}
use Rattle.script.specs.declared.Fault.TheVariants.{Kind, Operand}
use Rattle.command.specs.declared.Operands.{Operands}
use Rattle.command.specs.declared.Operands.TheVariants.{None as NoOperands, One, Two}
use Rattle.command.specs.declared.Command.{Command}
use Rattle.command.specs.Command.{operands_of, command_of}
use Rattle.script.specs.Number.{Reads, finds, and_then, number_at}

-- an operand: a number, and then 2 where it is above the largest value
abbrev pub limited : ℕ → Reads ℕ → Reads ℕ
limited max n = and_then n (λ v next. cond (leb v max) (finds v next) (Err Operand))

abbrev pub operand_at : ℕ → List ℕ → ℕ → Reads ℕ
operand_at max s at = limited max (number_at s at)

-- the command of the kind k, whose operands stand at the offset `at`
abbrev pub with_operands : List ℕ → ℕ → ℕ → Option Operands → Reads Command
with_operands s k at None = Err Kind
with_operands s k at (Some NoOperands) = finds (command_of k 0 0) at
with_operands s k at (Some (One m)) = and_then (operand_at m s at) (λ a next. finds (command_of k a 0) next)
with_operands s k at (Some (Two m n)) =
    and_then (operand_at m s at) (λ a second. and_then (operand_at n s second) (λ b next. finds (command_of k a b) next))

-- the command at an offset of the script
abbrev pub command_at : List ℕ → ℕ → Reads Command
command_at s at = and_then (number_at s at) (λ k next. with_operands s k next (operands_of k))
