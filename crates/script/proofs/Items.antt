-- Reading a command moves on; and a script of commands in range has exactly them as its items.
-- Assumes nothing.
use mathlib.Core.Path.{◌≡◌, sym, ap, subst, ◌∙◌}
use mathlib.Core.List.{List, [], ◌∷◌, ◌++◌, append-nil}
use Prim.Native.Nat.{ℕ, ◌+◌, ◌-◌, ◌<◌}
use native.Mathlib.Omega.{arith}
use lib.ListN.{length, drop}
use lib.Dec.{ltb}
use lib.Seq.{drop-length}
use Rattle.std.proofs.Common.{Option, None, Some}
use Rattle.std.proofs.Common.{Ok, Err}
use Rattle.command.specs.declared.Operands.{Operands}
use Rattle.command.specs.declared.Operands.TheVariants.{None as NoOperands, One, Two}
use Rattle.command.specs.declared.Command.{Command}
use Rattle.script.specs.Number.{Reads, finds, and_then, breaks, groups, with_group, number_at}
use Rattle.command.specs.Command.{operands_of, command_of}
use Rattle.script.specs.Command.{operand_at, with_operands, command_at}
use Rattle.machine.specs.Machine.{Item, a_command, item}
use Rattle.machine.proofs.Items.{Moves, items_next, items_none}
use Rattle.script.specs.Items.{reading, read_at, script_items}
use Rattle.script.specs.Write.{bytes}
use Rattle.script.specs.RoundTrip.{Stands, script, placed, AllInRange, ScriptsReadBack}
use Rattle.branches.proofs.Branches.{by_cond}
use Rattle.script.proofs.Numbers.{first_part, second_part}
use Rattle.script.proofs.Commands.{and_then_with, operand_within, commands_read_back}

-- ---- reading moves on

-- what is read ends after the offset `at`
abbrev pub Ends : {T : Type 0} → ℕ → Reads T → Type 0
Ends at (Ok found) = at < found.next
Ends at (Err why) = Unit {0}

group_later : (at b : ℕ) (n : Reads ℕ) → Ends (at + 1) n → Ends at (with_group b n)
group_later at b (Ok found) h = omega arith
group_later at b (Err why) h = tt

groups_later : (k at : ℕ) (s : List ℕ) → Ends at (groups k at s)
groups_later k at [] = tt
groups_later k at (b ∷ s) =
    let one : Ends at (finds b (at + 1)) = omega arith in
    by_cond (Ends at) (breaks k b) _ _ (λ t. tt)
    (λ t. by_cond (Ends at) (ltb b 128) _ _ (λ u. one) (λ u. group_later at b (groups (k - 1) (at + 1) s) (groups_later (k - 1) (at + 1) s)))

module _ (s : List ℕ) where
  pub number_moves : (at v next : ℕ) → number_at s at ≡ finds v next → at < next
  number_moves at v next e = subst (Ends at) e (groups_later 4 at (drop at s))

  operand_moves : (m at v next : ℕ) → operand_at m s at ≡ finds v next → at < next
  operand_moves m at v next e = number_moves at v next (operand_within m (number_at s at) v next e).0

  pub operands_move : (k at mid : ℕ) (o : Option Operands) → at < mid → Ends at (with_operands s k mid o)
  operands_move k at mid (Some NoOperands) h = h
  operands_move k at mid (Some (One m)) h =
      and_then_with (Ends at) (operand_at m s mid) (λ a next. finds (command_of k a 0) next)
      (λ a next e. omega (arith, operand_moves m mid a next e)) (λ why. tt)
  operands_move k at mid (Some (Two m n)) h =
      and_then_with (Ends at) (operand_at m s mid) (λ a second. and_then (operand_at n s second) (λ b next. finds (command_of k a b) next))
      (λ a second e. and_then_with (Ends at) (operand_at n s second) (λ b next. finds (command_of k a b) next)
      (λ b next f. omega (arith, operand_moves m mid a second e, operand_moves n second b next f)) (λ why. tt))
      (λ why. tt)
  operands_move k at mid None h = tt

  command_ends : (at : ℕ) → Ends at (command_at s at)
  command_ends at =
      and_then_with (Ends at) (number_at s at) (λ k mid. with_operands s k mid (operands_of k))
      (λ k mid e. operands_move k at mid (operands_of k) (number_moves at k mid e)) (λ why. tt)

reading_moves : (room at : ℕ) (d : Reads Command) → Ends at d → Moves at (reading room d)
reading_moves room at (Ok found) h = h
reading_moves room at (Err why) h = tt

-- a command ends after the offset at which it begins
pub command_moves : (room : ℕ) (s : List ℕ) (at : ℕ) → Moves at (read_at room s at)
command_moves room s at = reading_moves room at (command_at s at) (command_ends s at)

-- ---- whole scripts

from_here : (room : ℕ) (s : List ℕ) (at : ℕ) (cs : List Command) → AllInRange cs → Stands (script cs) s at (length s) → script_items room s at ≡ placed at cs
from_here room s at [] h t = items_none (read_at room s) (length s) (command_moves room s) at (omega (arith, t.end))
from_here room s at (c ∷ cs) h t =
    let next = at + length (bytes c) in
    let here : command_at s at ≡ finds c next = commands_read_back s at next c (first_part (bytes c) (script cs) t) h.0 in
    let rest : Stands (script cs) s next (length s) = second_part (bytes c) (script cs) t in
    let moves : at < next = subst (Ends at) here (command_ends s at) in
    items_next (read_at room s) (length s) (command_moves room s) at (omega (arith, rest.end))
    ∙ ap (λ (d : Reads Command). item (script_items room s) at (reading room d)) here
    ∙ ap (λ (r : List (Item Command)). a_command at c ∷ r) (from_here room s next cs h.1 rest)

pub scripts_read_back : ScriptsReadBack
scripts_read_back room cs h =
    let whole : Stands (script cs) (script cs) 0 (length (script cs)) =
    record { there = sym (ap (λ (l : List ℕ). script cs ++ l) (drop-length (script cs)) ∙ append-nil (script cs)); end = omega arith } in
    from_here room (script cs) 0 cs h whole
