-- Document 01, "A script comes in": "A script is a run of commands, each a kind and its operands", and document 02, "Two", with kinds 8 and 9. The table of
-- kinds, the one place where the range of an operand stands; and a command's kind and operands.
-- Assumes nothing.
use Rattle.std.specs.Prelude.{◌≡◌, ℕ, Bool, true, false, cond, ◌&&◌, List, [], ◌∷◌, leb, eqb, get_or, Option, None, Some, Result, MatchResult}
use Rattle.command.specs.declared.Operands.{Operands}
use Rattle.command.specs.declared.Operands.TheVariants.{None as NoOperands, One, Two}
use Rattle.command.specs.declared.Kind.{Kind}
use Rattle.command.specs.declared.Kind.TheVariants as typed
use Rattle.command.specs.declared.UnknownKind.{UnknownKind}
use Rattle.command.specs.declared.Call.{Call}
use Rattle.command.specs.declared.Call.TheVariants.{Read, Write, Wait, Line, Pins, Power, Inside}
use Rattle.command.specs.declared.Source.{Source}
use Rattle.command.specs.declared.Source.TheVariants.{System, Watch}
use Rattle.command.specs.declared.Command.{Command}
use Rattle.command.specs.declared.Command.TheVariants.{OnPort, Cycles}

-- a kind, and the largest value of each of its operands
pub record Row : Type 0 where
  pub kind : ℕ
  pub operands : Operands

abbrev row : ℕ → Operands → Row
row k o = record { kind = k; operands = o }

-- the table of kinds
abbrev pub kinds : List Row
kinds =
    row 1 (One 65535) ∷ row 2 (Two 65535 255) ∷ row 3 (One 65535) ∷ row 4 (One 1) ∷ row 5 (Two 1 1) ∷ row 6 (One 15) ∷ row 7 NoOperands
    ∷ row 8 (One 65535) ∷ row 9 (One 65535) ∷ []

-- a kind that is not in the table has no row
abbrev pub look_up : ℕ → List Row → Option Operands
look_up k [] = None
look_up k (r ∷ rs) = cond (eqb k r.kind) (Some r.operands) (look_up k rs)

abbrev pub operands_of : ℕ → Option Operands
operands_of k = look_up k kinds

-- the call of a kind from 1 to 7, from its operands
abbrev pub call_of : ℕ → ℕ → ℕ → Call
call_of k a b =
    cond (eqb k 1) (Read a)
    (cond (eqb k 2) (Write a b)
    (cond (eqb k 3) (Wait a)
    (cond (eqb k 4) (Line a)
    (cond (eqb k 5) (Pins a b)
    (cond (eqb k 6) (Power a) Inside)))))

-- the command of a kind of the table
abbrev pub command_of : ℕ → ℕ → ℕ → Command
command_of k a b = cond (eqb k 8) (Cycles System a) (cond (eqb k 9) (Cycles Watch a) (OnPort (call_of k a b)))

abbrev pub call_kind : Call → ℕ
call_kind (Read a) = 1
call_kind (Write a v) = 2
call_kind (Wait n) = 3
call_kind (Line l) = 4
call_kind (Pins c l) = 5
call_kind (Power b) = 6
call_kind Inside = 7

abbrev pub cycles_kind : Source → ℕ
cycles_kind System = 8
cycles_kind Watch = 9

abbrev pub kind : Command → ℕ
kind (OnPort c) = call_kind c
kind (Cycles source n) = cycles_kind source

-- the number of a kind
abbrev pub code : Kind → ℕ
code typed.Read = 1
code typed.Write = 2
code typed.Wait = 3
code typed.Line = 4
code typed.Pins = 5
code typed.Power = 6
code typed.Inside = 7
code typed.System = 8
code typed.Watch = 9

-- the result is the kind of this number, or says that the number is in no row of the table
abbrev pub Decodes : ℕ → Result Kind UnknownKind → Type 0
Decodes n r = MatchResult r (λ k. code k ≡ n) (λ e. (e.0 ≡ n) × (operands_of n ≡ None))

-- the operands in their order
abbrev pub call_operands : Call → List ℕ
call_operands (Read a) = a ∷ []
call_operands (Write a v) = a ∷ v ∷ []
call_operands (Wait n) = n ∷ []
call_operands (Line l) = l ∷ []
call_operands (Pins c l) = c ∷ l ∷ []
call_operands (Power b) = b ∷ []
call_operands Inside = []

abbrev pub operands : Command → List ℕ
operands (OnPort c) = call_operands c
operands (Cycles source n) = n ∷ []

-- numbers within the largest values (`get_or vs i 0` is the i-th of vs, from 0)
abbrev pub within : Option Operands → List ℕ → Bool
within (Some NoOperands) vs = true
within (Some (One m)) vs = leb (get_or vs 0 0) m
within (Some (Two m n)) vs = leb (get_or vs 0 0) m && leb (get_or vs 1 0) n
within None vs = false

-- no operand of a command is above its range; else it is refused by 2
abbrev pub in_range : Command → Bool
in_range c = within (operands_of (kind c)) (operands c)

abbrev pub InRange : Command → Type 0
InRange c = in_range c ≡ true
