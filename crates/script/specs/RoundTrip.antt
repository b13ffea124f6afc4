-- Reading takes back what writing writes, and numbers and commands have no other form: the claims. Proved in proofs/Numbers.antt,
-- proofs/Commands.antt and proofs/Items.antt, each under its name in small letters.
-- Assumes nothing.
use Rattle.std.specs.Prelude.{ℕ, ◌+◌, ◌≤◌, ◌<◌, ◌≡◌, List, [], ◌∷◌, ◌++◌, length, drop}
use Rattle.command.specs.declared.Command.{Command}
use Rattle.script.specs.Number.{finds, number_at}
use Rattle.script.specs.Encode.{encode}
use Rattle.script.specs.Command.{with_operands, command_at}
use Rattle.script.specs.Items.{script_items}
use Rattle.script.specs.Write.{encode_all, bytes}
use Rattle.command.specs.Command.{kind, operands, operands_of, InRange}
use Rattle.machine.specs.Machine.{Item, a_command}

-- the largest number
abbrev pub largest : ℕ
largest = 4294967295

-- every element is a byte, as in every lent slice of `u8` (proofs/Slices.antt)
abbrev pub Bytes : List ℕ → Type 0
Bytes [] = Unit {0}
Bytes (b ∷ s) = (b < 256) × Bytes s

-- the bytes bs stand in s at the offset `at`, and `next` is the offset after them
pub record Stands (bs s : List ℕ) (at next : ℕ) : Type 0 where
  pub there : drop at s ≡ bs ++ drop next s
  pub end : next ≡ at + length bs

-- as any bytes do between others
abbrev pub BytesStand : Type 0
BytesStand = (before bs after : List ℕ) → Stands bs (before ++ (bs ++ after)) (length before) (length before + length bs)

-- the bytes of every number read as that number, with its length
abbrev pub NumbersReadBack : Type 0
NumbersReadBack = (s : List ℕ) (at v next : ℕ) → Stands (encode v) s at next → v ≤ largest → number_at s at ≡ finds v next

-- every number that is accepted is the encoding of its value
abbrev pub NumbersAreEncodings : Type 0
NumbersAreEncodings = (s : List ℕ) (at v next : ℕ) → Bytes s → number_at s at ≡ finds v next → Stands (encode v) s at next × (v ≤ largest)

-- the operands of every command in range read, behind its kind, as that command
abbrev pub OperandsReadBack : Type 0
OperandsReadBack =
    (s : List ℕ) (mid next : ℕ) (c : Command) → Stands (encode_all (operands c)) s mid next → InRange c →
    with_operands s (kind c) mid (operands_of (kind c)) ≡ finds c next

-- every command that is accepted behind a kind is of that kind and in range, and its operands stand there
pub record Encodes (k : ℕ) (s : List ℕ) (mid : ℕ) (c : Command) (next : ℕ) : Type 0 where
  pub of_kind : kind c ≡ k
  pub stand : Stands (encode_all (operands c)) s mid next
  pub within : InRange c

abbrev pub OperandsAreEncodings : Type 0
OperandsAreEncodings =
    (s : List ℕ) (k mid next : ℕ) (c : Command) → Bytes s → with_operands s k mid (operands_of k) ≡ finds c next → Encodes k s mid c next

-- the bytes of every command in range read as that command, with its length
abbrev pub CommandsReadBack : Type 0
CommandsReadBack = (s : List ℕ) (at next : ℕ) (c : Command) → Stands (bytes c) s at next → InRange c → command_at s at ≡ finds c next

-- every command that is accepted is in range, and its bytes stand there
abbrev pub CommandsAreEncodings : Type 0
CommandsAreEncodings = (s : List ℕ) (at next : ℕ) (c : Command) → Bytes s → command_at s at ≡ finds c next → Stands (bytes c) s at next × InRange c

-- the bytes of commands one after the other, the offset of each, and that each is in range
abbrev pub script : List Command → List ℕ
script [] = []
script (c ∷ cs) = bytes c ++ script cs

abbrev pub placed : ℕ → List Command → List (Item Command)
placed at [] = []
placed at (c ∷ cs) = a_command at c ∷ placed (at + length (bytes c)) cs

abbrev pub AllInRange : List Command → Type 0
AllInRange [] = Unit {0}
AllInRange (c ∷ cs) = InRange c × AllInRange cs

-- a script of commands in range has exactly them as its items, whatever room a fault would need
abbrev pub ScriptsReadBack : Type 0
ScriptsReadBack = (room : ℕ) (cs : List Command) → AllInRange cs → script_items room (script cs) 0 ≡ placed 0 cs
