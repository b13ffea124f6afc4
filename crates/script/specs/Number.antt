-- Document 01, "A script comes in": "Every number is in groups of seven bits, low group first, the top bit of a byte set when another
-- follows; shortest form, at most five bytes, at most 4,294,967,295. The byte that breaks this gives 6, even as the script's last."
-- A script that ends inside a number ends inside a command: 5.
-- Assumes nothing.
use Rattle.std.specs.Prelude.{ℕ, ◌+◌, ◌-◌, ◌*◌, Bool, cond, ◌&&◌, ◌||◌, List, [], ◌∷◌, drop, ltb, eqb, Result, Ok, Err}
use Rattle.script.specs.declared.Fault.{Fault}
use Rattle.script.specs.declared.Fault.TheVariants.{Short, Number as NotANumber, Kind, Operand}
use Rattle.script.specs.declared.Found.{Found}

-- document 01's number of each fault
abbrev pub fault_number : Fault → ℕ
fault_number Short = 5
fault_number NotANumber = 6
fault_number Kind = 7
fault_number Operand = 2

-- what reading a number or a command finds, or the fault that ends it
abbrev pub Reads : Type 0 → Type 0
Reads T = Result (Found T) Fault

-- a value, and the offset after its last byte
abbrev pub finds : {T : Type 0} → T → ℕ → Reads T
finds v next = Ok (record { value = v; next = next })

-- reading goes on with the value and the offset after it; a fault ends it
abbrev pub and_then : {T U : Type 0} → Reads T → (T → ℕ → Reads U) → Reads U
and_then (Ok found) f = f found.value found.next
and_then (Err why) f = Err why

-- the byte b breaks the rules, where `more` bytes may follow it (four may follow the first): a zero byte after the first is not the
-- shortest form; a fifth byte above 15 says that a sixth follows, or makes the number too large
abbrev pub breaks : ℕ → ℕ → Bool
breaks more b = (ltb more 4 && eqb b 0) || (eqb more 0 && ltb 15 b)

-- a byte with its top bit set, before the number that the bytes after it make
abbrev pub with_group : ℕ → Reads ℕ → Reads ℕ
with_group b rest = and_then rest (λ v next. finds (b - 128 + 128 * v) next)

-- the number at the front of the bytes that stand at the offset `at`, where `more` bytes may follow the first, and the offset after it
abbrev pub groups : ℕ → ℕ → List ℕ → Reads ℕ
groups more at [] = Err Short
groups more at (b ∷ s) =
    let rest = with_group b (groups (more - 1) (at + 1) s) in
    cond (breaks more b) (Err NotANumber) (cond (ltb b 128) (finds b (at + 1)) rest)

-- the number at an offset of the script
abbrev pub number_at : List ℕ → ℕ → Reads ℕ
number_at s at = groups 4 at (drop at s)
