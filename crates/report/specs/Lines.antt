-- What the program prints. Document 01, "A script comes in": it "prints one line a record, and ends with `end` and the run's length .., or
-- `refused N at P`" (the length: player's Play.antt); of a record, "kind, answer and SSR in hex, level with `-` for not driven, interrupt"; document
-- 02, "Five": "each record's line gains a blank and the cause".
-- Digits above 9 are capitals. A record that no command leaves has its text too: a kind above 15, a level above 2, an interrupt above 1 and a cause above 8
-- print `?`.
-- Assumes nothing.
use Rattle.std.specs.Prelude.{ℕ, ◌+◌, ◌/◌, ◌%◌, cond, List, [], ◌∷◌, ◌++◌, eqb, ltb}
use Rattle.text.specs.Decimal.{decimal}
use Rattle.text.specs.Text.{hex_digit}

-- 48 is `0`, 63 is `?`
abbrev pub bit : ℕ → ℕ
bit n = cond (eqb n 0) 48 (cond (eqb n 1) 49 63)

-- 45 is `-`: not driven
abbrev pub level : ℕ → ℕ
level n = cond (eqb n 2) 45 (bit n)

-- the number of a cause, one digit
abbrev pub cause : ℕ → ℕ
cause n = cond (ltb n 9) (48 + n) 63

-- a record; 32 is a space, 10 ends the line
abbrev pub record_line : ℕ → ℕ → ℕ → ℕ → ℕ → ℕ → List ℕ
record_line kind answer ssr driven interrupt why =
    hex_digit kind ∷ 32
    ∷ hex_digit (answer / 16) ∷ hex_digit (answer % 16) ∷ 32
    ∷ hex_digit (ssr / 16) ∷ hex_digit (ssr % 16) ∷ 32
    ∷ level driven ∷ 32
    ∷ bit interrupt ∷ 32
    ∷ cause why ∷ 10 ∷ []

-- `end `, the length, newline
abbrev pub end_line : ℕ → List ℕ
end_line length = (101 ∷ 110 ∷ 100 ∷ 32 ∷ []) ++ (decimal length ++ (10 ∷ []))

-- `refused `, the number, ` at `, the offset, newline
abbrev pub refused_line : ℕ → ℕ → List ℕ
refused_line number offset =
    (114 ∷ 101 ∷ 102 ∷ 117 ∷ 115 ∷ 101 ∷ 100 ∷ 32 ∷ [])
    ++ (decimal number ++ ((32 ∷ 97 ∷ 116 ∷ 32 ∷ []) ++ (decimal offset ++ (10 ∷ []))))
