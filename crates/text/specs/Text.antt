-- Text: a hexadecimal digit. Numbers in decimal are in Decimal.antt.
-- Assumes nothing.
use Rattle.std.specs.Prelude.{ℕ, ◌+◌, cond, ltb}

-- 48 is `0`, 65 is `A`, 63 is `?`
abbrev pub hex_digit : ℕ → ℕ
hex_digit n = cond (ltb n 10) (48 + n) (cond (ltb n 16) (55 + n) 63)
