-- The line that answers a clock, a wanted rate and a tolerance: the setting's select, cell and BRR with its error, or a refusal.
-- Assumes nothing.
use Rattle.std.specs.Prelude.{ℕ, suc, List, [], ◌∷◌, ◌++◌, ℤ, pos, negsuc}
use Rattle.text.specs.Decimal.{decimal}
use Rattle.rates.specs.declared.Setting.{Setting}
use Rattle.rates.specs.Rates.{code, cell, Answer, found, refused}

-- 45 is `-`
unfoldable pub signed : ℤ → List ℕ
signed (pos n) = decimal n
signed (negsuc n) = 45 ∷ decimal (suc n)

-- `select S cell C BRR B error `
unfoldable pub setting_text : Setting → List ℕ
setting_text s =
    (115 ∷ 101 ∷ 108 ∷ 101 ∷ 99 ∷ 116 ∷ 32 ∷ [])
    ++ (decimal (code s.select)
    ++ ((32 ∷ 99 ∷ 101 ∷ 108 ∷ 108 ∷ 32 ∷ [])
    ++ (decimal (cell s.short_cell)
    ++ ((32 ∷ 66 ∷ 82 ∷ 82 ∷ 32 ∷ []) ++ (decimal s.brr ++ (32 ∷ 101 ∷ 114 ∷ 114 ∷ 111 ∷ 114 ∷ 32 ∷ []))))))

-- the setting, then `N/D`, newline
abbrev pub found_line : Setting → ℤ → ℕ → List ℕ
found_line s n d = setting_text s ++ (signed n ++ (47 ∷ (decimal d ++ (10 ∷ []))))

-- `refused `, the number, newline
abbrev pub refused_line : ℕ → List ℕ
refused_line n = (114 ∷ 101 ∷ 102 ∷ 117 ∷ 115 ∷ 101 ∷ 100 ∷ 32 ∷ []) ++ (decimal n ++ (10 ∷ []))

abbrev pub rate_line : Answer → List ℕ
rate_line (found s n d) = found_line s n d
rate_line (refused n) = refused_line n
