-- Lines of the program `rate`, each from the text of its arguments: document 02's example, an error above and one below, both refusals, a number past 64
-- bits, and texts that are no numbers. One table, with one theorem by computation.
-- Assumes nothing.
use Rattle.std.specs.Prelude.{ℕ, ◌≡◌, refl, List, [], ◌∷◌, map, Option, None, Some}
use Rattle.rates.specs.Rates.{period, column, settings, nearer, nearest_of, nearest, judged, nearest_rate}
use Rattle.rate_report.specs.Lines.{signed, setting_text}
use Rattle.rate_report.specs.Printout.{number, printout}

-- the three arguments, and what is printed
pub record Case : Type 0 where
  pub clock : List ℕ
  pub rate : List ℕ
  pub tolerance : List ℕ
  pub text : Option (List ℕ)

abbrev row : List ℕ → List ℕ → List ℕ → Option (List ℕ) → Case
row c r t text = record { clock = c; rate = r; tolerance = t; text = text }

abbrev pub cases : List Case
cases =
    -- rate 3686400 9600 0
    row (51 ∷ 54 ∷ 56 ∷ 54 ∷ 52 ∷ 48 ∷ 48 ∷ []) (57 ∷ 54 ∷ 48 ∷ 48 ∷ []) (48 ∷ [])
    (Some (115 ∷ 101 ∷ 108 ∷ 101 ∷ 99 ∷ 116 ∷ 32 ∷ 48 ∷ 32 ∷ 99 ∷ 101 ∷ 108 ∷ 108 ∷ 32 ∷ 51 ∷ 50 ∷ 32 ∷ 66 ∷ 82 ∷ 82 ∷ 32 ∷ 49 ∷ 49 ∷ 32 ∷ 101 ∷ 114 ∷ 114 ∷ 111 ∷ 114 ∷ 32 ∷ 48 ∷ 47 ∷ 51 ∷ 54 ∷ 56 ∷ 54 ∷ 52 ∷ 48 ∷ 48 ∷ 10 ∷ []))
    -- rate 10000000 9600 100
    ∷ row (49 ∷ 48 ∷ 48 ∷ 48 ∷ 48 ∷ 48 ∷ 48 ∷ 48 ∷ []) (57 ∷ 54 ∷ 48 ∷ 48 ∷ []) (49 ∷ 48 ∷ 48 ∷ [])
    (Some (115 ∷ 101 ∷ 108 ∷ 101 ∷ 99 ∷ 116 ∷ 32 ∷ 48 ∷ 32 ∷ 99 ∷ 101 ∷ 108 ∷ 108 ∷ 32 ∷ 49 ∷ 54 ∷ 32 ∷ 66 ∷ 82 ∷ 82 ∷ 32 ∷ 54 ∷ 52 ∷ 32 ∷ 101 ∷ 114 ∷ 114 ∷ 111 ∷ 114 ∷ 32 ∷ 49 ∷ 54 ∷ 48 ∷ 48 ∷ 48 ∷ 47 ∷ 57 ∷ 57 ∷ 56 ∷ 52 ∷ 48 ∷ 48 ∷ 48 ∷ 10 ∷ []))
    -- rate 64 3 10000
    ∷ row (54 ∷ 52 ∷ []) (51 ∷ []) (49 ∷ 48 ∷ 48 ∷ 48 ∷ 48 ∷ [])
    (Some (115 ∷ 101 ∷ 108 ∷ 101 ∷ 99 ∷ 116 ∷ 32 ∷ 48 ∷ 32 ∷ 99 ∷ 101 ∷ 108 ∷ 108 ∷ 32 ∷ 51 ∷ 50 ∷ 32 ∷ 66 ∷ 82 ∷ 82 ∷ 32 ∷ 48 ∷ 32 ∷ 101 ∷ 114 ∷ 114 ∷ 111 ∷ 114 ∷ 32 ∷ 45 ∷ 51 ∷ 50 ∷ 47 ∷ 57 ∷ 54 ∷ 10 ∷ []))
    -- rate 10000000 1200 100
    ∷ row (49 ∷ 48 ∷ 48 ∷ 48 ∷ 48 ∷ 48 ∷ 48 ∷ 48 ∷ []) (49 ∷ 50 ∷ 48 ∷ 48 ∷ []) (49 ∷ 48 ∷ 48 ∷ [])
    (Some (114 ∷ 101 ∷ 102 ∷ 117 ∷ 115 ∷ 101 ∷ 100 ∷ 32 ∷ 49 ∷ 50 ∷ 10 ∷ []))
    -- rate 20000000 9600 10001
    ∷ row (50 ∷ 48 ∷ 48 ∷ 48 ∷ 48 ∷ 48 ∷ 48 ∷ 48 ∷ []) (57 ∷ 54 ∷ 48 ∷ 48 ∷ []) (49 ∷ 48 ∷ 48 ∷ 48 ∷ 49 ∷ [])
    (Some (114 ∷ 101 ∷ 102 ∷ 117 ∷ 115 ∷ 101 ∷ 100 ∷ 32 ∷ 49 ∷ 49 ∷ 10 ∷ []))
    -- rate 18446744073709551616 9600 100
    ∷ row (49 ∷ 56 ∷ 52 ∷ 52 ∷ 54 ∷ 55 ∷ 52 ∷ 52 ∷ 48 ∷ 55 ∷ 51 ∷ 55 ∷ 48 ∷ 57 ∷ 53 ∷ 53 ∷ 49 ∷ 54 ∷ 49 ∷ 54 ∷ []) (57 ∷ 54 ∷ 48 ∷ 48 ∷ []) (49 ∷ 48 ∷ 48 ∷ [])
    (Some (114 ∷ 101 ∷ 102 ∷ 117 ∷ 115 ∷ 101 ∷ 100 ∷ 32 ∷ 49 ∷ 49 ∷ 10 ∷ []))
    -- rate 08 0001 010000
    ∷ row (48 ∷ 56 ∷ []) (48 ∷ 48 ∷ 48 ∷ 49 ∷ []) (48 ∷ 49 ∷ 48 ∷ 48 ∷ 48 ∷ 48 ∷ [])
    (Some (115 ∷ 101 ∷ 108 ∷ 101 ∷ 99 ∷ 116 ∷ 32 ∷ 48 ∷ 32 ∷ 99 ∷ 101 ∷ 108 ∷ 108 ∷ 32 ∷ 49 ∷ 54 ∷ 32 ∷ 66 ∷ 82 ∷ 82 ∷ 32 ∷ 48 ∷ 32 ∷ 101 ∷ 114 ∷ 114 ∷ 111 ∷ 114 ∷ 32 ∷ 45 ∷ 56 ∷ 47 ∷ 49 ∷ 54 ∷ 10 ∷ []))
    -- rate '' 9600 100
    ∷ row [] (57 ∷ 54 ∷ 48 ∷ 48 ∷ []) (49 ∷ 48 ∷ 48 ∷ []) None
    -- rate 3686400 9600 -1
    ∷ row (51 ∷ 54 ∷ 56 ∷ 54 ∷ 52 ∷ 48 ∷ 48 ∷ []) (57 ∷ 54 ∷ 48 ∷ 48 ∷ []) (45 ∷ 49 ∷ []) None
    -- rate 3686400 '9600 ' 100
    ∷ row (51 ∷ 54 ∷ 56 ∷ 54 ∷ 52 ∷ 48 ∷ 48 ∷ []) (57 ∷ 54 ∷ 48 ∷ 48 ∷ 32 ∷ []) (49 ∷ 48 ∷ 48 ∷ []) None
    ∷ []

-- every row holds
pub each_case : map (λ k. printout k.clock k.rate k.tolerance) cases ≡ map (λ k. k.text) cases
unfolding printout number signed setting_text nearest_rate judged nearest nearest_of settings column nearer period
each_case = refl
