-- What document 02's request Three asks of the answer, said of the list of settings and of no way to search it. Proved in proofs/Nearest.antt.
-- Assumes nothing.
use Rattle.std.specs.Prelude.{ℕ, ◌*◌, ◌≤◌, ◌<◌, ◌≡◌, true, false, List, pos, ◌-ℤ◌, length, get_or, Contains}
use Rattle.rates.specs.declared.Select.TheVariants.{System}
use Rattle.rates.specs.declared.Setting.{Setting}
use Rattle.rates.specs.Rates.{setting, period, settings, miss, nearer, nearest, InRange, found, refused, nearest_rate}

-- setting i of a list
abbrev pub at : List Setting → ℕ → Setting
at xs i = get_or xs i (setting System false 0)

-- a setting of the list; no setting of it is nearer to r, and every one before it is farther: so each that is equally near comes later
pub record FirstNearest (f r : ℕ) (xs : List Setting) (s : Setting) : Type 0 where
  pub place : ℕ
  pub inside : place < length xs
  pub there : at xs place ≡ s
  pub none_nearer : (i : ℕ) → i < length xs → nearer f r (at xs i) s ≡ false
  pub farther_before : (i : ℕ) → i < place → nearer f r s (at xs i) ≡ true

-- the answer to three numbers in range: the first of the nearest, with its error; or 12, exactly where |f − r·P| of r·P is more than t of ten thousand
pub record Chosen (f r t : ℕ) : Type 0 where
  pub s : Setting
  pub first_nearest : FirstNearest f r settings s
  pub within : miss f r s * 10000 ≤ t * (r * period s) → nearest_rate f r t ≡ found s (pos f -ℤ pos (r * period s)) (r * period s)
  pub beyond : t * (r * period s) < miss f r s * 10000 → nearest_rate f r t ≡ refused 12

-- the claim. The list has each setting that the registers take
pub record NearestRates : Type 0 where
  pub all_listed : (s : Setting) → s.brr < 256 → Contains settings s
  pub no_more : length settings ≡ 1536
  pub in_range : (f r t : ℕ) → InRange f r t → Chosen f r t
  pub out_of_range : (f r t : ℕ) → (InRange f r t → ⊥) → nearest_rate f r t ≡ refused 11

-- ---- examples
-- document 02's: its error is 0, so no tolerance refuses it
unfoldable pub Example : Type 0
Example = (t : ℕ) → t ≤ 10000 → nearest_rate 3686400 9600 t ≡ found (setting System false 11) (pos 0) 3686400

-- 2 and 4 bits a second, from cells of 32 and of 16 cycles, are equally far from 3; 66 with divider 1 and 64 with divider 16 are equally far from 65
unfoldable pub TieOfCells : Type 0
TieOfCells = nearest 64 3 ≡ setting System false 0

unfoldable pub TieOfDividers : Type 0
TieOfDividers = nearest 540672 65 ≡ setting System false 255
