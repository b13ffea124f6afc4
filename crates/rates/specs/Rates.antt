-- The nearest bit rate (document 02, "Three"): the settings, when one is nearer to a wanted rate than another, and the answer. Throughout f is the clock in Hz,
-- r the wanted rate in bits a second, t the tolerance in parts per ten thousand.
-- Assumes nothing.
use Rattle.std.specs.Prelude.{ℕ, zero, suc, ◌*◌, ◌≤◌, Bool, true, false, cond, ◌&&◌, List, [], ◌∷◌, ◌++◌, ltb, leb, ℤ, pos, ◌-ℤ◌, Result, Ok, Err}
use Rattle.std.specs.Int.{abs_diff}
use Rattle.rates.specs.declared.Select.{Select}
use Rattle.rates.specs.declared.Select.TheVariants.{System, System16, System64}
use Rattle.rates.specs.declared.Setting.{Setting}
use Rattle.rates.specs.declared.Rate.{Rate}
use Rattle.rates.specs.declared.Refusal.{Refusal}
use Rattle.rates.specs.declared.Refusal.TheVariants.{Range, Tolerance}

-- ---- settings
-- bits 0 and 1 of SMR
abbrev pub code : Select → ℕ
code System = 0
code System16 = 2
code System64 = 3

-- the system cycles of one tick
abbrev pub divider : Select → ℕ
divider System = 1
divider System16 = 16
divider System64 = 64

-- bit 3 of SEMR, in its place
abbrev pub semr : Bool → ℕ
semr short_cell = cond short_cell 8 0

-- the halves of one cell: 16 with SEMR bit 3
abbrev pub cell : Bool → ℕ
cell short_cell = cond short_cell 16 32

-- the system cycles of one cell, P: "divider 1, 16 or 64 times cell length times BRR+1"
unfoldable pub period : Setting → ℕ
period s = divider s.select * cell s.short_cell * suc s.brr

abbrev pub setting : Select → Bool → ℕ → Setting
setting select short_cell brr = record { select = select; short_cell = short_cell; brr = brr }

-- n settings with this select and this cell, from this BRR on
unfoldable pub column : Select → Bool → ℕ → ℕ → List Setting
column select short_cell brr zero = []
column select short_cell brr (suc n) = setting select short_cell brr ∷ column select short_cell (suc brr) n

-- all 1,536, in the order of "Ties go to the smaller divider, then cell 32, then smaller BRR"
unfoldable pub settings : List Setting
settings =
    column System false 0 256 ++ column System true 0 256 ++ column System16 false 0 256 ++ column System16 true 0 256 ++ column System64 false 0 256
    ++ column System64 true 0 256

-- ---- nearest
-- |f − r·P|: this over P is how far the rate f/P is from r
abbrev pub miss : ℕ → ℕ → Setting → ℕ
miss f r s = abs_diff f (r * period s)

-- the rate f/P of a is nearer to r than the rate f/Q of b: |f/P − r| < |f/Q − r|, with both sides multiplied by P·Q
unfoldable pub nearer : ℕ → ℕ → Setting → Setting → Bool
nearer f r a b = ltb (miss f r a * period b) (miss f r b * period a)

-- the best so far, unless the next one is nearer
abbrev pub closer : ℕ → ℕ → Setting → Setting → Setting
closer f r best next = cond (nearer f r next best) next best

unfoldable pub nearest_of : ℕ → ℕ → Setting → List Setting → Setting
nearest_of f r best [] = best
nearest_of f r best (s ∷ rest) = nearest_of f r (closer f r best s) rest

-- each is compared with the best so far. That this is the first of the nearest, Nearest.antt says
unfoldable pub nearest : ℕ → ℕ → Setting
nearest f r = nearest_of f r (setting System false 0) settings

-- ---- the answer
-- a setting with its error, numerator and denominator, or document 02's number
pub data Answer : Type 0 where
  found : Setting → ℤ → ℕ → Answer
  refused : ℕ → Answer

-- "f in Hz (1–20,000,000), wanted rate r (1–1,000,000) and tolerance t in parts per ten thousand (0–10,000)"
pub record InRange (f r t : ℕ) : Type 0 where
  pub clock_least : 1 ≤ f
  pub clock_most : f ≤ 20000000
  pub rate_least : 1 ≤ r
  pub rate_most : r ≤ 1000000
  pub tolerance_most : t ≤ 10000

abbrev pub in_range : ℕ → ℕ → ℕ → Bool
in_range f r t = (leb 1 f && leb f 20000000) && (leb 1 r && leb r 1000000) && leb t 10000

-- 12 where |f − r·P| over r·P is more than t over 10,000; else the setting with its error, f − r·P over r·P
unfoldable pub judged : ℕ → ℕ → ℕ → Setting → Answer
judged f r t s = cond (ltb (t * (r * period s)) (miss f r s * 10000)) (refused 12) (found s (pos f -ℤ pos (r * period s)) (r * period s))

-- 11 where a number is outside its range, "first"
unfoldable pub nearest_rate : ℕ → ℕ → ℕ → Answer
nearest_rate f r t = cond (in_range f r t) (judged f r t (nearest f r)) (refused 11)

-- ---- the code's answers, in document 02's numbers
abbrev pub number : Refusal → ℕ
number Range = 11
number Tolerance = 12

abbrev pub answer : Result Rate Refusal → Answer
answer (Ok rate) = found rate.setting rate.error.numerator rate.error.denominator
answer (Err refusal) = refused (number refusal)
