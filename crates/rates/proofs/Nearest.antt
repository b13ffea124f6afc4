-- The claims of specs/Nearest.antt, proved.
-- Assumes nothing.
use mathlib.Core.Path.{◌≡◌, refl, sym, ap, ◌∙◌, subst, subst⁻¹}
use mathlib.Core.Logic.{⊎_elim}
use mathlib.Core.Bool.{Bool, true, false}
use mathlib.Core.List.{List, [], ◌∷◌, ◌++◌, append_assoc, append-nil}
use Prim.Native.Nat.{ℕ, zero, suc, ◌+◌, ◌*◌, ◌<◌}
use native.Mathlib.Nat.{not-suc-le-zero, eq-or-lt_of_le}
use native.Mathlib.Omega.{arith}
use lib.Dec.{lit<}
use lib.ListN.{length, length-append, get_or-append}
use lib.Seq.{get_or-append_seam}
use borrow.Author.Tests.{lt-ltb, le-ltb, le-leb}
use Rattle.std.proofs.lemmas.Bool.Decides.{nat_tests}
use Rattle.std.specs.List.{Contains}
use Rattle.std.proofs.lemmas.List.Elements.{Contains-append_left, Contains-append_right}
use Rattle.branches.proofs.Branches.{either_way, cond_true, cond_false}
use Rattle.rates.specs.declared.Select.{Select}
use Rattle.rates.specs.declared.Select.TheVariants.{System, System16, System64}
use Rattle.rates.specs.declared.Setting.{Setting}
use Rattle.rates.specs.Rates.{setting, period, column, settings, nearer, closer, nearest_of, nearest, InRange, in_range, refused, judged, nearest_rate}
use Rattle.rates.specs.Nearest.{at, FirstNearest, Chosen, NearestRates, Example, TieOfCells, TieOfDividers}
use Rattle.rates.proofs.Order.{nearer_irrefl, nearer_trans, closer_first, closer_second}

-- ---- the first of the nearest in a list
module _ (f r : ℕ) where
  alone : (s : Setting) → FirstNearest f r (s ∷ []) s
  alone s =
      record {
        place = 0;
        inside = lit< tt;
        there = refl;
        none_nearer = λ i h. let e : i ≡ 0 = omega arith in rw e (nearer_irrefl f r s);
        farther_before = λ i h. absurd (not-suc-le-zero h);
      }

  -- with one more at the end it is the closer of the two
  module _ (xs : List Setting) (s y : Setting) (first : FirstNearest f r xs s) where
    abbrev longer : List Setting
    longer = xs ++ y ∷ []

    old : (i : ℕ) → i < length xs → at longer i ≡ at xs i
    old i h = get_or-append xs (y ∷ []) (setting System false 0) i h

    new : at longer (length xs) ≡ y
    new = get_or-append_seam xs y [] (setting System false 0)

    long : length longer ≡ length xs + 1
    long = length-append xs (y ∷ [])

    -- every place is an old one or the last
    each : (P : Setting → Type 0) → ((i : ℕ) → i < length xs → P (at xs i)) → P y → (i : ℕ) → i < length longer → P (at longer i)
    each P p q i h =
        ⊎_elim
        (λ (e : i ≡ length xs). subst⁻¹ (λ (k : ℕ). P (at longer k)) e (subst⁻¹ P new q))
        (λ (l : i < length xs). subst⁻¹ P (old i l) (p i l))
        (eq-or-lt_of_le (omega (arith, long)))

    grows : FirstNearest f r longer (closer f r s y)
    grows = either_way (nearer f r y s) taken kept
      where
        none : (i : ℕ) → i < length longer → nearer f r (at longer i) (closer f r s y) ≡ false
        none =
            each (λ (x : Setting). nearer f r x (closer f r s y) ≡ false)
            (λ i h. closer_first f r s y (at xs i) (first.none_nearer i h)) (closer_second f r s y y (nearer_irrefl f r y))

        taken : nearer f r y s ≡ true → FirstNearest f r longer (closer f r s y)
        taken e =
            record {
              place = length xs;
              inside = omega (arith, long);
              there = new ∙ sym (cond_true (nearer f r y s) y s e);
              none_nearer = none;
              farther_before = λ i h.
                  rw (cond_true (nearer f r y s) y s e, old i h) (nearer_trans f r y s (at xs i) e (first.none_nearer i h));
            }

        kept : nearer f r y s ≡ false → FirstNearest f r longer (closer f r s y)
        kept e =
            record {
              place = first.place;
              inside = omega (arith, long, first.inside);
              there = old first.place first.inside ∙ first.there ∙ sym (cond_false (nearer f r y s) y s e);
              none_nearer = none;
              farther_before = λ i h.
                  rw (cond_false (nearer f r y s) y s e, old i (omega (arith, first.inside))) (first.farther_before i h);
            }

  found_first : (xs : List Setting) (s : Setting) (ys : List Setting) → FirstNearest f r xs s → FirstNearest f r (xs ++ ys) (nearest_of f r s ys)
  unfolding nearest_of
  found_first xs s [] first = subst⁻¹ (λ (l : List Setting). FirstNearest f r l s) (append-nil xs) first
  found_first xs s (y ∷ ys) first =
      subst (λ (l : List Setting). FirstNearest f r l (nearest_of f r (closer f r s y) ys)) (append_assoc xs (y ∷ []) ys)
      (found_first (xs ++ y ∷ []) (closer f r s y) ys (grows xs s y first))

  whole : (s : Setting) (rest : List Setting) → FirstNearest f r (s ∷ rest) (nearest_of f r s (s ∷ rest))
  unfolding nearest_of
  whole s rest = rw (cond_false (nearer f r s s) s s (nearer_irrefl f r s)) (found_first (s ∷ []) s rest (alone s))

-- ---- the list of settings
column_cons : (select : Select) (short_cell : Bool) (brr n : ℕ)
    → column select short_cell brr (suc n) ≡ setting select short_cell brr ∷ column select short_cell (suc brr) n
unfolding column
column_cons select short_cell brr n = refl

column_length : (select : Select) (short_cell : Bool) (brr n : ℕ) → length (column select short_cell brr n) ≡ n
unfolding column
column_length select short_cell brr zero = refl
column_length select short_cell brr (suc n) = ap suc (column_length select short_cell (suc brr) n)

settings_length : length settings ≡ 1536
unfolding settings
settings_length = simp (length-append, column_length)

column_has : (select : Select) (short_cell : Bool) (brr n k : ℕ) → k < n → Contains (column select short_cell brr n) (setting select short_cell (brr + k))
unfolding column
column_has select short_cell brr zero k h = absurd (not-suc-le-zero h)
column_has select short_cell brr (suc n) zero h =
    let e : brr + 0 ≡ brr = omega arith in
    rw e (0, omega arith, refl)
column_has select short_cell brr (suc n) (suc k) h =
    let e : brr + suc k ≡ suc brr + k = omega arith in
    rw e (Contains-append_right (setting select short_cell brr ∷ []) _ _ (column_has select short_cell (suc brr) n k (omega arith)))

-- the columns of the list, and its first two, three, four and five
module _ (x : Setting) where
  abbrev of : Select → Bool → List Setting
  of select short_cell = column select short_cell 0 256

  abbrev two : List Setting
  two = of System false ++ of System true

  abbrev three : List Setting
  three = two ++ of System16 false

  abbrev four : List Setting
  four = three ++ of System16 true

  abbrev five : List Setting
  five = four ++ of System64 false

  from_five : Contains five x → Contains settings x
  unfolding settings
  from_five h = Contains-append_left five (of System64 true) x h

  from_four : Contains four x → Contains settings x
  from_four h = from_five (Contains-append_left four (of System64 false) x h)

  from_three : Contains three x → Contains settings x
  from_three h = from_four (Contains-append_left three (of System16 true) x h)

  from_two : Contains two x → Contains settings x
  from_two h = from_three (Contains-append_left two (of System16 false) x h)

  in_settings : (select : Select) (short_cell : Bool) → Contains (of select short_cell) x → Contains settings x
  unfolding settings
  in_settings System false h = from_two (Contains-append_left (of System false) (of System true) x h)
  in_settings System true h = from_two (Contains-append_right (of System false) (of System true) x h)
  in_settings System16 false h = from_three (Contains-append_right two (of System16 false) x h)
  in_settings System16 true h = from_four (Contains-append_right three (of System16 true) x h)
  in_settings System64 false h = from_five (Contains-append_right four (of System64 false) x h)
  in_settings System64 true h = Contains-append_right five (of System64 true) x h

settings_have : (s : Setting) → s.brr < 256 → Contains settings s
settings_have s h =
    let e : 0 + s.brr ≡ s.brr = omega arith in
    in_settings s s.select s.short_cell (rw e at (column_has s.select s.short_cell 0 256 s.brr h))

nearest_first : (f r : ℕ) → FirstNearest f r settings (nearest f r)
unfolding nearest settings
nearest_first f r = rw (column_cons System false 0 255) (whole f r (setting System false 0) _)

-- ---- the answer
module _ (f r t : ℕ) where
  inside : InRange f r t → in_range f r t ≡ true
  inside i = grind (arith, nat_tests)

  pub ranges : in_range f r t ≡ true → InRange f r t
  ranges e = grind (arith, nat_tests)

  chosen : InRange f r t → Chosen f r t
  unfolding nearest_rate judged
  chosen i =
      record {
        s = nearest f r;
        first_nearest = nearest_first f r;
        within = λ w. rw (inside i, le-ltb _ _ w);
        beyond = λ w. rw (inside i, lt-ltb _ _ w);
      }

  refused_outside : (InRange f r t → ⊥) → nearest_rate f r t ≡ refused 11
  unfolding nearest_rate
  refused_outside h = either_way (in_range f r t) (λ e. absurd (h (ranges e))) (λ e. rw e)

pub nearest_rates : NearestRates
nearest_rates = record { all_listed = settings_have; no_more = settings_length; in_range = chosen; out_of_range = refused_outside }

-- ---- examples, computed over all 1,536 settings
worked : nearest 3686400 9600 ≡ setting System false 11
unfolding nearest nearest_of settings column nearer period
worked = refl

pub tie_of_cells : TieOfCells
unfolding TieOfCells nearest nearest_of settings column nearer period
tie_of_cells = refl

pub tie_of_dividers : TieOfDividers
unfolding TieOfDividers nearest nearest_of settings column nearer period
tie_of_dividers = refl

pub example : Example
unfolding Example nearest_rate judged period
example t h = rw (le-leb t 10000 h, worked, le-ltb (t * 3686400) 0 (omega arith))
