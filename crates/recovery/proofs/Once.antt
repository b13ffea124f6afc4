-- Each word is completed once, in its first stop cell: the two bounds of every moment, said word by word.
-- Assumes nothing.
use mathlib.Core.Path.{◌≡◌, refl, ap, ap₂, ◌∙◌, subst}
use Prim.Native.Nat.{ℕ, zero, suc, ◌+◌, ◌-◌, ◌*◌, ◌≤◌, ◌<◌, zero-le}
use native.Mathlib.Omega.{arith}
use native.Mathlib.Nat.{le_refl, le_of_eq}
use mathlib.Core.Bool.{Bool, true, false}
use mathlib.Core.List.{List, [], ◌∷◌, ◌++◌}
use lib.Dec.{ltb, leb}
use lib.ListN.{length}
use borrow.Author.Tests.{lt-ltb, le-ltb, le-leb}
use Rattle.frame.specs.declared.Format.{Format}
use Rattle.port.specs.declared.Port.{Port}
use Rattle.frame.specs.Frame.{one_if, stop}
use Rattle.port.specs.Baud.{format_of}
use Rattle.recovery.specs.Line.{Count, Event, LineItem, count_after, half_passes, mark, none_yet, other, rdr_read, span, span_of, stop_cells_begun, stop_cells_passed, word_of, words_in}
use Rattle.recovery.specs.Recovery.{Moment, Once, completed, completed_on, level_of, levels, throughout}
use Rattle.recovery.proofs.Bounds.{format_sound}
use Rattle.frame.proofs.Laws.{one_if≤}
use Rattle.recovery.proofs.Words.{at_least, passed_zero}

pub begun_zero : (f : Format) (is : List LineItem) → stop_cells_begun f is 0 ≡ 0
unfolding stop_cells_begun
begun_zero f [] = refl
begun_zero f (mark n ∷ is) = let e : 0 - n ≡ 0 = omega arith in rw e (begun_zero f is)
begun_zero f (word_of v ∷ is) =
    let e : 0 - span f ≡ 0 = omega arith in
    let t : ltb (stop f * f.half_bit) 0 ≡ false = le-ltb (stop f * f.half_bit) 0 (omega arith) in
    rw (e, t) (omega (arith, begun_zero f is))

module _ (f : Format) (long : 16 ≤ f.half_bit) (st : 0 < f.stops) where
  room : stop f * f.half_bit + f.half_bit ≤ span f
  room = let b : f.half_bit ≤ f.stops * f.half_bit = at_least f.stops f.half_bit st in omega arith

  pub begun_past : (xs zs : List LineItem) (k : ℕ) → stop_cells_begun f (xs ++ zs) (span_of f xs + k) ≡ words_in xs + stop_cells_begun f zs k
  unfolding stop_cells_begun span_of words_in
  begun_past [] zs k = let e : 0 + k ≡ k = omega arith in rw e (omega arith)
  begun_past (mark n ∷ xs) zs k =
      let e : n + span_of f xs + k - n ≡ span_of f xs + k = omega arith in
      ap (stop_cells_begun f (xs ++ zs)) e ∙ begun_past xs zs k
  begun_past (word_of v ∷ xs) zs k =
      let e : span f + span_of f xs + k - span f ≡ span_of f xs + k = omega arith in
      let t : ltb (stop f * f.half_bit) (span f + span_of f xs + k) ≡ true = lt-ltb (stop f * f.half_bit) (span f + span_of f xs + k) (omega (arith, room)) in
      ap₂ (λ (b : Bool) (x : ℕ). one_if b + x) t (ap (stop_cells_begun f (xs ++ zs)) e ∙ begun_past xs zs k) ∙ omega arith

  pub passed_past : (xs zs : List LineItem) (k : ℕ) → stop_cells_passed f (xs ++ zs) (span_of f xs + k) ≡ words_in xs + stop_cells_passed f zs k
  unfolding stop_cells_passed span_of words_in
  passed_past [] zs k = let e : 0 + k ≡ k = omega arith in rw e (omega arith)
  passed_past (mark n ∷ xs) zs k =
      let e : n + span_of f xs + k - n ≡ span_of f xs + k = omega arith in
      ap (stop_cells_passed f (xs ++ zs)) e ∙ passed_past xs zs k
  passed_past (word_of v ∷ xs) zs k =
      let e : span f + span_of f xs + k - span f ≡ span_of f xs + k = omega arith in
      let t : leb (suc (stop f) * f.half_bit) (span f + span_of f xs + k) ≡ true = le-leb (suc (stop f) * f.half_bit) (span f + span_of f xs + k) (omega (arith, room)) in
      ap₂ (λ (b : Bool) (x : ℕ). one_if b + x) t (ap (stop_cells_passed f (xs ++ zs)) e ∙ passed_past xs zs k) ∙ omega arith

  pub begun_in : (v : ℕ) (ys : List LineItem) (k : ℕ) → k ≤ stop f * f.half_bit + f.half_bit → stop_cells_begun f (word_of v ∷ ys) k ≡ one_if (ltb (stop f * f.half_bit) k)
  unfolding stop_cells_begun
  begun_in v ys k h = let e : k - span f ≡ 0 = omega (arith, room) in rw e (omega (arith, begun_zero f ys))

  passed_in : (v : ℕ) (ys : List LineItem) (k : ℕ) → k ≤ stop f * f.half_bit + f.half_bit → stop_cells_passed f (word_of v ∷ ys) k ≡ one_if (leb (suc (stop f) * f.half_bit) k)
  unfolding stop_cells_passed
  passed_in v ys k h = let e : k - span f ≡ 0 = omega (arith, room) in rw e (omega (arith, passed_zero f (omega arith) ys))

-- the two bounds at every number of halves
pub record Between (f : Format) (items : List LineItem) (k n : ℕ) : Type 0 where
  pub least : stop_cells_passed f items k ≤ n
  pub most : n ≤ stop_cells_begun f items k

moved : (f : Format) (items : List LineItem) (k k' n n' : ℕ) → k ≡ k' → n ≡ n' → Between f items k n → Between f items k' n'
moved f items k k' n n' e g b = subst (λ (x : ℕ). Between f items x n') e (subst (Between f items k) g b)

one_more : (f : Format) (items : List LineItem) (c : Count) (e : Event) (ls : List Bool) (r : ℕ → ℕ) → Between f items c.halves c.completions
    → ((k : ℕ) → k ≤ length ls → Between f items ((count_after c e).halves + k) ((count_after c e).completions + r k))
    → (k : ℕ) → k ≤ length (level_of e ls) → Between f items (c.halves + k) (c.completions + completed_on e k r)
one_more f items c (half_passes m true) ls r b i zero h = moved f items c.halves (c.halves + 0) c.completions (c.completions + 0) (omega arith) (omega arith) b
one_more f items c (half_passes m true) ls r b i (suc k) h =
    moved f items (suc c.halves + k) (c.halves + suc k) (suc c.completions + r k) (c.completions + (1 + r k)) (omega arith) (omega arith) (i k (omega arith))
one_more f items c (half_passes m false) ls r b i zero h = moved f items c.halves (c.halves + 0) c.completions (c.completions + 0) (omega arith) (omega arith) b
one_more f items c (half_passes m false) ls r b i (suc k) h =
    moved f items (suc c.halves + k) (c.halves + suc k) (c.completions + r k) (c.completions + (0 + r k)) (omega arith) (omega arith) (i k (omega arith))
one_more f items c (rdr_read a) ls r b i k h = i k h
one_more f items c other ls r b i k h = i k h

bounds : (start : Port) (items : List LineItem) (ms : List Moment) (c : Count) → Between (format_of start) items c.halves c.completions
    → throughout start items c ms → (k : ℕ) → k ≤ length (levels ms) → Between (format_of start) items (c.halves + k) (c.completions + completed ms k)
unfolding completed levels
bounds start items [] c b a k h =
    moved (format_of start) items c.halves (c.halves + k) c.completions (c.completions + 0) (omega arith) (omega arith) b
bounds start items (m ∷ ms) c b a k h =
    one_more (format_of start) items c m.event (levels ms) (completed ms) b
    (bounds start items ms (count_after c m.event) (record { least = a.0.least; most = a.0.most }) a.1) k h

once : (f : Format) → 16 ≤ f.half_bit → 0 < f.stops → (xs ys : List LineItem) (v : ℕ) (ms : List Moment)
    → ((k : ℕ) → k ≤ length (levels ms) → Between f (xs ++ word_of v ∷ ys) k (completed ms k)) → Once f ms xs
once f long st xs ys v ms b =
    record {
      before = λ l.
          let a : ℕ = span_of f xs + stop f * f.half_bit in
          let e1 : stop_cells_passed f (xs ++ word_of v ∷ ys) a ≡ words_in xs + stop_cells_passed f (word_of v ∷ ys) (stop f * f.half_bit) = passed_past f long st xs (word_of v ∷ ys) (stop f * f.half_bit) in
          let e2 : stop_cells_begun f (xs ++ word_of v ∷ ys) a ≡ words_in xs + stop_cells_begun f (word_of v ∷ ys) (stop f * f.half_bit) = begun_past f long st xs (word_of v ∷ ys) (stop f * f.half_bit) in
          let t : ltb (stop f * f.half_bit) (stop f * f.half_bit) ≡ false = le-ltb (stop f * f.half_bit) (stop f * f.half_bit) (le_refl (stop f * f.half_bit)) in
          omega (arith, e1, e2, begun_in f long st v ys (stop f * f.half_bit) (omega arith) ∙ ap one_if t, (b a l).least, (b a l).most);
      within = λ k h l.
          let a : ℕ = span_of f xs + (stop f * f.half_bit + k) in
          let e2 : stop_cells_begun f (xs ++ word_of v ∷ ys) a ≡ words_in xs + stop_cells_begun f (word_of v ∷ ys) (stop f * f.half_bit + k) = begun_past f long st xs (word_of v ∷ ys) (stop f * f.half_bit + k) in
          omega (arith, e2, begun_in f long st v ys (stop f * f.half_bit + k) (omega arith), one_if≤ (ltb (stop f * f.half_bit) (stop f * f.half_bit + k)), (b a l).most);
      through = λ l.
          let a : ℕ = span_of f xs + suc (stop f) * f.half_bit in
          let e1 : stop_cells_passed f (xs ++ word_of v ∷ ys) a ≡ words_in xs + stop_cells_passed f (word_of v ∷ ys) (suc (stop f) * f.half_bit) = passed_past f long st xs (word_of v ∷ ys) (suc (stop f) * f.half_bit) in
          let e2 : stop_cells_begun f (xs ++ word_of v ∷ ys) a ≡ words_in xs + stop_cells_begun f (word_of v ∷ ys) (suc (stop f) * f.half_bit) = begun_past f long st xs (word_of v ∷ ys) (suc (stop f) * f.half_bit) in
          let t : leb (suc (stop f) * f.half_bit) (suc (stop f) * f.half_bit) ≡ true = le-leb (suc (stop f) * f.half_bit) (suc (stop f) * f.half_bit) (le_refl (suc (stop f) * f.half_bit)) in
          omega (arith, e1, e2, passed_in f long st v ys (suc (stop f) * f.half_bit) (omega arith) ∙ ap one_if t, begun_in f long st v ys (suc (stop f) * f.half_bit) (omega arith), one_if≤ (ltb (stop f * f.half_bit) (suc (stop f) * f.half_bit)), (b a l).least, (b a l).most);
    }

-- the two bounds of every moment, at every number of halves
pub between : (first : Port) (items : List LineItem) (ms : List Moment) → throughout first items none_yet ms → (k : ℕ) → k ≤ length (levels ms)
    → Between (format_of first) items k (completed ms k)
between first items ms al k l =
    moved (format_of first) items (0 + k) k (0 + completed ms k) (completed ms k) (omega arith) (omega arith)
    (bounds first items ms none_yet (record { least = le_of_eq (passed_zero (format_of first) (omega (arith, (format_sound first.smr first.semr).long)) items); most = zero-le }) al k l)

-- and so word by word
pub once_each : (first : Port) (items : List LineItem) (ms : List Moment) → throughout first items none_yet ms → (xs ys : List LineItem) (v : ℕ)
    → items ≡ xs ++ (word_of v ∷ ys) → Once (format_of first) ms xs
once_each first items ms al xs ys v e =
    once (format_of first) (format_sound first.smr first.semr).long (format_sound first.smr first.semr).stops xs ys v ms
    (subst (λ (is : List LineItem). (k : ℕ) → k ≤ length (levels ms) → Between (format_of first) is k (completed ms k)) e (between first items ms al))
