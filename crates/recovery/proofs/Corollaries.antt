-- Demand 3 sentence by sentence (specs/Corollaries.antt), from the claim.
-- Assumes nothing.
use mathlib.Core.Path.{◌≡◌, refl, sym, ap, ◌∙◌, subst}
use Prim.Native.Nat.{ℕ, zero, suc, ◌+◌, ◌-◌, ◌*◌, ◌%◌, ◌^◌, ◌≤◌, ◌<◌}
use native.Mathlib.Omega.{arith}
use mathlib.Core.Bool.{Bool, true, false, cond, true≢false}
use mathlib.Core.List.{List, [], ◌∷◌, ◌++◌}
use lib.Dec.{eqb, ltb, leb}
use lib.ListN.{get_or}
use borrow.Author.Tests.{le-ltb, le-leb, ltb-true, leb-true, leb-false}
use Rattle.port.specs.Calls.{run as port_run, Answer, after, called, direct, done, refuse, refused}
use Rattle.command.specs.declared.Call.{Call}
use Rattle.command.specs.declared.Call.TheVariants.{Wait, Inside, Read, Line, Pins, Power, Write}
use Rattle.frame.specs.declared.Format.{Format}
use Rattle.port.specs.declared.Port.{Port}
use Rattle.frame.specs.Frame.{has, one_if, stop}
use Rattle.port.specs.Baud.{format_of, internal}
use Rattle.port.specs.Half.{half_step, halves, uncounted}
use Rattle.port.specs.Valid.{limit, valid}
use Rattle.branches.proofs.Branches.{by_cond}
use Rattle.port_laws.proofs.Laws.{refused_stands}
use Rattle.port_laws.specs.Laws.{RefusedStands}
use Rattle.recovery.specs.Corollaries.{Demand, EndsThere, HearsTheLine, NthWord, OneList, cell_begins, cell_ends, completions_between, completions_of, every, halves_in, last_port, one_completion, rdrf_after, tally_step}
use Rattle.recovery.specs.Line.{Count, Event, LineItem, count_after, half_passes, mark, none_yet, other, rdr_read, span, span_of, stop_cells_begun, stop_cells_passed, tally_after, values, word_of, words_in}
use Rattle.recovery.specs.Recovery.{Moment, Once, Recovered, Recovers, Wired, answer_is, completed, one_moment, run_wired, start, wired_after, throughout, trace}
use Rattle.recovery.proofs.Bounds.{format_sound}
use Rattle.recovery.proofs.Bridge.{grown_run, run_is, trace_is}
use Rattle.recovery.proofs.Halfwise.{half_moments, moments, moments_of}
use Rattle.recovery.proofs.LineFold.{lined_run, lined_start}
use Rattle.recovery.proofs.Once.{Between, begun_in, begun_past, begun_zero, between, passed_past}
use Rattle.recovery.proofs.Recovery.{grown_start, recovery}
use Rattle.frame.proofs.Laws.{one_if≤}
use Rattle.recovery.proofs.Words.{at_least, passed_zero}

-- ---- moment by moment
rdrf_is : (first : Port) (items : List LineItem) (ms : List Moment) (p : Port) (c : Count) → has p.ssr 0x40 ≡ c.unread → throughout first items c ms
    → every (λ q m. has m.port.ssr 0x40 ≡ rdrf_after m.event (has q.ssr 0x40)) p ms
rdrf_is first items [] p c e a = tt
rdrf_is first items (m ∷ ms) p c e a = (a.0.rdrf ∙ go m.event, rdrf_is first items ms m.port (count_after c m.event) a.0.rdrf a.1)
  where
    go : (x : Event) → (count_after c x).unread ≡ rdrf_after x (has p.ssr 0x40)
    go (half_passes l true) = refl
    go (half_passes l false) = sym e
    go (rdr_read v) = refl
    go other = sym e

no_error_is : (first : Port) (items : List LineItem) (ms : List Moment) (p : Port) (c : Count) → throughout first items c ms
    → every (λ q m. has m.port.ssr 0x38 ≡ false) p ms
no_error_is first items [] p c a = tt
no_error_is first items (m ∷ ms) p c a = (a.0.no_error, no_error_is first items ms m.port (count_after c m.event) a.1)

tally_is : (first : Port) (items : List LineItem) (ms : List Moment) (p : Port) (c : Count) → p.received ≡ tally_after c.completions first.received → throughout first items c ms
    → every (λ q m. m.port.received ≡ tally_step m.event q.received) p ms
unfolding tally_after
tally_is first items [] p c e a = tt
tally_is first items (m ∷ ms) p c e a = (a.0.tally ∙ go m.event, tally_is first items ms m.port (count_after c m.event) a.0.tally a.1)
  where
    go : (x : Event) → tally_after (count_after c x).completions first.received ≡ tally_step x p.received
    go (half_passes l true) = ap (λ (t : ℕ). suc t % 2 ^ 64) (sym e)
    go (half_passes l false) = sym e
    go (rdr_read v) = sym e
    go other = sym e

-- ---- words by number
-- a word, with one item more before it
behind : (i : LineItem) (is : List LineItem) (n m : ℕ) (w : NthWord is n) → words_in (i ∷ w.earlier) ≡ m → NthWord (i ∷ is) m
behind i is n m w e = record { earlier = i ∷ w.earlier; value = w.value; later = w.later; split = ap (λ (xs : List LineItem). i ∷ xs) w.split; place = e }

nth_word : (f : Format) (items : List LineItem) (n : ℕ) → n < words_in items → (w : NthWord items n) × (get_or (values f items) n 0 ≡ w.value % 2 ^ f.«data»)
unfolding behind words_in values
nth_word f [] n h = let z : ⊥ = omega arith in absurd z
nth_word f (mark k ∷ is) n h =
    let w : (w : NthWord is n) × (get_or (values f is) n 0 ≡ w.value % 2 ^ f.«data») = nth_word f is n h in
    (behind (mark k) is n n w.0 w.0.place, w.1)
nth_word f (word_of v ∷ is) zero h = (record { earlier = []; value = v; later = is; split = refl; place = refl }, refl)
nth_word f (word_of v ∷ is) (suc n) h =
    let w : (w : NthWord is n) × (get_or (values f is) n 0 ≡ w.value % 2 ^ f.«data») = nth_word f is n (omega arith) in
    (behind (word_of v) is n (suc n) w.0 (ap suc w.0.place), w.1)

begun_words : (f : Format) (items : List LineItem) (k : ℕ) → stop_cells_begun f items k ≤ words_in items
unfolding words_in stop_cells_begun
begun_words f [] k = omega arith
begun_words f (mark n ∷ is) k = begun_words f is (k - n)
begun_words f (word_of v ∷ is) k = omega (arith, one_if≤ (ltb (stop f * f.half_bit) k), begun_words f is (k - span f))

-- a read of RDR, with what stands before it
at_read : (first : Port) (items : List LineItem) (before after : List Moment) (m : Moment) (a n : ℕ) (c : Count) → throughout first items c (before ++ (m ∷ after))
    → m.event ≡ rdr_read a → c.completions + completions_of before ≡ suc n → (suc n ≤ words_in items) × (a ≡ get_or (values (format_of first) items) n 0)
unfolding completions_of
at_read first items [] after m a n c t e q = go m.event e t.0.most t.0.answer
  where
    go : (x : Event) → x ≡ rdr_read a → (count_after c x).completions ≤ stop_cells_begun (format_of first) items (count_after c x).halves → answer_is (format_of first) items (count_after c x) x
        → (suc n ≤ words_in items) × (a ≡ get_or (values (format_of first) items) n 0)
    go x g =
        subst (λ (y : Event). (count_after c y).completions ≤ stop_cells_begun (format_of first) items (count_after c y).halves → answer_is (format_of first) items (count_after c y) y
        → (suc n ≤ words_in items) × (a ≡ get_or (values (format_of first) items) n 0)) (sym g)
        (λ most answer. (omega (arith, begun_words (format_of first) items c.halves), answer n (omega arith)))
at_read first items (b ∷ before) after m a n c t e q =
    at_read first items before after m a n (count_after c b.event) t.1 e (go b.event q)
  where
    go : (x : Event) → c.completions + (one_completion x + completions_of before) ≡ suc n → (count_after c x).completions + completions_of before ≡ suc n
    go (half_passes l true) g = omega arith
    go (half_passes l false) g = omega arith
    go (rdr_read v) g = omega arith
    go other g = omega arith

-- ---- where a completion lies
module _ (f : Format) (long : 16 ≤ f.half_bit) (st : 0 < f.stops) where
  whole_cell : suc (stop f) * f.half_bit ≤ span f
  whole_cell = let b : f.half_bit ≤ f.stops * f.half_bit = at_least f.stops f.half_bit st in omega arith

  -- first stop cells do not overlap
  begun_near : (is : List LineItem) (k : ℕ) → stop_cells_begun f is (suc k) ≤ suc (stop_cells_passed f is k)
  unfolding stop_cells_begun stop_cells_passed
  begun_near [] k = omega arith
  begun_near (mark n ∷ is) k = go (begun_near is (k - n)) (leb n k) refl
    where
      go : stop_cells_begun f is (suc (k - n)) ≤ suc (stop_cells_passed f is (k - n)) → (b : Bool) → leb n k ≡ b → stop_cells_begun f is (suc k - n) ≤ suc (stop_cells_passed f is (k - n))
      go ih true e =
          let h : n ≤ k = leb-true n k e in
          let g : suc k - n ≡ suc (k - n) = omega arith in
          rw g ih
      go ih false e =
          let h : k < n = leb-false n k e in
          let g : suc k - n ≡ 0 = omega arith in
          rw g (omega (arith, begun_zero f is))
  begun_near (word_of v ∷ is) k = go (begun_near is (k - span f)) (leb (span f) k) refl
    where
      go : stop_cells_begun f is (suc (k - span f)) ≤ suc (stop_cells_passed f is (k - span f)) → (b : Bool) → leb (span f) k ≡ b
          → one_if (ltb (stop f * f.half_bit) (suc k)) + stop_cells_begun f is (suc k - span f) ≤ suc (one_if (leb (suc (stop f) * f.half_bit) k) + stop_cells_passed f is (k - span f))
      go ih true e =
          let h : span f ≤ k = leb-true (span f) k e in
          let g : suc k - span f ≡ suc (k - span f) = omega arith in
          let t : leb (suc (stop f) * f.half_bit) k ≡ true = le-leb (suc (stop f) * f.half_bit) k (omega (arith, whole_cell)) in
          rw (g, t) (omega (arith, ih, one_if≤ (ltb (stop f * f.half_bit) (suc k))))
      go ih false e =
          let h : k < span f = leb-false (span f) k e in
          let g : suc k - span f ≡ 0 = omega arith in
          rw g (omega (arith, begun_zero f is, one_if≤ (ltb (stop f * f.half_bit) (suc k))))

  abbrev InStopCell : List LineItem → ℕ → Type 0
  InStopCell is k = (w : NthWord is (stop_cells_passed f is k)) × (cell_begins f w.earlier ≤ k) × (k < cell_ends f w.earlier)

  -- a first stop cell that has begun and not passed
  in_stop_cell : (is : List LineItem) (k : ℕ) → stop_cells_passed f is k < stop_cells_begun f is (suc k) → InStopCell is k
  unfolding behind stop_cells_begun stop_cells_passed span_of words_in
  in_stop_cell [] k h = let z : ⊥ = omega arith in absurd z
  in_stop_cell (mark n ∷ is) k h = go (in_stop_cell is (k - n)) (leb n k) refl
    where
      go : (stop_cells_passed f is (k - n) < stop_cells_begun f is (suc (k - n)) → InStopCell is (k - n)) → (b : Bool) → leb n k ≡ b → InStopCell (mark n ∷ is) k
      go ih true e =
          let le : n ≤ k = leb-true n k e in
          let g : suc k - n ≡ suc (k - n) = omega arith in
          let w : InStopCell is (k - n) = ih (rw g at h) in
          (behind (mark n) is (stop_cells_passed f is (k - n)) (stop_cells_passed f is (k - n)) w.0 w.0.place, omega arith, omega arith)
      go ih false e =
          let lt : k < n = leb-false n k e in
          let g : suc k - n ≡ 0 = omega arith in
          let z : ⊥ = omega (arith, begun_zero f is, rw g at h) in
          absurd z
  in_stop_cell (word_of v ∷ is) k h = go (in_stop_cell is (k - span f)) (leb (span f) k) refl
    where
      here : (x y : Bool) → ltb (stop f * f.half_bit) (suc k) ≡ x → leb (suc (stop f) * f.half_bit) k ≡ y → one_if y + stop_cells_passed f is 0 < one_if x + 0
          → (stop f * f.half_bit ≤ k) × (k < suc (stop f) * f.half_bit) × (y ≡ false)
      here true true e g q = let z : ⊥ = omega arith in absurd z
      here true false e g q = let a : stop f * f.half_bit < suc k = ltb-true (stop f * f.half_bit) (suc k) e in (omega arith, leb-false (suc (stop f) * f.half_bit) k g, refl)
      here false true e g q = let z : ⊥ = omega arith in absurd z
      here false false e g q = let z : ⊥ = omega arith in absurd z

      go : (stop_cells_passed f is (k - span f) < stop_cells_begun f is (suc (k - span f)) → InStopCell is (k - span f)) → (b : Bool) → leb (span f) k ≡ b → InStopCell (word_of v ∷ is) k
      go ih true e =
          let le : span f ≤ k = leb-true (span f) k e in
          let g : suc k - span f ≡ suc (k - span f) = omega arith in
          let t : leb (suc (stop f) * f.half_bit) k ≡ true = le-leb (suc (stop f) * f.half_bit) k (omega (arith, whole_cell)) in
          let s : one_if (leb (suc (stop f) * f.half_bit) k) ≡ 1 = ap one_if t in
          let u : stop_cells_passed f is (k - span f) < stop_cells_begun f is (suc (k - span f))
          = omega (arith, rw g at h, s, one_if≤ (ltb (stop f * f.half_bit) (suc k))) in
          let w : InStopCell is (k - span f) = ih u in
          (behind (word_of v) is (stop_cells_passed f is (k - span f)) (one_if (leb (suc (stop f) * f.half_bit) k) + stop_cells_passed f is (k - span f)) w.0 (omega (arith, w.0.place, s)), omega arith, omega arith)
      go ih false e =
          let lt : k < span f = leb-false (span f) k e in
          let g : suc k - span f ≡ 0 = omega arith in
          let g' : k - span f ≡ 0 = omega arith in
          let q : (stop f * f.half_bit ≤ k) × (k < suc (stop f) * f.half_bit) × (leb (suc (stop f) * f.half_bit) k ≡ false)
          = here (ltb (stop f * f.half_bit) (suc k)) (leb (suc (stop f) * f.half_bit) k) refl refl (rw (g, g', begun_zero f is) at h) in
          (record { earlier = []; value = v; later = is; split = refl; place = rw (g', passed_zero f (omega (arith, long)) is, q.2) }, omega arith, omega arith)

-- ---- the sentences
module _ (first : Port) (items : List LineItem) (ms : List Moment) (al : throughout first items none_yet ms) where
  sure : (k : ℕ) → k ≤ halves_in ms → Between (format_of first) items k (completed ms k)
  sure = between first items ms al

  cell_is_long : 16 ≤ (format_of first).half_bit
  cell_is_long = (format_sound first.smr first.semr).long

  has_stop : 0 < (format_of first).stops
  has_stop = (format_sound first.smr first.semr).stops

  -- j halves into the items zs, with no first stop cell begun in them, the completions are those of the words before
  as_before : (xs zs : List LineItem) (j : ℕ) → items ≡ xs ++ zs → stop_cells_begun (format_of first) zs j ≡ 0 → span_of (format_of first) xs + j ≤ halves_in ms
      → completed ms (span_of (format_of first) xs + j) ≡ words_in xs
  as_before xs zs j e z l =
      let b : Between (format_of first) (xs ++ zs) (span_of (format_of first) xs + j) (completed ms (span_of (format_of first) xs + j))
      = subst (λ (is : List LineItem). Between (format_of first) is (span_of (format_of first) xs + j) (completed ms (span_of (format_of first) xs + j))) e (sure (span_of (format_of first) xs + j) l) in
      omega (arith, b.least, b.most, begun_past (format_of first) cell_is_long has_stop xs zs j, passed_past (format_of first) cell_is_long has_stop xs zs j)

  in_mark : (xs ys : List LineItem) (n k : ℕ) → items ≡ xs ++ (mark n ∷ ys) → k ≤ n → span_of (format_of first) xs + k ≤ halves_in ms
      → completed ms (span_of (format_of first) xs + k) ≡ words_in xs
  unfolding stop_cells_begun
  in_mark xs ys n k e h l =
      let g : k - n ≡ 0 = omega arith in
      as_before xs (mark n ∷ ys) k e (ap (stop_cells_begun (format_of first) ys) g ∙ begun_zero (format_of first) ys) l

  whole_word : ((xs ys : List LineItem) (v : ℕ) → items ≡ xs ++ (word_of v ∷ ys) → Once (format_of first) ms xs) → (n : ℕ) (w : NthWord items n)
      → cell_ends (format_of first) w.earlier ≤ halves_in ms
      → (completions_between ms (cell_begins (format_of first) w.earlier) (cell_ends (format_of first) w.earlier) ≡ 1)
      × (completed ms (cell_begins (format_of first) w.earlier) ≡ n)
  whole_word once n w l =
      let o : Once (format_of first) ms w.earlier = once w.earlier w.later w.value w.split in
      let a : completed ms (cell_begins (format_of first) w.earlier) ≡ words_in w.earlier = o.before (omega arith) in
      let b : completed ms (cell_ends (format_of first) w.earlier) ≡ suc (words_in w.earlier) = o.through l in
      (omega arith, a ∙ w.place)

  cut_word : ((xs ys : List LineItem) (v : ℕ) → items ≡ xs ++ (word_of v ∷ ys) → Once (format_of first) ms xs) → (n : ℕ) (w : NthWord items n)
      → cell_begins (format_of first) w.earlier ≤ halves_in ms → halves_in ms ≤ cell_ends (format_of first) w.earlier
      → (completions_between ms (cell_begins (format_of first) w.earlier) (halves_in ms) ≤ 1)
      × (completed ms (cell_begins (format_of first) w.earlier) ≡ n)
  cut_word once n w l u =
      let o : Once (format_of first) ms w.earlier = once w.earlier w.later w.value w.split in
      let x : ℕ = span_of (format_of first) w.earlier in
      let y : ℕ = stop (format_of first) * (format_of first).half_bit in
      let k : ℕ = halves_in ms - (x + y) in
      let e : x + (y + k) ≡ halves_in ms = omega arith in
      let a : completed ms (cell_begins (format_of first) w.earlier) ≡ words_in w.earlier = o.before l in
      let b : completed ms (halves_in ms) ≤ suc (words_in w.earlier)
      = subst (λ (h : ℕ). completed ms h ≤ suc (words_in w.earlier)) e (o.within k (omega arith) (omega arith)) in
      (omega arith, a ∙ w.place)

  cut_early : (n : ℕ) (w : NthWord items n) → span_of (format_of first) w.earlier ≤ halves_in ms → halves_in ms ≤ cell_begins (format_of first) w.earlier
      → completed ms (halves_in ms) ≡ n
  cut_early n w l u =
      let x : ℕ = span_of (format_of first) w.earlier in
      let y : ℕ = stop (format_of first) * (format_of first).half_bit in
      let k : ℕ = halves_in ms - x in
      let e : x + k ≡ halves_in ms = omega arith in
      let z : stop_cells_begun (format_of first) (word_of w.value ∷ w.later) k ≡ 0
      = begun_in (format_of first) cell_is_long has_stop w.value w.later k (omega arith) ∙ ap one_if (le-ltb y k (omega arith)) in
      subst (λ (h : ℕ). completed ms h ≡ words_in w.earlier) e (as_before w.earlier (word_of w.value ∷ w.later) k w.split z (omega arith)) ∙ w.place

  only_there : (k : ℕ) → k < halves_in ms → completed ms (suc k) ≡ suc (completed ms k)
      → (w : NthWord items (completed ms k)) × (cell_begins (format_of first) w.earlier ≤ k) × (k < cell_ends (format_of first) w.earlier)
  only_there k h e =
      let a : stop_cells_passed (format_of first) items k ≤ completed ms k = (sure k (omega arith)).least in
      let b : completed ms (suc k) ≤ stop_cells_begun (format_of first) items (suc k) = (sure (suc k) h).most in
      let c : stop_cells_begun (format_of first) items (suc k) ≤ suc (stop_cells_passed (format_of first) items k) = begun_near (format_of first) cell_is_long has_stop items k in
      let q : stop_cells_passed (format_of first) items k ≡ completed ms k = omega arith in
      subst (λ (n : ℕ). (w : NthWord items n) × (cell_begins (format_of first) w.earlier ≤ k) × (k < cell_ends (format_of first) w.earlier)) q
      (in_stop_cell (format_of first) cell_is_long has_stop items k (omega arith))

pub demanded : (port : Call → Port → Answer) → Recovers port → Demand port
unfolding Recovers Demand tally_after
demanded port claim history rest words items he rs ws =
    let r : Wired = run_wired port (run_wired port start history) rest in
    let ms : List Moment = trace port r words in
    let c : Recovered port history rest words items = claim history rest words items he rs ws in
    let al : throughout r.port items none_yet ms = c.conditions in
    record {
      whole = whole_word r.port items ms al c.once;
      cut_inside = cut_word r.port items ms al c.once;
      cut_before = cut_early r.port items ms al;
      no_others = only_there r.port items ms al;
      none_in_mark = λ xs ys n k e h l.
          let x : ℕ = span_of (format_of r.port) xs in
          let z : x + 0 ≡ x = omega arith in
          let a : completed ms (x + 0) ≡ words_in xs = in_mark r.port items ms al xs ys n 0 e (omega arith) (omega arith) in
          let b : completed ms (x + k) ≡ words_in xs = in_mark r.port items ms al xs ys n k e h l in
          omega (arith, rw z at a, b);
      rdrf_first = c.at_first.rdrf;
      rdrf = rdrf_is r.port items ms r.port none_yet c.at_first.rdrf al;
      no_error_first = c.at_first.no_error;
      no_error = no_error_is r.port items ms r.port none_yet al;
      tally = tally_is r.port items ms r.port none_yet refl al;
      reads = λ before after m a n e g q.
          let t : (suc n ≤ words_in items) × (a ≡ get_or (values (format_of r.port) items) n 0)
          = at_read r.port items before after m a n none_yet (subst (throughout r.port items none_yet) e al) g (omega arith) in
          let w : (w : NthWord items n) × (get_or (values (format_of r.port) items) n 0 ≡ w.value % 2 ^ (format_of r.port).«data») = nth_word (format_of r.port) items n t.0 in
          (w.0, t.1 ∙ w.1);
    }

-- ---- of the real port
pub demand : Demand direct
demand = demanded direct recovery

pub run_append : (port : Call → Port → Answer) (xs ys : List Call) (s : Wired) → run_wired port s (xs ++ ys) ≡ run_wired port (run_wired port s xs) ys
unfolding run_wired
run_append port [] ys s = refl
run_append port (c ∷ xs) ys s = run_append port xs ys (wired_after c (port c s.port) s)

pub one_list : (port : Call → Port → Answer) → OneList port
unfolding OneList
one_list port history rest words = run_append port history (rest ++ words) start ∙ run_append port rest words (run_wired port start history)

pub hears_the_line : HearsTheLine direct
unfolding HearsTheLine
hears_the_line calls = lined_run calls start lined_start

-- ---- a trace ends where the calls do
last_append : (xs ys : List Moment) (p : Port) → last_port p (xs ++ ys) ≡ last_port (last_port p xs) ys
last_append [] ys p = refl
last_append (m ∷ xs) ys p = last_append xs ys m.port

last_halves : (n : ℕ) (p : Port) → last_port p (half_moments n p) ≡ halves n p
unfolding half_moments halves
last_halves zero p = refl
last_halves (suc n) p = last_halves n (half_step p)

last_wait : (n : ℕ) (p : Port) → last_port p (moments_of (Wait n) (direct (Wait n) p) p) ≡ after (direct (Wait n) p)
unfolding direct called
last_wait n p =
    by_cond Is (valid p) _ (refuse 8 p)
    (λ e. by_cond Is (leb n 65535) _ (refuse 2 p)
    (λ e. by_cond Is (internal p) _ (done 0 (uncounted n p))
    (λ i. by_cond Is (leb (p.half + n) limit) (done 0 (halves n p)) (refuse 4 p) (λ e. counts (internal p) i) (λ e. refl)) (λ i. stands (internal p) i))
    (λ e. refl))
    (λ e. refl)
  where
    Is : Answer → Type 0
    Is r = last_port p (moments_of (Wait n) r p) ≡ after r

    counts : (b : Bool) → b ≡ true → last_port p (cond b (half_moments n p) (one_moment (λ u. other) (done 0 (halves n p)))) ≡ halves n p
    counts true e = last_halves n p
    counts false e = refl

    stands : (b : Bool) → b ≡ false → last_port p (cond b (half_moments n p) (one_moment (λ u. other) (done 0 (uncounted n p)))) ≡ uncounted n p
    stands true e = absurd (true≢false e)
    stands false e = refl

-- a refused call hands back the port that it got
abbrev Stays : Answer → Port → Type 0
Stays (done v q) p = Unit {0}
Stays (refused n offset q) p = q ≡ p

stays : (c : Call) (p : Port) → Stays (direct c p) p
unfolding RefusedStands
stays c p = go (direct c p) refl
  where
    go : (r : Answer) → direct c p ≡ r → Stays r p
    go (done v q) e = tt
    go (refused n offset q) e = (refused_stands c p q n offset e).0

last_one : (e : ℕ → Event) (r : Answer) (p : Port) → Stays r p → last_port p (one_moment e r) ≡ after r
last_one e (done v q) p k = refl
last_one e (refused n offset q) p k = sym k

last_call : (c : Call) (p : Port) → last_port p (moments_of c (direct c p) p) ≡ after (direct c p)
last_call (Wait n) p = last_wait n p
last_call (Read a) p = last_one (λ v. cond (eqb a 0xff9d) (rdr_read v) other) (direct (Read a) p) p (stays (Read a) p)
last_call (Write a v) p = last_one (λ u. other) (direct (Write a v) p) p (stays (Write a v) p)
last_call (Line b) p = last_one (λ u. other) (direct (Line b) p) p (stays (Line b) p)
last_call (Pins c b) p = last_one (λ u. other) (direct (Pins c b) p) p (stays (Pins c b) p)
last_call (Power b) p = last_one (λ u. other) (direct (Power b) p) p (stays (Power b) p)
last_call Inside p = last_one (λ u. other) (direct Inside p) p (stays Inside p)

last_moment : (cs : List Call) (p : Port) → last_port p (moments p cs) ≡ port_run p cs
unfolding moments port_run
last_moment [] p = refl
last_moment (c ∷ cs) p =
    last_append (moments_of c (direct c p) p) (moments (after (direct c p)) cs) p ∙ ap (λ (q : Port). last_port q (moments (after (direct c p)) cs)) (last_call c p)
    ∙ last_moment cs (after (direct c p))

pub ends_there : EndsThere direct
unfolding EndsThere
ends_there history calls =
    let s : Wired = run_wired direct start history in
    ap (last_port s.port) (trace_is calls s (grown_run history start grown_start)) ∙ last_moment calls s.port ∙ run_is calls s
