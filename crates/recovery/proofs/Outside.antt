-- What a caller can check from outside is enough (specs/Outside.antt): RDR reads between the words' first stop cells separate the completions.
-- Assumes nothing.
use mathlib.Core.Path.{◌≡◌, refl, sym, ap, ◌∙◌, subst}
use Prim.Native.Nat.{ℕ, zero, suc, ◌+◌, ◌-◌, ◌*◌, ◌≤◌, ◌<◌}
use native.Mathlib.Omega.{arith}
use mathlib.Core.Bool.{Bool, true, false, true≢false, false≢true}
use mathlib.Core.List.{List, [], ◌∷◌, ◌++◌, append_assoc, head-eq_of_cons-eq, tail-eq_of_cons-eq}
use lib.Dec.{leb, ltb}
use lib.ListN.{length}
use borrow.Author.Tests.{leb-false, leb-true, ltb-true, lt-ltb}
use Rattle.frame.specs.declared.Format.{Format}
use Rattle.port.specs.declared.Port.{Port}
use Rattle.frame.specs.Frame.{one_if, stop}
use Rattle.port.specs.Baud.{format_of}
use Rattle.command.specs.declared.Call.{Call}
use Rattle.port.specs.Calls.{direct}
use Rattle.shift.specs.Receiver.{rx_clocked}
use Rattle.recovery.specs.Corollaries.{Demand, halves_in}
use Rattle.recovery.specs.Line.{Count, Event, LineItem, count_after, half_passes, mark, none_yet, other, rdr_read, span, stop_cells_begun, stop_cells_passed, word_of}
use Rattle.recovery.specs.Outside.{OutsideIsEnough, ReadAfter, ReadBetween, RecoversOutside, RestOutside, WordsOutside}
use Rattle.recovery.specs.Recovery.{HistoryEnd, Holds, Moment, Recovers, Rest, Wired, Words, level_of, levels, read_before, rest_end, run_wired, separated, start, throughout, trace}
use Rattle.recovery.proofs.Bridge.{Grown, grown_run, trace_is}
use Rattle.recovery.proofs.Corollaries.{demand, run_append}
use Rattle.recovery.proofs.Forms.{no_clocked_word}
use Rattle.recovery.proofs.Halfwise.{moments}
use Rattle.recovery.proofs.Recovery.{asked, grown_start, recovery}
use Rattle.recovery.proofs.RestCalls.{all_hold, levels_append}
use Rattle.recovery.proofs.WordCalls.{Reading, completes_inside, half_moment}

-- ---- the count after some moments
abbrev counts : Count → List Moment → Count
counts c [] = c
counts c (m ∷ ms) = counts (count_after c m.event) ms

counts_append : (xs ys : List Moment) (c : Count) → counts c (xs ++ ys) ≡ counts (counts c xs) ys
counts_append [] ys c = refl
counts_append (x ∷ xs) ys c = counts_append xs ys (count_after c x.event)

counts_halves : (ms : List Moment) (c : Count) → (counts c ms).halves ≡ c.halves + halves_in ms
unfolding levels
counts_halves [] c = omega arith
counts_halves (m ∷ ms) c = go m.event (counts_halves ms (count_after c m.event))
  where
    go : (e : Event) → (counts (count_after c e) ms).halves ≡ (count_after c e).halves + halves_in ms
        → (counts (count_after c e) ms).halves ≡ c.halves + length (level_of e (levels ms))
    go (half_passes l true) q = omega arith
    go (half_passes l false) q = omega arith
    go (rdr_read a) q = q
    go other q = q

counts_grow : (ms : List Moment) (c : Count) → c.completions ≤ (counts c ms).completions
counts_grow [] c = omega arith
counts_grow (m ∷ ms) c = go m.event (counts_grow ms (count_after c m.event))
  where
    go : (e : Event) → (count_after c e).completions ≤ (counts (count_after c e) ms).completions → c.completions ≤ (counts (count_after c e) ms).completions
    go (half_passes l true) q = omega arith
    go (half_passes l false) q = q
    go (rdr_read a) q = q
    go other q = q

-- without a completion what was read stays read
stays_read : (ms : List Moment) (c : Count) → c.unread ≡ false → (counts c ms).completions ≡ c.completions → (counts c ms).unread ≡ false
stays_read [] c u e = u
stays_read (m ∷ ms) c u e = go m.event (stays_read ms (count_after c m.event)) e
  where
    go : (x : Event) → ((count_after c x).unread ≡ false → (counts (count_after c x) ms).completions ≡ (count_after c x).completions → (counts (count_after c x) ms).unread ≡ false)
        → (counts (count_after c x) ms).completions ≡ c.completions → (counts (count_after c x) ms).unread ≡ false
    go (half_passes l true) k q = let z : ⊥ = omega (arith, counts_grow ms (count_after c (half_passes l true))) in absurd z
    go (half_passes l false) k q = k u q
    go (rdr_read a) k q = k refl q
    go other k q = k u q

-- ---- what holds of some moments
at_moment : (first : Port) (items : List LineItem) (xs ys : List Moment) (m : Moment) (c : Count) → throughout first items c (xs ++ (m ∷ ys))
    → Holds first items (count_after (counts c xs) m.event) m
at_moment first items [] ys m c t = t.0
at_moment first items (x ∷ xs) ys m c t = at_moment first items xs ys m (count_after c x.event) t.1

throughout_first_part : (first : Port) (items : List LineItem) (xs ys : List Moment) (c : Count) → throughout first items c (xs ++ ys) → throughout first items c xs
throughout_first_part first items [] ys c t = tt
throughout_first_part first items (x ∷ xs) ys c t = (t.0, throughout_first_part first items xs ys (count_after c x.event) t.1)

throughout_one_more : (first : Port) (items : List LineItem) (xs : List Moment) (m : Moment) (c : Count) → throughout first items c xs
    → Holds first items (count_after (counts c xs) m.event) m → throughout first items c (xs ++ (m ∷ []))
throughout_one_more first items [] m c t h = (h, tt)
throughout_one_more first items (x ∷ xs) m c t h = (t.0, throughout_one_more first items xs m (count_after c x.event) t.1 h)

-- ---- first stop cells begun only grow
begun_grows : (f : Format) (is : List LineItem) (j k : ℕ) → j ≤ k → stop_cells_begun f is j ≤ stop_cells_begun f is k
unfolding stop_cells_begun
begun_grows f [] j k h = omega arith
begun_grows f (mark n ∷ is) j k h = begun_grows f is (j - n) (k - n) (omega arith)
begun_grows f (word_of v ∷ is) j k h = go (ltb (stop f * f.half_bit) j) refl (begun_grows f is (j - span f) (k - span f) (omega arith))
  where
    go : (b : Bool) → ltb (stop f * f.half_bit) j ≡ b → stop_cells_begun f is (j - span f) ≤ stop_cells_begun f is (k - span f)
        → one_if b + stop_cells_begun f is (j - span f) ≤ one_if (ltb (stop f * f.half_bit) k) + stop_cells_begun f is (k - span f)
    go true e q =
        let lt : stop f * f.half_bit < j = ltb-true (stop f * f.half_bit) j e in
        let t : ltb (stop f * f.half_bit) k ≡ true = lt-ltb (stop f * f.half_bit) k (omega arith) in
        rw t (omega arith)
    go false e q = omega arith

-- ---- a read and a half in one list: the read stands before the half if no more halves stand before it
abbrev is_half : Event → Bool
is_half (half_passes m b) = true
is_half (rdr_read a) = false
is_half other = false

read_stands_first : (before later past ms : List Moment) (r h : Moment) → before ++ (r ∷ later) ≡ past ++ (h ∷ ms) → is_half r.event ≡ false → is_half h.event ≡ true
    → halves_in before ≤ halves_in past → (mid : List Moment) × (past ≡ before ++ (r ∷ mid))
unfolding levels
read_stands_first [] later [] ms r h e n y l = absurd (true≢false (sym y ∙ ap (λ (m : Moment). is_half m.event) (sym (head-eq_of_cons-eq e)) ∙ n))
read_stands_first [] later (x ∷ past) ms r h e n y l = (past, ap (λ (m : Moment). m ∷ past) (sym (head-eq_of_cons-eq e)))
read_stands_first (b ∷ before) later [] ms r h e n y l = go b.event (ap (λ (m : Moment). is_half m.event) (head-eq_of_cons-eq e) ∙ y) l
  where
    go : (x : Event) → is_half x ≡ true → length (level_of x (levels before)) ≤ 0 → (mid : List Moment) × ([] ≡ (b ∷ before) ++ (r ∷ mid))
    go (half_passes m d) q k = let z : ⊥ = omega arith in absurd z
    go (rdr_read a) q k = absurd (false≢true q)
    go other q k = absurd (false≢true q)
read_stands_first (b ∷ before) later (x ∷ past) ms r h e n y l =
    let same : b ≡ x = head-eq_of_cons-eq e in
    let m : (mid : List Moment) × (past ≡ before ++ (r ∷ mid))
    = read_stands_first before later past ms r h (tail-eq_of_cons-eq e) n y (go x.event (subst (λ (k : Moment). length (level_of k.event (levels before)) ≤ length (level_of x.event (levels past))) same l)) in
    (m.0, ap (λ (k : Moment). k ∷ past) (sym same) ∙ ap (λ (k : List Moment). b ∷ k) m.1)
  where
    go : (v : Event) → length (level_of v (levels before)) ≤ length (level_of v (levels past)) → halves_in before ≤ halves_in past
    go (half_passes m d) q = omega arith
    go (rdr_read a) q = q
    go other q = q

-- ---- a completion finds RDR read
module _ (first : Port) (items : List LineItem) (all : List Moment) (rd : ReadBetween (format_of first) items all) where
  -- the half h after `past` completes the word whose first stop cell it is in
  module _ (past ms : List Moment) (h : Moment) (e : all ≡ past ++ (h ∷ ms)) (y : is_half h.event ≡ true) (t : throughout first items none_yet past)
      (most : suc (counts none_yet past).completions ≤ stop_cells_begun (format_of first) items (suc (counts none_yet past).halves)) where
    -- a read with no more halves before it
    not_later : (k : ℕ) → stop_cells_begun (format_of first) items k ≡ (counts none_yet past).completions → k ≤ halves_in past
    not_later k g = go (leb k (halves_in past)) refl
      where
        go : (b : Bool) → leb k (halves_in past) ≡ b → k ≤ halves_in past
        go true q = leb-true k (halves_in past) q
        go false q =
            let lt : halves_in past < k = leb-false k (halves_in past) q in
            let z : ⊥ = omega (arith, most, g, begun_grows (format_of first) items (suc (counts none_yet past).halves) k (omega (arith, lt, counts_halves past none_yet))) in
            absurd z

    reached : (counts none_yet past).completions < stop_cells_begun (format_of first) items (halves_in all)
    unfolding levels
    reached = omega (arith, most, begun_grows (format_of first) items (suc (counts none_yet past).halves) (halves_in all) (omega (arith, counts_halves past none_yet, more)))
      where
        half_more : (x : Event) → is_half x ≡ true → suc (halves_in ms) ≡ length (level_of x (levels ms))
        half_more (half_passes l d) q = refl
        half_more (rdr_read a) q = absurd (false≢true q)
        half_more other q = absurd (false≢true q)

        more : suc (halves_in past) ≤ halves_in all
        more = omega (arith, ap halves_in e, levels_append past (h ∷ ms), half_more h.event y)

    finds_read : (r : ReadAfter (format_of first) items all (counts none_yet past).completions) → (counts none_yet past).unread ≡ false
    finds_read r =
        let m : (mid : List Moment) × (past ≡ r.before ++ (r.read ∷ mid))
        = read_stands_first r.before r.later past ms r.read h (sym r.split ∙ e) (ap is_half r.of_rdr) y (not_later (halves_in r.before) r.begun) in
        let c : Count = counts none_yet r.before in
        let same : counts none_yet past ≡ counts (count_after c (rdr_read r.answer)) m.0
        = ap (counts none_yet) m.1 ∙ counts_append r.before (r.read ∷ m.0) none_yet ∙ ap (λ (x : Event). counts (count_after c x) m.0) r.of_rdr in
        let held : Holds first items (count_after c (rdr_read r.answer)) r.read
        = subst (λ (x : Event). Holds first items (count_after c x) r.read) r.of_rdr
        (at_moment first items r.before m.0 r.read none_yet (subst (throughout first items none_yet) m.1 t)) in
        let at : c.halves ≡ halves_in r.before = counts_halves r.before none_yet ∙ omega arith in
        let there : stop_cells_passed (format_of first) items c.halves ≡ (counts none_yet past).completions = ap (stop_cells_passed (format_of first) items) at ∙ r.passed in
        let none : (counts (count_after c (rdr_read r.answer)) m.0).completions ≡ c.completions
        = omega (arith, held.least, there, ap (λ (x : Count). x.completions) same, counts_grow m.0 (count_after c (rdr_read r.answer))) in
        ap (λ (x : Count). x.unread) same ∙ stays_read m.0 (count_after c (rdr_read r.answer)) refl none

    in_time : (counts none_yet past).unread ≡ false
    in_time = go (counts none_yet past).completions refl
      where
        go : (n : ℕ) → (counts none_yet past).completions ≡ n → (counts none_yet past).unread ≡ false
        go zero q = stays_read past none_yet refl q
        go (suc n) q = finds_read (rd (counts none_yet past).completions (omega arith) reached)

  -- the moments that have been, with what holds of them: known of those to come
  record Past (c : Count) (ms : List Moment) : Type 0 where
    pub past : List Moment
    pub split : all ≡ past ++ ms
    pub count : counts none_yet past ≡ c
    pub held : throughout first items none_yet past

  from_past : (plain : (format_of first).synchronous ≡ false) → Reading first items plain Past
  unfolding levels
  from_past plain =
      record {
        now = λ c p ms w s e.
            subst (λ (k : Count). k.unread ≡ false) s.count
            (in_time s.past ms (half_moment first items plain p) s.split refl s.held
            (subst (λ (k : Count). suc k.completions ≤ stop_cells_begun (format_of first) items (suc k.halves)) (sym s.count) (completes_inside first items plain c (levels ms) p w e)));
        later = λ c m ms h s.
            record {
              past = s.past ++ (m ∷ []);
              split = s.split ∙ sym (append_assoc s.past (m ∷ []) ms);
              count = counts_append s.past (m ∷ []) none_yet ∙ ap (λ (k : Count). count_after k m.event) s.count;
              held = throughout_one_more first items s.past m none_yet s.held (subst (λ (k : Count). Holds first items (count_after k m.event) m) (sym s.count) h);
            };
      }

  -- and so the completions are separated
  module _ (t : throughout first items none_yet all) where
    read_at : (past ms : List Moment) (m : Moment) → all ≡ past ++ (m ∷ ms) → read_before m.event (counts none_yet past)
    read_at past ms m e =
        let u : throughout first items none_yet (past ++ (m ∷ ms)) = subst (throughout first items none_yet) e t in
        go m.event refl (at_moment first items past ms m none_yet u).most (throughout_first_part first items past (m ∷ ms) none_yet u)
      where
        go : (x : Event) → m.event ≡ x → (count_after (counts none_yet past) m.event).completions ≤ stop_cells_begun (format_of first) items (count_after (counts none_yet past) m.event).halves
            → throughout first items none_yet past → read_before x (counts none_yet past)
        go (half_passes l true) g most u =
            in_time past ms m e (ap is_half g) u
            (subst (λ (y : Event). (count_after (counts none_yet past) y).completions ≤ stop_cells_begun (format_of first) items (count_after (counts none_yet past) y).halves) g most)
        go (half_passes l false) g most u = tt
        go (rdr_read a) g most u = tt
        go other g most u = tt

    separates : (past ms : List Moment) → all ≡ past ++ ms → separated (counts none_yet past) ms
    separates past [] e = tt
    separates past (m ∷ ms) e =
        (read_at past ms m e, subst (λ (k : Count). separated k ms) (counts_append past (m ∷ []) none_yet) (separates (past ++ (m ∷ [])) ms (e ∙ sym (append_assoc past (m ∷ []) ms))))

-- ---- of the real port
words_outside : (history rest words : List Call) (items : List LineItem) → HistoryEnd (run_wired direct start history) → Rest direct (run_wired direct start history) rest
    → WordsOutside direct (rest_end direct history rest) words items → Words direct (rest_end direct history rest) words items
words_outside history rest words items he rs ws =
    let h : Wired = run_wired direct start history in
    let r : Wired = run_wired direct h rest in
    let gh : Grown h = grown_run history start grown_start in
    let all : List Moment = moments r.port words in
    let same : trace direct r words ≡ all = trace_is words r (grown_run rest h gh) in
    let rd : ReadBetween (format_of r.port) items all = subst (ReadBetween (format_of r.port) items) same ws.reads in
    let t : throughout r.port items none_yet all
    = all_hold h.port r.port rest words items gh.near (asked h rest words items gh he rs ws.calls ws.line) (Past r.port items all rd) (from_past r.port items all rd)
    (record { past = []; split = refl; count = refl; held = tt }) in
    record { calls = ws.calls; line = ws.line; reads = subst (separated none_yet) (sym same) (separates r.port items all rd t [] all refl) }

rest_outside : (history rest : List Call) → RestOutside direct history rest → Rest direct (run_wired direct start history) rest
rest_outside history rest rs =
    record {
      line = rs.line;
      calls = rs.calls;
      long = rs.long;
      flags = rs.flags;
      no_clocked_word = ap (λ (w : Wired). rx_clocked w.port.rx) (sym (run_append direct history rest start)) ∙ no_clocked_word (history ++ rest) rs.form;
    }

pub outside_is_enough : OutsideIsEnough direct
unfolding OutsideIsEnough
outside_is_enough history rest words items he rs ws =
    let r : Rest direct (run_wired direct start history) rest = rest_outside history rest rs in
    (r, words_outside history rest words items he r ws)

pub recovers_outside : RecoversOutside direct
unfolding RecoversOutside OutsideIsEnough Recovers Demand
recovers_outside history rest words items he rs ws =
    let e : Rest direct (run_wired direct start history) rest × Words direct (rest_end direct history rest) words items = outside_is_enough history rest words items he rs ws in
    (recovery history rest words items he e.0 e.1, demand history rest words items he e.0 e.1)
