-- The claim, computed: a test that a list meets what is asked, and a test that fails where what is claimed fails. For worked lists.
-- Assumes nothing.
use mathlib.Core.Path.{◌≡◌, refl, sym, ap, ◌∙◌, ap₂, subst}
use Prim.Native.Nat.{ℕ, zero, suc, ◌+◌, ◌≤◌}
use mathlib.Core.Bool.{Bool, true, false, not, ◌&&◌, ◌||◌, beq, true≢false, false≢true, cond}
use mathlib.Core.List.{List, [], ◌∷◌, ◌++◌}
use lib.Dec.{eqb, leb}
use lib.ListN.{length, get_or}
use borrow.Author.Tests.{eq-eqb, leb-true, le-leb, not-true}
use Rattle.frame.specs.declared.Format.{Format}
use Rattle.port.specs.declared.Port.{Port}
use Rattle.frame.proofs.Truth.{and_both, and_left, and_right, beq_true}
use Rattle.frame.specs.Frame.{has}
use Rattle.port.specs.Baud.{format_of, internal}
use Rattle.port.specs.Calls.{Answer, done, refused}
use Rattle.command.specs.declared.Call.{Call}
use Rattle.command.specs.declared.Call.TheVariants.{Wait, Inside, Read, Line, Pins, Power, Write}
use Rattle.shift.specs.Receiver.{rx_clocked}
use Rattle.recovery.specs.Line.{Count, Event, LineItem, count_after, half_passes, none_yet, other, prefix, rdr_read, signal, stop_cells_begun, stop_cells_passed, tally_after, values}
use Rattle.recovery.specs.Outside.{keeps_start_stop}
use Rattle.recovery.specs.Recovery.{HistoryEnd, Holds, Moment, Recovered, Recovers, Rest, Wired, Words, accepted, allowed_in_rest, allowed_in_words, answer_is, by_8, call_trace, each, level_of, levels, line_at_mark, one_moment, read_before, run_wired, separated, start, wired_after, throughout, trace, wait_trace, waited}
use Rattle.recovery.proofs.RestCalls.{levels_append}

bits_same : (x y : Bool) → x ≡ y → beq x y ≡ true
bits_same true true e = refl
bits_same true false e = absurd (true≢false e)
bits_same false true e = absurd (false≢true e)
bits_same false false e = refl

-- ---- what is asked
unfoldable pub is_prefix : List Bool → List Bool → Bool
is_prefix [] ys = true
is_prefix (x ∷ xs) [] = false
is_prefix (x ∷ xs) (y ∷ ys) = beq x y && is_prefix xs ys

prefix_sound : (xs ys : List Bool) → is_prefix xs ys ≡ true → prefix xs ys
unfolding is_prefix
prefix_sound [] ys e = tt
prefix_sound (x ∷ xs) [] e = absurd (false≢true e)
prefix_sound (x ∷ xs) (y ∷ ys) e = (beq_true x y (and_left (beq x y) _ e), prefix_sound xs ys (and_right (beq x y) _ e))

unfoldable pub may_rest : Call → Answer → Bool
may_rest (Write x v) a = not (accepted a) || (eqb x 0xff9c || eqb x 0xff9d)
may_rest (Power b) a = not (accepted a)
may_rest (Read x) a = true
may_rest (Wait n) a = true
may_rest (Line b) a = true
may_rest (Pins c b) a = true
may_rest Inside a = true

rest_sound : (c : Call) (a : Answer) → may_rest c a ≡ true → allowed_in_rest c a
unfolding may_rest
rest_sound (Write x v) a e = go (accepted a) e
  where
    go : (b : Bool) → (not b || (eqb x 0xff9c || eqb x 0xff9d)) ≡ true → b ≡ true → (eqb x 0xff9c || eqb x 0xff9d) ≡ true
    go true g h = g
    go false g h = absurd (false≢true h)
rest_sound (Power b) a e = not-true (accepted a) e
rest_sound (Read x) a e = tt
rest_sound (Wait n) a e = tt
rest_sound (Line b) a e = tt
rest_sound (Pins c b) a e = tt
rest_sound Inside a e = tt

unfoldable pub may_read : Call → Answer → Bool
may_read (Write x v) a = not (accepted a)
may_read (Power b) a = not (accepted a)
may_read (Read x) a = true
may_read (Wait n) a = true
may_read (Line b) a = true
may_read (Pins c b) a = true
may_read Inside a = true

words_sound : (c : Call) (a : Answer) → may_read c a ≡ true → allowed_in_words c a
unfolding may_read
words_sound (Write x v) a e = not-true (accepted a) e
words_sound (Power b) a e = not-true (accepted a) e
words_sound (Read x) a e = tt
words_sound (Wait n) a e = tt
words_sound (Line b) a e = tt
words_sound (Pins c b) a e = tt
words_sound Inside a e = tt

unfoldable pub may_form : Call → Answer → Bool
may_form (Write x v) a = not (accepted a && (eqb x 0xff98 && has v 0x80))
may_form (Power b) a = true
may_form (Read x) a = true
may_form (Wait n) a = true
may_form (Line b) a = true
may_form (Pins c b) a = true
may_form Inside a = true

form_sound : (c : Call) (a : Answer) → may_form c a ≡ true → keeps_start_stop c a
unfolding may_form
form_sound (Write x v) a e = go (accepted a) (eqb x 0xff98) (has v 0x80) e
  where
    go : (k l m : Bool) → not (k && (l && m)) ≡ true → k ≡ true → l ≡ true → m ≡ false
    go true true true g h i = absurd (false≢true g)
    go true true false g h i = refl
    go true false m g h i = absurd (false≢true i)
    go false l m g h i = absurd (false≢true h)
form_sound (Power b) a e = tt
form_sound (Read x) a e = tt
form_sound (Wait n) a e = tt
form_sound (Line b) a e = tt
form_sound (Pins c b) a e = tt
form_sound Inside a e = tt

unfoldable pub was_read : Event → Count → Bool
was_read (half_passes m true) c = not c.unread
was_read (half_passes m false) c = true
was_read (rdr_read a) c = true
was_read other c = true

unfoldable pub are_separated : Count → List Moment → Bool
are_separated c [] = true
are_separated c (m ∷ ms) = was_read m.event c && are_separated (count_after c m.event) ms

separated_sound : (ms : List Moment) (c : Count) → are_separated c ms ≡ true → separated c ms
unfolding are_separated was_read
separated_sound [] c e = tt
separated_sound (m ∷ ms) c e = (go m.event (and_left (was_read m.event c) _ e), separated_sound ms (count_after c m.event) (and_right (was_read m.event c) _ e))
  where
    go : (x : Event) → was_read x c ≡ true → read_before x c
    go (half_passes l true) g = not-true c.unread g
    go (half_passes l false) g = tt
    go (rdr_read a) g = tt
    go other g = tt

module _ (direct : Call → Port → Answer) where
  unfoldable pub all_may : (Call → Answer → Bool) → (Wired → Bool) → Wired → List Call → Bool
  all_may f g s [] = true
  all_may f g s (c ∷ cs) =
      let a = direct c s.port in
      (f c a && g (wired_after c a s)) && all_may f g (wired_after c a s) cs

  rests_sound : (cs : List Call) (s : Wired) → all_may may_rest line_at_mark s cs ≡ true → each direct (λ c a q. allowed_in_rest c a × (line_at_mark q ≡ true)) s cs
  unfolding all_may
  rests_sound [] s e = tt
  rests_sound (c ∷ cs) s e =
      let b : (may_rest c (direct c s.port) && line_at_mark (wired_after c (direct c s.port) s)) ≡ true = and_left (may_rest c (direct c s.port) && line_at_mark (wired_after c (direct c s.port) s)) _ e in
      ((rest_sound c (direct c s.port) (and_left (may_rest c (direct c s.port)) _ b), and_right (may_rest c (direct c s.port)) _ b), rests_sound cs (wired_after c (direct c s.port) s) (and_right (may_rest c (direct c s.port) && line_at_mark (wired_after c (direct c s.port) s)) _ e))

  reads_sound : (cs : List Call) (s : Wired) → all_may may_read (λ q. true) s cs ≡ true → each direct (λ c a q. allowed_in_words c a) s cs
  unfolding all_may
  reads_sound [] s e = tt
  reads_sound (c ∷ cs) s e =
      let b : (may_read c (direct c s.port) && true) ≡ true = and_left (may_read c (direct c s.port) && true) _ e in
      (words_sound c (direct c s.port) (and_left (may_read c (direct c s.port)) _ b), reads_sound cs (wired_after c (direct c s.port) s) (and_right (may_read c (direct c s.port) && true) _ e))

  pub forms_sound : (cs : List Call) (s : Wired) → all_may may_form (λ q. true) s cs ≡ true → each direct (λ c a q. keeps_start_stop c a) s cs
  unfolding all_may
  forms_sound [] s e = tt
  forms_sound (c ∷ cs) s e =
      let b : (may_form c (direct c s.port) && true) ≡ true = and_left (may_form c (direct c s.port) && true) _ e in
      (form_sound c (direct c s.port) (and_left (may_form c (direct c s.port)) _ b), forms_sound cs (wired_after c (direct c s.port) s) (and_right (may_form c (direct c s.port) && true) _ e))

  unfoldable pub history_meets : Wired → Bool
  history_meets h = has h.port.scr 0x10 && (not (has h.port.smr 0x80) && (not (has h.port.ssr 0x38) && internal h.port))

  -- the halves of a list of calls, counted without a look at the ports
  abbrev pub call_halves : Call → Answer → Port → ℕ
  call_halves (Wait n) a p = cond (accepted a && internal p) n 0
  call_halves (Read x) a p = 0
  call_halves (Write x v) a p = 0
  call_halves (Line b) a p = 0
  call_halves (Pins c b) a p = 0
  call_halves (Power b) a p = 0
  call_halves Inside a p = 0

  unfoldable pub count_halves : Wired → List Call → ℕ
  count_halves s [] = 0
  count_halves s (c ∷ cs) =
      let a = direct c s.port in
      call_halves c a s.port + count_halves (wired_after c a s) cs

  wait_length : (n i : ℕ) (m : Bool) (p q : Port) → length (levels (wait_trace direct n i m p q)) ≡ n
  unfolding wait_trace levels
  wait_length zero i m p q = refl
  wait_length (suc n) i m p q = ap suc (wait_length n (suc i) m p (waited direct (suc i) p))

  none_else : (e : ℕ → Event) (a : Answer) → ((v : ℕ) → level_of (e v) [] ≡ []) → length (levels (one_moment e a)) ≡ 0
  unfolding levels
  none_else e (done v q) k = ap length (k v)
  none_else e (refused n offset q) k = refl

  call_length : (c : Call) (a : Answer) (s : Wired) → length (levels (call_trace direct c a s)) ≡ call_halves c a s.port
  unfolding levels
  call_length (Wait n) (done v q) s = go (internal s.port)
    where
      go : (b : Bool) → length (levels (cond b (wait_trace direct n 0 (line_at_mark s) s.port s.port) (one_moment (λ u. other) (done v q)))) ≡ cond b n 0
      go true = wait_length n 0 (line_at_mark s) s.port s.port
      go false = refl
  call_length (Wait n) (refused k offset q) s = refl
  call_length (Read x) a s = none_else (λ v. cond (eqb x 0xff9d) (rdr_read v) other) a (λ v. go v (eqb x 0xff9d))
    where
      go : (v : ℕ) (b : Bool) → level_of (cond b (rdr_read v) other) [] ≡ []
      go v true = refl
      go v false = refl
  call_length (Write x v) a s = none_else (λ u. other) a (λ u. refl)
  call_length (Line b) a s = none_else (λ u. other) a (λ u. refl)
  call_length (Pins c b) a s = none_else (λ u. other) a (λ u. refl)
  call_length (Power b) a s = none_else (λ u. other) a (λ u. refl)
  call_length Inside a s = none_else (λ u. other) a (λ u. refl)

  halves_counted : (cs : List Call) (s : Wired) → length (levels (trace direct s cs)) ≡ count_halves s cs
  unfolding trace count_halves levels
  halves_counted [] s = refl
  halves_counted (c ∷ cs) s =
      let a : Answer = direct c s.port in
      levels_append (call_trace direct c a s) (trace direct (wired_after c a s) cs) ∙ ap₂ (λ (x y : ℕ). x + y) (call_length c a s) (halves_counted cs (wired_after c a s))

  -- `n` halves at least: 384 in the claim
  unfoldable pub rest_meets : ℕ → Wired → List Call → Wired → Bool
  rest_meets n h rest r =
      line_at_mark h && (all_may may_rest line_at_mark h rest && (leb n (count_halves h rest) && (not (has r.port.ssr 0x78) && not (rx_clocked r.port.rx))))

  unfoldable pub words_meet : Wired → List Call → List LineItem → List Moment → Bool
  words_meet r words items ms =
      all_may may_read (λ q. true) r words && (is_prefix (levels ms) (signal (format_of r.port) items) && are_separated none_yet ms)

  history_sound : (h : Wired) → history_meets h ≡ true → HistoryEnd h
  unfolding history_meets
  history_sound h e =
      let e1 : (not (has h.port.smr 0x80) && (not (has h.port.ssr 0x38) && internal h.port)) ≡ true = and_right (has h.port.scr 0x10) _ e in
      let e2 : (not (has h.port.ssr 0x38) && internal h.port) ≡ true = and_right (not (has h.port.smr 0x80)) _ e1 in
      record {
        re = and_left (has h.port.scr 0x10) _ e;
        start_stop = not-true (has h.port.smr 0x80) (and_left (not (has h.port.smr 0x80)) _ e1);
        no_error = not-true (has h.port.ssr 0x38) (and_left (not (has h.port.ssr 0x38)) _ e2);
        clock = and_right (not (has h.port.ssr 0x38)) _ e2;
      }

  rest_is : (h : Wired) (rest : List Call) → rest_meets 384 h rest (run_wired direct h rest) ≡ true → Rest direct h rest
  unfolding rest_meets
  rest_is h rest e =
      let a : Bool = all_may may_rest line_at_mark h rest in
      let b : Bool = leb 384 (count_halves h rest) in
      let c : Bool = not (has (run_wired direct h rest).port.ssr 0x78) in
      let d : Bool = not (rx_clocked (run_wired direct h rest).port.rx) in
      let e1 : (a && (b && (c && d))) ≡ true = and_right (line_at_mark h) (a && (b && (c && d))) e in
      let e2 : (b && (c && d)) ≡ true = and_right a (b && (c && d)) e1 in
      let e3 : (c && d) ≡ true = and_right b (c && d) e2 in
      record {
        line = and_left (line_at_mark h) (a && (b && (c && d))) e;
        calls = rests_sound rest h (and_left a (b && (c && d)) e1);
        long = subst (λ (n : ℕ). 384 ≤ n) (sym (halves_counted rest h)) (leb-true 384 (count_halves h rest) (and_left b (c && d) e2));
        flags = not-true (has (run_wired direct h rest).port.ssr 0x78) (and_left c d e3);
        no_clocked_word = not-true (rx_clocked (run_wired direct h rest).port.rx) (and_right c d e3);
      }

  words_are : (r : Wired) (words : List Call) (items : List LineItem) → words_meet r words items (trace direct r words) ≡ true → Words direct r words items
  unfolding words_meet
  words_are r words items e =
      let ms : List Moment = trace direct r words in
      let a : Bool = all_may may_read (λ q. true) r words in
      let b : Bool = is_prefix (levels ms) (signal (format_of r.port) items) in
      let c : Bool = are_separated none_yet ms in
      let e1 : (b && c) ≡ true = and_right a (b && c) e in
      record {
        calls = reads_sound words r (and_left a (b && c) e);
        line = prefix_sound (levels ms) (signal (format_of r.port) items) (and_left b c e1);
        reads = separated_sound ms none_yet (and_right b c e1);
      }

  -- a list of calls that meets what is asked; `h` and `r` are where history and rest lead, `ms` the moments of the words
  unfoldable pub asked_of : ℕ → Wired → List Call → Wired → List Call → List LineItem → List Moment → Bool
  asked_of n h rest r words items ms = history_meets h && (rest_meets n h rest r && words_meet r words items ms)

  unfoldable pub meets : List Call → List Call → List Call → List LineItem → Bool
  meets history rest words items =
      let h = run_wired direct start history in
      let r = run_wired direct h rest in
      asked_of 384 h rest r words items (trace direct r words)

  pub record Met (history rest words : List Call) (items : List LineItem) : Type 0 where
    pub ended : HistoryEnd (run_wired direct start history)
    pub rested : Rest direct (run_wired direct start history) rest
    pub worded : Words direct (run_wired direct (run_wired direct start history) rest) words items

  pub met : (history rest words : List Call) (items : List LineItem) → meets history rest words items ≡ true → Met history rest words items
  unfolding meets asked_of
  met history rest words items e =
      let h : Wired = run_wired direct start history in
      let r : Wired = run_wired direct h rest in
      let a : Bool = history_meets h in
      let b : Bool = rest_meets 384 h rest r in
      let c : Bool = words_meet r words items (trace direct r words) in
      let e1 : (b && c) ≡ true = and_right a (b && c) e in
      record { ended = history_sound h (and_left a (b && c) e); rested = rest_is h rest (and_left b c e1); worded = words_are r words items (and_right b c e1) }

-- ---- what is claimed
-- an RDR read after n completions
abbrev pub right_answer : ℕ → ℕ → List ℕ → Bool
right_answer a zero vs = true
right_answer a (suc n) vs = eqb a (get_or vs n 0)

unfoldable pub says : Format → List LineItem → Count → Event → Bool
says f items c (half_passes m b) = true
says f items c (rdr_read a) = right_answer a c.completions (values f items)
says f items c other = true

says_so : (f : Format) (items : List LineItem) (c : Count) (e : Event) → answer_is f items c e → says f items c e ≡ true
unfolding says
says_so f items c (half_passes m b) t = refl
says_so f items c (rdr_read a) t = go c.completions t
  where
    go : (k : ℕ) → ((n : ℕ) → k ≡ suc n → a ≡ get_or (values f items) n 0) → right_answer a k (values f items) ≡ true
    go zero u = refl
    go (suc n) u = eq-eqb a (get_or (values f items) n 0) (u n refl)
says_so f items c other t = refl

unfoldable pub stands : Port → List LineItem → Count → Moment → Bool
stands first items c m =
    not (has m.port.ssr 0x38) && (beq (has m.port.ssr 0x40) c.unread && (eqb m.port.received (tally_after c.completions first.received)
    && (leb (stop_cells_passed (format_of first) items c.halves) c.completions && (leb c.completions (stop_cells_begun (format_of first) items c.halves)
    && says (format_of first) items c m.event))))

stands_so : (first : Port) (items : List LineItem) (c : Count) (m : Moment) → Holds first items c m → stands first items c m ≡ true
unfolding stands
stands_so first items c m h =
    and_both (not (has m.port.ssr 0x38)) _ (ap not h.no_error)
    (and_both (beq (has m.port.ssr 0x40) c.unread) _ (bits_same (has m.port.ssr 0x40) c.unread h.rdrf)
    (and_both (eqb m.port.received (tally_after c.completions first.received)) _ (eq-eqb m.port.received (tally_after c.completions first.received) h.tally)
    (and_both (leb (stop_cells_passed (format_of first) items c.halves) c.completions) _ (le-leb (stop_cells_passed (format_of first) items c.halves) c.completions h.least)
    (and_both (leb c.completions (stop_cells_begun (format_of first) items c.halves)) _ (le-leb c.completions (stop_cells_begun (format_of first) items c.halves) h.most)
    (says_so (format_of first) items c m.event h.answer)))))

unfoldable pub all_stand : Port → List LineItem → Count → List Moment → Bool
all_stand first items c [] = true
all_stand first items c (m ∷ ms) = stands first items (count_after c m.event) m && all_stand first items (count_after c m.event) ms

all_stand_so : (first : Port) (items : List LineItem) (ms : List Moment) (c : Count) → throughout first items c ms → all_stand first items c ms ≡ true
unfolding all_stand
all_stand_so first items [] c t = refl
all_stand_so first items (m ∷ ms) c t =
    and_both (stands first items (count_after c m.event) m) _ (stands_so first items (count_after c m.event) m t.0) (all_stand_so first items ms (count_after c m.event) t.1)

module _ (direct : Call → Port → Answer) where
  unfoldable pub none_by_8 : Wired → List Call → Bool
  none_by_8 s [] = true
  none_by_8 s (c ∷ cs) =
      let a = direct c s.port in
      not (by_8 a) && none_by_8 (wired_after c a s) cs

  none_so : (cs : List Call) (s : Wired) → each direct (λ c a q. by_8 a ≡ false) s cs → none_by_8 s cs ≡ true
  unfolding none_by_8
  none_so [] s e = refl
  none_so (c ∷ cs) s e = and_both (not (by_8 (direct c s.port))) _ (ap not e.0) (none_so cs (wired_after c (direct c s.port) s) e.1)

  -- a list that meets what is asked, and of which what is claimed fails
  unfoldable pub breaks : ℕ → List Call → List Call → List Call → List LineItem → Bool
  breaks n history rest words items =
      let h = run_wired direct start history in
      let r = run_wired direct h rest in
      let ms = trace direct r words in
      asked_of direct n h rest r words items ms && not (none_by_8 start (history ++ (rest ++ words)) && all_stand r.port items none_yet ms)

  pub refuted : (history rest words : List Call) (items : List LineItem) → breaks 384 history rest words items ≡ true → Recovers direct → ⊥
  unfolding Recovers breaks meets
  refuted history rest words items e claim =
      let h : Wired = run_wired direct start history in
      let r : Wired = run_wired direct h rest in
      let ms : List Moment = trace direct r words in
      let a : Bool = meets direct history rest words items in
      let b : Bool = none_by_8 start (history ++ (rest ++ words)) in
      let c : Bool = all_stand r.port items none_yet ms in
      let m : Met direct history rest words items = met direct history rest words items (and_left a (not (b && c)) e) in
      let w : Recovered direct history rest words items = claim history rest words items m.ended m.rested m.worded in
      true≢false
      (sym (and_both b c (none_so (history ++ (rest ++ words)) start w.tested) (all_stand_so r.port items ms none_yet w.conditions)) ∙ not-true (b && c) (and_right a (not (b && c)) e))
