-- The words of the claim, for the receiver alone: where the receiver stands against the line, kept by every moment.
-- Assumes nothing.
use Rattle.std.specs.Prelude.{Option, None, Some}
use mathlib.Core.Path.{◌≡◌, refl, sym, ap, ◌∙◌, subst}
use mathlib.Core.Logic.{◌≢◌}
use Prim.Native.Nat.{ℕ, zero, suc, pred, ◌+◌, ◌-◌, ◌*◌, ◌/◌, ◌%◌, ◌^◌, ◌≤◌, ◌<◌}
use native.Mathlib.Omega.{arith}
use native.Mathlib.Nat.{mul-le-mul_right}
use native.Mathlib.Decide.{ℕ_discrete, dec_lt}
use mathlib.Core.Bool.{Bool, true, false, cond, not}
use mathlib.Core.List.{List, [], ◌∷◌, ◌++◌}
use lib.Dec.{eqb, ltb, leb}
use lib.Bits.{bit_and}
use lib.ListN.{take, drop, get_or}
use lib.Seq.{drop-cons}
use lib.IntN.{ℤ, pos, negsuc}
use borrow.Author.Tests.{lt-ltb, lt-leb, eq-eqb, ne_eqb}
use Rattle.frame.specs.declared.Format.{Format}
use Rattle.shift.specs.declared.Rx.{Rx}
use Rattle.frame.proofs.Words.{bits_length, cells_length, data_cell, number_bits, parity_at, start_cell, stop_cell, word_bits}
use Rattle.frame.specs.Frame.{bits, frame, has, number, one_if, parity_bit, stop}
use Rattle.shift.specs.Receiver.{rx_clocked}
use Rattle.recovery.specs.Line.{Count, LineItem, count_after, half_passes, mark, none_yet, prefix, rdr_read, signal, span, spread, stop_cells_begun, stop_cells_passed, tally_after, values, word_of}
use Rattle.frame.proofs.Laws.{one_if≤}
use Rattle.recovery.proofs.Signal.{spread_at, spread_length, tail_marks}
use Rattle.recovery.proofs.Steps.{and_false, arm_mark, checks, falls, false_start, idle, line_arms, odd_ones, quiet, rx_at, rx_wait, starts, stops_at, takes}
use Rattle.recovery.proofs.View.{View, completing, fall, state, v_arm, v_flags, v_half, v_mark}

-- no word in the receiver, or one that waits for the falling phase
pub data Free (f : Format) (h : ℕ) (hi : Bool) : Bool → Option Rx → Type 0 where
  no_word : Free f h hi true None
  waits : {m : Bool} → Free f h hi m (Some (rx_wait f (negsuc 1) (fall h hi)))

-- the word with data bits bs in the receiver, k halves after its line fell
pub data Phase (f : Format) (bs : List Bool) (h k : ℕ) : Option Rx → Type 0 where
  waiting : k ≡ 1 → Phase f bs h k (Some (rx_wait f (negsuc 1) (suc h)))
  starting : (t e : ℕ) → t + k ≡ h + e → h < t → f.half_bit / 2 ≤ e → e ≤ f.half_bit / 2 + 1 → Phase f bs h k (Some (rx_wait f (negsuc 0) t))
  taking : (t e j : ℕ) → t + k ≡ h + (j * f.half_bit + f.half_bit + e) → h < t → f.half_bit / 2 ≤ e → e ≤ f.half_bit / 2 + 1
      → j ≤ f.«data» + one_if f.parity → Phase f bs h k (Some (rx_at f bs j t))

arm_busy : (f : Format) (r : Rx) (h : ℕ) (hi m : Bool) (s d n : ℕ) → v_arm (state f (Some r) h hi m s d n) ≡ state f (Some r) h hi m s d n
unfolding v_arm
arm_busy f r h hi m s d n = refl

-- a receiver in a word is busy
arm_phase : (f : Format) (bs : List Bool) (h k : ℕ) (x : Option Rx) (hi m : Bool) (s d n : ℕ) → Phase f bs h k x → v_arm (state f x h hi m s d n) ≡ state f x h hi m s d n
arm_phase f bs h k x hi m s d n (waiting q) = arm_busy f (rx_wait f (negsuc 1) (suc h)) h hi m s d n
arm_phase f bs h k x hi m s d n (starting t e q lt lo up) = arm_busy f (rx_wait f (negsuc 0) t) h hi m s d n
arm_phase f bs h k x hi m s d n (taking t e j q lt lo up le) = arm_busy f (rx_at f bs j t) h hi m s d n

pub passed_zero : (f : Format) → 0 < f.half_bit → (is : List LineItem) → stop_cells_passed f is 0 ≡ 0
unfolding stop_cells_passed
passed_zero f h [] = refl
passed_zero f h (mark n ∷ is) = let e : 0 - n ≡ 0 = omega arith in rw e (passed_zero f h is)
passed_zero f h (word_of v ∷ is) =
    let e : 0 - span f ≡ 0 = omega arith in
    let t : leb (suc (stop f) * f.half_bit) 0 ≡ false = lt-leb (suc (stop f) * f.half_bit) 0 (omega arith) in
    rw (e, t) (omega (arith, passed_zero f h is))

has_parity : (p : Bool) → one_if p ≢ 0 → p ≡ true
has_parity true h = refl
has_parity false h = absurd (h refl)

pub at_least : (k n : ℕ) → 0 < k → n ≤ k * n
at_least zero n h = omega arith
at_least (suc k) n h = omega arith

module _ (f : Format) (items : List LineItem) (r0 : ℕ) where
  -- the counts against the items: `is` are the items from the present one on, k halves into it
  pub record Ledger (c : Count) (is : List LineItem) (k : ℕ) : Type 0 where
    pub more : (x : ℕ) → c.completions + stop_cells_begun f is (k + x) ≤ stop_cells_begun f items (c.halves + x)
    pub less : (x : ℕ) → stop_cells_passed f items (c.halves + x) ≤ c.completions + stop_cells_passed f is (k + x)
    pub names : (y : ℕ) → get_or (values f items) (c.completions + y) 0 ≡ get_or (values f is) y 0

  -- flags, RDR and tally
  pub record Book (c : Count) (s d n : ℕ) : Type 0 where
    pub flag : s ≡ cond c.unread 0x40 0
    pub word : (j : ℕ) → c.completions ≡ suc j → d ≡ get_or (values f items) j 0
    pub tally : n ≡ tally_after c.completions r0

  -- where the receiver stands; `ls` are the levels to come
  pub data Where (c : Count) (ls : List Bool) : View → Type 0 where
    between : (is : List LineItem) (x : Option Rx) (h : ℕ) (hi m : Bool) (s d n : ℕ) → Free f h hi m x → Book c s d n → Ledger c is 0
        → prefix ls (signal f is) → Where c ls (state f x h hi m s d n)
    inside : (v k : ℕ) (is : List LineItem) (x : Option Rx) (h : ℕ) (hi m : Bool) (s d n : ℕ) → Phase f (bits f.«data» v) h k x → Book c s d n
        → Ledger c (word_of v ∷ is) k → prefix ls (drop k (spread f.half_bit (frame f (bits f.«data» v))) ++ signal f is)
        → Where c ls (state f x h hi m s d n)

  -- one half more in the same item
  ledger_step : (c : Count) (m : Bool) (is : List LineItem) (k : ℕ) → Ledger c is k → Ledger (count_after c (half_passes m false)) is (suc k)
  ledger_step c m is k l =
      record {
        more = λ x. let e : suc k + x ≡ k + suc x = omega arith in let g : suc c.halves + x ≡ c.halves + suc x = omega arith in rw (e, g) (l.more (suc x));
        less = λ x. let e : suc k + x ≡ k + suc x = omega arith in let g : suc c.halves + x ≡ c.halves + suc x = omega arith in rw (e, g) (l.less (suc x));
        names = l.names;
      }

  -- the same place, said by other items
  ledger_to : (c : Count) (is is' : List LineItem) (k k' : ℕ) → ((x : ℕ) → stop_cells_begun f is (k + x) ≡ stop_cells_begun f is' (k' + x))
      → ((x : ℕ) → stop_cells_passed f is (k + x) ≡ stop_cells_passed f is' (k' + x)) → values f is ≡ values f is' → Ledger c is k → Ledger c is' k'
  ledger_to c is is' k k' a b e l =
      record {
        more = λ x. rw (← a x) (l.more x);
        less = λ x. rw (← b x) (l.less x);
        names = λ y. rw (← e) (l.names y);
      }

  ledger_zero : (c : Count) (is : List LineItem) → Ledger c (mark 0 ∷ is) 0 → Ledger c is 0
  unfolding stop_cells_begun stop_cells_passed values
  ledger_zero c is l =
      ledger_to c (mark 0 ∷ is) is 0 0 (λ x. let e : 0 + x - 0 ≡ 0 + x = omega arith in rw e)
      (λ x. let e : 0 + x - 0 ≡ 0 + x = omega arith in rw e) refl l

  ledger_mark : (c : Count) (is : List LineItem) (k : ℕ) → Ledger c (mark (suc k) ∷ is) 1 → Ledger c (mark k ∷ is) 0
  unfolding stop_cells_begun stop_cells_passed values
  ledger_mark c is k l =
      ledger_to c (mark (suc k) ∷ is) (mark k ∷ is) 1 0 (λ x. let e : 1 + x - suc k ≡ 0 + x - k = omega arith in rw e)
      (λ x. let e : 1 + x - suc k ≡ 0 + x - k = omega arith in rw e) refl l

  -- the half that samples the first stop cell
  ledger_done : (c : Count) (m : Bool) (is : List LineItem) (v k e : ℕ) → suc k ≡ stop f * f.half_bit + e → 0 < e → e ≤ f.half_bit → 0 < f.stops
      → Ledger c (word_of v ∷ is) k → Ledger (count_after c (half_passes m true)) (mark (f.stops * f.half_bit - e) ∷ is) 0
  unfolding stop_cells_begun stop_cells_passed values
  ledger_done c m is v k e g pos_e le st l =
      record {
        more = λ x.
            let a : 0 + x - (f.stops * f.half_bit - e) ≡ k + suc x - span f = gap x in
            let b : suc c.halves + x ≡ c.halves + suc x = omega arith in
            let t : ltb (stop f * f.half_bit) (k + suc x) ≡ true = lt-ltb (stop f * f.half_bit) (k + suc x) (omega arith) in
            rw (a, b) (omega (arith, rw t at (l.more (suc x))));
        less = λ x.
            let a : 0 + x - (f.stops * f.half_bit - e) ≡ k + suc x - span f = gap x in
            let b : suc c.halves + x ≡ c.halves + suc x = omega arith in
            rw (a, b) (omega (arith, l.less (suc x), one_if≤ (leb (suc (stop f) * f.half_bit) (k + suc x))));
        names = λ y. let b : suc c.completions + y ≡ c.completions + suc y = omega arith in rw b (l.names (suc y));
      }
    where
      gap : (x : ℕ) → 0 + x - (f.stops * f.half_bit - e) ≡ k + suc x - span f
      gap x = let q : f.half_bit ≤ f.stops * f.half_bit = at_least f.stops f.half_bit st in omega arith

  -- a word's number is taken when it is done
  book_step : (c : Count) (m : Bool) (s d n : ℕ) → Book c s d n → Book (count_after c (half_passes m false)) s d n
  book_step c m s d n b = record { flag = b.flag; word = b.word; tally = b.tally }

  book_read : (c : Count) (a s d n : ℕ) → Book c s d n → Book (count_after c (rdr_read a)) (bit_and s 0xbf) d n
  book_read c a s d n b = record { flag = rw b.flag (go c.unread); word = b.word; tally = b.tally }
    where
      go : (u : Bool) → bit_and (cond u 0x40 0) 0xbf ≡ 0
      go true = refl
      go false = refl

  book_done : f.synchronous ≡ false → (c : Count) (m : Bool) (s d n v : ℕ) (is : List LineItem) (k : ℕ) → Ledger c (word_of v ∷ is) k → Book c s d n
      → Book (count_after c (half_passes m true)) 0x40 (number (bits f.«data» v)) (suc n % 2 ^ 64)
  unfolding values tally_after
  book_done p c m s d n v is k l b = record { flag = refl; word = λ j h. let e : j ≡ c.completions + 0 = omega arith in rw e (number_bits f.«data» v ∙ sym (l.names 0)); tally = rw b.tally }

  no_error : (c : Count) (s d n : ℕ) → Book c s d n → has s 0x38 ≡ false
  no_error c s d n b = rw b.flag (go c.unread)
    where
      go : (u : Bool) → has (cond u 0x40 0) 0x38 ≡ false
      go true = refl
      go false = refl

  -- ---- a half between words
  module _ (plain : f.synchronous ≡ false) (long : 16 ≤ f.half_bit) (st : 0 < f.stops) where
    -- what a half shows: its equation, and the place after it
    show_half : (c : Count) (ls : List Bool) (v w : View) (m b : Bool) → completing v ≡ b → v_half v ≡ w
        → Where (count_after c (half_passes m b)) ls w → Where (count_after c (half_passes m (completing v))) ls (v_half v)
    show_half c ls v w m b e g p = rw (e, g) p

    mark_half : (c : Count) (ls : List Bool) (is : List LineItem) (k : ℕ) (x : Option Rx) (h : ℕ) (hi : Bool) (s d n : ℕ) → Free f h hi true x → Book c s d n
        → Ledger c (mark (suc k) ∷ is) 0 → prefix ls (signal f (mark k ∷ is))
        → Where (count_after c (half_passes true (completing (state f x h hi true s d n)))) ls (v_half (state f x h hi true s d n))
    unfolding completing
    mark_half c ls is k x h hi s d n no_word b l a =
        show_half c ls (state f None h hi true s d n) (state f None (suc h) (not hi) true s d n) true false refl (idle f h hi s d n)
        (between (mark k ∷ is) None (suc h) (not hi) true s d n no_word (book_step c true s d n b) (ledger_mark (count_after c (half_passes true false)) is k (ledger_step c true (mark (suc k) ∷ is) 0 l)) a)
    mark_half c ls is k x h true s d n waits b l a =
        show_half c ls (state f (Some (rx_wait f (negsuc 1) (suc h))) h true true s d n) (state f None (suc h) false true s d n) true false
        (and_false (eqb (suc h) (suc h))) (false_start f h true s d n)
        (between (mark k ∷ is) None (suc h) false true s d n no_word (book_step c true s d n b) (ledger_mark (count_after c (half_passes true false)) is k (ledger_step c true (mark (suc k) ∷ is) 0 l)) a)
    mark_half c ls is k x h false s d n waits b l a =
        show_half c ls (state f (Some (rx_wait f (negsuc 1) (suc (suc h)))) h false true s d n)
        (state f (Some (rx_wait f (negsuc 1) (suc (suc h)))) (suc h) true true s d n) true false
        (and_false (eqb (suc (suc h)) (suc h))) (quiet f h false s d n true f 0 (negsuc 1) false 0 (suc (suc h)) (omega arith))
        (between (mark k ∷ is) (Some (rx_wait f (negsuc 1) (suc (suc h)))) (suc h) true true s d n waits (book_step c true s d n b)
        (ledger_mark (count_after c (half_passes true false)) is k (ledger_step c true (mark (suc k) ∷ is) 0 l)) a)

    -- the levels of a word, from its half k on
    word_ahead : (v k : ℕ) (m : Bool) (ls rest : List Bool) → k < span f → prefix (m ∷ ls) (drop k (spread f.half_bit (frame f (bits f.«data» v))) ++ rest)
        → (m ≡ get_or (spread f.half_bit (frame f (bits f.«data» v))) k false) × prefix ls (drop (suc k) (spread f.half_bit (frame f (bits f.«data» v))) ++ rest)
    word_ahead v k m ls rest h a =
        rw (drop-cons (spread f.half_bit (frame f (bits f.«data» v))) k false (rw (spread_length f.half_bit (frame f (bits f.«data» v)), cells_length f (bits f.«data» v) (bits_length f.«data» v)) h)) at a

    -- the level of the half k of a word, in its cell j
    cell_level : (v k j y : ℕ) → k ≡ j * f.half_bit + y → y < f.half_bit → j < stop f + f.stops
        → get_or (spread f.half_bit (frame f (bits f.«data» v))) k false ≡ get_or (frame f (bits f.«data» v)) j false
    cell_level v k j y e h l =
        rw e (spread_at f.half_bit (frame f (bits f.«data» v)) j y h (rw (cells_length f (bits f.«data» v) (bits_length f.«data» v)) l))

    start_half : (c : Count) (ls : List Bool) (is : List LineItem) (v : ℕ) (x : Option Rx) (h : ℕ) (hi : Bool) (s d n : ℕ) → Free f h hi false x → Book c s d n
        → Ledger c (word_of v ∷ is) 0 → prefix ls (drop 1 (spread f.half_bit (frame f (bits f.«data» v))) ++ signal f is)
        → Where (count_after c (half_passes false (completing (state f x h hi false s d n)))) ls (v_half (state f x h hi false s d n))
    unfolding completing
    start_half c ls is v x h true s d n waits b l a =
        show_half c ls (state f (Some (rx_wait f (negsuc 1) (suc h))) h true false s d n)
        (state f (Some (rx_wait f (negsuc 0) (suc h + f.half_bit / 2 - 1))) (suc h) false false s d n) false false
        (and_false (eqb (suc h) (suc h))) (falls f h true s d n plain)
        (inside v 1 is (Some (rx_wait f (negsuc 0) (suc h + f.half_bit / 2 - 1))) (suc h) false false s d n
        (starting (suc h + f.half_bit / 2 - 1) (f.half_bit / 2) (omega arith) (omega arith) (omega arith) (omega arith)) (book_step c false s d n b)
        (ledger_step c false (word_of v ∷ is) 0 l) a)
    start_half c ls is v x h false s d n waits b l a =
        show_half c ls (state f (Some (rx_wait f (negsuc 1) (suc (suc h)))) h false false s d n)
        (state f (Some (rx_wait f (negsuc 1) (suc (suc h)))) (suc h) true false s d n) false false
        (and_false (eqb (suc (suc h)) (suc h))) (quiet f h false s d n false f 0 (negsuc 1) false 0 (suc (suc h)) (omega arith))
        (inside v 1 is (Some (rx_wait f (negsuc 1) (suc (suc h)))) (suc h) true false s d n (waiting refl) (book_step c false s d n b)
        (ledger_step c false (word_of v ∷ is) 0 l) a)

    room : (j : ℕ) → j ≤ f.«data» + one_if f.parity → j * f.half_bit + f.half_bit + f.half_bit ≤ span f
    room j h =
        let a : j * f.half_bit ≤ (f.«data» + one_if f.parity) * f.half_bit = mul-le-mul_right f.half_bit h in
        let b : f.half_bit ≤ f.stops * f.half_bit = at_least f.stops f.half_bit st in
        omega arith

    -- inside a word
    module _ (c : Count) (ls : List Bool) (is : List LineItem) (v k h : ℕ) (hi : Bool) (s d n : ℕ) (b : Book c s d n) (l : Ledger c (word_of v ∷ is) k) where
      abbrev Next : Bool → Option Rx → Type 0
      Next m x = Where (count_after c (half_passes m (completing (state f x h hi m s d n)))) ls (v_half (state f x h hi m s d n))

      abbrev Ahead : ℕ → Type 0
      Ahead k = prefix ls (drop k (spread f.half_bit (frame f (bits f.«data» v))) ++ signal f is)

      -- a half that does not sample
      pass_half : (m : Bool) (z : ℤ) (val t : ℕ) (par : Bool) → t ≢ suc h → Ahead (suc k)
          → Phase f (bits f.«data» v) (suc h) (suc k) (Some (record { format = f; value = val; position = z; parity = par; error = 0; next = Some t }))
          → Next m (Some (record { format = f; value = val; position = z; parity = par; error = 0; next = Some t }))
      unfolding completing
      pass_half m z val t par ne a ph =
          show_half c ls (state f (Some (record { format = f; value = val; position = z; parity = par; error = 0; next = Some t })) h hi m s d n)
          (state f (Some (record { format = f; value = val; position = z; parity = par; error = 0; next = Some t })) (suc h) (not hi) m s d n) m false
          (rw (ne_eqb t (suc h) ne)) (quiet f h hi s d n m f val z par 0 t ne)
          (inside v (suc k) is (Some (record { format = f; value = val; position = z; parity = par; error = 0; next = Some t })) (suc h) (not hi) m s d n ph (book_step c m s d n b) (ledger_step c m (word_of v ∷ is) k l) a)

      -- the data cell j
      data_half : (j e : ℕ) → suc k ≡ j * f.half_bit + f.half_bit + e → f.half_bit / 2 ≤ e → e ≤ f.half_bit / 2 + 1 → j < f.«data» → Ahead (suc k)
          → Next (get_or (bits f.«data» v) j false) (Some (rx_at f (bits f.«data» v) j (suc h)))
      unfolding completing
      data_half j e q lo up lt a =
          show_half c ls (state f (Some (rx_at f (bits f.«data» v) j (suc h))) h hi (get_or (bits f.«data» v) j false) s d n)
          (state f (Some (rx_at f (bits f.«data» v) (suc j) (suc h + f.half_bit))) (suc h) (not hi) (get_or (bits f.«data» v) j false) s d n)
          (get_or (bits f.«data» v) j false) false
          (rw (eq-eqb (suc h) (suc h) refl, ne_eqb j (f.«data» + one_if f.parity) (omega arith)))
          (takes f h hi s d n (bits f.«data» v) j (omega (arith, bits_length f.«data» v)) (bits_length f.«data» v))
          (inside v (suc k) is (Some (rx_at f (bits f.«data» v) (suc j) (suc h + f.half_bit))) (suc h) (not hi) (get_or (bits f.«data» v) j false) s d n
          (taking (suc h + f.half_bit) e (suc j) (omega arith) (omega arith) lo up (omega arith))
          (book_step c (get_or (bits f.«data» v) j false) s d n b) (ledger_step c (get_or (bits f.«data» v) j false) (word_of v ∷ is) k l) a)

      -- the parity cell
      check_half : (e : ℕ) → suc k ≡ f.«data» * f.half_bit + f.half_bit + e → f.half_bit / 2 ≤ e → e ≤ f.half_bit / 2 + 1 → f.parity ≡ true → Ahead (suc k)
          → Next (eqb (parity_bit f (bits f.«data» v)) 1) (Some (rx_at f (bits f.«data» v) f.«data» (suc h)))
      unfolding completing
      check_half e q lo up p a =
          let m : Bool = eqb (parity_bit f (bits f.«data» v)) 1 in
          show_half c ls (state f (Some (rx_at f (bits f.«data» v) f.«data» (suc h))) h hi m s d n)
          (state f (Some (rx_at f (bits f.«data» v) (suc f.«data») (suc h + f.half_bit))) (suc h) (not hi) m s d n) m false
          (rw (eq-eqb (suc h) (suc h) refl, p, ne_eqb f.«data» (f.«data» + 1) (omega arith)))
          (checks f h hi s d n (bits f.«data» v) (bits_length f.«data» v) p)
          (inside v (suc k) is (Some (rx_at f (bits f.«data» v) (suc f.«data») (suc h + f.half_bit))) (suc h) (not hi) m s d n
          (taking (suc h + f.half_bit) e (suc f.«data») (omega arith) (omega arith) lo up (omega (arith, ap one_if p)))
          (book_step c m s d n b) (ledger_step c m (word_of v ∷ is) k l) a)

      -- the first stop cell
      stop_half : (e : ℕ) → suc k ≡ (f.«data» + one_if f.parity) * f.half_bit + f.half_bit + e → f.half_bit / 2 ≤ e → e ≤ f.half_bit / 2 + 1 → c.unread ≡ false → Ahead (suc k)
          → Next true (Some (rx_at f (bits f.«data» v) (f.«data» + one_if f.parity) (suc h)))
      unfolding completing signal
      stop_half e q lo up u a =
          let bs : List Bool = bits f.«data» v in
          let z : s ≡ 0 = b.flag ∙ ap (λ (x : Bool). cond x 0x40 0) u in
          let g : suc k ≡ stop f * f.half_bit + e = omega arith in
          show_half c ls (state f (Some (rx_at f bs (f.«data» + one_if f.parity) (suc h))) h hi true s d n)
          (state f None (suc h) (not hi) true 0x40 (number bs) (suc n % 2 ^ 64)) true true
          (rw (eq-eqb (suc h) (suc h) refl, eq-eqb (f.«data» + one_if f.parity) (f.«data» + one_if f.parity) refl))
          (rw z (stops_at f h hi s d n bs (bits_length f.«data» v)))
          (between (mark (f.stops * f.half_bit - e) ∷ is) None (suc h) (not hi) true 0x40 (number bs) (suc n % 2 ^ 64) no_word
          (book_done plain c true s d n v is k l b) (ledger_done c true is v k e g (omega arith) (omega arith) st l)
          (rw (g, tail_marks f bs (bits_length f.«data» v) e) at a))

      -- the start cell: the falling phase, and the middle
      fall_half : k ≡ 1 → Ahead (suc k) → Next false (Some (rx_wait f (negsuc 1) (suc h)))
      unfolding completing
      fall_half q a =
          show_half c ls (state f (Some (rx_wait f (negsuc 1) (suc h))) h hi false s d n)
          (state f (Some (rx_wait f (negsuc 0) (suc h + f.half_bit / 2 - 1))) (suc h) (not hi) false s d n) false false
          (and_false (eqb (suc h) (suc h))) (falls f h hi s d n plain)
          (inside v (suc k) is (Some (rx_wait f (negsuc 0) (suc h + f.half_bit / 2 - 1))) (suc h) (not hi) false s d n
          (starting (suc h + f.half_bit / 2 - 1) (f.half_bit / 2 + 1) (omega arith) (omega arith) (omega arith) (omega arith)) (book_step c false s d n b)
          (ledger_step c false (word_of v ∷ is) k l) a)

      begin_half : (e : ℕ) → suc k ≡ e → f.half_bit / 2 ≤ e → e ≤ f.half_bit / 2 + 1 → Ahead (suc k) → Next false (Some (rx_wait f (negsuc 0) (suc h)))
      unfolding completing
      begin_half e q lo up a =
          show_half c ls (state f (Some (rx_wait f (negsuc 0) (suc h))) h hi false s d n)
          (state f (Some (rx_at f (bits f.«data» v) 0 (suc h + f.half_bit))) (suc h) (not hi) false s d n) false false
          (and_false (eqb (suc h) (suc h))) (starts f h hi s d n (bits f.«data» v))
          (inside v (suc k) is (Some (rx_at f (bits f.«data» v) 0 (suc h + f.half_bit))) (suc h) (not hi) false s d n
          (taking (suc h + f.half_bit) e 0 (omega arith) (omega arith) lo up (omega arith)) (book_step c false s d n b)
          (ledger_step c false (word_of v ∷ is) k l) a)

    -- a due half in cell suc j: the level, by what the cell holds
    module _ (c : Count) (ls : List Bool) (is : List LineItem) (v k h : ℕ) (hi m : Bool) (s d n : ℕ) (b : Book c s d n) (l : Ledger c (word_of v ∷ is) k)
        (a : prefix (m ∷ ls) (drop k (spread f.half_bit (frame f (bits f.«data» v))) ++ signal f is)) where
      abbrev To : Option Rx → Type 0
      To x = Where (count_after c (half_passes m (completing (state f x h hi m s d n)))) ls (v_half (state f x h hi m s d n))

      level : (j y : ℕ) → k ≡ j * f.half_bit + y → y < f.half_bit → j < stop f + f.stops → k < span f → m ≡ get_or (frame f (bits f.«data» v)) j false
      level j y e h lt le = (word_ahead v k m ls (signal f is) le a).0 ∙ cell_level v k j y e h lt

      ahead : k < span f → prefix ls (drop (suc k) (spread f.half_bit (frame f (bits f.«data» v))) ++ signal f is)
      ahead le = (word_ahead v k m ls (signal f is) le a).1

      at_top : (j : ℕ) → j ≡ f.«data» + one_if f.parity → completing (state f (Some (rx_at f (bits f.«data» v) j (suc h))) h hi m s d n) ≡ true
      unfolding completing
      at_top j top = rw (eq-eqb (suc h) (suc h) refl, eq-eqb j (f.«data» + one_if f.parity) top)

      sample_half : (e j : ℕ) → suc k ≡ j * f.half_bit + f.half_bit + e → f.half_bit / 2 ≤ e → e ≤ f.half_bit / 2 + 1 → j ≤ f.«data» + one_if f.parity
          → (completing (state f (Some (rx_at f (bits f.«data» v) j (suc h))) h hi m s d n) ≡ true → c.unread ≡ false)
          → Dec (j < f.«data») → Dec (j ≡ f.«data» + one_if f.parity) → To (Some (rx_at f (bits f.«data» v) j (suc h)))
      sample_half e j q lo up jle u (yes lt) r =
          let le : k < span f = omega (arith, room j jle) in
          let w : m ≡ get_or (bits f.«data» v) j false
          = level (suc j) (pred e) (omega arith) (omega arith) (omega arith) le ∙ data_cell f (bits f.«data» v) (bits_length f.«data» v) j lt in
          rw w (data_half c ls is v k h hi s d n b l j e q lo up lt (ahead le))
      sample_half e j q lo up jle u (no ge) (yes top) =
          let le : k < span f = omega (arith, room j jle) in
          let w : m ≡ true
          = level (suc j) (pred e) (omega arith) (omega arith) (omega arith) le
          ∙ ap (λ (x : ℕ). get_or (frame f (bits f.«data» v)) (suc x) false) top ∙ stop_cell f (bits f.«data» v) (bits_length f.«data» v) st in
          let free : c.unread ≡ false = u (at_top j top) in
          let g : suc k ≡ (f.«data» + one_if f.parity) * f.half_bit + f.half_bit + e = subst (λ (x : ℕ). suc k ≡ x * f.half_bit + f.half_bit + e) top q in
          rw (w, top) (stop_half c ls is v k h hi s d n b l e g lo up free (ahead le))
      sample_half e j q lo up jle u (no ge) (no low) =
          let le : k < span f = omega (arith, room j jle) in
          let same : j ≡ f.«data» = omega (arith, one_if≤ f.parity) in
          let p : f.parity ≡ true = has_parity f.parity (omega arith) in
          let w : m ≡ eqb (parity_bit f (bits f.«data» v)) 1
          = level (suc j) (pred e) (omega arith) (omega arith) (omega arith) le
          ∙ ap (λ (x : ℕ). get_or (frame f (bits f.«data» v)) (suc x) false) same ∙ parity_at f (bits f.«data» v) (bits_length f.«data» v) p in
          let g : suc k ≡ f.«data» * f.half_bit + f.half_bit + e = subst (λ (x : ℕ). suc k ≡ x * f.half_bit + f.half_bit + e) same q in
          rw (w, same) (check_half c ls is v k h hi s d n b l e g lo up p (ahead le))

      inside_half : (x : Option Rx) → Phase f (bits f.«data» v) h k x → (completing (state f x h hi m s d n) ≡ true → c.unread ≡ false) → To x
      inside_half x (waiting q) u =
          let le : k < span f = omega (arith, room 0 (omega arith)) in
          let w : m ≡ false = level 0 k (omega arith) (omega arith) (omega arith) le ∙ start_cell f (bits f.«data» v) (bits_length f.«data» v) in
          rw w (fall_half c ls is v k h hi s d n b l q (ahead le))
      inside_half x (starting t e q lt lo up) u = go (ℕ_discrete t (suc h))
        where
          go : Dec (t ≡ suc h) → To (Some (rx_wait f (negsuc 0) t))
          go (yes p) =
              let le : k < span f = omega (arith, room 0 (omega arith)) in
              let w : m ≡ false = level 0 k (omega arith) (omega arith) (omega arith) le ∙ start_cell f (bits f.«data» v) (bits_length f.«data» v) in
              rw (w, p) (begin_half c ls is v k h hi s d n b l e (omega arith) lo up (ahead le))
          go (no p) =
              let le : k < span f = omega (arith, room 0 (omega arith)) in
              pass_half c ls is v k h hi s d n b l m (negsuc 0) 0 t false p (ahead le) (starting t e (omega arith) (omega arith) lo up)
      inside_half x (taking t e j q lt lo up jle) u = go (ℕ_discrete t (suc h))
        where
          go : Dec (t ≡ suc h) → To (Some (rx_at f (bits f.«data» v) j t))
          go (yes p) =
              rw p (sample_half e j (omega arith) lo up jle (subst (λ (y : ℕ). completing (state f (Some (rx_at f (bits f.«data» v) j y)) h hi m s d n) ≡ true → c.unread ≡ false) p u)
              (dec_lt j f.«data») (ℕ_discrete j (f.«data» + one_if f.parity)))
          go (no p) =
              let le : k < span f = omega (arith, room j jle) in
              pass_half c ls is v k h hi s d n b l m (pos j) (number (take j (bits f.«data» v))) t (odd_ones (take j (bits f.«data» v))) p (ahead le) (taking t e j (omega arith) (omega arith) lo up jle)

    -- a half between words: mark goes on, or a word begins
    between_half : (is : List LineItem) (c : Count) (ls : List Bool) (x : Option Rx) (h : ℕ) (hi m : Bool) (s d n : ℕ) → Free f h hi m x → Book c s d n → Ledger c is 0
        → prefix (m ∷ ls) (signal f is) → Where (count_after c (half_passes m (completing (state f x h hi m s d n)))) ls (v_half (state f x h hi m s d n))
    unfolding signal
    between_half [] c ls x h hi m s d n fr b l a = absurd a
    between_half (mark zero ∷ is) c ls x h hi m s d n fr b l a = between_half is c ls x h hi m s d n fr b (ledger_zero c is l) a
    between_half (mark (suc k) ∷ is) c ls x h hi m s d n fr b l a =
        rw a.0 (mark_half c ls is k x h hi s d n (subst (λ (y : Bool). Free f h hi y x) a.0 fr) b l a.1)
    between_half (word_of v ∷ is) c ls x h hi m s d n fr b l a =
        let le : 0 < span f = omega (arith, room 0 (omega arith)) in
        let w : (m ≡ get_or (spread f.half_bit (frame f (bits f.«data» v))) 0 false) × prefix ls (drop 1 (spread f.half_bit (frame f (bits f.«data» v))) ++ signal f is)
        = word_ahead v 0 m ls (signal f is) le (subst (λ (cs : List Bool). prefix (m ∷ ls) (spread f.half_bit cs ++ signal f is)) (word_bits f v plain) a) in
        let z : m ≡ false
        = w.0 ∙ cell_level v 0 0 0 (omega arith) (omega arith) (omega arith) ∙ start_cell f (bits f.«data» v) (bits_length f.«data» v) in
        rw z (start_half c ls is v x h hi s d n (subst (λ (y : Bool). Free f h hi y x) z fr) b l w.1)

    -- every half keeps the place
    pub half_kept : (c : Count) (ls : List Bool) (v : View) → (completing v ≡ true → c.unread ≡ false) → Where c (v.mark ∷ ls) v
        → Where (count_after c (half_passes v.mark (completing v))) ls (v_half v)
    half_kept c ls v u (between is x h hi m s d n fr b l a) = between_half is c ls x h hi m s d n fr b l a
    half_kept c ls v u (inside w k is x h hi m s d n ph b l a) = inside_half c ls is w k h hi m s d n b l a x ph u

    -- RDR is read
    pub read_keeps : (c : Count) (ls : List Bool) (v : View) (a : ℕ) → Where c ls v → Where (count_after c (rdr_read a)) ls (v_flags v (bit_and v.flags 0xbf))
    read_keeps c ls v y (between is x h hi m s d n fr b l a) =
        between is x h hi m (bit_and s 0xbf) d n fr (book_read c y s d n b) (record { more = l.more; less = l.less; names = l.names }) a
    read_keeps c ls v y (inside w k is x h hi m s d n ph b l a) =
        inside w k is x h hi m (bit_and s 0xbf) d n ph (book_read c y s d n b) (record { more = l.more; less = l.less; names = l.names }) a

    -- the line is set
    pub line_keeps : (c : Count) (ls : List Bool) (v : View) (m : Bool) → Where c ls v → Where c ls (v_arm (v_mark v m))
    line_keeps c ls v true (between is x h hi m s d n no_word b l a) =
        rw (arm_mark f h hi s d n) (between is None h hi true s d n no_word b l a)
    line_keeps c ls v false (between is x h hi m s d n no_word b l a) =
        rw (line_arms f h hi s d n plain (no_error c s d n b)) (between is (Some (rx_wait f (negsuc 1) (fall h hi))) h hi false s d n waits b l a)
    line_keeps c ls v y (between is x h hi m s d n waits b l a) =
        rw (arm_busy f (rx_wait f (negsuc 1) (fall h hi)) h hi y s d n) (between is (Some (rx_wait f (negsuc 1) (fall h hi))) h hi y s d n waits b l a)
    line_keeps c ls v y (inside w k is x h hi m s d n p b l a) =
        rw (arm_phase f (bits f.«data» w) h k x hi y s d n p) (inside w k is x h hi y s d n p b l a)

    -- what the place says of the port
    pub record Shown (c : Count) (v : View) : Type 0 where
      pub flag : v.flags ≡ cond c.unread 0x40 0
      pub rdr : (j : ℕ) → c.completions ≡ suc j → v.rdr ≡ get_or (values f items) j 0
      pub tally : v.received ≡ tally_after c.completions r0
      pub most : c.completions ≤ stop_cells_begun f items c.halves
      pub least : stop_cells_passed f items c.halves ≤ c.completions

    early : (bs : List Bool) (h k : ℕ) (x : Option Rx) → Phase f bs h k x → k < suc (stop f) * f.half_bit
    early bs h k x (waiting q) = omega (arith, room 0 (omega arith))
    early bs h k x (starting t e q lt lo up) = omega arith
    early bs h k x (taking t e j q lt lo up le) = let a : j * f.half_bit ≤ (f.«data» + one_if f.parity) * f.half_bit = mul-le-mul_right f.half_bit le in omega arith

    not_passed : (w k : ℕ) (is : List LineItem) → k < suc (stop f) * f.half_bit → stop_cells_passed f (word_of w ∷ is) (k + 0) ≡ 0
    unfolding stop_cells_passed
    not_passed w k is h =
        let b : f.half_bit ≤ f.stops * f.half_bit = at_least f.stops f.half_bit st in
        let e : k + 0 - span f ≡ 0 = omega arith in
        let t : leb (suc (stop f) * f.half_bit) (k + 0) ≡ false = lt-leb (suc (stop f) * f.half_bit) (k + 0) (omega arith) in
        rw (e, t) (omega (arith, passed_zero f (omega arith) is))

    pub shown : (c : Count) (ls : List Bool) (v : View) → Where c ls v → Shown c v
    shown c ls v (between is x h hi m s d n fr b l a) =
        let z : c.halves + 0 ≡ c.halves = omega arith in
        record {
          flag = b.flag;
          rdr = b.word;
          tally = b.tally;
          most = omega (arith, rw z at (l.more 0));
          least = omega (arith, rw z at (l.less 0), passed_zero f (omega arith) is);
        }
    shown c ls v (inside w k is x h hi m s d n ph b l a) =
        let z : c.halves + 0 ≡ c.halves = omega arith in
        record {
          flag = b.flag;
          rdr = b.word;
          tally = b.tally;
          most = omega (arith, rw z at (l.more 0));
          least = omega (arith, rw z at (l.less 0), not_passed w k is (early (bits f.«data» w) h k x ph));
        }

    -- what the place says of the format, RE, the clock and the word in the receiver
    pub record Stands (v : View) : Type 0 where
      pub fmt : v.fmt ≡ f
      pub runs : v.runs ≡ true
      pub plain_rx : rx_clocked v.rx ≡ false

    pub where_stands : (c : Count) (ls : List Bool) (v : View) → Where c ls v → Stands v
    where_stands c ls v (between is x h hi m s d n fr b l a) = record { fmt = refl; runs = refl; plain_rx = free fr }
      where
        free : {h : ℕ} {hi m : Bool} {x : Option Rx} → Free f h hi m x → rx_clocked x ≡ false
        free no_word = refl
        free waits = plain
    where_stands c ls v (inside w k is x h hi m s d n ph b l a) = record { fmt = refl; runs = refl; plain_rx = phase ph }
      where
        phase : {bs : List Bool} {h k : ℕ} {x : Option Rx} → Phase f bs h k x → rx_clocked x ≡ false
        phase (waiting q) = plain
        phase (starting t e q lt lo up) = plain
        phase (taking t e j q lt lo up le) = plain

    -- the start of the words
    pub start_where : (ls : List Bool) (h : ℕ) (hi : Bool) (d : ℕ) → prefix ls (signal f items) → Where none_yet ls (state f None h hi true 0 d r0)
    unfolding tally_after
    start_where ls h hi d a =
        between items None h hi true 0 d r0 no_word (record { flag = refl; word = λ j z. absurd (no_less j z); tally = refl })
        (record {
          more = λ x. omega arith;
          less = λ x. omega arith;
          names = λ y. let e : 0 + y ≡ y = omega arith in rw e;
        }) a
      where
        no_less : (j : ℕ) → 0 ≡ suc j → ⊥
        no_less j z = omega arith
