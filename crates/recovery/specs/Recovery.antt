-- Demand 3 (document 01, "Healing") as one claim, `Recovers`, at the end of this file. It is about lists of direct calls on one port, and the port is
-- known by its answers only: `direct`, one direct call, is any function from a call and a port to an answer. `Recovers direct` is proved of the real
-- port (proofs/Recovery.antt, `recovery`), and disproved of ports that fall short (NearMisses.antt); Corollaries.antt has the demand sentence by sentence,
-- Outside.antt conditions that a caller can check, Layers.antt how it carries over to scripts and exported calls; proofs/Example.antt has a list, with a noisy
-- history, that meets all that is asked.
-- The words of document 01 are in quotation marks. Where the claim is stronger than they are, a comment says so.
-- Of frame and port: `has x m` says that x has a bit of the mask m, `differ` that exactly one of two holds, `bit n` that n is not 0; `after a` is the port that
-- the answer a hands back; `internal p`: the port p runs on its internal clock; `format_of p`: the format of its SMR and SEMR.
-- Assumes nothing.
use Rattle.std.specs.Prelude.{◌≡◌, ℕ, zero, suc, ◌+◌, ◌*◌, ◌≤◌, Bool, true, false, cond, ◌||◌, List, [], ◌∷◌, ◌++◌, eqb, length, get_or}
use Rattle.frame.specs.declared.Format.{Format}
use Rattle.port.specs.declared.Port.{Port}
use Rattle.frame.specs.Frame.{differ, has, one_if, stop}
use Rattle.port.specs.Baud.{format_of, internal}
use Rattle.port.specs.Calls.{Answer, after, bit, done, refused}
use Rattle.command.specs.declared.Call.{Call}
use Rattle.command.specs.declared.Call.TheVariants.{Wait, Inside, Read, Line, Pins, Power, Write}
use Rattle.shift.specs.Receiver.{rx_clocked, completing_on}
use Rattle.port.specs.Power.{fresh}
use Rattle.recovery.specs.Line.{Count, Event, LineItem, count_after, half_passes, none_yet, other, prefix, rdr_read, signal, span_of, stop_cells_begun, stop_cells_passed, tally_after, values, word_of, words_in}

-- ---- the line
-- A port, and the level that the callers have put on its receive line. The line is no part of the port: it starts at 1, an accepted call of
-- kind 4 or 5 sets it, and nothing else changes it.
pub record Wired : Type 0 where
  pub port : Port
  pub line : Bool

abbrev pub start : Wired
start = record { port = fresh; line = true }

abbrev pub accepted : Answer → Bool
accepted (done v q) = true
accepted (refused n offset q) = false

abbrev pub by_8 : Answer → Bool
by_8 (done v q) = false
by_8 (refused n offset q) = eqb n 8

abbrev pub line_after : Call → Answer → Bool → Bool
line_after (Line b) a l = cond (accepted a) (bit b) l
line_after (Pins c b) a l = cond (accepted a) (bit b) l
line_after (Read x) a l = l
line_after (Write x v) a l = l
line_after (Wait n) a l = l
line_after (Power b) a l = l
line_after Inside a l = l

-- "each call gets the state that the one before returned"
abbrev pub wired_after : Call → Answer → Wired → Wired
wired_after c a s = record { port = after a; line = line_after c a s.line }

-- "Mark is line 1, or line 0 with SPCR bit 0 set"
abbrev pub line_at_mark : Wired → Bool
line_at_mark s = differ s.line (has s.port.spcr 1)

-- ---- moments
-- A moment of the list: what happened, and the port after it. A half that passes is one, and so is any other accepted call; a refused call is none
pub record Moment : Type 0 where
  pub event : Event
  pub port : Port

-- the moment of an accepted call that is no wait: its event, by the value that it answers
abbrev pub one_moment : (ℕ → Event) → Answer → List Moment
one_moment e (done v q) = record { event = e v; port = q } ∷ []
one_moment e (refused n offset q) = []

-- "Completion is the half that samples the first stop cell": in this port the receiver's word waits for its first stop cell, and is due at the next half
abbrev pub completes : Port → Bool
completes p = completing_on p.rx (suc p.half)

-- the levels of the halves among these moments
abbrev pub level_of : Event → List Bool → List Bool
level_of (half_passes m b) ls = m ∷ ls
level_of (rdr_read a) ls = ls
level_of other ls = ls

unfoldable pub levels : List Moment → List Bool
levels [] = []
levels (m ∷ ms) = level_of m.event (levels ms)

-- the number of completions within the first k halves of these moments
abbrev pub completed_on : Event → ℕ → (ℕ → ℕ) → ℕ
completed_on (half_passes m b) zero r = 0
completed_on (half_passes m b) (suc k) r = one_if b + r k
completed_on (rdr_read a) k r = r k
completed_on other k r = r k

unfoldable pub completed : List Moment → ℕ → ℕ
completed [] k = 0
completed (m ∷ ms) k = completed_on m.event k (completed ms)

-- "RDR is read between each [completion] and the next"
abbrev pub read_before : Event → Count → Type 0
read_before (half_passes m true) c = c.unread ≡ false
read_before (half_passes m false) c = Unit {0}
read_before (rdr_read a) c = Unit {0}
read_before other c = Unit {0}

abbrev pub separated : Count → List Moment → Type 0
separated c [] = Unit {0}
separated c (m ∷ ms) = read_before m.event c × separated (count_after c m.event) ms

-- ---- what is asked of a call, by its answer: of a refused call nothing ("a refused call .. passes no half and may stand anywhere")
-- Rest: "no accepted power command", "no register but SSR and RDR written". Stronger than document 01: the clock pin may change
abbrev pub allowed_in_rest : Call → Answer → Type 0
allowed_in_rest (Write x v) a = accepted a ≡ true → (eqb x 0xff9c || eqb x 0xff9d) ≡ true
allowed_in_rest (Power b) a = accepted a ≡ false
allowed_in_rest (Read x) a = Unit {0}
allowed_in_rest (Wait n) a = Unit {0}
allowed_in_rest (Line b) a = Unit {0}
allowed_in_rest (Pins c b) a = Unit {0}
allowed_in_rest Inside a = Unit {0}

-- Words: "no accepted power command", "no register is written". Stronger than document 01: the clock pin may change; and the line may change at any
-- time and more than once ("only where a cell or mark begins, once at most" is not asked), since only the levels that halves see count
abbrev pub allowed_in_words : Call → Answer → Type 0
allowed_in_words (Write x v) a = accepted a ≡ false
allowed_in_words (Power b) a = accepted a ≡ false
allowed_in_words (Read x) a = Unit {0}
allowed_in_words (Wait n) a = Unit {0}
allowed_in_words (Line b) a = Unit {0}
allowed_in_words (Pins c b) a = Unit {0}
allowed_in_words Inside a = Unit {0}

-- ---- what is claimed of each moment of the words
-- an RDR read "after a completion and before the next answers the number that the word's data bits make": after n + 1 completions the value of word n, from 0
-- (`get_or vs n 0` is the n-th of vs; there is one, since completions never outnumber the words: Corollaries.antt, `Read`)
abbrev pub answer_is : Format → List LineItem → Count → Event → Type 0
answer_is f items c (half_passes m b) = Unit {0}
answer_is f items c (rdr_read a) = (n : ℕ) → c.completions ≡ suc n → a ≡ get_or (values f items) n 0
answer_is f items c other = Unit {0}

-- `first` is the port at the words' start; `c` counts from there up to the moment `m`, which it includes
pub record Holds (first : Port) (items : List LineItem) (c : Count) (m : Moment) : Type 0 where
  -- "SSR stays without 0x38"
  pub no_error : has m.port.ssr 0x38 ≡ false
  -- "RDRF is set exactly from each completion to the first RDR read after it"
  pub rdrf : has m.port.ssr 0x40 ≡ c.unread
  -- "the tally of words received grows by one, wrapping to zero, at each completion and never else"
  pub tally : m.port.received ≡ tally_after c.completions first.received
  -- "each word whose first stop cell has passed has exactly one completion, inside that cell; a word cut in that cell has at most one; there are no
  -- others": there have never been fewer completions than first stop cells passed, nor more than first stop cells begun. Outside these cells the two
  -- numbers are equal, and inside one they differ by one
  pub least : stop_cells_passed (format_of first) items c.halves ≤ c.completions
  pub most : c.completions ≤ stop_cells_begun (format_of first) items c.halves
  pub answer : answer_is (format_of first) items c m.event

abbrev pub throughout : Port → List LineItem → Count → List Moment → Type 0
throughout first items c [] = Unit {0}
throughout first items c (m ∷ ms) = Holds first items (count_after c m.event) m × throughout first items (count_after c m.event) ms

-- the same of the completions, word by word: of a word with the items `xs` before it, as far as the halves of these moments reach
pub record Once (f : Format) (ms : List Moment) (xs : List LineItem) : Type 0 where
  -- when its first stop cell begins there have been as many completions as words before it,
  pub before : span_of f xs + stop f * f.half_bit ≤ length (levels ms) → completed ms (span_of f xs + stop f * f.half_bit) ≡ words_in xs
  -- within the cell there is at most one more,
  pub within : (k : ℕ) → k ≤ f.half_bit → span_of f xs + (stop f * f.half_bit + k) ≤ length (levels ms) → completed ms (span_of f xs + (stop f * f.half_bit + k)) ≤ suc (words_in xs)
  -- and when the cell has passed there has been exactly one more
  pub through : span_of f xs + suc (stop f) * f.half_bit ≤ length (levels ms) → completed ms (span_of f xs + suc (stop f) * f.half_bit) ≡ suc (words_in xs)

-- ---- "History: any calls. At its end RE is set, SMR bit 0x80 clear, SSR without 0x38, and the internal clock runs". (The proof has no need of the third)
pub record HistoryEnd (s : Wired) : Type 0 where
  pub re : has s.port.scr 0x10 ≡ true
  pub start_stop : has s.port.smr 0x80 ≡ false
  pub no_error : has s.port.ssr 0x38 ≡ false
  pub clock : internal s.port ≡ true

-- ---- lists of direct calls
module _ (direct : Call → Port → Answer) where
  unfoldable pub run_wired : Wired → List Call → Wired
  run_wired s [] = s
  run_wired s (c ∷ cs) =
      let a = direct c s.port in
      run_wired (wired_after c a s) cs

  -- every call of a list, with its answer, and the port and line after it
  abbrev pub each : (Call → Answer → Wired → Type 0) → Wired → List Call → Type 0
  each P s [] = Unit {0}
  each P s (c ∷ cs) =
      let a = direct c s.port in
      P c a (wired_after c a s) × each P (wired_after c a s) cs

  -- the port at the j-th half of a wait made on p: the same port's answer to a wait of j halves
  abbrev pub waited : ℕ → Port → Port
  waited j p = after (direct (Wait j) p)

  -- n more halves of a wait made on p at the level m, after its first i halves have led to the port `before`
  unfoldable pub wait_trace : ℕ → ℕ → Bool → Port → Port → List Moment
  wait_trace zero i m p before = []
  wait_trace (suc n) i m p before =
      let q = waited (suc i) p in
      record { event = half_passes m (completes before); port = q } ∷ wait_trace n (suc i) m p q

  -- "Halves pass only while the port runs on its internal clock": else a wait is one moment like another call
  abbrev pub wait_moments : ℕ → Answer → Wired → List Moment
  wait_moments n (done v q) s = cond (internal s.port) (wait_trace n 0 (line_at_mark s) s.port s.port) (one_moment (λ v. other) (done v q))
  wait_moments n (refused k offset q) s = []

  abbrev pub call_trace : Call → Answer → Wired → List Moment
  call_trace (Wait n) a s = wait_moments n a s
  call_trace (Read x) a s = one_moment (λ v. cond (eqb x 0xff9d) (rdr_read v) other) a
  call_trace (Write x v) a s = one_moment (λ v. other) a
  call_trace (Line b) a s = one_moment (λ v. other) a
  call_trace (Pins c b) a s = one_moment (λ v. other) a
  call_trace (Power b) a s = one_moment (λ v. other) a
  call_trace Inside a s = one_moment (λ v. other) a

  -- the moments of a list of calls
  unfoldable pub trace : Wired → List Call → List Moment
  trace s [] = []
  trace s (c ∷ cs) =
      let a = direct c s.port in
      call_trace c a s ++ trace (wired_after c a s) cs

  -- "Rest: at least 384 halves, the line at mark throughout, no register but SSR and RDR written. At its end SSR is without 0x78, and the receiver
  -- holds no word of clocked form at any position"
  pub record Rest (s : Wired) (cs : List Call) : Type 0 where
    pub line : line_at_mark s ≡ true
    pub calls : each (λ c a s. allowed_in_rest c a × (line_at_mark s ≡ true)) s cs
    pub long : 384 ≤ length (levels (trace s cs))
    pub flags : has (run_wired s cs).port.ssr 0x78 ≡ false
    pub no_clocked_word : rx_clocked (run_wired s cs).port.rx ≡ false

  -- "Words: mark for any number of halves, and words, up to the list's end, which may cut a word", in the format of "the standing SMR and SEMR"
  pub record Words (s : Wired) (cs : List Call) (items : List LineItem) : Type 0 where
    pub calls : each (λ c a s. allowed_in_words c a) s cs
    pub line : prefix (levels (trace s cs)) (signal (format_of s.port) items)
    pub reads : separated none_yet (trace s cs)

  -- where history and rest lead
  abbrev pub rest_end : List Call → List Call → Wired
  rest_end history rest = run_wired (run_wired start history) rest

  -- what follows
  pub record Recovered (history rest words : List Call) (items : List LineItem) : Type 0 where
    -- the port keeps passing its own field test: no call of the list is refused by 8
    pub tested : each (λ c a s. by_8 a ≡ false) start (history ++ (rest ++ words))
    -- before the first moment of the words all holds with nothing counted, and from there on it holds at each moment
    pub at_first : Holds (rest_end history rest).port items none_yet (record { event = other; port = (rest_end history rest).port })
    pub conditions : throughout (rest_end history rest).port items none_yet (trace (rest_end history rest) words)
    -- each word is completed once, in its first stop cell, in order
    pub once : (xs ys : List LineItem) (v : ℕ) → items ≡ xs ++ (word_of v ∷ ys) → Once (format_of (rest_end history rest).port) (trace (rest_end history rest) words) xs

  -- THE CLAIM. "The list is history, rest and words", three lists of calls, refused ones anywhere, made one after the other on a fresh port
  unfoldable pub Recovers : Type 0
  Recovers =
      (history rest words : List Call) (items : List LineItem)
      → HistoryEnd (run_wired start history) → Rest (run_wired start history) rest → Words (rest_end history rest) words items → Recovered history rest words items
