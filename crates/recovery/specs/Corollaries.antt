-- Demand 3 sentence by sentence: what follows from `Recovers` (specs/Recovery.antt) for the words of a list, in the demand's own words.
-- Proved in proofs/Corollaries.antt, for every port of which `Recovers` holds.
-- Assumes nothing.
use Rattle.std.specs.Prelude.{◌≡◌, ℕ, suc, ◌+◌, ◌-◌, ◌*◌, ◌%◌, ◌^◌, ◌≤◌, ◌<◌, Bool, true, false, List, [], ◌∷◌, ◌++◌, length}
use Rattle.frame.specs.declared.Format.{Format}
use Rattle.port.specs.declared.Port.{Port}
use Rattle.frame.specs.Frame.{has, one_if, stop}
use Rattle.port.specs.Baud.{format_of}
use Rattle.port.specs.Calls.{Answer}
use Rattle.command.specs.declared.Call.{Call}
use Rattle.recovery.specs.Line.{Event, LineItem, half_passes, mark, other, rdr_read, span_of, word_of, words_in}
use Rattle.recovery.specs.Recovery.{HistoryEnd, Moment, Rest, Words, completed, levels, rest_end, run_wired, start, trace}

-- the halves of these moments; the completions among the halves a + 1 to b; all completions
abbrev pub halves_in : List Moment → ℕ
halves_in ms = length (levels ms)

abbrev pub completions_between : List Moment → ℕ → ℕ → ℕ
completions_between ms a b = completed ms b - completed ms a

abbrev pub one_completion : Event → ℕ
one_completion (half_passes m b) = one_if b
one_completion (rdr_read a) = 0
one_completion other = 0

unfoldable pub completions_of : List Moment → ℕ
completions_of [] = 0
completions_of (m ∷ ms) = one_completion m.event + completions_of ms

-- word n of the items, from 0: the items before it, its value, the items after it
pub record NthWord (items : List LineItem) (n : ℕ) : Type 0 where
  pub earlier : List LineItem
  pub value : ℕ
  pub later : List LineItem
  pub split : items ≡ earlier ++ (word_of value ∷ later)
  pub place : words_in earlier ≡ n

-- its first stop cell is the halves cell_begins + 1 to cell_ends
abbrev pub cell_begins : Format → List LineItem → ℕ
cell_begins f earlier = span_of f earlier + stop f * f.half_bit

abbrev pub cell_ends : Format → List LineItem → ℕ
cell_ends f earlier = span_of f earlier + suc (stop f) * f.half_bit

-- every moment, with the port before it
abbrev pub every : (Port → Moment → Type 0) → Port → List Moment → Type 0
every P p [] = Unit {0}
every P p (m ∷ ms) = P p m × every P m.port ms

-- RDRF after a moment, by the event and RDRF before it: set by a completion, cleared by an RDR read, else as it was
abbrev pub rdrf_after : Event → Bool → Bool
rdrf_after (half_passes m true) b = true
rdrf_after (half_passes m false) b = b
rdrf_after (rdr_read a) b = false
rdrf_after other b = b

-- the tally likewise: one more at a completion, wrapping to zero, and else as it was
abbrev pub tally_step : Event → ℕ → ℕ
tally_step (half_passes m true) t = suc t % 2 ^ 64
tally_step (half_passes m false) t = t
tally_step (rdr_read a) t = t
tally_step other t = t

-- `first` is the port at the words' start, `ms` the moments of the words
pub record Sentences (first : Port) (items : List LineItem) (ms : List Moment) : Type 0 where
  -- every whole word has exactly one completion, inside its first stop cell; and the completions come in order: word n has completion n, from 0
  pub whole :
      (n : ℕ) (w : NthWord items n) → cell_ends (format_of first) w.earlier ≤ halves_in ms
      → (completions_between ms (cell_begins (format_of first) w.earlier) (cell_ends (format_of first) w.earlier) ≡ 1)
      × (completed ms (cell_begins (format_of first) w.earlier) ≡ n)
  -- a word that is cut in its first stop cell has at most one, there
  pub cut_inside :
      (n : ℕ) (w : NthWord items n) → cell_begins (format_of first) w.earlier ≤ halves_in ms → halves_in ms ≤ cell_ends (format_of first) w.earlier
      → (completions_between ms (cell_begins (format_of first) w.earlier) (halves_in ms) ≤ 1)
      × (completed ms (cell_begins (format_of first) w.earlier) ≡ n)
  -- a word that is cut before its first stop cell has none: all completions are those of the words before it
  pub cut_before :
      (n : ℕ) (w : NthWord items n) → span_of (format_of first) w.earlier ≤ halves_in ms → halves_in ms ≤ cell_begins (format_of first) w.earlier
      → completed ms (halves_in ms) ≡ n
  -- there are no others: a half that is a completion lies in the first stop cell of a word, and it is that word's completion
  pub no_others :
      (k : ℕ) → k < halves_in ms → completed ms (suc k) ≡ suc (completed ms k)
      → (w : NthWord items (completed ms k)) × (cell_begins (format_of first) w.earlier ≤ k) × (k < cell_ends (format_of first) w.earlier)
  -- so there is none in mark, the trailing mark included
  pub none_in_mark :
      (xs ys : List LineItem) (n k : ℕ) → items ≡ xs ++ (mark n ∷ ys) → k ≤ n → span_of (format_of first) xs + k ≤ halves_in ms
      → completions_between ms (span_of (format_of first) xs) (span_of (format_of first) xs + k) ≡ 0
  -- RDRF is clear at first, and set exactly from each completion to the first RDR read after it
  pub rdrf_first : has first.ssr 0x40 ≡ false
  pub rdrf : every (λ p m. has m.port.ssr 0x40 ≡ rdrf_after m.event (has p.ssr 0x40)) first ms
  -- no error flag rises
  pub no_error_first : has first.ssr 0x38 ≡ false
  pub no_error : every (λ p m. has m.port.ssr 0x38 ≡ false) first ms
  -- the tally of words received grows by one, wrapping to zero, at each completion and never else
  pub tally : every (λ p m. m.port.received ≡ tally_step m.event p.received) first ms
  -- every RDR read after a completion (n + 1 of them) and before the next gives the data bits of that completion's word (word n)
  pub reads :
      (before after : List Moment) (m : Moment) (a n : ℕ) → ms ≡ before ++ (m ∷ after) → m.event ≡ rdr_read a → completions_of before ≡ suc n
      → (w : NthWord items n) × (a ≡ w.value % 2 ^ (format_of first).«data»)

-- the port after the last of these moments, or p if there is none
abbrev pub last_port : Port → List Moment → Port
last_port p [] = p
last_port p (m ∷ ms) = last_port m.port ms

module _ (direct : Call → Port → Answer) where
  -- what demand 3 says of a list
  unfoldable pub Demand : Type 0
  Demand =
      (history rest words : List Call) (items : List LineItem)
      → HistoryEnd (run_wired direct start history) → Rest direct (run_wired direct start history) rest → Words direct (rest_end direct history rest) words items
      → Sentences (rest_end direct history rest).port items (trace direct (rest_end direct history rest) words)

  -- history, rest and words are one list of calls
  unfoldable pub OneList : Type 0
  OneList = (history rest words : List Call) → run_wired direct start (history ++ (rest ++ words)) ≡ run_wired direct (rest_end direct history rest) words

  -- a trace ends where the calls do
  unfoldable pub EndsThere : Type 0
  EndsThere =
      (history calls : List Call)
      → last_port (run_wired direct start history).port (trace direct (run_wired direct start history) calls) ≡ (run_wired direct (run_wired direct start history) calls).port

  -- the line that the callers set is the line that the port has
  unfoldable pub HearsTheLine : Type 0
  HearsTheLine = (calls : List Call) → (run_wired direct start calls).port.input ≡ (run_wired direct start calls).line
