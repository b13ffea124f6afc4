-- Demand 3 with conditions that a caller can check from outside. `Recovers` (Recovery.antt) asks two things of the port's inside: that RDR is read between any
-- two completions, and that at the rest's end the receiver holds no word of clocked form. Here the first is said by the words on the line and the second by
-- what was written. Both ask for more than `Recovers` does: a read in the first stop cell, after its sample, does not count here.
-- What else is asked a caller sees. SCR, SMR, SSR, SPCR and SEMR are what a read of them answers; whether the internal clock runs, so that an accepted wait
-- passes the halves that it names, is known from the power commands, SCR and SMR (`ClockAsCommanded`); and of a trace only halves, their levels and RDR Read
-- are looked at, not which halves complete a word.
-- Proved in proofs/Outside.antt; the worked list of proofs/Example.antt meets it, and proofs/Facts.antt has what goes wrong otherwise.
-- Assumes nothing.
use Rattle.std.specs.Prelude.{◌≡◌, ℕ, ◌≤◌, ◌<◌, Bool, true, false, cond, not, ◌&&◌, ◌||◌, List, [], ◌∷◌, ◌++◌, eqb, length}
use Rattle.std.specs.Int.Bits.{bit_and}
use Rattle.frame.specs.declared.Format.{Format}
use Rattle.frame.specs.Frame.{has}
use Rattle.port.specs.declared.Port.{Port}
use Rattle.port.specs.Baud.{format_of, internal}
use Rattle.port.specs.Calls.{Answer}
use Rattle.command.specs.declared.Call.{Call}
use Rattle.command.specs.declared.Call.TheVariants.{Wait, Inside, Read, Line, Pins, Power, Write}
use Rattle.recovery.specs.Corollaries.{Sentences, halves_in}
use Rattle.recovery.specs.Line.{LineItem, prefix, rdr_read, signal, stop_cells_begun, stop_cells_passed}
use Rattle.recovery.specs.Recovery.{HistoryEnd, Moment, Recovered, Rest, Wired, Words, accepted, allowed_in_rest, allowed_in_words, each, levels, line_at_mark, rest_end, run_wired, start, wired_after, trace}

-- ---- RDR read in time, by the line's words
-- a read of RDR after the first stop cells of n words have passed, and before that of the next begins
pub record ReadAfter (f : Format) (items : List LineItem) (ms : List Moment) (n : ℕ) : Type 0 where
  pub before : List Moment
  pub read : Moment
  pub later : List Moment
  pub split : ms ≡ before ++ (read ∷ later)
  pub answer : ℕ
  pub of_rdr : read.event ≡ rdr_read answer
  pub passed : stop_cells_passed f items (halves_in before) ≡ n
  pub begun : stop_cells_begun f items (halves_in before) ≡ n

-- there is one between any two words, as far as the halves of these moments reach. With SMR 0 and two words without mark between, it is after half 320 and
-- before half 609
abbrev pub ReadBetween : Format → List LineItem → List Moment → Type 0
ReadBetween f items ms = (n : ℕ) → 0 < n → n < stop_cells_begun f items (halves_in ms) → ReadAfter f items ms n

-- ---- no word of clocked form in the receiver, by what was written
abbrev pub keeps_start_stop : Call → Answer → Type 0
keeps_start_stop (Write x v) a = accepted a ≡ true → eqb x 0xff98 ≡ true → has v 0x80 ≡ false
keeps_start_stop (Read x) a = Unit {0}
keeps_start_stop (Wait n) a = Unit {0}
keeps_start_stop (Line b) a = Unit {0}
keeps_start_stop (Pins c b) a = Unit {0}
keeps_start_stop (Power b) a = Unit {0}
keeps_start_stop Inside a = Unit {0}

-- ---- the clock, by what was commanded
-- the bits of the last accepted power command
abbrev pub power_after : Call → Answer → ℕ → ℕ
power_after (Power b) a n = cond (accepted a) b n
power_after (Read x) a n = n
power_after (Write x v) a n = n
power_after (Wait k) a n = n
power_after (Line b) a n = n
power_after (Pins c b) a n = n
power_after Inside a n = n

-- the internal clock runs, by these bits, SCR and SMR: module on, reset mode off, main clock on (or the subclock, where SMR asks for it), and SCR bit 1 clear
abbrev pub clock_runs : ℕ → ℕ → ℕ → Bool
clock_runs b scr smr = (has b 1 && (not (has b 8) && (has b 2 || (has b 4 && eqb (bit_and smr 3) 1)))) && not (has scr 2)

module _ (direct : Call → Port → Answer) where
  -- of a list of calls, n before it
  unfoldable pub power_commanded : ℕ → Wired → List Call → ℕ
  power_commanded n s [] = n
  power_commanded n s (c ∷ cs) =
      let a = direct c s.port in
      power_commanded (power_after c a n) (wired_after c a s) cs

  -- on a fresh port all are off
  unfoldable pub ClockAsCommanded : Type 0
  ClockAsCommanded =
      (calls : List Call) → internal (run_wired direct start calls).port ≡ clock_runs (power_commanded 0 start calls) (run_wired direct start calls).port.scr (run_wired direct start calls).port.smr

  -- at some point of the calls RE was clear and SMR bit 0x80 too, and from there on no accepted write to SMR set that bit. A port on which it was never set
  -- meets this with nothing before that point
  pub record StartStopSince (calls : List Call) : Type 0 where
    pub before : List Call
    pub since : List Call
    pub split : calls ≡ before ++ since
    pub re_clear : has (run_wired direct start before).port.scr 0x10 ≡ false
    pub start_stop : has (run_wired direct start before).port.smr 0x80 ≡ false
    pub kept : each direct (λ c a s. keeps_start_stop c a) (run_wired direct start before) since

  -- ---- `Rest` and `Words` with these in place of `no_clocked_word` and `Read`
  pub record RestOutside (history rest : List Call) : Type 0 where
    pub line : line_at_mark (run_wired direct start history) ≡ true
    pub calls : each direct (λ c a s. allowed_in_rest c a × (line_at_mark s ≡ true)) (run_wired direct start history) rest
    pub long : 384 ≤ length (levels (trace direct (run_wired direct start history) rest))
    pub flags : has (rest_end direct history rest).port.ssr 0x78 ≡ false
    pub form : StartStopSince (history ++ rest)

  pub record WordsOutside (s : Wired) (cs : List Call) (items : List LineItem) : Type 0 where
    pub calls : each direct (λ c a s. allowed_in_words c a) s cs
    pub line : prefix (levels (trace direct s cs)) (signal (format_of s.port) items)
    pub reads : ReadBetween (format_of s.port) items (trace direct s cs)

  -- they are enough: what `Recovers` asks follows
  unfoldable pub OutsideIsEnough : Type 0
  OutsideIsEnough =
      (history rest words : List Call) (items : List LineItem) → HistoryEnd (run_wired direct start history) → RestOutside history rest
      → WordsOutside (rest_end direct history rest) words items
      → Rest direct (run_wired direct start history) rest × Words direct (rest_end direct history rest) words items

  -- and so demand 3
  unfoldable pub RecoversOutside : Type 0
  RecoversOutside =
      (history rest words : List Call) (items : List LineItem) → HistoryEnd (run_wired direct start history) → RestOutside history rest
      → WordsOutside (rest_end direct history rest) words items
      → Recovered direct history rest words items × Sentences (rest_end direct history rest).port items (trace direct (rest_end direct history rest) words)
