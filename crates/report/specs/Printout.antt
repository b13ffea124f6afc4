-- All that the program prints for its input. Document 01, "A script comes in": "The program reads at most 16,384 bytes of standard input (more prints
-- `too long` and nothing else), starts from a fresh port .., lends a 40,960-byte log, prints one line a record, and ends with `end` and the run's
-- length .., or `refused N at P`. There is no header." The length is the run's own (player's Play.antt).
-- Assumes nothing.
use Rattle.std.specs.Prelude.{ℕ, zero, suc, ◌/◌, cond, List, [], ◌∷◌, ◌++◌, length, drop, get_or, replicate, ltb, eqb}
use Rattle.sci.specs.Calls.{fresh}
use Rattle.machine.specs.Machine.{Run}
use Rattle.player.specs.Play.{Progress, record_length, play}
use Rattle.report.specs.Lines.{record_line, end_line, refused_line}

-- the line of the record at the front of a log
abbrev pub first_line : List ℕ → List ℕ
first_line log = record_line (get_or log 0 0) (get_or log 1 0) (get_or log 2 0) (get_or log 3 0) (get_or log 4 0) (get_or log 5 0)

-- the lines of a log's first n records
abbrev pub record_lines : ℕ → List ℕ → List ℕ
record_lines zero log = []
record_lines (suc n) log = first_line log ++ record_lines n (drop record_length log)

-- 0 is the number of a script that was accepted
abbrev pub last_line : ℕ → ℕ → ℕ → List ℕ
last_line number offset length = cond (eqb number 0) (end_line length) (refused_line number offset)

abbrev pub run_text : Run Progress → List ℕ
run_text r = record_lines (r.used / record_length) r.log ++ last_line r.number r.offset r.state.length

abbrev pub longest : ℕ
longest = 16384

abbrev pub log_length : ℕ
log_length = 40960

-- `too long`, newline
abbrev pub too_long : List ℕ
too_long = 116 ∷ 111 ∷ 111 ∷ 32 ∷ 108 ∷ 111 ∷ 110 ∷ 103 ∷ 10 ∷ []

unfoldable pub printout : List ℕ → List ℕ
printout script = cond (ltb longest (length script)) too_long (run_text (play fresh script (replicate log_length 0)))
