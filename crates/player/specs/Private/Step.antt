-- One command of a run as the player's loop takes it (machine's Step.antt), in the code's terms. No public contract cites this file.
-- Assumes nothing.
use Rattle.std.specs.Prelude.{ℕ, List, Result, Ok, Err}
use Rattle.sci.specs.declared.Sci.{Sci}
use Rattle.machine.specs.Machine.{Run, play_items}
use Rattle.machine.specs.Private.Step.{Turn, onward, stopped, step}
use Rattle.script.specs.Items.{read_at}
use Rattle.player.specs.declared.Progress.{Progress as Held}
use Rattle.player.specs.declared.Reason.{Reason}
use Rattle.player.specs.Play.{Progress, record_length, room, items, started, act, reason_number}

abbrev pub progress : Held → Progress
progress h = record { sci = h.tested.sci; length = h.length }

-- a step's answer, and the progress and the log after it
abbrev pub stepped : Result ℕ Reason → Progress → List ℕ → Turn Progress
stepped (Ok next) p log = onward p next record_length log
stepped (Err reason) p log = stopped (reason_number reason) log

unfoldable pub port_step : Progress → List ℕ → ℕ → List ℕ → Turn Progress
port_step p s at log = step room act (read_at record_length s) p at log

-- the whole script, without test 8
abbrev pub play_on : Sci → List ℕ → List ℕ → Run Progress
play_on s script log = play_items room act (started s) (items script) log
