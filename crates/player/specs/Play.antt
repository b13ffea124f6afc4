-- Document 01, "A script comes in": what playing a script on a port with its clock leaves. What playing is, is said once for all players (machine's
-- Machine.antt): here is what is this player's own, the record of a command, and the direct call (sci's Calls.antt) that it makes.
-- Assumes nothing.
use Rattle.std.specs.Prelude.{ℕ, ◌+◌, ◌%◌, ◌^◌, cond, List, [], ◌∷◌, Result, Ok, Err}
use Rattle.frame.specs.Frame.{one_if}
use Rattle.command.specs.declared.Command.{Command}
use Rattle.command.specs.Command.{kind}
use Rattle.shift.specs.declared.cause.Cause.{Cause}
use Rattle.shift.specs.Cause.{cause_number}
use Rattle.port.specs.declared.Port.{Port}
use Rattle.pins.specs.Pins.{transmit_level, level_number, interrupt}
use Rattle.sci.specs.declared.Sci.{Sci}
use Rattle.sci.specs.Calls.{Answer, done, refused, valid, direct, edges, number}
use Rattle.sci.specs.Cause.{call_cause}
use Rattle.script.specs.Number.{fault_number}
use Rattle.script.specs.Items.{script_items}
use Rattle.machine.specs.Machine.{Item, Act, acts, refuses, Run, ended, play_items}
use Rattle.player.specs.declared.Reason.{Reason}
use Rattle.player.specs.declared.Reason.TheVariants.{Unread, Call, Full}
use Rattle.player.specs.declared.Refused.{Refused}
use Rattle.player.specs.declared.Played.{Played}

-- After each command six bytes are appended to the lent log: "kind, answer (the value read, else 0), SSR, transmit level (0, 1, or 2 when not
-- driven), interrupt request (0 or 1)" (document 01), and the number of its cause (document 02, "Five")
abbrev pub record_length : ℕ
record_length = 6

abbrev pub record_of : Command → ℕ → Cause → Port → List ℕ
record_of c v cause q =
    kind c ∷ v ∷ q.ssr ∷ level_number (transmit_level q) ∷ one_if (interrupt q) ∷ cause_number cause ∷ []

-- "Number 9 now means fewer than six bytes left": every command needs a record's bytes, and so does a fault; 9 comes before either
abbrev pub room : Command → ℕ
room c = record_length

abbrev pub items : List ℕ → List (Item Command)
items s = script_items record_length s 0

-- what a run carries from command to command: the state, and its length so far, "the number of edges counted over the whole script, across resets, in 64
-- bits that wrap to zero". It is the run's own: it begins with 0 whatever the half count is
pub record Progress : Type 0 where
  pub sci : Sci
  pub length : ℕ

abbrev pub started : Sci → Progress
started s = record { sci = s; length = 0 }

abbrev pub longer : ℕ → ℕ → ℕ
longer length n = (length + n) % 2 ^ 64

-- a command is its direct call: its record, the state after it and the edges that it counted; or the refusal
abbrev pub act_of : Command → Progress → Answer → Act Progress
act_of c r (done v s) = acts (record_of c v (call_cause c r.sci) s.port) (record { sci = s; length = longer r.length (edges c r.sci) })
act_of c r (refused n offset s) = refuses n

abbrev pub act : Command → Progress → Act Progress
act c r = act_of c r (direct c r.sci)

-- "The player tests 8 once at entry." That no later call meets 8 is a law (script_laws' Runs.antt)
unfoldable pub play : Sci → List ℕ → List ℕ → Run Progress
play s script log = cond (valid s) (play_items room act (started s) (items script) log) (ended 8 0 (started s) log)

-- ---- the code's answer, in these terms
abbrev pub reason_number : Reason → ℕ
reason_number (Unread fault) = fault_number fault
reason_number (Call refusal) = number refusal
reason_number Full = 9

abbrev pub end_number : Result (Unit {0}) Refused → ℕ
end_number (Ok accepted) = 0
end_number (Err at) = reason_number at.reason

abbrev pub end_offset : Result (Unit {0}) Refused → ℕ
end_offset (Ok accepted) = 0
end_offset (Err at) = at.offset

abbrev pub reached : Played → Progress
reached r = record { sci = r.sci; length = r.length }

abbrev pub ran : Played → List ℕ → Run Progress
ran r log = record { state = reached r; number = end_number r.end; offset = end_offset r.end; used = r.used; log = log }
