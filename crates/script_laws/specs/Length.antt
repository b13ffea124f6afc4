-- The length of a run is the number of edges that its commands' calls on the port count (port_laws' Edges.antt: an accepted call that brings no reset moves the
-- half count by exactly its edges), from 0 on whatever the port's half count is, modulo 2 to the 64th. So a script without a reset has as length what the half count grew
-- by, and the lengths of a script's parts add up.
-- Proved in proofs/Length.antt.
-- Assumes nothing.
use Rattle.std.specs.Prelude.{◌≡◌, ℕ, ◌+◌, ◌%◌, ◌^◌, cond, List, ◌++◌, length, take, drop, eqb}
use Rattle.machine.specs.Machine.{Run}
use Rattle.port_laws.specs.Edges.{edges_of, NoReset}
use Rattle.port_laws.specs.Ranges.{InRange}
use Rattle.sci.specs.declared.Sci.{Sci}
use Rattle.player.specs.Play.{Progress, play}
use Rattle.sci_laws.specs.Translate.{all_calls}
use Rattle.script_laws.specs.Runs.{commands_played}

-- ---- edges
-- of the commands that were played: at a refusal those of the commands before
abbrev pub LengthIsEdges : Type 0
LengthIsEdges =
    (s : Sci) (b log : List ℕ) → let r = play s b log in r.state.length ≡ edges_of s.port (all_calls s (commands_played b r)) % 2 ^ 64

-- so without a reset the half count grows by the length: no modulo, since the half count has its limit
abbrev pub LengthIsGrowth : Type 0
LengthIsGrowth =
    (s : Sci) (b log : List ℕ) → let r = play s b log in
    NoReset s.port (all_calls s (commands_played b r)) → r.state.sci.port.half ≡ s.port.half + r.state.length

-- ---- a script in two parts
-- the run r of the first part and the run q of the second, as one
abbrev pub both : List ℕ → Run Progress → Run Progress → Run Progress
both first r q =
    record {
      state = record { sci = q.state.sci; length = (r.state.length + q.state.length) % 2 ^ 64 };
      number = q.number;
      offset = cond (eqb q.number 0) 0 (length first + q.offset);
      used = r.used + q.used;
      log = take r.used r.log ++ q.log;
    }

-- the second part is played on the state and on the rest of the log that the first left, where that was accepted
abbrev pub PlayedInParts : Type 0
PlayedInParts =
    (s : Sci) (first second log : List ℕ) → let r = play s first log in
    InRange s.port → r.number ≡ 0 → play s (first ++ second) log ≡ both first r (play r.state.sci second (drop r.used r.log))

abbrev pub LengthsAdd : Type 0
LengthsAdd =
    (s : Sci) (first second log : List ℕ) → let r = play s first log in
    InRange s.port → r.number ≡ 0
    → (play s (first ++ second) log).state.length ≡ (r.state.length + (play r.state.sci second (drop r.used r.log)).state.length) % 2 ^ 64
