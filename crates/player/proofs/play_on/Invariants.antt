-- The whole run is the records so far, and then the run of the items from here on. The measure is what is left of the script.
use Rattle.std.proofs.Common.{◌≡◌, ◌≤◌, ◌-◌, length, take, drop}
use Rattle.machine.specs.Machine.{recorded}
use Rattle.player.specs.Private.Step.{progress, play_on}
use Rattle.player.proofs.Laws.{from_at}
use Rattle.player.proofs.play_on.Given as goal

abbrev pub invariant-loop-at : goal.invariant-loop-at
invariant-loop-at l =
    (l.used ≤ length l.log) × (length l.log ≡ length l.fn.log)
    × (play_on l.fn.tested.sci l.script l.fn.log ≡ recorded (take l.used l.log) (from_at (progress l.run) l.script l.at (drop l.used l.log)))

abbrev pub decreases-loop-at : goal.decreases-loop-at
decreases-loop-at l = length l.script - l.at
