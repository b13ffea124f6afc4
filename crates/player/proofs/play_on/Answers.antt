use Rattle.std.proofs.Common.{◌-◌, length, ap, ◌∙◌, arith}
use borrow.Rule.Slice.PartMut.{put_mid}
use Rattle.sci.specs.Calls.{valid}
use Rattle.sci.specs.Laws.{FreshPasses}
use Rattle.sci.proofs.Laws.{fresh_passes}
use Rattle.player.specs.Private.Step.{progress, play_on}
use Rattle.player.proofs.Laws.{Goes, port_goes_on, port_stands}
use Rattle.player.proofs.play_on.Goals as goal

pub invariant_of-run : goal.invariant_of-run
unfolding FreshPasses
invariant_of-run c = record { passed = ap valid c.default.ensures ∙ fresh_passes }

-- what a command that is played leaves of the run
went_on : (c : goal.In-Ok) →
    Goes (play_on c.args.tested.sci c.args.script.now c.args.log.now) c.loop-at.used c.args.script.now c.loop-at.at c.loop-at.log
    (put_mid c.loop-at.used (length c.loop-at.log - c.loop-at.used) c.loop-at.log c.step.new.log) (progress c.step.new.run) c.in-Ok.next
went_on c =
    let l = c.loop-at in
    port_goes_on (play_on c.args.tested.sci c.args.script.now c.args.log.now) (progress l.run) l.used _ l.at l.log _ _ _ l.invariant.0 c.loop-at-test.true l.invariant.2
    c.step.ensures.turn c.step.auto.log c.in-Ok.is

pub loop-at-smaller : goal.loop-at-smaller
loop-at-smaller c =
    let went = went_on c in
    omega (arith, went.later, c.loop-at-test.true)

pub loop-at-preserved : goal.loop-at-preserved
loop-at-preserved c =
    let went = went_on c in
    (went.fits, went.long ∙ c.loop-at.invariant.1, went.so_far)

pub returns-in-Err : goal.returns-in-Err
returns-in-Err c =
    let l = c.loop-at in
    port_stands (play_on c.args.tested.sci c.args.script.now c.args.log.now) (progress l.run) l.used _ l.at l.log _ _ _ l.invariant.0 c.loop-at-test.true l.invariant.2
    c.step.ensures.turn c.step.auto.log c.in-Err.is c.step.ensures.kept
