use Rattle.std.proofs.Common.{sym}
use Rattle.std.proofs.lemmas.Result.{err_from_is_err_and}
use Rattle.player.specs.Private.Step.{progress}
use Rattle.player.proofs.Laws.{step_refused, step_onward}
use Rattle.player.proofs.step.Goals as goal

pub returns-in_err-outcome-clause-turn : goal.returns-in_err-outcome-clause-turn
returns-in_err-outcome-clause-turn c =
    let a = c.args in
    let p = err_from_is_err_and c.from_residual-in_err-outcome.result c.from_residual-in_err-outcome.ensures.1 in
    rw (p.1, p.2)
    (step_refused (progress a.run.now) a.script.now a.at a.log.now _ _ _ _ a.run.now.tested.passed c.if-log-lt-RECORD.false
    (sym c.in_ok-command.ensures) c.in_err-outcome.ensures.value)

pub returns-clause-turn : goal.returns-clause-turn
returns-clause-turn c =
    let a = c.args in
    step_onward (progress a.run.now) a.script.now a.at a.log.now _ _ _ _ _ _ _ a.run.now.tested.passed c.if-log-lt-RECORD.false
    (sym c.in_ok-command.ensures) c.in_ok-outcome.ensures.value c.in_ok-outcome.ensures.cause
    c.longer-run.ensures c.write_record.ensures
