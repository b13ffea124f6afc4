use Rattle.std.proofs.Common.{refl, sym, ap, ◌∙◌}
use Rattle.command.specs.declared.Command.{Command}
use Rattle.sci.specs.Calls.{called}
use Rattle.capi.specs.Exports.{call_left}
use Rattle.sci.specs.Cause.{call_cause}
use Rattle.capi.proofs.Answers.{outcome_left, tested_call}
use Rattle.capi.proofs.sci3_call.Goals as goal

pub returns : goal.returns
returns c =
    let a = c.args in
    let s = c.in-Some.sci in
    tested_call c.in-Ok.kind a.kind a.a a.b a.state.now s s _ c.in-Some.ensures.value refl (sym c.if-not-valid.ensures) c.in-Ok.ensures
    (c.call_left.ensures ∙ outcome_left a.state.now _ _ _ _ c.call-outcome.ensures.value c.call-outcome.ensures.cause
    ∙ ap (λ (y : Command). call_left a.state.now (call_cause y s) (called y s)) c.command.ensures)
