use Rattle.std.proofs.Common.{◌∙◌}
use Rattle.player.proofs.Laws.{record_made}
use Rattle.player.proofs.record_of.Goals as goal

pub returns : goal.returns
returns c =
    record_made c.args.command c.args.outcome.value c.args.outcome.cause c.args.port c.from-pins.result _ c.level_number-level.result _ c.from-cause.result c.interrupt.result
    (c.from.ensures ∙ c.kind.ensures) c.from-pins.ensures c.level_number-level.ensures c.interrupt.ensures c.from-interrupt.ensures c.from-cause.ensures
