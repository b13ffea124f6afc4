use Rattle.std.proofs.Common.{rules}
use Rattle.frame.proofs.Choose.{cond_t, flag_t}
use Rattle.port.specs.Calls.{called}
use Rattle.port.specs.Input.{input_pins}
use Rattle.port.proofs.CallLaws.{pins_set}
use Rattle.port.proofs.Port.input_pins.Goals as goal

pub returns-clause-value : goal.returns-clause-value
unfolding called input_pins
returns-clause-value c = search (pins_set, cond_t, flag_t, rules) depth 10
