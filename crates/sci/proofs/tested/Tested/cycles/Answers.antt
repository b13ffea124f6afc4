-- The accepted answer: the port's, and the counter's numbers.
use Rattle.std.proofs.Common.{arith}
use Rattle.sci.proofs.Wait.{called_waits, at_edge_is}
use Rattle.sci.proofs.tested.Tested.cycles.Goals as goal

pub returns-clause-value : goal.returns-clause-value
returns-clause-value c = grind (arith, called_waits, at_edge_is)
