use Rattle.std.proofs.Common.{rules}
use Rattle.shift.proofs.Same.{same_character}
use Rattle.port.proofs.Steps.{word_now}
use Rattle.port.proofs.Port.character.Goals as goal

pub returns-clause-value : goal.returns-clause-value
returns-clause-value c = search (same_character, word_now, rules) depth 10
