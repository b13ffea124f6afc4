-- The number is the groups so far, and then what the bytes from here on make.
use Rattle.script.proofs.Laws.{Reading}
use Rattle.script.proofs.read_number.Given as goal

abbrev pub invariant-loop-i : goal.invariant-loop-i
invariant-loop-i l = Reading l.s l.at l.value l.scale l.more l.i
