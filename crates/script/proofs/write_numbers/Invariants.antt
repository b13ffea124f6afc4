-- The numbers so far are written.
use Rattle.std.proofs.Common.{take}
use Rattle.store.specs.Store.{Stored}
use Rattle.script.specs.Write.{encode_all}
use Rattle.script.proofs.write_numbers.Given as goal

abbrev pub invariant-loop-v : goal.invariant-loop-v
invariant-loop-v l = Stored l.at (encode_all (take l.v-index l.numbers)) l.fn.buf l.end l.buf
