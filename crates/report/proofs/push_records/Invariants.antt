-- The lines of the first records are appended.
use Rattle.std.proofs.Common.{◌≡◌, ◌++◌, take}
use Rattle.std.specs.List.{flat_map}
use Rattle.report.specs.Printout.{first_line}
use Rattle.report.proofs.push_records.Given as goal

abbrev pub invariant-loop-bytes : goal.invariant-loop-bytes
invariant-loop-bytes l = l.out.bytes ≡ l.fn.out.bytes ++ flat_map first_line (take l.bytes-index l.records)
