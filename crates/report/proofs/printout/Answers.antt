use Rattle.std.proofs.Common.{◌≤◌, sym, ap, arith, length, rules}
use Rattle.report.proofs.Printouts.{too_long_text, used_within, part_long, lines_long, run_printed}
use Rattle.report.proofs.printout.Goals as goal

pub returns-then-script-gt-LONGEST : goal.returns-then-script-gt-LONGEST
returns-then-script-gt-LONGEST c = rw (c.push_str.ensures.bytes, c.clear.ensures) (too_long_text c.args.script.now c.if-script-gt-LONGEST.true)

pub slice_bounds-log-end : goal.slice_bounds-log-end
slice_bounds-log-end c = omega (arith, used_within c.args.script.now c.play-played.new.log _ c.play-played.result c.play-played.ensures)

pub slice_bounds-as_chunks-end : goal.slice_bounds-as_chunks-end
slice_bounds-as_chunks-end c = sym (part_long c.args.script.now c.play-played.new.log _ c.play-played.result c.play-played.ensures (search rules))

pub push_str-requires-2 : goal.push_str-requires-2
push_str-requires-2 c =
    let used = used_within c.args.script.now c.play-played.new.log _ c.play-played.result c.play-played.ensures in
    let part = part_long c.args.script.now c.play-played.new.log _ c.play-played.result c.play-played.ensures (search rules) in
    let lines = lines_long c.as_chunks.result.0.now in
    let text = ap length (rw c.clear.ensures at c.push_records.ensures) in
    let last : length c.deref.result.now ≤ 64 = c.deref.ensures.1 in
    (omega arith, omega (arith, c.as_chunks.ensures.front_len))

pub returns : goal.returns
returns c =
    rw (c.push_str-2.ensures.bytes, c.push_records.ensures, c.clear.ensures, c.as_chunks.ensures.front, c.deref.ensures.0, c.last_line.ensures)
    (run_printed c.args.script.now c.play-played.new.log _ c.play-played.result c.play-played.ensures c.default.ensures (search rules) c.if-script-gt-LONGEST.false)
