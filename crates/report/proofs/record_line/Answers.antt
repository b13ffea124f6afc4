use Rattle.report.proofs.Printouts.{line_text}
use Rattle.report.proofs.record_line.Goals as goal

pub from_utf8_unchecked-requires : goal.from_utf8_unchecked-requires
from_utf8_unchecked-requires c = line_text _ c.args.bytes c.line_bytes-text.ensures
