use Rattle.std.proofs.Common.{refl}
use Rattle.capi.specs.State.{character_max, format_max}
use Rattle.capi.proofs.Fits.{part_fits}
use Rattle.capi.proofs.character_in.Goals as goal

pub format_in-format-requires-clause-fits : goal.format_in-format-requires-clause-fits
format_in-format-requires-clause-fits c = part_fits character_max format_max c.args.s.now 0 6 c.requires.fits refl
