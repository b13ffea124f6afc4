use Rattle.std.proofs.Common.{refl}
use Rattle.capi.specs.State.{format_max, word_max}
use Rattle.capi.proofs.Fits.{part_fits, number_u32}
use Rattle.capi.proofs.word_in.Goals as goal

pub format_in-format-requires-clause-fits : goal.format_in-format-requires-clause-fits
format_in-format-requires-clause-fits c = part_fits word_max format_max c.args.s.now 0 6 c.requires.fits refl

pub map-next-requires : goal.map-next-requires
map-next-requires c = λ x e v r. number_u32 word_max c.args.s.now 10 x _ e c.number_in.ensures c.requires.fits refl
