use Rattle.std.proofs.Common.{refl}
use Rattle.capi.specs.State.{character_max, tx_max}
use Rattle.capi.proofs.Fits.{part_fits, number_u32}
use Rattle.capi.proofs.tx_in.Goals as goal

pub character_in-character-requires-clause-fits : goal.character_in-character-requires-clause-fits
character_in-character-requires-clause-fits c = part_fits tx_max character_max c.args.s.now 1 7 c.requires.fits refl

pub map-next-requires : goal.map-next-requires
map-next-requires c = λ x e v r. number_u32 tx_max c.args.s.now 9 x _ e c.number_in.ensures c.requires.fits refl
