use Rattle.std.proofs.Common.{refl, rules}
use Rattle.capi.specs.State.{rx_max, word_max}
use Rattle.capi.proofs.Fits.{part_fits}
use Rattle.capi.proofs.rx_in.Goals as goal

pub then-requires : goal.then-requires
then-requires c = λ t k vs v r u l. (search rules, part_fits rx_max word_max c.args.s.now 1 12 c.requires.fits refl)
