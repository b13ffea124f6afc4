use Rattle.std.proofs.Common.{refl}
use Rattle.capi.specs.State.{baud_max, port_max, state_max}
use Rattle.capi.proofs.Fits.{part_fits}
use Rattle.capi.proofs.sci_in.Goals as goal

pub port_in-requires-clause-fits : goal.port_in-requires-clause-fits
port_in-requires-clause-fits c = part_fits state_max port_max c.args.s.now 0 53 c.requires.fits refl

pub baud_in-requires-clause-fits : goal.baud_in-requires-clause-fits
baud_in-requires-clause-fits c = part_fits state_max baud_max c.args.s.now 53 3 c.requires.fits refl
