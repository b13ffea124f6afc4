use Rattle.std.proofs.Common.{refl}
use Rattle.capi.specs.State.{port_max, rx_max, tx_max}
use Rattle.capi.proofs.Fits.{part_fits, number_u8, number_u32}
use Rattle.capi.proofs.port_in.Goals as goal

pub tx_in-tx-requires-clause-fits : goal.tx_in-tx-requires-clause-fits
tx_in-tx-requires-clause-fits c = part_fits port_max tx_max c.args.s.now 19 12 c.requires.fits refl

pub rx_in-rx-requires-clause-fits : goal.rx_in-rx-requires-clause-fits
rx_in-rx-requires-clause-fits c = part_fits port_max rx_max c.args.s.now 31 13 c.requires.fits refl

pub map-holding-requires : goal.map-holding-requires
map-holding-requires c = λ x e v r. number_u8 port_max c.args.s.now 17 x _ e c.number_in.ensures c.requires.fits refl

pub map-sync_next-requires : goal.map-sync_next-requires
map-sync_next-requires c = λ x e v r. number_u32 port_max c.args.s.now 49 x _ e c.number_in-2.ensures c.requires.fits refl
