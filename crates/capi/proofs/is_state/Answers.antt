use Rattle.std.proofs.Common.{rules, tests}
use Rattle.std.proofs.lemmas.Iterator.{YieldsList-from_slice, YieldsList-from_zip}
use Rattle.std.proofs.lemmas.Iterator.Search.{all_from_yields_List}
use lib.Dec.{leb}
use Rattle.capi.specs.State.{state_max}
use Rattle.capi.proofs.Fits.{fits_each}
use Rattle.capi.proofs.is_state.Goals as goal

pub returns-then-s-eq-STATE : goal.returns-then-s-eq-STATE
returns-then-s-eq-STATE c =
    fits_each state_max c.args.s.now c.all.result c.if-s-eq-STATE.true
    (all_from_yields_List (λ p. leb p.0 p.1) c.all.new.self _ _ c.all.ensures.ran (YieldsList-from_zip (YieldsList-from_slice c.args.s.now cc) (YieldsList-from_slice state_max cc)) (λ x b q k. search (rules, tests)))
