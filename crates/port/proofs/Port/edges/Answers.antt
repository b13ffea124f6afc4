use Rattle.std.proofs.Common.{◌∙◌, refl, arith}
use Rattle.port.specs.Private.Skip.{edges_cause}
use Rattle.port.proofs.Causes.{none_followed}
use Rattle.port.proofs.Skip.{goes_in, planned_bounds, edges_end, causes_end, counted_goes, goes_on, plan_on, edges_on, causes_on}
use Rattle.port.proofs.Port.edges.Goals as goal

pub loop-next-init : goal.loop-next-init
loop-next-init c =
    let a = c.args in
    (refl, goes_in a.pin a.n a.self.now (c.requires.0, c.requires.1, c.requires.2), c.requires.3, none_followed (edges_cause a.pin a.n a.self.now))

pub counted_by-requires : goal.counted_by-requires
counted_by-requires c = omega (arith, c.loop-next-test.true, c.loop-next.invariant.1.1)

pub advance-last-requires : goal.advance-last-requires
advance-last-requires c =
    let v = c.loop-next in
    counted_goes c.args.pin v.self v.left v.next v.invariant.1 v.invariant.2 c.loop-next-test.true c.counted_by.new.self c.counted_by.new.self c.counted_by.ensures

pub loop-next-smaller : goal.loop-next-smaller
loop-next-smaller c =
    let v = c.loop-next in
    let b = planned_bounds c.args.pin v.self v.left v.next v.invariant.1 v.invariant.2 in
    omega (arith, b.0, c.loop-next-test.true)

pub loop-next-preserved : goal.loop-next-preserved
loop-next-preserved c =
    let a = c.args in
    let v = c.loop-next in
    let q = c.counted_by in
    let r = c.advance-last in (
      edges_on a.pin v.self v.left v.next v.invariant.1 v.invariant.2 c.loop-next-test.true r.new.self q.new.self q.ensures a.n a.self.now r.ensures.port v.invariant.0,
      goes_on a.pin v.self v.left v.next v.invariant.1 v.invariant.2 c.loop-next-test.true r.new.self q.new.self q.ensures r.ensures.port,
      plan_on a.pin v.self v.left v.next v.invariant.1 v.invariant.2 c.loop-next-test.true r.new.self q.new.self q.ensures c.deadline-next.result c.deadline-next.ensures,
      causes_on a.pin v.self v.left v.next v.invariant.1 v.invariant.2 c.loop-next-test.true r.new.self q.new.self q.ensures a.n a.self.now v.cause r.result c.followed_by-cause.result r.ensures.port r.ensures.cause c.followed_by-cause.ensures v.invariant.3,
    )

pub returns-clause-port : goal.returns-clause-port
returns-clause-port c =
    let v = c.loop-next in
    edges_end c.args.pin v.self v.left v.next v.invariant.1 v.invariant.2 c.counted_by-2.new.self (omega (arith, c.loop-next-test.false)) c.counted_by-2.ensures
    ∙ v.invariant.0

pub returns-clause-cause : goal.returns-clause-cause
returns-clause-cause c =
    let v = c.loop-next in
    causes_end c.args.pin v.self v.left v.next v.invariant.1 v.invariant.2 v.cause (omega (arith, c.loop-next-test.false)) ∙ v.invariant.3
