use Rattle.std.proofs.Common.{arith}
use Rattle.script.proofs.Laws.{Group, read_group, read_on}
use Rattle.script.proofs.read_number.Goals as goal

-- where another byte may follow
group_read : (c : goal.Else-b-lt128) → Group c.loop-i.value c.loop-i.scale c.loop-i.more c.from-b.result
group_read c =
    read_group _ _ _ _ _ _ c.loop-i.invariant c.loop-i-test.true _ c.from-b.ensures _ c.breaks.ensures c.if-breaks.false c.if-b-lt128.false c.type_inv.s

pub overflow_mul-value : goal.overflow_mul-value
overflow_mul-value c =
    let g = group_read c in
    omega (arith, g.below, g.scaled)

pub overflow_add-value : goal.overflow_add-value
overflow_add-value c =
    let g = group_read c in
    omega (arith, g.below, g.scaled)

pub overflow_mul-scale : goal.overflow_mul-scale
overflow_mul-scale c =
    let g = group_read c in
    omega (arith, g.scaled)

pub loop-i-preserved : goal.loop-i-preserved
loop-i-preserved c =
    read_on _ _ _ _ _ _ c.loop-i.invariant c.loop-i-test.true _ c.from-b.ensures _ c.breaks.ensures c.if-breaks.false c.if-b-lt128.false c.type_inv.s
