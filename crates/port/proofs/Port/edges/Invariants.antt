-- The edges that are left make of the port what all of them make of the first one; and their cause, after that of the ones before, is the cause of all.
use Rattle.std.proofs.Common.{◌≡◌}
use Rattle.shift.specs.Cause.{followed_by}
use Rattle.port.specs.Private.Skip.{Planned, edges, edges_cause}
use Rattle.port.proofs.Skip.{Goes}
use Rattle.port.proofs.Port.edges.Given as goal

abbrev pub invariant-loop-next : goal.invariant-loop-next
invariant-loop-next l = (edges l.pin l.left l.self ≡ edges l.pin l.n l.fn.self) × Goes l.pin l.left l.self × Planned l.pin l.left l.next l.self
    × (followed_by l.cause (edges_cause l.pin l.left l.self) ≡ edges_cause l.pin l.n l.fn.self)

abbrev pub decreases-loop-next : goal.decreases-loop-next
decreases-loop-next l = l.left
