-- What the private steps of a half, of a clock pin's edge and of a store compute, where document 01 has no name for it: among it, how halves on which
-- nothing happens are skipped (sci.rs: `deadline` and `step_to`). No public contract cites this file; proofs/Skip.antt proves that it makes of a port what
-- the halves of Half.antt make of it one by one.
-- Assumes nothing.
use Rattle.std.specs.Prelude.{◌≡◌, ℕ, zero, suc, ◌+◌, ◌%◌, Bool, false, cond, not, ◌&&◌, ◌||◌, ◌==◌, Option, None, Some, is_none}
use Rattle.frame.specs.Frame.{differ}
use Rattle.shift.specs.Due.{within}
use Rattle.shift.specs.Sender.{tx_next}
use Rattle.shift.specs.Receiver.{rx_next}
use Rattle.port.specs.declared.Port.{Port}
use Rattle.port.specs.Fields.{with_half, with_high, with_edge}
use Rattle.port.specs.Baud.{external, counted}
use Rattle.port.specs.Receiver.{arms}
use Rattle.port.specs.Clocked.{sync_needed, with_clock, refresh_sync_clock, sync_edge}
use Rattle.port.specs.Half.{process_basic, clocked_edge, halves}
use Rattle.shift.specs.declared.Rx.{Rx}
use Rattle.shift.specs.declared.cause.Cause.{Cause}
use Rattle.shift.specs.declared.cause.Cause.TheVariants.{NoWord}
use Rattle.shift.specs.Cause.{followed_by}
use Rattle.port.specs.Cause.{basic_cause, edge_cause, clocked_cause, halves_cause}

-- a word begins at the next half, whatever is due
abbrev pub arms_on : Option Rx → Port → Bool
arms_on None p = arms p
arms_on (Some r) p = false

-- on the internal clock, the clock of clocked form is as `refresh_sync_clock` leaves it
unfoldable pub clock_fresh : Port → Bool
clock_fresh p = cond (sync_needed p) (not (is_none p.sync_next)) (is_none p.sync_next && p.sck)

-- the halves up to the next one that may do more than count, at most left: 1 if a word begins or the clock is to be planned, else up to what is due first
unfoldable pub deadline : ℕ → Port → ℕ
deadline left p =
    cond (arms_on p.rx p) 1
    (cond (clock_fresh p)
    (within p.sync_next p.half (within (rx_next p.rx) p.half (within (tx_next p.tx) p.half left)))
    1)

-- k halves counted at once
unfoldable pub counted_by : ℕ → Port → Port
counted_by k p = with_edge (with_high (with_half p (p.half + k)) (differ p.high (not (k % 2 == 0)))) (not (k == 0) || p.edge)

-- ---- an edge of the basic clock, counted: a half of the internal one, or an edge of the clock pin to a level, `pin`
-- the port's own clock toggles; an edge of the pin leaves it as it is
abbrev pub toggled : Option Bool → Port → Port
toggled None p = with_clock p None (not p.sck)
toggled (Some level) p = p

-- the edge of clocked form's clock that comes with it, if one does: the pin's, or the port's own at its due half
abbrev pub edge_of : Option Bool → Port → Port
edge_of None p = clocked_edge p
edge_of (Some level) p = sync_edge level p

-- all its work
abbrev pub edge_work : Option Bool → Port → Port
edge_work pin p = refresh_sync_clock (edge_of pin (process_basic p))

-- and the causes of these
abbrev pub edge_of_cause : Option Bool → Port → Cause
edge_of_cause None p = clocked_cause p
edge_of_cause (Some level) p = edge_cause level p

abbrev pub work_cause : Option Bool → Port → Cause
work_cause pin p = followed_by (basic_cause p) (edge_of_cause pin (process_basic p))

-- one edge of the pin, or any number of the internal clock's
abbrev pub ClockGives : Option Bool → ℕ → Port → Type 0
ClockGives None n p = external p ≡ false
ClockGives (Some level) n p = n ≡ 1

-- the first of n edges at which something may happen: that of the pin, or of n halves the one up to which `deadline` counts, which may be after them
abbrev pub Planned : Option Bool → ℕ → ℕ → Port → Type 0
Planned None n first p = first ≡ deadline (n + 1) p
Planned (Some level) n first p = first ≡ 1

abbrev pub edges : Option Bool → ℕ → Port → Port
edges None n p = halves n p
edges (Some level) zero p = p
edges (Some level) (suc n) p = edge_work (Some level) (counted p)

abbrev pub edges_cause : Option Bool → ℕ → Port → Cause
edges_cause None n p = halves_cause n p
edges_cause (Some level) zero p = NoWord
edges_cause (Some level) (suc n) p = work_cause (Some level) (counted p)
