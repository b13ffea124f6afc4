-- Ports that fall short, each built from the real one, and that the claim (specs/Recovery.antt) is false of each: proved in proofs/NearMisses.antt.
-- Assumes nothing.
use Rattle.std.specs.Prelude.{ℕ, zero, suc, cond, not, ◌&&◌, Option, None, Some}
use Rattle.port.specs.declared.Port.{Port}
use Rattle.frame.specs.Frame.{one_if}
use Rattle.port.specs.Baud.{counted, internal}
use Rattle.port.specs.Calls.{Answer, called, direct, done, refused}
use Rattle.command.specs.declared.Call.{Call}
use Rattle.command.specs.declared.Call.TheVariants.{Wait, Inside, Read, Line, Pins, Power, Write}
use Rattle.port.specs.Fields.{with_rdr, with_received, with_rx}
use Rattle.port.specs.Half.{half_step}
use Rattle.recovery.specs.Recovery.{Recovers, completes}
use Rattle.shift.specs.declared.Rx.{Rx}

-- ---- ports with another half
unfoldable pub repeat : (Port → Port) → ℕ → Port → Port
repeat step zero p = p
repeat step (suc n) p = repeat step n (step p)

-- a wait's answer, where halves passed: these instead
abbrev pub waits_by : (Port → Port) → ℕ → Answer → Port → Answer
waits_by step n (done v q) p = done v (cond (internal p) (repeat step n p) q)
waits_by step n (refused k offset q) p = refused k offset q

-- a port with `step` for what it does at a half
unfoldable pub halves_by : (Call → Port → Answer) → (Port → Port) → Call → Port → Answer
halves_by port step (Wait n) p = waits_by step n (port (Wait n) p) p
halves_by port step (Read a) p = port (Read a) p
halves_by port step (Write a v) p = port (Write a v) p
halves_by port step (Line b) p = port (Line b) p
halves_by port step (Pins c b) p = port (Pins c b) p
halves_by port step (Power b) p = port (Power b) p
halves_by port step Inside p = port Inside p

-- it does nothing at a half: it only counts. With the field test (test 8), and without
abbrev pub nothing_at_a_half : Call → Port → Answer
nothing_at_a_half = halves_by direct counted

abbrev pub nothing_untested : Call → Port → Answer
nothing_untested = halves_by called counted

-- every half counts two, or none
abbrev pub counts_two : Call → Port → Answer
counts_two = halves_by direct (λ p. half_step (half_step p))

abbrev pub counts_none : Call → Port → Answer
counts_none = halves_by direct (λ p. p)

-- two completions for one word: the first, which falls on a half of low phase, leaves the word in the receiver for one half more
abbrev pub one_half_more : Option Rx → ℕ → Option Rx
one_half_more None h = None
one_half_more (Some r) h =
    Some (record { format = r.format; value = r.value; position = r.position; parity = r.parity; error = r.error; next = Some (suc h) })

abbrev pub completes_twice : Port → Port
completes_twice p = cond (completes p && not p.high) (with_rx (half_step p) (one_half_more p.rx (suc p.half))) (half_step p)

abbrev pub two_completions : Call → Port → Answer
two_completions = halves_by direct completes_twice

-- ---- ports with another answer
abbrev pub answers_by : (Port → Port) → Answer → Answer
answers_by f (done v q) = done v (f q)
answers_by f (refused n offset q) = refused n offset q

-- deaf: kinds 4 and 5 leave the line as it was
unfoldable pub deaf : Call → Port → Answer
deaf (Line b) p = direct (Line (one_if p.input)) p
deaf (Pins c b) p = direct (Pins c (one_if p.input)) p
deaf (Read a) p = direct (Read a) p
deaf (Write a v) p = direct (Write a v) p
deaf (Wait n) p = direct (Wait n) p
deaf (Power b) p = direct (Power b) p
deaf Inside p = direct Inside p

-- RDR never varies; the tally of words received stands
unfoldable pub rdr_never_varies : Call → Port → Answer
rdr_never_varies c p = answers_by (λ q. with_rdr q p.rdr) (direct c p)

unfoldable pub tally_stands : Call → Port → Answer
tally_stands c p = answers_by (λ q. with_received q p.received) (direct c p)

-- ---- the claim is false of each
pub record NearMisses : Type 0 where
  pub not_nothing_at_a_half : Recovers nothing_at_a_half → ⊥
  pub not_nothing_untested : Recovers nothing_untested → ⊥
  pub not_counts_two : Recovers counts_two → ⊥
  pub not_counts_none : Recovers counts_none → ⊥
  pub not_two_completions : Recovers two_completions → ⊥
  pub not_deaf : Recovers deaf → ⊥
  pub not_rdr_never_varies : Recovers rdr_never_varies → ⊥
  pub not_tally_stands : Recovers tally_stands → ⊥
