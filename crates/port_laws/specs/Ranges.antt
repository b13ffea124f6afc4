-- The numbers of a port stay in the ranges of their declared types. The field test (port's Valid.antt) bounds half counts, formats, words, positions and
-- three registers; here are the others: seven registers' bytes, the held byte, the received word's value and error, the two tallies.
-- Proved in proofs/Ranges.antt.
-- Assumes nothing.
use Rattle.std.specs.Prelude.{◌≡◌, ℕ, ◌<◌, List, Option, None, Some}
use Rattle.port.specs.declared.Port.{Port}
use Rattle.port.specs.Power.{fresh}
use Rattle.command.specs.declared.Call.{Call}
use Rattle.port.specs.Calls.{done, direct, run}
use Rattle.port_laws.specs.Laws.{wrap}
use Rattle.shift.specs.declared.Rx.{Rx}

abbrev pub HeldInRange : Option ℕ → Type 0
HeldInRange None = Unit {0}
HeldInRange (Some b) = b < 256

abbrev pub WordInRange : Option Rx → Type 0
WordInRange None = Unit {0}
WordInRange (Some r) = (r.value < 256) × (r.error < 256)

-- a record of fields, so that a port with other fields changed has the same one
pub record Ranges (smr brr scr tdr ssr rdr seen : ℕ) (held : Option ℕ) (x : Option Rx) (transmitted received : ℕ) : Type 0 where
  pub smr< : smr < 256
  pub brr< : brr < 256
  pub scr< : scr < 256
  pub tdr< : tdr < 256
  pub ssr< : ssr < 256
  pub rdr< : rdr < 256
  pub seen< : seen < 256
  pub held_in : HeldInRange held
  pub word_in : WordInRange x
  pub transmitted< : transmitted < wrap
  pub received< : received < wrap

abbrev pub InRange : Port → Type 0
InRange p =
    Ranges p.smr p.brr p.scr p.tdr p.ssr p.rdr p.seen p.holding p.rx p.transmitted p.received

unfoldable pub FreshInRange : Type 0
FreshInRange = InRange fresh

-- every accepted call keeps it
unfoldable pub KeepsRanges : Type 0
KeepsRanges = (c : Call) (p q : Port) (v : ℕ) → InRange p → direct c p ≡ done v q → InRange q

-- and answers a byte
unfoldable pub AnswersAByte : Type 0
AnswersAByte = (c : Call) (p q : Port) (v : ℕ) → InRange p → direct c p ≡ done v q → v < 256

unfoldable pub GrownInRange : Type 0
GrownInRange = (cs : List Call) → InRange (run fresh cs)
