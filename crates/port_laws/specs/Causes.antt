-- Laws of the causes (port's Cause.antt): they agree with the manual's table of receive errors, and a call answers none exactly where no word is completed
-- in it. Proved in proofs/Causes.antt.
-- Assumes nothing.
use Rattle.std.specs.Prelude.{◌≡◌, ℕ, suc, ◌+◌, Bool, true, false, cond, not, ◌&&◌, List, [], ◌∷◌, eqb, Option, None, Some}
use Rattle.frame.specs.Frame.{has}
use Rattle.command.specs.declared.Call.{Call}
use Rattle.command.specs.declared.Call.TheVariants.{Read, Write, Line, Power, Inside}
use Rattle.shift.specs.declared.Rx.{Rx}
use Rattle.shift.specs.declared.Sampled.{Sampled}
use Rattle.shift.specs.declared.Sampled.TheVariants.{Dropped, Onward, Whole}
use Rattle.shift.specs.declared.cause.Cause.{Cause}
use Rattle.shift.specs.declared.cause.Cause.TheVariants.{NoWord, Taken, Overrun}
use Rattle.shift.specs.Cause.{cause_number}
use Rattle.shift.specs.Due.{due_now}
use Rattle.shift.specs.Receiver.{sample, last_bit}
use Rattle.port.specs.declared.Port.{Port}
use Rattle.port.specs.Baud.{format_of, internal, edge_counts}
use Rattle.port.specs.Receiver.{input_level, error_free}
use Rattle.port.specs.Valid.{valid}
use Rattle.port.specs.Calls.{done, direct}
use Rattle.port.specs.Cause.{complete_cause, half_cause, external_cause, call_cause}
use Rattle.port_laws.specs.Edges.{edges}
use Rattle.port_laws.specs.Laws.{rises, in_call}
use Rattle.port_laws.specs.ReceiveErrors.{Row, row, table, errors}

-- ---- the receive error table
-- the number that a row asks for: from 1 on where RDR takes the word and from 5 on with overrun, one more for parity and two for framing
abbrev pub number_of : Row → ℕ
number_of (row rdrf overrun framing parity taken) = cond overrun 5 1 + (cond parity 1 0 + cond framing 2 0)

-- a port with RDRF as in the row, whatever its error flags, and a word with the row's framing and parity errors
abbrev pub Tells : Row → Type 0
Tells (row rdrf overrun framing parity taken) =
    (p : Port) (r : Rx) → has p.ssr 0x40 ≡ rdrf → r.error ≡ errors framing parity
    → cause_number (complete_cause p r) ≡ number_of (row rdrf overrun framing parity taken)

abbrev pub EachTells : List Row → Type 0
EachTells [] = Unit {0}
EachTells (r ∷ rs) = Tells r × EachTells rs

unfoldable pub CausesAsTheManual : Type 0
CausesAsTheManual = EachTells table

-- ---- a word is completed
-- the next half or edge makes the word in the receiver whole, with errors or without: a start-stop word by the sample that is due; a clocked one by its eighth
-- bit, at a rising edge, RE set and no error flag standing
abbrev pub whole : Sampled → Bool
whole Dropped = false
whole (Onward r) = false
whole (Whole r) = true

abbrev pub ends_on : Option Rx → Bool → Port → Bool
ends_on None rising p = false
ends_on (Some r) rising p =
    cond r.format.synchronous (rising && (has p.scr 0x10 && (error_free p && last_bit r.position)))
    (due_now r.next (suc p.half) && whole (sample (format_of p) (input_level p) (suc p.half) r))

abbrev pub ends : Bool → Port → Bool
ends rising p = ends_on p.rx rising p

-- the cause tells of a word
abbrev pub of_word : Cause → Bool
of_word NoWord = false
of_word (Taken e) = true
of_word (Overrun e) = true

unfoldable pub HalfTells : Type 0
HalfTells = (p : Port) → valid p ≡ true → internal p ≡ true → of_word (half_cause p) ≡ ends (rises p) p

unfoldable pub PinEdgeTells : Type 0
PinEdgeTells = (level : Bool) (p : Port) → valid p ≡ true → of_word (external_cause level p) ≡ (edge_counts level p && ends level p)

-- an accepted call: `in_call` counts the words that are completed in it
unfoldable pub CallTells : Type 0
CallTells = (c : Call) (p q : Port) (v : ℕ) → direct c p ≡ done v q → of_word (call_cause c p) ≡ not (eqb (in_call ends c (direct c p) p) 0)

-- ---- where there is never a cause
-- a call that counts no edge
unfoldable pub NoEdgeNoCause : Type 0
NoEdgeNoCause = (c : Call) (p : Port) → edges c p ≡ 0 → call_cause c p ≡ NoWord

-- so kinds 1, 2, 4, 6 and 7
unfoldable pub FiveKindsTellNone : Type 0
FiveKindsTellNone =
    (p : Port) (a v : ℕ)
    → (call_cause (Read a) p ≡ NoWord) × (call_cause (Write a v) p ≡ NoWord) × (call_cause (Line a) p ≡ NoWord) × (call_cause (Power a) p ≡ NoWord)
    × (call_cause Inside p ≡ NoWord)
