-- The laws of the direct calls: what holds of every port, every call and every list of calls. proofs/Laws.antt has a theorem of each type below.
-- Assumes nothing.
use Rattle.std.specs.Prelude.{◌≡◌, ◌⊎◌, ℕ, zero, suc, ◌+◌, ◌%◌, ◌^◌, ◌<◌, Bool, true, false, cond, not, ◌&&◌, List, [], ◌∷◌, eqb, Option, None, Some}
use Rattle.frame.specs.Frame.{has, one_if}
use Rattle.port.specs.declared.Port.{Port}
use Rattle.shift.specs.declared.Tx.{Tx}
use Rattle.shift.specs.declared.Tx.TheVariants.{Off, Blocked, Mark, Start, Data, Tail}
use Rattle.shift.specs.declared.Rx.{Rx}
use Rattle.shift.specs.declared.Sampled.{Sampled}
use Rattle.shift.specs.declared.Sampled.TheVariants.{Dropped, Onward, Whole}
use Rattle.port.specs.Fields.{with_input_clock}
use Rattle.port.specs.Baud.{format_of, internal, edge_counts}
use Rattle.shift.specs.Due.{due_now}
use Rattle.shift.specs.Receiver.{sample, last_bit}
use Rattle.port.specs.Receiver.{input_level, error_free, complete_receive}
use Rattle.port.specs.Sender.{finish_tail}
use Rattle.port.specs.Half.{half_step}
use Rattle.port.specs.Power.{fresh}
use Rattle.port.specs.Input.{receive_input, external_edge, pins_change}
use Rattle.port.specs.Valid.{valid}
use Rattle.command.specs.declared.Call.{Call}
use Rattle.command.specs.declared.Call.TheVariants.{Read, Write, Wait, Line, Pins, Power, Inside}
use Rattle.port.specs.Calls.{Answer, done, refused, after, bit, called, direct, run}
use Rattle.shift.specs.declared.Character.{Character}

-- ---- the field test
unfoldable pub FreshPasses : Type 0
FreshPasses = valid fresh ≡ true

-- every accepted call keeps it, from any port that passes
unfoldable pub KeepsFieldTest : Type 0
KeepsFieldTest = (c : Call) (p q : Port) (v : ℕ) → valid p ≡ true → called c p ≡ done v q → valid q ≡ true

-- a direct call tests it first, so what an accepted one leaves passes, whatever the port was
unfoldable pub AcceptedPasses : Type 0
AcceptedPasses = (c : Call) (p q : Port) (v : ℕ) → direct c p ≡ done v q → valid q ≡ true

-- a port grown from a fresh one by any direct calls passes, so none of its calls is refused by 8
unfoldable pub GrownPasses : Type 0
GrownPasses = (cs : List Call) → valid (run fresh cs) ≡ true

unfoldable pub NeverRefusedBy8 : Type 0
NeverRefusedBy8 = (cs : List Call) (c : Call) (offset : ℕ) (q : Port) → direct c (run fresh cs) ≡ refused 8 offset q → ⊥

-- ---- refusals
abbrev pub OneOf : List ℕ → ℕ → Type 0
OneOf [] n = ⊥
OneOf (m ∷ ms) n = (n ≡ m) ⊎ OneOf ms n

-- a refused call leaves the port as it was, at offset 0, with one of the numbers of the direct calls' tests
unfoldable pub RefusedStands : Type 0
RefusedStands =
    (c : Call) (p q : Port) (n offset : ℕ) → direct c p ≡ refused n offset q → (q ≡ p) × (offset ≡ 0) × OneOf (8 ∷ 2 ∷ 1 ∷ 3 ∷ 4 ∷ []) n

-- ---- the two tallies: words received and words sent, modulo 2 to the 64th
abbrev pub wrap : ℕ
wrap = 2 ^ 64

-- one more, or as it was
abbrev pub tally : Bool → ℕ → ℕ
tally b t = cond b (suc t % wrap) t

-- n more
unfoldable pub grown : ℕ → ℕ → ℕ
grown zero t = t
grown (suc n) t = suc (grown n t) % wrap

unfoldable pub TalliesWrap : Type 0
TalliesWrap = (n t : ℕ) → t < wrap → grown n t ≡ (t + n) % wrap

-- a whole word is counted exactly when it has no error and RDRF is clear; the end of a tail always
unfoldable pub WholeWordCounts : Type 0
WholeWordCounts =
    (p : Port) (r : Rx) → let q = complete_receive p r in
    (q.received ≡ tally (eqb r.error 0 && not (has p.ssr 0x40)) p.received) × (q.transmitted ≡ p.transmitted)

unfoldable pub TailEndCounts : Type 0
TailEndCounts =
    (l : Option Character) (p : Port) → let q = finish_tail l p in (q.transmitted ≡ suc p.transmitted % wrap) × (q.received ≡ p.received)

-- the next half or edge ends the tail in the sender: at its due half, and without one at a rising edge of the clock of clocked form
abbrev pub finishes_on : Tx → Bool → ℕ → Bool
finishes_on Off rising half = false
finishes_on (Blocked ch) rising half = false
finishes_on (Mark next) rising half = false
finishes_on (Start ch next) rising half = false
finishes_on (Data ch cell next) rising half = false
finishes_on (Tail l None) rising half = rising
finishes_on (Tail l (Some n)) rising half = eqb n half

abbrev pub finishes : Bool → Port → Bool
finishes rising p = finishes_on p.tx rising (suc p.half)

-- it makes the word in the receiver whole, without error: a start-stop word by the sample that is due; a clocked one by its eighth bit, at a rising edge,
-- RE set and no error flag standing
abbrev pub clean : Sampled → Bool
clean Dropped = false
clean (Onward r) = false
clean (Whole r) = eqb r.error 0

abbrev pub completes_on : Option Rx → Bool → Port → Bool
completes_on None rising p = false
completes_on (Some r) rising p =
    cond r.format.synchronous (rising && (has p.scr 0x10 && (error_free p && (last_bit r.position && eqb r.error 0))))
    (due_now r.next (suc p.half) && clean (sample (format_of p) (input_level p) (suc p.half) r))

-- and RDRF is clear
abbrev pub receives : Bool → Port → Bool
receives rising p = completes_on p.rx rising p && not (has p.ssr 0x40)

-- the clock of clocked form rises at the next half
abbrev pub rises : Port → Bool
rises p = due_now p.sync_next (suc p.half) && not p.sck

-- a half counts so, and so does an edge of the clock pin
unfoldable pub HalfCounts : Type 0
HalfCounts =
    (p : Port) → valid p ≡ true → internal p ≡ true
    → ((half_step p).received ≡ tally (receives (rises p) p) p.received) × ((half_step p).transmitted ≡ tally (finishes (rises p) p) p.transmitted)

unfoldable pub PinEdgeCounts : Type 0
PinEdgeCounts =
    (level : Bool) (p : Port) → valid p ≡ true → let q = external_edge level p in
    (q.received ≡ tally (edge_counts level p && receives level p) p.received) × (q.transmitted ≡ tally (edge_counts level p && finishes level p) p.transmitted)

-- how often `f`, which is `receives` or `finishes`, holds in n halves; in a call; in a list of direct calls
unfoldable pub in_halves : (Bool → Port → Bool) → ℕ → Port → ℕ
in_halves f zero p = 0
in_halves f (suc n) p = one_if (f (rises p) p) + in_halves f n (half_step p)

-- with both pins set, before an edge is counted
abbrev pub pins_set : Bool → Bool → Port → Port
pins_set clock line p = with_input_clock (receive_input line p) clock

abbrev pub in_call : (Bool → Port → Bool) → Call → Answer → Port → ℕ
in_call f c (refused n offset q) p = 0
in_call f (Read a) (done v q) p = 0
in_call f (Write a x) (done v q) p = 0
in_call f (Wait n) (done v q) p = cond (internal p) (in_halves f n p) 0
in_call f (Line line) (done v q) p = 0
in_call f (Pins clock line) (done v q) p =
    let w = pins_set (bit clock) (bit line) p in
    one_if (pins_change (bit clock) (bit line) p && (edge_counts (bit clock) w && f (bit clock) w))
in_call f (Power b) (done v q) p = 0
in_call f Inside (done v q) p = 0

unfoldable pub in_calls : (Bool → Port → Bool) → Port → List Call → ℕ
in_calls f p [] = 0
in_calls f p (c ∷ cs) = in_call f c (direct c p) p + in_calls f (after (direct c p)) cs

-- no call changes a tally but by these halves and edges
unfoldable pub CallCounts : Type 0
CallCounts =
    (c : Call) (p : Port) → let q = after (direct c p) in
    (q.received ≡ grown (in_call receives c (direct c p) p) p.received) × (q.transmitted ≡ grown (in_call finishes c (direct c p) p) p.transmitted)

-- so on a port grown from a fresh one they are the numbers of such words, modulo 2 to the 64th
unfoldable pub TalliesCount : Type 0
TalliesCount =
    (cs : List Call) → let q = run fresh cs in
    (q.received ≡ in_calls receives fresh cs % wrap) × (q.transmitted ≡ in_calls finishes fresh cs % wrap)
