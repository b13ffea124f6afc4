-- Document 01's worked cases, computed: direct calls from a fresh port, and what follows. Each table has one theorem, by computation. Its printed run is in
-- crates/port/specs/Facts.antt.
-- Assumes nothing.
use Rattle.std.specs.Prelude.{◌≡◌, refl, ℕ, ◌+◌, ◌-◌, Bool, true, false, cond, ◌&&◌, List, [], ◌∷◌, ◌++◌, eqb, pos, None, Some}
use Rattle.frame.specs.Frame.{format}
use Rattle.port.specs.declared.Port.{Port}
use Rattle.shift.specs.declared.Tx.{Tx}
use Rattle.shift.specs.declared.Tx.TheVariants.{Off, Blocked, Mark, Start, Data, Tail}
use Rattle.port.specs.Fields.{with_half, with_tx, with_rx, with_sync_next, with_transmitted, with_received}
use Rattle.port.specs.Power.{fresh}
use Rattle.port.specs.Valid.{limit}
use Rattle.command.specs.declared.Call.{Call}
use Rattle.command.specs.declared.Call.TheVariants.{Read, Write, Wait, Line, Pins, Power, Inside}
use Rattle.port.specs.Calls.{Answer, done, refused, after, run}
use Rattle.port.specs.Facts.{computed, after_calls, line, receiving, words_on_line, receives, as_received}

-- a test that holds of every row
unfoldable pub every : {Row : Type 0} → (Row → Bool) → List Row → Bool
every test [] = true
every test (r ∷ rs) = test r && every test rs

-- ---- refusals
-- a running port, that port at the last half count; a port that receives 8 data bits without parity, at this position and with its next sample due at this
-- half; one with position 10, which such a word does not have
unfoldable pub on : Port
unfolding after_calls
on = after_calls (Power 3 ∷ [])

unfoldable pub at_limit : Port
unfolding on
at_limit = with_half on limit

unfoldable pub receiving_at : ℕ → ℕ → Port
unfolding fresh format
receiving_at position n =
    with_rx fresh (Some (record { format = format 0 0; value = 0; position = pos position; parity = false; error = 0; next = Some n }))

unfoldable pub misplaced : Port
unfolding receiving_at
misplaced = receiving_at 10 1

-- document 01's number of a refusal, 0 for an accepted call
abbrev pub refusal : Answer → ℕ
refusal (done v q) = 0
refusal (refused n offset q) = n

-- a call, the port it is made on, and the number it gives
pub data Tried : Type 0 where
  gives : Call → Port → ℕ → Tried

unfoldable pub as_numbered : Tried → Bool
unfolding computed
as_numbered (gives c p n) = eqb (refusal (computed c p)) n

-- document 01's examples; then operands at their ends, and the order of the tests: 8, 2, 1, 3, 4; then due halves of sender, receiver and clocked edge at
-- their ends, 1 to 448 above the half count
abbrev pub refusals : List Tried
refusals =
    gives (Read 0xffa5) fresh 1
    ∷ gives (Wait 65536) fresh 2
    ∷ gives (Write 0xffa7 0x80) fresh 3
    ∷ gives (Wait 1) at_limit 4
    ∷ gives Inside misplaced 8
    ∷ gives (Wait 65535) fresh 0
    ∷ gives (Write 0xffa7 0x7f) fresh 0
    ∷ gives (Wait 0) at_limit 0
    ∷ gives (Read 65536) fresh 2
    ∷ gives (Write 0xff98 256) fresh 2
    ∷ gives (Line 2) fresh 2
    ∷ gives (Pins 0 2) fresh 2
    ∷ gives (Pins 2 0) fresh 2
    ∷ gives (Power 16) fresh 2
    ∷ gives (Read 65536) misplaced 8
    ∷ gives (Write 0xffa5 256) fresh 2
    ∷ gives (Write 0xffa5 0x80) fresh 1
    ∷ gives (Wait 65536) at_limit 2
    ∷ gives Inside (with_tx fresh (Mark 448)) 0
    ∷ gives Inside (with_tx fresh (Mark 449)) 8
    ∷ gives Inside (receiving_at 0 448) 0
    ∷ gives Inside (receiving_at 0 449) 8
    ∷ gives Inside (with_sync_next fresh (Some 0)) 8
    ∷ gives Inside (with_sync_next fresh (Some 1)) 0
    ∷ gives Inside (with_sync_next fresh (Some 448)) 0
    ∷ gives Inside (with_sync_next fresh (Some 449)) 8
    ∷ []

pub refusals_numbered : every as_numbered refusals ≡ true
unfolding every as_numbered at_limit misplaced receiving_at fresh
refusals_numbered = refl

-- ---- the mark after TE is set
abbrev pub mark_end : Tx → ℕ
mark_end (Mark n) = n
mark_end Off = 0
mark_end (Blocked ch) = 0
mark_end (Start ch n) = 0
mark_end (Data ch cell next) = 0
mark_end (Tail l next) = 0

-- SEMR, whether the port is at the edge when TE is set at half 64, and the half at which mark ends
pub data Marked : Type 0 where
  mark_ends : ℕ → Bool → ℕ → Marked

unfoldable pub as_marked : Marked → Bool
unfolding after_calls
as_marked (mark_ends semr edge n) =
    eqb
    (mark_end
    (after_calls (Power 3 ∷ Write 0xffa6 semr ∷ Wait 64 ∷ (cond edge [] (Inside ∷ []) ++ (Write 0xff9a 0x20 ∷ [])))).tx) n

pub marks : every as_marked (mark_ends 0 true 384 ∷ mark_ends 0 false 416 ∷ mark_ends 8 true 224 ∷ mark_ends 8 false 240 ∷ []) ≡ true
unfolding every as_marked
marks = refl

-- ---- the first stop cell's sample
-- SEMR and its cell length, SPCR, the half at which the line falls for one cell, and the half that samples the stop cell: SSR is 0x84 before it and 0xc4
-- after it
pub data Fallen : Type 0 where
  falls : ℕ → ℕ → ℕ → ℕ → ℕ → Fallen

unfoldable pub as_sampled : Fallen → Bool
unfolding after_calls computed
as_sampled (falls semr cell spcr start n) =
    let fall : List Call = Wait start ∷ line spcr false ∷ Wait cell ∷ line spcr true ∷ Wait (n - 1 - (start + cell)) ∷ [] in
    let p : Port = after_calls (receiving 0 semr spcr ++ fall) in
    eqb p.ssr 0x84 && eqb (after (computed (Wait 1) p)).ssr 0xc4

-- the stop cell is sampled at 404, and at 406; with cells of 16 halves at 252, and at 254; with the line inverted as without
pub stop_samples : every as_sampled
    (falls 0 32 0 100 404 ∷ falls 0 32 0 101 406 ∷ falls 8 16 0 100 252 ∷ falls 8 16 0 101 254 ∷ falls 0 32 1 100 404 ∷ []) ≡ true
unfolding every as_sampled
stop_samples = refl

-- ---- words received
-- document 01's words; 0x2AA in cells of 16 halves, and inverted; then framing faults: 0xC4 becomes 0xF4 with RDR kept, 0x84 becomes 0x94 with RDR written;
-- and a parity fault
pub words_received : every as_received
    (receives 0x00 0 32 0 10 (0x2AA ∷ []) 0xc4 0x55 1
    ∷ receives 0x20 0 32 0 11 (0x602 ∷ []) 0xc4 0x01 1
    ∷ receives 0x30 0 32 0 11 (0x402 ∷ []) 0xc4 0x01 1
    ∷ receives 0x24 0 32 0 7 (0x7E ∷ []) 0xc4 0x1F 1
    ∷ receives 0x64 0 32 0 8 (0xFE ∷ []) 0xc4 0x1F 1
    ∷ receives 0x48 0 32 0 10 (0x300 ∷ []) 0xc4 0x00 1
    ∷ receives 0x00 8 16 0 10 (0x2AA ∷ []) 0xc4 0x55 1
    ∷ receives 0x00 0 32 1 10 (0x2AA ∷ []) 0xc4 0x55 1
    ∷ receives 0x00 0 32 0 10 (0x2AA ∷ 0x0CC ∷ []) 0xf4 0x55 1
    ∷ receives 0x00 0 32 0 10 (0x0AA ∷ []) 0x94 0x55 0
    ∷ receives 0x20 0 32 0 11 (0x402 ∷ []) 0x8c 0x01 0
    ∷ [])
    ≡ true
unfolding every as_received
words_received = refl

-- ---- the status write
-- SSR 0xC4 with TE off, these calls, and 0xBF written to SSR
unfoldable pub written : List Call → ℕ
unfolding after_calls words_on_line
written cs = (after_calls (receiving 0 0 0 ++ (words_on_line 0 32 10 (0x2AA ∷ []) ++ (cs ++ (Write 0xff9c 0xbf ∷ []))))).ssr

pub status_written : written (Read 0xff9c ∷ []) ∷ written [] ∷ [] ≡ 0x84 ∷ 0xc4 ∷ []
unfolding written
status_written = refl

-- ---- the order of work in a half
-- the clocked edge comes after the basic work. A start-stop word ends in clocked mode: the rising edge of that half takes the next word's first bit. Mark
-- ends with a clocked byte held: the falling edge of that half, 352, puts the byte's first bit on the line, on the internal clock and on the clock pin. Edge
-- first, each bit would come one clock later
pub edge_after_work : ((after_calls
    (Power 3 ∷ Line 0 ∷ Write 0xff9a 0x10 ∷ Wait 16 ∷ Write 0xff98 0x80 ∷ Line 1 ∷ Wait 288 ∷ [])).rx
    ≡ Some (record { format = format 0x80 0; value = 1; position = pos 1; parity = false; error = 0; next = None }))
    × ((after_calls
    (Power 3 ∷ Write 0xff9a 0x30 ∷ Write 0xff9b 0x01 ∷ Wait 350 ∷ Write 0xff98 0x80 ∷ Wait 2 ∷ [])).tx
    ≡ Data (record { format = format 0x80 0; word = 1 }) 1 None)
    × ((after_calls
    (Power 3 ∷ Write 0xff9a 0x20 ∷ Write 0xff9b 0x01 ∷ Write 0xff98 0x80 ∷ Wait 351 ∷ Write 0xff9a 0x22 ∷ Pins 0 1 ∷ [])).tx
    ≡ Data (record { format = format 0x80 0; word = 1 }) 1 None)
unfolding after_calls format
edge_after_work = (refl, refl, refl)

-- the sender's step comes before the receiver's: mark ends with a clocked byte held, and at that half, 352, a framing fault ends a start-stop word. The byte
-- begins; receiver first it would wait for the error flag to be cleared
pub sender_before_receiver : (after_calls
    (Power 3 ∷ Write 0xff9a 0x30 ∷ Write 0xff9b 0x01 ∷ Wait 48 ∷ Line 0 ∷ Wait 4 ∷ Write 0xff98 0x80 ∷ Wait 300 ∷ [])).tx
    ≡ Data (record { format = format 0x80 0; word = 1 }) 0 None
unfolding after_calls format
sender_before_receiver = refl

-- ---- the tallies wrap to zero
-- these calls on a fresh port with both tallies at their greatest
unfoldable pub from_greatest : List Call → Port
unfolding computed run fresh
from_greatest cs =
    run (with_transmitted (with_received fresh 0xffffffffffffffff) 0xffffffffffffffff) cs

-- words sent, the last half before the end of the tail and that half; words received, after one word and after two, the first read
pub tallies_wrapped : (from_greatest (Power 3 ∷ Write 0xff9a 0x20 ∷ Write 0xff9b 0x00 ∷ Wait 671 ∷ [])).transmitted
    ∷ (from_greatest (Power 3 ∷ Write 0xff9a 0x20 ∷ Write 0xff9b 0x00 ∷ Wait 672 ∷ [])).transmitted
    ∷ (from_greatest (receiving 0 0 0 ++ words_on_line 0 32 10 (0x2AA ∷ []))).received
    ∷ (from_greatest (receiving 0 0 0 ++ (words_on_line 0 32 10 (0x2AA ∷ []) ++ (Read 0xff9d ∷ words_on_line 0 32 10 (0x2CC ∷ []))))).received
    ∷ []
    ≡ 0xffffffffffffffff ∷ 0 ∷ 0 ∷ 1 ∷ []
unfolding from_greatest words_on_line
tallies_wrapped = refl
