-- Document 02's sentences on the cycles of the clocks, computed: commands on a state, and what follows. One table, with one theorem by computation.
-- Assumes nothing.
use Rattle.std.specs.Prelude.{◌≡◌, refl, ℕ, Bool, true, false, ◌&&◌, List, [], ◌∷◌, ◌==◌}
use Rattle.std.specs.Bool.{beq}
use Rattle.command.specs.declared.Call.TheVariants.{Write, Wait, Pins, Power}
use Rattle.command.specs.declared.Command.{Command}
use Rattle.command.specs.declared.Command.TheVariants.{OnPort, Cycles}
use Rattle.command.specs.declared.Source.TheVariants.{System, Watch}
use Rattle.port.specs.declared.Port.{Port}
use Rattle.port.specs.Power.{fresh as fresh_port}
use Rattle.port.specs.Valid.{limit}
use Rattle.port.specs.Facts.{computed}
use Rattle.port_laws.specs.Facts.{every, on, at_limit}
use Rattle.sci.specs.declared.Baud.{Baud}
use Rattle.sci.specs.declared.Sci.{Sci}
use Rattle.sci.specs.Cycle.{cycles}
use Rattle.sci.specs.Calls.{Answer, done, refused, after, fresh, most, baud_valid, called, direct}

-- ---- commands
abbrev pub power : ℕ → Command
power bits = OnPort (Power bits)

abbrev pub smr : ℕ → Command
smr v = OnPort (Write 0xff98 v)

abbrev pub brr : ℕ → Command
brr v = OnPort (Write 0xff99 v)

abbrev pub scr : ℕ → Command
scr v = OnPort (Write 0xff9a v)

abbrev pub wait : ℕ → Command
wait n = OnPort (Wait n)

abbrev pub pins : ℕ → ℕ → Command
pins clock line = OnPort (Pins clock line)

abbrev pub system : ℕ → Command
system n = Cycles System n

abbrev pub watch : ℕ → Command
watch n = Cycles Watch n

-- ---- states
-- the ticks that remain, and the cycles of the system and of the watch clock
abbrev pub clocks : ℕ → ℕ → ℕ → Baud
clocks remaining system watch = record { remaining = remaining; system = system; watch = watch }

abbrev pub with_clocks : Port → Baud → Sci
with_clocks p b = record { port = p; baud = b }

-- ---- what follows
-- the last answer
abbrev pub last : Answer → List Command → Answer
last a [] = a
last a (c ∷ cs) = last (direct c (after a)) cs

abbrev pub number : Answer → ℕ
number (done v s) = 0
number (refused n offset s) = n

abbrev pub same : Baud → Baud → Bool
same a b = (a.remaining == b.remaining) && (a.system == b.system && a.watch == b.watch)

-- a state and commands; the number by which the last one is refused, or 0; then half count, edge bit and clocks
pub data Row : Type 0 where
  gives : Sci → List Command → ℕ → ℕ → Bool → Baud → Row

unfoldable pub as_given : Row → Bool
unfolding computed direct called cycles baud_valid
as_given (gives s cs n half edge b) =
    let a : Answer = last (done 0 s) cs in
    (number a == n) && ((after a).port.half == half && (beq (after a).port.edge edge && same (after a).baud b))

abbrev pub rows : List Row
rows =
    -- BRR 0 makes each cycle a half, and the half that the last one counts sets the edge bit; n = 0 keeps it
    gives fresh (power 3 ∷ brr 0 ∷ system 7 ∷ []) 0 7 true (clocks 1 7 0)
    ∷ gives fresh (power 3 ∷ brr 0 ∷ system 7 ∷ system 0 ∷ watch 0 ∷ []) 0 7 true (clocks 1 7 0)
    -- cycles of the other clock, with the clocks off and with the module off only move their total and clear it
    ∷ gives fresh (power 3 ∷ brr 0 ∷ system 7 ∷ watch 2 ∷ []) 0 7 false (clocks 1 7 2)
    ∷ gives fresh (power 3 ∷ brr 0 ∷ system 7 ∷ power 1 ∷ system 3 ∷ []) 0 7 false (clocks 1 10 0)
    ∷ gives fresh (system 5 ∷ watch 3 ∷ []) 0 0 false (clocks 256 5 3)
    -- BRR with TE and RE off restarts the count, also the same value, also with the clocks off or the clock external
    ∷ gives fresh (power 3 ∷ system 100 ∷ []) 0 0 false (clocks 156 100 0)
    ∷ gives fresh (power 3 ∷ system 100 ∷ brr 9 ∷ []) 0 0 false (clocks 10 100 0)
    ∷ gives fresh (power 3 ∷ system 100 ∷ brr 255 ∷ []) 0 0 false (clocks 256 100 0)
    ∷ gives fresh (power 3 ∷ system 100 ∷ power 1 ∷ brr 9 ∷ []) 0 0 false (clocks 10 100 0)
    ∷ gives fresh (power 3 ∷ system 100 ∷ scr 2 ∷ brr 9 ∷ []) 0 0 false (clocks 10 100 0)
    -- with RE or TE on it takes effect at the next reload
    ∷ gives fresh (power 3 ∷ system 100 ∷ scr 0x10 ∷ brr 9 ∷ []) 0 0 false (clocks 156 100 0)
    ∷ gives fresh (power 3 ∷ system 100 ∷ scr 0x20 ∷ brr 9 ∷ []) 0 0 false (clocks 156 100 0)
    ∷ gives fresh (power 3 ∷ system 100 ∷ scr 0x10 ∷ brr 9 ∷ system 157 ∷ []) 0 1 false (clocks 9 257 0)
    -- and with the module off or in reset mode it is not taken
    ∷ gives fresh (brr 9 ∷ []) 0 0 false (clocks 256 0 0)
    ∷ gives fresh (power 11 ∷ brr 9 ∷ []) 0 0 false (clocks 256 0 0)
    -- a wait leaves a full count where it counts a half, and else what remained
    ∷ gives fresh (power 3 ∷ brr 9 ∷ system 7 ∷ wait 2 ∷ []) 0 2 true (clocks 10 7 0)
    ∷ gives fresh (power 3 ∷ brr 9 ∷ system 7 ∷ wait 0 ∷ []) 0 0 false (clocks 3 7 0)
    ∷ gives fresh (power 3 ∷ brr 9 ∷ system 7 ∷ power 1 ∷ wait 2 ∷ []) 0 0 false (clocks 3 7 0)
    -- a reset, by the module off or by reset mode, leaves 256 and the totals
    ∷ gives fresh (power 3 ∷ brr 9 ∷ system 7 ∷ watch 2 ∷ power 2 ∷ []) 0 0 false (clocks 256 7 2)
    ∷ gives fresh (power 3 ∷ brr 9 ∷ system 7 ∷ watch 2 ∷ power 11 ∷ []) 0 0 false (clocks 256 7 2)
    -- a stop, another choice, the external clock and its edges keep what remained
    ∷ gives fresh (power 3 ∷ brr 9 ∷ system 7 ∷ power 1 ∷ power 3 ∷ []) 0 0 false (clocks 3 7 0)
    ∷ gives fresh (power 3 ∷ brr 9 ∷ system 7 ∷ smr 1 ∷ []) 0 0 false (clocks 3 7 0)
    ∷ gives fresh (power 3 ∷ brr 9 ∷ system 7 ∷ scr 2 ∷ pins 0 1 ∷ pins 1 1 ∷ system 9 ∷ []) 0 2 false (clocks 3 16 0)
    -- system/16 and system/64 count each 16th and 64th cycle of the total, whatever came before
    ∷ gives fresh (system 15 ∷ power 3 ∷ smr 2 ∷ brr 0 ∷ system 1 ∷ []) 0 1 true (clocks 1 16 0)
    ∷ gives fresh (power 3 ∷ smr 2 ∷ brr 0 ∷ system 47 ∷ []) 0 2 false (clocks 1 47 0)
    ∷ gives fresh (system 63 ∷ power 3 ∷ smr 3 ∷ brr 0 ∷ system 1 ∷ []) 0 1 true (clocks 1 64 0)
    ∷ gives fresh (system 64 ∷ power 3 ∷ smr 3 ∷ brr 0 ∷ system 63 ∷ []) 0 0 false (clocks 1 127 0)
    -- watch counts with the subclock alone, and the others do not
    ∷ gives fresh (power 5 ∷ smr 1 ∷ brr 0 ∷ watch 2 ∷ []) 0 2 true (clocks 1 0 2)
    ∷ gives fresh (power 5 ∷ smr 1 ∷ brr 0 ∷ system 2 ∷ []) 0 0 false (clocks 1 2 0)
    ∷ gives fresh (power 5 ∷ brr 0 ∷ system 2 ∷ []) 0 0 false (clocks 1 2 0)
    -- at all limits n = 0 is accepted; 8 comes before 2, 2 before 10, and 10 before 4; each clock's 10 is its own
    ∷ gives (with_clocks at_limit (clocks 1 most most)) (system 0 ∷ []) 0 limit false (clocks 1 most most)
    ∷ gives (with_clocks at_limit (clocks 1 most most)) (watch 0 ∷ []) 0 limit false (clocks 1 most most)
    ∷ gives (with_clocks at_limit (clocks 0 most most)) (system 65536 ∷ []) 8 limit false (clocks 0 most most)
    ∷ gives (with_clocks at_limit (clocks 1 most most)) (system 65536 ∷ []) 2 limit false (clocks 1 most most)
    ∷ gives (with_clocks at_limit (clocks 1 most 0)) (system 1 ∷ []) 10 limit false (clocks 1 most 0)
    ∷ gives (with_clocks at_limit (clocks 1 0 most)) (system 1 ∷ []) 4 limit false (clocks 1 0 most)
    ∷ gives (with_clocks at_limit (clocks 1 most 0)) (watch 1 ∷ []) 0 limit false (clocks 1 most 1)
    ∷ gives (with_clocks at_limit (clocks 1 0 most)) (watch 1 ∷ []) 10 limit false (clocks 1 0 most)
    ∷ gives (with_clocks at_limit (clocks 2 0 0)) (system 1 ∷ []) 0 limit false (clocks 1 1 0)
    ∷ gives (with_clocks on (clocks 1 281474976710650 0)) (system 6 ∷ []) 0 1 false (clocks 251 most 0)
    ∷ gives (with_clocks on (clocks 1 281474976710650 0)) (system 7 ∷ []) 10 0 false (clocks 1 281474976710650 0)
    -- the field test: 1 to 256 ticks remain, and each total is within its limit
    ∷ gives (with_clocks fresh_port (clocks 257 0 0)) (system 0 ∷ []) 8 0 false (clocks 257 0 0)
    ∷ gives (with_clocks fresh_port (clocks 256 281474976710657 0)) (system 0 ∷ []) 8 0 false (clocks 256 281474976710657 0)
    ∷ gives (with_clocks fresh_port (clocks 256 0 281474976710657)) (system 0 ∷ []) 8 0 false (clocks 256 0 281474976710657)
    ∷ []

pub facts : every as_given rows ≡ true
unfolding every as_given at_limit on fresh
facts = refl
