-- A worked list in cycles that meets all that `CommandsRecover` asks, so that claim is not empty.
-- Proved in proofs/Example.antt.
-- Assumes nothing.
use Rattle.std.specs.Prelude.{◌≡◌, ℕ, zero, suc, cond, Bool, List, [], ◌∷◌, ◌++◌, replicate}
use Rattle.frame.specs.Frame.{bits, format, word}
use Rattle.command.specs.declared.Call.{Call}
use Rattle.command.specs.declared.Call.TheVariants.{Read, Write, Wait, Line, Power, Inside}
use Rattle.command.specs.declared.Command.{Command}
use Rattle.command.specs.declared.Command.TheVariants.{OnPort, Cycles}
use Rattle.command.specs.declared.Source.TheVariants.{System, Watch}
use Rattle.port.specs.Calls.{direct as port_direct}
use Rattle.recovery.specs.Line.{LineItem, mark, word_of}
use Rattle.recovery.specs.Recovery.{HistoryEnd, Rest, Words, rest_end, run_wired, start}
use Rattle.sci.specs.Calls.{fresh}
use Rattle.sci_laws.specs.Translate.{all_calls}

-- a cell of 16 halves, each of two watch cycles
unfoldable pub send : List Bool → List Command
send [] = []
send (b ∷ bs) = OnPort (Line (cond b 1 0)) ∷ Cycles Watch 32 ∷ send bs

-- five data bits. BRR 0 makes each system cycle a half; a word begins on noise and is left stale. Then each half takes two cycles of the watch clock, from the
-- next reload on, and those of the system clock count none. The stale word ends while the line is at mark. Refused commands are no calls. Then three watch cycles
-- of mark, and the word of 0x15, cut in its first stop cell
unfoldable pub commands : List Command
unfolding send
commands =
    OnPort (Power 3) ∷ OnPort (Write 0xff99 0) ∷ OnPort (Write 0xff98 0x04) ∷ OnPort (Write 0xffa6 8) ∷ OnPort (Write 0xff9a 0x10)
    ∷ OnPort (Line 0) ∷ Cycles System 20 ∷ OnPort (Write 0xff98 0x05) ∷ OnPort (Write 0xff99 1) ∷ Cycles System 3 ∷ OnPort (Line 1)
    ∷ Cycles Watch 802 ∷ OnPort (Read 0xff9d) ∷ Cycles System 65536 ∷ OnPort (Power 16) ∷ Cycles Watch 3
    ∷ (send (bits 6 (word (format 0x05 8) 0x15)) ++ (OnPort (Line 1) ∷ Cycles Watch 24 ∷ OnPort (Read 0xff9d) ∷ []))

-- n halves of two cycles each
unfoldable pub halves_of_two : ℕ → List Call
halves_of_two zero = []
halves_of_two (suc n) = Inside ∷ Wait 1 ∷ halves_of_two n

unfoldable pub sent : List Bool → List Call
unfolding halves_of_two
sent [] = []
sent (b ∷ bs) = Line (cond b 1 0) ∷ (halves_of_two 16 ++ sent bs)

-- its calls. The history ends in the midst of a half, and of a command
unfoldable pub history : List Call
unfolding halves_of_two
history =
    Power 3 ∷ Write 0xff99 0 ∷ Write 0xff98 0x04 ∷ Write 0xffa6 8 ∷ Write 0xff9a 0x10 ∷ Line 0
    ∷ (replicate 20 (Wait 1) ++ (Write 0xff98 0x05 ∷ Write 0xff99 1 ∷ replicate 3 Inside ++ (Line 1 ∷ Wait 1 ∷ (halves_of_two 10 ++ (Inside ∷ [])))))

unfoldable pub rest : List Call
unfolding halves_of_two
rest = Wait 1 ∷ (halves_of_two 389 ++ (Inside ∷ Read 0xff9d ∷ []))

unfoldable pub words : List Call
unfolding halves_of_two sent
words =
    Wait 1 ∷ (halves_of_two 1 ++ (sent (bits 6 (word (format 0x05 8) 0x15)) ++ (Line 1 ∷ (halves_of_two 12 ++ (Read 0xff9d ∷ [])))))

abbrev pub line : List LineItem
line = mark 2 ∷ word_of 0x15 ∷ []

unfoldable pub Worked : Type 0
Worked =
    (all_calls fresh commands ≡ history ++ (rest ++ words)) × HistoryEnd (run_wired port_direct start history)
    × Rest port_direct (run_wired port_direct start history) rest × Words port_direct (rest_end port_direct history rest) words line
