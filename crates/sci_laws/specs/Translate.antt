-- A direct call on the port with its clock comes to direct calls on the port: none, one or many. So what is proved of lists of these (crates port_laws and
-- recovery) holds of it.
-- Proved in proofs/Translate.antt.
-- Assumes nothing.
use Rattle.std.specs.Prelude.{◌≡◌, ℕ, zero, suc, cond, List, [], ◌∷◌}
use Rattle.command.specs.declared.Call.{Call}
use Rattle.command.specs.declared.Call.TheVariants.{Wait, Inside}
use Rattle.command.specs.declared.Command.{Command}
use Rattle.command.specs.declared.Command.TheVariants.{OnPort, Cycles}
use Rattle.command.specs.declared.Source.{Source}
use Rattle.port.specs.Calls.{run as port_run, done as port_done, direct as port_direct}
use Rattle.port_laws.specs.Edges.{edges_of}
use Rattle.recovery.specs.Layers.{calls_made, state_after}
use Rattle.sci.specs.declared.Sci.{Sci}
use Rattle.sci.specs.Cycle.{cycle, counts_half}
use Rattle.sci.specs.Calls.{Answer, done, refused, after, direct, edges}

-- a cycle that counts a half is a wait of one half, any other is time inside a half
abbrev pub cycle_call : Source → Sci → Call
cycle_call source s = cond (counts_half source s) (Wait 1) Inside

unfoldable pub cycle_calls : Source → ℕ → Sci → List Call
cycle_calls source zero s = []
cycle_calls source (suc n) s = cycle_call source s ∷ cycle_calls source n (cycle source s)

-- a refused command is no call
abbrev pub calls_by : Command → Sci → Answer → List Call
calls_by c s (refused n offset t) = []
calls_by (OnPort c) s (done v t) = c ∷ []
calls_by (Cycles source n) s (done v t) = cycle_calls source n s

abbrev pub calls : Command → Sci → List Call
calls c s = calls_by c s (direct c s)

-- the state that a command leaves, be it accepted or refused; and commands one after the other (recovery's Layers.antt)
abbrev pub leaves : Command → Sci → Sci
leaves c s = after (direct c s)

abbrev pub run : Sci → List Command → Sci
run = state_after leaves

abbrev pub all_calls : Sci → List Command → List Call
all_calls = calls_made leaves calls

-- the port inside is the port after these calls, whatever the state was
unfoldable pub SamePort : Type 0
SamePort = (cs : List Command) (s : Sci) → (run s cs).port ≡ port_run s.port (all_calls s cs)

-- an accepted call of kinds 1 to 7 answers what the port's own answers: so what a caller reads is what the port gave
unfoldable pub SameAnswers : Type 0
SameAnswers = (c : Call) (s t : Sci) (v : ℕ) → direct (OnPort c) s ≡ done v t → port_direct c s.port ≡ port_done v t.port

-- and the edges that an accepted call counts are those of its calls
unfoldable pub SameEdges : Type 0
SameEdges = (c : Command) (s t : Sci) (v : ℕ) → direct c s ≡ done v t → edges c s ≡ edges_of s.port (calls c s)
