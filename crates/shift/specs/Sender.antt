-- A word to be sent, and what the sender's states say of themselves (document 01, "Sender").
-- Assumes nothing.
use Rattle.std.specs.Prelude.{ℕ, ◌^◌, Bool, false, is_none, Option, None, Some}
use Rattle.frame.specs.Frame.{has}
use Rattle.shift.specs.declared.Character.{Character}
use Rattle.shift.specs.declared.Tx.{Tx}
use Rattle.shift.specs.declared.Tx.TheVariants.{Off, Blocked, Mark, Start, Data, Tail}

-- the level of a cell of a word
abbrev pub level : Character → ℕ → Bool
level ch cell = has ch.word (2 ^ cell)

-- the half on which the sender acts next
abbrev pub tx_next : Tx → Option ℕ
tx_next Off = None
tx_next (Blocked ch) = None
tx_next (Mark next) = Some next
tx_next (Start ch next) = Some next
tx_next (Data ch cell next) = next
tx_next (Tail l next) = next

-- a clocked word is being sent: data or tail without a due half
abbrev pub tx_clocked : Tx → Bool
tx_clocked Off = false
tx_clocked (Blocked ch) = false
tx_clocked (Mark next) = false
tx_clocked (Start ch next) = false
tx_clocked (Data ch cell next) = is_none next
tx_clocked (Tail l next) = is_none next
