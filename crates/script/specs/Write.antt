-- The bytes of a command, and what the writer leaves of a lent buffer: the bytes at their offset and every other byte as it was, or, where they
-- do not fit, the whole buffer as it was.
-- Assumes nothing.
use Rattle.std.specs.Prelude.{ℕ, ◌+◌, cond, List, [], ◌∷◌, ◌++◌, length, leb, Result, Ok, Err}
use Rattle.store.specs.Store.{store}
use Rattle.command.specs.declared.Command.{Command}
use Rattle.script.specs.declared.Full.{Full}
use Rattle.script.specs.Encode.{encode}
use Rattle.command.specs.Command.{kind, operands}

-- numbers one after the other
abbrev pub encode_all : List ℕ → List ℕ
encode_all [] = []
encode_all (v ∷ vs) = encode v ++ encode_all vs

abbrev pub bytes : Command → List ℕ
bytes c = encode_all (kind c ∷ operands c)

-- the writer's answer, the offset after the bytes or that they do not fit, and the whole buffer
pub record Put : Type 0 where
  pub answer : Result ℕ Full
  pub buffer : List ℕ

abbrev pub as_put : Result ℕ Full → List ℕ → Put
as_put r l = record { answer = r; buffer = l }

abbrev pub full : Result ℕ Full
full = Err (record {})

abbrev pub put : List ℕ → ℕ → List ℕ → Put
put bs at buf = cond (leb (at + length bs) (length buf)) (as_put (Ok (at + length bs)) (store at bs buf)) (as_put full buf)
