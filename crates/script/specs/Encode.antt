-- The bytes of a number: groups of seven bits, low group first, the top bit set when another follows, in the shortest form (document 01).
-- Assumes nothing.
use Rattle.std.specs.Prelude.{ℕ, zero, suc, ◌+◌, ◌/◌, ◌%◌, cond, List, [], ◌∷◌, ltb}

-- v in at most k bytes after the first
abbrev pub encode_in : ℕ → ℕ → List ℕ
encode_in zero v = v ∷ []
encode_in (suc k) v = cond (ltb v 128) (v ∷ []) ((v % 128 + 128) ∷ encode_in k (v / 128))

abbrev pub encode : ℕ → List ℕ
encode v = encode_in 4 v
