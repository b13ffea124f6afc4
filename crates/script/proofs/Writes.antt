-- What the writers leave of the buffer, from what each number that they write leaves.
-- Assumes nothing.
use Rattle.std.proofs.Common.{◌≡◌, refl, sym, ap, ◌∙◌, Bool, false, List, [], ◌∷◌, ◌++◌, append_assoc, append-nil, ℕ, ◌+◌, ◌≤◌, ◌<◌, arith, leb, length, get_or, take, drop, length-append, sum_by}
use Rattle.std.proofs.lemmas.List.{take_more, take-append-drop}
use Rattle.std.specs.List.{fold}
use Rattle.store.specs.Store.{Stored}
use Rattle.store.proofs.Laws.{room_after, both_stored}
use Rattle.script.specs.Encode.{encode}
use Rattle.script.specs.Write.{encode_all, as_put, full, put}

-- ---- numbers one after the other

pub all_join : (vs ws : List ℕ) → encode_all (vs ++ ws) ≡ encode_all vs ++ encode_all ws
all_join [] ws = refl
all_join (v ∷ vs) ws = rw (all_join vs ws, append_assoc)

-- one more, and those after it
one_more : (vs : List ℕ) (i : ℕ) → i < length vs → encode_all (take (i + 1) vs) ≡ encode_all (take i vs) ++ encode (get_or vs i 0)
one_more vs i h = rw (take_more vs i 0 h, all_join, append-nil)

folded : (n : ℕ) (vs : List ℕ) → fold (λ a v. a + length (encode v)) n vs ≡ n + length (encode_all vs)
folded n [] = omega arith
folded n (v ∷ vs) = folded (n + length (encode v)) vs ∙ rw length-append (omega arith)

-- how many bytes they take
pub all_long : (vs : List ℕ) → sum_by (λ v. length (encode v)) vs ≡ length (encode_all vs)
all_long vs = folded 0 vs ∙ omega arith

-- ---- the buffer

-- n bytes do not fit, by the answer `fit` of a test
pub untouched : (at n : ℕ) (bs buf : List ℕ) (fit : Bool) → fit ≡ leb (at + n) (length buf) → fit ≡ false → n ≡ length bs → as_put full buf ≡ put bs at buf
untouched at n bs buf fit t f e = let g : leb (at + length bs) (length buf) ≡ false = rw e at (sym t ∙ f) in rw g

module _ (vs : List ℕ) (at : ℕ) (before : List ℕ) (h : at + length (encode_all vs) ≤ length before) where
  module _ (i to : ℕ) (after : List ℕ) (s : Stored at (encode_all (take i vs)) before to after) (g : i < length vs) where
    up_to : at + (length (encode_all (take i vs)) + length (encode (get_or vs i 0))) ≤ length before
    up_to =
        let whole : length (encode_all (take (i + 1) vs)) + length (encode_all (drop (i + 1) vs)) ≡ length (encode_all vs) =
        sym (length-append (encode_all (take (i + 1) vs)) (encode_all (drop (i + 1) vs)))
        ∙ ap length (sym (all_join (take (i + 1) vs) (drop (i + 1) vs)) ∙ ap encode_all (take-append-drop (i + 1) vs)) in
        let so_far : length (encode_all (take (i + 1) vs)) ≡ length (encode_all (take i vs)) + length (encode (get_or vs i 0)) =
        ap length (one_more vs i g) ∙ length-append (encode_all (take i vs)) (encode (get_or vs i 0)) in
        omega arith

    pub one_fits : to + length (encode (get_or vs i 0)) ≤ length after
    one_fits = room_after (length (encode (get_or vs i 0))) s up_to

    pub one_written : {to₂ : ℕ} {b₂ : List ℕ} → Stored to (encode (get_or vs i 0)) after to₂ b₂ → Stored at (encode_all (take (i + 1) vs)) before to₂ b₂
    one_written t = rw (one_more vs i g) (both_stored (omega arith) s t)
