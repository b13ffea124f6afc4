-- Numbers read back, and accepted numbers are encodings: the claims of specs/RoundTrip.antt on numbers.
-- Assumes nothing.
use mathlib.Core.Path.{◌≡◌, refl, sym, ap, subst, ◌∙◌}
use mathlib.Core.Bool.{Bool, true, false, ◌&&◌}
use mathlib.Core.List.{List, [], ◌∷◌, ◌++◌, append_assoc}
use Prim.Native.Nat.{ℕ, zero, suc, ◌+◌, ◌-◌, ◌*◌, ◌/◌, ◌%◌, ◌^◌, ◌≤◌, ◌<◌}
use native.Mathlib.Omega.{arith, pow_step}
use lib.ListN.{length, drop, length-append}
use lib.Seq.{drop_at, drop-drop, drop-append_seam}
use lib.Dec.{ltb, eqb}
use borrow.Author.Tests.{ltb-true, ltb-false, lt-ltb, le-ltb, ne_eqb, eqb-true}
use Rattle.branches.proofs.Branches.{by_cond, either_way}
use Rattle.std.proofs.Common.{Ok, Err}
use Rattle.script.specs.Number.{Reads, finds, breaks, groups, with_group}
use Rattle.script.specs.Encode.{encode_in, encode}
use Rattle.script.specs.RoundTrip.{Bytes, Stands, BytesStand, NumbersReadBack, NumbersAreEncodings}
use Rattle.script.proofs.Laws.{not_zero, fifth, last_bound}

-- ---- bytes that stand in a script

pub bytes_stand : BytesStand
bytes_stand before bs after =
    let behind : drop (length before + length bs) (before ++ (bs ++ after)) ≡ after =
    ap (λ (l : List ℕ). drop (length before + length bs) l) (sym (append_assoc before bs after))
    ∙ drop_at (before ++ bs) after (length before + length bs) (length-append before bs) in
    record { there = drop_at before (bs ++ after) (length before) refl ∙ ap (λ (l : List ℕ). bs ++ l) (sym behind); end = refl }

module _ (x y : List ℕ) {s : List ℕ} {at next : ℕ} where
  -- of two runs of bytes side by side, what lies behind the first
  behind : Stands (x ++ y) s at next → drop (at + length x) s ≡ y ++ drop next s
  behind t =
      sym (drop-drop (length x) at s) ∙ ap (drop (length x)) (t.there ∙ append_assoc x y (drop next s)) ∙ drop-append_seam x (y ++ drop next s)

  pub first_part : Stands (x ++ y) s at next → Stands x s at (at + length x)
  first_part t = record { there = t.there ∙ append_assoc x y (drop next s) ∙ ap (λ (l : List ℕ). x ++ l) (sym (behind t)); end = refl }

  pub second_part : Stands (x ++ y) s at next → Stands y s (at + length x) next
  second_part t = record { there = behind t; end = rw (t.end, length-append x y) (omega arith) }

  pub side_by_side : {mid : ℕ} → Stands x s at mid → Stands y s mid next → Stands (x ++ y) s at next
  side_by_side {mid} t u =
      record {
        there = t.there ∙ ap (λ (l : List ℕ). x ++ l) u.there ∙ sym (append_assoc x y (drop next s));
        end = rw (u.end, t.end, length-append x y) (omega arith);
      }

-- ---- numbers read back

and_if : (a b : Bool) → (a ≡ true → b ≡ false) → (a && b) ≡ false
and_if true b h = h refl
and_if false b h = refl

allowed : (k b : ℕ) → (k < 4 → 0 < b) → (k ≡ 0 → b ≤ 15) → breaks k b ≡ false
allowed k b h g =
    rw (
      and_if (ltb k 4) (eqb b 0) (λ t. ne_eqb b 0 (λ e. omega (arith, h (ltb-true k 4 t)))),
      and_if (eqb k 0) (ltb 15 b) (λ t. le-ltb 15 b (g (eqb-true k 0 t))),
    )

groups_back : (k at v : ℕ) (rest : List ℕ) → (k < 4 → 0 < v) → v < 16 * 128 ^ k →
    groups k at (encode_in k v ++ rest) ≡ finds v (at + length (encode_in k v))
groups_back zero at v rest h g = simp (allowed 0 v h (λ e. omega arith), lt-ltb v 128 (omega arith))
groups_back (suc k) at v rest h g =
    let g' : v < 16 * (128 * 128 ^ k) = rw (pow_step 128 k) at g in
    either_way (ltb v 128)
    (λ t. simp (t, allowed (suc k) v h (λ e. omega arith)))
    (λ t.
    let big : 128 ≤ v = ltb-false _ _ t in
    let down : suc k - 1 ≡ k = omega arith in
    let whole : v % 128 + 128 - 128 + 128 * (v / 128) ≡ v = omega arith in
    let place : at + 1 + length (encode_in k (v / 128)) ≡ at + suc (length (encode_in k (v / 128))) = omega arith in
    simp (
      t,
      allowed (suc k) (v % 128 + 128) (λ _. omega arith) (λ e. omega arith),
      le-ltb (v % 128 + 128) 128 (omega arith),
      down,
      groups_back k (at + 1) (v / 128) rest (λ _. omega arith) (omega arith),
      whole,
      place,
    ))

pub numbers_read_back : NumbersReadBack
numbers_read_back s at v next t h =
    ap (groups 4 at) t.there ∙ groups_back 4 at v (drop next s) (λ f. omega arith) (omega arith) ∙ ap (finds v) (sym t.end)

-- ---- accepted numbers are encodings

-- what was read, and from which bytes
abbrev Encoded : ℕ → ℕ → List ℕ → Reads ℕ → Type 0
Encoded k at s (Ok found) =
    (rest : List ℕ) × (s ≡ encode_in k found.value ++ rest) × (found.next ≡ at + length (encode_in k found.value)) × (k < 4 → 0 < found.value)
    × (found.value < 16 * 128 ^ k)
Encoded k at s (Err why) = Unit {0}

one_byte : (k at b : ℕ) (s : List ℕ) → breaks k b ≡ false → b < 128 → Encoded k at (b ∷ s) (finds b (at + 1))
one_byte zero at b s e h = (s, refl, refl, not_zero 0 b e, last_bound 0 b e h)
one_byte (suc k) at b s e h =
    let t = lt-ltb b 128 h in
    (s, simp t, simp t, not_zero (suc k) b e, last_bound (suc k) b e h)

more_bytes : (k at b : ℕ) (s : List ℕ) (r : Reads ℕ) → k < 4 → 128 ≤ b → b < 256 → Encoded k (at + 1) s r → Encoded (suc k) at (b ∷ s) (with_group b r)
more_bytes k at b s (Ok found) f lo hi (rest, e, n, above, below) =
    let v = found.value in
    let pos : 0 < v = above f in
    let big : 128 ≤ b - 128 + 128 * v = omega arith in
    let low : (b - 128 + 128 * v) % 128 + 128 ≡ b = omega arith in
    let high : (b - 128 + 128 * v) / 128 ≡ v = omega arith in
    let w : encode_in (suc k) (b - 128 + 128 * v) ≡ b ∷ encode_in k v = simp (le-ltb _ _ big, low, high) in
    (rest, rw (w, e), rw (w, n) (omega arith), λ _. omega arith, rw (pow_step 128 k) (omega arith))
more_bytes k at b s (Err why) f lo hi h = tt

groups_encoded : (k at : ℕ) (s : List ℕ) → k ≤ 4 → Bytes s → Encoded k at s (groups k at s)
groups_encoded k at [] f h = tt
groups_encoded zero at (b ∷ s) f h =
    by_cond (Encoded 0 at (b ∷ s)) (breaks 0 b) _ _ (λ t. tt)
    (λ t. by_cond (Encoded 0 at (b ∷ s)) (ltb b 128) _ _ (λ u. one_byte 0 at b s t (ltb-true b 128 u))
    (λ u. absurd (omega (arith, fifth b t, ltb-false b 128 u))))
groups_encoded (suc k) at (b ∷ s) f h =
    let down : suc k - 1 ≡ k = omega arith in
    rw down
    (by_cond (Encoded (suc k) at (b ∷ s)) (breaks (suc k) b) _ _ (λ t. tt)
    (λ t. by_cond (Encoded (suc k) at (b ∷ s)) (ltb b 128) _ _ (λ u. one_byte (suc k) at b s t (ltb-true b 128 u))
    (λ u. more_bytes k at b s (groups k (at + 1) s) (omega arith) (ltb-false b 128 u) h.0 (groups_encoded k (at + 1) s (omega arith) h.1))))

bytes_behind : (at : ℕ) (s : List ℕ) → Bytes s → Bytes (drop at s)
bytes_behind zero s h = h
bytes_behind (suc n) [] h = tt
bytes_behind (suc n) (b ∷ s) h = bytes_behind n s h.1

pub numbers_are_encodings : NumbersAreEncodings
numbers_are_encodings s at v next h e =
    let (rest, there, end, above, below) : Encoded 4 at (drop at s) (finds v next) =
    subst (Encoded 4 at (drop at s)) e (groups_encoded 4 at (drop at s) (omega arith) (bytes_behind at s h)) in
    let after : drop next s ≡ rest =
    ap (λ (n : ℕ). drop n s) end ∙ sym (drop-drop (length (encode v)) at s) ∙ ap (drop (length (encode v))) there ∙ drop-append_seam (encode v) rest in
    (record { there = there ∙ ap (λ (l : List ℕ). encode v ++ l) (sym after); end = end }, omega arith)
