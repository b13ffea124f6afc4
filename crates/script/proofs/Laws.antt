-- What reading finds at an offset, by the byte that stands there; how large a number can be; and how a number is written, byte by byte.
-- Assumes nothing.
use mathlib.Core.Path.{◌≡◌, refl, sym, ap, ◌∙◌}
use mathlib.Core.Bool.{Bool, false, cond, ◌&&◌}
use mathlib.Core.List.{List, [], ◌∷◌, ◌++◌, append-nil}
use Prim.Native.Nat.{ℕ, zero, suc, ◌+◌, ◌-◌, ◌*◌, ◌/◌, ◌%◌, ◌^◌, ◌≤◌, ◌<◌}
use native.Mathlib.Omega.{arith, pow_step}
use native.Mathlib.Numerals.{add-one}
use native.Mathlib.Nat.{pow-le-pow_right}
use lib.ListN.{length, get_or, take, drop, set, drop_of_length-le}
use lib.Seq.{drop-cons, take_all}
use lib.Dec.{ltb, eqb}
use borrow.Rule.Slice.PartMut.{put_mid}
use mir.Syntax.{w8}
use mir.Val.{Fits}
use borrow.Author.Tests.{lt-ltb, le-ltb, ltb-false, eqb-false}
use Rattle.branches.proofs.Branches.{or_left, or_right, either_way}
use Rattle.script.specs.declared.Fault.TheVariants.{Number as NotANumber}
use Rattle.std.proofs.Common.{Ok, Err}
use Rattle.script.specs.Number.{Reads, finds, and_then, breaks, groups, with_group, number_at}
use Rattle.script.specs.Encode.{encode_in}

-- ---- reading

-- the byte at an offset, and those after it
pub drop_next : (s : List ℕ) (at : ℕ) → at < length s → drop at s ≡ get_or s at 0 ∷ drop (at + 1) s
drop_next s at h = rw (add-one, drop-cons s at 0)

-- a byte after the first that is allowed is not zero
pub not_zero : (more b : ℕ) → breaks more b ≡ false → more < 4 → 0 < b
not_zero more b e h =
    let z : (ltb more 4 && eqb b 0) ≡ false = or_left (ltb more 4 && eqb b 0) (eqb more 0 && ltb 15 b) e in
    let n : eqb b 0 ≡ false = rw (lt-ltb more 4 h) at z in
    omega (arith, eqb-false b 0 n)

-- a fifth byte that is allowed is at most 15
pub fifth : (b : ℕ) → breaks 0 b ≡ false → b ≤ 15
fifth b e = ltb-false 15 b (or_right (eqb b 0) (ltb 15 b) e)

pow_above : (m : ℕ) → 1 ≤ 128 ^ m
pow_above m = omega (arith, pow-le-pow_right {n = 128} (omega arith) {i = 0} {j = m} (omega arith))

-- the bound of a number's last byte
pub last_bound : (more b : ℕ) → breaks more b ≡ false → b < 128 → b < 16 * 128 ^ more
last_bound zero b e h = omega (arith, fifth b e)
last_bound (suc k) b e h = rw (pow_step 128 k) (omega (arith, pow_above k))

-- ---- the loop of `read_number`

-- a number whose groups before came to `value`, where the next group counts `scale`
abbrev pub shifted : ℕ → ℕ → Reads ℕ → Reads ℕ
shifted scale value r = and_then r (λ v next. finds (value + scale * v) next)

shifted_on : (scale value b : ℕ) (r : Reads ℕ) → shifted scale value (with_group b r) ≡ shifted (scale * 128) (value + scale * (b - 128)) r
shifted_on scale value b (Ok found) = ap (λ (n : ℕ). finds n found.next) (omega arith)
shifted_on scale value b (Err why) = refl

-- what holds before each turn
pub record Reading (s : List ℕ) (at value scale more i : ℕ) : Type 0 where
  pub so_far : number_at s at ≡ shifted scale value (groups more i (drop i s))
  pub left : more ≤ 4
  pub power : scale ≡ 128 ^ (4 - more)
  pub below : value < scale

-- the sum of a number's last byte fits
last_sum : (more b value : ℕ) → more ≤ 4 → value < 128 ^ (4 - more) → breaks more b ≡ false → b < 128 →
    value + 128 ^ (4 - more) * b < 4294967296
last_sum zero b value h g e u = omega (arith, fifth b e)
last_sum (suc zero) b value h g e u = omega arith
last_sum (suc (suc zero)) b value h g e u = omega arith
last_sum (suc (suc (suc zero))) b value h g e u = omega arith
last_sum (suc (suc (suc (suc zero)))) b value h g e u = omega arith
last_sum (suc (suc (suc (suc (suc k))))) b value h g e u = absurd (omega arith)

-- a byte with its top bit set: another may follow, whose power fits, and the sum stays below that
pub record Group (value scale more b : ℕ) : Type 0 where
  pub one : 1 ≤ more
  pub scaled : scale * 128 ≤ 268435456
  pub power : scale * 128 ≡ 128 ^ (4 - (more - 1))
  pub below : value + scale * (b - 128) < scale * 128

group : (more b value : ℕ) → more ≤ 4 → value < 128 ^ (4 - more) → breaks more b ≡ false → 128 ≤ b → b < 256 →
    Group value (128 ^ (4 - more)) more b
group zero b value h g e u w = absurd (omega (arith, fifth b e))
group (suc zero) b value h g e u w = omega arith
group (suc (suc zero)) b value h g e u w = omega arith
group (suc (suc (suc zero))) b value h g e u w = omega arith
group (suc (suc (suc (suc zero)))) b value h g e u w = omega arith
group (suc (suc (suc (suc (suc k))))) b value h g e u w = absurd (omega arith)

module _ (s : List ℕ) (at value scale more i : ℕ) (h : Reading s at value scale more i) where
  -- `b` is the byte, and `t` the answer of the test `breaks` of it
  module _ (g : i < length s) (b : ℕ) (r : b ≡ get_or s i 0) (t : Bool) (e : t ≡ breaks more b) where
    step : groups more i (drop i s) ≡
        cond t (Err NotANumber)
        (cond (ltb b 128) (finds b (i + 1)) (with_group b (groups (more - 1) (i + 1) (drop (i + 1) s))))
    step = rw (drop_next s i g, ← r, e)

    module _ (f : t ≡ false) where
      pub last_fits : b < 128 → value + scale * b < 4294967296
      last_fits u = rw h.power (last_sum more b value h.left (rw h.power at h.below) (sym e ∙ f) u)

      module _ (u : 128 ≤ b) (w : (k : ℕ) → Fits w8 (get_or s k 0)) where
        pub read_group : Group value scale more b
        read_group = rw h.power (group more b value h.left (rw h.power at h.below) (sym e ∙ f) u (omega (arith, r, w i)))

        pub read_on : Reading s at (value + scale * (b - 128)) (scale * 128) (more - 1) (i + 1)
        read_on =
            record {
              so_far = h.so_far ∙ rw (step, f, le-ltb _ _ u) (shifted_on scale value b (groups (more - 1) (i + 1) (drop (i + 1) s)));
              left = omega (arith, h.left);
              power = read_group.power;
              below = read_group.below;
            }

-- ---- writing

pub small : (k v : ℕ) → v < 128 → encode_in k v ≡ v ∷ []
small zero v h = refl
small (suc k) v h = rw (lt-ltb v 128 h)

-- a number in at most k bytes after the first
pub encode_short : (k v : ℕ) → length (encode_in k v) ≤ k + 1
encode_short zero v = omega arith
encode_short (suc k) v =
    either_way (ltb v 128)
    (λ t. rw t (omega arith))
    (λ t. rw t (omega (arith, encode_short k (v / 128))))

-- a number of more than one byte: its first byte, and the rest
pub record Large (m v : ℕ) : Type 0 where
  pub more : 1 ≤ m
  pub bytes : encode_in m v ≡ (v % 128 + 128) ∷ encode_in (m - 1) (v / 128)
  pub long : length (encode_in m v) ≡ suc (length (encode_in (m - 1) (v / 128)))
  pub rest : v / 128 < 16 * 128 ^ (m - 1)

pub large : (m v : ℕ) → 128 ≤ v → v < 16 * 128 ^ m → Large m v
large zero v h g = absurd (omega arith)
large (suc k) v h g =
    let g' : v < 16 * (128 * 128 ^ k) = rw (pow_step 128 k) at g in
    let down : suc k - 1 ≡ k = omega arith in
    let bytes : encode_in (suc k) v ≡ (v % 128 + 128) ∷ encode_in (suc k - 1) (v / 128) = rw (le-ltb v 128 h, down) in
    record { more = omega arith; bytes = bytes; long = ap length bytes; rest = rw down (omega arith) }

-- the buffer, once that part is back in its place with the bytes `vs` at its front
pub joined : (buf ys vs : List ℕ) (b : ℕ) → 1 ≤ length buf →
    ys ≡ vs ++ drop (length vs) (take (length (set buf 0 b) - 1) (drop 1 (set buf 0 b))) →
    put_mid 1 (length (set buf 0 b) - 1) (set buf 0 b) ys ≡ (b ∷ vs) ++ drop (suc (length vs)) buf
joined [] ys vs b h e = absurd (omega arith)
joined (x ∷ xs) ys vs b h e =
    let none : drop (suc (length xs) - 1) xs ≡ [] = drop_of_length-le xs {i = suc (length xs) - 1} (omega arith) in
    let whole : take (suc (length xs) - 1) xs ≡ xs = take_all (suc (length xs) - 1) xs (omega arith) in
    rw (none, append-nil, e, whole)
