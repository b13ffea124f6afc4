-- Facts of the line's levels and counts.
-- Assumes nothing.
use mathlib.Core.Path.{◌≡◌, refl, sym}
use Prim.Native.Nat.{ℕ, zero, suc, ◌+◌, ◌-◌, ◌*◌, ◌<◌}
use native.Mathlib.Omega.{arith}
use native.Mathlib.Nat.{not-suc-le-zero}
use mathlib.Core.Bool.{Bool, true, false}
use mathlib.Core.List.{List, [], ◌∷◌, ◌++◌, append_assoc}
use lib.ListN.{length, drop, get_or, replicate, length-append, length-replicate, get_or-replicate, get_or-append, replicate-append-replicate}
use lib.Seq.{get_or-append-add, drop-append-add}
use Rattle.frame.specs.declared.Format.{Format}
use Rattle.frame.proofs.Words.{front_length}
use Rattle.frame.specs.Frame.{frame, parity_cell, stop}
use Rattle.recovery.specs.Line.{spread}

pub spread_length : (n : ℕ) (bs : List Bool) → length (spread n bs) ≡ length bs * n
unfolding spread
spread_length n [] = omega arith
spread_length n (b ∷ bs) = rw (length-append, length-replicate, spread_length n bs) (omega arith)

pub spread_append : (n : ℕ) (xs bs : List Bool) → spread n (xs ++ bs) ≡ spread n xs ++ spread n bs
unfolding spread
spread_append n [] bs = refl
spread_append n (a ∷ xs) bs = rw (spread_append n xs bs) (sym (append_assoc (replicate n a) (spread n xs) (spread n bs)))

pub spread_replicate : (n k : ℕ) (b : Bool) → spread n (replicate k b) ≡ replicate (k * n) b
unfolding spread
spread_replicate n zero b = let e : 0 * n ≡ 0 = omega arith in rw e
spread_replicate n (suc k) b = rw (spread_replicate n k b, replicate-append-replicate n (k * n) b) (let e : suc k * n ≡ n + k * n = omega arith in rw e)

-- the level of the half x of cell j
pub spread_at : (n : ℕ) (bs : List Bool) (j x : ℕ) → x < n → j < length bs → get_or (spread n bs) (j * n + x) false ≡ get_or bs j false
unfolding spread
spread_at n [] j x h l = absurd (not-suc-le-zero l)
spread_at n (b ∷ bs) zero x h l =
    let e : 0 * n + x ≡ x = omega arith in
    rw (e, get_or-append (replicate n b) (spread n bs) false x (omega (arith, length-replicate n b))) (get_or-replicate n x b false h)
spread_at n (b ∷ bs) (suc j) x h l =
    let e : suc j * n + x ≡ length (replicate n b) + (j * n + x) = omega (arith, length-replicate n b) in
    rw (e, get_or-append-add (replicate n b) (spread n bs) (j * n + x) false) (spread_at n bs j x h (omega arith))

pub drop_replicate : (k n : ℕ) (b : Bool) → drop k (replicate n b) ≡ replicate (n - k) b
drop_replicate zero n b = let e : n - 0 ≡ n = omega arith in rw e
drop_replicate (suc k) zero b = let e : 0 - suc k ≡ 0 = omega arith in rw e
drop_replicate (suc k) (suc n) b = let e : suc n - suc k ≡ n - k = omega arith in rw e (drop_replicate k n b)

-- the cells of a word with data bits bs: from the first stop cell on the line is at mark
module _ (f : Format) (bs : List Bool) (full : length bs ≡ f.«data») where
  pub tail_marks : (y : ℕ) → drop (stop f * f.half_bit + y) (spread f.half_bit (frame f bs)) ≡ replicate (f.stops * f.half_bit - y) true
  unfolding frame
  tail_marks y =
      let e : stop f * f.half_bit + y ≡ length (spread f.half_bit (false ∷ (bs ++ parity_cell f bs))) + y
      = rw (spread_length f.half_bit (false ∷ (bs ++ parity_cell f bs)), front_length f bs full) in
      rw (e, spread_append f.half_bit (false ∷ (bs ++ parity_cell f bs)) (replicate f.stops true), drop-append-add (spread f.half_bit (false ∷ (bs ++ parity_cell f bs))) (spread f.half_bit (replicate f.stops true)) y, spread_replicate f.half_bit f.stops true)
      (drop_replicate y (f.stops * f.half_bit) true)
