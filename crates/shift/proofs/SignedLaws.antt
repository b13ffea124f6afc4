-- Laws of the receive position: a signed byte and its bits, the tests, the step and the shift that the code makes of it, and the clause of
-- `sample_at` that its tests select.
-- Assumes nothing.
use mathlib.Core.Path.{◌≡◌, refl, sym, ap, ◌∙◌, subst}
use mathlib.Core.Bool.{Bool, true, false, cond, ◌&&◌, ◌||◌, true≢false, false≢true}
use Prim.Native.Nat.{ℕ, zero, suc, ◌+◌, ◌-◌, ◌^◌, ◌<◌, ◌≤◌, zero-le}
use native.Mathlib.Omega.{arith}
use lib.Bits.{bit_or}
use lib.Dec.{T, eqb, ltb, lit<, lit≤, le→leb}
use lib.IntN.{ℤ, pos, negsuc}
use lib.Signed.{mag, lt_z, le_z}
use mir.Syntax.{w8}
use mir.Val.{of_z}
use borrow.Author.Tests.{eq-eqb, ne_eqb, eqb-true, eqb-false, leb-true, ltb-true, lt-ltb}
use Rattle.frame.specs.declared.Format.{Format}
use Rattle.frame.specs.Frame.{differ, one_if}
use Rattle.frame.proofs.Choose.{cond_t, cond_f}
use Rattle.frame.proofs.Laws.{one_if≤}
use Rattle.shift.specs.declared.Rx.{Rx}
use Rattle.shift.specs.declared.Sampled.{Sampled}
use Rattle.shift.specs.declared.Sampled.TheVariants.{Dropped, Onward, Whole}
use Rattle.shift.specs.Receiver.{bit_at, started, stepped, stopped, sample_at, sample}
use Rattle.shift.specs.Valid.{position_valid}
use Rattle.shift.specs.Private.Ready.{Placed, Shiftable, eqZ, falling, starting, in_data, at_parity}

-- ---- a signed byte and its bits
-- two tests that hold together are the same
eqb_same : (a b m n : ℕ) → (a ≡ b → m ≡ n) → (m ≡ n → a ≡ b) → eqb a b ≡ eqb m n
eqb_same a b m n f g = go (eqb m n) refl where
  go : (t : Bool) → eqb m n ≡ t → eqb a b ≡ eqb m n
  go true e = eq-eqb a b (g (eqb-true m n e)) ∙ sym e
  go false e = ne_eqb a b (λ p. eqb-false m n e (f p)) ∙ sym e

pub bits_eq : (z k : ℤ) → mag z < 128 → mag k < 128 → eqb (of_z w8 z) (of_z w8 k) ≡ eqZ z k
bits_eq (pos m) (pos n) hz hk = refl
bits_eq (pos m) (negsuc n) hz hk = ne_eqb m (256 - suc n) (λ p. omega arith)
bits_eq (negsuc m) (pos n) hz hk = ne_eqb (256 - suc m) n (λ p. omega arith)
bits_eq (negsuc m) (negsuc n) hz hk = eqb_same (256 - suc m) (256 - suc n) m n (λ p. omega arith) (λ p. omega arith)

-- the same, with the other's bits written out
pub bits_is : (z k : ℤ) (n : ℕ) → mag z < 128 → mag k < 128 → of_z w8 k ≡ n → eqb (of_z w8 z) n ≡ eqZ z k
bits_is z k n hz hk e = ap (eqb (of_z w8 z)) (sym e) ∙ bits_eq z k hz hk

-- ---- a position in its place
bound≤ : (s : Bool) (d k : ℕ) → d ≤ 8 → k ≤ 1 → cond s 7 (d + k) ≤ 9
bound≤ true d k hd hk = lit≤ tt
bound≤ false d k hd hk = omega arith

pub place_mag : (z : ℤ) (f : Format) → f.«data» ≤ 8 → position_valid z f ≡ true → mag z < 10
place_mag (pos j) f hd e =
    let up : j ≤ cond f.synchronous 7 (f.«data» + one_if f.parity) = leb-true j _ e in
    omega (arith, up, bound≤ f.synchronous f.«data» (one_if f.parity) hd (one_if≤ f.parity))
place_mag (negsuc zero) f hd e = lit< tt
place_mag (negsuc (suc zero)) f hd e = lit< tt
place_mag (negsuc (suc (suc n))) f hd e = absurd (false≢true e)

-- ---- where a position lies
-- a data cell: from zero, and below eight
from_zero : (z : ℤ) (f : Format) → position_valid z f ≡ true → eqZ z (negsuc 1) ≡ false → eqZ z (negsuc 0) ≡ false → T (le_z (pos 0) z)
from_zero (pos j) f e a b = le→leb 0 j zero-le
from_zero (negsuc zero) f e a b = absurd (true≢false b)
from_zero (negsuc (suc zero)) f e a b = absurd (true≢false a)
from_zero (negsuc (suc (suc n))) f e a b = absurd (false≢true e)

below_eight : (z : ℤ) (d : ℕ) → d ≤ 8 → lt_z z (pos d) ≡ true → T (lt_z z (pos 8))
below_eight (pos j) d hd e = subst T (sym (lt-ltb j 8 (omega (arith, ltb-true j d e)))) tt
below_eight (negsuc n) d hd e = tt

pub data_shifts : (r : Rx) → Placed r → falling r ≡ false → starting r ≡ false → in_data r ≡ true → Shiftable r
unfolding falling starting in_data
data_shifts r p a b h =
    record { from_zero = from_zero r.position r.format p.place a b; below_eight = below_eight r.position r.format.«data» p.bounded.data≤8 h }

-- ---- the clause of `sample_at` that the tests select
module _ (now : Format) (high : Bool) (half : ℕ) (r : Rx) (out : Sampled) where
  falling_clause : (z : ℤ) → eqZ z (negsuc 1) ≡ true → out ≡ cond (high || now.synchronous) Dropped (Onward (started now half r)) → out ≡ sample_at z now high half r
  unfolding sample_at
  falling_clause (pos j) h e = absurd (false≢true h)
  falling_clause (negsuc zero) h e = absurd (false≢true h)
  falling_clause (negsuc (suc zero)) h e = e
  falling_clause (negsuc (suc (suc n))) h e = absurd (false≢true (sym (ne_eqb (suc (suc n)) 1 (λ q. omega arith)) ∙ h))

  starting_clause : (z : ℤ) → eqZ z (negsuc 0) ≡ true → out ≡ cond high Dropped (Onward (stepped half z r.value r.parity r.error r)) → out ≡ sample_at z now high half r
  unfolding sample_at
  starting_clause (pos j) h e = absurd (false≢true h)
  starting_clause (negsuc zero) h e = e
  starting_clause (negsuc (suc n)) h e = absurd (false≢true (sym (ne_eqb (suc n) 0 (λ q. omega arith)) ∙ h))

  data_at : (j : ℕ) → ltb j r.format.«data» ≡ true
      → out ≡ Onward (stepped half (pos j) (cond high (bit_or r.value (2 ^ j)) r.value) (differ r.parity high) r.error r) → out ≡ sample_at (pos j) now high half r
  unfolding sample_at
  data_at j h e = cond_t (ltb j r.format.«data») _ _ out h e

  parity_at : (j : ℕ) → ltb j r.format.«data» ≡ false → (eqb j r.format.«data» && r.format.parity) ≡ true
      → out ≡ Onward (stepped half (pos j) r.value r.parity (cond (differ high (differ r.parity r.format.odd)) (bit_or r.error 8) r.error) r) → out ≡ sample_at (pos j) now high half r
  unfolding sample_at
  parity_at j h k e =
      cond_f (ltb j r.format.«data») _ _ out h (cond_t (eqb j r.format.«data» && r.format.parity) _ _ out k e)

  stop_at : (j : ℕ) → ltb j r.format.«data» ≡ false → (eqb j r.format.«data» && r.format.parity) ≡ false → out ≡ Whole (stopped high r) → out ≡ sample_at (pos j) now high half r
  unfolding sample_at
  stop_at j h k e =
      cond_f (ltb j r.format.«data») _ _ out h (cond_f (eqb j r.format.«data» && r.format.parity) _ _ out k e)

  data_clause : (z : ℤ) (f : Format) → position_valid z f ≡ true → eqZ z (negsuc 1) ≡ false → eqZ z (negsuc 0) ≡ false → lt_z z (pos r.format.«data») ≡ true
      → out ≡ Onward (stepped half z (cond high (bit_or r.value (bit_at z)) r.value) (differ r.parity high) r.error r) → out ≡ sample_at z now high half r
  data_clause (pos j) f p a b h e = data_at j h e
  data_clause (negsuc zero) f p a b h e = absurd (true≢false b)
  data_clause (negsuc (suc zero)) f p a b h e = absurd (true≢false a)
  data_clause (negsuc (suc (suc n))) f p a b h e = absurd (false≢true p)

  parity_clause : (z : ℤ) (f : Format) → position_valid z f ≡ true → eqZ z (negsuc 1) ≡ false → eqZ z (negsuc 0) ≡ false → lt_z z (pos r.format.«data») ≡ false
      → (eqZ z (pos r.format.«data») && r.format.parity) ≡ true
      → out ≡ Onward (stepped half z r.value r.parity (cond (differ high (differ r.parity r.format.odd)) (bit_or r.error 8) r.error) r) → out ≡ sample_at z now high half r
  parity_clause (pos j) f p a b h k e = parity_at j h k e
  parity_clause (negsuc zero) f p a b h k e = absurd (true≢false b)
  parity_clause (negsuc (suc zero)) f p a b h k e = absurd (true≢false a)
  parity_clause (negsuc (suc (suc n))) f p a b h k e = absurd (false≢true p)

  stop_clause : (z : ℤ) (f : Format) → position_valid z f ≡ true → eqZ z (negsuc 1) ≡ false → eqZ z (negsuc 0) ≡ false → lt_z z (pos r.format.«data») ≡ false
      → (eqZ z (pos r.format.«data») && r.format.parity) ≡ false → out ≡ Whole (stopped high r) → out ≡ sample_at z now high half r
  stop_clause (pos j) f p a b h k e = stop_at j h k e
  stop_clause (negsuc zero) f p a b h k e = absurd (true≢false b)
  stop_clause (negsuc (suc zero)) f p a b h k e = absurd (true≢false a)
  stop_clause (negsuc (suc (suc n))) f p a b h k e = absurd (false≢true p)

  pub at_falling : falling r ≡ true → out ≡ cond (high || now.synchronous) Dropped (Onward (started now half r)) → out ≡ sample now high half r
  unfolding falling
  at_falling h e = falling_clause r.position h e

  pub at_starting : starting r ≡ true → out ≡ cond high Dropped (Onward (stepped half r.position r.value r.parity r.error r)) → out ≡ sample now high half r
  unfolding starting
  at_starting h e = starting_clause r.position h e

  module _ (p : Placed r) (a : falling r ≡ false) (b : starting r ≡ false) where
    pub at_data_cell : in_data r ≡ true
        → out ≡ Onward (stepped half r.position (cond high (bit_or r.value (bit_at r.position)) r.value) (differ r.parity high) r.error r) → out ≡ sample now high half r
    unfolding falling starting in_data
    at_data_cell h e = data_clause r.position r.format p.place a b h e

    pub at_parity_cell : in_data r ≡ false → at_parity r ≡ true
        → out ≡ Onward (stepped half r.position r.value r.parity (cond (differ high (differ r.parity r.format.odd)) (bit_or r.error 8) r.error) r) → out ≡ sample now high half r
    unfolding falling starting in_data at_parity
    at_parity_cell h k e = parity_clause r.position r.format p.place a b h k e

    pub at_stop_cell : in_data r ≡ false → at_parity r ≡ false → out ≡ Whole (stopped high r) → out ≡ sample now high half r
    unfolding falling starting in_data at_parity
    at_stop_cell h k e = stop_clause r.position r.format p.place a b h k e
