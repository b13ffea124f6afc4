-- One half, by what the receiver is waiting for.
-- Assumes nothing.
use Rattle.std.specs.Prelude.{None, Some, Option}
use mathlib.Core.Path.{◌≡◌, refl, sym, ap, ◌∙◌, subst}
use mathlib.Core.Logic.{◌≢◌, ◌⊎◌, inl, inr}
use Prim.Native.Nat.{ℕ, suc, ◌+◌, ◌-◌, ◌*◌, ◌/◌, ◌%◌, ◌^◌, ◌<◌}
use native.Mathlib.Omega.{arith}
use native.Mathlib.Nat.{le_refl, le_of_eq, pow-suc, le_of_lt, one-mul}
use mathlib.Core.Bool.{Bool, true, false, cond, not, ◌&&◌}
use mathlib.Core.List.{List, [], ◌∷◌, ◌++◌}
use lib.Dec.{eqb}
use lib.Bits.{bit_or, or_shifted_r}
use lib.ListN.{length, take, get_or}
use lib.Seq.{take-suc, length-take-le, take_all}
use lib.IntN.{ℤ, pos, negsuc}
use borrow.Author.Tests.{lt-ltb, le-ltb, eq-eqb, ne_eqb}
use Rattle.frame.specs.declared.Format.{Format}
use Rattle.shift.specs.declared.Rx.{Rx}
use Rattle.frame.proofs.Laws.{two}
use Rattle.frame.proofs.Words.{number_lt}
use Rattle.frame.specs.Frame.{differ, has, number, ones, one_if, parity_bit}
use Rattle.shift.specs.Receiver.{sample_at}
use Rattle.recovery.proofs.View.{fall, state, v_advance, v_arm, v_basic, v_count, v_half}

-- the receiver's running parity of these bits: whether the ones are odd in number
abbrev pub odd_ones : List Bool → Bool
odd_ones bs = eqb (ones bs % 2) 1

-- the word in the receiver after the start cell and j cells more, with these data bits
abbrev pub rx_at : Format → List Bool → ℕ → ℕ → Rx
rx_at f bs j t =
    record { format = f; value = number (take j bs); position = pos j; parity = odd_ones (take j bs); error = 0; next = Some t }

-- the word that waits at minus one or minus two
abbrev pub rx_wait : Format → ℤ → ℕ → Rx
rx_wait f z t = record { format = f; value = 0; position = z; parity = false; error = 0; next = Some t }

pub and_false : (a : Bool) → a && false ≡ false
and_false true = refl
and_false false = refl

-- a number with one bit more on top
number_snoc : (bs : List Bool) (b : Bool) → number (bs ++ (b ∷ [])) ≡ number bs + one_if b * 2 ^ length bs
unfolding number
number_snoc [] true = refl
number_snoc [] false = refl
number_snoc (a ∷ bs) b = rw (number_snoc bs b, pow-suc 2 (length bs)) (omega arith)

-- a one on top is the or
or_top : (bs : List Bool) (j : ℕ) → length bs ≡ j → bit_or (number bs) (2 ^ j) ≡ number bs + 2 ^ j
or_top bs j e =
    ap (λ (x : ℕ). bit_or (number bs) x) (sym (one-mul (2 ^ j)))
    ∙ or_shifted_r 1 j (number bs) (subst (λ (k : ℕ). number bs < 2 ^ k) e (number_lt bs))
    ∙ omega arith

ones_snoc : (bs : List Bool) (b : Bool) → ones (bs ++ (b ∷ [])) ≡ ones bs + one_if b
unfolding ones
ones_snoc [] b = omega arith
ones_snoc (a ∷ bs) b = rw (ones_snoc bs b) (omega arith)

-- with a flag more the remainder turns where the flag is set, as the running parity does
odd_with : (n : ℕ) (b : Bool) → eqb ((n + one_if b) % 2) 1 ≡ differ (eqb (n % 2) 1) b
odd_with n b = go (two n) b
  where
    go : ((n % 2 ≡ 0) ⊎ (n % 2 ≡ 1)) → (b : Bool) → eqb ((n + one_if b) % 2) 1 ≡ differ (eqb (n % 2) 1) b
    go (inl e) true = let g : (n + 1) % 2 ≡ 1 = omega arith in rw (e, g)
    go (inl e) false = let g : (n + 0) % 2 ≡ 0 = omega arith in rw (e, g)
    go (inr e) true = let g : (n + 1) % 2 ≡ 0 = omega arith in rw (e, g)
    go (inr e) false = let g : (n + 0) % 2 ≡ 1 = omega arith in rw (e, g)

-- the value with the next data bit
next_value : (bs : List Bool) (j : ℕ) → j < length bs
    → cond (get_or bs j false) (bit_or (number (take j bs)) (2 ^ j)) (number (take j bs)) ≡ number (take (suc j) bs)
next_value bs j lt = rw (take-suc bs j false, number_snoc (take j bs) (get_or bs j false), length-take-le j bs (le_of_lt lt)) (go (get_or bs j false))
  where
    go : (b : Bool) → cond b (bit_or (number (take j bs)) (2 ^ j)) (number (take j bs)) ≡ number (take j bs) + one_if b * 2 ^ j
    go true = rw (or_top (take j bs) j (length-take-le j bs (le_of_lt lt))) (omega arith)
    go false = omega arith

next_parity : (bs : List Bool) (j : ℕ) → j < length bs → differ (odd_ones (take j bs)) (get_or bs j false) ≡ odd_ones (take (suc j) bs)
next_parity bs j lt = rw (take-suc bs j false, ones_snoc (take j bs) (get_or bs j false)) (sym (odd_with (ones (take j bs)) (get_or bs j false)))

past_parity : (w : ℕ) (p : Bool) → (eqb (w + one_if p) w && p) ≡ false
past_parity w true = rw (ne_eqb (w + 1) w (omega arith))
past_parity w false = and_false (eqb (w + 0) w)

pub arm_mark : (f : Format) (h : ℕ) (hi : Bool) (s d n : ℕ) → v_arm (state f None h hi true s d n) ≡ state f None h hi true s d n
unfolding v_arm
arm_mark f h hi s d n = simp and_false

-- the line leaves mark
pub line_arms : (f : Format) (h : ℕ) (hi : Bool) (s d n : ℕ) → f.synchronous ≡ false → has s 0x38 ≡ false
    → v_arm (state f None h hi false s d n) ≡ state f (Some (rx_wait f (negsuc 1) (fall h hi))) h hi false s d n
unfolding v_arm
line_arms f h hi s d n c e = rw (e, c)

module _ (f : Format) (h : ℕ) (hi : Bool) (s d n : ℕ) where
  -- not due: the half is counted, and nothing else
  pub quiet : (m : Bool) (fr : Format) (val : ℕ) (z : ℤ) (par : Bool) (er t : ℕ) → t ≢ suc h
      → let x : Option Rx = Some (record { format = fr; value = val; position = z; parity = par; error = er; next = Some t }) in
      v_half (state f x h hi m s d n) ≡ state f x (suc h) (not hi) m s d n
  unfolding v_half v_basic v_advance v_arm
  quiet m fr val z par er t ne = rw (ne_eqb t (suc h) ne)

  -- mark, and no word in the receiver
  pub idle : v_half (state f None h hi true s d n) ≡ state f None (suc h) (not hi) true s d n
  unfolding v_half v_basic v_advance v_arm
  idle = simp (and_false)

  -- at minus two: at mark the word is dropped, else it goes on
  pub false_start : v_half (state f (Some (rx_wait f (negsuc 1) (suc h))) h hi true s d n) ≡ state f None (suc h) (not hi) true s d n
  unfolding v_half v_basic v_advance v_arm sample_at
  false_start = rw (eq-eqb (suc h) (suc h) refl) (simp and_false)

  pub falls : f.synchronous ≡ false
      → v_half (state f (Some (rx_wait f (negsuc 1) (suc h))) h hi false s d n)
      ≡ state f (Some (rx_wait f (negsuc 0) (suc h + f.half_bit / 2 - 1))) (suc h) (not hi) false s d n
  unfolding v_half v_basic v_advance v_arm sample_at
  falls c = rw (eq-eqb (suc h) (suc h) refl, c)

  pub starts : (bs : List Bool) →
      v_half (state f (Some (rx_wait f (negsuc 0) (suc h))) h hi false s d n)
      ≡ state f (Some (rx_at f bs 0 (suc h + f.half_bit))) (suc h) (not hi) false s d n
  unfolding v_half v_basic v_advance v_arm sample_at number ones
  starts bs = rw (eq-eqb (suc h) (suc h) refl)

  pub takes : (bs : List Bool) (j : ℕ) → j < length bs → length bs ≡ f.«data»
      → v_half (state f (Some (rx_at f bs j (suc h))) h hi (get_or bs j false) s d n)
      ≡ state f (Some (rx_at f bs (suc j) (suc h + f.half_bit))) (suc h) (not hi) (get_or bs j false) s d n
  unfolding v_half v_basic v_advance v_arm sample_at
  takes bs j lt e =
      rw (eq-eqb (suc h) (suc h) refl, lt-ltb j f.«data» (subst (λ (k : ℕ). j < k) e lt), next_value bs j lt, next_parity bs j lt)

  pub checks : (bs : List Bool) → length bs ≡ f.«data» → f.parity ≡ true
      → v_half (state f (Some (rx_at f bs f.«data» (suc h))) h hi (eqb (parity_bit f bs) 1) s d n)
      ≡ state f (Some (rx_at f bs (suc f.«data») (suc h + f.half_bit))) (suc h) (not hi) (eqb (parity_bit f bs) 1) s d n
  unfolding v_half v_basic v_advance v_arm sample_at
  checks bs e p =
      rw (eq-eqb (suc h) (suc h) refl, le-ltb f.«data» f.«data» (le_refl f.«data»), eq-eqb f.«data» f.«data» refl, p, take_all f.«data» bs (le_of_eq e), take_all (suc f.«data») bs (omega (arith, e)))
      (rw (odd_with (ones bs) f.odd, same (differ (odd_ones bs) f.odd)))
    where
      same : (b : Bool) → differ b b ≡ false
      same true = refl
      same false = refl

  stop_advance : (bs : List Bool) → length bs ≡ f.«data»
      → v_advance (v_count (state f (Some (rx_at f bs (f.«data» + one_if f.parity) (suc h))) h hi true 0 d n))
      ≡ state f None (suc h) (not hi) true 0x40 (number bs) (suc n % 2 ^ 64)
  unfolding v_advance sample_at
  stop_advance bs e =
      rw (eq-eqb (suc h) (suc h) refl, le-ltb (f.«data» + one_if f.parity) f.«data» (omega arith), past_parity f.«data» f.parity, take_all (f.«data» + one_if f.parity) bs (omega (arith, e)))

  -- the first stop cell, with the flags clear: the word is whole
  pub stops_at : (bs : List Bool) → length bs ≡ f.«data»
      → v_half (state f (Some (rx_at f bs (f.«data» + one_if f.parity) (suc h))) h hi true 0 d n)
      ≡ state f None (suc h) (not hi) true 0x40 (number bs) (suc n % 2 ^ 64)
  unfolding v_half v_basic
  stops_at bs e = ap v_arm (stop_advance bs e) ∙ arm_mark f (suc h) (not hi) 0x40 (number bs) (suc n % 2 ^ 64)
