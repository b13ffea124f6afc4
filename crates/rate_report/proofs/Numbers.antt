-- A number with its sign, and an argument read digit by digit.
-- Assumes nothing.
use Rattle.std.proofs.Common.{◌≡◌, ℕ, zero, suc, ◌+◌, ◌-◌, ◌*◌, ◌<◌, min, Bool, true, false, not, ◌&&◌, ◌==◌, List, [], ◌∷◌, ◌++◌, length, take, get_or, None, refl, true≢false, arith}
use Rattle.std.proofs.Math.Bool.{and-false}
use mathlib.Core.List.{append_assoc}
use Rattle.std.specs.Bool.{then_some}
use Rattle.std.specs.Char.{is_ascii_digit}
use Rattle.std.proofs.lemmas.List.{take_more}
use borrow.Author.Tests.{ltb-true}
use Prim.Native.Nat.compare
use lib.IntN.{ℤ, pos, negsuc, nat_abs}
use lib.Signed.{lt_z}
use Rattle.text.specs.Decimal.{decimal, value}
use Rattle.text.proofs.Decimals.{value_last}
use Rattle.rate_report.specs.Lines.{signed}
use Rattle.rate_report.specs.Printout.{digits_alone, greatest, number}

pub negative : (n : ℤ) (before : List ℕ) → lt_z n (pos 0) ≡ true → (before ++ (45 ∷ [])) ++ decimal (nat_abs n) ≡ before ++ signed n
unfolding signed
negative (pos n) before h = absurd (omega (arith, ltb-true n 0 h))
negative (negsuc n) before h = append_assoc before (45 ∷ []) (decimal (suc n))

pub not_negative : (n : ℤ) (before : List ℕ) → lt_z n (pos 0) ≡ false → before ++ decimal (nat_abs n) ≡ before ++ signed n
unfolding signed
not_negative (pos n) before h = refl
not_negative (negsuc n) before h = absurd (true≢false h)

-- setting, numerator and denominator, with what stands between them
pub joined : (a b d : List ℕ) → (((a ++ b) ++ (47 ∷ [])) ++ d) ++ (10 ∷ []) ≡ a ++ (b ++ (47 ∷ (d ++ (10 ∷ []))))
joined a b d = simp append_assoc

-- ---- an argument
and_step : (a b c : Bool) → (a && b) ≡ true → (b ≡ true → c ≡ true) → (a && c) ≡ true
and_step true b c h f = f h
and_step false b c h f = h

digits_more : (ds : List ℕ) (d : ℕ) → digits_alone ds ≡ true → is_ascii_digit d ≡ true → digits_alone (ds ++ (d ∷ [])) ≡ true
digits_more [] d h e = rw e
digits_more (x ∷ ds) d h e = and_step (is_ascii_digit x) (digits_alone ds) (digits_alone (ds ++ (d ∷ []))) h (λ k. digits_more ds d k e)

-- the digits up to a place and what they make, and one more
pub one_more : (text : List ℕ) (i v : ℕ) → i < length text → digits_alone (take i text) ≡ true → v ≡ min (value 0 (take i text)) greatest
    → is_ascii_digit (get_or text i 0) ≡ true
    → (digits_alone (take (i + 1) text) ≡ true)
    × (min (min (v * 10) greatest + (get_or text i 0 - 48)) greatest ≡ min (value 0 (take (i + 1) text)) greatest)
one_more text i v h k m e =
    rw (take_more text i 0 h) (digits_more (take i text) (get_or text i 0) k e, rw (value_last 0 (take i text) (get_or text i 0), m) (omega arith))

-- a byte that is no digit
wrong : (ds : List ℕ) (i : ℕ) → i < length ds → is_ascii_digit (get_or ds i 0) ≡ false → digits_alone ds ≡ false
wrong [] i h e = absurd (omega arith)
wrong (x ∷ ds) zero h e = rw e
wrong (x ∷ ds) (suc i) h e = rw (wrong ds i (omega arith) e) (and-false (is_ascii_digit x))

pub one_wrong : (ds : List ℕ) (i : ℕ) → i < length ds → is_ascii_digit (get_or ds i 0) ≡ false → number ds ≡ None
unfolding number
one_wrong [] i h e = refl
one_wrong (x ∷ ds) i h e = rw (wrong (x ∷ ds) i h e)

pub all_right : (ds : List ℕ) → digits_alone ds ≡ true → number ds ≡ then_some (not (length ds == 0)) (min (value 0 ds) greatest)
unfolding number
all_right [] e = refl
all_right (x ∷ ds) e = rw (e, compare.suc-zero)
