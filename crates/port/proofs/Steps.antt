-- What the proofs of the port's steps hand to `search`.
-- Assumes nothing.
use Rattle.std.proofs.Common.{◌≡◌, ℕ, ◌*◌, ◌≤◌, Bool, true, cond, sym, ap, ◌∙◌, le_trans, mul-le-mul_right, mul-le-mul_left}
use Rattle.frame.specs.declared.Format.{Format}
use Rattle.frame.specs.Frame.{format, word, format_valid}
use borrow.Author.Rules.{rules}
use Rattle.frame.proofs.Choose.{cond_t, cond_f, flag_t, flag_f}
use Rattle.frame.proofs.Words.{shape, format_good}
use Rattle.shift.specs.declared.Rx.{Rx}
use Rattle.shift.specs.declared.Sampled.TheVariants.{Onward, Whole}
use Rattle.shift.specs.Private.Ready.{Bounded}

-- ---- formats
pub valid_bounded : (f : Format) → format_valid f ≡ true → Bounded f
valid_bounded f h =
    let s = shape f h in
    record { data≤8 = s.wide; stops≥1 = s.one; stops≤2 = s.two; half≤32 = s.short; half≥16 = s.long }

pub onward_eq : (a b : Rx) → a ≡ b → Onward a ≡ Onward b
onward_eq a b e = ap Onward e

pub whole_eq : (a b : Rx) → a ≡ b → Whole a ≡ Whole b
whole_eq a b e = ap Whole e

pub ruleset step = (cond_t, cond_f, flag_t, flag_f, onward_eq, whole_eq, rules)

-- ---- a product
pub product≤ : (m n a b : ℕ) → m ≤ a → n ≤ b → m * n ≤ a * b
product≤ m n a b hm hn = le_trans (mul-le-mul_right n hm) (mul-le-mul_left a hn)

-- ---- what a call gave
-- the word of a value in the format that the registers give
pub word_now : (w : ℕ) (f : Format) (smr semr v : ℕ) → w ≡ cond (format_valid f) (word f v) 0 → f ≡ format smr semr → w ≡ word (format smr semr) v
word_now w f smr semr v e h =
    e ∙ ap (λ (x : Format). cond (format_valid x) (word x v) 0) h ∙ ap (λ (b : Bool). cond b (word (format smr semr) v) 0) (format_good smr semr)
