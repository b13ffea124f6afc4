-- The rest of the claim, for the receiver alone: after 384 halves at mark no start-stop word is in the receiver.
-- Assumes nothing.
use Rattle.std.specs.Prelude.{Option, None, Some}
use mathlib.Core.Path.{◌≡◌, refl, sym, ap, ◌∙◌, subst}
use Prim.Native.Nat.{ℕ, zero, suc, ◌+◌, ◌-◌, ◌*◌, ◌^◌, ◌≤◌, ◌<◌}
use native.Mathlib.Omega.{arith}
use native.Mathlib.Nat.{mul-le-mul_right}
use native.Mathlib.Decide.{ℕ_discrete}
use mathlib.Core.Bool.{Bool, true, false, cond, not, ◌&&◌, true≢false}
use lib.Dec.{eqb, ltb}
use lib.Bits.{bit_or}
use lib.IntN.{ℤ, pos, negsuc}
use borrow.Author.Tests.{ltb-true, eqb-true, eq-eqb, ne_eqb, not-true}
use Rattle.frame.specs.declared.Format.{Format}
use Rattle.shift.specs.declared.Rx.{Rx}
use Rattle.shift.specs.declared.Sampled.{Sampled}
use Rattle.shift.specs.declared.Sampled.TheVariants.{Dropped, Onward, Whole}
use Rattle.frame.proofs.Truth.{and_left, and_right}
use Rattle.frame.specs.Frame.{differ, has, one_if}
use Rattle.shift.specs.Receiver.{rx_clocked, armed, sample, sample_at, stepped, stopped}
use Rattle.shift.specs.Due.{due_now}
use Rattle.branches.proofs.Branches.{by_cond}
use Rattle.recovery.proofs.Bounds.{Fits, Sound, by_clock, by_half, near, nearer, no_word, v_complete_rx}
use Rattle.recovery.proofs.Halves.{Core, core_advance}
use Rattle.recovery.proofs.View.{View, fall, v_advance, v_advance_on, v_arm, v_arm_on, v_basic, v_can_arm, v_outcome, v_rx}

-- the word is whole or gone after at most `left` halves at mark
abbrev soon : ℤ → Format → ℕ → ℕ → ℕ → Type 0
soon (negsuc k) f h t left = t ≤ h + left
soon (pos j) f h t left = (i : ℕ) × (j + i ≡ f.«data» + one_if f.parity) × (t + i * f.half_bit ≤ h + left)

pub data Calm (h left : ℕ) : Option Rx → Type 0 where
  none : Calm h left None
  clocked : (r : Rx) → r.format.synchronous ≡ true → r.next ≡ None → Calm h left (Some r)
  ending : (r : Rx) (t : ℕ) → r.format.synchronous ≡ false → r.next ≡ Some t → h < t → Sound r.format → near r.position r.format h t
      → soon r.position r.format h t left → Calm h left (Some r)

pub calm_fits : {h left : ℕ} {x : Option Rx} → Calm h left x → Fits h x
calm_fits none = no_word
calm_fits (clocked r c n) = by_clock r c n
calm_fits (ending r t c n lt sr nr s) = by_half r t c n lt sr nr

pub fits_calm : {h : ℕ} {x : Option Rx} → Fits h x → Calm h 384 x
fits_calm no_word = none
fits_calm (by_clock r c n) = clocked r c n
fits_calm {h} (by_half r t c n lt sr nr) = ending r t c n lt sr nr (go r.position r.format sr nr)
  where
    go : (z : ℤ) (f : Format) → Sound f → near z f h t → soon z f h t 384
    go (negsuc zero) f s a = omega arith
    go (negsuc (suc zero)) f s a = omega arith
    go (negsuc (suc (suc k))) f s a = absurd a
    go (pos j) f s a =
        let i : ℕ = f.«data» + one_if f.parity - j in
        let b : i * f.half_bit ≤ 9 * f.half_bit = mul-le-mul_right f.half_bit (omega (arith, s.narrow)) in
        (i, omega (arith, a.1), omega (arith, a.0, s.short))

pub calm_over : {h : ℕ} {x : Option Rx} → Calm h 0 x → rx_clocked x ≡ false → x ≡ None
calm_over none e = refl
calm_over (clocked r c n) e = absurd (true≢false (sym c ∙ e))
calm_over {h} (ending r t c n lt sr nr s) e = absurd (go r.position s)
  where
    go : (z : ℤ) → soon z r.format h t 0 → ⊥
    go (negsuc k) a = omega arith
    go (pos j) a = omega (arith, a.2)

sooner : (z : ℤ) (f : Format) (h u left : ℕ) → h < u → soon z f h u left → soon z f (suc h) u (left - 1)
sooner (negsuc k) f h u left lt a = omega arith
sooner (pos j) f h u left lt a = (a.0, a.1, omega (arith, a.2))

-- ---- a sample at mark
abbrev OutcomeCalm : ℕ → ℕ → Sampled → Type 0
OutcomeCalm h left Dropped = Unit {0}
OutcomeCalm h left (Onward r) = Calm h left (Some r)
OutcomeCalm h left (Whole r) = Unit {0}

sample_calm : (now : Format) (h left : ℕ) (r : Rx) → Sound r.format → r.format.synchronous ≡ false
    → (z : ℤ) → near z r.format h (suc h) → soon z r.format h (suc h) left → OutcomeCalm (suc h) (left - 1) (sample_at z now true (suc h) r)
unfolding sample_at
sample_calm now h left r sr c (negsuc zero) n s = tt
sample_calm now h left r sr c (negsuc (suc zero)) n s = tt
sample_calm now h left r sr c (negsuc (suc (suc k))) n s = tt
sample_calm now h left r sr c (pos j) n s =
    by_cond (OutcomeCalm (suc h) (left - 1)) (ltb j r.format.«data»)
    (Onward (stepped (suc h) (pos j) (bit_or r.value (2 ^ j)) (differ r.parity true) r.error r)) check
    (λ e. next (bit_or r.value (2 ^ j)) (differ r.parity true) r.error s.0 s.1 s.2 (omega (arith, ltb-true j r.format.«data» e)))
    (λ e. by_cond (OutcomeCalm (suc h) (left - 1)) (eqb j r.format.«data» && r.format.parity) (Onward checked) (Whole (stopped true r))
    (λ g. next r.value r.parity (cond (differ true (differ r.parity r.format.odd)) (bit_or r.error 8) r.error) s.0 s.1 s.2
    (omega (arith, eqb-true j r.format.«data» (and_left (eqb j r.format.«data») r.format.parity g), ap one_if (and_right (eqb j r.format.«data») r.format.parity g))))
    (λ g. tt))
  where
    checked : Rx
    checked = stepped (suc h) (pos j) r.value r.parity (cond (differ true (differ r.parity r.format.odd)) (bit_or r.error 8) r.error) r

    check : Sampled
    check = cond (eqb j r.format.«data» && r.format.parity) (Onward checked) (Whole (stopped true r))

    next : (val : ℕ) (par : Bool) (er : ℕ) (i : ℕ) → j + i ≡ r.format.«data» + one_if r.format.parity → suc h + i * r.format.half_bit ≤ h + left
        → suc j ≤ r.format.«data» + one_if r.format.parity → Calm (suc h) (left - 1) (Some (stepped (suc h) (pos j) val par er r))
    next val par er zero a b l = absurd (over a l)
      where
        over : j + 0 ≡ r.format.«data» + one_if r.format.parity → suc j ≤ r.format.«data» + one_if r.format.parity → ⊥
        over a l = omega arith
    next val par er (suc i) a b l =
        ending (stepped (suc h) (pos j) val par er r) (suc h + r.format.half_bit) c refl (omega (arith, sr.long)) sr (omega arith, l) (i, omega arith, omega arith)

outcome_calm : (o : Sampled) (v : View) (h left : ℕ) → OutcomeCalm h left o → Calm h left (v_outcome o v).rx
outcome_calm Dropped v h left t = none
outcome_calm (Onward r) v h left t = t
outcome_calm (Whole r) v h left t = subst (Calm h left) (sym (v_complete_rx (v_rx v None) r)) none

advance_calm : (v : View) (h left : ℕ) → v.half ≡ suc h → v.mark ≡ true → Calm h left v.rx → Calm (suc h) (left - 1) (v_advance v).rx
unfolding v_advance
advance_calm v h left e mk t = go v.rx refl t
  where
    go : (x : Option Rx) → v.rx ≡ x → Calm h left x → Calm (suc h) (left - 1) (v_advance_on x v).rx
    go x q none = subst (Calm (suc h) (left - 1)) (sym q) none
    go x q (clocked r c n) = rw (n, q) (clocked r c n)
    go x q (ending r u c n lt sr nr s) =
        subst (λ (y : Option ℕ). Calm (suc h) (left - 1) (cond (due_now y v.half) (v_outcome (sample v.fmt v.mark v.half r) v) v).rx) (sym n) (due (ℕ_discrete u v.half))
      where
        due : Dec (u ≡ v.half) → Calm (suc h) (left - 1) (cond (eqb u v.half) (v_outcome (sample v.fmt v.mark v.half r) v) v).rx
        due (yes d) =
            rw (eq-eqb u v.half d)
            (outcome_calm (sample v.fmt v.mark v.half r) v (suc h) (left - 1)
            (subst (λ (k : ℕ). OutcomeCalm (suc h) (left - 1) (sample v.fmt v.mark k r)) (sym e)
            (subst (λ (b : Bool). OutcomeCalm (suc h) (left - 1) (sample v.fmt b (suc h) r)) (sym mk)
            (sample_calm v.fmt h left r sr c r.position (subst (near r.position r.format h) (d ∙ e) nr) (subst (λ (y : ℕ). soon r.position r.format h y left) (d ∙ e) s)))))
        due (no d) = rw (ne_eqb u v.half d, q) (ending r u c n (omega arith) sr (nearer r.position r.format h u nr) (sooner r.position r.format h u left lt s))

pub arm_at_mark : (v : View) → v.mark ≡ true → v_arm v ≡ v
unfolding v_arm
arm_at_mark v mk = go v.rx
  where
    go : (x : Option Rx) → v_arm_on x v ≡ v
    go None =
        by_cond (λ (w : View). w ≡ v) (v_can_arm v) (v_rx v (Some (armed v.fmt (fall v.half v.high)))) v
        (λ e. absurd (true≢false (sym mk ∙ not-true v.mark (and_right (not v.fmt.synchronous) (not v.mark) (and_right (not (has v.flags 0x38)) (not v.fmt.synchronous && not v.mark) (and_right v.on (not (has v.flags 0x38) && (not v.fmt.synchronous && not v.mark)) e))))))
        (λ e. refl)
    go (Some r) = refl

pub basic_calm : (v : View) (h left : ℕ) → v.half ≡ suc h → v.mark ≡ true → Calm h left v.rx → Calm (suc h) (left - 1) (v_basic v).rx
unfolding v_basic
basic_calm v h left e mk t =
    subst (λ (w : View). Calm (suc h) (left - 1) w.rx) (sym (arm_at_mark (v_advance v) (ap (λ (k : Core). k.mark) (core_advance v) ∙ mk))) (advance_calm v h left e mk t)
