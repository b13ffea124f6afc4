-- The word in the receiver against the half count: its due half is near, in every state that a fresh port comes to.
-- Assumes nothing.
use Rattle.std.specs.Prelude.{Option, None, Some}
use mathlib.Core.Path.{◌≡◌, refl, sym, ap, ◌∙◌, subst}
use Prim.Native.Nat.{ℕ, zero, suc, ◌+◌, ◌-◌, ◌/◌, ◌^◌, ◌≤◌, ◌<◌}
use native.Mathlib.Omega.{arith}
use native.Mathlib.Decide.{ℕ_discrete}
use mathlib.Core.Bool.{Bool, true, false, cond, not, ◌&&◌, ◌||◌}
use lib.Dec.{eqb, ltb}
use lib.Bits.{bit_or}
use lib.IntN.{ℤ, pos, negsuc}
use borrow.Author.Tests.{ltb-true, eqb-true, eq-eqb, ne_eqb, not-true}
use Rattle.frame.specs.declared.Format.{Format}
use Rattle.shift.specs.declared.Rx.{Rx}
use Rattle.shift.specs.declared.Sampled.{Sampled}
use Rattle.shift.specs.declared.Sampled.TheVariants.{Dropped, Onward, Whole}
use Rattle.frame.proofs.Truth.{and_left, and_right}
use Rattle.frame.proofs.Words.{Shape, format_good, shape}
use Rattle.frame.specs.Frame.{differ, format, has, one_if}
use Rattle.shift.specs.Receiver.{armed, sample, sample_at, started, stepped, stopped}
use Rattle.shift.specs.Due.{due_now}
use Rattle.branches.proofs.Branches.{by_cond, or_right}
use Rattle.frame.proofs.Laws.{one_if≤}
use Rattle.recovery.proofs.View.{View, fall, v_advance, v_advance_on, v_arm, v_arm_on, v_basic, v_can_arm, v_complete, v_outcome, v_rx}

-- what every format of some SMR and SEMR has
pub record Sound (f : Format) : Type 0 where
  pub long : 16 ≤ f.half_bit
  pub short : f.half_bit ≤ 32
  pub narrow : f.«data» + one_if f.parity ≤ 9
  pub stops : 0 < f.stops

pub format_sound : (smr semr : ℕ) → Sound (format smr semr)
format_sound smr semr =
    let g : Shape (format smr semr) = shape (format smr semr) (format_good smr semr) in
    record { long = g.long; short = g.short; narrow = omega (arith, g.wide, one_if≤ (format smr semr).parity); stops = g.one }

-- how near the due half t is, by position
abbrev pub near : ℤ → Format → ℕ → ℕ → Type 0
near (negsuc zero) f h t = t ≤ h + 16
near (negsuc (suc zero)) f h t = t ≤ h + 2
near (negsuc (suc (suc n))) f h t = ⊥
near (pos j) f h t = (t ≤ h + f.half_bit) × (j ≤ f.«data» + one_if f.parity)

pub data Fits (h : ℕ) : Option Rx → Type 0 where
  no_word : Fits h None
  by_clock : (r : Rx) → r.format.synchronous ≡ true → r.next ≡ None → Fits h (Some r)
  by_half : (r : Rx) (t : ℕ) → r.format.synchronous ≡ false → r.next ≡ Some t → h < t → Sound r.format → near r.position r.format h t → Fits h (Some r)

-- ---- a sample
abbrev OutcomeFits : ℕ → Sampled → Type 0
OutcomeFits h Dropped = Unit {0}
OutcomeFits h (Onward r) = Fits h (Some r)
OutcomeFits h (Whole r) = Unit {0}

sample_fits : (now : Format) (high : Bool) (h : ℕ) (r : Rx) → Sound now → Sound r.format → r.format.synchronous ≡ false
    → (z : ℤ) → near z r.format h (suc h) → OutcomeFits (suc h) (sample_at z now high (suc h) r)
unfolding sample_at
sample_fits now high h r sn sr c (negsuc zero) n =
    by_cond (OutcomeFits (suc h)) high Dropped (Onward (stepped (suc h) (negsuc zero) r.value r.parity r.error r)) (λ e. tt)
    (λ e. by_half (stepped (suc h) (negsuc zero) r.value r.parity r.error r) (suc h + r.format.half_bit) c refl (omega (arith, sr.long)) sr (omega arith, omega arith))
sample_fits now high h r sn sr c (negsuc (suc zero)) n =
    by_cond (OutcomeFits (suc h)) (high || now.synchronous) Dropped (Onward (started now (suc h) r)) (λ e. tt)
    (λ e. by_half (started now (suc h) r) (suc h + now.half_bit / 2 - 1) (or_right high now.synchronous e) refl (omega (arith, sn.long)) sn (omega (arith, sn.short)))
sample_fits now high h r sn sr c (negsuc (suc (suc k))) n = tt
sample_fits now high h r sn sr c (pos j) n =
    by_cond (OutcomeFits (suc h)) (ltb j r.format.«data»)
    (Onward (stepped (suc h) (pos j) (cond high (bit_or r.value (2 ^ j)) r.value) (differ r.parity high) r.error r)) check
    (λ e. by_half (stepped (suc h) (pos j) (cond high (bit_or r.value (2 ^ j)) r.value) (differ r.parity high) r.error r) (suc h + r.format.half_bit) c refl
    (omega (arith, sr.long)) sr (omega arith, omega (arith, ltb-true j r.format.«data» e)))
    (λ e. by_cond (OutcomeFits (suc h)) (eqb j r.format.«data» && r.format.parity) (Onward checked) (Whole (stopped high r))
    (λ g. by_half checked (suc h + r.format.half_bit) c refl (omega (arith, sr.long)) sr
    (omega arith, omega (arith, eqb-true j r.format.«data» (and_left (eqb j r.format.«data») r.format.parity g), ap one_if (and_right (eqb j r.format.«data») r.format.parity g))))
    (λ g. tt))
  where
    checked : Rx
    checked = stepped (suc h) (pos j) r.value r.parity (cond (differ high (differ r.parity r.format.odd)) (bit_or r.error 8) r.error) r

    check : Sampled
    check = cond (eqb j r.format.«data» && r.format.parity) (Onward checked) (Whole (stopped high r))

-- ---- the receiver's functions
pub v_complete_rx : (v : View) (r : Rx) → (v_complete v r).rx ≡ v.rx
v_complete_rx v r = by_cond (λ (w : View). w.rx ≡ v.rx) (has v.flags 0x40) _ _ (λ e. refl) (λ e. by_cond (λ (w : View). w.rx ≡ v.rx) (eqb r.error 0) _ _ (λ g. refl) (λ g. refl))

v_complete_half : (v : View) (r : Rx) → (v_complete v r).half ≡ v.half
v_complete_half v r = by_cond (λ (w : View). w.half ≡ v.half) (has v.flags 0x40) _ _ (λ e. refl) (λ e. by_cond (λ (w : View). w.half ≡ v.half) (eqb r.error 0) _ _ (λ g. refl) (λ g. refl))

outcome_fits : (o : Sampled) (v : View) (h : ℕ) → OutcomeFits h o → Fits h (v_outcome o v).rx
outcome_fits Dropped v h t = no_word
outcome_fits (Onward r) v h t = t
outcome_fits (Whole r) v h t = subst (Fits h) (sym (v_complete_rx (v_rx v None) r)) no_word

outcome_half : (o : Sampled) (v : View) → (v_outcome o v).half ≡ v.half
outcome_half Dropped v = refl
outcome_half (Onward r) v = refl
outcome_half (Whole r) v = v_complete_half (v_rx v None) r

pub advance_half : (v : View) → (v_advance v).half ≡ v.half
unfolding v_advance
advance_half v = go v.rx
  where
    go : (x : Option Rx) → (v_advance_on x v).half ≡ v.half
    go None = refl
    go (Some r) = by_cond (λ (w : View). w.half ≡ v.half) (due_now r.next v.half) _ _ (λ e. outcome_half (sample v.fmt v.mark v.half r) v) (λ e. refl)

pub arm_half : (v : View) → (v_arm v).half ≡ v.half
unfolding v_arm
arm_half v = go v.rx
  where
    go : (x : Option Rx) → (v_arm_on x v).half ≡ v.half
    go None = by_cond (λ (w : View). w.half ≡ v.half) (v_can_arm v) (v_rx v (Some (armed v.fmt (fall v.half v.high)))) v (λ e. refl) (λ e. refl)
    go (Some r) = refl

fall_after : (h : ℕ) (b : Bool) → h < fall h b
fall_after h true = omega arith
fall_after h false = omega arith

fall_near : (h : ℕ) (b : Bool) → fall h b ≤ h + 2
fall_near h true = omega arith
fall_near h false = omega arith

can_plain : (v : View) → v_can_arm v ≡ true → v.fmt.synchronous ≡ false
can_plain v b =
    not-true v.fmt.synchronous
    (and_left (not v.fmt.synchronous) (not v.mark)
    (and_right (not (has v.flags 0x38)) (not v.fmt.synchronous && not v.mark) (and_right v.on (not (has v.flags 0x38) && (not v.fmt.synchronous && not v.mark)) b)))

pub arm_fits : (v : View) → Sound v.fmt → Fits v.half v.rx → Fits v.half (v_arm v).rx
unfolding v_arm
arm_fits v sf t = go v.rx refl t
  where
    go : (x : Option Rx) → v.rx ≡ x → Fits v.half x → Fits v.half (v_arm_on x v).rx
    go None e g =
        by_cond (λ (w : View). Fits v.half w.rx) (v_can_arm v) (v_rx v (Some (armed v.fmt (fall v.half v.high)))) v
        (λ b. by_half (armed v.fmt (fall v.half v.high)) (fall v.half v.high) (can_plain v b) refl (fall_after v.half v.high) sf (fall_near v.half v.high))
        (λ b. subst (Fits v.half) (sym e) g)
    go (Some r) e g = subst (Fits v.half) (sym e) g

pub nearer : (z : ℤ) (g : Format) (h u : ℕ) → near z g h u → near z g (suc h) u
nearer (negsuc zero) g h u a = omega arith
nearer (negsuc (suc zero)) g h u a = omega arith
nearer (negsuc (suc (suc k))) g h u a = a
nearer (pos j) g h u a = (omega arith, a.1)

-- a counted half: the word is sampled if it is due
pub advance_fits : (v : View) (h : ℕ) → v.half ≡ suc h → Sound v.fmt → Fits h v.rx → Fits (suc h) (v_advance v).rx
unfolding v_advance
advance_fits v h e sf t = go v.rx refl t
  where
    go : (x : Option Rx) → v.rx ≡ x → Fits h x → Fits (suc h) (v_advance_on x v).rx
    go x q no_word = subst (Fits (suc h)) (sym q) no_word
    go x q (by_clock r c n) = rw (n, q) (by_clock r c n)
    go x q (by_half r u c n lt sr nr) =
        subst (λ (y : Option ℕ). Fits (suc h) (cond (due_now y v.half) (v_outcome (sample v.fmt v.mark v.half r) v) v).rx) (sym n) (due (ℕ_discrete u v.half))
      where
        due : Dec (u ≡ v.half) → Fits (suc h) (cond (eqb u v.half) (v_outcome (sample v.fmt v.mark v.half r) v) v).rx
        due (yes d) =
            rw (eq-eqb u v.half d)
            (outcome_fits (sample v.fmt v.mark v.half r) v (suc h)
            (subst (λ (k : ℕ). OutcomeFits (suc h) (sample v.fmt v.mark k r)) (sym e)
            (sample_fits v.fmt v.mark h r sf sr c r.position (subst (near r.position r.format h) (d ∙ e) nr))))
        due (no d) = rw (ne_eqb u v.half d, q) (by_half r u c n (omega arith) sr (nearer r.position r.format h u nr))

-- not due: nothing
pub advance_quiet : (v : View) → Fits v.half v.rx → v_advance v ≡ v
unfolding v_advance
advance_quiet v t = go v.rx t
  where
    go : (x : Option Rx) → Fits v.half x → v_advance_on x v ≡ v
    go x no_word = refl
    go x (by_clock r c n) = rw n
    go x (by_half r u c n lt sr nr) = rw (n, ne_eqb u v.half (omega arith))

pub arm_twice : (v : View) → v_arm (v_arm v) ≡ v_arm v
unfolding v_arm
arm_twice v = go v.rx refl
  where
    go : (x : Option Rx) → v.rx ≡ x → v_arm_on (v_arm_on x v).rx (v_arm_on x v) ≡ v_arm_on x v
    go None e = two (v_can_arm v) refl
      where
        two : (b : Bool) → v_can_arm v ≡ b → v_arm_on (cond b (v_rx v (Some (armed v.fmt (fall v.half v.high)))) v).rx (cond b (v_rx v (Some (armed v.fmt (fall v.half v.high)))) v)
            ≡ cond b (v_rx v (Some (armed v.fmt (fall v.half v.high)))) v
        two true q = refl
        two false q = rw (e, q)
    go (Some r) e = rw e

pub advance_fmt : (v : View) → (v_advance v).fmt ≡ v.fmt
unfolding v_advance
advance_fmt v = go v.rx
  where
    outc : (o : Sampled) → (v_outcome o v).fmt ≡ v.fmt
    outc Dropped = refl
    outc (Onward r) = refl
    outc (Whole r) =
        by_cond (λ (w : View). w.fmt ≡ v.fmt) (has v.flags 0x40) _ _ (λ e. refl) (λ e. by_cond (λ (w : View). w.fmt ≡ v.fmt) (eqb r.error 0) _ _ (λ g. refl) (λ g. refl))

    go : (x : Option Rx) → (v_advance_on x v).fmt ≡ v.fmt
    go None = refl
    go (Some r) = by_cond (λ (w : View). w.fmt ≡ v.fmt) (due_now r.next v.half) (v_outcome (sample v.fmt v.mark v.half r) v) v (λ e. outc (sample v.fmt v.mark v.half r)) (λ e. refl)

-- basic work at a counted half keeps the bound, and done twice is done once
pub basic_fits : (v : View) (h : ℕ) → v.half ≡ suc h → Sound v.fmt → Fits h v.rx → Fits (suc h) (v_basic v).rx
unfolding v_basic
basic_fits v h e sf t =
    let q : (v_advance v).half ≡ suc h = advance_half v ∙ e in
    subst (λ (k : ℕ). Fits k (v_arm (v_advance v)).rx) q
    (arm_fits (v_advance v) (subst Sound (sym (advance_fmt v)) sf) (subst (λ (k : ℕ). Fits k (v_advance v).rx) (sym q) (advance_fits v h e sf t)))

pub basic_half : (v : View) → (v_basic v).half ≡ v.half
unfolding v_basic
basic_half v = arm_half (v_advance v) ∙ advance_half v

basic_quiet : (v : View) (h : ℕ) → v.half ≡ suc h → Sound v.fmt → Fits h v.rx → v_advance (v_basic v) ≡ v_basic v
basic_quiet v h e sf t = advance_quiet (v_basic v) (subst (λ (k : ℕ). Fits k (v_basic v).rx) (sym (basic_half v ∙ e)) (basic_fits v h e sf t))

pub basic_twice : (v : View) (h : ℕ) → v.half ≡ suc h → Sound v.fmt → Fits h v.rx → v_basic (v_basic v) ≡ v_basic v
unfolding v_basic
basic_twice v h e sf t = ap v_arm (basic_quiet v h e sf t) ∙ arm_twice (v_advance v)
