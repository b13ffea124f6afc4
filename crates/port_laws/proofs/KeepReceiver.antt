-- The field test is kept: all but the sender and the clocked edge, that is the receiver's word, the registers, and where the present cell began.
-- Assumes nothing.
use Rattle.std.specs.Prelude.{Option, None, Some}
use mathlib.Core.Path.{◌≡◌, refl, sym, ap, ◌∙◌, subst}
use mathlib.Core.Logic.{◌≢◌, ◌⊎◌, inl, inr}
use Prim.Native.Nat.{ℕ, zero, suc, ◌+◌, ◌≤◌}
use native.Mathlib.Omega.{arith}
use native.Mathlib.Nat.{le_of_eq}
use mathlib.Core.Bool.{Bool, true, false, cond, not, ◌&&◌, ◌||◌, true≢false}
use lib.Dec.{eqb, ltb}
use lib.Bits.{bit_and, bit_or}
use lib.IntN.{ℤ, pos, negsuc}
use borrow.Author.Tests.{ltb-true, eqb-true, eqb-false, not-true}
use Rattle.frame.specs.declared.Format.{Format}
use Rattle.frame.specs.Frame.{has, differ, one_if, format_valid}
use Rattle.frame.proofs.Truth.{and_left, and_right}
use Rattle.frame.proofs.Words.{shape, format_good}
use Rattle.port.specs.declared.Port.{Port}
use Rattle.shift.specs.declared.Rx.{Rx}
use Rattle.shift.specs.declared.Sampled.{Sampled}
use Rattle.shift.specs.declared.Sampled.TheVariants.{Dropped, Onward, Whole}
use Rattle.port.specs.Fields.{with_rx, with_ssr}
use Rattle.port.specs.Baud.{format_of, next_fall}
use Rattle.shift.specs.Due.{due_now}
use Rattle.shift.specs.Receiver.{armed, started, stepped, next_position, sample_at, sample, last_bit, bit_taken, clocked_word, rx_next}
use Rattle.port.specs.Receiver.{input_level, error_free, arms, arm_receive, arm_receive_on, complete_receive, after_sample, advance_rx, advance_rx_on}
use Rattle.port.specs.Clocked.{take_bit, receive_bit, receive_bit_on}
use Rattle.branches.proofs.Branches.{by_cond, or_right}
use Rattle.port_laws.proofs.Masks.{or_clear, and_clear}
use Rattle.port.proofs.SenderKeeps.{SenderClosed}
use Rattle.port_laws.proofs.KeepSender.{Ahead, DueBy, later_by, plain_due, by_maybe, not_due}

-- ---- the facts
-- the last position of a word
abbrev pub last_position : Format → ℕ
last_position f = cond f.synchronous 7 (f.«data» + one_if f.parity)

abbrev pub PositionFits : ℤ → Format → Type 0
PositionFits (negsuc (suc (suc n))) f = ⊥
PositionFits (negsuc (suc zero)) f = f.synchronous ≡ false
PositionFits (negsuc zero) f = f.synchronous ≡ false
PositionFits (pos j) f = j ≤ last_position f

pub record RxGood (h : ℕ) (r : Rx) : Type 0 where
  pub format : format_valid r.format ≡ true
  pub place : PositionFits r.position r.format
  pub error : (r.error ≡ 0) ⊎ (r.error ≡ 8)
  pub due : DueBy r.format.synchronous h r.next

abbrev pub RxFits : ℕ → Option Rx → Type 0
RxFits h None = Unit {0}
RxFits h (Some r) = RxGood h r

pub record Storable (spcr scr semr ircr : ℕ) : Type 0 where
  pub spcr_bits : bit_or (bit_and spcr 0x13) 0xc0 ≡ spcr
  pub scr_bits : bit_and scr 8 ≡ 0
  pub semr_bits : bit_and semr 8 ≡ semr
  pub ircr_bits : bit_and ircr 0x70 ≡ ircr

-- the half count is h, the receiver's word is due after k. A record of fields, so that a port with other fields changed has the same one
pub record Beside (h k half : ℕ) (x : Option Rx) (start ssr seen spcr scr semr ircr : ℕ) : Type 0 where
  pub at : half ≡ h
  pub fits : RxFits k x
  pub began : start ≤ h
  pub flags : bit_and ssr 3 ≡ 0
  pub seen_flags : bit_and seen 3 ≡ 0
  pub stored : Storable spcr scr semr ircr

abbrev pub Side : ℕ → ℕ → Port → Type 0
Side h k p = Beside h k p.half p.rx p.bit_start p.ssr p.seen p.spcr p.scr p.semr p.ircr

-- ---- its parts changed
pub side_flags : (h k s n : ℕ) (q : Port) → bit_and s 3 ≡ 0 → bit_and n 3 ≡ 0 → Side h k q
    → Beside h k q.half q.rx q.bit_start s n q.spcr q.scr q.semr q.ircr
side_flags h k s n q e g d = record { at = d.at; fits = d.fits; began = d.began; flags = e; seen_flags = g; stored = d.stored }

pub side_ssr : (h k s : ℕ) (q : Port) → bit_and s 3 ≡ 0 → Side h k q → Side h k (with_ssr q s)
side_ssr h k s q e d = side_flags h k s q.seen q e d.seen_flags d

pub side_rx : (h k k' : ℕ) (q : Port) (x : Option Rx) → RxFits k' x → Side h k q → Side h k' (with_rx q x)
side_rx h k k' q x f d = record { at = d.at; fits = f; began = d.began; flags = d.flags; seen_flags = d.seen_flags; stored = d.stored }

pub side_stored : (h k spcr scr semr ircr : ℕ) (q : Port) → Storable spcr scr semr ircr → Side h k q
    → Beside h k q.half q.rx q.bit_start q.ssr q.seen spcr scr semr ircr
side_stored h k spcr scr semr ircr q s d = record { at = d.at; fits = d.fits; began = d.began; flags = d.flags; seen_flags = d.seen_flags; stored = s }

-- ---- what the sender does
pub side_closed : (h k : ℕ) → SenderClosed (Side h k)
side_closed h k =
    record {
      start = record {
        by_tx = λ q t d. d;
        by_drive = λ q b d. record { at = d.at; fits = d.fits; began = le_of_eq d.at; flags = d.flags; seen_flags = d.seen_flags; stored = d.stored };
        by_tend = λ q d. side_ssr h k (bit_or q.ssr 4) q (or_clear q.ssr 4 3 d.flags refl) d;
        by_taken = λ q d. side_ssr h k (bit_and (bit_or q.ssr 0x80) 0xfb) q (and_clear (bit_or q.ssr 0x80) 0xfb 3 (or_clear q.ssr 0x80 3 d.flags refl)) d;
      };
      by_sent = λ q d. d;
    }

-- ---- a word begins
pub side_arm : (h : ℕ) (p : Port) → Side h h p → Side h h (arm_receive p)
unfolding arm_receive
side_arm h p d = go p.rx
  where
    ahead : Ahead h (next_fall p)
    ahead = by_cond (Ahead h) p.high (suc p.half) (suc (suc p.half)) (λ e. omega (arith, d.at)) (λ e. omega (arith, d.at))

    plain : arms p ≡ true → (format_of p).synchronous ≡ false
    plain e =
        not-true (format_of p).synchronous (and_left (not (format_of p).synchronous) (not (input_level p)) (and_right (error_free p) _ (and_right (has p.scr 0x10) _ e)))

    go : (x : Option Rx) → Side h h (arm_receive_on x p)
    go None =
        by_cond (Side h h) (arms p) _ p
        (λ e. side_rx h h h p (Some (armed (format_of p) (next_fall p))) (record { format = format_good p.smr p.semr; place = plain e; error = inl refl; due = (plain e, ahead) }) d) (λ e. d)
    go (Some r) = d

-- ---- a word ends
error_clear : (e : ℕ) → (e ≡ 0) ⊎ (e ≡ 8) → bit_and e 3 ≡ 0
error_clear e (inl q) = ap (λ (x : ℕ). bit_and x 3) q
error_clear e (inr q) = ap (λ (x : ℕ). bit_and x 3) q

side_complete : (h k : ℕ) (p : Port) (r : Rx) → bit_and r.error 3 ≡ 0 → Side h k p → Side h k (complete_receive p r)
unfolding complete_receive
side_complete h k p r e d =
    by_cond (Side h k) (has p.ssr 0x40) _ _ (λ b. side_ssr h k _ p (or_clear p.ssr (bit_or r.error 0x20) 3 d.flags (or_clear r.error 0x20 3 e refl)) d)
    (λ b. by_cond (Side h k) (eqb r.error 0) _ _
    (λ c. side_ssr h k _ p (or_clear p.ssr 0x40 3 d.flags refl) d) (λ c. side_ssr h k _ p (or_clear p.ssr r.error 3 d.flags e) d))

-- ---- a sample
abbrev SampleGood : ℕ → Sampled → Type 0
SampleGood h Dropped = Unit {0}
SampleGood h (Onward r) = RxGood h r
SampleGood h (Whole r) = bit_and r.error 3 ≡ 0

parity_error : (b : Bool) (e : ℕ) → (e ≡ 0) ⊎ (e ≡ 8) → (cond b (bit_or e 8) e ≡ 0) ⊎ (cond b (bit_or e 8) e ≡ 8)
parity_error true e (inl q) = inr (ap (λ (x : ℕ). bit_or x 8) q)
parity_error true e (inr q) = inr (ap (λ (x : ℕ). bit_or x 8) q)
parity_error false e f = f

stop_error : (b : Bool) (e : ℕ) → bit_and e 3 ≡ 0 → bit_and (cond b e (bit_or e 0x10)) 3 ≡ 0
stop_error b e q = by_cond (λ (x : ℕ). bit_and x 3 ≡ 0) b e (bit_or e 0x10) (λ c. q) (λ c. or_clear e 0x10 3 q refl)

plain_place : (f : Format) (j : ℕ) → f.synchronous ≡ false → j ≤ f.«data» + one_if f.parity → j ≤ last_position f
plain_place f j c l = subst (λ (b : Bool). j ≤ cond b 7 (f.«data» + one_if f.parity)) (sym c) l

-- a start-stop word, sampled at the half suc h
module _ (now : Format) (high : Bool) (h : ℕ) (r : Rx) (n : format_valid now ≡ true) (f : format_valid r.format ≡ true)
    (c : r.format.synchronous ≡ false) (e : (r.error ≡ 0) ⊎ (r.error ≡ 8)) where
  cell_due : DueBy r.format.synchronous (suc h) (Some (suc h + r.format.half_bit))
  cell_due = (c, (omega (arith, (shape r.format f).long), omega (arith, (shape r.format f).short)))

  sample_good : (z : ℤ) → SampleGood (suc h) (sample_at z now high (suc h) r)
  unfolding sample_at
  sample_good (negsuc (suc (suc k))) = tt
  sample_good (negsuc (suc zero)) =
      by_cond (SampleGood (suc h)) (high || now.synchronous) Dropped (Onward (started now (suc h) r)) (λ b. tt)
      (λ b. let s : now.synchronous ≡ false = or_right high now.synchronous b in
      record { format = n; place = s; error = e; due = (s, (omega (arith, (shape now n).long), omega (arith, (shape now n).short))) })
  sample_good (negsuc zero) =
      by_cond (SampleGood (suc h)) high Dropped (Onward (stepped (suc h) (negsuc zero) r.value r.parity r.error r)) (λ b. tt)
      (λ b. record { format = f; place = plain_place r.format 0 c (omega arith); error = e; due = cell_due })
  sample_good (pos j) =
      by_cond (SampleGood (suc h)) (ltb j r.format.«data») _ _
      (λ b. record { format = f; place = plain_place r.format (suc j) c (omega (arith, ltb-true j r.format.«data» b)); error = e; due = cell_due })
      (λ b. by_cond (SampleGood (suc h)) (eqb j r.format.«data» && r.format.parity) _ _
      (λ g. let at : j ≡ r.format.«data» = eqb-true j r.format.«data» (and_left (eqb j r.format.«data») r.format.parity g) in
      let one : one_if r.format.parity ≡ 1 = ap one_if (and_right (eqb j r.format.«data») r.format.parity g) in
      record { format = f; place = plain_place r.format (suc j) c (omega arith); error = parity_error (differ high (differ r.parity r.format.odd)) r.error e; due = cell_due })
      (λ g. stop_error high r.error (error_clear r.error e)))

sampled_side : (h k : ℕ) (o : Sampled) (p : Port) → SampleGood h o → Side h k p → Side h h (after_sample o p)
sampled_side h k Dropped p g d = side_rx h k h p None tt d
sampled_side h k (Onward r) p g d = side_rx h k h p (Some r) g d
sampled_side h k (Whole r) p g d = side_complete h h (with_rx p None) r g (side_rx h k h p None tt d)

-- ---- a counted half
pub side_advance : (h : ℕ) (p : Port) → Side (suc h) h p → Side (suc h) (suc h) (advance_rx p)
unfolding advance_rx
side_advance h p d = go p.rx refl d.fits
  where
    stays : (x : Option Rx) → p.rx ≡ x → RxFits (suc h) x → Side (suc h) (suc h) p
    stays x q f = side_rx (suc h) h (suc h) p p.rx (subst (RxFits (suc h)) (sym q) f) d

    go : (x : Option Rx) → p.rx ≡ x → RxFits h x → Side (suc h) (suc h) (advance_rx_on x p)
    go None q f = stays None q tt
    go (Some r) q f =
        by_cond (Side (suc h) (suc h)) (due_now r.next p.half) _ p
        (λ b. sampled_side (suc h) h (sample (format_of p) (input_level p) p.half r) p
        (subst (λ (k : ℕ). SampleGood (suc h) (sample (format_of p) (input_level p) k r)) (sym d.at)
        (sample_good (format_of p) (input_level p) h r (format_good p.smr p.semr) f.format (plain_due r.format.synchronous h p.half r.next f.due b) f.error r.position)) d)
        (λ b. stays (Some r) q
        (record { format = f.format; place = f.place; error = f.error; due = later_by r.format.synchronous h r.next f.due (subst (λ (k : ℕ). due_now r.next k ≡ false) d.at b) }))

-- the same half again: nothing is due
pub rx_not_due : (h : ℕ) (p : Port) → Side h h p → due_now (rx_next p.rx) p.half ≡ false
rx_not_due h p d = go p.rx d.fits
  where
    go : (x : Option Rx) → RxFits h x → due_now (rx_next x) p.half ≡ false
    go None f = refl
    go (Some r) f = not_due h p.half r.next d.at (by_maybe r.format.synchronous h r.next f.due)

-- ---- the clocked edge
bit_good : (h : ℕ) (high : Bool) (r : Rx) → r.format.synchronous ≡ true → RxGood h r → last_bit r.position ≡ false → RxGood h (bit_taken high r)
bit_good h high r c g b = record { format = g.format; place = go r.position g.place b; error = g.error; due = g.due }
  where
    go : (z : ℤ) → PositionFits z r.format → last_bit z ≡ false → PositionFits (next_position z) r.format
    go (negsuc (suc (suc n))) f e = absurd f
    go (negsuc (suc zero)) f e = absurd (true≢false (sym c ∙ f))
    go (negsuc zero) f e = absurd (true≢false (sym c ∙ f))
    go (pos j) f e =
        let ne : j ≢ 7 = eqb-false j 7 e in
        let le : j ≤ 7 = subst (λ (k : Bool). j ≤ cond k 7 (r.format.«data» + one_if r.format.parity)) c f in
        let up : suc j ≤ 7 = omega arith in
        subst (λ (k : Bool). suc j ≤ cond k 7 (r.format.«data» + one_if r.format.parity)) (sym c) up

side_take_bit : (h : ℕ) (p : Port) (r : Rx) → r.format.synchronous ≡ true → RxGood h r → Side h h p → Side h h (take_bit p r)
unfolding take_bit
side_take_bit h p r c g d =
    by_cond (Side h h) (last_bit r.position) _ _
    (λ b. side_complete h h (with_rx p None) (bit_taken (input_level p) r) (error_clear r.error g.error) (side_rx h h h p None tt d))
    (λ b. side_rx h h h p (Some (bit_taken (input_level p) r)) (bit_good h (input_level p) r c g b) d)

pub side_receive_bit : (h : ℕ) (p : Port) → Side h h p → Side h h (receive_bit p)
unfolding receive_bit
side_receive_bit h p d = by_cond (Side h h) (has p.scr 0x10 && error_free p) _ p (λ e. go p.rx d.fits) (λ e. d)
  where
    first : 0 ≤ last_position (format_of p)
    first = omega arith

    go : (x : Option Rx) → RxFits h x → Side h h (receive_bit_on x p)
    go None f =
        by_cond (Side h h) (format_of p).synchronous _ p
        (λ c. side_take_bit h p (clocked_word (format_of p)) c (record { format = format_good p.smr p.semr; place = first; error = inl refl; due = c }) d) (λ c. d)
    go (Some r) f = by_cond (Side h h) r.format.synchronous _ p (λ c. side_take_bit h p r c f d) (λ c. d)
