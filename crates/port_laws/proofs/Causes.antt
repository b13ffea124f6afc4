-- The laws of specs/Causes.antt: a cause through the receiver's steps, a half, an edge of the clock pin, and a call.
-- Assumes nothing.
use Rattle.std.specs.Prelude.{Option, None, Some}
use Rattle.std.proofs.Common.{◌≡◌, ℕ, zero, suc, ◌+◌, Bool, true, false, cond, not, ◌&&◌, ◌||◌, eqb, ltb, ℤ, pos, negsuc, refl, sym, ap, ap₂, ◌∙◌, subst, true≢false, zero-add, ne_eqb, arith}
use mathlib.Core.Bool.{and-false}
use lib.Bits.{bit_and, bit_or}
use Rattle.frame.specs.declared.Format.{Format}
use Rattle.frame.specs.Frame.{has, differ, one_if}
use Rattle.frame.proofs.Truth.{and_right}
use Rattle.branches.proofs.Branches.{by_cond, both_arms}
use Rattle.command.specs.declared.Call.{Call}
use Rattle.command.specs.declared.Call.TheVariants.{Read, Write, Wait, Line, Pins, Power, Inside}
use Rattle.shift.specs.declared.Rx.{Rx}
use Rattle.shift.specs.declared.Sampled.{Sampled}
use Rattle.shift.specs.declared.Sampled.TheVariants.{Dropped, Onward, Whole}
use Rattle.shift.specs.declared.cause.Cause.{Cause}
use Rattle.shift.specs.declared.cause.Cause.TheVariants.{NoWord, Taken, Overrun}
use Rattle.shift.specs.Cause.{cause_of, cause_number, followed_by}
use Rattle.shift.specs.Due.{due_now}
use Rattle.shift.specs.Receiver.{sample_at, sample, started, stepped, bit_at, bit_taken, last_bit}
use Rattle.port.specs.declared.Port.{Port}
use Rattle.port.specs.Fields.{with_rx, with_input_clock}
use Rattle.port.specs.Baud.{format_of, external, internal, counted, edge_counted, edge_counts}
use Rattle.port.specs.Receiver.{input_level, error_free, arms, arm_receive, arm_receive_on, after_sample, advance_rx, advance_rx_on}
use Rattle.port.specs.Sender.{advance_tx}
use Rattle.port.specs.Clocked.{with_clock}
use Rattle.port.specs.Half.{process_basic, half_step}
use Rattle.port.specs.Input.{receive_input, pins_change}
use Rattle.port.specs.Valid.{valid}
use Rattle.port.specs.Calls.{Answer, done, refused, bit, direct}
use Rattle.port.specs.Cause.{complete_cause, sample_cause, rx_cause_on, rx_cause, basic_cause, bit_cause, receive_cause_on, receive_cause, edge_cause, clocked_cause, advance_cause, half_cause, halves_cause, external_cause, pins_cause, call_cause}
use Rattle.port.proofs.CallLaws.{internal_external}
use Rattle.port.proofs.Causes.{pass_cause}
use Rattle.port.proofs.Checked.{edge_counts_kept}
use Rattle.port.proofs.SenderKeeps.{SenderClosed, free_sender, advance_tx_keeps}
use Rattle.port.proofs.ReceiverKeeps.{free_receiver, arm_keeps, basic_keeps}
use Rattle.port_laws.specs.Laws.{rises, in_halves, pins_set, in_call}
use Rattle.port_laws.specs.ReceiveErrors.{row, errors}
use Rattle.port_laws.specs.Causes.{Tells, CausesAsTheManual, whole, ends_on, ends, of_word, HalfTells, PinEdgeTells, CallTells, NoEdgeNoCause, FiveKindsTellNone}
use Rattle.port_laws.proofs.KeepSender.{DueBy, plain_due, tx_not_due}
use Rattle.port_laws.proofs.KeepReceiver.{RxGood, RxFits, Side, side_closed, rx_not_due}
use Rattle.port_laws.proofs.KeepHalf.{Kept, basic_ok, side_counted, kept_half, external_half}
use Rattle.port_laws.proofs.KeepCalls.{pins_set_kept}
use Rattle.port_laws.proofs.KeepValid.{valid_sound}
use Rattle.port_laws.proofs.TallyReceived.{complete_rx, Flagged, sender_flags, same_flag}
use Rattle.port_laws.proofs.TallyHalf.{rising, basic_rising}

-- ---- the receive error table
tells : (full over f g taken : Bool) → cause_number (cause_of full (errors f g)) ≡ cond over 5 1 + (cond g 1 0 + cond f 2 0) → Tells (row full over f g taken)
tells full over f g taken e p r h w = ap₂ (λ (b : Bool) (n : ℕ). cause_number (cause_of b n)) h w ∙ e

pub causes_as_the_manual : CausesAsTheManual
unfolding CausesAsTheManual
causes_as_the_manual = (
  tells true true false false false refl,
  (
    tells false false true false true refl,
    (
      tells false false false true true refl,
      (
        tells true true true false false refl,
        (
          tells true true false true false refl,
          (
            tells false false true true true refl,
            (
              tells true true true true false refl,
              (tells false false false false true refl, tt),
            ),
          ),
        ),
      ),
    ),
  ),
)

-- ---- one after the other
or_false : (b : Bool) → b ≡ (b || false)
or_false true = refl
or_false false = refl

or_true : (b : Bool) → true ≡ (b || true)
or_true true = refl
or_true false = refl

and_true : (b : Bool) → (b && true) ≡ b
and_true true = refl
and_true false = refl

word_followed : (a b : Cause) → of_word (followed_by a b) ≡ (of_word a || of_word b)
word_followed a NoWord = or_false (of_word a)
word_followed a (Taken e) = or_true (of_word a)
word_followed a (Overrun e) = or_true (of_word a)

-- ---- basic work
complete_word : (p : Port) (r : Rx) → of_word (complete_cause p r) ≡ true
complete_word p r = both_arms (λ (c : Cause). of_word c ≡ true) (has p.ssr 0x40) _ _ refl refl

-- a sample that is due, and makes a word whole
abbrev due_whole : Option Rx → Format → Bool → ℕ → Bool
due_whole None now high half = false
due_whole (Some r) now high half = due_now r.next half && whole (sample now high half r)

rx_word : (p : Port) → of_word (rx_cause p) ≡ due_whole p.rx (format_of p) (input_level p) p.half
rx_word p = go p.rx
  where
    out : (o : Sampled) → of_word (sample_cause o p) ≡ whole o
    out Dropped = refl
    out (Onward r) = refl
    out (Whole r) = complete_word (with_rx p None) r

    go : (x : Option Rx) → of_word (rx_cause_on x p) ≡ due_whole x (format_of p) (input_level p) p.half
    go None = refl
    go (Some r) =
        let o : Sampled = sample (format_of p) (input_level p) p.half r in
        by_cond (λ (c : Cause). of_word c ≡ (due_now r.next p.half && whole o)) (due_now r.next p.half) _ NoWord
        (λ e. out o ∙ sym (ap (λ (b : Bool). b && whole o) e)) (λ e. sym (ap (λ (b : Bool). b && whole o) e))

abbrev DueWhole : Bool → Port → Type 0
DueWhole b q = due_whole q.rx (format_of q) (input_level q) q.half ≡ b

sender_due : (b : Bool) → SenderClosed (DueWhole b)
sender_due b = free_sender (DueWhole b) (λ q t u b s x k. k) (λ q n k. k)

basic_word : (p : Port) → of_word (basic_cause p) ≡ due_whole p.rx (format_of p) (input_level p) p.half
unfolding basic_cause
basic_word p =
    let s : Bool = due_whole p.rx (format_of p) (input_level p) p.half in
    rx_word (advance_tx p) ∙ advance_tx_keeps (DueWhole s) (sender_due s) p refl

-- ---- the clocked edge
-- a clocked word that lacks its last bit; RE set and no error flag
abbrev lacks_one : Option Rx → Bool
lacks_one None = false
lacks_one (Some r) = last_bit r.position && r.format.synchronous

abbrev listens : Port → Bool
listens p = has p.scr 0x10 && error_free p

bit_word : (p : Port) (r : Rx) → of_word (bit_cause p r) ≡ last_bit r.position
bit_word p r =
    by_cond (λ (c : Cause). of_word c ≡ last_bit r.position) (last_bit r.position) _ NoWord
    (λ e. complete_word (with_rx p None) (bit_taken (input_level p) r) ∙ sym e) (λ e. sym e)

receive_word : (p : Port) → of_word (receive_cause p) ≡ (lacks_one p.rx && listens p)
unfolding receive_cause
receive_word p =
    by_cond (λ (c : Cause). of_word c ≡ (lacks_one p.rx && listens p)) (listens p) _ NoWord
    (λ g. go p.rx ∙ sym (ap (λ (b : Bool). lacks_one p.rx && b) g ∙ and_true (lacks_one p.rx)))
    (λ g. sym (ap (λ (b : Bool). lacks_one p.rx && b) g ∙ and-false (lacks_one p.rx)))
  where
    go : (x : Option Rx) → of_word (receive_cause_on x p) ≡ lacks_one x
    go None = both_arms (λ (c : Cause). of_word c ≡ false) (format_of p).synchronous _ NoWord refl refl
    go (Some r) =
        let at : Bool → Bool = λ (b : Bool). last_bit r.position && b in
        by_cond (λ (c : Cause). of_word c ≡ at r.format.synchronous) r.format.synchronous _ NoWord
        (λ s. bit_word p r ∙ sym (ap at s ∙ and_true (last_bit r.position))) (λ s. sym (ap at s ∙ and-false (last_bit r.position)))

edge_word : (b : Bool) (p : Port) → of_word (edge_cause b p) ≡ (b && (lacks_one p.rx && listens p))
unfolding edge_cause
edge_word true p = receive_word p
edge_word false p = refl

clocked_word_told : (p : Port) → of_word (clocked_cause p) ≡ (rising p && (lacks_one p.rx && listens p))
unfolding clocked_cause
clocked_word_told p =
    let e : Bool → Bool = λ (b : Bool). (b && not p.sck) && (lacks_one p.rx && listens p) in
    by_cond (λ (c : Cause). of_word c ≡ e (due_now p.sync_next p.half)) (due_now p.sync_next p.half) _ NoWord
    (λ b. edge_word (not p.sck) (with_clock p None (not p.sck)) ∙ sym (ap e b)) (λ b. sym (ap e b))

-- ---- basic work makes no clocked word that lacks its last bit, and leaves one as it is
plain_lacks : (r : Rx) → r.format.synchronous ≡ false → lacks_one (Some r) ≡ false
plain_lacks r c = ap (λ (s : Bool). last_bit r.position && s) c ∙ and-false (last_bit r.position)

clocked_lacks : (r : Rx) → lacks_one (Some r) ≡ true → r.format.synchronous ≡ true
clocked_lacks r l = and_right (last_bit r.position) r.format.synchronous l

abbrev LacksNone : Sampled → Type 0
LacksNone Dropped = Unit {0}
LacksNone (Onward r) = lacks_one (Some r) ≡ false
LacksNone (Whole r) = Unit {0}

sample_lacks : (now : Format) (high : Bool) (half : ℕ) (r : Rx) → r.format.synchronous ≡ false → (z : ℤ) → LacksNone (sample_at z now high half r)
unfolding sample_at
sample_lacks now high half r c (negsuc (suc (suc n))) = tt
sample_lacks now high half r c (negsuc (suc zero)) = both_arms LacksNone (high || now.synchronous) Dropped (Onward (started now half r)) tt refl
sample_lacks now high half r c (negsuc zero) =
    both_arms LacksNone high Dropped (Onward (stepped half (negsuc zero) r.value r.parity r.error r)) tt refl
sample_lacks now high half r c (pos j) =
    let bit : Rx = stepped half (pos j) (cond high (bit_or r.value (bit_at (pos j))) r.value) (differ r.parity high) r.error r in
    let checked : Rx = stepped half (pos j) r.value r.parity (cond (differ high (differ r.parity r.format.odd)) (bit_or r.error 8) r.error) r in
    both_arms LacksNone (ltb j r.format.«data») (Onward bit) _ (plain_lacks bit c)
    (both_arms LacksNone (eqb j r.format.«data» && r.format.parity) (Onward checked) (Whole _) (plain_lacks checked c) tt)

abbrev Lacks : Bool → Port → Type 0
Lacks b q = lacks_one q.rx ≡ b

advance_lacks : (h : ℕ) (p : Port) → Side (suc h) h p → Lacks (lacks_one p.rx) (advance_rx p)
unfolding advance_rx
advance_lacks h p d = go p.rx refl d.fits
  where
    out : (o : Sampled) → LacksNone o → Lacks false (after_sample o p)
    out Dropped n = refl
    out (Onward r) n = n
    out (Whole r) n = ap lacks_one (complete_rx (with_rx p None) r)

    go : (x : Option Rx) → p.rx ≡ x → RxFits h x → Lacks (lacks_one x) (advance_rx_on x p)
    go None e f = ap lacks_one e
    go (Some r) e f =
        by_cond (Lacks (lacks_one (Some r))) (due_now r.next p.half) _ p
        (λ b. let c : r.format.synchronous ≡ false = plain_due r.format.synchronous h p.half r.next f.due b in
        out (sample (format_of p) (input_level p) p.half r) (sample_lacks (format_of p) (input_level p) p.half r c r.position) ∙ sym (plain_lacks r c))
        (λ b. ap lacks_one e)

arm_lacks : (p : Port) → Lacks (lacks_one p.rx) (arm_receive p)
unfolding arm_receive
arm_lacks p = go p.rx refl
  where
    go : (x : Option Rx) → p.rx ≡ x → Lacks (lacks_one x) (arm_receive_on x p)
    go None e = both_arms (Lacks false) (arms p) _ p refl (ap lacks_one e)
    go (Some r) e = ap lacks_one e

sender_lacks : (b : Bool) → SenderClosed (Lacks b)
sender_lacks b = free_sender (Lacks b) (λ q t u b s x k. k) (λ q n k. k)

basic_lacks : (h : ℕ) (p : Port) → Side (suc h) h p → Lacks (lacks_one p.rx) (process_basic p)
unfolding process_basic
basic_lacks h p d =
    let a : Port = advance_tx p in
    let b : Bool = lacks_one p.rx in
    arm_lacks (advance_rx a) ∙ advance_lacks h a (advance_tx_keeps (Side (suc h) h) (side_closed (suc h) h) p d) ∙ advance_tx_keeps (Lacks b) (sender_lacks b) p refl

-- such a word has no due half, so the receiver rests, and the flags stay
idle_advance : (h : ℕ) (p : Port) → Side (suc h) h p → Lacks true p → advance_rx p ≡ p
unfolding advance_rx
idle_advance h p d l = go p.rx d.fits l
  where
    go : (x : Option Rx) → RxFits h x → lacks_one x ≡ true → advance_rx_on x p ≡ p
    go None f e = refl
    go (Some r) f e =
        by_cond (λ (q : Port). q ≡ p) (due_now r.next p.half) _ p
        (λ b. absurd (true≢false (sym (clocked_lacks r e) ∙ plain_due r.format.synchronous h p.half r.next f.due b))) (λ b. refl)

basic_flags : (h : ℕ) (p : Port) → Side (suc h) h p → Lacks true p → Flagged (bit_and p.ssr 0x78) (process_basic p)
unfolding process_basic
basic_flags h p d l =
    let a : Port = advance_tx p in
    let n : ℕ = bit_and p.ssr 0x78 in
    let e : advance_rx a ≡ a = idle_advance h a (advance_tx_keeps (Side (suc h) h) (side_closed (suc h) h) p d) (advance_tx_keeps (Lacks true) (sender_lacks true) p l) in
    arm_keeps (Flagged n) (λ q x k. k) (advance_rx a) (subst (Flagged n) (sym e) (advance_tx_keeps (Flagged n) (sender_flags n) p refl))

-- ---- both together: p is the port before the half or edge, b after its basic work
word_once : (h : ℕ) (p b : Port) (r : Bool) → RxFits h p.rx → Lacks (lacks_one p.rx) b → (Lacks true p → listens b ≡ listens p)
    → (due_whole p.rx (format_of p) (input_level p) (suc p.half) || (r && (lacks_one b.rx && listens b))) ≡ ends r p
word_once h p b r fits lacks same =
    ap (λ (l : Bool). S || (r && (l && listens b))) lacks ∙ ap (λ (c : Bool). S || c) (at (lacks_one p.rx) refl) ∙ go p.rx fits
  where
    S : Bool
    S = due_whole p.rx (format_of p) (input_level p) (suc p.half)

    at : (l : Bool) → lacks_one p.rx ≡ l → (r && (l && listens b)) ≡ (r && (l && listens p))
    at true e = ap (λ (y : Bool). r && y) (same e)
    at false e = refl

    none : (c : Bool) → (c || (r && false)) ≡ c
    none c = ap (λ (d : Bool). c || d) (and-false r) ∙ sym (or_false c)

    order : (l a f : Bool) → ((l && true) && (a && f)) ≡ (a && (f && l))
    order true true true = refl
    order true true false = refl
    order true false f = refl
    order false true true = refl
    order false true false = refl
    order false false f = refl

    busy : (x : Rx) (s : Bool) → x.format.synchronous ≡ s → RxGood h x
        → (due_whole (Some x) (format_of p) (input_level p) (suc p.half) || (r && ((last_bit x.position && s) && listens p)))
        ≡ cond s (r && (has p.scr 0x10 && (error_free p && last_bit x.position))) (due_whole (Some x) (format_of p) (input_level p) (suc p.half))
    busy x true e f =
        let idle : due_now x.next (suc p.half) ≡ false = waits x.next f.due in
        ap (λ (d : Bool). (d && whole (sample (format_of p) (input_level p) (suc p.half) x)) || (r && ((last_bit x.position && true) && listens p))) idle
        ∙ ap (λ (c : Bool). r && c) (order (last_bit x.position) (has p.scr 0x10) (error_free p))
      where
        waits : (d : Option ℕ) → DueBy x.format.synchronous h d → due_now d (suc p.half) ≡ false
        waits None g = refl
        waits (Some n) g = absurd (true≢false (sym e ∙ g.0))
    busy x false e f =
        ap (λ (c : Bool). due_whole (Some x) (format_of p) (input_level p) (suc p.half) || (r && (c && listens p))) (and-false (last_bit x.position))
        ∙ none (due_whole (Some x) (format_of p) (input_level p) (suc p.half))

    go : (x : Option Rx) → RxFits h x → (due_whole x (format_of p) (input_level p) (suc p.half) || (r && (lacks_one x && listens p))) ≡ ends_on x r p
    go None f = none false
    go (Some x) f = busy x x.format.synchronous refl f

-- ---- an edge of the clock pin, which is counted
module _ (h : ℕ) (p : Port) (k : Kept h p) (level : Bool) where
  abbrev edged : Port
  edged = edge_counted p level

  side : Side (suc h) h edged
  side = side_counted h p k.ok.side

  basic_listens : Lacks true p → listens (process_basic edged) ≡ listens p
  basic_listens l =
      let f : bit_and (process_basic edged).ssr 0x78 ≡ bit_and p.ssr 0x78 = basic_flags h edged side l in
      let P : Port → Type 0 = λ (w : Port). w.scr ≡ p.scr in
      let scr : (process_basic edged).scr ≡ p.scr = basic_keeps P (free_sender P (λ q t u b s x k. k) (λ q n k. k)) (free_receiver P (λ q x s v n k. k)) edged refl in
      ap₂ (λ (a b : Bool). a && not b) (ap (λ (n : ℕ). has n 0x10) scr) (same_flag (process_basic edged).ssr p.ssr 0x38 refl f)

  edge_tells : of_word (followed_by (basic_cause edged) (edge_cause level (process_basic edged))) ≡ ends level p
  edge_tells =
      word_followed (basic_cause edged) (edge_cause level (process_basic edged)) ∙ ap₂ ◌||◌ (basic_word edged) (edge_word level (process_basic edged))
      ∙ word_once h p (process_basic edged) level k.ok.side.fits (basic_lacks h edged side) basic_listens

  pin_tells : of_word (external_cause level p) ≡ (edge_counts level p && ends level p)
  unfolding external_cause
  pin_tells =
      let e : Bool → Bool = λ (b : Bool). b && ends level p in
      by_cond (λ (c : Cause). of_word c ≡ e (edge_counts level p)) (edge_counts level p) _ NoWord (λ t. edge_tells ∙ sym (ap e t)) (λ t. sym (ap e t))

-- ---- a half
module _ (h : ℕ) (p : Port) (k : Kept h p) (x : external p ≡ false) where
  abbrev now : Port
  now = counted p

  abbrev worked : Port
  worked = process_basic now

  half_tells : of_word (half_cause p) ≡ ends (rises p) p
  unfolding half_cause advance_cause
  half_tells =
      let o = basic_ok h p k x in
      ap of_word (pass_cause now (tx_not_due (suc h) worked o.sends) (rx_not_due (suc h) worked o.side) x)
      ∙ word_followed (basic_cause now) (clocked_cause worked)
      ∙ ap₂ ◌||◌ (basic_word now) (clocked_word_told worked ∙ ap (λ (b : Bool). b && (lacks_one worked.rx && listens worked)) (basic_rising now))
      ∙ word_once h p worked (rises p) k.ok.side.fits (basic_lacks h now (side_counted h p k.ok.side)) (basic_listens h p k (not p.high))

pub half_tells_law : HalfTells
unfolding HalfTells
half_tells_law p e i = half_tells p.half p (valid_sound p e).kept (internal_external p i)

pub pin_edge_tells : PinEdgeTells
unfolding PinEdgeTells
pin_edge_tells level p e = pin_tells p.half p (valid_sound p e).kept level

-- ---- a call
abbrev some : ℕ → Bool
some n = not (eqb n 0)

some_more : (b : Bool) (n : ℕ) → (b || some n) ≡ some (one_if b + n)
some_more true n = let e : eqb (1 + n) 0 ≡ false = ne_eqb (1 + n) 0 (omega arith) in sym (ap not e)
some_more false n = ap some (sym (zero-add n))

some_one : (b : Bool) → some (one_if b) ≡ b
some_one true = refl
some_one false = refl

halves_tell : (n h : ℕ) (p : Port) → Kept h p → external p ≡ false → of_word (halves_cause n p) ≡ some (in_halves ends n p)
unfolding halves_cause in_halves
halves_tell zero h p k x = refl
halves_tell (suc n) h p k x =
    word_followed (half_cause p) (halves_cause n (half_step p))
    ∙ ap₂ ◌||◌ (half_tells h p k x) (halves_tell n (suc h) (half_step p) (kept_half h p k x) (external_half p x))
    ∙ some_more (ends (rises p) p) (in_halves ends n (half_step p))

pins_tell : (clock line : Bool) (h : ℕ) (p : Port) → Kept h p → let w = pins_set clock line p in
    of_word (pins_cause clock line p) ≡ some (one_if (pins_change clock line p && (edge_counts clock w && ends clock w)))
unfolding pins_cause
pins_tell clock line h p k =
    let w : Port = pins_set clock line p in
    let b : Bool = edge_counts clock w && ends clock w in
    let e : Bool → Bool = λ (c : Bool). c && b in
    by_cond (λ (c : Cause). of_word c ≡ e (pins_change clock line p)) (pins_change clock line p) _ NoWord
    (λ t. pin_tells h w (pins_set_kept clock line h p k) clock ∙ sym (ap e t)) (λ t. sym (ap e t))
    ∙ sym (some_one (e (pins_change clock line p)))

-- the accepted answers
call_tells_done : (c : Call) (p q : Port) (v : ℕ) → Kept p.half p → of_word (call_cause c p) ≡ some (in_call ends c (done v q) p)
unfolding call_cause
call_tells_done (Read a) p q v k = refl
call_tells_done (Write a x) p q v k = refl
call_tells_done (Wait n) p q v k =
    let e : Bool → ℕ = λ (b : Bool). cond b (in_halves ends n p) 0 in
    by_cond (λ (c : Cause). of_word c ≡ some (e (internal p))) (internal p) _ NoWord
    (λ i. halves_tell n p.half p k (internal_external p i) ∙ sym (ap (λ (b : Bool). some (e b)) i)) (λ i. sym (ap (λ (b : Bool). some (e b)) i))
call_tells_done (Line line) p q v k = refl
call_tells_done (Pins clock line) p q v k = pins_tell (bit clock) (bit line) p.half p k
call_tells_done (Power b) p q v k = refl
call_tells_done Inside p q v k = refl

pub call_tells : CallTells
unfolding CallTells direct
call_tells c p q v e =
    by_cond (λ (a : Answer). a ≡ done v q → of_word (call_cause c p) ≡ some (in_call ends c a p)) (valid p) _ _
    (λ t d. call_tells_done c p q v (valid_sound p t).kept ∙ sym (ap (λ (a : Answer). some (in_call ends c a p)) d)) (λ t d. absurd (not_done d)) e
  where
    Refused : Answer → Type 0
    Refused (done w s) = ⊥
    Refused (refused n offset s) = Unit {0}

    not_done : refused 8 0 p ≡ done v q → ⊥
    not_done d = subst Refused d tt

-- ---- where there is none
pub no_edge_no_cause : NoEdgeNoCause
unfolding NoEdgeNoCause call_cause halves_cause pins_cause external_cause
no_edge_no_cause (Read a) p e = refl
no_edge_no_cause (Write a v) p e = refl
no_edge_no_cause (Wait n) p e =
    by_cond (λ (c : Cause). c ≡ NoWord) (internal p) _ NoWord
    (λ i. let none : n ≡ 0 = sym (ap (λ (b : Bool). cond b n 0) i) ∙ e in ap (λ (m : ℕ). halves_cause m p) none) (λ i. refl)
no_edge_no_cause (Line line) p e = refl
no_edge_no_cause (Pins clock line) p e = go (pins_change (bit clock) (bit line) p) (edge_counts (bit clock) p) (edge_counts_kept (bit clock) (bit line) p) e
  where
    w : Port
    w = with_input_clock (receive_input (bit line) p) (bit clock)

    go : (a b : Bool) → edge_counts (bit clock) w ≡ b → one_if (a && b) ≡ 0 → cond a (external_cause (bit clock) w) NoWord ≡ NoWord
    go false b f h = refl
    go true true f h = absurd (omega (arith, h))
    go true false f h =
        ap (λ (c : Bool). cond c (followed_by (basic_cause (edge_counted w (bit clock))) (edge_cause (bit clock) (process_basic (edge_counted w (bit clock))))) NoWord) f
no_edge_no_cause (Power b) p e = refl
no_edge_no_cause Inside p e = refl

pub five_kinds_tell_none : FiveKindsTellNone
unfolding FiveKindsTellNone call_cause
five_kinds_tell_none p a v = (refl, refl, refl, refl, refl)
