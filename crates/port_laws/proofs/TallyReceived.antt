-- The tally of words received, through the receiver's steps: it grows with a word that is whole without error while RDRF is clear, at most once in a half.
-- Assumes nothing.
use Rattle.std.specs.Prelude.{Option, None, Some}
use mathlib.Core.Path.{◌≡◌, refl, sym, ap, ap₂, ◌∙◌, subst}
use Prim.Native.Nat.{ℕ, zero, suc}
use mathlib.Core.Bool.{Bool, true, false, cond, not, ◌&&◌, ◌||◌, beq, true≢false, false≢true, and-false}
use lib.Dec.{eqb, ltb}
use lib.Bits.{bit_and, bit_or, or_zero_r}
use lib.IntN.{ℤ, pos, negsuc}
use Rattle.frame.specs.declared.Format.{Format}
use Rattle.frame.specs.Frame.{has, differ}
use Rattle.frame.proofs.Truth.{and_left, and_right, beq_true, every_row, by_table}
use Rattle.port.specs.declared.Port.{Port}
use Rattle.shift.specs.declared.Rx.{Rx}
use Rattle.shift.specs.declared.Sampled.{Sampled}
use Rattle.shift.specs.declared.Sampled.TheVariants.{Dropped, Onward, Whole}
use Rattle.port.specs.Fields.{with_rx}
use Rattle.port.specs.Baud.{format_of}
use Rattle.shift.specs.Due.{due_now}
use Rattle.shift.specs.Receiver.{sample_at, sample, started, stepped, bit_at, last_bit, bit_taken, clocked_word}
use Rattle.port.specs.Receiver.{input_level, error_free, arms, arm_receive, arm_receive_on, complete_receive, after_sample, advance_rx, advance_rx_on}
use Rattle.port.specs.Sender.{advance_tx}
use Rattle.port.specs.Clocked.{take_bit, receive_bit, receive_bit_on, sync_edge}
use Rattle.port.specs.Half.{process_basic}
use Rattle.port_laws.specs.Laws.{tally, clean, completes_on, receives}
use Rattle.branches.proofs.Branches.{by_cond, both_arms}
use Rattle.port_laws.proofs.Masks.{and_and, and_or}
use Rattle.port.proofs.SenderKeeps.{SenderClosed, free_sender, shift_keeps, advance_tx_keeps, tail_keeps}
use Rattle.port.proofs.ReceiverKeeps.{arm_keeps}
use Rattle.port_laws.proofs.KeepSender.{DueBy, plain_due}
use Rattle.port_laws.proofs.KeepReceiver.{RxGood, RxFits, Side, side_closed}

-- ---- a whole word
abbrev pub Got : ℕ → Port → Type 0
Got n q = q.received ≡ n

pub complete_got : (p : Port) (r : Rx) → Got (tally (eqb r.error 0 && not (has p.ssr 0x40)) p.received) (complete_receive p r)
unfolding complete_receive
complete_got p r =
    let E : Bool = eqb r.error 0 in
    let H : Bool = has p.ssr 0x40 in
    let R : ℕ = p.received in
    let G : Port → Type 0 = Got (tally (E && not H) R) in
    by_cond G H _ _ (λ b. sym (ap (λ (h : Bool). tally (E && not h) R) b ∙ ap (λ (c : Bool). tally c R) (and-false E)))
    (λ b. by_cond G E _ _ (λ c. sym (ap₂ (λ (e h : Bool). tally (e && not h) R) c b)) (λ c. sym (ap (λ (e : Bool). tally (e && not H) R) c)))

-- a sample that is due, and makes a word whole without error
abbrev pub sampled : Option Rx → Format → Bool → ℕ → Bool
sampled None now high half = false
sampled (Some r) now high half = due_now r.next half && clean (sample now high half r)

advance_got : (p : Port) → Got (tally (sampled p.rx (format_of p) (input_level p) p.half && not (has p.ssr 0x40)) p.received) (advance_rx p)
unfolding advance_rx
advance_got p = go p.rx
  where
    N : Bool
    N = not (has p.ssr 0x40)

    R : ℕ
    R = p.received

    out : (o : Sampled) → Got (tally (clean o && N) R) (after_sample o p)
    out Dropped = refl
    out (Onward r) = refl
    out (Whole r) = complete_got (with_rx p None) r

    go : (x : Option Rx) → Got (tally (sampled x (format_of p) (input_level p) p.half && N) R) (advance_rx_on x p)
    go None = refl
    go (Some r) =
        let o : Sampled = sample (format_of p) (input_level p) p.half r in
        by_cond (Got (tally ((due_now r.next p.half && clean o) && N) R)) (due_now r.next p.half) _ p
        (λ e. out o ∙ sym (ap (λ (b : Bool). tally ((b && clean o) && N) R) e)) (λ e. sym (ap (λ (b : Bool). tally ((b && clean o) && N) R) e))

-- ---- SSR's receive flags, which the sender keeps
abbrev pub Flagged : ℕ → Port → Type 0
Flagged n q = bit_and q.ssr 0x78 ≡ n

pub sender_flags : (n : ℕ) → SenderClosed (Flagged n)
sender_flags n =
    record {
      start = record {
        by_tx = λ q t k. k;
        by_drive = λ q b k. k;
        by_tend = λ q k. and_or q.ssr 4 0x78 ∙ or_zero_r (bit_and q.ssr 0x78) ∙ k;
        by_taken = λ q k. and_and (bit_or q.ssr 0x80) 0xfb 0x78 ∙ and_or q.ssr 0x80 0x78 ∙ or_zero_r (bit_and q.ssr 0x78) ∙ k;
      };
      by_sent = λ q k. k;
    }

pub same_flag : (s t m : ℕ) → bit_and 0x78 m ≡ m → bit_and s 0x78 ≡ bit_and t 0x78 → has s m ≡ has t m
same_flag s t m c e = ap (λ (x : ℕ). not (eqb x 0)) (sym (within s) ∙ ap (λ (x : ℕ). bit_and x m) e ∙ within t)
  where
    within : (x : ℕ) → bit_and (bit_and x 0x78) m ≡ bit_and x m
    within x = and_and x 0x78 m ∙ ap (bit_and x) c

-- ---- basic work
sender_got : (n : ℕ) → SenderClosed (Got n)
sender_got n = free_sender (Got n) (λ q t u b s x k. k) (λ q n k. k)

abbrev SampledIs : Bool → Port → Type 0
SampledIs b q = sampled q.rx (format_of q) (input_level q) q.half ≡ b

sender_sampled : (b : Bool) → SenderClosed (SampledIs b)
sender_sampled b = free_sender (SampledIs b) (λ q t u b s x k. k) (λ q n k. k)

pub basic_got : (p : Port) → Got (tally (sampled p.rx (format_of p) (input_level p) p.half && not (has p.ssr 0x40)) p.received) (process_basic p)
unfolding process_basic
basic_got p =
    let a : Port = advance_tx p in
    let S : Bool = sampled p.rx (format_of p) (input_level p) p.half in
    let n : ℕ = tally (S && not (has p.ssr 0x40)) p.received in
    let flag : has a.ssr 0x40 ≡ has p.ssr 0x40
    = same_flag a.ssr p.ssr 0x40 refl (advance_tx_keeps (Flagged (bit_and p.ssr 0x78)) (sender_flags (bit_and p.ssr 0x78)) p refl) in
    arm_keeps (Got n) (λ q x k. k) (advance_rx a)
    (advance_got a
    ∙ ap (λ (b : Bool). tally (b && not (has a.ssr 0x40)) a.received) (advance_tx_keeps (SampledIs S) (sender_sampled S) p refl)
    ∙ ap₂ (λ (h : Bool) (m : ℕ). tally (S && not h) m) flag (advance_tx_keeps (Got p.received) (sender_got p.received) p refl))

-- ---- a clocked word, without error, that lacks its last bit
abbrev pub last_clocked : Option Rx → Bool
last_clocked None = false
last_clocked (Some r) = last_bit r.position && (r.format.synchronous && eqb r.error 0)

plain_last : (r : Rx) → r.format.synchronous ≡ false → last_clocked (Some r) ≡ false
plain_last r c = ap (λ (s : Bool). last_bit r.position && (s && eqb r.error 0)) c ∙ and-false (last_bit r.position)

pub clocked_last : (r : Rx) → last_clocked (Some r) ≡ true → r.format.synchronous ≡ true
clocked_last r l = and_left r.format.synchronous (eqb r.error 0) (and_right (last_bit r.position) _ l)

-- no sample leads to one
abbrev pub NotLast : Sampled → Type 0
NotLast Dropped = Unit {0}
NotLast (Onward r) = last_clocked (Some r) ≡ false
NotLast (Whole r) = Unit {0}

sample_last : (now : Format) (high : Bool) (half : ℕ) (r : Rx) → r.format.synchronous ≡ false → (z : ℤ) → NotLast (sample_at z now high half r)
unfolding sample_at
sample_last now high half r c (negsuc (suc (suc n))) = tt
sample_last now high half r c (negsuc (suc zero)) = both_arms NotLast (high || now.synchronous) Dropped (Onward (started now half r)) tt refl
sample_last now high half r c (negsuc zero) = both_arms NotLast high Dropped (Onward (stepped half (negsuc zero) r.value r.parity r.error r)) tt refl
sample_last now high half r c (pos j) =
    let bit : Rx = stepped half (pos j) (cond high (bit_or r.value (bit_at (pos j))) r.value) (differ r.parity high) r.error r in
    let checked : Rx = stepped half (pos j) r.value r.parity (cond (differ high (differ r.parity r.format.odd)) (bit_or r.error 8) r.error) r in
    both_arms NotLast (ltb j r.format.«data») (Onward bit) _ (plain_last bit c)
    (both_arms NotLast (eqb j r.format.«data» && r.format.parity) (Onward checked) (Whole _) (plain_last checked c) tt)

pub complete_rx : (p : Port) (r : Rx) → (complete_receive p r).rx ≡ p.rx
unfolding complete_receive
complete_rx p r =
    both_arms (λ (q : Port). q.rx ≡ p.rx) (has p.ssr 0x40) _ _ refl (both_arms (λ (q : Port). q.rx ≡ p.rx) (eqb r.error 0) _ _ refl refl)

abbrev pub Last : Bool → Port → Type 0
Last b q = last_clocked q.rx ≡ b

advance_last : (h : ℕ) (p : Port) → Side (suc h) h p → Last (last_clocked p.rx) (advance_rx p)
unfolding advance_rx
advance_last h p d = go p.rx refl d.fits
  where
    out : (o : Sampled) → NotLast o → Last false (after_sample o p)
    out Dropped n = refl
    out (Onward r) n = n
    out (Whole r) n = ap last_clocked (complete_rx (with_rx p None) r)

    go : (x : Option Rx) → p.rx ≡ x → RxFits h x → Last (last_clocked x) (advance_rx_on x p)
    go None e f = ap last_clocked e
    go (Some r) e f =
        by_cond (Last (last_clocked (Some r))) (due_now r.next p.half) _ p
        (λ b. let c : r.format.synchronous ≡ false = plain_due r.format.synchronous h p.half r.next f.due b in
        out (sample (format_of p) (input_level p) p.half r) (sample_last (format_of p) (input_level p) p.half r c r.position) ∙ sym (plain_last r c))
        (λ b. ap last_clocked e)

pub arm_last : (p : Port) → Last (last_clocked p.rx) (arm_receive p)
unfolding arm_receive
arm_last p = go p.rx refl
  where
    go : (x : Option Rx) → p.rx ≡ x → Last (last_clocked x) (arm_receive_on x p)
    go None e = both_arms (Last false) (arms p) _ p refl (ap last_clocked e)
    go (Some r) e = ap last_clocked e

sender_last : (b : Bool) → SenderClosed (Last b)
sender_last b = free_sender (Last b) (λ q t u b s x k. k) (λ q n k. k)

pub basic_last : (h : ℕ) (p : Port) → Side (suc h) h p → Last (last_clocked p.rx) (process_basic p)
unfolding process_basic
basic_last h p d =
    let a : Port = advance_tx p in
    let b : Bool = last_clocked p.rx in
    arm_last (advance_rx a) ∙ advance_last h a (advance_tx_keeps (Side (suc h) h) (side_closed (suc h) h) p d) ∙ advance_tx_keeps (Last b) (sender_last b) p refl

-- a clocked word has no due half, so basic work leaves the flags
idle_advance : (h : ℕ) (p : Port) → Side (suc h) h p → Last true p → advance_rx p ≡ p
unfolding advance_rx
idle_advance h p d l = go p.rx d.fits l
  where
    go : (x : Option Rx) → RxFits h x → last_clocked x ≡ true → advance_rx_on x p ≡ p
    go None f e = refl
    go (Some r) f e =
        by_cond (λ (q : Port). q ≡ p) (due_now r.next p.half) _ p
        (λ b. absurd (true≢false (sym (clocked_last r e) ∙ plain_due r.format.synchronous h p.half r.next f.due b))) (λ b. refl)

pub basic_flags : (h : ℕ) (p : Port) → Side (suc h) h p → Last true p → Flagged (bit_and p.ssr 0x78) (process_basic p)
unfolding process_basic
basic_flags h p d l =
    let a : Port = advance_tx p in
    let n : ℕ = bit_and p.ssr 0x78 in
    let e : advance_rx a ≡ a = idle_advance h a (advance_tx_keeps (Side (suc h) h) (side_closed (suc h) h) p d) (advance_tx_keeps (Last true) (sender_last true) p l) in
    arm_keeps (Flagged n) (λ q x k. k) (advance_rx a) (subst (Flagged n) (sym e) (advance_tx_keeps (Flagged n) (sender_flags n) p refl))

-- ---- the clocked edge
-- RE set, no error flag, RDRF clear
abbrev pub ready : Port → Bool
ready p = (has p.scr 0x10 && error_free p) && not (has p.ssr 0x40)

take_got : (p : Port) (r : Rx) → Got (tally (last_bit r.position && (eqb r.error 0 && not (has p.ssr 0x40))) p.received) (take_bit p r)
unfolding take_bit
take_got p r =
    let c : Bool = eqb r.error 0 && not (has p.ssr 0x40) in
    by_cond (Got (tally (last_bit r.position && c) p.received)) (last_bit r.position) _ _
    (λ b. complete_got (with_rx p None) (bit_taken (input_level p) r) ∙ sym (ap (λ (l : Bool). tally (l && c) p.received) b)) (λ b. sym (ap (λ (l : Bool). tally (l && c) p.received) b))

receive_got : (p : Port) → Got (tally (last_clocked p.rx && ready p) p.received) (receive_bit p)
unfolding receive_bit
receive_got p =
    by_cond (Got (tally (last_clocked p.rx && (G && N)) R)) G _ p (λ g. go g p.rx)
    (λ g. sym (ap (λ (x : Bool). tally (last_clocked p.rx && (x && N)) R) g ∙ ap (λ (x : Bool). tally x R) (and-false (last_clocked p.rx))))
  where
    G : Bool
    G = has p.scr 0x10 && error_free p

    N : Bool
    N = not (has p.ssr 0x40)

    R : ℕ
    R = p.received

    joined : (l s e g n : Bool) → s ≡ true → g ≡ true → (l && (e && n)) ≡ ((l && (s && e)) && (g && n))
    joined true true e true n a b = refl
    joined false true e true n a b = refl
    joined l false e g n a b = absurd (false≢true a)
    joined l true e false n a b = absurd (false≢true b)

    go : G ≡ true → (x : Option Rx) → Got (tally (last_clocked x && (G && N)) R) (receive_bit_on x p)
    go g None = both_arms (Got R) (format_of p).synchronous _ p (take_got p (clocked_word (format_of p))) refl
    go g (Some r) =
        let n : ℕ = tally (last_clocked (Some r) && (G && N)) R in
        by_cond (Got n) r.format.synchronous _ p
        (λ s. take_got p r ∙ ap (λ (b : Bool). tally b R) (joined (last_bit r.position) r.format.synchronous (eqb r.error 0) G N s g))
        (λ s. sym (ap (λ (b : Bool). tally (b && (G && N)) R) (plain_last r s)))

pub edge_got : (b : Bool) (p : Port) → Got (tally (b && (last_clocked p.rx && ready p)) p.received) (sync_edge b p)
unfolding sync_edge
edge_got true p =
    let n : ℕ = tally (last_clocked p.rx && ready p) p.received in tail_keeps (Got n) (sender_got n) (receive_bit p) (receive_got p)
edge_got false p = shift_keeps (Got p.received) (sender_got p.received).start p refl

-- the last bit's conditions, in the order of the law
order : (r l e a f n : Bool) → (r && ((l && (true && e)) && ((a && f) && n))) ≡ ((r && (a && (f && (l && e)))) && n)
unfolding every_row
order r l e a f n =
    beq_true _ _
    (by_table 6 (λ (r l e a f n : Bool). beq (r && ((l && (true && e)) && ((a && f) && n))) ((r && (a && (f && (l && e)))) && n)) refl r l e a f n)

-- both together: the sample that is due, or the last bit at the rising edge. p is the port before the half, b after its basic work
pub received_once : (h : ℕ) (p b : Port) (r : Bool) → RxFits h p.rx
    → Got (tally (sampled p.rx (format_of p) (input_level p) (suc p.half) && not (has p.ssr 0x40)) p.received) b
    → Last (last_clocked p.rx) b
    → (Last true p → ready b ≡ ready p)
    → tally (r && (last_clocked b.rx && ready b)) b.received ≡ tally (receives r p) p.received
received_once h p b r fits got last same =
    ap₂ (λ (l : Bool) (m : ℕ). tally (r && (l && ready b)) m) last got ∙ ap (λ (c : Bool). tally c (tally (S && N) R)) (at (last_clocked p.rx) refl) ∙ go p.rx fits
  where
    S : Bool
    S = sampled p.rx (format_of p) (input_level p) (suc p.half)

    N : Bool
    N = not (has p.ssr 0x40)

    R : ℕ
    R = p.received

    at : (l : Bool) → last_clocked p.rx ≡ l → (r && (l && ready b)) ≡ (r && (l && ready p))
    at true e = ap (λ (y : Bool). r && y) (same e)
    at false e = refl

    none : (m : ℕ) → tally (r && false) m ≡ m
    none m = ap (λ (c : Bool). tally c m) (and-false r)

    busy : (x : Rx) (s : Bool) → x.format.synchronous ≡ s → RxGood h x
        → tally (r && ((last_bit x.position && (s && eqb x.error 0)) && ready p)) (tally (sampled (Some x) (format_of p) (input_level p) (suc p.half) && N) R)
        ≡ tally (cond s (r && (has p.scr 0x10 && (error_free p && (last_bit x.position && eqb x.error 0)))) (sampled (Some x) (format_of p) (input_level p) (suc p.half)) && N) R
    busy x true e f =
        let idle : due_now x.next (suc p.half) ≡ false = waits x.next f.due in
        ap (λ (d : Bool). tally (r && ((last_bit x.position && (true && eqb x.error 0)) && ready p)) (tally ((d && clean (sample (format_of p) (input_level p) (suc p.half) x)) && N) R)) idle
        ∙ ap (λ (c : Bool). tally c R) (order r (last_bit x.position) (eqb x.error 0) (has p.scr 0x10) (error_free p) N)
      where
        waits : (d : Option ℕ) → DueBy x.format.synchronous h d → due_now d (suc p.half) ≡ false
        waits None g = refl
        waits (Some n) g = absurd (true≢false (sym e ∙ g.0))
    busy x false e f =
        ap (λ (c : Bool). tally (r && (c && ready p)) (tally (sampled (Some x) (format_of p) (input_level p) (suc p.half) && N) R)) (and-false (last_bit x.position))
        ∙ none (tally (sampled (Some x) (format_of p) (input_level p) (suc p.half) && N) R)

    go : (x : Option Rx) → RxFits h x → tally (r && (last_clocked x && ready p)) (tally (sampled x (format_of p) (input_level p) (suc p.half) && N) R) ≡ tally (completes_on x r p && N) R
    go None f = none R
    go (Some x) f = busy x x.format.synchronous refl f
