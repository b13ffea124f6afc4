-- Causes (specs/Cause.antt): where nothing is due there is none; the work of a half gives its cause in one pass; and skipped halves have none.
-- Assumes nothing.
use Rattle.std.specs.Option.{option_or}
use Rattle.std.specs.Prelude.{Option, None, Some}
use Rattle.std.proofs.Common.{◌≡◌, ℕ, zero, suc, ◌+◌, ◌<◌, Bool, true, false, cond, not, ◌&&◌, ◌||◌, refl, sym, ap, ap₂, ◌∙◌, zero-add, suc-add, arith, ne_eqb}
use Rattle.frame.specs.Frame.{has}
use Rattle.branches.proofs.Branches.{both_arms, cond_false, or_left, or_right}
use Rattle.shift.specs.declared.Rx.{Rx}
use Rattle.shift.specs.declared.cause.Cause.{Cause}
use Rattle.shift.specs.declared.cause.Cause.TheVariants.{NoWord, Taken, Overrun}
use Rattle.shift.specs.Cause.{followed_by}
use Rattle.shift.specs.Due.{due_now}
use Rattle.shift.specs.Sender.{tx_next, tx_clocked}
use Rattle.shift.specs.Receiver.{rx_next, rx_clocked, rx_due_on}
use Rattle.port.specs.declared.Port.{Port}
use Rattle.port.specs.Fields.{with_sync_next}
use Rattle.port.specs.Baud.{format_of, external, counted}
use Rattle.port.specs.Receiver.{error_free}
use Rattle.port.specs.Clocked.{sync_needed, with_clock, refresh_sync_clock}
use Rattle.port.specs.Half.{process_basic, sync, half_step, halves}
use Rattle.port.specs.Cause.{rx_cause_on, rx_cause, basic_cause, receive_cause_on, receive_cause, edge_cause, clocked_cause, advance_cause, sync_cause, half_cause, halves_cause}
use Rattle.port.specs.Valid.{limit}
use Rattle.port.specs.Private.Ready.{Ready}
use Rattle.port.proofs.Keep.{keep_counted}
use Rattle.port.proofs.SenderKeeps.{free_sender}
use Rattle.port.proofs.ReceiverKeeps.{free_receiver, refresh_any, basic_keeps}
use Rattle.port.proofs.OnePass.{Sent, Taken as NotDue, tx_still, refresh_needed, refresh_idle, basic_sent, basic_taken, basic_again}

-- ---- one after the other
pub none_followed : (c : Cause) → followed_by NoWord c ≡ c
none_followed NoWord = refl
none_followed (Taken e) = refl
none_followed (Overrun e) = refl

pub followed_assoc : (a b c : Cause) → followed_by a (followed_by b c) ≡ followed_by (followed_by a b) c
followed_assoc a b NoWord = refl
followed_assoc a b (Taken e) = refl
followed_assoc a b (Overrun e) = refl

-- ---- nothing due, no cause
pub rx_cause_still : (p : Port) → due_now (rx_next p.rx) p.half ≡ false → rx_cause p ≡ NoWord
rx_cause_still p h = go p.rx h
  where
    go : (x : Option Rx) → due_now (rx_next x) p.half ≡ false → rx_cause_on x p ≡ NoWord
    go None e = refl
    go (Some r) e = cond_false (due_now r.next p.half) _ NoWord e

pub basic_cause_still : (p : Port) → due_now (tx_next p.tx) p.half ≡ false → due_now (rx_next p.rx) p.half ≡ false → basic_cause p ≡ NoWord
unfolding basic_cause
basic_cause_still p t r = ap rx_cause (tx_still p t) ∙ rx_cause_still p r

pub clocked_cause_still : (p : Port) → due_now p.sync_next p.half ≡ false → clocked_cause p ≡ NoWord
unfolding clocked_cause
clocked_cause_still p h = cond_false (due_now p.sync_next p.half) _ NoWord h

-- an edge of clocked form's clock where nothing needs it
idle_edge_cause : (b : Bool) (p : Port) → sync_needed p ≡ false → edge_cause b p ≡ NoWord
unfolding edge_cause receive_cause
idle_edge_cause b p e =
    both_arms (λ (c : Cause). c ≡ NoWord) b _ _ (receives (has p.scr 0x10) (error_free p) (or_right (tx_clocked p.tx) _ e)) refl
  where
    takes : (x : Option Rx) → ((format_of p).synchronous || rx_clocked x) ≡ false → receive_cause_on x p ≡ NoWord
    takes None c = cond_false (format_of p).synchronous _ NoWord (or_left (format_of p).synchronous false c)
    takes (Some r) c = cond_false r.format.synchronous _ NoWord (or_right (format_of p).synchronous r.format.synchronous c)

    receives : (a f : Bool) → (a && (f && ((format_of p).synchronous || rx_clocked p.rx))) ≡ false → cond (a && f) (receive_cause_on p.rx p) NoWord ≡ NoWord
    receives true true c = takes p.rx c
    receives true false c = refl
    receives false f c = refl

-- a refresh before the edge changes nothing of its cause
planned_cause : (p : Port) → external p ≡ false → clocked_cause (refresh_sync_clock p) ≡ clocked_cause p
unfolding clocked_cause
planned_cause p x = go (sync_needed p) refl
  where
    on : (d : Option ℕ) → p.sync_next ≡ d → sync_needed p ≡ true → clocked_cause (refresh_sync_clock p) ≡ clocked_cause p
    on (Some m) d e =
        ap clocked_cause (refresh_needed p x e ∙ ap (with_sync_next p) (ap (λ (y : Option ℕ). option_or y (Some (p.half + 2))) d ∙ sym d))
    on None d e =
        let q : Port = with_sync_next p (Some (p.half + 2)) in
        let f : refresh_sync_clock p ≡ q = refresh_needed p x e ∙ ap (λ (y : Option ℕ). with_sync_next p (option_or y (Some (p.half + 2)))) d in
        ap clocked_cause f ∙ clocked_cause_still q (ne_eqb (p.half + 2) p.half (omega arith))
        ∙ sym (clocked_cause_still p (ap (λ (y : Option ℕ). due_now y p.half) d))

    go : (b : Bool) → sync_needed p ≡ b → clocked_cause (refresh_sync_clock p) ≡ clocked_cause p
    go true e = on p.sync_next refl e
    go false e =
        let q : Port = with_clock p None true in
        ap clocked_cause (refresh_idle p x e) ∙ clocked_cause_still q refl
        ∙ sym (both_arms (λ (c : Cause). c ≡ NoWord) (due_now p.sync_next p.half) _ _ (idle_edge_cause (not p.sck) (with_clock p None (not p.sck)) e) refl)

-- ---- a half, in one pass
module _ (p : Port) (sent : Sent (process_basic p).half (process_basic p)) (taken : NotDue (process_basic p).half (process_basic p)) where
  pub pass_cause : external p ≡ false → followed_by (sync_cause p) (advance_cause (sync p)) ≡ advance_cause p
  unfolding sync sync_cause advance_cause
  pass_cause x = go (rx_due_on p.rx p.half)
    where
      b : Port
      b = process_basic p

      P : Port → Type 0
      P q = external q ≡ false

      y : P b
      y = basic_keeps P (free_sender P (λ q t u b s x k. k) (λ q n k. k)) (free_receiver P (λ q x s v n k. k)) p x

      again : advance_cause (refresh_sync_clock b) ≡ clocked_cause b
      again =
          ap₂ followed_by (refresh_any (λ (q : Port). basic_cause q ≡ NoWord) b (λ d k. basic_cause_still (with_clock b d k) sent taken))
          (ap clocked_cause (refresh_any (λ (q : Port). process_basic q ≡ q) b (basic_again p sent taken)) ∙ planned_cause b y)
          ∙ none_followed (clocked_cause b)

      go : (c : Bool) → followed_by (cond c (basic_cause p) NoWord) (advance_cause (cond c (refresh_sync_clock b) p)) ≡ advance_cause p
      go true = ap (followed_by (basic_cause p)) again
      go false = none_followed (advance_cause p)

pub half_cause_once : {n : ℕ} {p : Port} → Ready n p → n < limit → external p ≡ false → half_cause p ≡ advance_cause (counted p)
unfolding half_cause
half_cause_once {p = p} r h x = let k = keep_counted r h in pass_cause (counted p) (basic_sent k) (basic_taken k) x

-- ---- many halves
pub halves_cause_add : (k m : ℕ) (p : Port) → halves_cause (k + m) p ≡ followed_by (halves_cause k p) (halves_cause m (halves k p))
unfolding halves halves_cause
halves_cause_add zero m p = ap (λ (n : ℕ). halves_cause n p) (zero-add m) ∙ sym (none_followed (halves_cause m p))
halves_cause_add (suc k) m p =
    ap (λ (n : ℕ). halves_cause n p) (suc-add k m) ∙ ap (followed_by (half_cause p)) (halves_cause_add k m (half_step p))
    ∙ followed_assoc (half_cause p) (halves_cause k (half_step p)) (halves_cause m (halves k (half_step p)))
