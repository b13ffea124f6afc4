-- The theorems of specs/Laws.antt.
-- Assumes nothing.
use Rattle.std.specs.Prelude.{Option, None, Some}
use mathlib.Core.Path.{◌≡◌, refl, sym, ◌∙◌, subst}
use mathlib.Core.Logic.{inl, inr}
use Prim.Native.Nat.{ℕ, ◌+◌}
use native.Mathlib.Omega.{arith}
use mathlib.Core.Bool.{true, false, not, ◌&&◌, true≢false}
use mathlib.Core.List.{List, [], ◌∷◌}
use lib.Dec.{eqb, leb}
use Rattle.frame.specs.Frame.{has}
use Rattle.port.specs.declared.Port.{Port}
use Rattle.port.specs.Power.{fresh}
use Rattle.port.specs.Baud.{external, internal, edge_counts}
use Rattle.port.specs.Receiver.{error_free, complete_receive}
use Rattle.port.specs.Sender.{one_sent, finish_tail}
use Rattle.port.specs.Registers.{handles}
use Rattle.port.specs.Input.{pins_change}
use Rattle.port.specs.Valid.{limit, valid}
use Rattle.command.specs.declared.Call.{Call}
use Rattle.command.specs.declared.Call.TheVariants.{Read, Write, Wait, Line, Pins, Power, Inside}
use Rattle.port.specs.Calls.{Answer, done, refused, after, refuse, bit, called, direct, run}
use Rattle.port_laws.specs.Laws.{FreshPasses, KeepsFieldTest, AcceptedPasses, GrownPasses, NeverRefusedBy8, OneOf, RefusedStands, TalliesWrap, WholeWordCounts, TailEndCounts, HalfCounts, PinEdgeCounts, CallCounts, TalliesCount, receives, finishes, in_calls}
use Rattle.branches.proofs.Branches.{by_cond, both_arms}
use Rattle.port.proofs.CallLaws.{internal_external}
use Rattle.port.proofs.SenderKeeps.{StartClosed, free_start, begin_keeps, try_keeps}
use Rattle.port_laws.proofs.KeepHalf.{Kept}
use Rattle.port_laws.proofs.KeepValid.{valid_sound, sound_valid, fresh_sound, call_sound}
use Rattle.port_laws.proofs.TallySent.{finish_sent}
use Rattle.port_laws.proofs.TallyReceived.{complete_got}
use Rattle.port_laws.proofs.TallyHalf.{half_finishes, half_receives}
use Rattle.port_laws.proofs.TallyCalls.{grown_wraps, pin_receives, pin_finishes, direct_counts, run_counts, from_zero}
use Rattle.shift.specs.declared.Character.{Character}

-- ---- the field test
pub fresh_passes : FreshPasses
unfolding FreshPasses
fresh_passes = sound_valid fresh fresh_sound

pub called_valid : (c : Call) (p : Port) → valid p ≡ true → valid (after (called c p)) ≡ true
called_valid c p e = sound_valid (after (called c p)) (call_sound c p (valid_sound p e))

pub keeps_field_test : KeepsFieldTest
unfolding KeepsFieldTest
keeps_field_test c p q v e r = subst (λ (w : Answer). valid (after w) ≡ true) r (called_valid c p e)

abbrev Passes : Answer → Type 0
Passes (done v q) = valid q ≡ true
Passes (refused n offset q) = Unit {0}

passes : (r : Answer) → valid (after r) ≡ true → Passes r
passes (done v q) e = e
passes (refused n offset q) e = tt

pub accepted_passes : AcceptedPasses
unfolding AcceptedPasses direct
accepted_passes c p q v r =
    subst Passes r (by_cond Passes (valid p) (called c p) (refuse 8 p) (λ e. passes (called c p) (called_valid c p e)) (λ e. tt))

pub direct_valid : (c : Call) (p : Port) → valid p ≡ true → valid (after (direct c p)) ≡ true
unfolding direct
direct_valid c p e = both_arms (λ (r : Answer). valid (after r) ≡ true) (valid p) (called c p) (refuse 8 p) (called_valid c p e) e

pub run_valid : (cs : List Call) (p : Port) → valid p ≡ true → valid (run p cs) ≡ true
unfolding run
run_valid [] p e = e
run_valid (c ∷ cs) p e = run_valid cs (after (direct c p)) (direct_valid c p e)

pub grown_passes : GrownPasses
unfolding GrownPasses FreshPasses
grown_passes cs = run_valid cs fresh fresh_passes

-- ---- refusals
-- a call on the port p is accepted, or refused with one of these numbers, at offset 0 and with p as it was
data Tested (p : Port) (ns : List ℕ) : Answer → Type 0 where
  accepts : (v : ℕ) (q : Port) → Tested p ns (done v q)
  refuses : (n : ℕ) → OneOf ns n → Tested p ns (refuse n p)

-- the tests that follow the field test
abbrev four : List ℕ
four = 2 ∷ 1 ∷ 3 ∷ 4 ∷ []

module _ (p : Port) where
  abbrev P : Answer → Type 0
  P = Tested p four

  by_2 : P (refuse 2 p)
  by_2 = refuses 2 (inl refl)

  by_1 : P (refuse 1 p)
  by_1 = refuses 1 (inr (inl refl))

  by_3 : P (refuse 3 p)
  by_3 = refuses 3 (inr (inr (inl refl)))

  by_4 : P (refuse 4 p)
  by_4 = refuses 4 (inr (inr (inr (inl refl))))

  called_tested : (c : Call) → P (called c p)
  unfolding called
  called_tested (Read a) = both_arms P (leb a 65535) _ _ (both_arms P (handles a) _ _ (accepts _ _) by_1) by_2
  called_tested (Write a v) =
      both_arms P (leb a 65535 && leb v 255) _ _ (both_arms P (handles a) _ _ (both_arms P (eqb a 0xffa7 && leb 128 v) _ _ by_3 (accepts _ _)) by_1) by_2
  called_tested (Wait n) =
      both_arms P (leb n 65535) _ _ (both_arms P (internal p) _ _ (both_arms P (leb (p.half + n) limit) _ _ (accepts _ _) by_4) (accepts _ _)) by_2
  called_tested (Line line) = both_arms P (leb line 1) _ _ (accepts _ _) by_2
  called_tested (Pins clock line) =
      both_arms P (leb clock 1 && leb line 1) _ _
      (both_arms P (pins_change (bit clock) (bit line) p && (edge_counts (bit clock) p && leb limit p.half)) _ _ by_4 (accepts _ _)) by_2
  called_tested (Power b) = both_arms P (leb b 15) _ _ (accepts _ _) by_2
  called_tested Inside = accepts _ _

-- read off an answer
abbrev Stands : Port → List ℕ → Answer → Type 0
Stands p ns (done v q) = Unit {0}
Stands p ns (refused n offset q) = (q ≡ p) × (offset ≡ 0) × OneOf ns n

stands : (p : Port) (ns : List ℕ) (r : Answer) → Tested p ns r → Stands p ns r
stands p ns r (accepts v q) = tt
stands p ns r (refuses n o) = (refl, refl, o)

widen : (p : Port) (ns : List ℕ) (n : ℕ) (r : Answer) → Tested p ns r → Tested p (n ∷ ns) r
widen p ns n r (accepts v q) = accepts v q
widen p ns n r (refuses m o) = refuses m (inr o)

direct_tested : (c : Call) (p : Port) → Tested p (8 ∷ four) (direct c p)
unfolding direct
direct_tested c p =
    both_arms (Tested p (8 ∷ four)) (valid p) (called c p) (refuse 8 p) (widen p four 8 (called c p) (called_tested p c)) (refuses 8 (inl refl))

pub refused_stands : RefusedStands
unfolding RefusedStands
refused_stands c p q n offset r = subst (Stands p (8 ∷ four)) r (stands p (8 ∷ four) (direct c p) (direct_tested c p))

-- so no refusal has the number 0
pub refused_not_0 : (c : Call) (p q : Port) (n offset : ℕ) → direct c p ≡ refused n offset q → n ≡ 0 → ⊥
unfolding RefusedStands
refused_not_0 c p q n offset e z = not_0 (subst (OneOf (8 ∷ 2 ∷ 1 ∷ 3 ∷ 4 ∷ [])) z (refused_stands c p q n offset e).2)
  where
    not_0 : OneOf (8 ∷ 2 ∷ 1 ∷ 3 ∷ 4 ∷ []) 0 → ⊥
    not_0 (inl e) = omega arith
    not_0 (inr (inl e)) = omega arith
    not_0 (inr (inr (inl e))) = omega arith
    not_0 (inr (inr (inr (inl e)))) = omega arith
    not_0 (inr (inr (inr (inr (inl e))))) = omega arith
    not_0 (inr (inr (inr (inr (inr e))))) = elim e [ ]

-- on a port that passes the field test the call is all there is
passing_tested : (c : Call) (p : Port) → valid p ≡ true → Tested p four (direct c p)
unfolding direct
passing_tested c p e =
    by_cond (Tested p four) (valid p) (called c p) (refuse 8 p) (λ b. called_tested p c) (λ b. absurd (true≢false (sym e ∙ b)))

not_8 : OneOf four 8 → ⊥
not_8 (inl e) = omega arith
not_8 (inr (inl e)) = omega arith
not_8 (inr (inr (inl e))) = omega arith
not_8 (inr (inr (inr (inl e)))) = omega arith
not_8 (inr (inr (inr (inr e)))) = elim e [ ]

pub passing_not_8 : (c : Call) (p q : Port) (offset : ℕ) → valid p ≡ true → direct c p ≡ refused 8 offset q → ⊥
passing_not_8 c p q offset e r = not_8 (subst (Stands p four) r (stands p four (direct c p) (passing_tested c p e))).2

pub never_refused_by_8 : NeverRefusedBy8
unfolding NeverRefusedBy8 GrownPasses
never_refused_by_8 cs c offset q r = passing_not_8 c (run fresh cs) q offset (grown_passes cs) r

-- ---- the tallies
pub tallies_wrap : TalliesWrap
unfolding TalliesWrap
tallies_wrap n t h = grown_wraps n t h

pub whole_word_counts : WholeWordCounts
unfolding WholeWordCounts complete_receive
whole_word_counts p r = (
  complete_got p r,
  both_arms (λ (q : Port). q.transmitted ≡ p.transmitted) (has p.ssr 0x40) _ _ refl (both_arms (λ (q : Port). q.transmitted ≡ p.transmitted) (eqb r.error 0) _ _ refl refl),
)

pub tail_end_counts : TailEndCounts
unfolding TailEndCounts
tail_end_counts l p = (finish_sent l p, go l)
  where
    P : Port → Type 0
    P q = q.received ≡ p.received

    start : StartClosed P
    start = free_start P (λ q t u b s x k. k)

    go : (l : Option Character) → (finish_tail l p).received ≡ p.received
    go None = try_keeps P start (one_sent p) refl
    go (Some ch) =
        both_arms P (ch.format.synchronous && not (error_free p)) _ _ refl
        (begin_keeps P start (one_sent p) ch refl)

pub half_counts : HalfCounts
unfolding HalfCounts
half_counts p e i =
    let k : Kept p.half p = (valid_sound p e).kept in
    let x : external p ≡ false = internal_external p i in
    (half_receives p.half p k x, half_finishes p.half p k x)

pub pin_edge_counts : PinEdgeCounts
unfolding PinEdgeCounts
pin_edge_counts level p e =
    let k : Kept p.half p = (valid_sound p e).kept in (pin_receives level p.half p k, pin_finishes level p.half p k)

pub call_counts : CallCounts
unfolding CallCounts
call_counts c p = (
  direct_counts (λ (q : Port). q.received) receives (λ p q s. s.0) half_receives pin_receives c p,
  direct_counts (λ (q : Port). q.transmitted) finishes (λ p q s. s.1) half_finishes pin_finishes c p,
)

pub tallies_count : TalliesCount
unfolding TalliesCount fresh
tallies_count cs = (
  run_counts (λ (q : Port). q.received) receives (λ p q s. s.0) half_receives pin_receives cs fresh ∙ from_zero (in_calls receives fresh cs),
  run_counts (λ (q : Port). q.transmitted) finishes (λ p q s. s.1) half_finishes pin_finishes cs fresh ∙ from_zero (in_calls finishes fresh cs),
)
