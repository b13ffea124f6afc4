-- The trace of specs/Recovery.antt is that of Halfwise: in a wait, the answers to shorter waits are the port after each half.
-- And no call on a port grown from fresh is refused by 8.
-- Assumes nothing.
use mathlib.Core.Path.{◌≡◌, refl, sym, ap, ap₂, ◌∙◌}
use Prim.Native.Nat.{ℕ, zero, suc, ◌+◌, ◌≤◌, ◌<◌}
use native.Mathlib.Omega.{arith}
use mathlib.Core.Bool.{Bool, true, false, cond, ◌&&◌, true≢false}
use mathlib.Core.List.{List, [], ◌∷◌, ◌++◌}
use lib.Dec.{eqb, leb}
use borrow.Author.Tests.{leb-true, leb-false}
use Rattle.port.specs.Calls.{run as port_run, Answer, after, bit, called, direct, done, refuse}
use Rattle.command.specs.declared.Call.{Call}
use Rattle.command.specs.declared.Call.TheVariants.{Wait, Inside, Read, Line, Pins, Power, Write}
use Rattle.port.specs.declared.Port.{Port}
use Rattle.frame.specs.Frame.{differ, has}
use Rattle.port.specs.Baud.{edge_counts, internal}
use Rattle.port.specs.Half.{half_step, halves, uncounted}
use Rattle.port.specs.Input.{pins_change}
use Rattle.port.specs.Receiver.{input_level}
use Rattle.port.specs.Registers.{handles}
use Rattle.port.specs.Valid.{limit, valid}
use Rattle.branches.proofs.Branches.{both_arms, by_cond}
use Rattle.port_laws.proofs.Laws.{direct_valid}
use Rattle.recovery.specs.Line.{half_passes}
use Rattle.recovery.specs.Recovery.{Moment, Wired, allowed_in_rest, allowed_in_words, by_8, call_trace, completes, each, line_at_mark, run_wired, wired_after, trace, wait_trace, waited}
use Rattle.recovery.proofs.Halfwise.{each_call, half_moments, moments, moments_of, rests}
use Rattle.recovery.proofs.Halves.{Core, core_half}
use Rattle.recovery.proofs.LineFold.{Lined, lined_after}
use Rattle.recovery.proofs.Reached.{Near, near_half}
use Rattle.recovery.proofs.RestCalls.{near_direct}

-- ---- waits
halves_last : (i : ℕ) (p : Port) → halves (suc i) p ≡ half_step (halves i p)
unfolding halves
halves_last zero p = refl
halves_last (suc i) p = halves_last i (half_step p)

mark_halves : (i : ℕ) (p : Port) → Near p → input_level (halves i p) ≡ input_level p
unfolding halves
mark_halves zero p t = refl
mark_halves (suc i) p t = mark_halves i (half_step p) (near_half p t) ∙ ap (λ (k : Core). k.mark) (core_half p t)

-- every shorter wait is accepted
module _ (p : Port) (v : valid p ≡ true) (i : internal p ≡ true) where
  waited_is : (j : ℕ) → j ≤ 65535 → p.half + j ≤ limit → waited direct j p ≡ halves j p
  unfolding direct called
  waited_is j a b =
      by_cond Is (valid p) _ (refuse 8 p)
      (λ e. by_cond Is (leb j 65535) _ (refuse 2 p)
      (λ e. by_cond Is (internal p) _ (done 0 (uncounted j p))
      (λ e. by_cond Is (leb (p.half + j) limit) (done 0 (halves j p)) (refuse 4 p) (λ e. refl) (λ e. let h : limit < p.half + j = leb-false (p.half + j) limit e in let z : ⊥ = omega arith in absurd z))
      (λ e. absurd (true≢false (sym i ∙ e))))
      (λ e. let h : 65535 < j = leb-false j 65535 e in let z : ⊥ = omega arith in absurd z))
      (λ e. absurd (true≢false (sym v ∙ e)))
    where
      Is : Answer → Type 0
      Is r = after r ≡ halves j p

  wait_is : (n k : ℕ) (m : Bool) (q : Port) → k + n ≤ 65535 → p.half + (k + n) ≤ limit → Near p → m ≡ input_level p → q ≡ halves k p
      → wait_trace direct n k m p q ≡ half_moments n (halves k p)
  unfolding wait_trace half_moments
  wait_is zero k m q a b t e g = refl
  wait_is (suc n) k m q a b t e g =
      let w : waited direct (suc k) p ≡ halves (suc k) p = waited_is (suc k) (omega arith) (omega arith) in
      ap₂ (λ (x : Moment) (y : List Moment). x ∷ y)
      (λ j. record { event = half_passes ((e ∙ sym (mark_halves k p t)) j) (completes (g j)); port = (w ∙ halves_last k p) j })
      (wait_is n (suc k) m (waited direct (suc k) p) (omega arith) (omega arith) t e w ∙ ap (half_moments n) (halves_last k p))

-- ---- calls and lists of calls
same_if : {A : Type 0} (b : Bool) (x y z : A) → (b ≡ true → x ≡ y) → cond b x z ≡ cond b y z
same_if true x y z e = e refl
same_if false x y z e = refl

module _ (s : Wired) (l : Lined s) (v : valid s.port ≡ true) (t : Near s.port) where
  marks : line_at_mark s ≡ input_level s.port
  marks = ap (λ (b : Bool). differ b (has s.port.spcr 1)) (sym l)

  wait_call : (n : ℕ) → call_trace direct (Wait n) (direct (Wait n) s.port) s ≡ moments_of (Wait n) (direct (Wait n) s.port) s.port
  unfolding direct called halves
  wait_call n =
      by_cond Is (valid p) _ (refuse 8 p)
      (λ e. by_cond Is (leb n 65535) _ (refuse 2 p)
      (λ a. by_cond Is (internal p) _ (done 0 (uncounted n p))
      (λ i. by_cond Is (leb (p.half + n) limit) (done 0 (halves n p)) (refuse 4 p)
      (λ b. same_if (internal p) _ _ _ (λ i. let lo : n ≤ 65535 = leb-true n 65535 a in let up : p.half + n ≤ limit = leb-true (p.half + n) limit b in wait_is p v i n 0 (line_at_mark s) p (omega arith) (omega arith) t marks refl))
      (λ b. refl))
      (λ i. same_if (internal p) _ _ _ (λ g. absurd (true≢false (sym g ∙ i)))))
      (λ a. refl))
      (λ e. refl)
    where
      p : Port
      p = s.port

      Is : Answer → Type 0
      Is r = call_trace direct (Wait n) r s ≡ moments_of (Wait n) r s.port

  call_is : (c : Call) → call_trace direct c (direct c s.port) s ≡ moments_of c (direct c s.port) s.port
  call_is (Wait n) = wait_call n
  call_is (Read a) = refl
  call_is (Write a w) = refl
  call_is (Line b) = refl
  call_is (Pins c b) = refl
  call_is (Power b) = refl
  call_is Inside = refl

-- what is kept from call to call: the line, the field test, the bound
pub record Grown (s : Wired) : Type 0 where
  pub lined : Lined s
  pub tested : valid s.port ≡ true
  pub near : Near s.port

pub grown_after : (c : Call) (s : Wired) → Grown s → Grown (wired_after c (direct c s.port) s)
grown_after c s g = record { lined = lined_after c s g.lined; tested = direct_valid c s.port g.tested; near = near_direct c s.port g.near }

pub grown_run : (cs : List Call) (s : Wired) → Grown s → Grown (run_wired direct s cs)
unfolding run_wired
grown_run [] s g = g
grown_run (c ∷ cs) s g = grown_run cs (wired_after c (direct c s.port) s) (grown_after c s g)

pub run_is : (cs : List Call) (s : Wired) → port_run s.port cs ≡ (run_wired direct s cs).port
unfolding run_wired port_run
run_is [] s = refl
run_is (c ∷ cs) s = run_is cs (wired_after c (direct c s.port) s)

pub trace_is : (cs : List Call) (s : Wired) → Grown s → trace direct s cs ≡ moments s.port cs
unfolding trace moments
trace_is [] s g = refl
trace_is (c ∷ cs) s g = ap₂ (λ (x y : List Moment). x ++ y) (call_is s g.lined g.tested g.near c) (trace_is cs (wired_after c (direct c s.port) s) (grown_after c s g))

pub rest_calls : (cs : List Call) (s : Wired) → Lined s → each direct (λ c a q. allowed_in_rest c a × (line_at_mark q ≡ true)) s cs → each_call rests s.port cs
rest_calls [] s l e = tt
rest_calls (c ∷ cs) s l e =
    let l' : Lined (wired_after c (direct c s.port) s) = lined_after c s l in
    ((e.0.0, ap (λ (b : Bool). differ b (has (wired_after c (direct c s.port) s).port.spcr 1)) l' ∙ e.0.1), rest_calls cs (wired_after c (direct c s.port) s) l' e.1)

pub words_calls : (cs : List Call) (s : Wired) → each direct (λ c a q. allowed_in_words c a) s cs → each_call (λ c a q. allowed_in_words c a) s.port cs
words_calls [] s e = tt
words_calls (c ∷ cs) s e = (e.0, words_calls cs (wired_after c (direct c s.port) s) e.1)

-- ---- never refused by 8
Other : Answer → Type 0
Other r = by_8 r ≡ false

named : (c : Call) (p : Port) → Other (called c p)
unfolding called Other
named (Read a) p = both_arms Other (leb a 65535) _ _ (both_arms Other (handles a) _ _ refl refl) refl
named (Write a v) p = both_arms Other (leb a 65535 && leb v 255) _ _ (both_arms Other (handles a) _ _ (both_arms Other (eqb a 0xffa7 && leb 128 v) _ _ refl refl) refl) refl
named (Wait n) p = both_arms Other (leb n 65535) _ _ (both_arms Other (internal p) _ _ (both_arms Other (leb (p.half + n) limit) _ _ refl refl) refl) refl
named (Line b) p = both_arms Other (leb b 1) _ _ refl refl
named (Pins c b) p = both_arms Other (leb c 1 && leb b 1) _ _ (both_arms Other (pins_change (bit c) (bit b) p && (edge_counts (bit c) p && leb limit p.half)) _ _ refl refl) refl
named (Power b) p = both_arms Other (leb b 15) _ _ refl refl
named Inside p = refl

not_by_8 : (c : Call) (p : Port) → valid p ≡ true → by_8 (direct c p) ≡ false
unfolding direct Other
not_by_8 c p v = by_cond Other (valid p) (called c p) (refuse 8 p) (λ e. named c p) (λ e. absurd (true≢false (sym v ∙ e)))

pub never_by_8 : (cs : List Call) (s : Wired) → Grown s → each direct (λ c a q. by_8 a ≡ false) s cs
never_by_8 [] s g = tt
never_by_8 (c ∷ cs) s g = (not_by_8 c s.port g.tested, never_by_8 cs (wired_after c (direct c s.port) s) (grown_after c s g))
