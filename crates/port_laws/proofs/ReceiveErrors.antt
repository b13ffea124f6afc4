-- The theorem of specs/ReceiveErrors.antt: the rows fall into two kinds, lost with RDRF set and taken with RDRF clear.
-- Assumes nothing.
use mathlib.Core.Path.{◌≡◌, refl, sym, ap, ◌∙◌}
use Prim.Native.Nat.{ℕ}
use mathlib.Core.Bool.{Bool, true, false, not, ◌||◌, true≢false}
use lib.Dec.{eqb}
use lib.Bits.{bit_and, bit_or, or_zero_r}
use Rattle.frame.specs.Frame.{has}
use Rattle.port.specs.declared.Port.{Port}
use Rattle.shift.specs.declared.Rx.{Rx}
use Rattle.port.specs.Receiver.{complete_receive}
use Rattle.port_laws.specs.ReceiveErrors.{row, errors, flags, Agrees, Holds, ReceivesAsTheManual}
use Rattle.frame.proofs.Laws.{clear_of}
use Rattle.branches.proofs.Branches.{by_cond}
use Rattle.port_laws.proofs.Masks.{and_or}

-- SSR gains the bits m
or_flags : (s m : ℕ) → bit_and s 0x38 ≡ 0 → bit_and (bit_or s m) 0x38 ≡ bit_and m 0x38
or_flags s m e = and_or s m 0x38 ∙ ap (λ (x : ℕ). bit_or x (bit_and m 0x38)) e

or_rdrf : (s m : ℕ) → bit_and m 0x40 ≡ 0 → has (bit_or s m) 0x40 ≡ has s 0x40
or_rdrf s m e = ap (λ (x : ℕ). not (eqb x 0)) (and_or s m 0x40 ∙ ap (bit_or (bit_and s 0x40)) e ∙ or_zero_r (bit_and s 0x40))

-- a fact of the four pairs of errors, by computing each
by_errors : (P : Bool → Bool → Type 0) → P true true → P true false → P false true → P false false → (a b : Bool) → P a b
by_errors P x y z w true true = x
by_errors P x y z w true false = y
by_errors P x y z w false true = z
by_errors P x y z w false false = w

lost : (framing parity : Bool) → Holds (row true true framing parity false)
unfolding complete_receive
lost f g p r full none e =
    by_cond (Agrees true true f g false p r) (has p.ssr 0x40) _ _
    (λ b. record {
      flags_after = or_flags p.ssr (bit_or r.error 0x20) none ∙ ap (λ (x : ℕ). bit_and (bit_or x 0x20) 0x38) e ∙ by_errors (λ (a b : Bool). bit_and (bit_or (errors a b) 0x20) 0x38 ≡ flags true a b) refl refl refl refl f g;
      rdr_after = refl;
      rdrf_after = or_rdrf p.ssr (bit_or r.error 0x20) (ap (λ (x : ℕ). bit_and (bit_or x 0x20) 0x40) e ∙ by_errors (λ (a b : Bool). bit_and (bit_or (errors a b) 0x20) 0x40 ≡ 0) refl refl refl refl f g) ∙ full;
    })
    (λ b. absurd (true≢false (sym full ∙ b)))

-- taken: with errors their bits are added, and without RDRF
module _ (p : Port) (r : Rx) (empty : has p.ssr 0x40 ≡ false) (none : bit_and p.ssr 0x38 ≡ 0) where
  faulty : (f g : Bool) → r.error ≡ errors f g → eqb (errors f g) 0 ≡ false → (f || g) ≡ true → Agrees false false f g true p r (complete_receive p r)
  unfolding complete_receive
  faulty f g e n some =
      by_cond (Agrees false false f g true p r) (has p.ssr 0x40) _ _ (λ b. absurd (true≢false (sym b ∙ empty)))
      (λ b. by_cond (Agrees false false f g true p r) (eqb r.error 0) _ _ (λ c. absurd (true≢false (sym c ∙ ap (λ (x : ℕ). eqb x 0) e ∙ n)))
      (λ c. record {
        flags_after = or_flags p.ssr r.error none ∙ ap (λ (x : ℕ). bit_and x 0x38) e ∙ by_errors (λ (a b : Bool). bit_and (errors a b) 0x38 ≡ flags false a b) refl refl refl refl f g;
        rdr_after = refl;
        rdrf_after = or_rdrf p.ssr r.error (ap (λ (x : ℕ). bit_and x 0x40) e ∙ by_errors (λ (a b : Bool). bit_and (errors a b) 0x40 ≡ 0) refl refl refl refl f g) ∙ empty ∙ sym (ap not some);
      }))

  clean : r.error ≡ errors false false → Agrees false false false false true p r (complete_receive p r)
  unfolding complete_receive
  clean e =
      by_cond (Agrees false false false false true p r) (has p.ssr 0x40) _ _ (λ b. absurd (true≢false (sym b ∙ empty)))
      (λ b. by_cond (Agrees false false false false true p r) (eqb r.error 0) _ _
      (λ c. record {
        flags_after = or_flags p.ssr 0x40 none;
        rdr_after = refl;
        rdrf_after = ap (λ (x : ℕ). not (eqb x 0)) (and_or p.ssr 0x40 0x40 ∙ ap (λ (x : ℕ). bit_or x 0x40) (clear_of p.ssr 0x40 empty));
      })
      (λ c. absurd (true≢false (sym (ap (λ (x : ℕ). eqb x 0) e) ∙ c))))

pub receives_as_the_manual : ReceivesAsTheManual
unfolding ReceivesAsTheManual
receives_as_the_manual =
    (lost false false, ((λ p r a b e. faulty p r a b true false e refl refl), ((λ p r a b e. faulty p r a b false true e refl refl), (lost true false, (lost false true, ((λ p r a b e. faulty p r a b true true e refl refl), (lost true true, ((λ p r a b e. clean p r a b e), tt))))))))
