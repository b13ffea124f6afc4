-- What the proofs of the direct calls cite: what the tests that a call has passed say, and the accepted answer of kind 5.
-- Assumes nothing.
use Rattle.std.proofs.Common.{◌≡◌, ℕ, ◌+◌, ◌<◌, ◌≤◌, Bool, true, false, cond, not, ◌&&◌, leb, sym, ap, ◌∙◌, ap₂, arith, w32, Fits, leb-false}
use borrow.Author.Tests.{not-true}
use Rattle.frame.proofs.Choose.{cond_t, cond_f}
use Rattle.frame.proofs.Truth.{and_right}
use Rattle.port.specs.declared.Port.{Port}
use Rattle.port.specs.Baud.{external, running, internal, edge_counts}
use Rattle.port.specs.Valid.{limit, valid}
use Rattle.port.specs.Calls.{Answer, done}
use Rattle.port.proofs.Checked.{valid_ready}

-- the half count that test 4 looks at
pub sum_fits : (p : Port) (n : ℕ) → valid p ≡ true → n ≤ 65535 → Fits w32 (p.half + n)
sum_fits p n e h = record { fits = omega (arith, (valid_ready p e).half≤) }

pub valid_half : (p : Port) → valid p ≡ true → p.half ≤ limit
valid_half p e = (valid_ready p e).half≤

-- halves pass on the internal clock
pub internal_external : (p : Port) → internal p ≡ true → external p ≡ false
internal_external p i = not-true (external p) (and_right (running p) (not (external p)) i)

-- whether they pass, from what two calls gave
pub internal_is : (r x b : Bool) (p : Port) → r ≡ running p → x ≡ external p → (r && not x) ≡ b → internal p ≡ b
internal_is r x b p er ex t = sym (ap₂ (λ (c d : Bool). c && not d) er ex) ∙ t

pub not_external : (r x : Bool) (p : Port) → r ≡ running p → x ≡ external p → (r && not x) ≡ true → external p ≡ false
not_external r x p er ex t = internal_external p (internal_is r x true p er ex t)

-- an edge that passed test 4 has room
pub edge_room : (g clock : Bool) (p : Port) → g ≡ edge_counts clock p → (g && leb limit p.half) ≡ false → edge_counts clock p ≡ true → p.half < limit
edge_room g clock p e h k = leb-false limit p.half (sym (ap (λ (b : Bool). b && leb limit p.half) (e ∙ k)) ∙ h)

-- the pins change, and no edge goes past the limit
pub pins_set : (z a : Answer) (c g x l : Bool) (r q p : Port) → c ≡ true → g ≡ x → (g && l) ≡ false → z ≡ done 0 r → r ≡ q → z ≡ cond (c && (x && l)) a (done 0 (cond c q p))
pins_set z a c g x l r q p t h k e i =
    cond_f (c && (x && l)) a _ z (ap₂ ◌&&◌ t (sym (ap (λ (b : Bool). b && l) h) ∙ k)) (e ∙ ap (done 0) (cond_t c q p r t i))
