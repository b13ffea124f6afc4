-- The two settings that the quotient gives are those that decide (proofs/Columns.antt).
use mathlib.Core.Path.{ap, ap₂, sym, ◌∙◌}
use Prim.Native.Nat.{ℕ, ◌*◌, ◌/◌, min}
use Rattle.rates.specs.declared.Setting.{Setting}
use Rattle.rates.specs.Rates.{setting, closer}
use Rattle.rates.proofs.Columns.{two_decide}
use Rattle.rates.proofs.Wanted.nearest_in.Goals as goal

pub returns : goal.returns
returns c =
    let f : ℕ = c.args.self.clock in
    let r : ℕ = c.args.self.rate in
    let of : ℕ → Setting = λ b. setting c.args.select c.args.short_cell b in
    c.closer-2.ensures
    ∙ ap (λ (best : Setting). closer f r best (of c.min-2.result)) c.closer.ensures
    ∙ ap₂ (λ (a b : ℕ). closer f r (closer f r c.args.best (of a)) (of b))
    (c.min.ensures ∙ ap (λ (n : ℕ). min n 255) c.saturating_sub.ensures) c.min-2.ensures
    ∙ sym
    (two_decide c.args.select c.args.short_cell f r c.args.self.in_range.clock_least c.args.best (f / (r * c.period.result))
    (ap (λ (p : ℕ). f / (r * p)) c.period.ensures.value) c.args.self.in_range.rate_least)
