-- The claims of specs/Cells.antt, by the arithmetic of n cycles at once (sci's Quick.antt).
-- Assumes nothing.
use Rattle.std.proofs.Common.{◌≡◌, ℕ, zero, suc, ◌+◌, ◌*◌, ◌/◌, ◌<◌, Bool, true, bit_and, refl, sym, ap, ◌∙◌, arith}
use Rattle.std.proofs.Math.Nat.{add-mul-div_left, mul-div_cancel, mul-mod_left, mul_assoc, mul_left_comm, suc-mul, zero-mul, add-sub_cancel, add-sub_cancel_left}
use borrow.Author.Tests.{lt-ltb, le-ltb}
use lib.Dec.{lit<}
use Rattle.branches.proofs.Branches.{both_arms}
use Rattle.command.specs.declared.Source.TheVariants.{System}
use Rattle.frame.specs.Frame.{format}
use Rattle.port.specs.declared.Port.{Port}
use Rattle.port.specs.Baud.{format_of, internal}
use Rattle.port.specs.Half.{halves, inside}
use Rattle.rates.specs.declared.Select.{Select}
use Rattle.rates.specs.declared.Select.TheVariants as select
use Rattle.rates.specs.declared.Setting.{Setting}
use Rattle.rates.specs.Rates.{code, divider, cell, period}
use Rattle.sci.specs.declared.Sci.{Sci}
use Rattle.sci.specs.Count.{ticks_in, halves_in, left_in}
use Rattle.sci.specs.Cycle.{reload, chosen, divider as divider_of}
use Rattle.sci.specs.Quick.{counts, halves_passed, left_passed, at_edge, edge_kept, quick, Simulates}
use Rattle.sci.proofs.Cycle.{halves_are, simulates}
use Rattle.rate_laws.specs.Cells.{HasSetting, SameCell, Pass, CellsPass}

-- ---- a cell
pub same_cell : SameCell
unfolding SameCell format
same_cell s p h = rw h.short_cell

-- ---- the clock, by SMR's bits
divider_positive : (x : Select) → 0 < divider x
divider_positive select.System = lit< tt
divider_positive select.System16 = lit< tt
divider_positive select.System64 = lit< tt

same_divider : (x : Select) (smr : ℕ) → bit_and smr 3 ≡ code x → divider_of smr ≡ divider x
same_divider select.System smr e = rw e
same_divider select.System16 smr e = rw e
same_divider select.System64 smr e = rw e

system_chosen : (x : Select) (smr : ℕ) → bit_and smr 3 ≡ code x → chosen System smr ≡ true
system_chosen select.System smr e = rw e
system_chosen select.System16 smr e = rw e
system_chosen select.System64 smr e = rw e

-- ---- whole counts
ticks_whole : (d total k : ℕ) → 0 < d → ticks_in d total (d * k) ≡ k
unfolding ticks_in
ticks_whole d total k h = rw (add-mul-div_left total k h) (add-sub_cancel_left (total / d) k)

halves_whole : (r k : ℕ) → 0 < r → halves_in r r (k * r) ≡ k
unfolding halves_in
halves_whole r zero h = rw (zero-mul r, lt-ltb 0 r h)
halves_whole r (suc k) h =
    let l : r + 0 ≡ r = omega arith in
    rw (suc-mul k r, le-ltb (k * r + r) r (omega arith), add-sub_cancel (k * r) r, mul-div_cancel k h)

left_whole : (r k : ℕ) → 0 < r → left_in r r (k * r) ≡ r
unfolding left_in
left_whole r zero h = rw (zero-mul r, lt-ltb 0 r h) (omega arith)
left_whole r (suc k) h =
    rw (suc-mul k r, le-ltb (k * r + r) r (omega arith), add-sub_cancel (k * r) r, mul-mod_left k r) (omega arith)

-- n periods are so many cycles of a tick
by_ticks : (n d c r : ℕ) → n * (d * c * r) ≡ d * (n * c * r)
by_ticks n d c r = rw (mul_assoc d c r, mul_left_comm n d (c * r), mul_assoc n c r)

-- ---- the port
module _ (s : Setting) (n : ℕ) (t : Sci) (h : HasSetting s t.port) (runs : internal t.port ≡ true) (full : t.baud.remaining ≡ reload t.port) where
  abbrev p : Port
  p = t.port

  abbrev cells : ℕ
  cells = n * cell s.short_cell

  counting : counts System p ≡ true
  counting = rw (runs, system_chosen s.select p.smr h.select)

  ticks : ticks_in (divider_of p.smr) t.baud.system (n * period s) ≡ cells * reload p
  unfolding period
  ticks =
      rw (same_divider s.select p.smr h.select, h.brr, by_ticks n (divider s.select) (cell s.short_cell) (suc s.brr))
      (ticks_whole (divider s.select) t.baud.system (cells * suc s.brr) (divider_positive s.select))

  halves_of : halves_passed System (n * period s) p t.baud ≡ cells
  unfolding halves_passed
  halves_of = rw (counting, ticks, full) (halves_whole (reload p) cells (omega arith))

  left_of : left_passed System (n * period s) p t.baud ≡ reload p
  unfolding left_passed
  left_of = rw (counting, ticks, full) (left_whole (reload p) cells (omega arith))

  some : 0 < t.baud.remaining
  some = omega (arith, full)

  edge_aside : (b : Bool) (q : Port) → inside (edge_kept b q) ≡ inside q
  edge_aside b q = both_arms (λ (x : Port). inside x ≡ inside q) b q (inside q) refl refl

  in_halves : n * (format_of p).half_bit ≡ cells
  unfolding SameCell
  in_halves = ap (λ (k : ℕ). n * k) (same_cell s p h)

  pass : Pass s n t
  unfolding Simulates quick
  pass =
      let e = simulates System (n * period s) t some in
      record {
        counted = halves_are System (n * period s) t some ∙ halves_of ∙ sym in_halves;
        passed =
            ap (λ (x : Sci). inside x.port) e ∙ edge_aside (at_edge System (n * period s) p t.baud) (halves (halves_passed System (n * period s) p t.baud) p)
            ∙ ap (λ (k : ℕ). inside (halves k p)) (halves_of ∙ sym in_halves);
        full = ap (λ (x : Sci). x.baud.remaining) e ∙ left_of;
      }

pub cells_pass : CellsPass
unfolding CellsPass
cells_pass s n t h runs full = pass s n t h runs full
