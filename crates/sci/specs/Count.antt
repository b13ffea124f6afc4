-- Halves counted from the cycles of a clock, one cycle at a time, with divider and reload as parameters (document 02, "Two": "the counting is shown for a
-- divider as a parameter"; baud.rs). No port here.
-- Assumes nothing.
use Rattle.std.specs.Prelude.{◌≡◌, ℕ, zero, suc, ◌+◌, ◌-◌, ◌/◌, ◌%◌, ◌<◌, cond, eqb, ltb}

-- cycles so far, ticks to the next half, halves so far
pub record Count : Type 0 where
  pub total : ℕ
  pub remaining : ℕ
  pub halves : ℕ

-- a tick: one less remains; where it was the last, a half is counted and a full count waits
abbrev pub ticked : ℕ → Count → Count
ticked reload c =
    cond (eqb c.remaining 1) (record { total = c.total; remaining = reload; halves = suc c.halves })
    (record { total = c.total; remaining = c.remaining - 1; halves = c.halves })

-- a cycle: it is a tick where the total becomes a multiple of the divider
abbrev pub cycled : ℕ → ℕ → Count → Count
cycled divider reload c =
    let more : Count = record { total = suc c.total; remaining = c.remaining; halves = c.halves } in
    cond (eqb (suc c.total % divider) 0) (ticked reload more) more

unfoldable pub counted : ℕ → ℕ → ℕ → Count → Count
counted divider reload zero c = c
counted divider reload (suc n) c = counted divider reload n (cycled divider reload c)

-- ---- the same by arithmetic
-- the ticks in n cycles
unfoldable pub ticks_in : ℕ → ℕ → ℕ → ℕ
ticks_in divider total n = (total + n) / divider - total / divider

-- the halves in these ticks, and what remains after them
unfoldable pub halves_in : ℕ → ℕ → ℕ → ℕ
halves_in remaining reload ticks = cond (ltb ticks remaining) 0 (suc ((ticks - remaining) / reload))

unfoldable pub left_in : ℕ → ℕ → ℕ → ℕ
left_in remaining reload ticks = cond (ltb ticks remaining) (remaining - ticks) (reload - (ticks - remaining) % reload)

-- cycle by cycle is the arithmetic, for every divider, reload, total and count that is not over
unfoldable pub Counting : Type 0
Counting =
    (divider reload n : ℕ) (c : Count) → 0 < divider → 0 < reload → 0 < c.remaining
    → let ticks = ticks_in divider c.total n in
    counted divider reload n c
    ≡ record { total = c.total + n; remaining = left_in c.remaining reload ticks; halves = c.halves + halves_in c.remaining reload ticks }
