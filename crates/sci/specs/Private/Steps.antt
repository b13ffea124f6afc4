-- What the counter of the code counts, by the arithmetic of Count.antt.
-- Assumes nothing.
use Rattle.std.specs.Prelude.{ℕ, ◌+◌, ◌-◌, ◌%◌, Bool, cond, ◌||◌, ◌==◌, eqb, ltb}
use Rattle.sci.specs.declared.counter.Counter.{Counter}
use Rattle.sci.specs.Count.{ticks_in, halves_in, left_in}

abbrev pub ticks_by : Counter → ℕ → ℕ
ticks_by c n = ticks_in c.divider c.total n

unfoldable pub halves_by : Counter → ℕ → ℕ
halves_by c n = cond c.runs (halves_in c.remaining c.reload (ticks_by c n)) 0

unfoldable pub left_by : Counter → ℕ → ℕ
left_by c n = cond c.runs (left_in c.remaining c.reload (ticks_by c n)) c.remaining

-- the last of n cycles is a tick
abbrev pub last_is_tick : Counter → ℕ → Bool
last_is_tick c n = eqb ((c.total + n) % c.divider) 0

abbrev pub edge_by : Counter → ℕ → Bool
edge_by c n = (n == 0) || ltb (halves_by c (n - 1)) (halves_by c n)
