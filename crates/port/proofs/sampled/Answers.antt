use Rattle.std.proofs.Common.{rules}
use Rattle.frame.proofs.Choose.{flag_t, flag_f}
use Rattle.shift.proofs.SignedLaws.{data_shifts, at_falling, at_starting, at_data_cell, at_parity_cell, at_stop_cell}
use Rattle.port.proofs.Steps.{step}
use Rattle.port.proofs.sampled.Goals as goal

pub returns-then-high-now : goal.returns-then-high-now
returns-then-high-now c = search (at_falling, step) depth 10

pub returns-then-falling : goal.returns-then-falling
returns-then-falling c = search (at_falling, step) depth 10

pub returns-then-high : goal.returns-then-high
returns-then-high c = search (at_starting, step) depth 10

pub returns-then-starting : goal.returns-then-starting
returns-then-starting c = search (at_starting, step) depth 10

pub with_bit-value-requires : goal.with_bit-value-requires
with_bit-value-requires c = search (data_shifts, flag_t, flag_f, rules)

pub returns-then-in_data : goal.returns-then-in_data
returns-then-in_data c = search (at_data_cell, step) depth 10

pub returns-then-at_parity : goal.returns-then-at_parity
returns-then-at_parity c = search (at_parity_cell, step) depth 10

pub returns : goal.returns
returns c = search (at_stop_cell, step) depth 10
