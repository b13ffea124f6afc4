-- One name for all that a direct call computes with: `unfolding computes` opens the whole port, for facts on concrete lists of calls.
-- Assumes nothing.
use Rattle.port.specs.declared.Port.{Port}
use Rattle.frame.specs.Frame.{bits, format, format_valid, frame, number, ones, parity_cell, word, word_valid}
use Rattle.port.specs.Calls.{Answer, called, direct}
use Rattle.command.specs.declared.Call.{Call}
use Rattle.port.specs.Clocked.{bit_out, receive_bit, refresh_sync_clock, shift_out, sync_edge, tail_ends, take_bit}
use Rattle.port.specs.Half.{advance, clocked_edge, half_step, halves, process_basic, sync}
use Rattle.port.specs.Input.{external_edge, input_pins, receive_input}
use Rattle.port.specs.Power.{fresh, reset, reset_registers, set_power}
use Rattle.shift.specs.Receiver.{sample_at}
use Rattle.port.specs.Receiver.{advance_rx, arm_receive, complete_receive}
use Rattle.port.specs.Registers.{connect, load_tail, peek, read, after_store, status_with, status_write, stored, write, write_scr, write_tdr}
use Rattle.port.specs.Sender.{advance_tx, begin, loaded, next_cell, preloaded, start_at, try_start}
use Rattle.shift.specs.Valid.{character_valid, word_in_place}
use Rattle.port.specs.Valid.{registers_valid, valid}

unfoldable pub computes : Call → Port → Answer
unfolding bits number ones format parity_cell frame word format_valid word_valid sample_at arm_receive complete_receive advance_rx loaded preloaded begin start_at try_start next_cell advance_tx refresh_sync_clock take_bit receive_bit tail_ends bit_out shift_out sync_edge process_basic sync clocked_edge advance half_step halves peek read write_scr write_tdr status_with status_write stored connect load_tail after_store write fresh reset_registers reset set_power receive_input external_edge input_pins registers_valid character_valid word_in_place valid called direct
computes c p = direct c p
