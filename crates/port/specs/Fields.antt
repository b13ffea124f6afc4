-- The port with one field changed, for each field.
-- Written by tools/generate from other text, which it follows: it need not be read, and is not to be edited.
-- Assumes nothing.
use Rattle.std.specs.Prelude.{ℕ, Bool, Option}
use Rattle.shift.specs.declared.Tx.{Tx}
use Rattle.shift.specs.declared.Rx.{Rx}
use Rattle.port.specs.declared.Port.{Port}

abbrev pub with_spcr : Port → ℕ → Port
with_spcr p v = record p { spcr = v }

abbrev pub with_smr : Port → ℕ → Port
with_smr p v = record p { smr = v }

abbrev pub with_brr : Port → ℕ → Port
with_brr p v = record p { brr = v }

abbrev pub with_scr : Port → ℕ → Port
with_scr p v = record p { scr = v }

abbrev pub with_tdr : Port → ℕ → Port
with_tdr p v = record p { tdr = v }

abbrev pub with_rdr : Port → ℕ → Port
with_rdr p v = record p { rdr = v }

abbrev pub with_semr : Port → ℕ → Port
with_semr p v = record p { semr = v }

abbrev pub with_ircr : Port → ℕ → Port
with_ircr p v = record p { ircr = v }

abbrev pub with_main : Port → Bool → Port
with_main p v = record p { main = v }

abbrev pub with_sub : Port → Bool → Port
with_sub p v = record p { sub = v }

abbrev pub with_reset_mode : Port → Bool → Port
with_reset_mode p v = record p { reset_mode = v }

abbrev pub with_high : Port → Bool → Port
with_high p v = record p { high = v }

abbrev pub with_module : Port → Bool → Port
with_module p v = record p { «module» = v }

abbrev pub with_uart : Port → Bool → Port
with_uart p v = record p { uart = v }

abbrev pub with_seen : Port → ℕ → Port
with_seen p v = record p { seen = v }

abbrev pub with_ssr : Port → ℕ → Port
with_ssr p v = record p { ssr = v }

abbrev pub with_edge : Port → Bool → Port
with_edge p v = record p { edge = v }

abbrev pub with_input : Port → Bool → Port
with_input p v = record p { input = v }

abbrev pub with_input_clock : Port → Bool → Port
with_input_clock p v = record p { input_clock = v }

abbrev pub with_sck : Port → Bool → Port
with_sck p v = record p { sck = v }

abbrev pub with_half : Port → ℕ → Port
with_half p v = record p { half = v }

abbrev pub with_bit_start : Port → ℕ → Port
with_bit_start p v = record p { bit_start = v }

abbrev pub with_sync_next : Port → Option ℕ → Port
with_sync_next p v = record p { sync_next = v }

abbrev pub with_tx : Port → Tx → Port
with_tx p v = record p { tx = v }

abbrev pub with_rx : Port → Option Rx → Port
with_rx p v = record p { rx = v }

abbrev pub with_holding : Port → Option ℕ → Port
with_holding p v = record p { holding = v }

abbrev pub with_transmitted : Port → ℕ → Port
with_transmitted p v = record p { transmitted = v }

abbrev pub with_received : Port → ℕ → Port
with_received p v = record p { received = v }
