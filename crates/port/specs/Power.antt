-- Power and resets (document 01, "The nine registers"; `set_power`), and the port that every run begins with.
-- Assumes nothing.
use Rattle.std.specs.Prelude.{ℕ, Bool, true, false, cond, not, ◌&&◌, ◌||◌, None}
use Rattle.port.specs.declared.Port.{Port}
use Rattle.shift.specs.declared.Tx.TheVariants.{Off}
use Rattle.port.specs.Fields.{with_spcr, with_module, with_main, with_sub, with_reset_mode, with_input, with_input_clock, with_transmitted, with_received}
use Rattle.port.specs.Clocked.{refresh_sync_clock}

-- the state of `Sci::default`
unfoldable pub fresh : Port
fresh =
    record {
      spcr = 0xc0;
      smr = 0;
      brr = 255;
      scr = 0;
      tdr = 255;
      ssr = 0x84;
      rdr = 0;
      semr = 0;
      ircr = 0;
      seen = 0;
      «module» = false;
      main = false;
      sub = false;
      reset_mode = false;
      half = 0;
      high = true;
      edge = false;
      holding = None;
      tx = Off;
      rx = None;
      uart = true;
      bit_start = 0;
      input = true;
      input_clock = true;
      sck = true;
      sync_next = None;
      transmitted = 0;
      received = 0;
    }

-- what a reset keeps of the port before: line, clock pin and both tallies
abbrev pub carried : ℕ → Port → Port → Port
carried spcr old p =
    with_received (with_transmitted (with_input_clock (with_input (with_spcr p spcr) old.input) old.input_clock) old.transmitted) old.received

unfoldable pub reset_registers : ℕ → Port → Port
reset_registers spcr p = carried spcr p fresh

-- it comes when the module goes off, or reset mode on
abbrev pub resets : Bool → Bool → Port → Bool
resets module_on reset_on p = (not module_on && p.«module») || (reset_on && not p.reset_mode)

-- the second keeps SPCR; both in one command count as the module's
unfoldable pub reset : Bool → Bool → Port → Port
reset module_on reset_on p =
    cond (not module_on && p.«module») (reset_registers 0xc0 p)
    (cond (reset_on && not p.reset_mode) (reset_registers p.spcr p) p)

abbrev pub with_power : Port → Bool → Bool → Bool → Bool → Port
with_power p module_on main_on sub_on reset_on =
    with_reset_mode (with_sub (with_main (with_module p module_on) main_on) sub_on) reset_on

unfoldable pub set_power : Bool → Bool → Bool → Bool → Port → Port
set_power module_on main_on sub_on reset_on p =
    refresh_sync_clock (with_power (reset module_on reset_on p) module_on main_on sub_on reset_on)
