-- What of the port the receiver depends on, and what one half does to it.
-- Assumes nothing.
use Rattle.std.specs.Prelude.{Option, None, Some}
use Prim.Native.Nat.{ℕ, suc, ◌%◌, ◌^◌}
use mathlib.Core.Bool.{Bool, true, not, ◌&&◌, cond}
use lib.Dec.{eqb}
use lib.Bits.{bit_and, bit_or}
use Rattle.frame.specs.declared.Format.{Format}
use Rattle.shift.specs.declared.Rx.{Rx}
use Rattle.shift.specs.declared.Sampled.{Sampled}
use Rattle.shift.specs.declared.Sampled.TheVariants.{Dropped, Onward, Whole}
use Rattle.frame.specs.Frame.{has}
use Rattle.shift.specs.Receiver.{armed, completing_on, sample}
use Rattle.shift.specs.Due.{due_now}

pub record View : Type 0 where
  pub fmt : Format
  pub on : Bool
  pub runs : Bool
  pub rx : Option Rx
  pub half : ℕ
  pub high : Bool
  pub mark : Bool
  pub flags : ℕ
  pub rdr : ℕ
  pub received : ℕ

abbrev pub v_rx : View → Option Rx → View
v_rx v x =
    record { fmt = v.fmt; on = v.on; runs = v.runs; rx = x; half = v.half; high = v.high; mark = v.mark; flags = v.flags; rdr = v.rdr; received = v.received }

abbrev pub v_flags : View → ℕ → View
v_flags v s =
    record { fmt = v.fmt; on = v.on; runs = v.runs; rx = v.rx; half = v.half; high = v.high; mark = v.mark; flags = s; rdr = v.rdr; received = v.received }

abbrev pub v_word : View → ℕ → ℕ → ℕ → View
v_word v s d n =
    record { fmt = v.fmt; on = v.on; runs = v.runs; rx = v.rx; half = v.half; high = v.high; mark = v.mark; flags = s; rdr = d; received = n }

abbrev pub v_mark : View → Bool → View
v_mark v m =
    record { fmt = v.fmt; on = v.on; runs = v.runs; rx = v.rx; half = v.half; high = v.high; mark = m; flags = v.flags; rdr = v.rdr; received = v.received }

abbrev pub v_count : View → View
v_count v =
    record { fmt = v.fmt; on = v.on; runs = v.runs; rx = v.rx; half = suc v.half; high = not v.high; mark = v.mark; flags = v.flags; rdr = v.rdr; received = v.received }

-- the next half with a falling phase
abbrev pub fall : ℕ → Bool → ℕ
fall half high = cond high (suc half) (suc (suc half))

-- a word may begin: RE, no error flag, start-stop form, and the line off mark
abbrev pub v_can_arm : View → Bool
v_can_arm v = v.on && (not (has v.flags 0x38) && (not v.fmt.synchronous && not v.mark))

abbrev pub v_arm_on : Option Rx → View → View
v_arm_on None v =
    cond (v_can_arm v)
    (v_rx v (Some (armed v.fmt (fall v.half v.high)))) v
v_arm_on (Some r) v = v

unfoldable pub v_arm : View → View
v_arm v = v_arm_on v.rx v

abbrev pub v_complete : View → Rx → View
v_complete v r =
    cond (has v.flags 0x40) (v_flags v (bit_or v.flags (bit_and (bit_or r.error 0x20) 0x78)))
    (cond (eqb r.error 0)
    (v_word v (bit_or v.flags 0x40) r.value (suc v.received % 2 ^ 64))
    (v_word v (bit_or v.flags (bit_and r.error 0x78)) r.value v.received))

abbrev pub v_outcome : Sampled → View → View
v_outcome Dropped v = v_rx v None
v_outcome (Onward r) v = v_rx v (Some r)
v_outcome (Whole r) v = v_complete (v_rx v None) r

abbrev pub v_advance_on : Option Rx → View → View
v_advance_on None v = v
v_advance_on (Some r) v = cond (due_now r.next v.half) (v_outcome (sample v.fmt v.mark v.half r) v) v

unfoldable pub v_advance : View → View
v_advance v = v_advance_on v.rx v

unfoldable pub v_basic : View → View
v_basic v = v_arm (v_advance v)

unfoldable pub v_half : View → View
v_half v = v_basic (v_count v)

-- the next half is a completion: it samples the first stop cell
unfoldable pub completing : View → Bool
completing v = completing_on v.rx (suc v.half)

-- a view of given values
abbrev pub state : Format → Option Rx → ℕ → Bool → Bool → ℕ → ℕ → ℕ → View
state f x h hi m s d n =
    record { fmt = f; on = true; runs = true; rx = x; half = h; high = hi; mark = m; flags = s; rdr = d; received = n }
