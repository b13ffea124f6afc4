-- The receiver (document 01, "Receiver"): when a word begins, when it is sampled, and what a whole word does. What a sample makes of a word is in the crate shift.
-- Assumes nothing.
use Rattle.std.specs.Prelude.{suc, ◌%◌, ◌^◌, Bool, cond, not, ◌&&◌, ◌==◌, bit_or, Option, None, Some}
use Rattle.frame.specs.Frame.{has, differ}
use Rattle.shift.specs.Due.{due_now}
use Rattle.shift.specs.Receiver.{armed, sample}
use Rattle.port.specs.declared.Port.{Port}
use Rattle.shift.specs.declared.Rx.{Rx}
use Rattle.shift.specs.declared.Sampled.{Sampled}
use Rattle.shift.specs.declared.Sampled.TheVariants.{Dropped, Onward, Whole}
use Rattle.port.specs.Fields.{with_rx, with_ssr, with_rdr, with_received}
use Rattle.port.specs.Baud.{format_of, next_fall}

-- the receive line is at mark: line 1, or line 0 with SPCR bit 0 set
abbrev pub input_level : Port → Bool
input_level p = differ p.input (has p.spcr 1)

-- SSR without overrun, framing and parity error
abbrev pub error_free : Port → Bool
error_free p = not (has p.ssr 0x38)

-- a word begins on a level, not a fall: RE set, no error flag, start-stop form, no word yet, the line not at mark
abbrev pub arms : Port → Bool
arms p = has p.scr 0x10 && (error_free p && (not (format_of p).synchronous && not (input_level p)))

abbrev pub arm_receive_on : Option Rx → Port → Port
arm_receive_on None p = cond (arms p) (with_rx p (Some (armed (format_of p) (next_fall p)))) p
arm_receive_on (Some r) p = p

unfoldable pub arm_receive : Port → Port
arm_receive p = arm_receive_on p.rx p

-- a whole word, the receiver being empty again. With RDRF set it is lost: RDR is kept, overrun and the word's errors are added.
-- Otherwise RDR takes it; RDRF is set, and the word counted, only without error
unfoldable pub complete_receive : Port → Rx → Port
complete_receive p r =
    cond (has p.ssr 0x40) (with_ssr p (bit_or p.ssr (bit_or r.error 0x20)))
    (cond (r.error == 0)
    (with_received (with_ssr (with_rdr p r.value) (bit_or p.ssr 0x40)) (suc p.received % 2 ^ 64))
    (with_ssr (with_rdr p r.value) (bit_or p.ssr r.error)))

abbrev pub after_sample : Sampled → Port → Port
after_sample Dropped p = with_rx p None
after_sample (Onward r) p = with_rx p (Some r)
after_sample (Whole r) p = complete_receive (with_rx p None) r

-- the receiver's step: a sample, at the half on which one is due
abbrev pub advance_rx_on : Option Rx → Port → Port
advance_rx_on None p = p
advance_rx_on (Some r) p =
    cond (due_now r.next p.half) (after_sample (sample (format_of p) (input_level p) p.half r) p) p

unfoldable pub advance_rx : Port → Port
advance_rx p = advance_rx_on p.rx p
