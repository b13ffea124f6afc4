-- The nine registers (document 01, "The nine registers"): reading, writing, and the status write.
-- Assumes nothing.
use Rattle.std.specs.Prelude.{ℕ, ◌+◌, ◌-◌, ◌*◌, Bool, true, cond, not, ◌&&◌, ◌||◌, ◌==◌, bit_and, bit_or, nat_le, Option, None, Some, is_some}
use Rattle.frame.specs.Frame.{has, cells}
use Rattle.port.specs.declared.Port.{Port}
use Rattle.port.specs.declared.register.Register.{Register}
use Rattle.port.specs.declared.register.Register.TheVariants.{Spcr, Smr, Brr, Scr, Tdr, Ssr, Rdr, Semr, Ircr}
use Rattle.shift.specs.declared.Tx.{Tx}
use Rattle.shift.specs.declared.Tx.TheVariants.{Off, Blocked, Mark, Start, Data, Tail}
use Rattle.port.specs.Fields.{with_spcr, with_smr, with_brr, with_scr, with_tdr, with_ssr, with_semr, with_ircr, with_seen, with_uart, with_tx, with_rx, with_holding, with_high, with_sync_next}
use Rattle.port.specs.Baud.{format_of, external, boundary}
use Rattle.port.specs.Receiver.{arm_receive}
use Rattle.port.specs.Sender.{tailed, try_start}
use Rattle.port.specs.Clocked.{refresh_sync_clock}
use Rattle.shift.specs.declared.Character.{Character}

-- the nine addresses: SPCR; SMR, BRR, SCR, TDR, SSR, RDR; SEMR, IRCR
abbrev pub handles : ℕ → Bool
handles a = a == 0xff91 || ((nat_le 0xff98 a && nat_le a 0xff9d) || (a == 0xffa6 || a == 0xffa7))

-- the registers by name
abbrev pub address : Register → ℕ
address Spcr = 0xff91
address Smr = 0xff98
address Brr = 0xff99
address Scr = 0xff9a
address Tdr = 0xff9b
address Ssr = 0xff9c
address Rdr = 0xff9d
address Semr = 0xffa6
address Ircr = 0xffa7

-- the register at an address; IRCR at any other
unfoldable pub peek : Port → ℕ → ℕ
peek p a =
    cond (a == 0xff91) p.spcr
    (cond (a == 0xff98) p.smr
    (cond (a == 0xff99) p.brr
    (cond (a == 0xff9a) p.scr
    (cond (a == 0xff9b) p.tdr
    (cond (a == 0xff9c) p.ssr
    (cond (a == 0xff9d) p.rdr
    (cond (a == 0xffa6) p.semr p.ircr)))))))

-- reading SSR remembers what was seen; reading RDR clears RDRF and its seen bit
unfoldable pub read : ℕ → Port → Port
read a p =
    cond (a == 0xff9c) (with_seen p p.ssr)
    (cond (a == 0xff9d) (with_seen (with_ssr p (bit_and p.ssr 0xbf)) (bit_and p.seen 0xbf)) p)

-- ---- writing
-- TE off drops sender and holding place, line to mark, SSR gains TDRE and TEND
abbrev pub sender_off : Port → Port
sender_off p = with_holding (with_tx (with_ssr (with_uart p true) (bit_or p.ssr 0x84)) Off) None

-- TE set in start-stop form waits to a boundary and then one whole character of mark
abbrev pub sender_on : Port → Port
sender_on p =
    with_tx p (Mark (boundary p (format_of p).half_bit + cells (format_of p) * (format_of p).half_bit))

abbrev pub scr_tx : Bool → ℕ → Port → Port
scr_tx was v p =
    cond (has v 0x20) (cond (not was && not (format_of p).synchronous) (sender_on p) p) (sender_off p)

-- RE off drops the receiver
abbrev pub scr_rx : ℕ → Port → Port
scr_rx v p = cond (has v 0x10) p (with_rx p None)

unfoldable pub write_scr : ℕ → Port → Port
write_scr v p = scr_rx v (scr_tx (has p.scr 0x20) v (with_scr p (bit_and v 0xf7)))

-- with TE on TDR's byte is held, an unsent one replaced, and TDRE and TEND are cleared, seen or not
unfoldable pub write_tdr : ℕ → Port → Port
write_tdr v p =
    cond (has p.scr 0x20)
    (with_holding (with_seen (with_ssr (with_tdr p v) (bit_and p.ssr 0x7b)) (bit_and p.seen 0x7b)) (Some v))
    (with_tdr p v)

-- SSR without the bits of 0xf8 that were seen and are written 0
abbrev pub cleared : ℕ → Port → ℕ
cleared v p = bit_and p.ssr (255 - bit_and (bit_and p.seen (255 - v)) 0xf8)

-- TE off forces TDRE. With TE on and nothing held, a cleared TDRE takes TDR into the holding place and clears TEND
unfoldable pub status_with : ℕ → ℕ → Port → Port
status_with ssr v p =
    cond (has p.scr 0x20)
    (cond (not (has ssr 0x80) && not (is_some p.holding))
    (with_holding (with_seen (with_ssr p (bit_and ssr 0xfb)) (bit_and p.seen v)) (Some p.tdr))
    (with_seen (with_ssr p ssr) (bit_and p.seen v)))
    (with_seen (with_ssr p (bit_or ssr 0x80)) (bit_and p.seen v))

unfoldable pub status_write : ℕ → Port → Port
status_write v p = status_with (cleared v p) v p

unfoldable pub stored : ℕ → ℕ → Port → Port
stored a v p =
    cond (a == 0xff91) (with_spcr p (bit_or (bit_and v 0x13) 0xc0))
    (cond (a == 0xff98) (with_smr p v)
    (cond (a == 0xff99) (with_brr p v)
    (cond (a == 0xff9a) (write_scr v p)
    (cond (a == 0xff9b) (write_tdr v p)
    (cond (a == 0xff9c) (status_write v p)
    (cond (a == 0xff9d) p
    (cond (a == 0xffa6) (with_semr p (bit_and v 8)) (with_ircr p (bit_and v 0xf0)))))))))

-- the external clock is chosen: the phase is the clock pin's, and no edge is planned
unfoldable pub connect : Bool → Port → Port
connect was p = cond (not was && external p) (with_sync_next (with_high p p.input_clock) None) p

-- a tail with no next word takes what the holding place has
abbrev pub fill_tail : Option Character → Option ℕ → Port → Port
fill_tail None next p = cond (is_some p.holding) (tailed p next) p
fill_tail (Some ch) next p = p

abbrev pub load_tail_on : Tx → Port → Port
load_tail_on Off p = p
load_tail_on (Blocked ch) p = p
load_tail_on (Mark next) p = p
load_tail_on (Start ch next) p = p
load_tail_on (Data ch cell next) p = p
load_tail_on (Tail l next) p = fill_tail l next p

unfoldable pub load_tail : Port → Port
load_tail p = load_tail_on p.tx p

-- what follows every store, also one that stores nothing
unfoldable pub after_store : Port → Port
after_store p = refresh_sync_clock (arm_receive (try_start (load_tail p)))

-- with module off or in reset mode a write does nothing
abbrev pub takes_writes : Port → Bool
takes_writes p = p.«module» && not p.reset_mode

unfoldable pub write : ℕ → ℕ → Port → Port
write a v p = cond (takes_writes p) (after_store (connect (external p) (stored a v p))) p
