-- The field test (document 01: number 8 is given when it fails), clause by clause; the clauses of words and due halves are in the crate shift.
-- Assumes nothing.
use Rattle.std.specs.Prelude.{ℕ, Bool, not, ◌&&◌, ◌==◌, bit_and, bit_or, nat_le}
use Rattle.frame.specs.Frame.{has}
use Rattle.shift.specs.Valid.{due_either, tx_valid, rx_valid}
use Rattle.port.specs.declared.Port.{Port}

-- "half count at most 4,000,000,000"
abbrev pub limit : ℕ
limit = 4000000000

-- "no register bit that cannot be stored (SPCR is 0xc0 plus bits of 0x13, SCR without 8, SEMR only 8, IRCR only 0x70, SSR and its seen bits without 3)"
unfoldable pub registers_valid : Port → Bool
registers_valid p =
    (bit_or (bit_and p.spcr 0x13) 0xc0 == p.spcr) && (not (has p.scr 8) && (bit_and p.semr 8 == p.semr
    && (bit_and p.ircr 0x70 == p.ircr && (not (has p.ssr 3) && not (has p.seen 3)))))

-- the whole test, with the greatest half count as an argument. "the half where the present cell began at most the half count"; "for the clocked edge
-- either way"
abbrev pub valid_within : ℕ → Port → Bool
valid_within most p =
    nat_le p.half most && (registers_valid p && (tx_valid p.tx p.half && (rx_valid p.rx p.half
    && (nat_le p.bit_start p.half && due_either p.sync_next p.half))))

unfoldable pub valid : Port → Bool
valid p = valid_within limit p
