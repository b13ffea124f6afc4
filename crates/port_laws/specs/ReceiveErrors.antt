-- The manual's table of receive errors: what a whole word does, by RDRF before it and the errors found in it, for every port and every word.
-- Assumes nothing.
use Rattle.std.specs.Prelude.{◌≡◌, ℕ, Bool, true, false, cond, not, ◌||◌, List, [], ◌∷◌}
use Rattle.std.specs.Int.Bits.{bit_and, bit_or}
use Rattle.frame.specs.Frame.{has}
use Rattle.port.specs.declared.Port.{Port}
use Rattle.shift.specs.declared.Rx.{Rx}
use Rattle.port.specs.Receiver.{complete_receive}

-- a row: RDRF before; overrun, framing and parity error after; and whether RDR takes the word, which is lost otherwise
pub data Row : Type 0 where
  row : Bool → Bool → Bool → Bool → Bool → Row

abbrev pub table : List Row
table =
    row true true false false false
    ∷ row false false true false true
    ∷ row false false false true true
    ∷ row true true true false false
    ∷ row true true false true false
    ∷ row false false true true true
    ∷ row true true true true false
    ∷ row false false false false true
    ∷ []

-- framing and parity error as bits of SSR, and overrun with them
abbrev pub errors : Bool → Bool → ℕ
errors framing parity = bit_or (cond framing 0x10 0) (cond parity 8 0)

abbrev pub flags : Bool → Bool → Bool → ℕ
flags overrun framing parity = bit_or (cond overrun 0x20 0) (errors framing parity)

-- a port p with RDRF as in the row and no error flag, a word r with the row's framing and parity errors, and q, the port after it.
-- RDRF is set by a word without error, and never cleared
pub record Agrees (rdrf overrun framing parity taken : Bool) (p : Port) (r : Rx) (q : Port) : Type 0 where
  pub flags_after : bit_and q.ssr 0x38 ≡ flags overrun framing parity
  pub rdr_after : q.rdr ≡ cond taken r.value p.rdr
  pub rdrf_after : has q.ssr 0x40 ≡ (rdrf || not (framing || parity))

abbrev pub Holds : Row → Type 0
Holds (row rdrf overrun framing parity taken) =
    (p : Port) (r : Rx) → has p.ssr 0x40 ≡ rdrf → bit_and p.ssr 0x38 ≡ 0 → r.error ≡ errors framing parity
    → Agrees rdrf overrun framing parity taken p r (complete_receive p r)

abbrev pub Every : List Row → Type 0
Every [] = Unit {0}
Every (r ∷ rs) = Holds r × Every rs

-- the port agrees with each row; proofs/ReceiveErrors.antt has the theorem
unfoldable pub ReceivesAsTheManual : Type 0
ReceivesAsTheManual = Every table
