-- Decoding what was encoded gives the state back: of every state whose numbers are in the ranges of their declared types, as are those of every state that an
-- array holds and of every one grown from a fresh one (array_laws' Typed.antt).
-- Assumes nothing.
use Rattle.std.specs.Prelude.{◌≡◌, ◌≤◌, ◌<◌, Option, None, Some, ℕ}
use Rattle.std.specs.Int.Signed.{mag}
use Rattle.frame.specs.declared.Format.{Format}
use Rattle.port.specs.declared.Port.{Port}
use Rattle.shift.specs.declared.Character.{Character}
use Rattle.shift.specs.declared.Tx.{Tx}
use Rattle.shift.specs.declared.Tx.TheVariants.{Off, Blocked, Mark, Start, Data, Tail}
use Rattle.shift.specs.declared.Rx.{Rx}
use Rattle.sci.specs.declared.Baud.{Baud}
use Rattle.sci.specs.declared.Sci.{Sci}
use Rattle.capi.specs.State.{u8_max, u16_max, u32_max, u64_max, decode, encode}

abbrev pub DueTyped : Option ℕ → Type 0
DueTyped None = Unit
DueTyped (Some n) = n ≤ u32_max

abbrev pub HoldingTyped : Option ℕ → Type 0
HoldingTyped None = Unit
HoldingTyped (Some b) = b ≤ u8_max

pub record FormatTyped (f : Format) : Type 0 where
  pub data≤ : f.«data» ≤ u8_max
  pub stops≤ : f.stops ≤ u8_max
  pub half≤ : f.half_bit ≤ u32_max

pub record CharacterTyped (k : Character) : Type 0 where
  pub format : FormatTyped k.format
  pub word≤ : k.word ≤ u16_max

abbrev pub LoadedTyped : Option Character → Type 0
LoadedTyped None = Unit
LoadedTyped (Some k) = CharacterTyped k

abbrev pub TxTyped : Tx → Type 0
TxTyped Off = Unit
TxTyped (Blocked k) = CharacterTyped k
TxTyped (Mark n) = n ≤ u32_max
TxTyped (Start k n) = CharacterTyped k × (n ≤ u32_max)
TxTyped (Data k cell d) = CharacterTyped k × (cell ≤ u8_max) × DueTyped d
TxTyped (Tail l d) = LoadedTyped l × DueTyped d

-- `mag` of n and of -(n + 1) is n: a position is from -128 to 127
pub record RxTyped (r : Rx) : Type 0 where
  pub format : FormatTyped r.format
  pub value≤ : r.value ≤ u8_max
  pub position< : mag r.position < 128
  pub error≤ : r.error ≤ u8_max
  pub next : DueTyped r.next

abbrev pub ReceiverTyped : Option Rx → Type 0
ReceiverTyped None = Unit
ReceiverTyped (Some r) = RxTyped r

pub record PortTyped (p : Port) : Type 0 where
  pub spcr≤ : p.spcr ≤ u8_max
  pub smr≤ : p.smr ≤ u8_max
  pub brr≤ : p.brr ≤ u8_max
  pub scr≤ : p.scr ≤ u8_max
  pub tdr≤ : p.tdr ≤ u8_max
  pub ssr≤ : p.ssr ≤ u8_max
  pub rdr≤ : p.rdr ≤ u8_max
  pub semr≤ : p.semr ≤ u8_max
  pub ircr≤ : p.ircr ≤ u8_max
  pub seen≤ : p.seen ≤ u8_max
  pub half≤ : p.half ≤ u32_max
  pub holding : HoldingTyped p.holding
  pub tx : TxTyped p.tx
  pub rx : ReceiverTyped p.rx
  pub start≤ : p.bit_start ≤ u32_max
  pub next : DueTyped p.sync_next
  pub transmitted≤ : p.transmitted ≤ u64_max
  pub received≤ : p.received ≤ u64_max

pub record BaudTyped (b : Baud) : Type 0 where
  pub remaining≤ : b.remaining ≤ u16_max
  pub system≤ : b.system ≤ u64_max
  pub watch≤ : b.watch ≤ u64_max

pub record SciTyped (s : Sci) : Type 0 where
  pub port : PortTyped s.port
  pub baud : BaudTyped s.baud

abbrev pub RoundTrip : Type 0
RoundTrip = (s : Sci) → SciTyped s → decode (encode s) ≡ Some s
