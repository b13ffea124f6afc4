-- A state that passes the field test, and whose other numbers are in range (port_laws' Ranges.antt), is typed; so every grown state is.
-- Assumes nothing.
use Rattle.std.specs.Prelude.{Option, None, Some}
use mathlib.Core.Path.{◌≡◌, refl, subst}
use Prim.Native.Nat.{ℕ, ◌^◌, ◌≤◌, ◌<◌}
use native.Mathlib.Omega.{arith}
use native.Mathlib.Nat.{lt_of_lt_of_le}
use mathlib.Core.Bool.{Bool, true, false}
use mathlib.Core.List.{List, []}
use lib.Pow.{pow_mono}
use lib.ListN.{length}
use borrow.Author.Tests.{eqb-true}
use Rattle.frame.specs.declared.Format.{Format}
use Rattle.frame.specs.Frame.{stop, bits, number, frame, word, data_of, format_valid, word_valid}
use Rattle.frame.proofs.Truth.{and_left, and_right}
use Rattle.frame.proofs.Laws.{one_if≤}
use Rattle.frame.proofs.Words.{Shape, shape, bits_length, number_lt, cells_length, word_plain, word_clocked}
use Rattle.shift.specs.declared.Character.{Character}
use Rattle.shift.specs.declared.Tx.{Tx}
use Rattle.shift.specs.declared.Tx.TheVariants.{Off, Blocked, Mark, Start, Data, Tail}
use Rattle.shift.specs.Valid.{character_valid}
use Rattle.shift.specs.Private.Ready.{PlacedIn}
use Rattle.shift.proofs.SignedLaws.{place_mag}
use Rattle.port.specs.declared.Port.{Port}
use Rattle.port.specs.Valid.{limit, valid as port_valid}
use Rattle.port.proofs.Checked.{valid_ready}
use Rattle.branches.proofs.Branches.{both_arms}
use Rattle.port_laws.specs.Ranges.{HeldInRange, WordInRange, InRange}
use Rattle.port_laws.proofs.KeepSender.{DueMaybe, Good, GoodLoaded, cell_end, TxFits, by_maybe}
use Rattle.port_laws.proofs.KeepReceiver.{RxFits}
use Rattle.port_laws.proofs.KeepValid.{Sound, valid_sound}
use Rattle.port_laws.proofs.Ranges.{Three, three}
use Rattle.recovery.specs.Layers.{state_after}
use Rattle.sci.specs.declared.Sci.{Sci}
use Rattle.sci.specs.Calls.{fresh, valid}
use Rattle.sci.specs.Laws.{AcceptedPasses}
use Rattle.sci.proofs.Laws.{accepted_passes}
use Rattle.sci.proofs.Steps.{port_passes, sound as sci_sound}
use Rattle.sci_laws.specs.Laws.{GrownPasses, GrownInRange, KeepsRanges}
use Rattle.sci_laws.specs.Translate.{run}
use Rattle.sci_laws.proofs.Laws.{grown_passes, grown_in_range, keeps_ranges}
use Rattle.capi.specs.State.{u16_max}
use Rattle.capi.specs.Round.{DueTyped, HoldingTyped, FormatTyped, CharacterTyped, LoadedTyped, TxTyped, ReceiverTyped, PortTyped, SciTyped}
use Rattle.array_laws.specs.Typed.{FreshTyped, KeepsTyped, GrownTyped}
use Rattle.shift.specs.declared.Rx.{Rx}

-- ---- from the field test
format_typed : (f : Format) → format_valid f ≡ true → FormatTyped f
format_typed f e =
    let s : Shape f = shape f e in record { data≤ = omega (arith, s.wide); stops≤ = omega (arith, s.two); half≤ = omega (arith, s.short) }

-- a word has at most twelve cells
word≤ : (f : Format) (v : ℕ) → Shape f → word f v ≤ u16_max
word≤ f v s = go f.synchronous refl
  where
    go : (b : Bool) → f.synchronous ≡ b → word f v ≤ u16_max
    go true c = omega (arith, word_clocked f v c)
    go false c =
        let bs : List Bool = frame f (bits f.«data» v) in
        let few : length bs ≤ 16 = omega (arith, cells_length f (bits f.«data» v) (bits_length f.«data» v), s.wide, s.two, one_if≤ f.parity) in
        let small : number bs < 2 ^ 16 = lt_of_lt_of_le (number_lt bs) (pow_mono {j = 16} few) in
        omega (arith, word_plain f v c, small)

character_typed : (k : Character) → Good k → CharacterTyped k
unfolding character_valid word_valid
character_typed k g =
    let f : format_valid k.format ≡ true = and_left (format_valid k.format) _ g in
    let same : word k.format (data_of k.format k.word) ≡ k.word = eqb-true _ k.word (and_right (format_valid k.format) _ g) in
    record { format = format_typed k.format f; word≤ = subst (λ (w : ℕ). w ≤ u16_max) same (word≤ k.format (data_of k.format k.word) (shape k.format f)) }

loaded_typed : (l : Option Character) → GoodLoaded l → LoadedTyped l
loaded_typed None g = tt
loaded_typed (Some k) g = character_typed k g

module _ (h : ℕ) (low : h ≤ limit) where
  due_typed : (d : Option ℕ) → DueMaybe h d → DueTyped d
  due_typed None a = tt
  due_typed (Some n) a = omega (arith, low, a.1)

  cell_typed : (k : Character) (cell : ℕ) → Good k → cell < cell_end k.format → cell ≤ 255
  unfolding character_valid
  cell_typed k cell g l =
      let s : Shape k.format = shape k.format (and_left (format_valid k.format) _ g) in
      let most : cell_end k.format ≤ 10 = both_arms (λ (n : ℕ). n ≤ 10) k.format.synchronous 8 (stop k.format) (omega arith) (omega (arith, s.wide, one_if≤ k.format.parity)) in
      omega (arith, l, most)

  tx_typed : (t : Tx) → TxFits h t → TxTyped t
  tx_typed Off f = tt
  tx_typed (Blocked k) f = character_typed k f
  tx_typed (Mark n) f = omega (arith, low, f.1)
  tx_typed (Start k n) f = (character_typed k f.0, omega (arith, low, f.1.1))
  tx_typed (Data k cell d) f = (character_typed k f.0, cell_typed k cell f.0 f.1, due_typed d (by_maybe k.format.synchronous h d f.2))
  tx_typed (Tail l d) f = (loaded_typed l f.0, due_typed d f.1)

  rx_typed : (x : Option Rx) → RxFits h x → PlacedIn x → WordInRange x → ReceiverTyped x
  rx_typed None f p w = tt
  rx_typed (Some r) f p w =
      record {
        format = format_typed r.format f.format;
        value≤ = omega (arith, w.0);
        position< = omega (arith, place_mag r.position r.format p.bounded.data≤8 p.place);
        error≤ = omega (arith, w.1);
        next = due_typed r.next (by_maybe r.format.synchronous h r.next f.due);
      }

holding_typed : (x : Option ℕ) → HeldInRange x → HoldingTyped x
holding_typed None w = tt
holding_typed (Some b) w = omega (arith, w)

-- ---- with the ranges
port_typed : (p : Port) → port_valid p ≡ true → InRange p → PortTyped p
port_typed p e k =
    let s : Sound p = valid_sound p e in
    let t : Three p = three p e in
    let h : ℕ = p.half in
    record {
      spcr≤ = omega (arith, t.spcr<);
      smr≤ = omega (arith, k.smr<);
      brr≤ = omega (arith, k.brr<);
      scr≤ = omega (arith, k.scr<);
      tdr≤ = omega (arith, k.tdr<);
      ssr≤ = omega (arith, k.ssr<);
      rdr≤ = omega (arith, k.rdr<);
      semr≤ = omega (arith, t.semr<);
      ircr≤ = omega (arith, t.ircr<);
      seen≤ = omega (arith, k.seen<);
      half≤ = omega (arith, s.low);
      holding = holding_typed p.holding k.held_in;
      tx = tx_typed h s.low p.tx s.kept.ok.sends.fits;
      rx = rx_typed h s.low p.rx s.kept.ok.side.fits (valid_ready p e).placed k.word_in;
      start≤ = omega (arith, s.low, s.kept.ok.side.began);
      next = due_typed h s.low p.sync_next s.kept.due;
      transmitted≤ = omega (arith, k.transmitted<);
      received≤ = omega (arith, k.received<);
    }

sci_typed : (s : Sci) → valid s ≡ true → InRange s.port → SciTyped s
sci_typed s e k =
    let b = sci_sound s e in
    record {
      port = port_typed s.port (port_passes s e) k;
      baud = record { remaining≤ = omega (arith, b.few); system≤ = omega (arith, b.system); watch≤ = omega (arith, b.watch) };
    }

-- ---- and back: what is typed is in range
held_in_range : (x : Option ℕ) → HoldingTyped x → HeldInRange x
held_in_range None w = tt
held_in_range (Some b) w = omega (arith, w)

word_in_range : (x : Option Rx) → ReceiverTyped x → WordInRange x
word_in_range None w = tt
word_in_range (Some r) w = (omega (arith, w.value≤), omega (arith, w.error≤))

pub typed_in_range : (p : Port) → PortTyped p → InRange p
typed_in_range p t =
    record {
      smr< = omega (arith, t.smr≤);
      brr< = omega (arith, t.brr≤);
      scr< = omega (arith, t.scr≤);
      tdr< = omega (arith, t.tdr≤);
      ssr< = omega (arith, t.ssr≤);
      rdr< = omega (arith, t.rdr≤);
      seen< = omega (arith, t.seen≤);
      held_in = held_in_range p.holding t.holding;
      word_in = word_in_range p.rx t.rx;
      transmitted< = omega (arith, t.transmitted≤);
      received< = omega (arith, t.received≤);
    }

-- ---- every grown state
pub keeps_typed : KeepsTyped
unfolding KeepsTyped KeepsRanges AcceptedPasses
keeps_typed c s t v k e =
    let r : InRange s.port = typed_in_range s.port k.port in sci_typed t (accepted_passes c s t v r.brr< e) (keeps_ranges c s t v r e)

pub grown_typed : GrownTyped
unfolding GrownTyped GrownPasses GrownInRange
grown_typed cs = sci_typed (run fresh cs) (grown_passes cs) (grown_in_range cs)

pub fresh_typed : FreshTyped
unfolding FreshTyped GrownTyped state_after
fresh_typed = grown_typed []
