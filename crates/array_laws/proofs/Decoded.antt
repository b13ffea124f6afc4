-- A state that an array holds is typed: each number of it stands at a place whose greatest it does not pass.
-- Assumes nothing.
use Rattle.std.specs.Prelude.{Option, None, Some}
use mathlib.Core.Path.{◌≡◌, refl, subst}
use mathlib.Core.Bool.{Bool, true}
use mathlib.Core.List.{List}
use Prim.Native.Nat.{ℕ, ◌-◌, ◌≤◌, ◌<◌}
use native.Mathlib.Omega.{arith}
use lib.Dec.{eqb, leb}
use lib.IntN.{pos, negsuc}
use lib.Signed.{mag}
use borrow.Author.Tests.{leb-true, leb-false}
use Rattle.branches.proofs.Branches.{by_cond, both_arms}
use Rattle.shift.specs.declared.Character.{Character}
use Rattle.sci.specs.declared.Sci.{Sci}
use Rattle.capi.specs.State.{u8_max, u32_max, flag, at, due_max, holding_max, format_max, character_max, tx_max, word_max, rx_max, port_max, baud_max, state_max, fits, number_in, format_in, character_in, tail_of, tx_of, tx_in, position_of, word_in, rx_in, port_of, port_in, baud_in, sci_in, decode}
use Rattle.capi.specs.Round.{DueTyped, HoldingTyped, FormatTyped, CharacterTyped, TxTyped, RxTyped, ReceiverTyped, PortTyped, BaudTyped, SciTyped}
use Rattle.capi.proofs.Fits.{fits_at, part_fits}
use Rattle.array_laws.specs.Typed.{DecodedTyped}

-- ---- the parts
due_in_typed : (s : List ℕ) → fits due_max s ≡ true → DueTyped (number_in s)
unfolding number_in
due_in_typed s h = both_arms DueTyped (flag (at s 0)) (Some (at s 1)) None (fits_at due_max s 1 h) tt

holding_in_typed : (s : List ℕ) → fits holding_max s ≡ true → HoldingTyped (number_in s)
unfolding number_in
holding_in_typed s h = both_arms HoldingTyped (flag (at s 0)) (Some (at s 1)) None (fits_at holding_max s 1 h) tt

format_in_typed : (s : List ℕ) → fits format_max s ≡ true → FormatTyped (format_in s)
unfolding format_in
format_in_typed s h = record { data≤ = fits_at format_max s 1 h; stops≤ = fits_at format_max s 4 h; half≤ = fits_at format_max s 5 h }

character_in_typed : (s : List ℕ) → fits character_max s ≡ true → CharacterTyped (character_in s)
unfolding character_in
character_in_typed s h =
    record { format = format_in_typed _ (part_fits character_max format_max s 0 6 h refl); word≤ = fits_at character_max s 6 h }

tx_of_typed : (tag : ℕ) (k : Character) (cell : ℕ) (d : Option ℕ) (n : ℕ) (loaded : Bool) → CharacterTyped k → cell ≤ u8_max → DueTyped d → n ≤ u32_max
    → TxTyped (tx_of tag k cell d n loaded)
unfolding tx_of tail_of
tx_of_typed tag k cell d n loaded hk hc hd hn =
    both_arms TxTyped (eqb tag 0) _ _ tt
    (both_arms TxTyped (eqb tag 1) _ _ hk
    (both_arms TxTyped (eqb tag 2) _ _ hn
    (both_arms TxTyped (eqb tag 3) _ _ (hk, hn)
    (both_arms TxTyped (eqb tag 4) _ _ (hk, hc, hd)
    (both_arms TxTyped loaded _ _ (hk, hd) (tt, hd))))))

tx_in_typed : (s : List ℕ) → fits tx_max s ≡ true → TxTyped (tx_in s)
unfolding tx_in
tx_in_typed s h =
    tx_of_typed (at s 0) _ (at s 8) _ (at s 10) (flag (at s 11)) (character_in_typed _ (part_fits tx_max character_max s 1 7 h refl)) (fits_at tx_max s 8 h)
    (due_in_typed _ (part_fits tx_max due_max s 9 2 h refl)) (fits_at tx_max s 10 h)

position_typed : (n : ℕ) → n ≤ u8_max → mag (position_of n) < 128
unfolding position_of
position_typed n h =
    by_cond (λ z. mag z < 128) (leb 128 n) (pos (n - 128)) (negsuc (127 - n)) (λ e. omega (arith, h, leb-true 128 n e)) (λ e. omega (arith, leb-false 128 n e))

word_in_typed : (s : List ℕ) → fits word_max s ≡ true → RxTyped (word_in s)
unfolding word_in
word_in_typed s h =
    record {
      format = format_in_typed _ (part_fits word_max format_max s 0 6 h refl);
      value≤ = fits_at word_max s 6 h;
      position< = position_typed (at s 7) (fits_at word_max s 7 h);
      error≤ = fits_at word_max s 9 h;
      next = due_in_typed _ (part_fits word_max due_max s 10 2 h refl);
    }

rx_in_typed : (s : List ℕ) → fits rx_max s ≡ true → ReceiverTyped (rx_in s)
unfolding rx_in
rx_in_typed s h = both_arms ReceiverTyped (flag (at s 0)) (Some (word_in _)) None (word_in_typed _ (part_fits rx_max word_max s 1 12 h refl)) tt

port_in_typed : (s : List ℕ) → fits port_max s ≡ true → PortTyped (port_in s)
unfolding port_in port_of
port_in_typed s h =
    record {
      spcr≤ = fits_at port_max s 0 h;
      smr≤ = fits_at port_max s 1 h;
      brr≤ = fits_at port_max s 2 h;
      scr≤ = fits_at port_max s 3 h;
      tdr≤ = fits_at port_max s 4 h;
      ssr≤ = fits_at port_max s 5 h;
      rdr≤ = fits_at port_max s 6 h;
      semr≤ = fits_at port_max s 7 h;
      ircr≤ = fits_at port_max s 8 h;
      seen≤ = fits_at port_max s 9 h;
      half≤ = fits_at port_max s 14 h;
      holding = holding_in_typed _ (part_fits port_max holding_max s 17 2 h refl);
      tx = tx_in_typed _ (part_fits port_max tx_max s 19 12 h refl);
      rx = rx_in_typed _ (part_fits port_max rx_max s 31 13 h refl);
      start≤ = fits_at port_max s 45 h;
      next = due_in_typed _ (part_fits port_max due_max s 49 2 h refl);
      transmitted≤ = fits_at port_max s 51 h;
      received≤ = fits_at port_max s 52 h;
    }

baud_in_typed : (s : List ℕ) → fits baud_max s ≡ true → BaudTyped (baud_in s)
unfolding baud_in
baud_in_typed s h = record { remaining≤ = fits_at baud_max s 0 h; system≤ = fits_at baud_max s 1 h; watch≤ = fits_at baud_max s 2 h }

sci_in_typed : (s : List ℕ) → fits state_max s ≡ true → SciTyped (sci_in s)
unfolding sci_in
sci_in_typed s h =
    record { port = port_in_typed _ (part_fits state_max port_max s 0 53 h refl); baud = baud_in_typed _ (part_fits state_max baud_max s 53 3 h refl) }

-- ---- the state
TypedIn : Option Sci → Type 0
TypedIn None = Unit {0}
TypedIn (Some s) = SciTyped s

pub decoded_typed : DecodedTyped
unfolding DecodedTyped decode TypedIn
decoded_typed array s e =
    subst TypedIn e (by_cond TypedIn (fits state_max array) (Some (sci_in array)) None (λ h. sci_in_typed array h) (λ h. tt))
