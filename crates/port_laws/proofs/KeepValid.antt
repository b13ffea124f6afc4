-- The field test read as facts, and facts put back as the test; what every call does to them.
-- Assumes nothing.
use Rattle.std.specs.Prelude.{Option, None, Some}
use mathlib.Core.Path.{◌≡◌, refl, sym, ap, subst}
use mathlib.Core.Logic.{◌⊎◌, inl, inr, ⊎_elim}
use Prim.Native.Nat.{ℕ, zero, suc, ◌+◌, ◌≤◌, zero-le}
use native.Mathlib.Omega.{arith}
use mathlib.Core.Bool.{Bool, true, false, not, ◌&&◌, ◌||◌, false≢true}
use lib.Dec.{eqb, ltb, leb}
use lib.Bits.{bit_and, bit_or}
use lib.IntN.{ℤ, pos, negsuc}
use borrow.Author.Tests.{eqb-true, eq-eqb, leb-true, leb-false, le-leb, ltb-true, lt-ltb, not-true}
use Rattle.frame.specs.declared.Format.{Format}
use Rattle.frame.specs.Frame.{has, format_valid}
use Rattle.frame.proofs.Truth.{and_left, and_right, and_both, or_cases}
use Rattle.port.specs.declared.Port.{Port}
use Rattle.shift.specs.declared.Tx.{Tx}
use Rattle.shift.specs.declared.Tx.TheVariants.{Off, Blocked, Mark, Start, Data, Tail}
use Rattle.port.specs.Baud.{internal, edge_counts}
use Rattle.port.specs.Half.{halves, uncounted, inside}
use Rattle.port.specs.Registers.{handles, read, write}
use Rattle.port.specs.Power.{fresh}
use Rattle.port.specs.Input.{receive_input, pins_change, input_pins}
use Rattle.shift.specs.Valid.{due_at, due_either, due_by, character_valid, loaded_valid, cell_valid, tx_valid, position_valid, word_in_place, rx_valid}
use Rattle.port.specs.Valid.{limit, registers_valid, valid}
use Rattle.command.specs.declared.Call.{Call}
use Rattle.command.specs.declared.Call.TheVariants.{Read, Write, Wait, Line, Pins, Power, Inside}
use Rattle.port.specs.Calls.{Answer, after, bit, called}
use Rattle.frame.proofs.Laws.{without, without_test}
use Rattle.branches.proofs.Branches.{by_cond, both_arms, or_true}
use Rattle.port.proofs.CallLaws.{internal_external}
use Rattle.port_laws.proofs.KeepSender.{Ahead, DueBy, DueMaybe, GoodLoaded, cell_end, TxFits}
use Rattle.port_laws.proofs.KeepReceiver.{last_position, PositionFits, RxFits, Storable, Side}
use Rattle.port_laws.proofs.KeepHalf.{Kept, kept_halves}
use Rattle.port_laws.proofs.KeepCalls.{kept_of, read_kept, write_kept, line_kept, pins_kept, power_kept, inside_kept, uncounted_kept, fresh_kept}
use Rattle.shift.specs.declared.Rx.{Rx}
use Rattle.shift.specs.declared.Character.{Character}

-- ---- due halves
ahead_of : (h n : ℕ) → due_at h n ≡ true → Ahead h n
ahead_of h n e = (ltb-true h n (and_left (ltb h n) _ e), leb-true n (h + 448) (and_right (ltb h n) _ e))

ahead_test : (h n : ℕ) → Ahead h n → due_at h n ≡ true
ahead_test h n a = and_both (ltb h n) _ (lt-ltb h n a.0) (le-leb n (h + 448) a.1)

maybe_of : (h : ℕ) (d : Option ℕ) → due_either d h ≡ true → DueMaybe h d
maybe_of h None e = tt
maybe_of h (Some n) e = ahead_of h n e

maybe_test : (h : ℕ) (d : Option ℕ) → DueMaybe h d → due_either d h ≡ true
maybe_test h None f = refl
maybe_test h (Some n) f = ahead_test h n f

by_of : (c : Bool) (h : ℕ) (d : Option ℕ) → due_by d c h ≡ true → DueBy c h d
by_of c h None e = e
by_of c h (Some n) e = (not-true c (and_left (not c) _ e), ahead_of h n (and_right (not c) _ e))

by_test : (c : Bool) (h : ℕ) (d : Option ℕ) → DueBy c h d → due_by d c h ≡ true
by_test c h None f = f
by_test c h (Some n) f = and_both (not c) _ (ap not f.0) (ahead_test h n f.1)

-- ---- the sender
loaded_of : (l : Option Character) → loaded_valid l ≡ true → GoodLoaded l
loaded_of None e = tt
loaded_of (Some ch) e = e

loaded_test : (l : Option Character) → GoodLoaded l → loaded_valid l ≡ true
loaded_test None g = refl
loaded_test (Some ch) g = g

tx_of : (h : ℕ) (t : Tx) → tx_valid t h ≡ true → TxFits h t
tx_of h Off e = tt
tx_of h (Blocked ch) e = e
tx_of h (Mark n) e = ahead_of h n e
tx_of h (Start ch n) e = (and_left (character_valid ch) _ e, ahead_of h n (and_right (character_valid ch) _ e))
tx_of h (Data ch cell d) e =
    let c : Bool = ch.format.synchronous in
    let r : (cell_valid ch.format cell && due_by d c h) ≡ true = and_right (character_valid ch) _ e in
    (and_left (character_valid ch) _ e, ltb-true cell (cell_end ch.format) (and_left (cell_valid ch.format cell) (due_by d c h) r), by_of c h d (and_right (cell_valid ch.format cell) (due_by d c h) r))
tx_of h (Tail l d) e = (loaded_of l (and_left (loaded_valid l) _ e), maybe_of h d (and_right (loaded_valid l) _ e))

tx_test : (h : ℕ) (t : Tx) → TxFits h t → tx_valid t h ≡ true
tx_test h Off f = refl
tx_test h (Blocked ch) f = f
tx_test h (Mark n) f = ahead_test h n f
tx_test h (Start ch n) f = and_both (character_valid ch) _ f.0 (ahead_test h n f.1)
tx_test h (Data ch cell d) f =
    and_both (character_valid ch) _ f.0
    (and_both (cell_valid ch.format cell) _ (lt-ltb cell (cell_end ch.format) f.1) (by_test ch.format.synchronous h d f.2))
tx_test h (Tail l d) f = and_both (loaded_valid l) _ (loaded_test l f.0) (maybe_test h d f.1)

-- ---- the receiver
place_of : (z : ℤ) (f : Format) → position_valid z f ≡ true → PositionFits z f
place_of (negsuc (suc (suc n))) f e = absurd (false≢true e)
place_of (negsuc (suc zero)) f e = not-true f.synchronous e
place_of (negsuc zero) f e = not-true f.synchronous e
place_of (pos j) f e = leb-true j (last_position f) e

place_test : (z : ℤ) (f : Format) → PositionFits z f → position_valid z f ≡ true
place_test (negsuc (suc (suc n))) f e = absurd e
place_test (negsuc (suc zero)) f e = ap not e
place_test (negsuc zero) f e = ap not e
place_test (pos j) f e = le-leb j (last_position f) e

rx_of : (h : ℕ) (x : Option Rx) → rx_valid x h ≡ true → RxFits h x
unfolding word_in_place
rx_of h None e = tt
rx_of h (Some r) e =
    let f : Bool = format_valid r.format in
    let z : Bool = position_valid r.position r.format in
    let w : Bool = eqb r.error 0 || eqb r.error 8 in
    let d : Bool = due_by r.next r.format.synchronous h in
    let e1 : (z && (w && d)) ≡ true = and_right f (z && (w && d)) e in
    let e2 : (w && d) ≡ true = and_right z (w && d) e1 in
    record {
      format = and_left f (z && (w && d)) e;
      place = place_of r.position r.format (and_left z (w && d) e1);
      error = ⊎_elim (λ q. inl (eqb-true r.error 0 q)) (λ q. inr (eqb-true r.error 8 q)) (or_cases (eqb r.error 0) (eqb r.error 8) (and_left w d e2));
      due = by_of r.format.synchronous h r.next (and_right w d e2);
    }

rx_test : (h : ℕ) (x : Option Rx) → RxFits h x → rx_valid x h ≡ true
unfolding word_in_place
rx_test h None f = refl
rx_test h (Some r) f =
    and_both (format_valid r.format) _ f.format
    (and_both (position_valid r.position r.format) _ (place_test r.position r.format f.place)
    (and_both (eqb r.error 0 || eqb r.error 8) _ (or_true (eqb r.error 0) (eqb r.error 8) (⊎_elim (λ q. inl (eq-eqb r.error 0 q)) (λ q. inr (eq-eqb r.error 8 q)) f.error)) (by_test r.format.synchronous h r.next f.due)))

-- ---- the registers
abbrev Bytes : Port → Type 0
Bytes p = Storable p.spcr p.scr p.semr p.ircr × (bit_and p.ssr 3 ≡ 0) × (bit_and p.seen 3 ≡ 0)

registers_of : (p : Port) → registers_valid p ≡ true → Bytes p
unfolding registers_valid
registers_of p e =
    let a : Bool = eqb (bit_or (bit_and p.spcr 0x13) 0xc0) p.spcr in
    let b : Bool = not (has p.scr 8) in
    let c : Bool = eqb (bit_and p.semr 8) p.semr in
    let d : Bool = eqb (bit_and p.ircr 0x70) p.ircr in
    let f : Bool = not (has p.ssr 3) in
    let g : Bool = not (has p.seen 3) in
    let e1 : (b && (c && (d && (f && g)))) ≡ true = and_right a (b && (c && (d && (f && g)))) e in
    let e2 : (c && (d && (f && g))) ≡ true = and_right b (c && (d && (f && g))) e1 in
    let e3 : (d && (f && g)) ≡ true = and_right c (d && (f && g)) e2 in
    let e4 : (f && g) ≡ true = and_right d (f && g) e3 in (
      record {
        spcr_bits = eqb-true (bit_or (bit_and p.spcr 0x13) 0xc0) p.spcr (and_left a (b && (c && (d && (f && g)))) e);
        scr_bits = without p.scr 8 (and_left b (c && (d && (f && g))) e1);
        semr_bits = eqb-true (bit_and p.semr 8) p.semr (and_left c (d && (f && g)) e2);
        ircr_bits = eqb-true (bit_and p.ircr 0x70) p.ircr (and_left d (f && g) e3);
      },
      without p.ssr 3 (and_left f g e4),
      without p.seen 3 (and_right f g e4),
    )

registers_test : (p : Port) → Bytes p → registers_valid p ≡ true
unfolding registers_valid
registers_test p r =
    and_both (eqb (bit_or (bit_and p.spcr 0x13) 0xc0) p.spcr) _ (eq-eqb (bit_or (bit_and p.spcr 0x13) 0xc0) p.spcr r.0.spcr_bits)
    (and_both (not (has p.scr 8)) _ (without_test p.scr 8 r.0.scr_bits)
    (and_both (eqb (bit_and p.semr 8) p.semr) _ (eq-eqb (bit_and p.semr 8) p.semr r.0.semr_bits)
    (and_both (eqb (bit_and p.ircr 0x70) p.ircr) _ (eq-eqb (bit_and p.ircr 0x70) p.ircr r.0.ircr_bits)
    (and_both (not (has p.ssr 3)) _ (without_test p.ssr 3 r.1) (without_test p.seen 3 r.2)))))

-- ---- the test
pub record Sound (p : Port) : Type 0 where
  pub low : p.half ≤ limit
  pub kept : Kept p.half p

pub valid_sound : (p : Port) → valid p ≡ true → Sound p
unfolding valid
valid_sound p e =
    let h : ℕ = p.half in
    let a : Bool = leb h limit in
    let b : Bool = registers_valid p in
    let c : Bool = tx_valid p.tx h in
    let d : Bool = rx_valid p.rx h in
    let f : Bool = leb p.bit_start h in
    let g : Bool = due_either p.sync_next h in
    let e1 : (b && (c && (d && (f && g)))) ≡ true = and_right a (b && (c && (d && (f && g)))) e in
    let e2 : (c && (d && (f && g))) ≡ true = and_right b (c && (d && (f && g))) e1 in
    let e3 : (d && (f && g)) ≡ true = and_right c (d && (f && g)) e2 in
    let e4 : (f && g) ≡ true = and_right d (f && g) e3 in
    let r : Bytes p = registers_of p (and_left b (c && (d && (f && g))) e1) in
    record {
      low = leb-true h limit (and_left a (b && (c && (d && (f && g)))) e);
      kept = kept_of h p (record { at = refl; fits = tx_of h p.tx (and_left c (d && (f && g)) e2) })
          (record {
            at = refl;
            fits = rx_of h p.rx (and_left d (f && g) e3);
            began = leb-true p.bit_start h (and_left f g e4);
            flags = r.1;
            seen_flags = r.2;
            stored = r.0;
          })
          (maybe_of h p.sync_next (and_right f g e4));
    }

pub sound_valid : (p : Port) → Sound p → valid p ≡ true
unfolding valid
sound_valid p k =
    let h : ℕ = p.half in
    let s : Side h h p = k.kept.ok.side in
    and_both (leb h limit) _ (le-leb h limit k.low)
    (and_both (registers_valid p) _ (registers_test p (s.stored, s.flags, s.seen_flags))
    (and_both (tx_valid p.tx h) _ (tx_test h p.tx k.kept.ok.sends.fits)
    (and_both (rx_valid p.rx h) _ (rx_test h p.rx s.fits)
    (and_both (leb p.bit_start h) _ (le-leb p.bit_start h s.began) (maybe_test h p.sync_next k.kept.due)))))

-- at whatever half the facts are known
pub sound_at : (h : ℕ) (p : Port) → h ≤ limit → Kept h p → Sound p
sound_at h p l k =
    record {
      low = subst (λ (n : ℕ). n ≤ limit) (sym k.ok.sends.at) l;
      kept = subst (λ (n : ℕ). Kept n p) (sym k.ok.sends.at) k;
    }

pub fresh_sound : Sound fresh
fresh_sound = sound_at 0 fresh zero-le fresh_kept

-- ---- every call, accepted or refused
abbrev SoundAfter : Answer → Type 0
SoundAfter r = Sound (after r)

pub call_sound : (c : Call) (p : Port) → Sound p → SoundAfter (called c p)
unfolding called
call_sound (Read a) p g =
    both_arms SoundAfter (leb a 65535) _ _ (both_arms SoundAfter (handles a) _ _ (sound_at p.half (read a p) g.low (read_kept p.half p g.kept a)) g) g
call_sound (Write a v) p g =
    both_arms SoundAfter (leb a 65535 && leb v 255) _ _
    (by_cond SoundAfter (handles a) _ _
    (λ ok. by_cond SoundAfter (eqb a 0xffa7 && leb 128 v) _ _ (λ b. g) (λ b. sound_at p.half (write a v p) g.low (write_kept a v p.half p ok b g.kept))) (λ ok. g)) g
call_sound (Wait n) p g =
    both_arms SoundAfter (leb n 65535) _ _
    (by_cond SoundAfter (internal p) _ _
    (λ i. by_cond SoundAfter (leb (p.half + n) limit) _ _
    (λ b. sound_at (n + p.half) (halves n p) (omega (arith, leb-true (p.half + n) limit b)) (kept_halves n p.half p g.kept (internal_external p i))) (λ b. g))
    (λ i. sound_at p.half (uncounted n p) g.low (uncounted_kept p.half p g.kept n))) g
call_sound (Line line) p g =
    both_arms SoundAfter (leb line 1) _ _ (sound_at p.half (receive_input (bit line) p) g.low (line_kept p.half p g.kept (bit line))) g
call_sound (Pins clock line) p g =
    both_arms SoundAfter (leb clock 1 && leb line 1) _ _
    (by_cond SoundAfter (changes && (counts && leb limit p.half)) _ _ (λ f. g) (λ f. set (pins_kept (bit clock) (bit line) p.half p g.kept) f)) g
  where
    changes : Bool
    changes = pins_change (bit clock) (bit line) p

    counts : Bool
    counts = edge_counts (bit clock) p

    q : Port
    q = input_pins (bit clock) (bit line) p

    room : (x y z : Bool) → (x && y) ≡ true → (x && (y && z)) ≡ false → z ≡ false
    room true true z e f = f
    room true false z e f = absurd (false≢true e)
    room false y z e f = absurd (false≢true e)

    set : Kept p.half q ⊎ (Kept (suc p.half) q × ((changes && counts) ≡ true)) → (changes && (counts && leb limit p.half)) ≡ false → Sound q
    set (inl k) f = sound_at p.half q g.low k
    set (inr k) f = sound_at (suc p.half) q (leb-false limit p.half (room changes counts (leb limit p.half) k.1 f)) k.0
call_sound (Power b) p g =
    both_arms SoundAfter (leb b 15) _ _
    (⊎_elim (λ k. sound_at p.half _ g.low k) (λ k. sound_at 0 _ zero-le k) (power_kept (has b 1) (has b 2) (has b 4) (has b 8) p.half p g.kept)) g
call_sound Inside p g = sound_at p.half (inside p) g.low (inside_kept p.half p g.kept)
