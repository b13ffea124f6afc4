-- The field test is kept by register reads and writes, pins, power, and time inside a half.
-- Assumes nothing.
use Rattle.std.specs.Prelude.{None, is_some}
use mathlib.Core.Path.{◌≡◌, refl, sym, ap, ◌∙◌, subst}
use mathlib.Core.Logic.{◌≢◌, ◌⊎◌, inl, inr, ⊎_elim}
use Prim.Native.Nat.{ℕ, zero, suc, ◌+◌, ◌*◌, ◌≤◌, ◌<◌, zero-le}
use native.Mathlib.Omega.{arith}
use native.Mathlib.Nat.{mul-le-mul_right, mod-eq_of_lt}
use mathlib.Core.Bool.{Bool, true, false, not, ◌&&◌, ◌||◌, true≢false}
use lib.Dec.{eqb, leb}
use lib.Bits.{bit_and, bit_or, and_zero_r, or_zero_r, and_mask}
use borrow.Author.Tests.{eqb-true, eqb-false, leb-true, leb-false, eq-eqb}
use Rattle.frame.specs.Frame.{has, differ, one_if, cells}
use Rattle.frame.proofs.Truth.{and_left, and_right, and_both, or_cases, by_flag}
use Rattle.frame.proofs.Words.{Shape, shape, format_good}
use Rattle.port.specs.declared.Port.{Port}
use Rattle.port.specs.Fields.{with_spcr, with_smr, with_brr, with_scr, with_tdr, with_ssr, with_semr, with_ircr, with_seen, with_rx, with_input, with_input_clock}
use Rattle.port.specs.Baud.{format_of, external, running, boundary, edge_counted, edge_counts}
use Rattle.port.specs.Receiver.{arm_receive}
use Rattle.port.specs.Sender.{try_start}
use Rattle.port.specs.Clocked.{refresh_sync_clock, sync_edge}
use Rattle.port.specs.Half.{process_basic, inside, uncounted}
use Rattle.port.specs.Registers.{handles, read, sender_off, sender_on, scr_tx, write_scr, write_tdr, cleared, status_with, status_write, stored, connect, load_tail, after_store, write}
use Rattle.port.specs.Power.{fresh, reset_registers, reset, with_power, set_power}
use Rattle.port.specs.Input.{receive_input, external_edge, pins_change, input_pins}
use Rattle.branches.proofs.Branches.{by_cond, both_arms}
use Rattle.port.proofs.Checked.{edge_counts_kept}
use Rattle.port_laws.proofs.Masks.{and_and, and_or, or_clear, and_clear}
use Rattle.port.proofs.SenderKeeps.{SenderClosed, free_sender, try_keeps, load_tail_keeps}
use Rattle.port.proofs.ReceiverKeeps.{ReceiverClosed, free_receiver, arm_keeps, basic_keeps, sync_edge_keeps}
use Rattle.port_laws.proofs.KeepSender.{Ahead, Sends, try_sends, load_tail_sends, boundary_near}
use Rattle.port_laws.proofs.KeepReceiver.{Storable, Side, side_closed, side_flags, side_rx, side_stored}
use Rattle.port_laws.proofs.KeepHalf.{Ok, Kept, DueNext, ok_arm, ok_sync_edge, ok_refresh, kept_refresh, due_sender, basic_first, side_counted}

pub kept_of : (h : ℕ) (q : Port) → Sends h q → Side h h q → DueNext h q → Kept h q
kept_of h q s d m = record { ok = record { sends = s; side = d }; due = m }

-- ---- register bytes
spcr_again : (v : ℕ) → bit_or (bit_and (bit_or (bit_and v 0x13) 0xc0) 0x13) 0xc0 ≡ bit_or (bit_and v 0x13) 0xc0
spcr_again v =
    ap (λ (x : ℕ). bit_or x 0xc0) (and_or (bit_and v 0x13) 0xc0 0x13 ∙ or_zero_r (bit_and (bit_and v 0x13) 0x13) ∙ and_and v 0x13 0x13)

scr_clear : (v : ℕ) → bit_and (bit_and v 0xf7) 8 ≡ 0
scr_clear v = and_and v 0xf7 8 ∙ and_zero_r v

ircr_low : (v : ℕ) → v < 128 → bit_and (bit_and v 0xf0) 0x70 ≡ bit_and v 0xf0
ircr_low v h =
    and_and v 0xf0 0x70 ∙ sym (ap (λ (x : ℕ). bit_and x 0xf0) (sym (and_mask v 7 ∙ mod-eq_of_lt h)) ∙ and_and v 0x7f 0xf0)

no_middle : (a : ℕ) → 0xff98 ≤ a → a ≤ 0xff9d → a ≢ 0xff98 → a ≢ 0xff99 → a ≢ 0xff9a → a ≢ 0xff9b → a ≢ 0xff9c → a ≢ 0xff9d → ⊥
no_middle a lo up n2 n3 n4 n5 n6 n7 = omega arith

-- a write that is neither at the other eight addresses nor refused by 3 has bit 7 clear
ircr_value : (a v : ℕ) → handles a ≡ true → (eqb a 0xffa7 && leb 128 v) ≡ false
    → a ≢ 0xff91 → a ≢ 0xff98 → a ≢ 0xff99 → a ≢ 0xff9a → a ≢ 0xff9b → a ≢ 0xff9c → a ≢ 0xff9d → a ≢ 0xffa6 → v < 128
ircr_value a v ok allowed n1 n2 n3 n4 n5 n6 n7 n8 =
    leb-false 128 v (subst (λ (b : Bool). (b && leb 128 v) ≡ false) (eq-eqb a 0xffa7 last) allowed)
  where
    middle : (leb 0xff98 a && leb a 0xff9d) ≡ true → a ≡ 0xffa7
    middle q =
        absurd
        (no_middle a (leb-true 0xff98 a (and_left (leb 0xff98 a) (leb a 0xff9d) q)) (leb-true a 0xff9d (and_right (leb 0xff98 a) (leb a 0xff9d) q)) n2 n3 n4 n5 n6 n7)

    last : a ≡ 0xffa7
    last =
        ⊎_elim (λ q. absurd (n1 (eqb-true a 0xff91 q)))
        (λ r. ⊎_elim middle (λ s. ⊎_elim (λ q. absurd (n8 (eqb-true a 0xffa6 q))) (λ q. eqb-true a 0xffa7 q) (or_cases (eqb a 0xffa6) (eqb a 0xffa7) s)) (or_cases (leb 0xff98 a && leb a 0xff9d) _ r))
        (or_cases (eqb a 0xff91) _ ok)

-- ---- reads and stores
module _ (h : ℕ) (p : Port) (k : Kept h p) where
  sends : Sends h p
  sends = k.ok.sends

  side : Side h h p
  side = k.ok.side

  set : Storable p.spcr p.scr p.semr p.ircr
  set = side.stored

  flags_kept : (s n : ℕ) → bit_and s 3 ≡ 0 → bit_and n 3 ≡ 0 → Kept h (with_seen (with_ssr p s) n)
  flags_kept s n e g = kept_of h (with_seen (with_ssr p s) n) sends (side_flags h h s n p e g side) k.due

  pub read_kept : (a : ℕ) → Kept h (read a p)
  unfolding read
  read_kept a =
      both_arms (Kept h) (eqb a 0xff9c) _ _ (flags_kept p.ssr p.ssr side.flags side.flags)
      (both_arms (Kept h) (eqb a 0xff9d) _ p (flags_kept (bit_and p.ssr 0xbf) (bit_and p.seen 0xbf) (and_clear p.ssr 0xbf 3 side.flags) (and_clear p.seen 0xbf 3 side.seen_flags)) k)

  spcr_kept : (v : ℕ) → Kept h (with_spcr p (bit_or (bit_and v 0x13) 0xc0))
  spcr_kept v =
      kept_of h (with_spcr p (bit_or (bit_and v 0x13) 0xc0)) sends
      (side_stored h h (bit_or (bit_and v 0x13) 0xc0) p.scr p.semr p.ircr p (record { spcr_bits = spcr_again v; scr_bits = set.scr_bits; semr_bits = set.semr_bits; ircr_bits = set.ircr_bits }) side) k.due

  semr_kept : (v : ℕ) → Kept h (with_semr p (bit_and v 8))
  semr_kept v =
      kept_of h (with_semr p (bit_and v 8)) sends
      (side_stored h h p.spcr p.scr (bit_and v 8) p.ircr p (record { spcr_bits = set.spcr_bits; scr_bits = set.scr_bits; semr_bits = and_and v 8 8; ircr_bits = set.ircr_bits }) side) k.due

  ircr_kept : (v : ℕ) → v < 128 → Kept h (with_ircr p (bit_and v 0xf0))
  ircr_kept v lt =
      kept_of h (with_ircr p (bit_and v 0xf0)) sends
      (side_stored h h p.spcr p.scr p.semr (bit_and v 0xf0) p (record { spcr_bits = set.spcr_bits; scr_bits = set.scr_bits; semr_bits = set.semr_bits; ircr_bits = ircr_low v lt }) side) k.due

  tdr_kept : (v : ℕ) → Kept h (write_tdr v p)
  unfolding write_tdr
  tdr_kept v =
      both_arms (Kept h) (has p.scr 0x20) _ _
      (kept_of h _ sends (side_flags h h (bit_and p.ssr 0x7b) (bit_and p.seen 0x7b) p (and_clear p.ssr 0x7b 3 side.flags) (and_clear p.seen 0x7b 3 side.seen_flags) side) k.due)
      (kept_of h (with_tdr p v) sends side k.due)

  status_kept : (v : ℕ) → Kept h (status_write v p)
  unfolding status_write status_with
  status_kept v =
      let c : bit_and (cleared v p) 3 ≡ 0 = and_clear p.ssr _ 3 side.flags in
      let n : bit_and (bit_and p.seen v) 3 ≡ 0 = and_clear p.seen v 3 side.seen_flags in
      both_arms (Kept h) (has p.scr 0x20) _ _
      (both_arms (Kept h) (not (has (cleared v p) 0x80) && not (is_some p.holding)) _ _
      (kept_of h _ sends (side_flags h h (bit_and (cleared v p) 0xfb) (bit_and p.seen v) p (and_clear (cleared v p) 0xfb 3 c) n side) k.due) (flags_kept (cleared v p) (bit_and p.seen v) c n))
      (flags_kept (bit_or (cleared v p) 0x80) (bit_and p.seen v) (or_clear (cleared v p) 0x80 3 c refl) n)

  -- SCR: the sender
  abbrev with_scr_byte : ℕ → Port
  with_scr_byte v = with_scr p (bit_and v 0xf7)

  scr_side : (v : ℕ) → Side h h (with_scr_byte v)
  scr_side v =
      side_stored h h p.spcr (bit_and v 0xf7) p.semr p.ircr p (record { spcr_bits = set.spcr_bits; scr_bits = scr_clear v; semr_bits = set.semr_bits; ircr_bits = set.ircr_bits }) side

  off_kept : (v : ℕ) → Kept h (sender_off (with_scr_byte v))
  off_kept v =
      kept_of h (sender_off (with_scr_byte v)) (record { at = side.at; fits = tt })
      (side_flags h h (bit_or p.ssr 0x84) p.seen (with_scr_byte v) (or_clear p.ssr 0x84 3 side.flags refl) side.seen_flags (scr_side v)) k.due

  -- the end of the mark: at most 32 halves to the boundary and 12 cells of 32
  mark_ahead : Ahead h (boundary p (format_of p).half_bit + cells (format_of p) * (format_of p).half_bit)
  mark_ahead =
      let sh : Shape (format_of p) = shape (format_of p) (format_good p.smr p.semr) in
      let cell : ℕ = (format_of p).half_bit in
      let one : one_if (format_of p).parity ≤ 1 = by_flag (λ (b : Bool). one_if b ≤ 1) (omega arith) (omega arith) (format_of p).parity in
      let b : (p.half ≤ boundary p cell) × (boundary p cell ≤ p.half + cell) = boundary_near p cell (omega (arith, sh.long)) in
      let lo : 1 * cell ≤ cells (format_of p) * cell = mul-le-mul_right cell (omega (arith, sh.one)) in
      let up : cells (format_of p) * cell ≤ 12 * cell = mul-le-mul_right cell (omega (arith, sh.two, sh.wide, one)) in
      (omega (arith, b.0, lo, sh.long, side.at), omega (arith, b.1, up, sh.short, side.at))

  scr_tx_kept : (v : ℕ) → Kept h (scr_tx (has p.scr 0x20) v (with_scr_byte v))
  scr_tx_kept v =
      both_arms (Kept h) (has v 0x20) _ _
      (both_arms (Kept h) (not (has p.scr 0x20) && not (format_of p).synchronous) _ _
      (kept_of h (sender_on (with_scr_byte v)) (record { at = side.at; fits = mark_ahead }) (scr_side v) k.due) (kept_of h (with_scr_byte v) sends (scr_side v) k.due))
      (off_kept v)

  scr_kept : (v : ℕ) → Kept h (write_scr v p)
  unfolding write_scr
  scr_kept v =
      let q : Port = scr_tx (has p.scr 0x20) v (with_scr_byte v) in
      let m : Kept h q = scr_tx_kept v in
      both_arms (Kept h) (has v 0x10) q (with_rx q None) m (kept_of h (with_rx q None) m.ok.sends (side_rx h h h q None tt m.ok.side) m.due)

  stored_kept : (a v : ℕ) → handles a ≡ true → (eqb a 0xffa7 && leb 128 v) ≡ false → Kept h (stored a v p)
  unfolding stored
  stored_kept a v ok allowed =
      by_cond (Kept h) (eqb a 0xff91) _ _ (λ e. spcr_kept v)
      (λ e1. by_cond (Kept h) (eqb a 0xff98) _ _ (λ e. kept_of h (with_smr p v) sends side k.due)
      (λ e2. by_cond (Kept h) (eqb a 0xff99) _ _ (λ e. kept_of h (with_brr p v) sends side k.due)
      (λ e3. by_cond (Kept h) (eqb a 0xff9a) _ _ (λ e. scr_kept v)
      (λ e4. by_cond (Kept h) (eqb a 0xff9b) _ _ (λ e. tdr_kept v)
      (λ e5. by_cond (Kept h) (eqb a 0xff9c) _ _ (λ e. status_kept v)
      (λ e6. by_cond (Kept h) (eqb a 0xff9d) _ _ (λ e. k)
      (λ e7. by_cond (Kept h) (eqb a 0xffa6) _ _ (λ e. semr_kept v)
      (λ e8. ircr_kept v
      (ircr_value a v ok allowed (eqb-false a 0xff91 e1) (eqb-false a 0xff98 e2) (eqb-false a 0xff99 e3) (eqb-false a 0xff9a e4) (eqb-false a 0xff9b e5) (eqb-false a 0xff9c e6) (eqb-false a 0xff9d e7) (eqb-false a 0xffa6 e8))))))))))

  connect_kept : (b : Bool) → Kept h (connect b p)
  unfolding connect
  connect_kept b = both_arms (Kept h) (not b && external p) _ p (kept_of h _ sends side tt) k

  settled_kept : Kept h (after_store p)
  unfolding after_store
  settled_kept =
      let q : Port = load_tail p in
      let r : Port = try_start q in
      let o : Ok h r
      = record { sends = try_sends h q (load_tail_sends h p sends); side = try_keeps (Side h h) (side_closed h h).start q (load_tail_keeps (Side h h) (side_closed h h).start p side) } in
      kept_refresh h (arm_receive r) (ok_arm h r o)
      (arm_keeps (DueNext h) (λ q x m. m) r (try_keeps (DueNext h) (due_sender h).start q (load_tail_keeps (DueNext h) (due_sender h).start p k.due)))

  -- ---- pins, and time inside a half
  pub line_kept : (b : Bool) → Kept h (receive_input b p)
  unfolding receive_input
  line_kept b =
      let o : Ok h (with_input p b) = record { sends = sends; side = side } in
      let q : Kept h (arm_receive (with_input p b)) = record { ok = ok_arm h (with_input p b) o; due = arm_keeps (DueNext h) (λ q x m. m) (with_input p b) k.due } in
      both_arms (Kept h) (differ b p.input) _ p q k

  pub inside_kept : Kept h (inside p)
  inside_kept = kept_of h (inside p) sends side k.due

  pub uncounted_kept : (n : ℕ) → Kept h (uncounted n p)
  uncounted_kept zero = k
  uncounted_kept (suc n) = inside_kept

pub write_kept : (a v h : ℕ) (p : Port) → handles a ≡ true → (eqb a 0xffa7 && leb 128 v) ≡ false → Kept h p → Kept h (write a v p)
unfolding write
write_kept a v h p ok allowed k =
    let q : Port = stored a v p in
    both_arms (Kept h) (p.«module» && not p.reset_mode) _ p
    (settled_kept h (connect (external p) q) (connect_kept h q (stored_kept h p k a v ok allowed) (external p))) k

-- ---- the clock pin
-- a counted edge comes on the external clock only, where refresh plans no clocked edge
abbrev External : Port → Type 0
External p = external p ≡ true

due_external : (h : ℕ) (p : Port) → External p → DueNext h (refresh_sync_clock p)
unfolding refresh_sync_clock
due_external h p x = by_cond (DueNext h) (external p) _ _ (λ e. tt) (λ e. absurd (true≢false (sym x ∙ e)))

external_work : (b : Bool) (p : Port) → External p → External (sync_edge b (process_basic p))
external_work b p x =
    let s : SenderClosed External = free_sender External (λ q t u b s x k. k) (λ q n k. k) in
    let r : ReceiverClosed External = free_receiver External (λ q x s v n k. k) in
    sync_edge_keeps External s r b (process_basic p) (basic_keeps External s r p x)

edge_kept : (b : Bool) (h : ℕ) (p : Port) → Kept h p → External p → Kept (suc h) (refresh_sync_clock (sync_edge b (process_basic (edge_counted p b))))
edge_kept b h p k x =
    let q : Port = edge_counted p b in
    let w : Port = sync_edge b (process_basic q) in
    let first : Ok (suc h) (process_basic q) = basic_first h q k.ok.sends.fits (side_counted h p k.ok.side) in
    record { ok = ok_refresh (suc h) w (ok_sync_edge b (suc h) (process_basic q) first); due = due_external (suc h) w (external_work b q x) }

pub pins_set_kept : (clock line : Bool) (h : ℕ) (p : Port) → Kept h p → Kept h (with_input_clock (receive_input line p) clock)
pins_set_kept clock line h p k =
    let m : Kept h (receive_input line p) = line_kept h p k line in
    kept_of h (with_input_clock (receive_input line p) clock) m.ok.sends m.ok.side m.due

-- no edge counted, or one, and which
pub pins_counted : (clock line : Bool) (h : ℕ) (p : Port) → Kept h p
    → (Kept h (input_pins clock line p) × ((pins_change clock line p && edge_counts clock p) ≡ false))
    ⊎ (Kept (suc h) (input_pins clock line p) × ((pins_change clock line p && edge_counts clock p) ≡ true))
unfolding input_pins external_edge
pins_counted clock line h p k =
    by_cond Case (pins_change clock line p) _ p
    (λ e. by_cond Case (edge_counts clock q) _ q
    (λ g. inr (edge_kept clock h q kq (and_left (external q) _ (and_right (running q) _ g)), and_both (pins_change clock line p) (edge_counts clock p) e (sym (edge_counts_kept clock line p) ∙ g)))
    (λ g. inl (kq, ap (λ (b : Bool). b && edge_counts clock p) e ∙ (sym (edge_counts_kept clock line p) ∙ g))))
    (λ e. inl (k, ap (λ (b : Bool). b && edge_counts clock p) e))
  where
    Case : Port → Type 0
    Case w = (Kept h w × ((pins_change clock line p && edge_counts clock p) ≡ false)) ⊎ (Kept (suc h) w × ((pins_change clock line p && edge_counts clock p) ≡ true))

    q : Port
    q = with_input_clock (receive_input line p) clock

    kq : Kept h q
    kq = pins_set_kept clock line h p k

-- no edge counted, or one
pub pins_kept : (clock line : Bool) (h : ℕ) (p : Port) → Kept h p
    → Kept h (input_pins clock line p) ⊎ (Kept (suc h) (input_pins clock line p) × ((pins_change clock line p && edge_counts clock p) ≡ true))
pins_kept clock line h p k = ⊎_elim (λ m. inl m.0) (λ m. inr m) (pins_counted clock line h p k)

-- ---- power
reset_kept : (x : ℕ) (p : Port) → bit_or (bit_and x 0x13) 0xc0 ≡ x → Kept 0 (reset_registers x p)
unfolding reset_registers fresh
reset_kept x p e =
    kept_of 0 (reset_registers x p) (record { at = refl; fits = tt })
    (record { at = refl; fits = tt; began = zero-le; flags = refl; seen_flags = refl; stored = record { spcr_bits = e; scr_bits = refl; semr_bits = refl; ircr_bits = refl } }) tt

pub fresh_kept : Kept 0 fresh
unfolding fresh
fresh_kept =
    kept_of 0 fresh (record { at = refl; fits = tt })
    (record { at = refl; fits = tt; began = zero-le; flags = refl; seen_flags = refl; stored = record { spcr_bits = refl; scr_bits = refl; semr_bits = refl; ircr_bits = refl } }) tt

-- the half count stands, or becomes 0, and which: at a reset
abbrev pub Reset : Bool → Bool → Port → Bool → Type 0
Reset module_on reset_on p t = ((not module_on && p.«module») || (reset_on && not p.reset_mode)) ≡ t

pub power_reset : (a b c d : Bool) (h : ℕ) (p : Port) → Kept h p
    → (Kept h (set_power a b c d p) × Reset a d p false) ⊎ (Kept 0 (set_power a b c d p) × Reset a d p true)
unfolding set_power reset
power_reset a b c d h p k =
    by_cond Case (not a && p.«module») (reset_registers 0xc0 p) _ (λ e. inr (powered 0 (reset_registers 0xc0 p) (reset_kept 0xc0 p refl), ap (λ (t : Bool). t || (d && not p.reset_mode)) e))
    (λ e. by_cond Case (d && not p.reset_mode) (reset_registers p.spcr p) p
    (λ g. inr (powered 0 (reset_registers p.spcr p) (reset_kept p.spcr p k.ok.side.stored.spcr_bits), ap (λ (t : Bool). t || (d && not p.reset_mode)) e ∙ g))
    (λ g. inl (powered h p k, ap (λ (t : Bool). t || (d && not p.reset_mode)) e ∙ g)))
  where
    powered : (n : ℕ) (q : Port) → Kept n q → Kept n (refresh_sync_clock (with_power q a b c d))
    powered n q m = kept_refresh n (with_power q a b c d) (record { sends = m.ok.sends; side = m.ok.side }) m.due

    Case : Port → Type 0
    Case w = (Kept h (refresh_sync_clock (with_power w a b c d)) × Reset a d p false) ⊎ (Kept 0 (refresh_sync_clock (with_power w a b c d)) × Reset a d p true)

-- the half count stands or becomes 0
pub power_kept : (a b c d : Bool) (h : ℕ) (p : Port) → Kept h p → Kept h (set_power a b c d p) ⊎ Kept 0 (set_power a b c d p)
power_kept a b c d h p k = ⊎_elim (λ m. inl m.0) (λ m. inr m.0) (power_reset a b c d h p k)
