-- The field test is kept: the sender's part. Its state, read as facts against a half count h, holds after each of the sender's steps.
-- Assumes nothing.
use Rattle.std.specs.Prelude.{Option, None, Some, is_some}
use mathlib.Core.Path.{◌≡◌, refl, sym, subst}
use mathlib.Core.Logic.{◌≢◌}
use Prim.Native.Nat.{ℕ, suc, ◌+◌, ◌-◌, ◌*◌, ◌%◌, ◌≤◌, ◌<◌}
use native.Mathlib.Omega.{arith}
use native.Mathlib.Nat.{mod-lt, mul-le-mul_right}
use mathlib.Core.Bool.{Bool, true, false, cond, not, ◌&&◌, ◌||◌, false≢true}
use lib.Dec.{eqb}
use borrow.Author.Tests.{eqb-false, eq-eqb, ne_eqb}
use Rattle.frame.specs.declared.Format.{Format}
use Rattle.frame.specs.Frame.{has, stop, word, format_valid, word_valid}
use Rattle.frame.proofs.Truth.{and_left, and_both}
use Rattle.frame.proofs.Words.{Shape, shape, format_good, word_again}
use Rattle.shift.specs.declared.Character.{Character}
use Rattle.port.specs.declared.Port.{Port}
use Rattle.shift.specs.declared.Tx.{Tx}
use Rattle.shift.specs.declared.Tx.TheVariants.{Off, Blocked, Mark, Start, Data, Tail}
use Rattle.port.specs.Fields.{with_tx}
use Rattle.port.specs.Baud.{format_of, boundary}
use Rattle.shift.specs.Due.{due_now}
use Rattle.port.specs.Receiver.{error_free}
use Rattle.shift.specs.Sender.{level, tx_next}
use Rattle.port.specs.Sender.{character, loaded, loaded_on, preloaded, preloaded_on, drive, begin, start_at, start_loaded, try_start, try_start_on, one_sent, finish_tail, next_cell, advance_tx, advance_tx_on}
use Rattle.port.specs.Clocked.{tail_ends, tail_ends_on, bit_out, shift_out, shift_out_on}
use Rattle.port.specs.Registers.{load_tail, load_tail_on}
use Rattle.shift.specs.Valid.{character_valid}
use Rattle.branches.proofs.Branches.{by_cond}

-- ---- the facts
abbrev pub Ahead : ℕ → ℕ → Type 0
Ahead h n = (h < n) × (n ≤ h + 448)

abbrev pub DueBy : Bool → ℕ → Option ℕ → Type 0
DueBy clocked h None = clocked ≡ true
DueBy clocked h (Some n) = (clocked ≡ false) × Ahead h n

abbrev pub DueMaybe : ℕ → Option ℕ → Type 0
DueMaybe h None = Unit {0}
DueMaybe h (Some n) = Ahead h n

abbrev pub Good : Character → Type 0
Good ch = character_valid ch ≡ true

abbrev pub GoodLoaded : Option Character → Type 0
GoodLoaded None = Unit {0}
GoodLoaded (Some ch) = Good ch

-- where a cell number stops
abbrev pub cell_end : Format → ℕ
cell_end f = cond f.synchronous 8 (stop f)

abbrev pub TxFits : ℕ → Tx → Type 0
TxFits h Off = Unit {0}
TxFits h (Blocked ch) = Good ch
TxFits h (Mark n) = Ahead h n
TxFits h (Start ch n) = Good ch × Ahead h n
TxFits h (Data ch cell next) = Good ch × (cell < cell_end ch.format) × DueBy ch.format.synchronous h next
TxFits h (Tail l next) = GoodLoaded l × DueMaybe h next

-- a record of the two fields, so that a port with other fields changed has the same one
pub record Sending (h half : ℕ) (t : Tx) : Type 0 where
  pub at : half ≡ h
  pub fits : TxFits h t

abbrev pub Sends : ℕ → Port → Type 0
Sends h p = Sending h p.half p.tx

-- ---- words
pub character_good : (p : Port) (v : ℕ) → Good (character p v)
unfolding character_valid word_valid
character_good p v =
    and_both (format_valid (format_of p)) _ (format_good p.smr p.semr) (eq-eqb _ (word (format_of p) v) (word_again (format_of p) v))

good_shape : (ch : Character) → Good ch → Shape ch.format
unfolding character_valid
good_shape ch g = shape ch.format (and_left (format_valid ch.format) _ g)

loaded_good : (p : Port) → GoodLoaded (loaded p)
unfolding loaded
loaded_good p = go p.holding
  where
    go : (x : Option ℕ) → GoodLoaded (loaded_on x p)
    go None = tt
    go (Some v) = character_good p v

-- ---- steps at one half
preloaded_sends : (h : ℕ) (p : Port) → Sends h p → Sends h (preloaded p)
unfolding preloaded
preloaded_sends h p s = go p.holding
  where
    go : (x : Option ℕ) → Sends h (preloaded_on x p)
    go None = s
    go (Some v) = s

begin_sends : (h : ℕ) (p : Port) (ch : Character) → p.half ≡ h → Good ch → Sends h (begin p ch)
unfolding begin
begin_sends h p ch e g =
    by_cond (Sends h) ch.format.synchronous _ _
    (λ c. record { at = e; fits = (g, some_cell ch.format.synchronous, c) })
    (λ c. record { at = e; fits = (g, some_cell ch.format.synchronous, (c, (omega (arith, e, (good_shape ch g).long), omega (arith, e, (good_shape ch g).short)))) })
  where
    some_cell : (b : Bool) → 0 < cond b 8 (stop ch.format)
    some_cell true = omega arith
    some_cell false = omega arith

pub boundary_near : (p : Port) (n : ℕ) → 0 < n → (p.half ≤ boundary p n) × (boundary p n ≤ p.half + n)
boundary_near p n h =
    by_cond (λ (x : ℕ). (p.half ≤ x) × (x ≤ p.half + n)) (eqb (p.half % n) 0 && p.edge) p.half (p.half + n - p.half % n)
    (λ e. omega arith) (λ e. omega (arith, mod-lt p.half h))

start_sends : (h : ℕ) (l : Option Character) (p : Port) → Sends h p → GoodLoaded l → Sends h (start_loaded l p)
unfolding start_at
start_sends h None p s g = s
start_sends h (Some ch) p s g =
    by_cond (Sends h) ch.format.synchronous _ _ (λ c. begin_sends h p ch s.at g)
    (λ c. by_cond (Sends h) (eqb (boundary p ch.format.half_bit) p.half) _ _ (λ b. begin_sends h p ch s.at g)
    (λ b. record { at = s.at; fits = (g, late b) }))
  where
    late : eqb (boundary p ch.format.half_bit) p.half ≡ false → Ahead h (boundary p ch.format.half_bit)
    late b =
        let k : (p.half ≤ boundary p ch.format.half_bit) × (boundary p ch.format.half_bit ≤ p.half + ch.format.half_bit)
        = boundary_near p ch.format.half_bit (omega (arith, (good_shape ch g).long)) in
        let ne : boundary p ch.format.half_bit ≢ p.half = eqb-false (boundary p ch.format.half_bit) p.half b in
        (omega (arith, s.at), omega (arith, s.at, (good_shape ch g).short))

pub try_sends : (h : ℕ) (p : Port) → Sends h p → Sends h (try_start p)
unfolding try_start
try_sends h p s = go p.tx s.fits
  where
    go : (t : Tx) → TxFits h t → Sends h (try_start_on t p)
    go Off f =
        by_cond (Sends h) (has p.scr 0x20 && (is_some p.holding && (not (format_of p).synchronous || error_free p))) (start_loaded (loaded p) (preloaded p)) p
        (λ b. start_sends h (loaded p) (preloaded p) (preloaded_sends h p s) (loaded_good p)) (λ b. s)
    go (Blocked ch) f = by_cond (Sends h) (error_free p) (begin p ch) p (λ b. begin_sends h p ch s.at f) (λ b. s)
    go (Mark n) f = s
    go (Start ch n) f = s
    go (Data ch cell next) f = s
    go (Tail l next) f = s

finish_sends : (h : ℕ) (l : Option Character) (p : Port) → p.half ≡ h → GoodLoaded l → Sends h (finish_tail l p)
finish_sends h None p e g = try_sends h (one_sent p) (record { at = e; fits = tt })
finish_sends h (Some ch) p e g =
    by_cond (Sends h) (ch.format.synchronous && not (error_free p)) _ _ (λ b. record { at = e; fits = g }) (λ b. begin_sends h (one_sent p) ch e g)

-- a tail with a due half or none
tail_sends : (h : ℕ) (p : Port) (d : Option ℕ) → p.half ≡ h → DueMaybe h d → Sends h (with_tx (preloaded p) (Tail (loaded p) d))
unfolding preloaded
tail_sends h p d e m = go p.holding
  where
    go : (x : Option ℕ) → Sends h (with_tx (preloaded_on x p) (Tail (loaded p) d))
    go None = record { at = e; fits = (loaded_good p, m) }
    go (Some v) = record { at = e; fits = (loaded_good p, m) }

pub load_tail_sends : (h : ℕ) (p : Port) → Sends h p → Sends h (load_tail p)
unfolding load_tail
load_tail_sends h p s = go p.tx s.fits
  where
    go : (t : Tx) → TxFits h t → Sends h (load_tail_on t p)
    go Off f = s
    go (Blocked ch) f = s
    go (Mark n) f = s
    go (Start ch n) f = s
    go (Data ch cell next) f = s
    go (Tail None next) f =
        by_cond (Sends h) (is_some p.holding) (with_tx (preloaded p) (Tail (loaded p) next)) p (λ e. tail_sends h p next s.at f.1) (λ e. s)
    go (Tail (Some ch) next) f = s

next_sends : (h : ℕ) (ch : Character) (cell : ℕ) (p : Port) → p.half ≡ h → Good ch → ch.format.synchronous ≡ false → cell ≤ stop ch.format → Sends h (next_cell ch cell p)
unfolding next_cell
next_sends h ch cell p e g c le =
    by_cond (Sends h) (eqb cell (stop ch.format)) _ _
    (λ b. tail_sends h (drive p (level ch cell)) (Some (p.half + ch.format.stops * ch.format.half_bit)) e (omega (arith, e, low, sh.long), omega (arith, e, high, sh.short)))
    (λ b. record { at = e; fits = (g, below b, (c, (omega (arith, e, sh.long), omega (arith, e, sh.short)))) })
  where
    sh : Shape ch.format
    sh = good_shape ch g

    low : 1 * ch.format.half_bit ≤ ch.format.stops * ch.format.half_bit
    low = mul-le-mul_right ch.format.half_bit sh.one

    high : ch.format.stops * ch.format.half_bit ≤ 2 * ch.format.half_bit
    high = mul-le-mul_right ch.format.half_bit sh.two

    below : eqb cell (stop ch.format) ≡ false → cell < cell_end ch.format
    below b =
        let ne : cell ≢ stop ch.format = eqb-false cell (stop ch.format) b in
        let lt : cell < stop ch.format = omega arith in
        subst (λ (k : Bool). cell < cond k 8 (stop ch.format)) (sym c) lt

-- ---- a counted half
-- a due half that is not now is still ahead
later : (h n : ℕ) → Ahead h n → n ≢ suc h → Ahead (suc h) n
later h n a ne = (omega (arith, a.0), omega (arith, a.1))

pub later_by : (c : Bool) (h : ℕ) (d : Option ℕ) → DueBy c h d → due_now d (suc h) ≡ false → DueBy c (suc h) d
later_by c h None a b = a
later_by c h (Some n) a b = (a.0, later h n a.1 (eqb-false n (suc h) b))

pub later_maybe : (h : ℕ) (d : Option ℕ) → DueMaybe h d → due_now d (suc h) ≡ false → DueMaybe (suc h) d
later_maybe h None a b = tt
later_maybe h (Some n) a b = later h n a (eqb-false n (suc h) b)

pub plain_due : (c : Bool) (h k : ℕ) (d : Option ℕ) → DueBy c h d → due_now d k ≡ true → c ≡ false
plain_due c h k None a b = absurd (false≢true b)
plain_due c h k (Some n) a b = a.0

cell_room : (f : Format) (cell : ℕ) → f.synchronous ≡ false → cell < cell_end f → suc cell ≤ stop f
cell_room f cell c lt = subst (λ (k : Bool). cell < cond k 8 (stop f)) c lt

pub advance_tx_sends : (h : ℕ) (p : Port) → p.half ≡ suc h → TxFits h p.tx → Sends (suc h) (advance_tx p)
unfolding advance_tx
advance_tx_sends h p e s = go p.tx refl s
  where
    stays : (t : Tx) → p.tx ≡ t → TxFits (suc h) t → Sends (suc h) p
    stays t q f = record { at = e; fits = subst (TxFits (suc h)) (sym q) f }

    now : (n : ℕ) → eqb n p.half ≡ false → n ≢ suc h
    now n b = eqb-false n (suc h) (subst (λ (k : ℕ). eqb n k ≡ false) e b)

    soon : (d : Option ℕ) → due_now d p.half ≡ false → due_now d (suc h) ≡ false
    soon d b = subst (λ (k : ℕ). due_now d k ≡ false) e b

    go : (t : Tx) → p.tx ≡ t → TxFits h t → Sends (suc h) (advance_tx_on t p)
    go Off q f = stays Off q tt
    go (Blocked ch) q f = stays (Blocked ch) q f
    go (Mark n) q f =
        by_cond (Sends (suc h)) (eqb n p.half) _ p (λ b. try_sends (suc h) (with_tx p Off) (record { at = e; fits = tt })) (λ b. stays (Mark n) q (later h n f (now n b)))
    go (Start ch n) q f =
        by_cond (Sends (suc h)) (eqb n p.half) _ p (λ b. begin_sends (suc h) p ch e f.0) (λ b. stays (Start ch n) q (f.0, later h n f.1 (now n b)))
    go (Data ch cell next) q f =
        by_cond (Sends (suc h)) (due_now next p.half) _ p
        (λ b. let c : ch.format.synchronous ≡ false = plain_due ch.format.synchronous h p.half next f.2 b in
        next_sends (suc h) ch (suc cell) p e f.0 c (cell_room ch.format cell c f.1))
        (λ b. stays (Data ch cell next) q (f.0, f.1, later_by ch.format.synchronous h next f.2 (soon next b)))
    go (Tail l next) q f =
        by_cond (Sends (suc h)) (due_now next p.half) _ p (λ b. finish_sends (suc h) l p e f.0) (λ b. stays (Tail l next) q (f.0, later_maybe h next f.1 (soon next b)))

-- the same half again: nothing is due
pub by_maybe : (c : Bool) (h : ℕ) (d : Option ℕ) → DueBy c h d → DueMaybe h d
by_maybe c h None a = tt
by_maybe c h (Some n) a = a.1

pub not_due : (h k : ℕ) (d : Option ℕ) → k ≡ h → DueMaybe h d → due_now d k ≡ false
not_due h k None e a = refl
not_due h k (Some n) e a = ne_eqb n k (omega (arith, e, a.0))

tx_due : (h : ℕ) (t : Tx) → TxFits h t → DueMaybe h (tx_next t)
tx_due h Off f = tt
tx_due h (Blocked ch) f = tt
tx_due h (Mark n) f = f
tx_due h (Start ch n) f = f.1
tx_due h (Data ch cell next) f = by_maybe ch.format.synchronous h next f.2
tx_due h (Tail l next) f = f.1

pub tx_not_due : (h : ℕ) (p : Port) → Sends h p → due_now (tx_next p.tx) p.half ≡ false
tx_not_due h p s = not_due h p.half (tx_next p.tx) s.at (tx_due h p.tx s.fits)

-- ---- the clocked edge
pub tail_ends_sends : (h : ℕ) (p : Port) → Sends h p → Sends h (tail_ends p)
unfolding tail_ends
tail_ends_sends h p s = go p.tx s.fits
  where
    go : (t : Tx) → TxFits h t → Sends h (tail_ends_on t p)
    go Off f = s
    go (Blocked ch) f = s
    go (Mark n) f = s
    go (Start ch n) f = s
    go (Data ch cell next) f = s
    go (Tail l None) f = finish_sends h l p s.at f.0
    go (Tail l (Some n)) f = s

pub shift_out_sends : (h : ℕ) (p : Port) → Sends h p → Sends h (shift_out p)
unfolding shift_out bit_out
shift_out_sends h p s = go p.tx s.fits
  where
    below : (f : Format) (cell : ℕ) → f.synchronous ≡ true → cell < cell_end f → eqb cell 7 ≡ false → suc cell < cell_end f
    below f cell c l b =
        let ne : cell ≢ 7 = eqb-false cell 7 b in
        let lt : cell < 8 = subst (λ (k : Bool). cell < cond k 8 (stop f)) c l in
        let up : suc cell < 8 = omega arith in
        subst (λ (k : Bool). suc cell < cond k 8 (stop f)) (sym c) up

    go : (t : Tx) → TxFits h t → Sends h (shift_out_on t p)
    go Off f = s
    go (Blocked ch) f = s
    go (Mark n) f = s
    go (Start ch n) f = s
    go (Data ch cell None) f =
        by_cond (Sends h) (eqb cell 7) _ _ (λ b. tail_sends h (drive p (level ch cell)) None s.at tt)
        (λ b. record { at = s.at; fits = (f.0, below ch.format cell f.2 f.1 b, f.2) })
    go (Data ch cell (Some n)) f = s
    go (Tail l next) f = s
