-- The words, call by call: every moment keeps the place of the receiver against the line (Words), and so meets what is claimed of it.
-- Assumes nothing.
use mathlib.Core.Path.{◌≡◌, refl, sym, ap, ◌∙◌, subst}
use Prim.Native.Nat.{ℕ, zero, suc, ◌+◌, ◌≤◌, ◌<◌}
use mathlib.Core.Bool.{Bool, true, false, cond, ◌&&◌, ◌||◌, true≢false, false≢true}
use mathlib.Core.List.{List, [], ◌∷◌, ◌++◌}
use lib.Dec.{eqb, leb}
use lib.Bits.{bit_and}
use borrow.Author.Tests.{eqb-true}
use Rattle.frame.specs.declared.Format.{Format}
use Rattle.port.specs.declared.Port.{Port}
use Rattle.frame.specs.Frame.{differ, has}
use Rattle.port.specs.Baud.{edge_counted, edge_counts, external, format_of, internal, running}
use Rattle.port.specs.Calls.{Answer, after, bit, called, direct, done, refuse}
use Rattle.command.specs.declared.Call.{Call}
use Rattle.command.specs.declared.Call.TheVariants.{Wait, Inside, Read, Line, Pins, Power, Write}
use Rattle.port.specs.Clocked.{refresh_sync_clock, sync_edge}
use Rattle.port.specs.Fields.{with_input, with_input_clock, with_seen}
use Rattle.port.specs.Half.{half_step, halves, inside, process_basic, uncounted}
use Rattle.port.specs.Input.{external_edge, input_pins, receive_input}
use Rattle.port.specs.Power.{set_power}
use Rattle.port.specs.Receiver.{arm_receive, input_level}
use Rattle.port.specs.Registers.{handles, peek, read, write}
use Rattle.port.specs.Valid.{limit, valid}
use Rattle.branches.proofs.Branches.{by_cond}
use Rattle.port.proofs.CallLaws.{internal_external}
use Rattle.port_laws.proofs.Masks.{and_and}
use Rattle.recovery.specs.Line.{Count, Event, LineItem, count_after, half_passes, other, rdr_read, stop_cells_begun}
use Rattle.recovery.specs.Recovery.{Holds, Moment, allowed_in_words, answer_is, completes, levels, one_moment, read_before, separated, throughout}
use Rattle.recovery.proofs.Bounds.{format_sound}
use Rattle.recovery.proofs.Halfwise.{each_call, half_moments, moments, moments_of, none_refused}
use Rattle.recovery.proofs.Halves.{view_half}
use Rattle.recovery.proofs.Project.{has_mask, same_either, view, view_arm}
use Rattle.recovery.proofs.Reached.{Near, near_half, near_line, near_pins, near_read}
use Rattle.recovery.proofs.View.{View, completing, v_arm, v_flags, v_half, v_mark}
use Rattle.recovery.proofs.Words.{Where, half_kept, line_keeps, read_keeps, shown, where_stands}

-- RDR read, on the view
view_read : (p : Port) → view (read 0xff9d p) ≡ v_flags (view p) (bit_and (bit_and p.ssr 0x78) 0xbf)
unfolding read
view_read p = ap (v_flags (view p)) (and_and p.ssr 0xbf 0x78 ∙ sym (and_and p.ssr 0x78 0xbf))

view_read_other : (a : ℕ) (p : Port) → eqb a 0xff9d ≡ false → view (read a p) ≡ view p
unfolding read
view_read_other a p e = rw e (same_either (eqb a 0xff9c) (with_seen p p.ssr) p (view p) refl refl)

-- the line set, on the view
by_line : (P : View → Type 0) (b : Bool) (p : Port) → P (view p) → P (v_arm (v_mark (view p) (differ b (has p.spcr 1)))) → P (view (receive_input b p))
unfolding receive_input
by_line P b p t u =
    by_cond (λ (q : Port). P (view q)) (differ b p.input) (arm_receive (with_input p b)) p (λ e. subst P (sym (view_arm (with_input p b))) u) (λ e. t)

-- on the internal clock no edge of the pin counts
pub no_edge : (c : Bool) (q : Port) → internal q ≡ true → edge_counts c q ≡ false
no_edge c q e = go (running q) (external q) (differ q.high c) (internal_external q e)
  where
    go : (a b d : Bool) → b ≡ false → (a && (b && d)) ≡ false
    go true true d h = absurd (true≢false h)
    go true false d h = refl
    go false b d h = refl

by_pins : (P : View → Type 0) (c b : Bool) (p : Port) → P (view p) → P (view (receive_input b p)) → internal (receive_input b p) ≡ true → P (view (input_pins c b p))
unfolding input_pins external_edge
by_pins P c b p t u e =
    by_cond (λ (q : Port). P (view q)) (differ b p.input || differ c p.input_clock) (external_edge c q) p
    (λ g. by_cond (λ (w : Port). P (view w)) (edge_counts c q) (refresh_sync_clock (sync_edge c (process_basic (edge_counted q c)))) q
    (λ h. absurd (true≢false (sym h ∙ no_edge c q e))) (λ h. u))
    (λ g. t)
  where
    q : Port
    q = with_input_clock (receive_input b p) c

module _ (start : Port) (items : List LineItem) (plain : (format_of start).synchronous ≡ false) where
  abbrev Here : Count → List Bool → Port → Type 0
  Here c ls p = Where (format_of start) items start.received c ls (view p)

  long : 16 ≤ (format_of start).half_bit
  long = (format_sound start.smr start.semr).long

  st : 0 < (format_of start).stops
  st = (format_sound start.smr start.semr).stops

  pub to_holds : (c : Count) (ls : List Bool) (p : Port) (e : Event) → Here c ls p → answer_is (format_of start) items c e
      → Holds start items c (record { event = e; port = p })
  to_holds c ls p e w a =
      let k = shown (format_of start) items start.received plain long st c ls (view p) w in
      record {
        no_error = has_mask p.ssr 0x78 0x38 refl ∙ ap (λ (s : ℕ). has s 0x38) k.flag ∙ no_errors c.unread;
        rdrf = has_mask p.ssr 0x78 0x40 refl ∙ ap (λ (s : ℕ). has s 0x40) k.flag ∙ just_rdrf c.unread;
        tally = k.tally;
        least = k.least;
        most = k.most;
        answer = a;
      }
    where
      no_errors : (u : Bool) → has (cond u 0x40 0) 0x38 ≡ false
      no_errors true = refl
      no_errors false = refl

      just_rdrf : (u : Bool) → has (cond u 0x40 0) 0x40 ≡ u
      just_rdrf true = refl
      just_rdrf false = refl

  -- ---- what is known of the moments to come: that each completion finds RDR read
  abbrev pub half_moment : Port → Moment
  half_moment p = record { event = half_passes (input_level p) (completes p); port = half_step p }

  -- `Apart c ms` is known of the moments ms after the count c: it says so of the next half, and goes on from moment to moment
  pub record Reading (Apart : Count → List Moment → Type 0) : Type 0 where
    pub now : (c : Count) (p : Port) (ms : List Moment) → Here c (levels (half_moment p ∷ ms)) p → Apart c (half_moment p ∷ ms) → completes p ≡ true → c.unread ≡ false
    pub later : (c : Count) (m : Moment) (ms : List Moment) → Holds start items (count_after c m.event) m → Apart c (m ∷ ms) → Apart (count_after c m.event) ms

  read_first : (m b : Bool) (c : Count) → read_before (half_passes m b) c → b ≡ true → c.unread ≡ false
  read_first m true c t e = t
  read_first m false c t e = absurd (false≢true e)

  pub separately : Reading separated
  separately = record { now = λ c p ms w s. read_first (input_level p) (completes p) c s.0; later = λ c m ms h s. s.1 }

  -- ---- halves
  one_half : (c : Count) (ls : List Bool) (p : Port) → Near p → (completes p ≡ true → c.unread ≡ false) → Here c (input_level p ∷ ls) p
      → Here (count_after c (half_passes (input_level p) (completes p))) ls (half_step p)
  unfolding completing
  one_half c ls p t u w =
      let s = where_stands (format_of start) items start.received plain long st c (input_level p ∷ ls) (view p) w in
      subst (Where (format_of start) items start.received (count_after c (half_passes (input_level p) (completes p))) ls)
      (sym (view_half p t (ap (λ (g : Format). g.synchronous) s.fmt ∙ plain) s.plain_rx))
      (half_kept (format_of start) items start.received plain long st c ls (view p) u w)

  -- a completion lies in a first stop cell that has begun, and no completion before it was that word's. (Whether RDR was read is of no matter: were it read
  -- just now, the place would be the same)
  pub completes_inside : (c : Count) (ls : List Bool) (p : Port) → Here c (input_level p ∷ ls) p → completes p ≡ true
      → suc c.completions ≤ stop_cells_begun (format_of start) items (suc c.halves)
  unfolding completing
  completes_inside c ls p w e =
      let v : View = v_flags (view p) (bit_and (view p).flags 0xbf) in
      let c' : Count = count_after c (rdr_read 0) in
      let k : Where (format_of start) items start.received (count_after c' (half_passes (input_level p) (completes p))) ls (v_half v)
      = half_kept (format_of start) items start.received plain long st c' ls v (λ g. refl) (read_keeps (format_of start) items start.received plain long st c (input_level p ∷ ls) (view p) 0 w) in
      subst (λ (b : Bool). (count_after c' (half_passes (input_level p) b)).completions ≤ stop_cells_begun (format_of start) items (count_after c' (half_passes (input_level p) b)).halves) e
      (shown (format_of start) items start.received plain long st (count_after c' (half_passes (input_level p) (completes p))) ls (v_half v) k).most

  module _ (Apart : Count → List Moment → Type 0) (known : Reading Apart) where
    halves_along : (n : ℕ) (p : Port) (c : Count) (ms : List Moment) → Near p → Here c (levels (half_moments n p ++ ms)) p → Apart c (half_moments n p ++ ms)
        → ((c : Count) → Near (halves n p) → Here c (levels ms) (halves n p) → Apart c ms → throughout start items c ms)
        → throughout start items c (half_moments n p ++ ms)
    unfolding half_moments halves levels
    halves_along zero p c ms t w s k = k c t w s
    halves_along (suc n) p c ms t w s k =
        let c' : Count = count_after c (half_passes (input_level p) (completes p)) in
        let w' : Here c' (levels (half_moments n (half_step p) ++ ms)) (half_step p)
        = one_half c (levels (half_moments n (half_step p) ++ ms)) p t (known.now c p (half_moments n (half_step p) ++ ms) w s) w in
        let h : Holds start items c' (half_moment p) = to_holds c' (levels (half_moments n (half_step p) ++ ms)) (half_step p) (half_passes (input_level p) (completes p)) w' tt in
        (h, halves_along n (half_step p) c' ms (near_half p t) w' (known.later c (half_moment p) (half_moments n (half_step p) ++ ms) h s) k)

    -- ---- one call, with what follows it
    module _ (p : Port) (c : Count) (ms : List Moment) (t : Near p) where
      abbrev Along : Call → Answer → Type 0
      Along x r =
          Here c (levels (moments_of x r p ++ ms)) p → Apart c (moments_of x r p ++ ms) → allowed_in_words x r
          → ((c : Count) → Near (after r) → Here c (levels ms) (after r) → Apart c ms → throughout start items c ms)
          → throughout start items c (moments_of x r p ++ ms)

      along_refused : (x : Call) (n : ℕ) → Along x (refuse n p)
      along_refused x n = rw (none_refused x n 0 p p) (λ w s q k. k c t w s)

      -- a call that is no moment of the receiver's
      along_other : (q : Port) → Near q → Here c (levels ms) q → Apart c (one_moment (λ u. other) (done 0 q) ++ ms)
          → ((c : Count) → Near q → Here c (levels ms) q → Apart c ms → throughout start items c ms) → throughout start items c (one_moment (λ u. other) (done 0 q) ++ ms)
      along_other q n w s k =
          let h : Holds start items c (record { event = other; port = q }) = to_holds c (levels ms) q other w tt in
          (h, k c n w (known.later c (record { event = other; port = q }) ms h s))

      runs_here : (ls : List Bool) → Here c ls p → internal p ≡ true
      runs_here ls w = (where_stands (format_of start) items start.received plain long st c ls (view p) w).runs

      along_rdr : Along (Read 0xff9d) (done (peek p 0xff9d) (read 0xff9d p))
      unfolding levels peek
      along_rdr w s q k =
          let c' : Count = count_after c (rdr_read p.rdr) in
          let w' : Here c' (levels ms) (read 0xff9d p)
          = subst (Where (format_of start) items start.received c' (levels ms)) (sym (view_read p)) (read_keeps (format_of start) items start.received plain long st c (levels ms) (view p) p.rdr w) in
          let h : Holds start items c' (record { event = rdr_read p.rdr; port = read 0xff9d p })
          = to_holds c' (levels ms) (read 0xff9d p) (rdr_read p.rdr) w' (shown (format_of start) items start.received plain long st c (levels ms) (view p) w).rdr in
          (h, k c' (near_read 0xff9d p t) w' (known.later c (record { event = rdr_read p.rdr; port = read 0xff9d p }) ms h s))

      along_read : (a : ℕ) (b : Bool) → eqb a 0xff9d ≡ b → Along (Read a) (done (peek p a) (read a p))
      unfolding levels
      along_read a true e = subst (λ (x : ℕ). Along (Read x) (done (peek p x) (read x p))) (sym (eqb-true a 0xff9d e)) along_rdr
      along_read a false e =
          rw e (λ w s q k.
          along_other (read a p) (near_read a p t) (subst (Where (format_of start) items start.received c (levels ms)) (sym (view_read_other a p e)) w) s k)

      passes : (n : ℕ) (b : Bool) → b ≡ true → Here c (levels (cond b (half_moments n p) (one_moment (λ u. other) (done 0 (halves n p))) ++ ms)) p
          → Apart c (cond b (half_moments n p) (one_moment (λ u. other) (done 0 (halves n p))) ++ ms)
          → ((c : Count) → Near (halves n p) → Here c (levels ms) (halves n p) → Apart c ms → throughout start items c ms)
          → throughout start items c (cond b (half_moments n p) (one_moment (λ u. other) (done 0 (halves n p))) ++ ms)
      passes n true e w s k = halves_along n p c ms t w s k
      passes n false e w s k = absurd (false≢true e)

      along_wait : (n : ℕ) → Along (Wait n) (called (Wait n) p)
      unfolding called
      along_wait n =
          by_cond (Along (Wait n)) (leb n 65535) _ (refuse 2 p)
          (λ e. by_cond (Along (Wait n)) (internal p) _ (done 0 (uncounted n p))
          (λ i. by_cond (Along (Wait n)) (leb (p.half + n) limit) (done 0 (halves n p)) (refuse 4 p) (λ g w s q k. passes n (internal p) i w s k) (λ g. along_refused (Wait n) 4))
          (λ i w s q k. absurd (true≢false (sym (runs_here (levels (moments_of (Wait n) (done 0 (uncounted n p)) p ++ ms)) w) ∙ i))))
          (λ e. along_refused (Wait n) 2)

      line_here : (b : Bool) → Here c (levels ms) p → Here c (levels ms) (receive_input b p)
      line_here b w =
          by_line (Where (format_of start) items start.received c (levels ms)) b p w
          (line_keeps (format_of start) items start.received plain long st c (levels ms) (view p) (differ b (has p.spcr 1)) w)

      pins_here : (d b : Bool) → Here c (levels ms) p → Here c (levels ms) (input_pins d b p)
      pins_here d b w =
          by_pins (Where (format_of start) items start.received c (levels ms)) d b p w (line_here b w)
          (where_stands (format_of start) items start.received plain long st c (levels ms) (view (receive_input b p)) (line_here b w)).runs

      along : (x : Call) → Along x (called x p)
      unfolding called levels
      along (Read a) =
          by_cond (Along (Read a)) (leb a 65535) _ (refuse 2 p)
          (λ e. by_cond (Along (Read a)) (handles a) _ (refuse 1 p) (λ g. along_read a (eqb a 0xff9d) refl) (λ g. along_refused (Read a) 1)) (λ e. along_refused (Read a) 2)
      along (Write a v) =
          by_cond (Along (Write a v)) (leb a 65535 && leb v 255) _ (refuse 2 p)
          (λ e. by_cond (Along (Write a v)) (handles a) _ (refuse 1 p)
          (λ g. by_cond (Along (Write a v)) (eqb a 0xffa7 && leb 128 v) (refuse 3 p) (done 0 (write a v p)) (λ h. along_refused (Write a v) 3) (λ h w s q k. absurd (true≢false q)))
          (λ g. along_refused (Write a v) 1))
          (λ e. along_refused (Write a v) 2)
      along (Wait n) = along_wait n
      along (Line b) =
          by_cond (Along (Line b)) (leb b 1) (done 0 (receive_input (bit b) p)) (refuse 2 p)
          (λ e w s q k. along_other (receive_input (bit b) p) (near_line (bit b) p t) (line_here (bit b) w) s k) (λ e. along_refused (Line b) 2)
      along (Pins d b) =
          by_cond (Along (Pins d b)) (leb d 1 && leb b 1) _ (refuse 2 p)
          (λ e. by_cond (Along (Pins d b)) ((differ (bit b) p.input || differ (bit d) p.input_clock) && (edge_counts (bit d) p && leb limit p.half)) (refuse 4 p) (done 0 (input_pins (bit d) (bit b) p))
          (λ g. along_refused (Pins d b) 4)
          (λ g w s q k. along_other (input_pins (bit d) (bit b) p) (near_pins (bit d) (bit b) p t) (pins_here (bit d) (bit b) w) s k))
          (λ e. along_refused (Pins d b) 2)
      along (Power b) =
          by_cond (Along (Power b)) (leb b 15) (done 0 (set_power (has b 1) (has b 2) (has b 4) (has b 8) p)) (refuse 2 p) (λ e w s q k. absurd (true≢false q)) (λ e. along_refused (Power b) 2)
      along Inside = λ w s q k. along_other (inside p) t w s k

      along_direct : (x : Call) → Along x (direct x p)
      unfolding direct
      along_direct x = by_cond (Along x) (valid p) (called x p) (refuse 8 p) (λ e. along x) (λ e. along_refused x 8)

    pub words_along : (cs : List Call) (p : Port) (c : Count) → Near p → Here c (levels (moments p cs)) p → Apart c (moments p cs) → each_call (λ c a q. allowed_in_words c a) p cs
        → throughout start items c (moments p cs)
    unfolding moments
    words_along [] p c t w s q = tt
    words_along (x ∷ cs) p c t w s q =
        along_direct p c (moments (after (direct x p)) cs) t x w s q.0
        (λ c' t' w' s'. words_along cs (after (direct x p)) c' t' w' s' q.1)
