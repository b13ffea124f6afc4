-- A script in two parts: its items are those of the first part and then those of the second, further on; and where the first part is accepted, its run is
-- the first part's and then the second's, on what the first left.
-- Assumes nothing.
use mathlib.Core.Path.{◌≡◌, refl, sym, ap, ◌∙◌}
use mathlib.Core.Bool.{cond}
use mathlib.Core.List.{List, [], ◌∷◌, ◌++◌, map}
use Prim.Native.Nat.{ℕ, zero, suc, ◌+◌, ◌-◌, ◌≤◌, ◌<◌}
use native.Mathlib.Omega.{arith}
use native.Mathlib.Nat.{zero-add}
use lib.ListN.{length, take, drop}
use lib.Seq.{take-append-add, drop-append-add, length-take-le}
use lib.Dec.{eqb, ltb}
use borrow.Author.Tests.{lt-ltb, le-ltb, ltb-true, ltb-false, ne_eqb}
use Rattle.branches.proofs.Branches.{either_way}
use Rattle.machine.specs.Machine.{Reading, found, faulty, Item, a_command, a_fault, item, items_up_to, items, Act, acts, refuses, Run, ended, recorded, answered, play_items, Sound}
use Rattle.machine.proofs.Items.{Moves, items_next, items_none}
use Rattle.machine.proofs.Turns.{recorded_twice}
use Rattle.machine.proofs.Used.{items_within}
use Rattle.machine.proofs.Whole.{ReadWhole, NoFault}

-- ---- items

-- n bytes further on
abbrev pub moved : {C : Type 0} → ℕ → Item C → Item C
moved n (a_command at c) = a_command (n + at) c
moved n (a_fault at needs m) = a_fault (n + at) needs m

abbrev pub moved_reading : {C : Type 0} → ℕ → Reading C → Reading C
moved_reading n (found c next) = found c (n + next)
moved_reading n (faulty needs m) = faulty needs m

-- a command of the first `size` bytes is there whatever follows them
abbrev pub Stays : {C : Type 0} → ℕ → Reading C → Reading C → Type 0
Stays size (found c next) d = (d ≡ found c next) × (next ≤ size)
Stays size (faulty needs n) d = Unit {0}

module _ {C : Type 0} (whole first second : ℕ → Reading C) (size more : ℕ)
    (moves : (at : ℕ) → Moves at (whole at)) (first_moves : (at : ℕ) → Moves at (first at))
    (stays : (at : ℕ) → at ≤ size → Stays size (first at) (whole at))
    (goes_on : (at : ℕ) → whole (size + at) ≡ moved_reading size (second at)) where
  item_moved : (f g : ℕ → List (Item C)) (at : ℕ) (d : Reading C) → ((n : ℕ) → f (size + n) ≡ map (moved size) (g n)) →
      item f (size + at) (moved_reading size d) ≡ map (moved size) (item g at d)
  item_moved f g at (found c next) h = ap (λ (l : List (Item C)). a_command (size + at) c ∷ l) (h next)
  item_moved f g at (faulty needs n) h = refl

  second_items : (k at : ℕ) → items_up_to k whole (size + more) (size + at) ≡ map (moved size) (items_up_to k second more at)
  second_items zero at = refl
  second_items (suc k) at =
      either_way (ltb at more)
      (λ t. rw (t, lt-ltb (size + at) (size + more) (omega (arith, ltb-true at more t)), goes_on at)
      (item_moved (items_up_to k whole (size + more)) (items_up_to k second more) at (second at) (second_items k)))
      (λ t. rw (t, le-ltb (size + at) (size + more) (omega (arith, ltb-false at more t))) refl)

  all_second : items whole (size + more) size ≡ map (moved size) (items second more 0)
  all_second =
      let fuel : size + more - size ≡ more - 0 = omega arith in
      let here : size + 0 ≡ size = omega arith in
      ap (λ (k : ℕ). items_up_to k whole (size + more) size) fuel
      ∙ ap (λ (n : ℕ). items_up_to (more - 0) whole (size + more) n) (sym here) ∙ second_items (more - 0) 0

  abbrev InParts : ℕ → Type 0
  InParts at = items whole (size + more) at ≡ items first size at ++ map (moved size) (items second more 0)

  item_stays : (at : ℕ) (d e : Reading C) → Stays size d e → Moves at d → ReadWhole (item (items first size) at d) →
      ((next : ℕ) → at < next → next ≤ size → ReadWhole (items first size next) → InParts next) →
      item (items whole (size + more)) at e ≡ item (items first size) at d ++ map (moved size) (items second more 0)
  item_stays at (found c next) e (s, fits) m w h =
      ap (item (items whole (size + more)) at) s ∙ ap (λ (l : List (Item C)). a_command at c ∷ l) (h next m fits w)
  item_stays at (faulty needs n) e s m w h = absurd w

  at_end : (at : ℕ) → size ≡ at → InParts at
  at_end at e = rw (← e, items_none first size first_moves size (omega arith)) all_second

  in_parts : (k at : ℕ) → size ≤ at + k → at ≤ size → ReadWhole (items first size at) → InParts at
  in_parts zero at g h w = at_end at (omega arith)
  in_parts (suc k) at g h w =
      either_way (ltb at size)
      (λ t.
      let low : at < size = ltb-true at size t in
      let n = items_next first size first_moves at low in
      items_next whole (size + more) moves at (omega arith)
      ∙ item_stays at (first at) (whole at) (stays at h) (first_moves at) (rw n at w) (λ next m fits. in_parts k next (omega arith) fits)
      ∙ ap (λ (l : List (Item C)). l ++ map (moved size) (items second more 0)) (sym n))
      (λ t. at_end at (omega (arith, ltb-false at size t)))

  pub items_in_parts : ReadWhole (items first size 0) → items whole (size + more) 0 ≡ items first size 0 ++ map (moved size) (items second more 0)
  items_in_parts w = in_parts size 0 (omega arith) (omega arith) w

-- ---- runs

-- its offset n bytes further on, where it ends by a refusal
abbrev pub further : {S : Type 0} → ℕ → Run S → Run S
further n r = record { state = r.state; number = r.number; offset = cond (eqb r.number 0) 0 (n + r.offset); used = r.used; log = r.log }

-- a run of a first part of n bytes, and then of a second, as one
abbrev pub joined : {S : Type 0} → ℕ → Run S → Run S → Run S
joined n r q =
    record { state = q.state; number = q.number; offset = cond (eqb q.number 0) 0 (n + q.offset); used = r.used + q.used; log = take r.used r.log ++ q.log }

module _ {C S : Type 0} (room : C → ℕ) (act : C → S → Act S) (sound : Sound room act) where
  ended_further : (n m at : ℕ) (p : S) (log : List ℕ) → (m ≡ 0 → ⊥) → ended m (n + at) p log ≡ further n (ended m at p log)
  ended_further n m at p log h = rw (ne_eqb m 0 h) refl

  act_further : (n at : ℕ) (c : C) (p : S) (log : List ℕ) (f g : S → List ℕ → Run S) (a : Act S) → act c p ≡ a →
      ((q : S) (l : List ℕ) → f q l ≡ further n (g q l)) → answered (n + at) p log f a ≡ further n (answered at p log g a)
  act_further n at c p log f g (acts bs q) e h = ap (recorded bs) (h q (drop (length bs) log))
  act_further n at c p log f g (refuses m) e h = ended_further n m at p log (sound.refusals c p m e)

  -- the items further on
  run_further : (n : ℕ) (p : S) (js : List (Item C)) (log : List ℕ) → NoFault 0 js →
      play_items room act p (map (moved n) js) log ≡ further n (play_items room act p js log)
  unfolding play_items
  run_further n p [] log f = refl
  run_further n p (a_fault at needs m ∷ js) log f =
      either_way (ltb (length log) needs) (λ t. rw t (ended_further n 9 at p log (λ z. omega arith))) (λ t. rw t (ended_further n m at p log f))
  run_further n p (a_command at c ∷ js) log f =
      either_way (ltb (length log) (room c)) (λ t. rw t (ended_further n 9 at p log (λ z. omega arith)))
      (λ t. rw t
      (act_further n at c p log (λ q. play_items room act q (map (moved n) js)) (λ q. play_items room act q js) (act c p) refl
      (λ q l. run_further n q js l f)))

  recorded_none : (r : Run S) → r ≡ recorded [] r
  recorded_none r = rw zero-add refl

  -- what is played after a run
  abbrev Then : List (Item C) → Run S → Run S
  Then js r = recorded (take r.used r.log) (play_items room act r.state js (drop r.used r.log))

  then_recorded : (js : List (Item C)) (bs : List ℕ) (r : Run S) → recorded bs (Then js r) ≡ Then js (recorded bs r)
  then_recorded js bs r =
      recorded_twice bs (take r.used r.log) (play_items room act r.state js (drop r.used r.log))
      ∙ rw (take-append-add bs r.log r.used, drop-append-add bs r.log r.used) refl

  act_then : (at : ℕ) (c : C) (p : S) (log : List ℕ) (js : List (Item C)) (f g : S → List ℕ → Run S) (a : Act S) → act c p ≡ a →
      ((q : S) (l : List ℕ) → (g q l).number ≡ 0 → f q l ≡ Then js (g q l)) →
      (answered at p log g a).number ≡ 0 → answered at p log f a ≡ Then js (answered at p log g a)
  act_then at c p log js f g (acts bs q) e h z =
      ap (recorded bs) (h q (drop (length bs) log) z) ∙ then_recorded js bs (g q (drop (length bs) log))
  act_then at c p log js f g (refuses n) e h z = absurd (sound.refusals c p n e z)

  run_then : (p : S) (is js : List (Item C)) (log : List ℕ) → ReadWhole is → (play_items room act p is log).number ≡ 0 →
      play_items room act p (is ++ js) log ≡ Then js (play_items room act p is log)
  unfolding play_items
  run_then p [] js log w z = recorded_none (play_items room act p js log)
  run_then p (a_fault at needs n ∷ is) js log w z = absurd w
  run_then p (a_command at c ∷ is) js log w z =
      either_way (ltb (length log) (room c)) (λ t. absurd (omega (arith, rw t at z)))
      (λ t. rw t
      (act_then at c p log js (λ q. play_items room act q (is ++ js)) (λ q. play_items room act q is) (act c p) refl (λ q l. run_then q is js l w)
      (rw t at z)))

  pub runs_in_parts : (n : ℕ) (p : S) (is js : List (Item C)) (log : List ℕ) → ReadWhole is → NoFault 0 js →
      let r = play_items room act p is log in
      r.number ≡ 0 → play_items room act p (is ++ map (moved n) js) log ≡ joined n r (play_items room act r.state js (drop r.used r.log))
  runs_in_parts n p is js log w f z =
      let r : Run S = play_items room act p is log in
      let inside = items_within room act sound p is log in
      let front : length (take r.used r.log) ≡ r.used = length-take-le r.used r.log (omega (arith, inside.used, inside.long)) in
      run_then p is (map (moved n) js) log w z ∙ rw (run_further n r.state js (drop r.used r.log) f, front) refl
