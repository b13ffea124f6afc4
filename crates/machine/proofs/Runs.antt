-- A run is its commands: what it leaves is what its first commands leave, each in the state that the one before left (specs/Machine.antt).
-- Assumes nothing.
use mathlib.Core.Path.{◌≡◌, refl, sym, ap, subst, ◌∙◌}
use mathlib.Core.List.{List, [], ◌∷◌, ◌++◌, append-nil, append_assoc}
use Prim.Native.Nat.{ℕ, ◌+◌, ◌-◌}
use native.Mathlib.Omega.{arith}
use lib.ListN.{length, drop, length-append}
use lib.Seq.{drop-drop}
use lib.Dec.{ltb}
use borrow.Author.Tests.{le-leb, lt-leb}
use Rattle.branches.proofs.Branches.{by_cond}
use Rattle.machine.specs.Machine.{Item, a_command, a_fault, commands, Act, acts, refuses, Run, ended, answered, play_items, written, left, Acts, AllAct, last, records, played, IsItsCommands, Sound}

module _ {C S : Type 0} (room : C → ℕ) (act : C → S → Act S) (sound : Sound room act) where
  -- some first commands, which the run plays
  record Plays (p : S) (cs : List C) (log : List ℕ) (r : Run S) : Type 0 where
    pub first : List C
    pub rest : List C
    pub split : cs ≡ first ++ rest
    pub all : AllAct act p first
    pub state : r.state ≡ last act p first
    pub used : r.used ≡ length (records act p first)
    pub log_is : r.log ≡ records act p first ++ drop r.used log
    pub whole : r.number ≡ 0 → rest ≡ []

  none : (n at : ℕ) (p : S) (cs : List C) (log : List ℕ) → (n ≡ 0 → cs ≡ []) → Plays p cs log (ended n at p log)
  none n at p cs log w = record { first = []; rest = cs; split = refl; all = tt; state = refl; used = refl; log_is = refl; whole = w }

  one : (at : ℕ) (c : C) (p : S) (cs : List C) (log : List ℕ) (go : S → List ℕ → Run S) (a : Act S) → act c p ≡ a →
      ((q : S) (l : List ℕ) → Plays q cs l (go q l)) → Plays p (c ∷ cs) log (answered at p log go a)
  one at c p cs log go (acts bs q) e h =
      let f = h q (drop (length bs) log) in
      record {
        first = c ∷ f.first;
        rest = f.rest;
        split = ap (λ (l : List C). c ∷ l) f.split;
        all = subst (λ (t : Act S). Acts t × AllAct act (left p t) f.first) (sym e) (tt, f.all);
        state = f.state ∙ ap (λ (t : Act S). last act (left p t) f.first) (sym e);
        used =
            ap (λ (n : ℕ). length bs + n) f.used ∙ sym (length-append bs (records act q f.first))
            ∙ ap (λ (t : Act S). length (written t ++ records act (left p t) f.first)) (sym e);
        log_is =
            ap (λ (l : List ℕ). bs ++ l) (f.log_is ∙ ap (λ (l : List ℕ). records act q f.first ++ l) (drop-drop (go q (drop (length bs) log)).used (length bs) log))
            ∙ again bs q f e;
        whole = f.whole;
      }
    where
      again : (bs : List ℕ) (q : S) (f : Plays q cs (drop (length bs) log) (go q (drop (length bs) log))) → act c p ≡ acts bs q →
          bs ++ (records act q f.first ++ drop (length bs + (go q (drop (length bs) log)).used) log)
          ≡ (written (act c p) ++ records act (left p (act c p)) f.first) ++ drop (length bs + (go q (drop (length bs) log)).used) log
      again bs q f e = rw e (sym (append_assoc bs (records act q f.first) _))
  one at c p cs log go (refuses n) e h = none n at p (c ∷ cs) log (λ z. absurd (sound.refusals c p n e z))

  plays : (p : S) (is : List (Item C)) (log : List ℕ) → Plays p (commands is) log (play_items room act p is log)
  unfolding play_items
  plays p [] log = none 0 0 p [] log (λ z. refl)
  plays p (a_fault at needs n ∷ is) log =
      by_cond (Plays p [] log) (ltb (length log) needs) _ _ (λ t. none 9 at p [] log (λ z. refl)) (λ t. none n at p [] log (λ z. refl))
  plays p (a_command at c ∷ is) log =
      by_cond (Plays p (c ∷ commands is) log) (ltb (length log) (room c)) _ _ (λ t. none 9 at p (c ∷ commands is) log (λ z. absurd (omega arith)))
      (λ t. one at c p (commands is) log (λ q. play_items room act q is) (act c p) refl (λ q l. plays q is l))

  -- as many as there are bytes
  played_first : (p : S) (first rest : List C) → AllAct act p first → played room (length (records act p first)) (first ++ rest) ≡ first
  played_first p [] [] h = refl
  played_first p [] (c ∷ cs) h = rw (lt-leb (room c) 0 (sound.some c))
  played_first p (c ∷ cs) rest h = by_act (act c p) refl h.0 h.1 (λ q k. played_first q cs rest k)
    where
      by_act : (a : Act S) → act c p ≡ a → Acts a → AllAct act (left p a) cs →
          ((q : S) → AllAct act q cs → played room (length (records act q cs)) (cs ++ rest) ≡ cs) →
          played room (length (written a ++ records act (left p a) cs)) (c ∷ (cs ++ rest)) ≡ c ∷ cs
      by_act (acts bs q) e t k f =
          let long : length bs ≡ room c = sound.fills c p q bs e in
          let less : length bs + length (records act q cs) - room c ≡ length (records act q cs) = omega arith in
          rw (length-append, le-leb (room c) (length bs + length (records act q cs)) (omega arith), less) (ap (λ (l : List C). c ∷ l) (f q k))
      by_act (refuses n) e t k f = absurd t

  is_its : (p : S) (cs : List C) (log : List ℕ) (r : Run S) → Plays p cs log r → IsItsCommands room act p cs log r
  is_its p cs log r f =
      let same : played room r.used cs ≡ f.first = rw (f.used, f.split) (played_first p f.first f.rest f.all) in
      record {
        accepted = rw same f.all;
        state = rw same f.state;
        used = rw same f.used;
        log = rw same f.log_is;
        whole = λ z. same ∙ sym (f.split ∙ ap (λ (l : List C). f.first ++ l) (f.whole z) ∙ append-nil f.first);
      }

  pub runs_are_commands : (p : S) (is : List (Item C)) (log : List ℕ) → IsItsCommands room act p (commands is) log (play_items room act p is log)
  runs_are_commands p is log = is_its p (commands is) log (play_items room act p is log) (plays p is log)

  -- and so is one that ends at once, by a refusal
  pub none_are_commands : (n at : ℕ) (p : S) (cs : List C) (log : List ℕ) → (n ≡ 0 → cs ≡ []) → IsItsCommands room act p cs log (ended n at p log)
  none_are_commands n at p cs log w = is_its p cs log (ended n at p log) (none n at p cs log w)
