-- Document 01, "A script comes in", for any commands and any state: how a script is read as items, and what playing the items leaves. The one-port
-- player and the card are two cases of it; each says how its commands are read, how much of the log they need, and what they do.
-- Assumes nothing.
use Rattle.std.specs.Prelude.{ℕ, zero, suc, ◌+◌, ◌-◌, ◌<◌, ◌≡◌, cond, List, [], ◌∷◌, ◌++◌, length, drop, ltb, leb}

-- ---- a script as items

-- what stands at an offset: a command and the offset after it; or a fault, by its number, with how many bytes of the log must be free for it to be
-- told (with fewer it is 9)
pub data Reading (C : Type 0) : Type 0 where
  found : C → ℕ → Reading C
  faulty : ℕ → ℕ → Reading C

-- the same with its own offset
pub data Item (C : Type 0) : Type 0 where
  a_command : ℕ → C → Item C
  a_fault : ℕ → ℕ → ℕ → Item C

abbrev pub item : {C : Type 0} → (ℕ → List (Item C)) → ℕ → Reading C → List (Item C)
item after at (found c next) = a_command at c ∷ after next
item after at (faulty room n) = a_fault at room n ∷ []

-- the items from the offset `at` on, at most k of them, of a script of `size` bytes
abbrev pub items_up_to : {C : Type 0} → ℕ → (ℕ → Reading C) → ℕ → ℕ → List (Item C)
items_up_to zero read size at = []
items_up_to (suc k) read size at = cond (ltb at size) (item (items_up_to k read size) at (read at)) []

-- all of them: each command takes a byte at least
abbrev pub items : {C : Type 0} → (ℕ → Reading C) → ℕ → ℕ → List (Item C)
items read size at = items_up_to (size - at) read size at

-- the commands, up to where reading stops
abbrev pub commands : {C : Type 0} → List (Item C) → List C
commands [] = []
commands (a_command at c ∷ is) = c ∷ commands is
commands (a_fault at room n ∷ is) = []

-- ---- playing them

-- what a command does: the bytes that it writes to the log, and the next state; or the number of its refusal
pub data Act (S : Type 0) : Type 0 where
  acts : List ℕ → S → Act S
  refuses : ℕ → Act S

-- how a run ends: the last state ("as before that command" that was refused), the refusal's number (0: accepted), the offset of its command, the
-- bytes of the log that hold records, and the whole log
pub record Run (S : Type 0) : Type 0 where
  pub state : S
  pub number : ℕ
  pub offset : ℕ
  pub used : ℕ
  pub log : List ℕ

abbrev pub ended : {S : Type 0} → ℕ → ℕ → S → List ℕ → Run S
ended n at p log = record { state = p; number = n; offset = at; used = 0; log = log }

abbrev pub recorded : {S : Type 0} → List ℕ → Run S → Run S
recorded bs r = record { state = r.state; number = r.number; offset = r.offset; used = length bs + r.used; log = bs ++ r.log }

abbrev pub answered : {S : Type 0} → ℕ → S → List ℕ → (S → List ℕ → Run S) → Act S → Run S
answered at p log rest (acts bs q) = recorded bs (rest q (drop (length bs) log))
answered at p log rest (refuses n) = ended n at p log

abbrev pub with_room : {S : Type 0} → ℕ → ℕ → S → List ℕ → Run S → Run S
with_room room at p log r = cond (ltb (length log) room) (ended 9 at p log) r

unfoldable pub play_items : {C S : Type 0} → (C → ℕ) → (C → S → Act S) → S → List (Item C) → List ℕ → Run S
play_items room act p [] log = ended 0 0 p log
play_items room act p (a_fault at needs n ∷ is) log = with_room needs at p log (ended n at p log)
play_items room act p (a_command at c ∷ is) log =
    with_room (room c) at p log (answered at p log (λ q. play_items room act q is) (act c p))

-- ---- a run is its commands

-- the bytes that a command writes, and the state that it leaves
abbrev pub written : {S : Type 0} → Act S → List ℕ
written (acts bs q) = bs
written (refuses n) = []

abbrev pub left : {S : Type 0} → S → Act S → S
left p (acts bs q) = q
left p (refuses n) = p

abbrev pub Acts : {S : Type 0} → Act S → Type 0
Acts (acts bs q) = Unit {0}
Acts (refuses n) = ⊥

-- of commands one after the other, the first in the state p: that none is refused, the last state, all that they write
abbrev pub AllAct : {C S : Type 0} → (C → S → Act S) → S → List C → Type 0
AllAct act p [] = Unit {0}
AllAct act p (c ∷ cs) = Acts (act c p) × AllAct act (left p (act c p)) cs

abbrev pub last : {C S : Type 0} → (C → S → Act S) → S → List C → S
last act p [] = p
last act p (c ∷ cs) = last act (left p (act c p)) cs

abbrev pub records : {C S : Type 0} → (C → S → Act S) → S → List C → List ℕ
records act p [] = []
records act p (c ∷ cs) = written (act c p) ++ records act (left p (act c p)) cs

-- the first commands, as many as fill so much of the log
abbrev pub played : {C : Type 0} → (C → ℕ) → ℕ → List C → List C
played room n [] = []
played room n (c ∷ cs) = cond (leb (room c) n) (c ∷ played room (n - room c) cs) []

pub record IsItsCommands {C S : Type 0} (room : C → ℕ) (act : C → S → Act S) (p : S) (cs : List C) (before : List ℕ) (r : Run S) : Type 0 where
  pub accepted : AllAct act p (played room r.used cs)
  pub state : r.state ≡ last act p (played room r.used cs)
  pub used : r.used ≡ length (records act p (played room r.used cs))
  pub log : r.log ≡ records act p (played room r.used cs) ++ drop r.used before
  pub whole : r.number ≡ 0 → played room r.used cs ≡ cs

-- ---- what is asked of the commands

-- they write as much as they need, and a byte at least; no refusal is 0
pub record Sound {C S : Type 0} (room : C → ℕ) (act : C → S → Act S) : Type 0 where
  pub some : (c : C) → 0 < room c
  pub fills : (c : C) (p q : S) (bs : List ℕ) → act c p ≡ acts bs q → length bs ≡ room c
  pub refusals : (c : C) (p : S) (n : ℕ) → act c p ≡ refuses n → n ≡ 0 → ⊥
