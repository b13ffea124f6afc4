-- The items of a script one by one, without the bound.
-- Assumes nothing.
use mathlib.Core.Path.{◌≡◌, refl, sym, ap, ◌∙◌}
use mathlib.Core.Bool.{cond}
use mathlib.Core.List.{List, [], ◌∷◌}
use Prim.Native.Nat.{ℕ, zero, suc, ◌+◌, ◌-◌, ◌≤◌, ◌<◌}
use native.Mathlib.Omega.{arith}
use lib.Dec.{ltb}
use borrow.Author.Tests.{lt-ltb, le-ltb}
use Rattle.machine.specs.Machine.{Reading, found, faulty, Item, a_command, item, items_up_to, items}

abbrev pub Moves : {C : Type 0} → ℕ → Reading C → Type 0
Moves at (found c next) = at < next
Moves at (faulty room n) = Unit {0}

module _ {C : Type 0} where
  item_same : (f g : ℕ → List (Item C)) (at : ℕ) (d : Reading C) → Moves at d → ((n : ℕ) → at < n → f n ≡ g n) → item f at d ≡ item g at d
  item_same f g at (found c next) h e = ap (λ (r : List (Item C)). a_command at c ∷ r) (e next h)
  item_same f g at (faulty room n) h e = refl

  module _ (read : ℕ → Reading C) (size : ℕ) (moves : (at : ℕ) → Moves at (read at)) where
    past_end : (k at : ℕ) → size ≤ at → items_up_to k read size at ≡ []
    past_end zero at h = refl
    past_end (suc k) at h = rw (le-ltb at size h)

    enough : (j k at : ℕ) → size ≤ at + j → size ≤ at + k → items_up_to j read size at ≡ items_up_to k read size at
    enough zero k at hj hk = sym (past_end k at (omega arith))
    enough (suc j) zero at hj hk = past_end (suc j) at (omega arith)
    enough (suc j) (suc k) at hj hk =
        ap (λ (r : List (Item C)). cond (ltb at size) r [])
        (item_same (items_up_to j read size) (items_up_to k read size) at (read at) (moves at) (λ n h. enough j k n (omega arith) (omega arith)))

    pub items_none : (at : ℕ) → size ≤ at → items read size at ≡ []
    items_none at h = past_end (size - at) at h

    pub items_next : (at : ℕ) → at < size → items read size at ≡ item (items read size) at (read at)
    items_next at h =
        enough (size - at) (suc (size - at)) at (omega arith) (omega arith)
        ∙ rw (lt-ltb at size h)
        (item_same (items_up_to (size - at) read size) (items read size) at (read at) (moves at)
        (λ n g. enough (size - at) (size - n) n (omega arith) (omega arith)))
