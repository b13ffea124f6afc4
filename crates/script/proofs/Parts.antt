-- A script in two parts, the first of which is read whole: its items are those of the first part and then those of the second, further on.
-- Assumes nothing.
use mathlib.Core.Path.{◌≡◌, refl, ap, ◌∙◌}
use mathlib.Core.Bool.{cond}
use mathlib.Core.List.{List, [], ◌∷◌, ◌++◌, map}
use Prim.Native.Nat.{ℕ, ◌+◌, ◌-◌, ◌*◌, ◌≤◌}
use native.Mathlib.Omega.{arith}
use lib.ListN.{length, drop, length-append, length-drop}
use lib.Seq.{drop-append-add}
use lib.Dec.{leb, ltb}
use Rattle.std.proofs.Common.{Option, None, Some, Ok, Err}
use Rattle.std.proofs.lemmas.List.{drop-append-le}
use Rattle.branches.proofs.Branches.{either_way}
use Rattle.command.specs.declared.Operands.{Operands}
use Rattle.command.specs.declared.Operands.TheVariants.{None as NoOperands, One, Two}
use Rattle.command.specs.declared.Command.{Command}
use Rattle.command.specs.Command.{operands_of, command_of}
use Rattle.script.specs.declared.Fault.TheVariants.{Operand}
use Rattle.script.specs.Number.{Reads, finds, and_then, breaks, groups, with_group, number_at}
use Rattle.script.specs.Command.{limited, operand_at, with_operands, command_at}
use Rattle.script.specs.Items.{reading, read_at, script_items}
use Rattle.machine.specs.Machine.{items}
use Rattle.machine.proofs.Parts.{Stays, moved, moved_reading, items_in_parts}
use Rattle.machine.proofs.Whole.{ReadWhole}
use Rattle.script.proofs.Items.{command_moves}

-- ---- what the first part has is read with the second behind it too

abbrev Keeps : {T : Type 0} → ℕ → Reads T → Reads T → Type 0
Keeps end (Ok found) r = (r ≡ Ok found) × (found.next ≤ end)
Keeps end (Err why) r = Unit {0}

then_keeps : {T U : Type 0} (end : ℕ) (r w : Reads T) (f g : T → ℕ → Reads U) → Keeps end r w → ((v : T) (next : ℕ) → next ≤ end → Keeps end (f v next) (g v next)) →
    Keeps end (and_then r f) (and_then w g)
then_keeps end (Ok found) w f g k h = rw k.0 (h found.value found.next k.1)
then_keeps end (Err why) w f g k h = tt

groups_keep : (k at end : ℕ) (s t : List ℕ) → at + length s ≤ end → Keeps end (groups k at s) (groups k at (s ++ t))
groups_keep k at end [] t h = tt
groups_keep k at end (b ∷ s) t h =
    either_way (breaks k b) (λ u. rw u tt)
    (λ u. rw u
    (either_way (ltb b 128) (λ v. rw v (refl, omega arith))
    (λ v. rw v
    (then_keeps end (groups (k - 1) (at + 1) s) (groups (k - 1) (at + 1) (s ++ t)) (λ m next. finds (b - 128 + 128 * m) next)
    (λ m next. finds (b - 128 + 128 * m) next) (groups_keep (k - 1) (at + 1) end s t (omega arith)) (λ m next g. (refl, g))))))

module _ (s t : List ℕ) where
  number_keeps : (at : ℕ) → at ≤ length s → Keeps (length s) (number_at s at) (number_at (s ++ t) at)
  number_keeps at h = rw (drop-append-le at s t h) (groups_keep 4 at (length s) (drop at s) t (omega (arith, length-drop at s)))

  operand_keeps : (m at : ℕ) → at ≤ length s → Keeps (length s) (operand_at m s at) (operand_at m (s ++ t) at)
  operand_keeps m at h =
      then_keeps (length s) (number_at s at) (number_at (s ++ t) at) (λ v next. cond (leb v m) (finds v next) (Err Operand))
      (λ v next. cond (leb v m) (finds v next) (Err Operand)) (number_keeps at h)
      (λ v next g. either_way (leb v m) (λ u. rw u (refl, g)) (λ u. rw u tt))

  operands_keep : (k mid : ℕ) (o : Option Operands) → mid ≤ length s → Keeps (length s) (with_operands s k mid o) (with_operands (s ++ t) k mid o)
  operands_keep k mid None h = tt
  operands_keep k mid (Some NoOperands) h = (refl, h)
  operands_keep k mid (Some (One m)) h =
      then_keeps (length s) (operand_at m s mid) (operand_at m (s ++ t) mid) (λ a next. finds (command_of k a 0) next)
      (λ a next. finds (command_of k a 0) next) (operand_keeps m mid h) (λ a next g. (refl, g))
  operands_keep k mid (Some (Two m n)) h =
      then_keeps (length s) (operand_at m s mid) (operand_at m (s ++ t) mid)
      (λ a second. and_then (operand_at n s second) (λ b next. finds (command_of k a b) next))
      (λ a second. and_then (operand_at n (s ++ t) second) (λ b next. finds (command_of k a b) next)) (operand_keeps m mid h)
      (λ a second g. then_keeps (length s) (operand_at n s second) (operand_at n (s ++ t) second) (λ b next. finds (command_of k a b) next)
      (λ b next. finds (command_of k a b) next) (operand_keeps n second g) (λ b next i. (refl, i)))

  command_keeps : (at : ℕ) → at ≤ length s → Keeps (length s) (command_at s at) (command_at (s ++ t) at)
  command_keeps at h =
      then_keeps (length s) (number_at s at) (number_at (s ++ t) at) (λ k next. with_operands s k next (operands_of k))
      (λ k next. with_operands (s ++ t) k next (operands_of k)) (number_keeps at h) (λ k next g. operands_keep k next (operands_of k) g)

reading_stays : (room end : ℕ) (r w : Reads Command) → Keeps end r w → Stays end (reading room r) (reading room w)
reading_stays room end (Ok found) w k = (ap (reading room) k.0, k.1)
reading_stays room end (Err why) w k = tt

-- ---- the second part is read as by itself, further on

abbrev shifted : {T : Type 0} → ℕ → Reads T → Reads T
shifted n (Ok found) = finds found.value (n + found.next)
shifted n (Err why) = Err why

then_shifted : {T U : Type 0} (n : ℕ) (r : Reads T) (f g : T → ℕ → Reads U) → ((v : T) (next : ℕ) → g v (n + next) ≡ shifted n (f v next)) →
    and_then (shifted n r) g ≡ shifted n (and_then r f)
then_shifted n (Ok found) f g h = h found.value found.next
then_shifted n (Err why) f g h = refl

groups_shift : (n k at : ℕ) (s : List ℕ) → groups k (n + at) s ≡ shifted n (groups k at s)
groups_shift n k at [] = refl
groups_shift n k at (b ∷ s) =
    let next : n + at + 1 ≡ n + (at + 1) = omega arith in
    either_way (breaks k b) (λ u. rw u refl)
    (λ u. rw (u, next)
    (either_way (ltb b 128) (λ v. rw v refl)
    (λ v. rw v
    (ap (with_group b) (groups_shift n (k - 1) (at + 1) s)
    ∙ then_shifted n (groups (k - 1) (at + 1) s) (λ m next. finds (b - 128 + 128 * m) next) (λ m next. finds (b - 128 + 128 * m) next) (λ m next. refl)))))

module _ (s t : List ℕ) where
  number_shift : (at : ℕ) → number_at (s ++ t) (length s + at) ≡ shifted (length s) (number_at t at)
  number_shift at = rw (drop-append-add s t at) (groups_shift (length s) 4 at (drop at t))

  operand_shift : (m at : ℕ) → operand_at m (s ++ t) (length s + at) ≡ shifted (length s) (operand_at m t at)
  operand_shift m at =
      ap (limited m) (number_shift at)
      ∙ then_shifted (length s) (number_at t at) (λ v next. cond (leb v m) (finds v next) (Err Operand)) (λ v next. cond (leb v m) (finds v next) (Err Operand))
      (λ v next. either_way (leb v m) (λ u. rw u refl) (λ u. rw u refl))

  operands_shift : (k mid : ℕ) (o : Option Operands) → with_operands (s ++ t) k (length s + mid) o ≡ shifted (length s) (with_operands t k mid o)
  operands_shift k mid None = refl
  operands_shift k mid (Some NoOperands) = refl
  operands_shift k mid (Some (One m)) =
      ap (λ (r : Reads ℕ). and_then r (λ a next. finds (command_of k a 0) next)) (operand_shift m mid)
      ∙ then_shifted (length s) (operand_at m t mid) (λ a next. finds (command_of k a 0) next) (λ a next. finds (command_of k a 0) next) (λ a next. refl)
  operands_shift k mid (Some (Two m n)) =
      ap (λ (r : Reads ℕ). and_then r (λ a second. and_then (operand_at n (s ++ t) second) (λ b next. finds (command_of k a b) next))) (operand_shift m mid)
      ∙ then_shifted (length s) (operand_at m t mid) (λ a second. and_then (operand_at n t second) (λ b next. finds (command_of k a b) next))
      (λ a second. and_then (operand_at n (s ++ t) second) (λ b next. finds (command_of k a b) next))
      (λ a second. ap (λ (r : Reads ℕ). and_then r (λ b next. finds (command_of k a b) next)) (operand_shift n second)
      ∙ then_shifted (length s) (operand_at n t second) (λ b next. finds (command_of k a b) next) (λ b next. finds (command_of k a b) next) (λ b next. refl))

  command_shift : (at : ℕ) → command_at (s ++ t) (length s + at) ≡ shifted (length s) (command_at t at)
  command_shift at =
      ap (λ (r : Reads ℕ). and_then r (λ k next. with_operands (s ++ t) k next (operands_of k))) (number_shift at)
      ∙ then_shifted (length s) (number_at t at) (λ k next. with_operands t k next (operands_of k)) (λ k next. with_operands (s ++ t) k next (operands_of k))
      (λ k next. operands_shift k next (operands_of k))

reading_shifted : (room n : ℕ) (r : Reads Command) → reading room (shifted n r) ≡ moved_reading n (reading room r)
reading_shifted room n (Ok found) = refl
reading_shifted room n (Err why) = refl

-- ---- the items

pub script_in_parts : (room : ℕ) (s t : List ℕ) → ReadWhole (script_items room s 0) →
    script_items room (s ++ t) 0 ≡ script_items room s 0 ++ map (moved (length s)) (script_items room t 0)
script_in_parts room s t w =
    ap (λ (n : ℕ). items (read_at room (s ++ t)) n 0) (length-append s t)
    ∙ items_in_parts (read_at room (s ++ t)) (read_at room s) (read_at room t) (length s) (length t) (command_moves room (s ++ t)) (command_moves room s)
    (λ at h. reading_stays room (length s) (command_at s at) (command_at (s ++ t) at) (command_keeps s t at h))
    (λ at. ap (reading room) (command_shift s t at) ∙ reading_shifted room (length s) (command_at t at)) w
