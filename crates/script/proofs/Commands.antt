-- Commands read back, and accepted commands are encodings: the claims of specs/RoundTrip.antt on commands. They go by the number of operands,
-- so that a new kind adds a line to each.
-- Assumes nothing.
use mathlib.Core.Path.{◌≡◌, refl, sym, ap, subst, ◌∙◌}
use mathlib.Core.List.{List, [], ◌∷◌, ◌++◌, append-nil}
use Prim.Native.Nat.{ℕ, ◌+◌, ◌≤◌}
use native.Mathlib.Omega.{arith}
use native.Mathlib.Nat.{add-zero}
use lib.ListN.{length}
use lib.Dec.{leb, eqb}
use borrow.Author.Tests.{le-leb, leb-true, eqb-true}
use Rattle.script.specs.declared.Fault.{Fault}
use Rattle.std.proofs.Common.{Option, None, Some}
use Rattle.std.proofs.Common.{Ok, Err}
use Rattle.command.specs.declared.Operands.{Operands}
use Rattle.command.specs.declared.Operands.TheVariants.{None as NoOperands, One, Two}
use mathlib.Core.Bool.{true, ◌&&◌}
use Rattle.command.specs.declared.Command.{Command}
use Rattle.command.specs.declared.Command.TheVariants.{OnPort, Cycles}
use Rattle.command.specs.declared.Call.TheVariants.{Read, Write, Wait, Line, Pins, Power, Inside}
use Rattle.command.specs.declared.Source.TheVariants.{System, Watch}
use Rattle.script.specs.Number.{Reads, finds, and_then, number_at}
use Rattle.script.specs.Encode.{encode}
use Rattle.command.specs.Command.{Row, kinds, look_up, operands_of, command_of, kind, operands, InRange}
use Rattle.script.specs.Command.{limited, operand_at, with_operands}
use Rattle.script.specs.Write.{encode_all, bytes}
use Rattle.script.specs.RoundTrip.{largest, Bytes, Stands, OperandsReadBack, Encodes, OperandsAreEncodings, CommandsReadBack, CommandsAreEncodings}
use mathlib.Mathlib.Data.Bool.Basic.{and_intro, and_elim_left, and_elim_right}
use Rattle.branches.proofs.Branches.{by_cond}
use Rattle.script.proofs.Numbers.{first_part, second_part, side_by_side, numbers_read_back, numbers_are_encodings}

-- ---- commands read back

module _ (s : List ℕ) (mid next k : ℕ) where
  none_back : operands_of k ≡ Some NoOperands → Stands [] s mid next → with_operands s k mid (operands_of k) ≡ finds (command_of k 0 0) next
  none_back e t = rw (e, t.end, add-zero)

  module _ (a m : ℕ) (ha : leb a m ≡ true) (hm : m ≤ largest) where
    -- an operand that stands at an offset
    operand_back : {from to : ℕ} → Stands (encode a) s from to → operand_at m s from ≡ finds a to
    operand_back {from} {to} t = ap (limited m) (numbers_read_back s from a to t (omega (arith, leb-true a m ha))) ∙ rw ha

    one_back : operands_of k ≡ Some (One m) → Stands (encode a ++ []) s mid next → with_operands s k mid (operands_of k) ≡ finds (command_of k a 0) next
    one_back e t =
        let u : Stands (encode a) s mid next = rw append-nil at t in
        rw e (ap (λ n. and_then n (λ a next. finds (command_of k a 0) next)) (operand_back u))

  two_back : (a b m n : ℕ) → (leb a m && leb b n) ≡ true → m ≤ largest → n ≤ largest → operands_of k ≡ Some (Two m n) → Stands (encode a ++ (encode b ++ [])) s mid next →
      with_operands s k mid (operands_of k) ≡ finds (command_of k a b) next
  two_back a b m n h hm hn e t =
      let u : Stands (encode b) s (mid + length (encode a)) next = rw append-nil at (second_part (encode a) (encode b ++ []) t) in
      rw e
      (ap (λ v. and_then v (λ a second. and_then (operand_at n s second) (λ b next. finds (command_of k a b) next)))
      (operand_back a m (and_elim_left (leb a m) (leb b n) h) hm (first_part (encode a) (encode b ++ []) t))
      ∙ ap (λ v. and_then v (λ b next. finds (command_of k a b) next)) (operand_back b n (and_elim_right (leb a m) (leb b n) h) hn u))

pub operands_read_back : OperandsReadBack
operands_read_back s mid next (OnPort (Read a)) t h = one_back s mid next 1 a 65535 h (omega arith) refl t
operands_read_back s mid next (OnPort (Write a v)) t h = two_back s mid next 2 a v 65535 255 h (omega arith) (omega arith) refl t
operands_read_back s mid next (OnPort (Wait n)) t h = one_back s mid next 3 n 65535 h (omega arith) refl t
operands_read_back s mid next (OnPort (Line l)) t h = one_back s mid next 4 l 1 h (omega arith) refl t
operands_read_back s mid next (OnPort (Pins c l)) t h = two_back s mid next 5 c l 1 1 h (omega arith) (omega arith) refl t
operands_read_back s mid next (OnPort (Power b)) t h = one_back s mid next 6 b 15 h (omega arith) refl t
operands_read_back s mid next (OnPort Inside) t h = none_back s mid next 7 refl t
operands_read_back s mid next (Cycles System n) t h = one_back s mid next 8 n 65535 h (omega arith) refl t
operands_read_back s mid next (Cycles Watch n) t h = one_back s mid next 9 n 65535 h (omega arith) refl t

pub kind_small : (c : Command) → kind c ≤ largest
kind_small (OnPort (Read a)) = omega arith
kind_small (OnPort (Write a v)) = omega arith
kind_small (OnPort (Wait n)) = omega arith
kind_small (OnPort (Line l)) = omega arith
kind_small (OnPort (Pins c l)) = omega arith
kind_small (OnPort (Power b)) = omega arith
kind_small (OnPort Inside) = omega arith
kind_small (Cycles System n) = omega arith
kind_small (Cycles Watch n) = omega arith

pub commands_read_back : CommandsReadBack
commands_read_back s at next c t h =
    let mid = at + length (encode (kind c)) in
    ap (λ n. and_then n (λ k next. with_operands s k next (operands_of k)))
    (numbers_read_back s at (kind c) mid (first_part (encode (kind c)) (encode_all (operands c)) t) (kind_small c))
    ∙ operands_read_back s mid next c (second_part (encode (kind c)) (encode_all (operands c)) t) h

-- ---- accepted commands are encodings

-- what holds where reading goes on, and of every fault, holds of the whole
pub and_then_with : {T U : Type 0} (P : Reads U → Type 0) (r : Reads T) (f : T → ℕ → Reads U) →
    ((v : T) (next : ℕ) → r ≡ finds v next → P (f v next)) → ((why : Fault) → P (Err why)) → P (and_then r f)
and_then_with P (Ok found) f p q = p found.value found.next refl
and_then_with P (Err why) f p q = q why

-- an operand that is accepted is a number that is accepted, and within its limit
pub operand_within : (m : ℕ) (n : Reads ℕ) (v next : ℕ) → limited m n ≡ finds v next → (n ≡ finds v next) × (v ≤ m)
operand_within m (Ok found) v next e =
    by_cond (λ r. r ≡ finds v next → (Ok found ≡ finds v next) × (v ≤ m)) (leb found.value m) _ _
    (λ t f. let g : found.value ≡ v = cc in (f, omega (arith, leb-true found.value m t)))
    (λ t f. let z : ◌≡◌ {A = ℕ} 0 1 = cc in absurd (omega arith))
    e
operand_within m (Err why) v next e = let z : ◌≡◌ {A = ℕ} 0 1 = cc in absurd (omega arith)

-- what holds of every row of a table, and of a kind that is in none, holds of every kind
abbrev EachRow : (ℕ → Option Operands → Type 0) → List Row → Type 0
EachRow P [] = Unit {0}
EachRow P (r ∷ rs) = P r.kind (Some r.operands) × EachRow P rs

by_row : (P : ℕ → Option Operands → Type 0) → ((k : ℕ) → P k None) → (rs : List Row) → EachRow P rs → (k : ℕ) → P k (look_up k rs)
by_row P u [] h k = u k
by_row P u (r ∷ rs) h k =
    by_cond (P k) (eqb k r.kind) _ _
    (λ t. subst (λ (j : ℕ). P j (Some r.operands)) (sym (eqb-true k r.kind t)) h.0)
    (λ t. by_row P u rs h.1 k)

abbrev Encoded : ℕ → List ℕ → ℕ → Reads Command → Type 0
Encoded k s mid (Ok found) = Encodes k s mid found.value found.next
Encoded k s mid (Err why) = Unit {0}

module _ (s : List ℕ) (good : Bytes s) (mid : ℕ) where
  -- the operands of a kind whose number ends at `mid`
  abbrev From : ℕ → Option Operands → Type 0
  From k o = Encoded k s mid (with_operands s k mid o)

  operand_stands : (m from v next : ℕ) → operand_at m s from ≡ finds v next → Stands (encode v) s from next × (v ≤ m)
  operand_stands m from v next e =
      let (f, h) = operand_within m (number_at s from) v next e in
      ((numbers_are_encodings s from v next good f).0, h)

  module _ (k : ℕ) (m : ℕ) where
    one_encoded : ((a : ℕ) → kind (command_of k a 0) ≡ k) → ((a : ℕ) → encode_all (operands (command_of k a 0)) ≡ encode a ++ []) →
        ((a : ℕ) → a ≤ m → InRange (command_of k a 0)) → From k (Some (One m))
    one_encoded j b r =
        and_then_with (Encoded k s mid) (operand_at m s mid) (λ a next. finds (command_of k a 0) next)
        (λ a next e.
        let (u, h) = operand_stands m mid a next e in
        record { of_kind = j a; stand = rw (b a, append-nil) u; within = r a h })
        (λ why. tt)

    two_encoded : (n : ℕ) → ((a b : ℕ) → kind (command_of k a b) ≡ k) → ((a b : ℕ) → encode_all (operands (command_of k a b)) ≡ encode a ++ (encode b ++ [])) →
        ((a b : ℕ) → a ≤ m → b ≤ n → InRange (command_of k a b)) → From k (Some (Two m n))
    two_encoded n j b r =
        and_then_with (Encoded k s mid) (operand_at m s mid) (λ x second. and_then (operand_at n s second) (λ y next. finds (command_of k x y) next))
        (λ x second e.
        let (u, h) = operand_stands m mid x second e in
        and_then_with (Encoded k s mid) (operand_at n s second) (λ y next. finds (command_of k x y) next)
        (λ y next f.
        let (w, g) = operand_stands n second y next f in
        record { of_kind = j x y; stand = rw (b x y, append-nil) (side_by_side (encode x) (encode y) u w); within = r x y h g })
        (λ why. tt))
        (λ why. tt)

  each_kind : EachRow From kinds
  each_kind = (
    one_encoded 1 65535 (λ a. refl) (λ a. refl) (λ a h. le-leb a _ h),
    (
      two_encoded 2 65535 255 (λ a b. refl) (λ a b. refl) (λ a b h g. and_intro (le-leb a _ h) (le-leb b _ g)),
      (
        one_encoded 3 65535 (λ a. refl) (λ a. refl) (λ a h. le-leb a _ h),
        (
          one_encoded 4 1 (λ a. refl) (λ a. refl) (λ a h. le-leb a _ h),
          (
            two_encoded 5 1 1 (λ a b. refl) (λ a b. refl) (λ a b h g. and_intro (le-leb a _ h) (le-leb b _ g)),
            (
              one_encoded 6 15 (λ a. refl) (λ a. refl) (λ a h. le-leb a _ h),
              (
                record { of_kind = refl; stand = record { there = refl; end = omega arith }; within = refl },
                (one_encoded 8 65535 (λ a. refl) (λ a. refl) (λ a h. le-leb a _ h), (one_encoded 9 65535 (λ a. refl) (λ a. refl) (λ a h. le-leb a _ h), tt)),
              ),
            ),
          ),
        ),
      ),
    ),
  )

pub operands_are_encodings : OperandsAreEncodings
operands_are_encodings s k mid next c good e =
    subst (Encoded k s mid) e (by_row (From s good mid) (λ j. tt) kinds (each_kind s good mid) k)

pub commands_are_encodings : CommandsAreEncodings
commands_are_encodings s at next c good e =
    and_then_with (λ d. d ≡ finds c next → Stands (bytes c) s at next × InRange c) (number_at s at) (λ k mid. with_operands s k mid (operands_of k))
    (λ k mid f g.
    let x = operands_are_encodings s k mid next c good g in
    let t : Stands (encode (kind c)) s at mid = rw x.of_kind (numbers_are_encodings s at k mid good f).0 in
    (side_by_side (encode (kind c)) (encode_all (operands c)) t x.stand, x.within))
    (λ why g. let z : ◌≡◌ {A = ℕ} 0 1 = cc in absurd (omega arith)) e
