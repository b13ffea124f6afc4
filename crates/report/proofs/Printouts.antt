-- The lines of records one after the other, and the whole text of a run.
-- Assumes nothing.
use mathlib.Core.Path.{◌≡◌, refl, sym, ap, ◌∙◌, subst}
use mathlib.Core.List.{List, [], ◌∷◌, ◌++◌}
use Prim.Native.Nat.{ℕ, zero, suc, ◌+◌, ◌-◌, ◌*◌, ◌/◌, ◌%◌, ◌≤◌, ◌<◌}
use native.Mathlib.Omega.{arith}
use mathlib.Core.Bool.{false, cond}
use lib.Dec.{eqb, ltb}
use lib.ListN.{length, drop, take, get_or, replicate, length-replicate}
use lib.Seq.{length-take-le}
use borrow.Author.Tests.{lt-ltb, le-ltb, ltb-true}
use Rattle.std.specs.List.{All, flat_map}
use Rattle.std.specs.Simd.{first_chunks}
use Rattle.std.specs.Str.{IsUtf8}
use Rattle.std.proofs.lemmas.List.Elements.{All-cons, All-nil}
use Rattle.std.proofs.lemmas.Str.{IsUtf8-from_ascii}
use Rattle.std.proofs.lemmas.Str.Ascii.{IsAscii-from_all}
use Rattle.std.proofs.lemmas.List.{get_or-take, take_more, flat_map_more, drop-take}
use Rattle.sci.specs.declared.Sci.{Sci}
use Rattle.sci.specs.Calls.{fresh}
use Rattle.machine.specs.Machine.{Run}
use Rattle.script.specs.declared.Fault.TheVariants.{Short, Number, Kind, Operand}
use Rattle.port.specs.declared.Refusal.TheVariants as port
use Rattle.sci.specs.declared.Refusal.TheVariants.{OfPort, Total}
use Rattle.player.specs.declared.Reason.{Reason}
use Rattle.player.specs.declared.Reason.TheVariants.{Unread, Call, Full}
use Rattle.player.specs.declared.Refused.{Refused}
use Rattle.player.specs.declared.Played.{Played}
use Rattle.player.specs.Play.{Progress, record_length, reason_number, end_number, end_offset, ran, play}
use Rattle.player.proofs.Used.{within}
use Rattle.branches.proofs.Branches.{by_cond, both_arms}
use Rattle.text.specs.Text.{hex_digit}
use Rattle.report.specs.Lines.{bit, level, cause, refused_line}
use Rattle.report.specs.Printout.{first_line, record_lines, last_line, longest, log_length, too_long, printout}

-- ---- a line

-- each byte of a line is ASCII

hex_ascii : (n : ℕ) → hex_digit n < 128
hex_ascii n =
    by_cond (λ d. d < 128) (ltb n 10) (48 + n) (cond (ltb n 16) (55 + n) 63)
    (λ e. omega (arith, ltb-true n 10 e))
    (λ e. by_cond (λ d. d < 128) (ltb n 16) (55 + n) 63 (λ f. omega (arith, ltb-true n 16 f)) (λ f. omega arith))

bit_ascii : (n : ℕ) → bit n < 128
bit_ascii n = both_arms (λ d. d < 128) (eqb n 0) 48 (cond (eqb n 1) 49 63) (omega arith) (both_arms (λ d. d < 128) (eqb n 1) 49 63 (omega arith) (omega arith))

level_ascii : (n : ℕ) → level n < 128
level_ascii n = both_arms (λ d. d < 128) (eqb n 2) 45 (bit n) (omega arith) (bit_ascii n)

cause_ascii : (n : ℕ) → cause n < 128
cause_ascii n = by_cond (λ d. d < 128) (ltb n 9) (48 + n) 63 (λ e. omega (arith, ltb-true n 9 e)) (λ e. omega arith)

Ascii : List ℕ → Type 0
Ascii [] = Unit {0}
Ascii (b ∷ bytes) = (b < 128) × Ascii bytes

all_ascii : (bytes : List ℕ) → Ascii bytes → All (λ b. b < 128) bytes
unfolding Ascii
all_ascii [] h = All-nil (λ b. b < 128)
all_ascii (b ∷ bytes) (h, hs) = All-cons (λ b. b < 128) b bytes h (all_ascii bytes hs)

line_ascii : (log : List ℕ) → Ascii (first_line log)
unfolding Ascii
line_ascii log =
    let space : 32 < 128 = omega arith in
    let newline : 10 < 128 = omega arith in
    (hex_ascii (get_or log 0 0), (space, (hex_ascii (get_or log 1 0 / 16), (hex_ascii (get_or log 1 0 % 16), (space, (hex_ascii (get_or log 2 0 / 16), (hex_ascii (get_or log 2 0 % 16), (space, (level_ascii (get_or log 3 0), (space, (bit_ascii (get_or log 4 0), (space, (cause_ascii (get_or log 5 0), (newline, tt))))))))))))))

pub line_text : (bytes log : List ℕ) → bytes ≡ first_line log → IsUtf8 bytes
line_text bytes log e = subst IsUtf8 (sym e) (IsUtf8-from_ascii (first_line log) (IsAscii-from_all (first_line log) (all_ascii (first_line log) (line_ascii log))))

-- ---- the loop over records

pub lines_long : (records : List (List ℕ)) → length (flat_map first_line records) ≡ 14 * length records
lines_long [] = refl
lines_long (x ∷ records) = omega (arith, lines_long records)

pub first_lines_long : (records : List (List ℕ)) (i : ℕ) → i ≤ length records → length (flat_map first_line (take i records)) ≡ 14 * i
first_lines_long records i h = lines_long (take i records) ∙ ap (λ n. 14 * n) (length-take-le i records h)

pub one_more : (before : List ℕ) (records : List (List ℕ)) (i : ℕ) → i < length records →
    (before ++ flat_map first_line (take i records)) ++ first_line (get_or records i []) ≡ before ++ flat_map first_line (take (i + 1) records)
one_more before records i h =
    flat_map_more first_line before (take i records) (get_or records i []) ∙ ap (λ l. before ++ flat_map first_line l) (sym (take_more records i [] h))

-- ---- the records of a log

-- a line is made of its record alone
of_record : (n : ℕ) (log : List ℕ) → record_length ≤ n → first_line (take n log) ≡ first_line log
of_record n log h =
    rw (get_or-take n log 0 0 (omega arith), get_or-take n log 1 0 (omega arith), get_or-take n log 2 0 (omega arith), get_or-take n log 3 0 (omega arith), get_or-take n log 4 0 (omega arith), get_or-take n log 5 0 (omega arith))

-- the lines of the records that lie within the first n bytes
pub lines_of : (k n : ℕ) (log : List ℕ) → record_length * k ≤ n → flat_map first_line (first_chunks record_length k (take n log)) ≡ record_lines k log
lines_of zero n log h = refl
lines_of (suc k) n log h =
    let rest : record_length + (n - record_length) ≡ n = omega arith in
    let dropped : drop record_length (take n log) ≡ take (n - record_length) (drop record_length log) =
    ap (λ m. drop record_length (take m log)) (sym rest) ∙ drop-take record_length (n - record_length) log in
    let first = of_record record_length (take n log) (omega arith) ∙ of_record n log (omega arith) in
    ap (λ (l : List ℕ). l ++ flat_map first_line (first_chunks record_length k (drop record_length (take n log)))) first
    ∙ ap (λ (l : List ℕ). first_line log ++ l)
    (ap (λ (l : List ℕ). flat_map first_line (first_chunks record_length k l)) dropped ∙ lines_of k (n - record_length) (drop record_length log) (omega arith))

-- ---- the last line

-- no refusal is 0
reason_some : (r : Reason) → eqb (reason_number r) 0 ≡ false
reason_some (Unread Short) = refl
reason_some (Unread Number) = refl
reason_some (Unread Kind) = refl
reason_some (Unread Operand) = refl
reason_some (Call (OfPort port.Address)) = refl
reason_some (Call (OfPort port.Operand)) = refl
reason_some (Call (OfPort port.Infrared)) = refl
reason_some (Call (OfPort port.Count)) = refl
reason_some (Call (OfPort port.State)) = refl
reason_some (Call Total) = refl
reason_some Full = refl

pub refusal_last : (r : Refused) (length : ℕ) → refused_line (reason_number r.reason) r.offset ≡ last_line (reason_number r.reason) r.offset length
refusal_last r length = rw reason_some

-- ---- the whole text

pub too_long_text : (script : List ℕ) → longest < length script → too_long ≡ printout script
unfolding printout
too_long_text script h = rw (lt-ltb longest (length script) h)

module _ (script log : List ℕ) (p : Sci) (x : Played) (run : ran x log ≡ play p script (replicate log_length 0)) where
  pub used_within : x.used ≤ log_length
  used_within = let w = within p script (replicate log_length 0) in omega (arith, ap (λ (r : Run Progress). r.used) run, w.used, length-replicate {A = ℕ} log_length 0)

  -- how many bytes of the log are used
  pub part_long : length log ≡ log_length → length (take x.used log) ≡ x.used
  part_long h = length-take-le x.used log (omega (arith, used_within))

  pub run_printed : p ≡ fresh → length log ≡ log_length → length script ≤ longest →
      flat_map first_line (first_chunks record_length (length (take x.used log) / record_length) (take x.used log))
      ++ last_line (end_number x.end) (end_offset x.end) x.length
      ≡ printout script
  unfolding printout
  run_printed e h s =
      let part = part_long h in
      rw (le-ltb longest (length script) s, ← e, ← run, lines_of (length (take x.used log) / record_length) x.used log (omega arith), part)
