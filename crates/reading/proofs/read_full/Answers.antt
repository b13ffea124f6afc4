-- What a turn reads stands after what was read before it.
use Rattle.std.proofs.Common.{◌≡◌, ℕ, ◌+◌, ◌-◌, ◌≤◌, List, ◌++◌, rules, length, take, drop, ap, ◌∙◌, le_refl, drop_at, length-take-le}
use Rattle.std.proofs.lemmas.Slice.{take-put_mid_below}
use Rattle.std.proofs.KnownBytes.{Consumes-trans}
use borrow.Rule.Slice.PartMut.{put_mid, post_of}
use lib.Seq.{take-add, take-append-le}
use Rattle.reading.proofs.read_full.Goals as goal

-- the front of a buffer, after n bytes of the part from a on were read
front : (a n : ℕ) (buf part : List ℕ) → a ≤ length buf → n ≤ length part → take (a + n) (put_mid a (length buf - a) buf part) ≡ take a buf ++ take n part
front a n buf part within fits =
    let after = post_of a (length buf - a) buf in
    take-add a n (put_mid a (length buf - a) buf part)
    ∙ ap (λ l. l ++ take n (drop a (put_mid a (length buf - a) buf part))) (take-put_mid_below _ _ _ _ _ (le_refl _) within)
    ∙ ap (λ l. take a buf ++ l) (ap (take n) (drop_at (take a buf) (part ++ after) a (length-take-le a buf within)) ∙ take-append-le n part after fits)

pub loop-filled-preserved : goal.loop-filled-preserved
loop-filled-preserved g c = record {
  within = search rules;
  bytes =
      rw (front c.loop-filled.filled c.in-Ok.more c.loop-filled.buf c.read.new.buf c.loop-filled.invariant.within (search rules))
      (Consumes-trans _ _ _ _ _ c.loop-filled.invariant.bytes c.in-Ok.ensures.bytes.0);
}
