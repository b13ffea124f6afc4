-- What `format_valid` and `word_valid` say (document 01, section "Frame"): exactly the formats that registers give, and exactly the words that
-- values give in them. Proved in proofs/Facts.antt, as `valid_formats` and `valid_words`.
-- Assumes nothing.
use Rattle.std.specs.Prelude.{ℕ, ◌<◌, ◌≡◌, true}
use Rattle.frame.specs.declared.Format.{Format}
use Rattle.frame.specs.Frame.{format, format_valid, word, word_valid}

-- the format of any registers is valid; a valid one is the format of some SMR and SEMR, each a byte
pub record ValidFormats : Type 0 where
  pub given : (smr semr : ℕ) → format_valid (format smr semr) ≡ true
  pub found : (f : Format) → format_valid f ≡ true → (smr : ℕ) × (semr : ℕ) × (smr < 256) × (semr < 256) × (format smr semr ≡ f)

-- the word of any value is valid; a valid one, in a valid format, is the word of some byte
pub record ValidWords : Type 0 where
  pub given : (f : Format) (v : ℕ) → word_valid f (word f v) ≡ true
  pub found : (f : Format) (w : ℕ) → format_valid f ≡ true → word_valid f w ≡ true → (v : ℕ) × (v < 256) × (word f v ≡ w)
