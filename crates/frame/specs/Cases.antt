-- The proved cases of document 01, section "Frame", as one table, and the theorem that every row of it holds.
-- Assumes nothing.
use Rattle.std.specs.Prelude.{ℕ, zero, suc, ◌<◌, ◌≡◌, refl, Bool, true, false, ◌&&◌, List, [], ◌∷◌, eqb, length, get_or}
use Rattle.std.proofs.lemmas.Bool.{false≢true}
use Rattle.std.proofs.Common.{le_of_suc-le-suc, not-suc-le-zero, eqb-true}
use Rattle.frame.specs.Frame.{format, word, frame, parity_cell, bits, number, ones}

-- SMR, a value, and the word that it has with SEMR 0
pub record Case : Type 0 where
  pub smr : ℕ
  pub value : ℕ
  pub gives : ℕ

abbrev row : ℕ → ℕ → ℕ → Case
row s v w = record { smr = s; value = v; gives = w }

abbrev pub cases : List Case
cases =
    row 0x00 0x55 0x2AA ∷ row 0x20 0x01 0x602 ∷ row 0x30 0x01 0x402 ∷ row 0x24 0xFF 0x7E ∷ row 0x64 0xFF 0xFE
    ∷ row 0x48 0x80 0x300 ∷ row 0x80 0xA5 0xA5 ∷ []

-- the row of the table with this number
abbrev pub case : ℕ → Case
case i = get_or cases i (row 0 0 0)

right : Case → Bool
right k = eqb (word (format k.smr 0) k.value) k.gives

every : List Case → Bool
every [] = true
every (k ∷ ks) = right k && every ks

both : (a b : Bool) → (a && b) ≡ true → (a ≡ true) × (b ≡ true)
both true b t = (refl, t)
both false b t = absurd (false≢true t)

at : (d : Case) (ks : List Case) → every ks ≡ true → (i : ℕ) → i < length ks → right (get_or ks i d) ≡ true
unfolding every
at d [] t i h = absurd (not-suc-le-zero h)
at d (k ∷ ks) t zero h = (both (right k) (every ks) t).0
at d (k ∷ ks) t (suc i) h = at d ks (both (right k) (every ks) t).1 i (le_of_suc-le-suc h)

-- every row holds: the test over the table is computed
pub each_case : (i : ℕ) → i < length cases → word (format (case i).smr 0) (case i).value ≡ (case i).gives
unfolding right every format word frame parity_cell bits number ones
each_case i h = eqb-true _ _ (at (row 0 0 0) cases refl i h)
