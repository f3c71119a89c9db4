-- What is found of the claims that are made of a row claim, said of rows.
use Rattle.std.proofs.Common.{◌≡◌, ℕ, zero, suc, ◌^◌, ◌<◌, ◌≤◌, true, false, ◌⊎◌, List, [], ◌∷◌, length, take, sym, refl, ap, ◌∙◌, subst, inl, inr, arith, pow_mono, lt→ltb}
use Rattle.words.specs.Words.{Word, sets, Columns}
use Rattle.claims.specs.Claims.{C, Of}
use Rattle.claims.specs.Rows.{Claim}
use Rattle.claims.specs.Sizes.{Fits}
use Rattle.claims.proofs.OneClaim.{one_claim}
use Rattle.rows.specs.RowClaims.{marked, First, Tells, Gives, below, same_number, is_row}
use Rattle.rows.proofs.Bools.{bool_apart}
use Rattle.lengths.specs.Answer.{First as FirstOf}
use Rattle.row_claims.specs.Meaning.{RowClaim, OfRow}
use Rattle.row_claims.specs.Reading.{further, further_sets, row_with, row_without}
use Rattle.row_claims.specs.Laws.{RowTold}
use Rattle.row_claims.proofs.Told.{row_tells, row_decided}
use Rattle.row_judge.specs.Made.{Asked, bytes_of}
use Rattle.row_judge.specs.Finding.{NotAll, FindsFirst}
use Rattle.row_judge.specs.Says.{BothFit, NeitherFits}
use Rattle.row_judge.specs.declared.made.Rows.TheVariants.{With, Without}
use Rattle.row_judge.specs.declared.finding.FirstWord.TheVariants.{Nothing, Long, TooLarge}
use Rattle.row_judge.proofs.ModulesLaws.{marked_length}
use Rattle.row_judge.proofs.CallLaws.{Numbers, numbers, with_claim, without_claim, fits_not, fits_claim}

-- the word of the one column 1 is no row: set 0 has its place, and set b has not
no_row : (b : ℕ) → 1 ≤ b → (w : Word) → Gives b (below b) same_number (sets (1 ∷ [])) w → ⊥
no_row b h [] g = bool_apart (let e : sets (1 ∷ []) 0 0 ≡ true = refl in e) (g.bits 0 0 (lt→ltb 0 b h))
no_row b h (a ∷ w) g = bool_apart ((g.places 0).1 (omega arith)) (none b h)
  where
    none : (b : ℕ) → 1 ≤ b → sets (1 ∷ []) b 0 ≡ false
    none zero h = let z : ⊥ = omega arith in absurd z
    none (suc b) h = zeros b
      where
        zeros : (b : ℕ) → sets (0 ∷ []) b 0 ≡ false
        zeros zero = refl
        zeros (suc b) = zeros b

-- so a claim that tells of rows does not hold of every word
not_every : (b m : ℕ) (d : C) (P : Word → Type 0) → 1 ≤ b → b < m → Tells b d P → ((w : Word) → Columns m w → Of d w) → ⊥
not_every b m d P h l t all =
    let one : Columns m (1 ∷ []) = (let p : 2 ^ 1 ≤ 2 ^ m = pow_mono (let z : 1 ≤ m = omega arith in z) in omega arith, tt) in
    let (w, hw, g, p) = (t.of_sets (1 ∷ [])).0 (all (1 ∷ []) one) in
    no_row b h w g

-- of the one claim that bytes are, so of every one
no_other_all : (s : List ℕ) (m : ℕ) (d : C) → Claim s m d → (((w : Word) → Columns m w → Of d w) → ⊥) → NotAll s
no_other_all s m d y n l e z all =
    let (i, j) = one_claim s m l d e y z in
    n (subst (λ m. (w : Word) → Columns m w → Of d w) (sym i) (subst (λ d. (w : Word) → Columns l w → Of d w) (sym j) all))

-- the first word of a claim that tells of rows is the first row, marked
pub record FirstRow (b : ℕ) (P : Word → Type 0) (a : ℕ) (o : List ℕ) : Type 0 where
  pub row : Word
  pub stands : take a o ≡ marked b row
  pub first : First b P row
  pub long : a ≡ length row

first_row : (b m a : ℕ) (d : C) (P : Word → Type 0) (o : List ℕ) → b < m → Tells b d P → FirstOf m d (take a o) → a ≡ length (take a o) → FirstRow b P a o
first_row b m a d P o l t f e =
    let (w, i, g) = t.first m l (take a o) (record { columns = f.columns; holds = f.holds; first = f.first }) in
    record { row = w; stands = i; first = g; long = e ∙ (ap length i ∙ marked_length b w) }

module _ (s : List ℕ) (k : ℕ) (c : RowClaim) (a : Asked s k c) where
  nums : Numbers s k c
  nums = numbers s k c a.says

  told : RowTold k c
  told = row_tells k c nums.low nums.sets

  pub with_not_all : NotAll (bytes_of With k c)
  with_not_all = no_other_all (bytes_of With k c) (further_sets k) (row_with k c) (with_claim s k c a) (not_every k (further_sets k) (row_with k c) (OfRow c) nums.low nums.above told.with)

  pub without_not_all : NotAll (bytes_of Without k c)
  without_not_all = no_other_all (bytes_of Without k c) (further_sets k) (row_without k c) (without_claim s k c a) (not_every k (further_sets k) (row_without k c) (λ w. OfRow c w → ⊥) nums.low nums.above told.without)

  module _ (n : ℕ) where
    pub both_fit : Fits (further_sets k) n (row_with k c) → BothFit k n c
    both_fit f = (f, fits_not (further_sets k) n (is_row k) (further k c) f)

    pub neither_fits : (Fits (further_sets k) n (row_with k c) → ⊥) → NeitherFits k n c
    neither_fits f = (f, λ g. f (fits_claim (further_sets k) n (is_row k) (further k c) g))

    module _ (o : List ℕ) where
      pub found_never : FindsFirst (bytes_of With k c) n o Nothing → BothFit k n c × ((w : Word) → Columns k w → OfRow c w → ⊥)
      found_never f =
          let (g, none) = f (further_sets k) (row_with k c) (with_claim s k c a) in
          (both_fit g, told.with.never (further_sets k) nums.above none)

      pub found_many : FindsFirst (bytes_of With k c) n o TooLarge → NeitherFits k n c
      found_many f = neither_fits (f (further_sets k) (row_with k c) (with_claim s k c a))

      pub found_with : (p : ℕ) → FindsFirst (bytes_of With k c) n o (Long p) → BothFit k n c × FirstRow k (OfRow c) p o × (p < n)
      found_with p f =
          let (g, i, e, l) = f (further_sets k) (row_with k c) (with_claim s k c a) in
          (both_fit g, first_row k (further_sets k) p (row_with k c) (OfRow c) o nums.above told.with i e, l)

      pub found_always : FindsFirst (bytes_of Without k c) n o Nothing → (w : Word) → Columns k w → OfRow c w
      found_always f w h =
          let (g, none) = f (further_sets k) (row_without k c) (without_claim s k c a) in
          sure (row_decided k c w nums.low nums.sets h) (told.without.never (further_sets k) nums.above none w h)
        where
          sure : OfRow c w ⊎ (OfRow c w → ⊥) → ((OfRow c w → ⊥) → ⊥) → OfRow c w
          sure (inl p) n = p
          sure (inr q) n = absurd (n q)

      pub found_not_many : BothFit k n c → FindsFirst (bytes_of Without k c) n o TooLarge → ⊥
      found_not_many b f = f (further_sets k) (row_without k c) (without_claim s k c a) b.1

      pub found_without : (p : ℕ) → FindsFirst (bytes_of Without k c) n o (Long p) → FirstRow k (λ w. OfRow c w → ⊥) p o × (p < n)
      found_without p f =
          let (g, i, e, l) = f (further_sets k) (row_without k c) (without_claim s k c a) in
          (first_row k (further_sets k) p (row_without k c) (λ w. OfRow c w → ⊥) o nums.above told.without i e, l)
