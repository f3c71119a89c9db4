-- What is found of the bytes of a formula's claim is found of the formula.
use Rattle.std.proofs.Common.{ℕ, ◌^◌, ◌≤◌, List, [], ◌∷◌, length, arith}
use Rattle.std.proofs.Math.Pow.{pow_mono}
use Rattle.words.specs.Words.{Word, Columns}
use Rattle.formulas.specs.declared.name.Name.{Name}
use Rattle.formulas.specs.declared.formula.Formula.{Formula}
use Rattle.formula_claims.specs.Claimed.{Claimed, whole, sets_needed}
use Rattle.first_word.specs.declared.first_word.Found.{Found}
use Rattle.first_word.specs.declared.first_word.Found.TheVariants.{Nothing, First, TooLarge}
use Rattle.first_word.specs.Finding.{Finds}
use Rattle.solve.specs.Telling.{Tells}

pub columns_wider : (j k : ℕ) (w : Word) → j ≤ k → Columns j w → Columns k w
columns_wider j k [] le h = tt
columns_wider j k (c ∷ w) le h = let p : 2 ^ j ≤ 2 ^ k = pow_mono le in (omega (arith, h), columns_wider j k w le h.1)

pub tells : (s : List ℕ) (n : ℕ) (found : Found) → Finds s n found → (l : List Name) (a : Formula) → Claimed l a s → Tells l a n found
tells s n (First w) f l a c =
    let found = f (sets_needed l a) (whole l a) c.claim in
    (found.0, found.1.columns, ((c.says w.items).0 found.1.holds, λ u columns less h. found.1.first u columns less ((c.says u).1 h)))
tells s n Nothing f l a c =
    let found = f (sets_needed l a) (whole l a) c.claim in (
      found.0,
      λ e m. let word = c.chosen e in
          found.1 word.0 (columns_wider (length l) (sets_needed l a) word.0 (omega arith) word.1.columns) (word.2.1 m),
    )
tells s n TooLarge f l a c = f (sets_needed l a) (whole l a) c.claim
