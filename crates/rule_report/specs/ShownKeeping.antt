-- How the claims are shown that tell whether something is kept.
use Rattle.std.specs.Prelude.{◌≡◌, ℕ, suc, ◌+◌, true, false, List, [], ◌∷◌, ◌++◌, codes}
use Rattle.std.specs.Fmt.{decimal}
use Rattle.formulas.specs.declared.formula.Formula.{Formula}
use Rattle.kept_claims.specs.Breach.{claim_of}
use Rattle.kept_claims.specs.declared.kept.Keeping.{Keeping}
use Rattle.keeping.specs.declared.moment.Moment.{Moment}
use Rattle.keeping.specs.declared.moment.Moment.TheVariants.{Start, Step}
use Rattle.kept_check.specs.Parts.{parts}
use Rattle.rule_report.specs.declared.options.Options.{Options}
use Rattle.rule_report.specs.ShownClaim.{IsShownAs}

-- the line before a claim
abbrev pub heading : ℕ → Moment → List ℕ
heading n Start = codes "    part " ++ (decimal n ++ codes ", at the start:\n")
heading n Step = codes "    part " ++ (decimal n ++ codes ", in a step:\n")

-- the claim about part d with number n
pub record IsShownAt (o : Options) (k : Keeping) (d : Formula) (n : ℕ) (m : Moment) (words : List ℕ) : Type 0 where
  pub claim : List ℕ
  pub shown : IsShownAs o (suc k.rule.now.bits) (claim_of k d m) claim
  pub words_are : words ≡ heading n m ++ claim

-- both claims about each of the parts, the first of which has number n
abbrev pub AreShown : Options → Keeping → List Formula → ℕ → List ℕ → Type 0
AreShown o k [] n words = words ≡ []
AreShown o k (d ∷ ds) n words =
    (u : List ℕ) × (v : List ℕ) × (w : List ℕ) × IsShownAt o k d n Start u × IsShownAt o k d n Step v × AreShown o k ds (n + 1) w × (words ≡ u ++ (v ++ w))

-- they are shown where texts or bytes of claims are wanted
pub record IsShown (o : Options) (k : Keeping) (words : List ℕ) : Type 0 where
  pub unwanted : o.show ≡ false → o.bytes ≡ false → words ≡ []
  pub show : o.show ≡ true → AreShown o k (parts k.claim.value) 1 words
  pub bytes : o.bytes ≡ true → AreShown o k (parts k.claim.value) 1 words
