-- What is found of parts of a claim says of the rows that show that they are not kept.
use Rattle.std.specs.Prelude.{◌≡◌, ℕ, suc, ◌+◌, ◌⊎◌, List, [], ◌∷◌}
use Rattle.words.specs.Words.{Word, Columns}
use Rattle.words.specs.Order.{Leq}
use Rattle.claims.specs.Encoded.{sets_needed, Refused}
use Rattle.claims.specs.declared.encode.Refusal.TheVariants.{TooManyBytes, TooManySets}
use Rattle.formulas.specs.declared.formula.Formula.{Formula}
use Rattle.rows.specs.RowClaims.{First as FirstRow}
use Rattle.keeping.specs.declared.moment.Moment.{Moment}
use Rattle.rule_check.specs.Told.{Answered, TooManyIn}
use Rattle.rule_check.specs.declared.verdict.Verdict.{Verdict}
use Rattle.rule_check.specs.declared.memory.Memory.{Memory}
use Rattle.kept_claims.specs.declared.kept.Keeping.{Keeping}
use Rattle.kept_claims.specs.Breach.{Breaks, Broken, claim_of}
use Rattle.kept_check.specs.Parts.{BrokenAny, BreaksAny}
use Rattle.kept_check.specs.declared.answer.Large.{Large}
use Rattle.kept_check.specs.declared.answer.Large.TheVariants.{Classes, Bytes, Sets}
use Rattle.kept_check.specs.declared.answer.TooLarge.{TooLarge}
use Rattle.kept_check.specs.declared.found.Found.{Found}
use Rattle.kept_check.specs.declared.found.Found.TheVariants as found

-- the claim that tells of the rows that show at moment m that d does not follow is too large
abbrev pub IsLarge : Keeping → Memory → Formula → Moment → Large → Type 0
IsLarge k y d m (Classes n) =
    TooManyIn y.words (sets_needed (suc k.rule.now.bits) (claim_of k d m)) (claim_of k d m) y.most n
IsLarge k y d m (Bytes n) = Refused (suc k.rule.now.bits) (claim_of k d m) (TooManyBytes n)
IsLarge k y d m (Sets n) = Refused (suc k.rule.now.bits) (claim_of k d m) (TooManySets n)

-- the answer on the rows that show at moment m that d does not follow
abbrev pub IsAnswered : Keeping → Memory → Formula → Moment → Verdict → Type 0
IsAnswered k y d m v = Answered y.words k.rule.now.bits (Breaks k d m) (claim_of k d m) y.most v

-- one of the parts, the first of which has number n
abbrev pub LargeIn : Keeping → Memory → List Formula → ℕ → TooLarge → Type 0
LargeIn k y [] n t = ⊥
LargeIn k y (d ∷ ds) n t = ((t.part ≡ n) × IsLarge k y d t.moment t.why) ⊎ LargeIn k y ds (n + 1) t

-- no row of modules of b bits has property P; this one has it first, and M at that moment; or what is too large is as L says
abbrev pub FoundOf : ℕ → (Word → Type 0) → (Moment → Word → Type 0) → (TooLarge → Type 0) → Found → Type 0
FoundOf b P M L found.Nothing = (w : Word) → Columns b w → P w → ⊥
FoundOf b P M L (found.First m r) = FirstRow b P r.items × M m r.items
FoundOf b P M L (found.TooLarge t) = L t

-- what is found at one moment of the part with number n
abbrev pub AtMoment : Keeping → Memory → Formula → ℕ → Moment → Found → Type 0
AtMoment k y d n m f = FoundOf k.rule.now.bits (Breaks k d m) (Breaks k d) (λ t. (t.part ≡ n) × IsLarge k y d t.moment t.why) f

-- at both
abbrev pub OfPart : Keeping → Memory → Formula → ℕ → Found → Type 0
OfPart k y d n f = FoundOf k.rule.now.bits (Broken k d) (Breaks k d) (λ t. (t.part ≡ n) × IsLarge k y d t.moment t.why) f

-- of the parts, the first of which has number n
abbrev pub OfParts : Keeping → Memory → List Formula → ℕ → Found → Type 0
OfParts k y ds n f = FoundOf k.rule.now.bits (BrokenAny k ds) (BreaksAny k ds) (LargeIn k y ds n) f

-- the first of two rows, where nothing is too large; of two that are too large the first
abbrev pub Earlier : Found → Found → Found → Type 0
Earlier (found.TooLarge t) y z = z ≡ found.TooLarge t
Earlier found.Nothing y z = z ≡ y
Earlier (found.First m u) found.Nothing z = z ≡ found.First m u
Earlier (found.First m u) (found.TooLarge t) z = z ≡ found.TooLarge t
Earlier (found.First m u) (found.First l w) z = ((z ≡ found.First m u) × Leq u.items w.items) ⊎ ((z ≡ found.First l w) × Leq w.items u.items)
