-- Whether a claim follows at one moment: from the start, or by a step from what is to be kept.
use Rattle.std.specs.Prelude.{ℕ, List}
use Rattle.words.specs.Words.{Word, Columns}
use Rattle.formulas.specs.declared.formula.Formula.{Formula}
use Rattle.keeping.specs.declared.moment.Moment.{Moment}
use Rattle.kept_claims.specs.Breach.{Breaks}
use Rattle.kept_claims.specs.declared.kept.Keeping.{Keeping}
use Rattle.kept_check.specs.Parts.{BreaksAny}
use Rattle.strengthen.specs.declared.follow.Followed.{Followed}
use Rattle.strengthen.specs.declared.follow.Followed.TheVariants as followed

-- no row of modules of b bits shows that it does not, or this one does
abbrev pub FollowedOf : ℕ → (Word → Type 0) → Followed → Type 0
FollowedOf b P followed.Always = (w : Word) → Columns b w → P w → ⊥
FollowedOf b P (followed.Not r) = Columns b r.items × P r.items
FollowedOf b P followed.TooLarge = Unit {0}

abbrev pub AllFollow : Keeping → List Formula → Moment → Followed → Type 0
AllFollow k ds m f = FollowedOf k.rule.now.bits (BreaksAny k ds m) f

abbrev pub Follows : Keeping → Formula → Moment → Followed → Type 0
Follows k d m f = FollowedOf k.rule.now.bits (Breaks k d m) f
