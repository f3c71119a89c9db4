-- What marks say of a row, and a row and the row after it of a choice.
use Rattle.std.proofs.Common.{◌≡◌, ℕ, zero, suc, ◌<◌, ◌≤◌, List, [], ◌∷◌, length, slice_index_or, subst, arith}
use Rattle.words.specs.Words.{Word, Columns}
use Rattle.keeping.specs.Kept.{OfRow}
use Rattle.strengthening.specs.Choices.{AllHold, chosen}
use Rattle.strengthen.specs.Listed.{KeptWith, claim_at}
use Rattle.strengthen.specs.Marks.{AreMarks, IsMark, IsRefutation}
use Rattle.strengthen.specs.declared.listed.Listed.{Listed}
use Rattle.strengthen.specs.declared.marks.Mark.{Mark}
use Rattle.strengthen.specs.declared.marks.Mark.TheVariants as mark
use Rattle.strengthen.specs.declared.refutation.Refutation.{Refutation}

module _ (g : Listed) (w : Word) (ms : List Mark) (a : AreMarks g w ms) (j : ℕ) (h : j ≤ length g.helpers.now) where
  pub marked_holds : slice_index_or ms j mark.Unknown ≡ mark.Holds → OfRow g.keeping.now.rule.now.bits (claim_at g j) w
  marked_holds e = subst (IsMark g.keeping.now.rule.now.bits (claim_at g j) w) e (a.each j h)

  pub marked_fails : slice_index_or ms j mark.Unknown ≡ mark.Fails → OfRow g.keeping.now.rule.now.bits (claim_at g j) w → ⊥
  marked_fails e = subst (IsMark g.keeping.now.rule.now.bits (claim_at g j) w) e (a.each j h)
