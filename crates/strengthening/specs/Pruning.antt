-- What one row tells of many choices, so that few are judged.
use Rattle.std.specs.Prelude.{ℕ, List}
use Rattle.words.specs.Words.{Word, Columns}
use Rattle.formulas.specs.declared.formula.Formula.{Formula}
use Rattle.formulas.specs.Names.{Among}
use Rattle.rows.specs.declared.rule.Layout.{Layout}
use Rattle.rows.specs.Rules.{Line}
use Rattle.rows.specs.Rows.{step}
use Rattle.keeping.specs.Kept.{OfRow, Starts}
use Rattle.strengthening.specs.Choices.{AllHold, KeptTogether}

-- claims are not kept together if one of them does not hold of a row of which the start does
abbrev pub StartRefutes : Type 0
StartRefutes =
    (s : Layout) (b : ℕ) (R : List Line) (start ds : List Formula) (d : Formula) (w : Word) → Columns b w → Starts b start w → Among d ds → (OfRow b d w → ⊥) →
    KeptTogether s b R start ds → ⊥

-- and if all of them hold of a row, and one does not of the row after it
abbrev pub StepRefutes : Type 0
StepRefutes =
    (s : Layout) (b : ℕ) (R : List Line) (start ds : List Formula) (d : Formula) (w : Word) → Columns b w → AllHold b ds w → Among d ds → (OfRow b d (step s b R w) → ⊥) →
    KeptTogether s b R start ds → ⊥
