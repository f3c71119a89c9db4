-- What is proved of a claim that is kept together with others.
use Rattle.std.specs.Prelude.{◌≡◌, ℕ, List}
use Rattle.words.specs.Words.{Word, Columns}
use Rattle.formulas.specs.declared.formula.Formula.{Formula}
use Rattle.rows.specs.declared.rule.Layout.{Layout}
use Rattle.rows.specs.Rules.{Line}
use Rattle.keeping.specs.Kept.{OfRow, Run, Starts}
use Rattle.strengthening.specs.Choices.{KeptWith, Fewest}

-- there is at most one answer
abbrev pub OneFewest : Type 0
OneFewest =
    (s : Layout) (b : ℕ) (R : List Line) (start : List Formula) (c : Formula) (qs : List Formula) (is js : List ℕ) →
    Fewest s b R start c qs is → Fewest s b R start c qs js → is ≡ js

-- a claim that is kept with others holds at every time of every run from a row of which the start holds
abbrev pub HelpedAlways : Type 0
HelpedAlways =
    (s : Layout) (b : ℕ) (R : List Line) (start : List Formula) (c : Formula) (qs : List Formula) (is : List ℕ) → KeptWith s b R start c qs is →
    (rows : ℕ → Word) → Run s b R rows → Columns b (rows 0) → Starts b start (rows 0) → (t : ℕ) → OfRow b c (rows t)
