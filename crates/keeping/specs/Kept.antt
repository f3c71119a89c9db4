-- What a step keeps, of rows of modules of b bits that lie so. A formula is about the row with its ends, or about the ring: its names are those of the bits and of the row's places.
use Rattle.std.specs.Prelude.{◌≡◌, ℕ, suc, ◌⊎◌, List}
use Rattle.words.specs.Words.{Word, Columns}
use Rattle.formulas.specs.declared.formula.Formula.{Formula}
use Rattle.formulas.specs.Meaning.{Meaning}
use Rattle.rows.specs.declared.rule.Layout.{Layout}
use Rattle.rows.specs.Limits.{row_env, AllMean}
use Rattle.rows.specs.Rules.{Line}
use Rattle.rows.specs.Rows.{step}
use Rattle.keeping.specs.declared.moment.Moment.{Moment}
use Rattle.keeping.specs.declared.moment.Moment.TheVariants.{Start, Step}

-- the formula holds of the row
abbrev pub OfRow : ℕ → Formula → Word → Type 0
OfRow b a w = Meaning a (row_env b w w)

-- the row may be the first of a run: each formula of the start holds of it
abbrev pub Starts : ℕ → List Formula → Word → Type 0
Starts b start w = AllMean start (row_env b w w)

-- The claim c is kept: it holds where the start does, and of the row after each row of which it holds. No row is left out, also none that is not allowed.
pub record Kept (s : Layout) (b : ℕ) (R : List Line) (start : List Formula) (c : Formula) : Type 0 where
  pub starts : (w : Word) → Columns b w → Starts b start w → OfRow b c w
  pub stays : (w : Word) → Columns b w → OfRow b c w → OfRow b c (step s b R w)

-- a run: the row at each time, a step apart
abbrev pub Run : Layout → ℕ → List Line → (ℕ → Word) → Type 0
Run s b R rows = (t : ℕ) → rows (suc t) ≡ step s b R (rows t)

-- The row shows that d does not follow: from the start, which holds of it, or by a step from c, which does. Where d is c itself, it shows that c is not kept.
abbrev pub Breaks : Layout → ℕ → List Line → List Formula → Formula → Formula → Moment → Word → Type 0
Breaks s b R start c d Start w = Starts b start w × (OfRow b d w → ⊥)
Breaks s b R start c d Step w = OfRow b c w × (OfRow b d (step s b R w) → ⊥)

-- it shows so at one of the two moments
abbrev pub Broken : Layout → ℕ → List Line → List Formula → Formula → Formula → Word → Type 0
Broken s b R start c d w = Breaks s b R start c d Start w ⊎ Breaks s b R start c d Step w
