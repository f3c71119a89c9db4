-- What is proved of claims that a step keeps.
use Rattle.std.specs.Prelude.{ℕ, ◌≤◌, ◌↔◌, ◌⊎◌, T, List}
use Rattle.words.specs.Words.{Word, Columns}
use Rattle.formulas.specs.declared.formula.Formula.{Formula}
use Rattle.rows.specs.declared.rule.Layout.{Layout}
use Rattle.rows.specs.RowClaims.{below, Tells}
use Rattle.rows.specs.Rules.{Line}
use Rattle.rows.specs.Faults.{lines_ok, limits_ok}
use Rattle.keeping.specs.Kept.{Kept, Run, Starts, OfRow, Breaks, Broken}
use Rattle.keeping.specs.Breaches.{breach_claim, names_ok, traced}
use Rattle.keeping.specs.declared.moment.Moment.{Moment}

-- what is kept holds at every time of every run from a row of which the start holds
abbrev pub AtEveryTime : Type 0
AtEveryTime =
    (s : Layout) (b : ℕ) (R : List Line) (start : List Formula) (c : Formula) → Kept s b R start c →
    (rows : ℕ → Word) → Run s b R rows → Columns b (rows 0) → Starts b start (rows 0) → (t : ℕ) → OfRow b c (rows t)

-- a claim is kept exactly if no row shows that it is not
abbrev pub KeptOrBroken : Type 0
KeptOrBroken =
    (s : Layout) (b : ℕ) (R : List Line) (start : List Formula) (c : Formula) → T (names_ok b c) →
    Kept s b R start c ↔ ((w : Word) → Columns b w → Broken s b R start c c w → ⊥)

-- a row shows it of two together exactly if it does of one of them; of which d says that both hold
abbrev pub BrokenInParts : Type 0
BrokenInParts =
    (s : Layout) (b : ℕ) (R : List Line) (start : List Formula) (c d e f : Formula) → T (names_ok b e) → ((w : Word) → OfRow b d w ↔ (OfRow b e w × OfRow b f w)) →
    (w : Word) → Columns b w → Broken s b R start c d w ↔ (Broken s b R start c e w ⊎ Broken s b R start c f w)

-- the two claims tell of the rows that show it, where js has each bit that d names and some line changes
abbrev pub BreachesTold : Type 0
BreachesTold =
    (s : Layout) (b : ℕ) (js : List ℕ) (R : List Line) (start : List Formula) (c d : Formula) → 1 ≤ b → T (lines_ok (below b) R) → T (limits_ok b start) → T (names_ok b c) → T (names_ok b d) →
    T (traced b js R d) → (m : Moment) → Tells b (breach_claim s b js R start c d m) (Breaks s b R start c d m)
