-- A claim with some claims of a list, chosen by their numbers in it, which begin at 0 and rise.
use Rattle.std.specs.Prelude.{ℕ, ◌+◌, ◌<◌, ◌≤◌, List, [], ◌∷◌, length, map, get_or}
use Rattle.words.specs.Words.{Word, Columns}
use Rattle.words.specs.Order.{Less}
use Rattle.formulas.specs.declared.formula.Formula.{Formula}
use Rattle.formulas.specs.declared.formula.Formula.TheVariants.{True}
use Rattle.rows.specs.declared.rule.Layout.{Layout}
use Rattle.rows.specs.Limits.{row_env, AllMean}
use Rattle.rows.specs.Rules.{Line}
use Rattle.rows.specs.Rows.{step}
use Rattle.keeping.specs.Kept.{Starts}

-- numbers from a on, below n, that rise
abbrev pub Rising : ℕ → ℕ → List ℕ → Type 0
Rising a n [] = Unit {0}
Rising a n (i ∷ is) = (a ≤ i) × (i < n) × Rising (i + 1) n is

-- at most eight numbers of a list of n claims
abbrev pub Choice : ℕ → List ℕ → Type 0
Choice n is = Rising 0 n is × (length is ≤ 8)

-- the claims of the list with these numbers
abbrev pub chosen : List Formula → List ℕ → List Formula
chosen qs is = map (λ i. get_or qs i True) is

-- each of the claims holds of the row
abbrev pub AllHold : ℕ → List Formula → Word → Type 0
AllHold b ds w = AllMean ds (row_env b w w)

-- The claims are kept together: all of them hold where the start does, and of the row after each row of which all hold.
pub record KeptTogether (s : Layout) (b : ℕ) (R : List Line) (start ds : List Formula) : Type 0 where
  pub starts : (w : Word) → Columns b w → Starts b start w → AllHold b ds w
  pub stays : (w : Word) → Columns b w → AllHold b ds w → AllHold b ds (step s b R w)

-- c is kept together with the chosen claims of the list
abbrev pub KeptWith : Layout → ℕ → List Line → List Formula → Formula → List Formula → List ℕ → Type 0
KeptWith s b R start c qs is = KeptTogether s b R start (c ∷ chosen qs is)

-- It is kept with these, and with no choice that comes before: fewer numbers come before more, and of as many the lower at the first number that differs. That is the order of words.
pub record Fewest (s : Layout) (b : ℕ) (R : List Line) (start : List Formula) (c : Formula) (qs : List Formula) (is : List ℕ) : Type 0 where
  pub choice : Choice (length qs) is
  pub kept : KeptWith s b R start c qs is
  pub first : (js : List ℕ) → Choice (length qs) js → Less js is → KeptWith s b R start c qs js → ⊥

-- it is kept with no choice
abbrev pub NoneAmong : Layout → ℕ → List Line → List Formula → Formula → List Formula → Type 0
NoneAmong s b R start c qs = (js : List ℕ) → Choice (length qs) js → KeptWith s b R start c qs js → ⊥
