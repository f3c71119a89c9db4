-- What is asked about a text: its claim under its assumptions, and the opposite under them; of a text that speaks of a row or a ring, also that what is declared is the row's or the ring's. A ring's places are those of a row, and what is said here of a row is said of both.
use Rattle.std.specs.Prelude.{◌≡◌, ℕ, suc, true, ◌↔◌, List, [], ◌∷◌, ◌++◌, Option, Some, None, length}
use Rattle.claims.specs.Claims.{has}
use Rattle.formulas.specs.declared.name.Name.{Name as Numbered}
use Rattle.formulas.specs.declared.name.Name.TheVariants.{OfPlace, OfGroup}
use Rattle.formulas.specs.declared.formula.Formula.{Formula}
use Rattle.formulas.specs.Meaning.{Env, Meaning}
use Rattle.formula_claims.specs.Claimed.{Claimed}
use Rattle.trees.specs.declared.tree.Name.{Name}
use Rattle.trees.specs.declared.tree.Sort.TheVariants.{Place, Set}
use Rattle.trees.specs.declared.tree.Item.{Item}
use Rattle.resolve.specs.Says.{text}
use Rattle.resolve.specs.Scopes.{Bound}
use Rattle.resolve.specs.Asks.{declared}
use Rattle.resolve.specs.declared.scope.Kind.{Kind}
use Rattle.resolve.specs.declared.scope.Kind.TheVariants as kind

-- the name with a number of a declared place or set; the row is named apart
abbrev pub other : Kind → ℕ → List Numbered
other kind.Place n = OfPlace n ∷ []
other kind.Set n = OfGroup n ∷ []
other kind.Row n = []

-- the declared places and sets, numbered from n on
abbrev pub others : ℕ → List (Name × Kind) → List Numbered
others n [] = []
others n (d ∷ l) = other d.1 n ++ others (suc n) l

abbrev pub row_or : Kind → ℕ → Option ℕ → Option ℕ
row_or kind.Row n o = Some n
row_or kind.Place n o = o
row_or kind.Set n o = o

-- the number of the set that is the row, where one is spoken of
abbrev pub row_from : ℕ → List (Name × Kind) → Option ℕ
row_from n [] = None
row_from n (d ∷ l) = row_or d.1 n (row_from (suc n) l)

abbrev pub row_in : List Item → Option ℕ
row_in items = row_from 0 (declared items)

abbrev pub row_name : Option ℕ → List Numbered
row_name None = []
row_name (Some r) = OfGroup r ∷ []

-- the declared places and sets
abbrev pub others_in : List Item → List Numbered
others_in items = others 0 (declared items)

-- and behind them the row, where one is spoken of: in this order they are the sets of the claim
abbrev pub names_of : List Item → List Numbered
names_of items = others_in items ++ row_name (row_in items)

-- where a row is spoken of, how many places and sets are declared
abbrev pub others_if : Option ℕ → ℕ → Option ℕ
others_if None k = None
others_if (Some r) k = Some k

abbrev pub others_of : List Item → Option ℕ
others_of items = others_if (row_in items) (length (others_in items))

-- the places and sets are those of the row r, which begins at place 0 and has no hole
abbrev pub InRow : ℕ → List Numbered → Env → Type 0
InRow r [] e = (i : ℕ) → has (e.groups r) (suc i) ≡ true → has (e.groups r) i ≡ true
InRow r (OfPlace x ∷ l) e = Bound Place x r e × InRow r l e
InRow r (OfGroup x ∷ l) e = Bound Set x r e × InRow r l e

abbrev pub InRowIf : Option ℕ → List Numbered → Env → Type 0
InRowIf None l e = Unit {0}
InRowIf (Some r) l e = InRow r l e

-- what is assumed: the text's assumptions, and where a row is spoken of, that what is declared is the row's
abbrev pub Assumed : List Item → Env → Type 0
Assumed items e = InRowIf (row_in items) (others_in items) e × (text items e).assumed

-- the assumptions are met, and the claim holds; they are met, and it does not
abbrev pub HoldsOf : List Item → Env → Type 0
HoldsOf items e = Assumed items e × (text items e).claimed

abbrev pub FailsOf : List Item → Env → Type 0
FailsOf items e = Assumed items e × ((text items e).claimed → ⊥)

-- the bytes are the claim of a formula that is true of exactly the places and sets of which P is
pub record Puts (l : List Numbered) (P : Env → Type 0) (bytes : List ℕ) : Type 0 where
  pub formula : Formula
  pub claimed : Claimed l formula bytes
  pub means : (e : Env) → Meaning formula e ↔ P e
