-- The parts of a formula, as they stand in a text and as formulas over numbers.
use Rattle.std.specs.Prelude.{ℕ, Bool, true, false, List, [], ◌∷◌, ◌++◌, map, take, position, slice_get, Option, Some, None, string_bytes}
use Rattle.std.specs.Str.{bytes_eq}
use Rattle.std.specs.List.{list_any}
use Rattle.formulas.specs.declared.formula.Formula.{Formula}
use Rattle.formulas.specs.declared.formula.Formula.TheVariants.{Not', And', Or', Implies', Some1', All1', Some2', All2'}
use Rattle.trees.specs.declared.tree.Name.{Name}
use Rattle.trees.specs.declared.tree.Unary.TheVariants.{Not}
use Rattle.trees.specs.declared.tree.Binary.{Binary}
use Rattle.trees.specs.declared.tree.Binary.TheVariants.{Iff, Implies, Or, And}
use Rattle.trees.specs.Tree.{Expr, at}
use Rattle.trees.specs.declared.tree.ExprKind.{ExprKind}
use Rattle.trees.specs.declared.tree.ExprKind.TheVariants.{Unary', Binary', Bound', Call'}
use Rattle.trees.specs.declared.tree.Item.{Item}
use Rattle.trees.specs.declared.tree.Item.TheVariants.{Row, Predicate as Defined}
use Rattle.resolve.specs.Faults.{Among}
use Rattle.resolve.specs.declared.asked.Stated.{Stated}
use Rattle.resolve.specs.declared.asked.Asked.{Asked}
use Rattle.parts.specs.declared.parts.Part.{Part}

-- what stands in a text, that as a formula, the items whose predicates are known there, and whether a row or a ring is spoken of there
pub record Piece : Type 0 where
  pub known : List Item
  pub expr : Expr
  pub formula : Formula
  pub in_row : Bool

abbrev pub piece_of : Part → Piece
piece_of p = record { known = p.known.now; expr = p.expr.now; formula = p.formula.now; in_row = p.in_row }

-- the formula that is denied
abbrev pub denied : Formula → Option Formula
denied (Not' _ f) = Some f
denied _ = None

abbrev pub implied : Formula → Option (Formula × Formula)
implied (Implies' _ f _ g) = Some (f, g)
implied _ = None

-- the two formulas that a connective joins; those of *exactly if* stand in each of two implications, of which this is the first
abbrev pub halves : Binary → Formula → Option (Formula × Formula)
halves And (And' _ f _ g) = Some (f, g)
halves Or (Or' _ f _ g) = Some (f, g)
halves Implies (Implies' _ f _ g) = Some (f, g)
halves Iff (And' _ f _ g) = implied f
halves _ _ = None

-- what is said of a bound name besides that it is the row's or the ring's, where one is spoken of
abbrev pub behind_bound : Bool → Formula → Formula
behind_bound true (And' _ f _ g) = g
behind_bound true (Implies' _ f _ g) = g
behind_bound _ f = f

-- what quantifiers over the names say something of
abbrev pub under : Bool → List Name → Formula → Formula
under row [] f = f
under row (x ∷ xs) (Some1' _ _ f) = under row xs (behind_bound row f)
under row (x ∷ xs) (All1' _ _ f) = under row xs (behind_bound row f)
under row (x ∷ xs) (Some2' _ _ f) = under row xs (behind_bound row f)
under row (x ∷ xs) (All2' _ _ f) = under row xs (behind_bound row f)
under row (x ∷ xs) f = f

-- whether from an item on a row or a ring is spoken of
abbrev pub is_row : Item → Bool
is_row (Row r) = true
is_row _ = false

-- whether an item defines the predicate of this name
abbrev pub defines : List ℕ → Item → Bool
defines y (Defined p) = bytes_eq (string_bytes p.name.text) y
defines y _ = false

abbrev pub one : List Item → Bool → Expr → Option Formula → List Piece
one known row a None = []
one known row a (Some f) = record { known = known; expr = a; formula = f; in_row = row } ∷ []

abbrev pub two : List Item → Bool → Expr → Expr → Option (Formula × Formula) → List Piece
two known row a b None = []
two known row a b (Some h) = record { known = known; expr = a; formula = h.0; in_row = row } ∷ record { known = known; expr = b; formula = h.1; in_row = row } ∷ []

-- the body of the predicate that an item defines
abbrev pub body_of : List Item → Option Item → Formula → List Piece
body_of known (Some (Defined p)) f = record { known = known; expr = p.body; formula = f; in_row = list_any is_row known } ∷ []
body_of known _ f = []

abbrev pub called : List Item → Option ℕ → Formula → List Piece
called known None f = []
called known (Some i) f = body_of (take i known) (slice_get known i) f

-- the parts of an expression that are formulas: what a sign joins, what is said of bound names, and of a predicate its body, which knows the predicates before it
abbrev pub parts_of : List Item → Bool → ExprKind → Formula → List Piece
parts_of known row (Unary' Not _ a s) f = one known row (at a s) (denied f)
parts_of known row (Binary' sign _ a s _ b t) f = two known row (at a s) (at b t) (halves sign f)
parts_of known row (Bound' q sort names _ a s) f = record { known = known; expr = at a s; formula = under row names.items f; in_row = row } ∷ []
parts_of known row (Call' x shape all) f = called known (position (defines (string_bytes x.text)) known) f
parts_of known row _ f = []

abbrev pub parts : Piece → List Piece
parts p = parts_of p.known p.in_row p.expr.kind p.formula

abbrev pub stated_by : List Item → Stated → Piece
stated_by items s = record { known = items; expr = s.expr.now; formula = s.formula.value; in_row = s.in_row }

-- the assumptions of a text, then its claims
abbrev pub statements : List Item → Asked → List Piece
statements items asked = map (stated_by items) asked.assumed.items ++ map (stated_by items) asked.claimed.items

-- a part of a piece, or of a part of it, and so on, or the piece itself
pub data Within : Piece → Piece → Type 0 where
  itself : {p : Piece} → Within p p
  inside : {p q r : Piece} → Within p q → Among r (parts q) → Within p r
