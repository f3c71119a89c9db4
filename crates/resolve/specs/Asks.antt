-- What is asked of a text: formulas over numbers, of which each is true exactly where what it was made of is.
use Rattle.std.specs.Prelude.{◌≡◌, ℕ, suc, ◌++◌, map, ◌↔◌, List, [], ◌∷◌, is_some}
use Rattle.formulas.specs.Meaning.{Env, Meaning}
use Rattle.trees.specs.declared.tree.Name.{Name}
use Rattle.trees.specs.Tree.{Expr}
use Rattle.trees.specs.declared.tree.Item.{Item}
use Rattle.trees.specs.declared.tree.Item.TheVariants.{Free, Row, Predicate as defined, Assert, Formula}
use Rattle.resolve.specs.Says.{Context, text, nothing, holds, declare, in_row, define, count}
use Rattle.resolve.specs.Spaces.{bounds}
use Rattle.resolve.specs.declared.scope.Free.{Free as Declared}
use Rattle.resolve.specs.declared.scope.Kind.{Kind}
use Rattle.resolve.specs.declared.scope.Kind.TheVariants as kind
use Rattle.resolve.specs.Kinds.{kind_of}
use Rattle.resolve.specs.declared.asked.Stated.{Stated}
use Rattle.resolve.specs.declared.asked.Asked.{Asked}

-- the declared names in their order, with what they stand for
abbrev pub declared : List Item → List (Name × Kind)
declared [] = []
declared (Free sort names ∷ items) = map (λ x. (x, kind_of sort)) names.items ++ declared items
declared (Row r ∷ items) = (r.places, kind.Row) ∷ declared items
declared (defined p ∷ items) = declared items
declared (Assert a ∷ items) = declared items
declared (Formula a ∷ items) = declared items

abbrev pub free : List Declared → List (Name × Kind)
free l = map (λ f. (f.name.now, f.kind)) l

abbrev pub all_hold : List Stated → Env → Type 0
all_hold [] e = Unit {0}
all_hold (s ∷ l) e = Meaning s.formula.value e × all_hold l e

-- this expression, a formula that is true of exactly the places and sets of which it holds where the names stand for what s says, and whether a row or a ring is spoken of there
pub record Renders (x : Stated) (a : Expr) (s : Env → Context) : Type 0 where
  pub expr : x.expr.now ≡ a
  pub means : (e : Env) → Meaning x.formula.value e ↔ holds a.kind (s e)
  pub row : (e : Env) → is_some (bounds (s e).space) ≡ x.in_row

-- the assumptions and the claims of the items, one after the other, where the names before them stand for what s says and the declared ones are numbered from n on
abbrev pub Written : List Item → ℕ → (Env → Context) → List Stated → List Stated → Type 0
Written [] n s l m = (l ≡ []) × (m ≡ [])
Written (Free sort names ∷ items) n s l m = Written items (count n names.items) (λ e. declare sort names.items n e (s e)) l m
Written (Row r ∷ items) n s l m = Written items (suc n) (λ e. in_row r n e (s e)) l m
Written (defined p ∷ items) n s l m = Written items n (λ e. define p (s e)) l m
Written (Assert a ∷ items) n s [] m = ⊥
Written (Assert a ∷ items) n s (x ∷ l) m = Renders x a s × Written items n s l m
Written (Formula a ∷ items) n s l [] = ⊥
Written (Formula a ∷ items) n s l (x ∷ m) = Renders x a s × Written items n s l m

-- the declared names; the assumptions and the claims, each as it stands there and as a formula; and that these formulas together are true of exactly the places and sets of which the text's assumptions are, and its claims
pub record Asks (items : List Item) (asked : Asked) : Type 0 where
  pub names : free asked.free.items ≡ declared items
  pub written : Written items 0 (λ e. nothing) asked.assumed.items asked.claimed.items
  pub assumed : (e : Env) → all_hold asked.assumed.items e ↔ (text items e).assumed
  pub claimed : (e : Env) → all_hold asked.claimed.items e ↔ (text items e).claimed

-- what was asked before, then more: names, and assumptions and claims that are as the rest says
pub record AsksMore (old new : Asked) (more : List (Name × Kind)) (rest : List Stated → List Stated → Type 0) : Type 0 where
  pub names : free new.free.items ≡ free old.free.items ++ more
  pub assumed : List Stated
  pub claimed : List Stated
  pub with_assumed : new.assumed.items ≡ old.assumed.items ++ assumed
  pub with_claimed : new.claimed.items ≡ old.claimed.items ++ claimed
  pub written : rest assumed claimed
