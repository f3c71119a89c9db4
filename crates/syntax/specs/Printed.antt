-- The text of a tree: as few parentheses as there have to be, or around every part that has operands, and numbers in digits.
use Rattle.std.specs.Prelude.{ℕ, ◌≡◌, ◌≤◌, ◌&&◌, ◌||◌, Bool, true, false, nat_lt, decimal, List, [], ◌∷◌}
use Rattle.trees.specs.declared.tree.Unary.TheVariants as unary
use Rattle.trees.specs.declared.tree.Binary.{Binary}
use Rattle.trees.specs.declared.tree.Binary.TheVariants as binary
use Rattle.syntax.specs.Plain.{Plain, yes, no, nowhere, number, digits, named, paren, listed, prefixed, joined, bound, call, counted, tallied, Plains, none, more}
use Rattle.syntax.specs.Parsing.{level_of, right_of, depth, MOST, ascii}
use Rattle.syntax.specs.Grammar.{AreNames}
use Rattle.syntax.specs.Rows.{row_name, last_name, ring_name, is_rows}
use Rattle.syntax.specs.Items.{PlainItem, free, row, ring, predicate, assumed, claimed, AreParameters}

-- how tight an expression binds
abbrev pub level : Plain → ℕ
level (prefixed unary.Not t) = 5
level (prefixed unary.Min t) = 8
level (prefixed unary.Max t) = 8
level (joined b s t) = level_of b
level (bound q sort xs t) = 0
level _ = 13

-- how tight what stands left of an operator has to bind
abbrev pub left_of : Binary → ℕ
left_of binary.Iff = 2
left_of binary.Implies = 3
left_of b = level_of b

abbrev pub enclosed : Bool → Plain → Plain
enclosed true t = paren t
enclosed false t = t

-- whether an operand stands in parentheses
abbrev pub within_parens : Bool → ℕ → Plain → Bool
within_parens all m t = nat_lt (level t) m || (all && nat_lt (level t) 13)

abbrev mutual
  pub text : Bool → Plain → Plain
  text all (number n) = digits (decimal n)
  text all (listed ts) = listed (texts all ts)
  text all (prefixed unary.Not t) = prefixed unary.Not (enclosed (within_parens all 6 t) (text all t))
  text all (prefixed unary.Min t) = prefixed unary.Min (enclosed (within_parens all 9 t) (text all t))
  text all (prefixed unary.Max t) = prefixed unary.Max (enclosed (within_parens all 9 t) (text all t))
  text all (prefixed unary.IsEmpty t) = prefixed unary.IsEmpty (text all t)
  text all (joined b s t) = joined b (enclosed (within_parens all (left_of b) s) (text all s)) (enclosed (within_parens all (right_of b) t) (text all t))
  text all (bound q sort xs t) = bound q sort xs (enclosed (within_parens all 0 t) (text all t))
  text all (call f ts) = call f (texts all ts)
  text all (counted t m r) = tallied (enclosed (within_parens all 9 t) (text all t)) (decimal m) (decimal r)
  text all t = t

  pub texts : Bool → Plains → Plains
  texts all none = none
  texts all (more t ts) = more (text all t) (texts all ts)

-- a tree that has a text: names are ASCII, numbers at most MOST, and sets and quantifiers have something in them
abbrev mutual
  pub IsTree : Plain → Type 0
  IsTree yes = Unit {0}
  IsTree no = Unit {0}
  IsTree nowhere = Unit {0}
  IsTree (number n) = n ≤ MOST
  IsTree (digits d) = ⊥
  IsTree (named x) = ascii x ≡ true
  IsTree (paren t) = ⊥
  IsTree (listed ts) = AreSomeTrees ts
  IsTree (prefixed u t) = IsTree t
  IsTree (joined b s t) = IsTree s × IsTree t
  IsTree (bound q sort xs t) = AreNames xs × IsTree t
  IsTree (call f ts) = (ascii f ≡ true) × AreTrees ts
  IsTree (counted t m r) = IsTree t × (m ≤ MOST) × (r ≤ MOST)
  IsTree (tallied t d e) = ⊥

  pub AreSomeTrees : Plains → Type 0
  AreSomeTrees none = ⊥
  AreSomeTrees (more t ts) = IsTree t × AreTrees ts

  pub AreTrees : Plains → Type 0
  AreTrees none = Unit {0}
  AreTrees (more t ts) = IsTree t × AreTrees ts

-- a formula that is the name `rows` or `rings` alone stands in parentheses, since `rows;` is a row and `rings;` a ring
abbrev pub text_item : Bool → PlainItem → PlainItem
text_item all (free sort xs) = free sort xs
text_item all (row places last) = row places last
text_item all (ring places) = ring places
text_item all (predicate f ps t) = predicate f ps (text all t)
text_item all (assumed t) = assumed (text all t)
text_item all (claimed t) = claimed (enclosed (is_rows t) (text all t))

-- an item that has a text, of at most MOST parts within one another
abbrev pub IsTreeItem : PlainItem → Type 0
IsTreeItem (free sort xs) = AreNames xs
IsTreeItem (row places last) = (places ≡ row_name) × (last ≡ last_name)
IsTreeItem (ring places) = places ≡ ring_name
IsTreeItem (predicate f ps t) = (ascii f ≡ true) × AreParameters ps × IsTree t × (depth t ≤ MOST)
IsTreeItem (assumed t) = IsTree t × (depth t ≤ MOST)
IsTreeItem (claimed t) = IsTree t × (depth t ≤ MOST)

abbrev pub AreTreeItems : List PlainItem → Type 0
AreTreeItems [] = Unit {0}
AreTreeItems (i ∷ is) = IsTreeItem i × AreTreeItems is
