-- Parts are smaller than what they are parts of.
use Rattle.std.proofs.Common.{◌≡◌, ℕ, Bool, zero, suc, ◌+◌, ◌<◌, ◌≤◌, inl, inr, List, [], ◌∷◌, take, position, slice_get, Option, Some, None, string_bytes, refl, ap, arith}
use Rattle.std.specs.List.{list_any}
use Rattle.formulas.specs.declared.formula.Formula.{Formula}
use Rattle.trees.specs.declared.tree.Unary.TheVariants.{Not, Min, Max, IsEmpty}
use Rattle.trees.specs.Tree.{Expr, at}
use Rattle.trees.specs.declared.tree.ExprKind.{ExprKind}
use Rattle.trees.specs.declared.tree.ExprKind.TheVariants.{True, False, Empty, Number, Named, Listed', Unary', Binary', Bound', Call', Count'}
use Rattle.trees.specs.declared.tree.Item.{Item}
use Rattle.trees.specs.declared.tree.Item.TheVariants.{Free, Row, Predicate as Defined, Assert, Formula as Claimed}
use Rattle.resolve.specs.Faults.{Among}
use Rattle.parts.specs.Parts.{Piece, is_row, denied, halves, defines, one, two, body_of, called, parts_of, parts}

-- the signs of an expression that may be formulas
abbrev pub size : ExprKind → ℕ
size (Unary' sign _ a s) = suc (size a)
size (Binary' sign _ a s _ b t) = suc (size a + size b)
size (Bound' q sort names _ a s) = suc (size a)
size _ = 1

-- the sizes of the bodies of all predicates
abbrev pub bodies : List Item → ℕ
bodies [] = 0
bodies (Free sort names ∷ items) = bodies items
bodies (Row r ∷ items) = bodies items
bodies (Defined p ∷ items) = size p.body.kind + bodies items
bodies (Assert a ∷ items) = bodies items
bodies (Claimed a ∷ items) = bodies items

abbrev pub weight : Piece → ℕ
weight p = size p.expr.kind + bodies p.known

some_size : (a : ExprKind) → 1 ≤ size a
some_size True = omega arith
some_size False = omega arith
some_size Empty = omega arith
some_size (Number n) = omega arith
some_size (Named x) = omega arith
some_size (Listed' shape all) = omega arith
some_size (Unary' sign _ a s) = omega arith
some_size (Binary' sign _ a s _ b t) = omega arith
some_size (Bound' q sort names _ a s) = omega arith
some_size (Call' x shape all) = omega arith
some_size (Count' _ a s m r) = omega arith

bodies_behind : (item : Item) (items : List Item) → bodies (item ∷ items) ≡ bodies (item ∷ []) + bodies items
bodies_behind (Free sort names) items = omega arith
bodies_behind (Row r) items = omega arith
bodies_behind (Defined p) items = omega arith
bodies_behind (Assert a) items = omega arith
bodies_behind (Claimed a) items = omega arith

-- one item more in front
body_behind : (item : Item) (before : List Item) (o : Option Item) (f : Formula) (q : Piece) (m : ℕ) →
    ((r : Piece) → Among r (body_of before o f) → weight r ≤ m) → Among q (body_of (item ∷ before) o f) → weight q ≤ bodies (item ∷ []) + m
body_behind item before None f q m g h = absurd h
body_behind item before (Some (Free sort names)) f q m g h = absurd h
body_behind item before (Some (Row r)) f q m g h = absurd h
body_behind item before (Some (Assert a)) f q m g h = absurd h
body_behind item before (Some (Claimed a)) f q m g h = absurd h
body_behind item before (Some (Defined p)) f q m g h =
    let w = g (record { known = before; expr = p.body; formula = f; in_row = list_any is_row before }) (inl refl) in
    let b = bodies_behind item before in
    elim h [ inl e ↦ omega (arith, ap weight e, w, b) | inr n ↦ absurd n ]

-- the body of a predicate, and those of the predicates before it, are among the bodies
body_smaller : (known : List Item) (i : ℕ) (f : Formula) (q : Piece) → Among q (body_of (take i known) (slice_get known i) f) → weight q ≤ bodies known
body_smaller [] i f q h = absurd h
body_smaller (Free sort names ∷ items) zero f q h = absurd h
body_smaller (Row r ∷ items) zero f q h = absurd h
body_smaller (Assert a ∷ items) zero f q h = absurd h
body_smaller (Claimed a ∷ items) zero f q h = absurd h
body_smaller (Defined p ∷ items) zero f q h = elim h [ inl e ↦ omega (arith, ap weight e) | inr n ↦ absurd n ]
body_smaller (item ∷ items) (suc i) f q h =
    let w = body_behind item (take i items) (slice_get items i) f q (bodies items) (λ r k. body_smaller items i f r k) h in
    let b = bodies_behind item items in
    omega (arith, w, b)

called_smaller : (known : List Item) (i : Option ℕ) (f : Formula) (q : Piece) → Among q (called known i f) → weight q ≤ bodies known
called_smaller known None f q h = absurd h
called_smaller known (Some i) f q h = body_smaller known i f q h

one_smaller : (known : List Item) (row : Bool) (a : Expr) (f : Option Formula) (q : Piece) → Among q (one known row a f) → weight q ≤ size a.kind + bodies known
one_smaller known row a None q h = absurd h
one_smaller known row a (Some f) q h = elim h [ inl e ↦ omega (arith, ap weight e) | inr n ↦ absurd n ]

two_smaller : (known : List Item) (row : Bool) (a b : Expr) (h : Option (Formula × Formula)) (q : Piece) → Among q (two known row a b h) → weight q ≤ size a.kind + size b.kind + bodies known
two_smaller known row a b None q h = absurd h
two_smaller known row a b (Some f) q h = elim h [ inl e ↦ omega (arith, ap weight e) | inr n ↦ elim n [ inl e ↦ omega (arith, ap weight e) | inr m ↦ absurd m ] ]

of_smaller : (known : List Item) (row : Bool) (a : ExprKind) (f : Formula) (q : Piece) → Among q (parts_of known row a f) → weight q < size a + bodies known
of_smaller known row (Unary' Not _ a s) f q h = let m = one_smaller known row (at a s) (denied f) q h in omega arith
of_smaller known row (Unary' Min _ a s) f q h = absurd h
of_smaller known row (Unary' Max _ a s) f q h = absurd h
of_smaller known row (Unary' IsEmpty _ a s) f q h = absurd h
of_smaller known row (Binary' sign _ a s _ b t) f q h = let m = two_smaller known row (at a s) (at b t) (halves sign f) q h in omega arith
of_smaller known row (Bound' r sort names _ a s) f q h = elim h [ inl e ↦ omega (arith, ap weight e) | inr n ↦ absurd n ]
of_smaller known row (Call' x shape all) f q h = let m = called_smaller known (position (defines (string_bytes x.text)) known) f q h in omega arith
of_smaller known row (Count' _ a s m r) f q h = absurd h
of_smaller known row True f q h = absurd h
of_smaller known row False f q h = absurd h
of_smaller known row Empty f q h = absurd h
of_smaller known row (Number n) f q h = absurd h
of_smaller known row (Named x) f q h = absurd h
of_smaller known row (Listed' shape all) f q h = absurd h

pub parts_smaller : (p q : Piece) → Among q (parts p) → weight q < weight p
parts_smaller p q h = of_smaller p.known p.in_row p.expr.kind p.formula q h
