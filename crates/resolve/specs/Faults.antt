-- Which faults a text has, and where. Of a name only its sort matters, so nothing here speaks of terms or values.
use Rattle.std.specs.Prelude.{◌≡◌, ℕ, ◌≤◌, Bool, true, cond, ◌⊎◌, List, [], ◌∷◌, length, string_bytes, Option, Some, None, IsSome, Vec, Box}
use Rattle.std.specs.Str.{bytes_eq}
use Rattle.std.specs.Global.{Global}
use Rattle.trees.specs.declared.position.Span.{Span}
use Rattle.trees.specs.Tree.{Expr, at}
use Rattle.trees.specs.declared.tree.Name.{Name}
use Rattle.trees.specs.declared.tree.Spanned.{Spanned}
use Rattle.trees.specs.declared.tree.Sort.{Sort}
use Rattle.trees.specs.declared.tree.Sort.TheVariants.{Place as OfPlace, Set as OfSet}
use Rattle.trees.specs.declared.tree.Quantifier.{Quantifier}
use Rattle.trees.specs.declared.tree.Unary.TheVariants.{Not, Min, Max, IsEmpty}
use Rattle.trees.specs.declared.tree.Binary.TheVariants.{Iff, Implies, Or, And, In, NotIn, Sub, Equal, Differs, Less, AtMost, Greater, AtLeast, Union, Inter, Without, Plus, Minus}
use Rattle.trees.specs.declared.tree.ExprKind.{ExprKind, Listed, Bound, Call, Count}
use Rattle.trees.specs.declared.tree.ExprKind.TheVariants.{True, False, Empty, Number, Named, Listed', Unary', Binary', Bound', Call', Count'}
use Rattle.trees.specs.declared.tree.Parameter.{Parameter}
use Rattle.trees.specs.declared.tree.Predicate.{Predicate}
use Rattle.trees.specs.declared.tree.Row.{Row}
use Rattle.trees.specs.declared.tree.Ends.{Ends}
use Rattle.trees.specs.declared.tree.Ends.TheVariants as ends
use Rattle.trees.specs.declared.tree.Item.{Item}
use Rattle.trees.specs.declared.tree.Item.TheVariants.{Free, Row as Stands, Predicate as Defined, Assert, Formula as Claimed}
use Rattle.resolve.specs.declared.scope.Shape.{Shape}
use Rattle.resolve.specs.declared.scope.Shape.TheVariants as shape
use Rattle.resolve.specs.declared.fault.Class.{Class}
use Rattle.resolve.specs.declared.fault.Class.TheVariants.{Formula, Place, Set}
use Rattle.resolve.specs.declared.fault.Fault.{Fault}
use Rattle.resolve.specs.declared.fault.Fault.TheVariants.{Class as OtherClass, Number as NoNumber, Name as NoName, Predicate as NoPredicate, Arguments as OtherCount, Modulus, Rest, Again, Round as GoesRound, Late, Deep, Large, Memory}

-- the names and predicates that are known where a part of a text stands, and whether a row or a ring is spoken of there, the innermost first
pub data Signature : Type 0 where
  outermost : Signature
  named : List ℕ → Sort → Signature → Signature
  placed : Shape → Signature → Signature
  defined : Predicate → Signature → Signature

abbrev pub sort_of : Signature → List ℕ → Option Sort
sort_of outermost y = None
sort_of (named x sort k) y = cond (bytes_eq x y) (Some sort) (sort_of k y)
sort_of (placed s k) y = sort_of k y
sort_of (defined p k) y = sort_of k y

-- whether a row or a ring is spoken of
abbrev pub shape_of : Signature → Option Shape
shape_of outermost = None
shape_of (named x sort k) = shape_of k
shape_of (placed s k) = Some s
shape_of (defined p k) = shape_of k

-- a predicate, and what is known where it is declared
abbrev pub predicate_of : Signature → List ℕ → Option (Predicate × Signature)
predicate_of outermost y = None
predicate_of (named x sort k) y = predicate_of k y
predicate_of (placed s k) y = predicate_of k y
predicate_of (defined p k) y = cond (bytes_eq (string_bytes p.name.text) y) (Some (p, k)) (predicate_of k y)

abbrev pub with_names : Sort → List Name → Signature → Signature
with_names sort [] k = k
with_names sort (x ∷ xs) k = with_names sort xs (named (string_bytes x.text) sort k)

abbrev pub with_parameters : List Parameter → Signature → Signature
with_parameters [] k = k
with_parameters (p ∷ ps) k = with_parameters ps (named (string_bytes p.name.text) p.sort k)

abbrev pub class_of_sort : Sort → Class
class_of_sort OfPlace = Place
class_of_sort OfSet = Set

abbrev pub class_of_name : Option Sort → Option Class
class_of_name None = None
class_of_name (Some sort) = Some (class_of_sort sort)

-- what an expression is by its own sign; a name that is not known is nothing
abbrev pub class_of : Signature → ExprKind → Option Class
class_of k (Number n) = Some Place
class_of k Empty = Some Set
class_of k (Named x) = class_of_name (sort_of k (string_bytes x.text))
class_of k (Listed' shape all) = Some Set
class_of k (Unary' Min _ a _) = Some Place
class_of k (Unary' Max _ a _) = Some Place
class_of k (Binary' Union _ a _ _ b _) = Some Set
class_of k (Binary' Inter _ a _ _ b _) = Some Set
class_of k (Binary' Without _ a _ _ b _) = Some Set
class_of k (Binary' Plus _ a _ _ b _) = Some Place
class_of k (Binary' Minus _ a _ _ b _) = Some Place
class_of k _ = Some Formula

abbrev pub each_of : Class → List Expr → List (Class × Expr)
each_of c [] = []
each_of c (a ∷ all) = (c, a) ∷ each_of c all

abbrev pub as_parameters : List Parameter → List Expr → List (Class × Expr)
as_parameters [] all = []
as_parameters (p ∷ ps) [] = []
as_parameters (p ∷ ps) (a ∷ all) = (class_of_sort p.sort, a) ∷ as_parameters ps all

-- both sides of an equality are sets if the first is, and places otherwise
abbrev pub side : Option Class → Class
side (Some Set) = Set
side _ = Place

-- the operands of a sign, each with what it has to be
abbrev pub operands : Signature → ExprKind → List (Class × Expr)
operands k (Unary' Not _ a s) = (Formula, at a s) ∷ []
operands k (Unary' Min _ a s) = (Set, at a s) ∷ []
operands k (Unary' Max _ a s) = (Set, at a s) ∷ []
operands k (Unary' IsEmpty _ a s) = (Set, at a s) ∷ []
operands k (Binary' Iff _ a s _ b t) = (Formula, at a s) ∷ (Formula, at b t) ∷ []
operands k (Binary' Implies _ a s _ b t) = (Formula, at a s) ∷ (Formula, at b t) ∷ []
operands k (Binary' Or _ a s _ b t) = (Formula, at a s) ∷ (Formula, at b t) ∷ []
operands k (Binary' And _ a s _ b t) = (Formula, at a s) ∷ (Formula, at b t) ∷ []
operands k (Binary' In _ a s _ b t) = (Place, at a s) ∷ (Set, at b t) ∷ []
operands k (Binary' NotIn _ a s _ b t) = (Place, at a s) ∷ (Set, at b t) ∷ []
operands k (Binary' Sub _ a s _ b t) = (Set, at a s) ∷ (Set, at b t) ∷ []
operands k (Binary' Equal _ a s _ b t) = (side (class_of k a), at a s) ∷ (side (class_of k a), at b t) ∷ []
operands k (Binary' Differs _ a s _ b t) = (side (class_of k a), at a s) ∷ (side (class_of k a), at b t) ∷ []
operands k (Binary' Less _ a s _ b t) = (Place, at a s) ∷ (Place, at b t) ∷ []
operands k (Binary' AtMost _ a s _ b t) = (Place, at a s) ∷ (Place, at b t) ∷ []
operands k (Binary' Greater _ a s _ b t) = (Place, at a s) ∷ (Place, at b t) ∷ []
operands k (Binary' AtLeast _ a s _ b t) = (Place, at a s) ∷ (Place, at b t) ∷ []
operands k (Binary' Union _ a s _ b t) = (Set, at a s) ∷ (Set, at b t) ∷ []
operands k (Binary' Inter _ a s _ b t) = (Set, at a s) ∷ (Set, at b t) ∷ []
operands k (Binary' Without _ a s _ b t) = (Set, at a s) ∷ (Set, at b t) ∷ []
operands k (Binary' Plus _ a s _ _ _) = (Place, at a s) ∷ []
operands k (Binary' Minus _ a s _ _ _) = (Place, at a s) ∷ []
operands k (Count' _ a s m r) = (Set, at a s) ∷ []
operands k _ = []

-- the operand that has to be a number
abbrev pub NeedsNumber : ExprKind → Expr → Type 0
NeedsNumber (Binary' Plus _ _ _ _ b t) n = at b t ≡ n
NeedsNumber (Binary' Minus _ _ _ _ b t) n = at b t ≡ n
NeedsNumber _ n = ⊥

abbrev pub IsNumber : ExprKind → Type 0
IsNumber (Number n) = Unit {0}
IsNumber _ = ⊥

-- what tells where places begin or end, or which of them stands before another: on a ring nothing does
abbrev pub NeedsEnds : ExprKind → Type 0
NeedsEnds (Number n) = Unit {0}
NeedsEnds (Unary' Min _ a _) = Unit {0}
NeedsEnds (Unary' Max _ a _) = Unit {0}
NeedsEnds (Binary' Less _ a _ _ b _) = Unit {0}
NeedsEnds (Binary' AtMost _ a _ _ b _) = Unit {0}
NeedsEnds (Binary' Greater _ a _ _ b _) = Unit {0}
NeedsEnds (Binary' AtLeast _ a _ _ b _) = Unit {0}
NeedsEnds _ = ⊥

-- the numbers of a count that are at fault: the first, unless it is from 2 to 16, or else the second, unless it is below the first
abbrev pub Miscounted : Spanned ℕ → Spanned ℕ → Fault → Type 0
Miscounted m r f = ((2 ≤ m.kind → m.kind ≤ 16 → ⊥) × f ≡ Modulus m.span) ⊎ ((m.kind ≤ r.kind) × f ≡ Rest m.kind r.span)

abbrev pub Among : {A : Type 0} → A → List A → Type 0
Among x [] = ⊥
Among x (y ∷ l) = (x ≡ y) ⊎ Among x l

-- truth values, connectives, quantifiers and predicates, which are made of formulas
abbrev pub Connects : ExprKind → Type 0
Connects True = Unit {0}
Connects False = Unit {0}
Connects (Unary' Not _ a _) = Unit {0}
Connects (Binary' Iff _ a _ _ b _) = Unit {0}
Connects (Binary' Implies _ a _ _ b _) = Unit {0}
Connects (Binary' Or _ a _ _ b _) = Unit {0}
Connects (Binary' And _ a _ _ b _) = Unit {0}
Connects (Bound' q sort names _ a _) = Unit {0}
Connects (Call' f shape all) = Unit {0}
Connects _ = ⊥

-- an expression has this fault where it has to be of the wanted class
pub data Faulty : Signature → Class → Expr → Fault → Type 0 where
  -- it is of another class
  other_class : {k : Signature} {wanted c : Class} {e : Expr} → class_of k e.kind ≡ Some c → (c ≡ wanted → ⊥) → Faulty k wanted e (OtherClass wanted c e.span)
  -- a name that is not known
  no_name : {k : Signature} {wanted : Class} {e : Expr} {x : Name} → e.kind ≡ Named x → sort_of k (string_bytes x.text) ≡ None → Faulty k wanted e (NoName x.span)
  -- no number behind + or -
  no_number : {k : Signature} {wanted : Class} {e : Expr} (n : Expr) → NeedsNumber e.kind n → (IsNumber n.kind → ⊥) → Faulty k wanted e (NoNumber n.span)
  -- a place's number, an end or an order, on a ring
  goes_round : {k : Signature} {wanted : Class} {e : Expr} → shape_of k ≡ Some shape.Ring → NeedsEnds e.kind → Faulty k wanted e (GoesRound e.span)
  -- a predicate that is not known
  no_predicate : {k : Signature} {e : Expr} {x : Name} (all : Vec Expr Global) → e.kind ≡ Call x all → predicate_of k (string_bytes x.text) ≡ None → Faulty k Formula e (NoPredicate x.span)
  -- not as many arguments as the predicate has parameters
  other_count : {k d : Signature} {e : Expr} {p : Predicate} {x : Name} (all : Vec Expr Global) → e.kind ≡ Call x all → predicate_of k (string_bytes x.text) ≡ Some (p, d) → (length p.parameters.items ≡ length all.items → ⊥) →
      Faulty k Formula e (OtherCount (length p.parameters.items) (length all.items) e.span)
  -- a set is counted by such numbers
  miscounted : {k : Signature} {e : Expr} (a : Box Expr Global) (m r : Spanned ℕ) {f : Fault} → e.kind ≡ Count a m r → Miscounted m r f → Faulty k Formula e f
  -- an operand has the fault
  in_operand : {k : Signature} {wanted c : Class} {e a : Expr} {f : Fault} → Among (c, a) (operands k e.kind) → Faulty k c a f → Faulty k wanted e f
  -- a place of a list has it
  in_list : {k : Signature} {wanted : Class} {e a : Expr} (all : Vec Expr Global) {f : Fault} → e.kind ≡ Listed all → Among (Place, a) (each_of Place all.items) → Faulty k Place a f → Faulty k wanted e f
  -- what is said of the names that a quantifier binds has it
  in_bound : {k : Signature} {e : Expr} {q : Quantifier} {sort : Sort} (names : Vec Name Global) (a : Box Expr Global) {f : Fault} → e.kind ≡ Bound q sort names a → Faulty (with_names sort names.items k) Formula a.value f → Faulty k Formula e f
  -- an argument of a predicate has it
  in_argument : {k d : Signature} {e a : Expr} {p : Predicate} {x : Name} (all : Vec Expr Global) {c : Class} {f : Fault} → e.kind ≡ Call x all → predicate_of k (string_bytes x.text) ≡ Some (p, d) →
      Among (c, a) (as_parameters p.parameters.items all.items) → Faulty k c a f → Faulty k Formula e f
  -- the body of a predicate has it, where it is declared
  in_body : {k d : Signature} {e : Expr} {p : Predicate} {x : Name} (all : Vec Expr Global) {f : Fault} → e.kind ≡ Call x all → predicate_of k (string_bytes x.text) ≡ Some (p, d) →
      Faulty (with_parameters p.parameters.items d) Formula p.body f → Faulty k Formula e f

-- more than can be worked on, which is no fault of the text
abbrev pub IsLimit : Fault → Type 0
IsLimit (Deep span) = Unit {0}
IsLimit (Large span) = Unit {0}
IsLimit Memory = Unit {0}
IsLimit _ = ⊥

-- one of the names is known already
abbrev pub NamedAgain : Sort → List Name → Signature → Fault → Type 0
NamedAgain sort [] k f = ⊥
NamedAgain sort (x ∷ xs) k f = (IsSome (sort_of k (string_bytes x.text)) × f ≡ Again x.span) ⊎ NamedAgain sort xs (named (string_bytes x.text) sort k) f

-- the names of the row's places and of its last place are known from it on, or that of the ring's places
abbrev pub with_ends : Ends → Signature → Signature
with_ends (ends.Last x) k = placed shape.Row (named (string_bytes x.text) OfPlace k)
with_ends ends.Round k = placed shape.Ring k

abbrev pub with_row : Row → Signature → Signature
with_row r k = with_ends r.ends (named (string_bytes r.places.text) OfSet k)

-- the name of the last place is known already
abbrev pub EndsAgain : Ends → Signature → Fault → Type 0
EndsAgain (ends.Last x) k f = NamedAgain OfPlace (x ∷ []) k f
EndsAgain ends.Round k f = ⊥

-- a row or a ring is spoken of already, or one of the names is known already
abbrev pub RowAgain : Row → Signature → Fault → Type 0
RowAgain r k f = (IsSome (shape_of k) × f ≡ Again r.places.span) ⊎ (NamedAgain OfSet (r.places ∷ []) k f ⊎ EndsAgain r.ends (named (string_bytes r.places.text) OfSet k) f)

-- one of the items has this fault, where those before it are known
abbrev pub FaultyText : List Item → Signature → Fault → Type 0
FaultyText [] k f = ⊥
FaultyText (Free sort names ∷ items) k f = NamedAgain sort names.items k f ⊎ FaultyText items (with_names sort names.items k) f
FaultyText (Stands r ∷ items) k f = RowAgain r k f ⊎ FaultyText items (with_row r k) f
FaultyText (Defined p ∷ items) k f =
    (IsSome (predicate_of k (string_bytes p.name.text)) × f ≡ Again p.name.span)
    ⊎ (Faulty (with_parameters p.parameters.items k) Formula p.body f ⊎ FaultyText items (defined p k) f)
FaultyText (Assert a ∷ items) k f = Faulty k Formula a f ⊎ FaultyText items k f
FaultyText (Claimed a ∷ items) k f = Faulty k Formula a f ⊎ FaultyText items k f

-- where a ring stands and something else than declarations does before it
abbrev pub LateEnds : Bool → Ends → Span → Fault → Type 0
LateEnds true ends.Round span f = f ≡ Late span
LateEnds _ _ span f = ⊥

-- one of the items is such a ring; of what stands before them it is said whether it is something else than declarations
abbrev pub LateRing : Bool → List Item → Fault → Type 0
LateRing late [] f = ⊥
LateRing late (Free sort names ∷ items) f = LateRing late items f
LateRing late (Stands r ∷ items) f = LateEnds late r.ends r.places.span f ⊎ LateRing late items f
LateRing late (Defined p ∷ items) f = LateRing true items f
LateRing late (Assert a ∷ items) f = LateRing true items f
LateRing late (Claimed a ∷ items) f = LateRing true items f
