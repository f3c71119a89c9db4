-- Faults of an operand are faults of the expression.
use Rattle.std.proofs.Common.{◌≡◌, ℕ, length, arith, ◌⊎◌, ◌∙◌, Option, MatchOption, List, ◌∷◌, Some, None, inl, inr, refl, sym, subst, string_bytes, Vec, Box, Global, Result, Ok, Err, IfErr, IsErrAnd}
use Rattle.trees.specs.Tree.{Expr}
use Rattle.trees.specs.declared.tree.Name.{Name}
use Rattle.trees.specs.declared.tree.Parameter.{Parameter}
use Rattle.trees.specs.declared.tree.Predicate.{Predicate}
use Rattle.trees.specs.declared.tree.Quantifier.{Quantifier}
use Rattle.trees.specs.declared.tree.Sort.{Sort}
use Rattle.trees.specs.declared.tree.Spanned.{Spanned}
use Rattle.trees.specs.declared.tree.Unary.{Unary as OneSign}
use Rattle.trees.specs.declared.tree.Unary.TheVariants.{Min, Max}
use Rattle.trees.specs.declared.tree.Binary.{Binary as TwoSign}
use Rattle.trees.specs.declared.tree.Binary.TheVariants.{Union, Inter, Without, Plus, Minus}
use Rattle.trees.specs.declared.tree.ExprKind.{Listed, Named, Unary, Binary, Bound, Call, Count}
use Rattle.resolve.specs.declared.fault.Class.{Class}
use Rattle.resolve.specs.declared.fault.Class.TheVariants.{Formula, Place, Set}
use Rattle.resolve.specs.declared.fault.Fault.{Fault}
use Rattle.resolve.specs.declared.fault.Fault.TheVariants.{Class as OtherClass, Number as NoNumber, Name as NoName, Predicate as NoPredicate, Arguments as OtherCount, Round}
use Rattle.resolve.specs.declared.scope.Term.{Term}
use Rattle.resolve.specs.declared.scope.Shape.TheVariants.{Ring}
use Rattle.resolve.specs.Faults.{Signature, named, Faulty, in_operand, in_list, in_bound, in_argument, in_body, no_predicate, other_count, predicate_of, with_names, with_parameters, as_parameters, class_of_sort, shape_of, no_number, no_name, goes_round, NeedsEnds, miscounted, Miscounted, other_class, sort_of, IsLimit, IsNumber, NeedsNumber, Among, operands, each_of, class_of, side}

pub place_not_set : Place ≡ Set → ⊥
place_not_set q = cc

pub set_not_place : Set ≡ Place → ⊥
set_not_place q = cc

pub unary_class : (k : Signature) (sign : OneSign) (a : _) → (sign ≡ Min → ⊥) → (sign ≡ Max → ⊥) → class_of k (Unary sign a) ≡ Some Formula
unary_class k Min a h i = absurd (h refl)
unary_class k Max a h i = absurd (i refl)
unary_class k _ a h i = refl

pub binary_class : (k : Signature) (sign : TwoSign) (a : _) (b : _) →
    (sign ≡ Union → ⊥) → (sign ≡ Inter → ⊥) → (sign ≡ Without → ⊥) → (sign ≡ Plus → ⊥) → (sign ≡ Minus → ⊥) → class_of k (Binary sign a b) ≡ Some Formula
binary_class k Union a b h1 h2 h3 h4 h5 = absurd (h1 refl)
binary_class k Inter a b h1 h2 h3 h4 h5 = absurd (h2 refl)
binary_class k Without a b h1 h2 h3 h4 h5 = absurd (h3 refl)
binary_class k Plus a b h1 h2 h3 h4 h5 = absurd (h4 refl)
binary_class k Minus a b h1 h2 h3 h4 h5 = absurd (h5 refl)
binary_class k _ a b h1 h2 h3 h4 h5 = refl

-- what a ? passes on
pub passed : {A : Type 0} (r : Result A Fault) (g : Fault) (P : Fault → Type 0) → IsErrAnd r (λ x. x ≡ g) → P g → IfErr r P
passed (Ok x) g P is p = absurd is
passed (Err x) g P is p = subst P (sym is) p

-- what is told of an expression where a term is wanted
abbrev pub NoTerm : Signature → Class → Expr → Fault → Type 0
NoTerm k w e f = IsLimit f ⊎ ((class_of k e.kind ≡ Some Formula × f ≡ OtherClass w Formula e.span) ⊎ ((v : Class) → Faulty k v e f))

module _ {A : Type 0} (r : Result A Fault) (k : Signature) (w : Class) (e : Expr) where
  pub term_deeper : (c : Class) (a : Expr) (g : Fault) → IsErrAnd r (λ x. x ≡ g) → IsLimit g ⊎ Faulty k c a g → Among (c, a) (operands k e.kind) → IfErr r (λ f. NoTerm k w e f)
  term_deeper c a g is h at = passed r g (λ f. NoTerm k w e f) is (elim h [ inl l ↦ inl l | inr q ↦ inr (inr (λ v. in_operand at q)) ])

  pub term_number : (n : Expr) (g : Fault) → IsErrAnd r (λ x. x ≡ g) → ((IsNumber n.kind → ⊥) × g ≡ NoNumber n.span) → NeedsNumber e.kind n → IfErr r (λ f. NoTerm k w e f)
  term_number n g is h at = passed r g (λ f. NoTerm k w e f) is (inr (inr (λ v. subst (Faulty k v e) (sym h.1) (no_number n at h.0))))

  pub term_round : (g : Fault) → IsErrAnd r (λ x. x ≡ g) → (shape_of k ≡ Some Ring) × g ≡ Round e.span → NeedsEnds e.kind → IfErr r (λ f. NoTerm k w e f)
  term_round g is h at = passed r g (λ f. NoTerm k w e f) is (inr (inr (λ v. subst (Faulty k v e) (sym h.1) (goes_round h.0 at))))

  pub term_listed : (all : Vec Expr Global) (l : List Expr) (g : Fault) → IsErrAnd r (λ x. x ≡ g) → e.kind ≡ Listed all → l ≡ all.items →
      IsLimit g ⊎ ((a : Expr) × (Among (Place, a) (each_of Place l) × Faulty k Place a g)) → IfErr r (λ f. NoTerm k w e f)
  term_listed all l g is shape items h = passed r g (λ f. NoTerm k w e f) is
      (elim h [ inl q ↦ inl q | inr q ↦ inr (inr (λ v. in_list all shape (subst (λ (m : List Expr). Among (Place, q.0) (each_of Place m)) items q.1.0) q.1.1)) ])

-- what is told of a list of places
abbrev pub InList : Signature → List Expr → Fault → Type 0
InList k xs f = IsLimit f ⊎ ((a : Expr) × (Among (Place, a) (each_of Place xs) × Faulty k Place a f))

module _ {A : Type 0} (r : Result A Fault) (k : Signature) (xs rest : List Expr) (x : Expr) (g : Fault) where
  pub listed_first : IsErrAnd r (λ y. y ≡ g) → xs ≡ x ∷ rest → IsLimit g ⊎ Faulty k Place x g → IfErr r (λ f. InList k xs f)
  listed_first is parts h = passed r g (λ f. InList k xs f) is (elim h [ inl l ↦ inl l | inr q ↦ inr (x, (rw parts (inl refl), q)) ])

  pub listed_rest : IsErrAnd r (λ y. y ≡ g) → xs ≡ x ∷ rest → InList k rest g → IfErr r (λ f. InList k xs f)
  listed_rest is parts h = passed r g (λ f. InList k xs f) is (elim h [ inl l ↦ inl l | inr q ↦ inr (q.0, (rw parts (inr q.1.0), q.1.1)) ])

pub term_named : (r : Result Term Fault) (k : Signature) (w : Class) (e : Expr) (x : Name) → e.kind ≡ Named x → IfErr r (λ f. IsLimit f ⊎ (sort_of k (string_bytes x.text) ≡ None × f ≡ NoName x.span)) →
    IfErr r (λ f. NoTerm k w e f)
term_named (Ok t) k w e x is h = h
term_named (Err f) k w e x is (inl l) = inl l
term_named (Err f) k w e x is (inr h) = inr (inr (λ v. subst (Faulty k v e) (sym h.1) (no_name is h.0)))

-- what is no term is not what is wanted
pub no_term : (k : Signature) (w : Class) (e : Expr) (g : Fault) → (Formula ≡ w → ⊥) → NoTerm k w e g → IsLimit g ⊎ Faulty k w e g
no_term k w e g differs (inl l) = inl l
no_term k w e g differs (inr (inl h)) = inr (subst (Faulty k w e) (sym h.1) (other_class h.0 differs))
no_term k w e g differs (inr (inr h)) = inr (h w)

pub formula_not_place : Formula ≡ Place → ⊥
formula_not_place q = cc

pub formula_not_set : Formula ≡ Set → ⊥
formula_not_set q = cc

pub no_term_passed : {A : Type 0} (r : Result A Fault) (k : Signature) (w : Class) (e : Expr) (g : Fault) → (Formula ≡ w → ⊥) → IsErrAnd r (λ x. x ≡ g) → NoTerm k w e g → IfErr r (λ f. IsLimit f ⊎ Faulty k w e f)
no_term_passed r k w e g differs is h = passed r g (λ f. IsLimit f ⊎ Faulty k w e f) is (no_term k w e g differs h)

pub if_err : {A : Type 0} (r : Result A Fault) (P Q : Fault → Type 0) → ((f : Fault) → P f → Q f) → IfErr r P → IfErr r Q
if_err (Ok x) P Q f h = h
if_err (Err g) P Q f h = f g h

pub place_not_formula : Place ≡ Formula → ⊥
place_not_formula q = cc

pub set_not_formula : Set ≡ Formula → ⊥
set_not_formula q = cc

-- the two sides of an equality
pub first_side : (k : Signature) (a : Expr) (g : Fault) → NoTerm k Place a g → IsLimit g ⊎ Faulty k (side (class_of k a.kind)) a g
first_side k a g (inl l) = inl l
first_side k a g (inr (inl h)) = inr (subst (λ c. Faulty k (side c) a g) (sym h.0) (subst (Faulty k Place a) (sym h.1) (other_class h.0 formula_not_place)))
first_side k a g (inr (inr h)) = inr (h (side (class_of k a.kind)))

pub first_passed : {A : Type 0} (r : Result A Fault) (k : Signature) (a b : Expr) (g : Fault) → IsErrAnd r (λ x. x ≡ g) → NoTerm k Place a g →
    IfErr r (λ f. IsLimit f ⊎ (Faulty k (side (class_of k a.kind)) a f ⊎ Faulty k (side (class_of k a.kind)) b f))
first_passed r k a b g is h = passed r g (λ f. IsLimit f ⊎ (Faulty k (side (class_of k a.kind)) a f ⊎ Faulty k (side (class_of k a.kind)) b f)) is (elim (first_side k a g h) [ inl l ↦ inl l | inr q ↦ inr (inl q) ])

-- a fault of one of two operands
pub of_two : (k : Signature) (w c d : Class) (e a b : Expr) (g : Fault) → Among (c, a) (operands k e.kind) → Among (d, b) (operands k e.kind) →
    IsLimit g ⊎ (Faulty k c a g ⊎ Faulty k d b g) → IsLimit g ⊎ Faulty k w e g
of_two k w c d e a b g one two (inl l) = inl l
of_two k w c d e a b g one two (inr (inl h)) = inr (in_operand one h)
of_two k w c d e a b g one two (inr (inr h)) = inr (in_operand two h)

pub unless : {P : Type 0} (k : Signature) (e : Expr) (g : Fault) → IsLimit g ⊎ Faulty k Formula e g → IsLimit g ⊎ ((P → ⊥) → Faulty k Formula e g)
unless k e g (inl l) = inl l
unless k e g (inr h) = inr (λ _. h)

module _ {A : Type 0} (r : Result A Fault) (k : Signature) (e : Expr) where
  pub one_tail : (c : Class) (a : Expr) → IfErr r (λ f. IsLimit f ⊎ Faulty k c a f) → Among (c, a) (operands k e.kind) → IfErr r (λ f. IsLimit f ⊎ Faulty k Formula e f)
  one_tail c a h at = if_err r (λ f. IsLimit f ⊎ Faulty k c a f) (λ f. IsLimit f ⊎ Faulty k Formula e f) (λ g. elim [ inl l ↦ inl l | inr q ↦ inr (in_operand at q) ]) h

  pub two_tail : (c d : Class) (a b : Expr) → IfErr r (λ f. IsLimit f ⊎ (Faulty k c a f ⊎ Faulty k d b f)) → Among (c, a) (operands k e.kind) → Among (d, b) (operands k e.kind) →
      IfErr r (λ f. IsLimit f ⊎ Faulty k Formula e f)
  two_tail c d a b h one two = if_err r (λ f. IsLimit f ⊎ (Faulty k c a f ⊎ Faulty k d b f)) (λ f. IsLimit f ⊎ Faulty k Formula e f) (λ g. of_two k Formula c d e a b g one two) h

  pub one_passed : (c : Class) (a : Expr) (g : Fault) → IsErrAnd r (λ x. x ≡ g) → IsLimit g ⊎ Faulty k c a g → Among (c, a) (operands k e.kind) → IfErr r (λ f. IsLimit f ⊎ Faulty k Formula e f)
  one_passed c a g is h at = passed r g (λ f. IsLimit f ⊎ Faulty k Formula e f) is (elim h [ inl l ↦ inl l | inr q ↦ inr (in_operand at q) ])

  pub two_passed : (c d : Class) (a b : Expr) (g : Fault) → IsErrAnd r (λ x. x ≡ g) → IsLimit g ⊎ (Faulty k c a g ⊎ Faulty k d b g) → Among (c, a) (operands k e.kind) → Among (d, b) (operands k e.kind) →
      IfErr r (λ f. IsLimit f ⊎ Faulty k Formula e f)
  two_passed c d a b g is h one two = passed r g (λ f. IsLimit f ⊎ Faulty k Formula e f) is (of_two k Formula c d e a b g one two h)

  pub round_passed : (g : Fault) → IsErrAnd r (λ x. x ≡ g) → (shape_of k ≡ Some Ring) × g ≡ Round e.span → NeedsEnds e.kind → IfErr r (λ f. IsLimit f ⊎ Faulty k Formula e f)
  round_passed g is h at = passed r g (λ f. IsLimit f ⊎ Faulty k Formula e f) is (inr (subst (Faulty k Formula e) (sym h.1) (goes_round h.0 at)))

  pub unless_err : (P : Type 0) → IfErr r (λ f. IsLimit f ⊎ Faulty k Formula e f) → IfErr r (λ f. IsLimit f ⊎ ((P → ⊥) → Faulty k Formula e f))
  unless_err P h = if_err r (λ f. IsLimit f ⊎ Faulty k Formula e f) (λ f. IsLimit f ⊎ ((P → ⊥) → Faulty k Formula e f)) (λ g. unless k e g) h

-- what is told of a count
pub counted_tail : {A : Type 0} (r : Result A Fault) (k : Signature) (e : Expr) (set : Box Expr Global) (m n : Spanned ℕ) (a : Expr) → e.kind ≡ Count set m n → a ≡ set.value →
    IfErr r (λ f. IsLimit f ⊎ (Miscounted m n f ⊎ Faulty k Set a f)) → IfErr r (λ f. IsLimit f ⊎ Faulty k Formula e f)
counted_tail r k e set m n a shape same h =
    let at : Among (Set, a) (operands k e.kind) = rw (shape, same) (inl refl) in
    if_err r (λ f. IsLimit f ⊎ (Miscounted m n f ⊎ Faulty k Set a f)) (λ f. IsLimit f ⊎ Faulty k Formula e f)
    (λ g. elim [ inl l ↦ inl l | inr q ↦ elim q [ inl x ↦ inr (miscounted set m n shape x) | inr x ↦ inr (in_operand at x) ] ]) h

-- what a quantifier says of its names
pub bound_more : {A : Type 0} (r : Result A Fault) (k : Signature) (sort s : Sort) (x : Name) (xs rest : List Name) (body : Expr) (g : Fault) → IsErrAnd r (λ y. y ≡ g) → xs ≡ x ∷ rest → s ≡ sort →
    IsLimit g ⊎ Faulty (with_names sort rest (named (string_bytes x.text) s k)) Formula body g → IfErr r (λ f. IsLimit f ⊎ Faulty (with_names sort xs k) Formula body f)
bound_more r k sort s x xs rest body g is parts same h = passed r g (λ f. IsLimit f ⊎ Faulty (with_names sort xs k) Formula body f) is
    (subst (λ (l : List Name). IsLimit g ⊎ Faulty (with_names sort l k) Formula body g) (sym parts)
    (subst (λ y. IsLimit g ⊎ Faulty (with_names sort rest (named (string_bytes x.text) y k)) Formula body g) same h))

pub bound_tail : {A : Type 0} (r : Result A Fault) (k : Signature) (e : Expr) (q : Quantifier) (sort : Sort) (names : Vec Name Global) (inside : _) (l : List Name) (b : Expr) →
    e.kind ≡ Bound q sort names inside → l ≡ names.items → b ≡ inside.value → IfErr r (λ f. IsLimit f ⊎ Faulty (with_names sort l k) Formula b f) → IfErr r (λ f. IsLimit f ⊎ Faulty k Formula e f)
bound_tail r k e q sort names inside l b shape items body h = if_err r (λ f. IsLimit f ⊎ Faulty (with_names sort l k) Formula b f) (λ f. IsLimit f ⊎ Faulty k Formula e f)
    (λ g. elim [ inl n ↦ inl n | inr y ↦ inr (in_bound names inside shape (subst (λ x. Faulty (with_names sort names.items k) Formula x g) body (subst (λ (m : List Name). Faulty (with_names sort m k) Formula b g) items y))) ]) h

-- what is told of a call, where as many arguments are given as there are parameters
abbrev pub InCall : Signature → Signature → List Parameter → List Expr → Expr → Fault → Type 0
InCall around k ps xs body f = IsLimit f ⊎ (length ps ≡ length xs → ((c : Class) × ((a : Expr) × (Among (c, a) (as_parameters ps xs) × Faulty around c a f))) ⊎ Faulty (with_parameters ps k) Formula body f)

module _ {A : Type 0} (r : Result A Fault) (around k : Signature) (ps qs : List Parameter) (xs ys : List Expr) (body : Expr) (p : Parameter) (a : Expr) where
  pub call_argument : (g : Fault) → IsErrAnd r (λ y. y ≡ g) → ps ≡ p ∷ qs → xs ≡ a ∷ ys → IsLimit g ⊎ Faulty around (class_of_sort p.sort) a g → IfErr r (λ f. InCall around k ps xs body f)
  call_argument g is one two h =
      let at : Among (class_of_sort p.sort, a) (as_parameters ps xs) = rw (one, two) (inl refl) in
      passed r g (λ f. InCall around k ps xs body f) is (elim h [ inl l ↦ inl l | inr q ↦ inr (λ _. inl (class_of_sort p.sort, (a, (at, q)))) ])

  more : (f : Fault) → InCall around (named (string_bytes p.name.text) p.sort k) qs ys body f → InCall around k (p ∷ qs) (a ∷ ys) body f
  more f (inl l) = inl l
  more f (inr h) = inr (λ same.
      let fewer : length qs ≡ length ys = omega (arith, same) in
      elim (h fewer) [ inl q ↦ inl (q.0, (q.1.0, (inr q.1.1.0, q.1.1.1))) | inr q ↦ inr q ])

  pub call_more : (s : Sort) → ps ≡ p ∷ qs → xs ≡ a ∷ ys → s ≡ p.sort → IfErr r (λ f. InCall around (named (string_bytes p.name.text) s k) qs ys body f) → IfErr r (λ f. InCall around k ps xs body f)
  call_more s one two same h =
      subst (λ (l : List Parameter). IfErr r (λ f. InCall around k l xs body f)) (sym one)
      (subst (λ (l : List Expr). IfErr r (λ f. InCall around k (p ∷ qs) l body f)) (sym two)
      (if_err r (λ f. InCall around (named (string_bytes p.name.text) p.sort k) qs ys body f) (λ f. InCall around k (p ∷ qs) (a ∷ ys) body f) more
      (subst (λ y. IfErr r (λ f. InCall around (named (string_bytes p.name.text) y k) qs ys body f)) same h)))

module _ (k : Signature) (e : Expr) (x : Name) (all : Vec Expr Global) where
  pub call_unknown : e.kind ≡ Call x all → predicate_of k (string_bytes x.text) ≡ None → Faulty k Formula e (NoPredicate x.span)
  call_unknown shape h = no_predicate all shape h

  pub call_count : (p : Predicate) (d : Signature) (m n : ℕ) → e.kind ≡ Call x all → predicate_of k (string_bytes x.text) ≡ Some (p, d) → m ≡ length p.parameters.items → n ≡ length all.items → (m ≡ n → ⊥) →
      Faulty k Formula e (OtherCount m n e.span)
  call_count p d m n shape h i j differs =
      subst (λ y. Faulty k Formula e (OtherCount y n e.span)) (sym i)
      (subst (λ y. Faulty k Formula e (OtherCount (length p.parameters.items) y e.span)) (sym j)
      (other_count all shape h (λ same. differs (i ∙ same ∙ sym j))))

  pub call_tail : {A : Type 0} (r : Result A Fault) (p : Predicate) (d : Signature) (ps : List Parameter) (xs : List Expr) (body : Expr) → e.kind ≡ Call x all → predicate_of k (string_bytes x.text) ≡ Some (p, d) →
      ps ≡ p.parameters.items → xs ≡ all.items → body ≡ p.body → length ps ≡ length xs → IfErr r (λ f. InCall k d ps xs body f) → IfErr r (λ f. IsLimit f ⊎ Faulty k Formula e f)
  call_tail r p d ps xs body shape known i j b same h =
      if_err r (λ f. InCall k d ps xs body f) (λ f. IsLimit f ⊎ Faulty k Formula e f)
      (λ g. elim [
        | inl l ↦ inl l
        | inr t ↦ elim (t same) [
          | inl q ↦ inr (in_argument all shape known (subst (λ (l : List Expr). Among (q.0, q.1.0) (as_parameters p.parameters.items l)) j (subst (λ (l : List Parameter). Among (q.0, q.1.0) (as_parameters l xs)) i q.1.1.0)) q.1.1.1)
          | inr q ↦ inr (in_body all shape known (subst (λ y. Faulty (with_parameters p.parameters.items d) Formula y g) b (subst (λ (l : List Parameter). Faulty (with_parameters l d) Formula body g) i q)))
        ]
      ]) h

pub none_known : {A B : Type 0} (o : Option A) (q : Option B) (F : A → B) → ((x : A) → o ≡ Some x → ⊥) → MatchOption o (q ≡ None) (λ k. q ≡ Some (F k)) → q ≡ None
none_known None q F differs h = h
none_known (Some k) q F differs h = absurd (differs k refl)
