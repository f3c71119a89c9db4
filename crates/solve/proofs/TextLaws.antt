-- A text says the same of places and sets that its declared names cannot tell apart.
use Rattle.std.proofs.Common.{◌≡◌, ℕ, suc, List, [], ◌∷◌, ◌++◌, map, refl, ap, ◌∙◌}
use Rattle.formulas.specs.Meaning.{Env}
use Rattle.trees.specs.declared.tree.Name.{Name}
use Rattle.trees.specs.Tree.{Expr}
use Rattle.trees.specs.declared.tree.Sort.{Sort}
use Rattle.trees.specs.declared.tree.Item.{Item}
use Rattle.trees.specs.declared.tree.Item.TheVariants.{Free, Row, Predicate as defined, Assert, Formula}
use Rattle.trees.specs.declared.tree.Sort.TheVariants.{Place, Set}
use Rattle.resolve.specs.Says.{Context, Text, holds, bind, place, set, ending, in_row, define, given, declare, count, text_from}
use Rattle.resolve.specs.Kinds.{kind_of}
use Rattle.resolve.specs.declared.scope.Kind.{Kind}
use Rattle.resolve.specs.declared.scope.Kind.TheVariants as kind
use Rattle.resolve.specs.Asks.{declared}

-- what a declared name stands for is the same in e and f
abbrev pub Same : Kind → ℕ → Env → Env → Type 0
Same kind.Place n e f = e.places n ≡ f.places n
Same kind.Set n e f = e.groups n ≡ f.groups n
Same kind.Row n e f = e.groups n ≡ f.groups n

-- the names, numbered from n on, are given the same by e and f
abbrev pub Alike : ℕ → List (Name × Kind) → Env → Env → Type 0
Alike n [] e f = Unit {0}
Alike n (d ∷ l) e f = Same d.1 n e f × Alike (suc n) l e f

given_same : (sort : Sort) (n : ℕ) (e f : Env) → Same (kind_of sort) n e f → given sort n e ≡ given sort n f
given_same Place n e f h = ap place h
given_same Set n e f h = ap set h

alike_behind : (sort : Sort) (names : List Name) (l : List (Name × Kind)) (n : ℕ) (e f : Env) →
    Alike n (map (λ x. (x, kind_of sort)) names ++ l) e f → Alike (count n names) l e f
alike_behind sort [] l n e f h = h
alike_behind sort (x ∷ names) l n e f h = alike_behind sort names l (suc n) e f h.1

declare_same : (sort : Sort) (names : List Name) (l : List (Name × Kind)) (n : ℕ) (e f : Env) (s t : Context) →
    Alike n (map (λ x. (x, kind_of sort)) names ++ l) e f → s ≡ t → declare sort names n e s ≡ declare sort names n f t
declare_same sort [] l n e f s t h q = q
declare_same sort (x ∷ names) l n e f s t h q =
    declare_same sort names l (suc n) e f (bind x (given sort n e) s) (bind x (given sort n f) t) h.1
    (ap (λ v. bind x v s) (given_same sort n e f h.0) ∙ ap (λ c. bind x (given sort n f) c) q)

abbrev assuming : Expr → Context → Text → Text
assuming a s r = record { assumed = holds a.kind s × r.assumed; claimed = r.claimed }

abbrev claiming : Expr → Context → Text → Text
claiming a s r = record { assumed = r.assumed; claimed = holds a.kind s × r.claimed }

pub text_same : (items : List Item) (n : ℕ) (e f : Env) (s t : Context) → Alike n (declared items) e f → s ≡ t → text_from items n e s ≡ text_from items n f t
text_same [] n e f s t h q = refl
text_same (Free sort names ∷ items) n e f s t h q =
    text_same items (count n names.items) e f (declare sort names.items n e s) (declare sort names.items n f t)
    (alike_behind sort names.items (declared items) n e f h) (declare_same sort names.items (declared items) n e f s t h q)
text_same (Row r ∷ items) n e f s t h q =
    text_same items (suc n) e f (in_row r n e s) (in_row r n f t) h.1
    (ap (λ u. ending r.ends u (bind r.places (set u) s)) h.0 ∙ ap (λ c. ending r.ends (f.groups n) (bind r.places (set (f.groups n)) c)) q)
text_same (defined p ∷ items) n e f s t h q = text_same items n e f (define p s) (define p t) h (ap (λ c. define p c) q)
text_same (Assert a ∷ items) n e f s t h q =
    ap (λ c. assuming a c (text_from items n e s)) q ∙ ap (λ r. assuming a t r) (text_same items n e f s t h q)
text_same (Formula a ∷ items) n e f s t h q =
    ap (λ c. claiming a c (text_from items n e s)) q ∙ ap (λ r. claiming a t r) (text_same items n e f s t h q)
