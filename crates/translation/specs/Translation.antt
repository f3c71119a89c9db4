-- The claim that is made of a formula. A place is the set of it alone. A name that a quantifier binds gets the lowest number that no set has which its part speaks of.
-- Two things are not said twice: that a set is a place where what is claimed of it says so already (is_sure, is_sure_in, sure), and the opposite of an opposite (claim_as).
use Rattle.std.specs.Prelude.{ℕ, Bool, true, false, not, ◌&&◌, ◌||◌, Option, Some, None, is_none, [], ◌∷◌, ◌++◌, ◌==◌}
use Rattle.claims.specs.Claims.{C, within, single, next, before, multiple, not1, and1, some}
use Rattle.kinds.specs.declared.multiple.Remainder.{Remainder}
use Rattle.kinds.specs.declared.relation.Relation.{Relation}
use Rattle.formulas.specs.declared.name.Name.TheVariants.{OfPlace, OfGroup}
use Rattle.formulas.specs.declared.formula.Place.{Place}
use Rattle.formulas.specs.declared.formula.Group.{Group}
use Rattle.formulas.specs.declared.formula.Formula.{Formula}
use Rattle.formulas.specs.declared.formula.Place.TheVariants.{Named as place, First, Succ', Prev', Least', Most'}
use Rattle.formulas.specs.declared.formula.Group.TheVariants.{Named as group, Empty, Only', Union', Inter', Minus'}
use Rattle.formulas.specs.declared.formula.Formula.TheVariants.{True, Same, Less, In, Sub, Count, Not', And', Or', Implies', Some1', All1', Some2', All2'}
use Rattle.formulas.specs.Names.{names_place, names_group, names, without}
use Rattle.translation.specs.Numbers.{Numbering, numbered, numbers, fresh}
use Rattle.translation.specs.OnePlace.{is_named, relation_of, claim_of}

-- a claim, or its opposite
abbrev pub signed : Bool → C → C
signed true c = c
signed false c = not1 c

abbrev pub or1 : C → C → C
or1 c d = not1 (and1 (not1 c) (not1 d))

-- there is a place that, as set m, makes c hold; that it is a place is not said where c is sure of it, which is to say holds only if set m is a place
abbrev pub some_place : Bool → ℕ → C → C
some_place true m c = some m c
some_place false m c = some m (and1 (single m) c)

-- set n is a place of set b; that it is a place is said each time, so that few classes are told apart
abbrev pub lies : ℕ → ℕ → C
lies n b = and1 (single n) (within n b)

-- set n, if it is a place, is place 0: it comes behind no place, tried as set m
abbrev pub is_first : ℕ → ℕ → C
is_first m n = not1 (some m (next m n))

-- set n, if it is a place, is the one before the place b: the one that b comes behind, or b itself if b is place 0; m is another number
abbrev pub is_before : ℕ → ℕ → ℕ → C
is_before m n b = or1 (next n b) (and1 (lies n b) (is_first m n))

-- set n, if it is a place, is the end of a set of whose places in_n says that n is one, in_m, sure of set m or not, that m is, and beyond that m is a place further out than n; of an empty set place 0
abbrev pub is_end : ℕ → ℕ → C → Bool → C → C → C
is_end m n in_n sure_m in_m beyond = or1 (and1 in_n (not1 (some m (and1 beyond in_m)))) (and1 (is_first m n) (not1 (some_place sure_m m in_m)))

-- whether the claim that a set is the place, below, is sure of the set
abbrev pub is_sure : Place → Bool
is_sure (place x) = true
is_sure First = false
is_sure (Succ' _ t) = true
is_sure (Prev' _ t) = false
is_sure (Least' _ s) = false
is_sure (Most' _ s) = false

-- and the claim that it lies in the set
abbrev pub is_sure_in : Group → Bool
is_sure_in (group x) = true
is_sure_in Empty = true
is_sure_in (Only' _ t) = is_sure t
is_sure_in (Union' _ s _ t) = is_sure_in s && is_sure_in t
is_sure_in (Inter' _ s _ t) = is_sure_in s || is_sure_in t
is_sure_in (Minus' _ s _ t) = is_sure_in s

-- c of the place t: of its own set if it has a name, else of set m, which is_t says to be it; sure_c says whether c is sure of its set
abbrev pub about : Numbering → Place → ℕ → C → Bool → (ℕ → C) → C
about ρ (place x) m is_t sure_c c = c (ρ (OfPlace x))
about ρ t m is_t sure_c c = some_place (is_sure t || sure_c) m (and1 is_t (c m))

-- set n is the place behind t; m and is_t as above
abbrev pub behind : Numbering → Place → ℕ → C → ℕ → C
behind ρ (place x) m is_t n = next (ρ (OfPlace x)) n
behind ρ t m is_t n = some m (and1 is_t (next m n))

abbrev mutual
  -- set n, if it is a place, is the place t
  pub is_place : Place → Numbering → ℕ → C
  is_place (place x) ρ n = lies n (ρ (OfPlace x))
  is_place First ρ n = is_first (fresh (n ∷ [])) n
  is_place (Succ' _ t) ρ n =
      let m = fresh (n ∷ numbers ρ (names_place t)) in
      behind ρ t m (is_place t ρ m) n
  is_place (Prev' _ t) ρ n =
      let m = fresh (n ∷ numbers ρ (names_place t)) in
      about ρ t m (is_place t ρ m) false (is_before (fresh (n ∷ [])) n)
  is_place (Least' _ s) ρ n =
      let m = fresh (n ∷ numbers ρ (names_group s)) in
      is_end m n (is_in s ρ n) (is_sure_in s) (is_in s ρ m) (before m n)
  is_place (Most' _ s) ρ n =
      let m = fresh (n ∷ numbers ρ (names_group s)) in
      is_end m n (is_in s ρ n) (is_sure_in s) (is_in s ρ m) (before n m)

  -- set n, if it is a place, is in the set s
  pub is_in : Group → Numbering → ℕ → C
  is_in (group x) ρ n = lies n (ρ (OfGroup x))
  is_in Empty ρ n = not1 (within n n)
  is_in (Only' _ t) ρ n = is_place t ρ n
  is_in (Union' _ s _ t) ρ n = or1 (is_in s ρ n) (is_in t ρ n)
  is_in (Inter' _ s _ t) ρ n = and1 (is_in s ρ n) (is_in t ρ n)
  is_in (Minus' _ s _ t) ρ n = and1 (is_in s ρ n) (not1 (is_in t ρ n))

-- s and t are the same place; m is tried for a place without a name, where both have none
abbrev pub is_same : Numbering → Place → Place → ℕ → C
is_same ρ (place x) t m = is_place t ρ (ρ (OfPlace x))
is_same ρ s t m = about ρ t m (is_place t ρ m) (is_sure s) (λ b. is_place s ρ b)

-- every place, tried as set m, of which in_m says that it is in a set, sure of set m or not, is one of t
abbrev pub each_in : Numbering → Bool → C → Group → ℕ → C
each_in ρ sure_m in_m t m = not1 (some_place sure_m m (and1 in_m (not1 (is_in t ρ m))))

-- every place of set n is one of t: where t has a set of its own, being a name's or one place with a name, or no places, it is said of the sets themselves, and of an intersection of both its sets
abbrev pub set_within : Numbering → ℕ → Group → ℕ → C
set_within ρ n (group y) m = within n (ρ (OfGroup y))
set_within ρ n Empty m = not1 (some m (not1 (within n m)))
set_within ρ n (Only' _ (place y)) m = within n (ρ (OfPlace y))
set_within ρ n (Inter' _ s _ t) m = and1 (set_within ρ n s m) (set_within ρ n t m)
set_within ρ n t m = each_in ρ true (lies m n) t m

-- every place of s is one of t: of a union it is said of both its sets
abbrev pub is_within : Numbering → Group → Group → ℕ → C
is_within ρ (group x) t m = set_within ρ (ρ (OfGroup x)) t m
is_within ρ Empty t m = within 0 0
is_within ρ (Only' _ (place x)) t m = set_within ρ (ρ (OfPlace x)) t m
is_within ρ (Union' _ r _ s) t m = and1 (is_within ρ r t m) (is_within ρ s t m)
is_within ρ s t m = each_in ρ (is_sure_in s) (is_in s ρ m) t m

-- and every place of s, tried as set m, is one of set n
abbrev pub within_set : Numbering → Group → ℕ → ℕ → C
within_set ρ s n m = not1 (some_place (is_sure_in s) m (and1 (is_in s ρ m) (not1 (lies m n))))

-- set m has the places of s, tried as set n, and no others
abbrev pub is_set : Numbering → Group → ℕ → ℕ → C
is_set ρ s m n = and1 (set_within ρ m s n) (within_set ρ s m n)

-- s has as many places as the remainder says: it is said of its own set if it has a name, else of a set m that has its places
abbrev pub is_counted : Numbering → Group → Remainder → ℕ → ℕ → C
is_counted ρ (group x) r m n = multiple (record { remainder = r; set = ρ (OfGroup x) })
is_counted ρ s r m n = some m (and1 (is_set ρ s m n) (multiple (record { remainder = r; set = m })))

-- whether the claim that both are the same place, above, is sure of the set of the place x: the place that has a name, the first if both have, is said to be the other
abbrev pub sure_same : ℕ → Place → Place → Bool
sure_same x (place y) t = y == x && is_sure t
sure_same x s t = is_named x t && is_sure s

-- whether the claim of the formula, if b is true, or of its opposite, below, is sure of the set of the place x
abbrev pub sure : Formula → Bool → ℕ → Bool
sure True b x = false
sure (Same s t) b x = b && sure_same x s t
sure (Less s t) b x = b && (is_named x s || is_named x t)
sure (In t s) b x = b && (is_named x t && is_sure_in s)
sure (Sub s t) b x = false
sure (Count s r) b x = false
sure (Not' _ a) b x = sure a (not b) x
sure (And' _ a _ c) b x = b && (sure a true x || sure c true x)
sure (Or' _ a _ c) b x = not b && (sure a false x || sure c false x)
sure (Implies' _ a _ c) b x = not b && (sure a true x || sure c false x)
sure (Some1' y _ a) b x = b && (is_none (relation_of y a) && (not (x == y) && sure a true x))
sure (All1' y _ a) b x = not b && (not (x == y) && sure a false x)
sure (Some2' y _ a) b x = b && sure a true x
sure (All2' y _ a) b x = not b && sure a false x

-- the claim of the relation, if there is one, else c
abbrev pub relation_or : Option Relation → Numbering → C → C
relation_or (Some a) ρ c = claim_of ρ a
relation_or None ρ c = c

-- the claim of the formula, if b is true, or of its opposite
abbrev pub claim_as : Formula → Bool → Numbering → C
claim_as True b ρ = signed b (within 0 0)
claim_as (Same s t) b ρ = signed b (is_same ρ s t (fresh (numbers ρ (names_place s ++ names_place t))))
claim_as (Less s t) b ρ =
    let l = numbers ρ (names_place s ++ names_place t) in
    let m = fresh l in
    let n = fresh (m ∷ l) in
    signed b (about ρ s m (is_place s ρ m) true (λ a. about ρ t n (is_place t ρ n) true (λ b. before a b)))
claim_as (In t s) b ρ =
    let m = fresh (numbers ρ (names_place t ++ names_group s)) in
    signed b (about ρ t m (is_place t ρ m) (is_sure_in s) (λ a. is_in s ρ a))
claim_as (Sub s t) b ρ = signed b (is_within ρ s t (fresh (numbers ρ (names_group s ++ names_group t))))
claim_as (Count s r) b ρ =
    let l = numbers ρ (names_group s) in
    let m = fresh l in
    signed b (is_counted ρ s r m (fresh (m ∷ l)))
claim_as (Not' _ a) b ρ = claim_as a (not b) ρ
claim_as (And' _ a _ c) b ρ = signed b (and1 (claim_as a true ρ) (claim_as c true ρ))
claim_as (Or' _ a _ c) b ρ = signed (not b) (and1 (claim_as a false ρ) (claim_as c false ρ))
claim_as (Implies' _ a _ c) b ρ = signed (not b) (and1 (claim_as a true ρ) (claim_as c false ρ))
claim_as (Some1' x _ a) b ρ =
    let m = fresh (numbers ρ (without (OfPlace x) (names a))) in
    signed b (relation_or (relation_of x a) ρ (some_place (sure a true x) m (claim_as a true (numbered ρ (OfPlace x) m))))
claim_as (All1' x _ a) b ρ =
    let m = fresh (numbers ρ (without (OfPlace x) (names a))) in
    signed (not b) (some_place (sure a false x) m (claim_as a false (numbered ρ (OfPlace x) m)))
claim_as (Some2' x _ a) b ρ =
    let m = fresh (numbers ρ (without (OfGroup x) (names a))) in
    signed b (some m (claim_as a true (numbered ρ (OfGroup x) m)))
claim_as (All2' x _ a) b ρ =
    let m = fresh (numbers ρ (without (OfGroup x) (names a))) in
    signed (not b) (some m (claim_as a false (numbered ρ (OfGroup x) m)))

abbrev pub claim : Formula → Numbering → C
claim a ρ = claim_as a true ρ
