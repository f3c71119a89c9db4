-- The claim of a formula is as long as its shape says.
use Rattle.std.proofs.Common.{◌≡◌, ℕ, ◌+◌, Bool, true, false, cond, not, ◌||◌, Option, Some, None, List, ◌∷◌, ◌++◌, [], length, refl, ◌∙◌, arith, length-append}
use Rattle.claims.specs.Claims.{C, within, before, multiple, not1, and1, single, some}
use Rattle.claims.specs.Rows.{row}
use Rattle.kinds.specs.declared.multiple.Remainder.{Remainder}
use Rattle.kinds.specs.declared.relation.Relation.{Relation}
use Rattle.kinds.specs.declared.relation.Relation.TheVariants.{Within, Single, Next, Before}
use Rattle.formulas.specs.declared.name.Name.{Name}
use Rattle.formulas.specs.declared.name.Name.TheVariants.{OfPlace, OfGroup}
use Rattle.formulas.specs.declared.formula.Place.{Place}
use Rattle.formulas.specs.declared.formula.Group.{Group}
use Rattle.formulas.specs.declared.formula.Formula.{Formula}
use Rattle.formulas.specs.declared.formula.Place.TheVariants.{Named as place, First, Succ', Prev', Least', Most'}
use Rattle.formulas.specs.declared.formula.Group.TheVariants.{Named as group, Empty, Only', Union', Inter', Minus'}
use Rattle.formulas.specs.declared.formula.Formula.TheVariants.{True, Same, Less, In, Sub, Count, Not', And', Or', Implies', Some1', All1', Some2', All2'}
use Rattle.formulas.specs.Names.{names_place, names_group, names, without}
use Rattle.translation.specs.Numbers.{Numbering, numbered, numbers, fresh}
use Rattle.translation.specs.Translation.{signed, or1, some_place, lies, is_first, is_before, is_end, is_sure, is_sure_in, sure, about, behind, is_place, is_in, is_same, each_in, set_within, is_within, within_set, is_set, is_counted, relation_or, claim_as}
use Rattle.translation.specs.OnePlace.{relation_of}
use Rattle.translation.specs.Settles.{singles}
use Rattle.formula_claims.specs.Lengths.{sign_length, some_length, about_length, behind_length, place_length, group_length, same_length, each_length, set_within_length, within_length, within_set_length, counted_length, or_length, formula_length, places_length}

abbrev bytes : C → ℕ
bytes c = length (row c)

signed_bytes : (b : Bool) (c : C) (i : ℕ) → bytes c ≡ i → bytes (signed b c) ≡ i + sign_length b
signed_bytes true c i p = omega arith
signed_bytes false c i p = omega arith

some_bytes : (b : Bool) (m : ℕ) (c : C) (i : ℕ) → bytes c ≡ i → bytes (some_place b m c) ≡ i + some_length b
some_bytes true m c i p = omega arith
some_bytes false m c i p = omega arith

and_bytes : (c d : C) → bytes (and1 c d) ≡ bytes c + bytes d + 1
and_bytes c d = simp length-append (omega arith)

or_bytes : (c d : C) → bytes (or1 c d) ≡ bytes c + bytes d + 4
or_bytes c d = simp length-append (omega arith)

end_bytes : (m n : ℕ) (in_n : C) (b : Bool) (in_m beyond : C) → bytes (is_end m n in_n b in_m beyond) ≡ bytes in_n + bytes beyond + bytes in_m + bytes in_m + 17 + some_length b
end_bytes m n in_n b in_m beyond =
    let p = some_bytes b m in_m (bytes in_m) refl in
    let q = and_bytes beyond in_m in
    let r = and_bytes in_n (not1 (some m (and1 beyond in_m))) in
    or_bytes (and1 in_n (not1 (some m (and1 beyond in_m)))) (and1 (is_first m n) (not1 (some_place b m in_m))) ∙ omega arith

about_bytes : (ρ : Numbering) (t : Place) (m : ℕ) (is_t : C) (b : Bool) (c : ℕ → C) (i l : ℕ) → bytes is_t ≡ i → ((x : ℕ) → bytes (c x) ≡ l) → bytes (about ρ t m is_t b c) ≡ about_length t i b l
about_bytes ρ (place x) m is_t b c i l p q = q (ρ (OfPlace x))
about_bytes ρ t m is_t b c i l p q = let r = q m in some_bytes (is_sure t || b) m (and1 is_t (c m)) (i + l + 1) (and_bytes is_t (c m) ∙ omega arith)

behind_bytes : (ρ : Numbering) (t : Place) (m : ℕ) (is_t : C) (n i : ℕ) → bytes is_t ≡ i → bytes (behind ρ t m is_t n) ≡ behind_length t i
behind_bytes ρ (place x) m is_t n i p = refl
behind_bytes ρ t m is_t n i p = simp length-append (omega arith)

mutual
  pub place_bytes : (t : Place) (ρ : Numbering) (n : ℕ) → bytes (is_place t ρ n) ≡ place_length t
  place_bytes (place x) ρ n = refl
  place_bytes First ρ n = refl
  place_bytes (Succ' _ t) ρ n = let m = fresh (n ∷ numbers ρ (names_place t)) in behind_bytes ρ t m (is_place t ρ m) n (place_length t) (place_bytes t ρ m)
  place_bytes (Prev' _ t) ρ n = let m = fresh (n ∷ numbers ρ (names_place t)) in about_bytes ρ t m (is_place t ρ m) false (is_before (fresh (n ∷ [])) n) (place_length t) 20 (place_bytes t ρ m) (λ x. refl)
  place_bytes (Least' _ s) ρ n =
      let m = fresh (n ∷ numbers ρ (names_group s)) in
      let p = group_bytes s ρ n in
      let q = group_bytes s ρ m in
      end_bytes m n (is_in s ρ n) (is_sure_in s) (is_in s ρ m) (before m n) ∙ omega arith
  place_bytes (Most' _ s) ρ n =
      let m = fresh (n ∷ numbers ρ (names_group s)) in
      let p = group_bytes s ρ n in
      let q = group_bytes s ρ m in
      end_bytes m n (is_in s ρ n) (is_sure_in s) (is_in s ρ m) (before n m) ∙ omega arith

  pub group_bytes : (s : Group) (ρ : Numbering) (n : ℕ) → bytes (is_in s ρ n) ≡ group_length s
  group_bytes (group x) ρ n = refl
  group_bytes Empty ρ n = refl
  group_bytes (Only' _ t) ρ n = place_bytes t ρ n
  group_bytes (Union' _ s _ t) ρ n = let p = group_bytes s ρ n in let q = group_bytes t ρ n in simp length-append (omega arith)
  group_bytes (Inter' _ s _ t) ρ n = let p = group_bytes s ρ n in let q = group_bytes t ρ n in simp length-append (omega arith)
  group_bytes (Minus' _ s _ t) ρ n = let p = group_bytes s ρ n in let q = group_bytes t ρ n in simp length-append (omega arith)

each_bytes : (ρ : Numbering) (b : Bool) (c : C) (t : Group) (m i : ℕ) → bytes c ≡ i → bytes (each_in ρ b c t m) ≡ each_length b i t
each_bytes ρ b c t m i p =
    let q = group_bytes t ρ m in
    let r = some_bytes b m (and1 c (not1 (is_in t ρ m))) (i + group_length t + 2) (and_bytes c (not1 (is_in t ρ m)) ∙ omega arith) in
    omega arith

set_within_bytes : (ρ : Numbering) (n : ℕ) (t : Group) (m : ℕ) → bytes (set_within ρ n t m) ≡ set_within_length t
set_within_bytes ρ n (group y) m = refl
set_within_bytes ρ n Empty m = refl
set_within_bytes ρ n (Only' _ (place y)) m = refl
set_within_bytes ρ n (Inter' _ s _ t) m = let p = set_within_bytes ρ n s m in let q = set_within_bytes ρ n t m in and_bytes (set_within ρ n s m) (set_within ρ n t m) ∙ omega arith
set_within_bytes ρ n t m = each_bytes ρ true (lies m n) t m 6 refl

within_bytes : (ρ : Numbering) (s t : Group) (m : ℕ) → bytes (is_within ρ s t m) ≡ within_length s t
within_bytes ρ (group x) t m = set_within_bytes ρ (ρ (OfGroup x)) t m
within_bytes ρ Empty t m = refl
within_bytes ρ (Only' _ (place x)) t m = set_within_bytes ρ (ρ (OfPlace x)) t m
within_bytes ρ (Union' _ r _ s) t m = let p = within_bytes ρ r t m in let q = within_bytes ρ s t m in and_bytes (is_within ρ r t m) (is_within ρ s t m) ∙ omega arith
within_bytes ρ s t m = each_bytes ρ (is_sure_in s) (is_in s ρ m) t m (group_length s) (group_bytes s ρ m)

within_set_bytes : (ρ : Numbering) (s : Group) (n m : ℕ) → bytes (within_set ρ s n m) ≡ within_set_length s
within_set_bytes ρ s n m =
    let c = and1 (is_in s ρ m) (not1 (lies m n)) in
    let p = group_bytes s ρ m in
    let q = some_bytes (is_sure_in s) m c (group_length s + 8) (and_bytes (is_in s ρ m) (not1 (lies m n)) ∙ omega arith) in
    omega arith

set_counted_bytes : (ρ : Numbering) (s : Group) (r : Remainder) (m n : ℕ) → bytes (some m (and1 (is_set ρ s m n) (multiple (record { remainder = r; set = m })))) ≡ set_within_length s + within_set_length s + 8
set_counted_bytes ρ s r m n =
    let c = set_within ρ m s n in
    let d = within_set ρ s m n in
    let k = multiple (record { remainder = r; set = m }) in
    let p = set_within_bytes ρ m s n in
    let q = within_set_bytes ρ s m n in
    let u = and_bytes c d in
    let w = and_bytes (and1 c d) k in
    omega arith

counted_bytes : (ρ : Numbering) (s : Group) (r : Remainder) (m n : ℕ) → bytes (is_counted ρ s r m n) ≡ counted_length s
counted_bytes ρ (group x) r m n = refl
counted_bytes ρ s r m n = set_counted_bytes ρ s r m n

same_bytes : (ρ : Numbering) (s t : Place) (m : ℕ) → bytes (is_same ρ s t m) ≡ same_length s t
same_bytes ρ (place x) t m = place_bytes t ρ (ρ (OfPlace x))
same_bytes ρ s t m = about_bytes ρ t m (is_place t ρ m) (is_sure s) (λ b. is_place s ρ b) (place_length t) (place_length s) (place_bytes t ρ m) (λ b. place_bytes s ρ b)

less_bytes : (s t : Place) (ρ : Numbering) → bytes (claim_as (Less s t) true ρ) ≡ about_length s (place_length s) true (about_length t (place_length t) true 3)
less_bytes s t ρ =
    let l = numbers ρ (names_place s ++ names_place t) in
    let m = fresh l in
    let n = fresh (m ∷ l) in
    about_bytes ρ s m (is_place s ρ m) true (λ a. about ρ t n (is_place t ρ n) true (λ b. before a b)) (place_length s) (about_length t (place_length t) true 3) (place_bytes s ρ m)
    (λ a. about_bytes ρ t n (is_place t ρ n) true (λ b. before a b) (place_length t) 3 (place_bytes t ρ n) (λ b. refl))

in_bytes : (t : Place) (s : Group) (ρ : Numbering) → bytes (claim_as (In t s) true ρ) ≡ about_length t (place_length t) (is_sure_in s) (group_length s)
in_bytes t s ρ =
    let m = fresh (numbers ρ (names_place t ++ names_group s)) in
    about_bytes ρ t m (is_place t ρ m) (is_sure_in s) (λ a. is_in s ρ a) (place_length t) (group_length s) (place_bytes t ρ m) (λ a. group_bytes s ρ a)

-- two claims together, each of its length
both_bytes : (b : Bool) (c d : C) (i j : ℕ) → bytes c ≡ i → bytes d ≡ j → bytes (signed b (and1 c d)) ≡ i + j + 1 + sign_length b
both_bytes b c d i j p q = signed_bytes b (and1 c d) (i + j + 1) (and_bytes c d ∙ omega arith)

relation_bytes : (p : Option Relation) (ρ : Numbering) (c : C) (i : ℕ) → bytes c ≡ i → bytes (relation_or p ρ c) ≡ or_length p i
relation_bytes None ρ c i q = q
relation_bytes (Some (Within y z)) ρ c i q = refl
relation_bytes (Some (Single y)) ρ c i q = refl
relation_bytes (Some (Next y z)) ρ c i q = refl
relation_bytes (Some (Before y z)) ρ c i q = refl

pub formula_bytes : (a : Formula) (b : Bool) (ρ : Numbering) → bytes (claim_as a b ρ) ≡ formula_length a b
formula_bytes True b ρ = signed_bytes b (within 0 0) 3 refl
formula_bytes (Same s t) b ρ = let m = fresh (numbers ρ (names_place s ++ names_place t)) in signed_bytes b (is_same ρ s t m) (same_length s t) (same_bytes ρ s t m)
formula_bytes (Less s t) b ρ = signed_bytes b (claim_as (Less s t) true ρ) (about_length s (place_length s) true (about_length t (place_length t) true 3)) (less_bytes s t ρ)
formula_bytes (In t s) b ρ = signed_bytes b (claim_as (In t s) true ρ) (about_length t (place_length t) (is_sure_in s) (group_length s)) (in_bytes t s ρ)
formula_bytes (Sub s t) b ρ = let m = fresh (numbers ρ (names_group s ++ names_group t)) in signed_bytes b (is_within ρ s t m) (within_length s t) (within_bytes ρ s t m)
formula_bytes (Count s r) b ρ = let l = numbers ρ (names_group s) in let m = fresh l in let n = fresh (m ∷ l) in signed_bytes b (is_counted ρ s r m n) (counted_length s) (counted_bytes ρ s r m n)
formula_bytes (Not' _ a) b ρ = formula_bytes a (not b) ρ
formula_bytes (And' _ a _ c) b ρ = both_bytes b (claim_as a true ρ) (claim_as c true ρ) (formula_length a true) (formula_length c true) (formula_bytes a true ρ) (formula_bytes c true ρ)
formula_bytes (Or' _ a _ c) b ρ = both_bytes (not b) (claim_as a false ρ) (claim_as c false ρ) (formula_length a false) (formula_length c false) (formula_bytes a false ρ) (formula_bytes c false ρ)
formula_bytes (Implies' _ a _ c) b ρ = both_bytes (not b) (claim_as a true ρ) (claim_as c false ρ) (formula_length a true) (formula_length c false) (formula_bytes a true ρ) (formula_bytes c false ρ)
formula_bytes (Some1' x _ a) b ρ =
    let m = fresh (numbers ρ (without (OfPlace x) (names a))) in
    let c = claim_as a true (numbered ρ (OfPlace x) m) in
    let i = formula_length a true + some_length (sure a true x) in
    signed_bytes b (relation_or (relation_of x a) ρ (some_place (sure a true x) m c)) (or_length (relation_of x a) i) (relation_bytes (relation_of x a) ρ (some_place (sure a true x) m c) i
    (some_bytes (sure a true x) m c (formula_length a true) (formula_bytes a true (numbered ρ (OfPlace x) m))))
formula_bytes (All1' x _ a) b ρ =
    let m = fresh (numbers ρ (without (OfPlace x) (names a))) in
    let c = claim_as a false (numbered ρ (OfPlace x) m) in
    signed_bytes (not b) (some_place (sure a false x) m c) (formula_length a false + some_length (sure a false x)) (some_bytes (sure a false x) m c (formula_length a false) (formula_bytes a false (numbered ρ (OfPlace x) m)))
formula_bytes (Some2' x _ a) b ρ =
    let m = fresh (numbers ρ (without (OfGroup x) (names a))) in
    let c = claim_as a true (numbered ρ (OfGroup x) m) in
    let p = formula_bytes a true (numbered ρ (OfGroup x) m) in
    signed_bytes b (some m c) (formula_length a true + 2) (omega arith)
formula_bytes (All2' x _ a) b ρ =
    let m = fresh (numbers ρ (without (OfGroup x) (names a))) in
    let c = claim_as a false (numbered ρ (OfGroup x) m) in
    let p = formula_bytes a false (numbered ρ (OfGroup x) m) in
    signed_bytes (not b) (some m c) (formula_length a false + 2) (omega arith)

pub singles_bytes : (ρ : Numbering) (a : Formula) (l : List Name) (c : C) → bytes (singles ρ a l c) ≡ bytes c + places_length a l
singles_bytes ρ a [] c = omega arith
singles_bytes ρ a (OfPlace x ∷ l) c = at (sure a true x) (λ d. singles_bytes ρ a l d)
  where
    at : (b : Bool) → ((d : C) → bytes (singles ρ a l d) ≡ bytes d + places_length a l) →
        bytes (singles ρ a l (cond b c (and1 (single (ρ (OfPlace x))) c))) ≡ bytes c + (places_length a l + cond b 0 3)
    at true r = let q = r c in omega arith
    at false r = let q = r (and1 (single (ρ (OfPlace x))) c) in omega arith
singles_bytes ρ a (OfGroup x ∷ l) c = singles_bytes ρ a l c
