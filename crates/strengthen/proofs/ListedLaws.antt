-- The claims of a list by their numbers: their names, and what holds of a row where they all do.
use Rattle.std.proofs.Common.{◌≡◌, ℕ, zero, suc, ◌<◌, ◌≤◌, T, ltb, ◌↔◌, List, [], ◌∷◌, ◌++◌, get_or, length, refl, sym, subst, inl, inr, arith}
use Rattle.words.specs.Words.{Word, Columns}
use Rattle.formulas.specs.declared.formula.Formula.{Formula}
use Rattle.formulas.specs.declared.formula.Formula.TheVariants.{True}
use Rattle.formulas.specs.Names.{names, Among}
use Rattle.rows.specs.Limits.{names_of}
use Rattle.rows.specs.Faults.{limits_ok}
use Rattle.keeping.specs.Breaches.{names_ok}
use Rattle.keeping.specs.Kept.{OfRow}
use Rattle.rules.proofs.ChangedLaws.{is_true, true_is}
use Rattle.strengthening.specs.Choices.{AllHold, chosen}
use Rattle.strengthen.specs.Listed.{Below, Has, claim_at, claims_with}
use Rattle.strengthen.specs.declared.listed.Listed.{Listed}
use Rattle.strengthen.proofs.FollowLaws.{names_apart}

pub listed_names : (b : ℕ) (qs : List Formula) → T (limits_ok b qs) → (i : ℕ) → i < length qs → T (names_ok b (get_or qs i True))
listed_names b [] t i h = let z : ⊥ = omega arith in absurd z
listed_names b (q ∷ qs) t zero h = (names_apart (λ x. ltb x (suc b)) (names q) (names_of qs) t).0
listed_names b (q ∷ qs) t (suc i) h = listed_names b qs (names_apart (λ x. ltb x (suc b)) (names q) (names_of qs) t).1 i (omega arith)

module _ (g : Listed) where
  pub claim_names : (j : ℕ) → j ≤ length g.helpers.now → T (names_ok g.keeping.now.rule.now.bits (claim_at g j))
  claim_names zero h = is_true _ g.keeping.now.names
  claim_names (suc i) h = listed_names g.keeping.now.rule.now.bits g.helpers.now (is_true _ g.names) i (omega arith)

-- those chosen hold of a row exactly if each does whose number is among them
pub chosen_one : (b : ℕ) (qs : List Formula) (is : List ℕ) (w : Word) → AllHold b (chosen qs is) w → (i : ℕ) → Among i is → OfRow b (get_or qs i True) w
chosen_one b qs [] w h i m = absurd m
chosen_one b qs (j ∷ is) w h i (inl e) = subst (λ z. OfRow b (get_or qs z True) w) (sym e) h.0
chosen_one b qs (j ∷ is) w h i (inr m) = chosen_one b qs is w h.1 i m

pub chosen_all : (b : ℕ) (qs : List Formula) (is : List ℕ) (w : Word) → ((i : ℕ) → Among i is → OfRow b (get_or qs i True) w) → AllHold b (chosen qs is) w
chosen_all b qs [] w h = tt
chosen_all b qs (i ∷ is) w h = (h i (inl refl), chosen_all b qs is w (λ j m. h j (inr m)))

pub claim_holds : (g : Listed) (is : List ℕ) (w : Word) → AllHold g.keeping.now.rule.now.bits (claims_with g is) w → (j : ℕ) → Has is j → OfRow g.keeping.now.rule.now.bits (claim_at g j) w
claim_holds g is w h zero m = h.0
claim_holds g is w h (suc i) m = chosen_one g.keeping.now.rule.now.bits g.helpers.now is w h.1 i m

pub among_below : (n : ℕ) (is : List ℕ) → Below n is → (i : ℕ) → Among i is → i < n
among_below n [] h i m = absurd m
among_below n (j ∷ is) h i (inl e) = (let z = h.0 in omega (arith, e))
among_below n (j ∷ is) h i (inr m) = among_below n is h.1 i m

-- one number more
pub below_push : (n : ℕ) (is : List ℕ) (i : ℕ) → Below n is → i < n → Below n (is ++ (i ∷ []))
below_push n [] i h l = (l, tt)
below_push n (j ∷ is) i h l = (h.0, below_push n is i h.1 l)

pub among_left : (is : List ℕ) (j i : ℕ) → Among i is → Among i (is ++ (j ∷ []))
among_left [] j i m = absurd m
among_left (x ∷ is) j i (inl e) = inl e
among_left (x ∷ is) j i (inr m) = inr (among_left is j i m)

pub among_last : (is : List ℕ) (i : ℕ) → Among i (is ++ (i ∷ []))
among_last [] i = inl refl
among_last (x ∷ is) i = inr (among_last is i)

-- what stands in a list does not go by what would stand behind it
pub any_default : {A : Type 0} (xs : List A) (i : ℕ) (d e : A) → i < length xs → get_or xs i d ≡ get_or xs i e
any_default [] i d e h = let z : ⊥ = omega arith in absurd z
any_default (x ∷ xs) zero d e h = refl
any_default (x ∷ xs) (suc i) d e h = any_default xs i d e (omega arith)

pub first_below : (n : ℕ) (is : List ℕ) → Below n is → 1 ≤ length is → get_or is 0 0 < n
first_below n [] h l = let z : ⊥ = omega arith in absurd z
first_below n (i ∷ is) h l = h.0
