-- Names are told apart; what is among lists that are put together, or that lose a name.
use Rattle.std.proofs.Common.{◌≡◌, ℕ, true, false, ◌⊎◌, List, [], ◌∷◌, ◌++◌, refl, ap, ◌∙◌, inl, inr, arith}
use Rattle.std.proofs.lemmas.Bool.Decides.{eqb_tells}
use Rattle.formulas.specs.declared.name.Name.{Name}
use Rattle.formulas.specs.declared.name.Name.TheVariants.{OfPlace, OfGroup}
use Rattle.formulas.specs.Names.{same_name, without, Among}

pub among_left : {A : Type 0} (x : A) (l m : List A) → Among x l → Among x (l ++ m)
among_left x [] m h = absurd h
among_left x (y ∷ l) m (inl e) = inl e
among_left x (y ∷ l) m (inr h) = inr (among_left x l m h)

pub among_right : {A : Type 0} (x : A) (l m : List A) → Among x m → Among x (l ++ m)
among_right x [] m h = h
among_right x (y ∷ l) m h = inr (among_right x l m h)

pub name_tells : (x y : Name) → ((same_name x y ≡ true) × (x ≡ y)) ⊎ ((same_name x y ≡ false) × (x ≡ y → ⊥))
name_tells (OfPlace x) (OfPlace y) = elim (eqb_tells x y) [ inl q ↦ inl (q.0, ap OfPlace q.1) | inr q ↦ inr (q.0, λ e. q.1 (cc)) ]
name_tells (OfPlace x) (OfGroup y) = inr (refl, λ e. (let z : ◌≡◌ {A = ℕ} 0 1 = cc in omega arith))
name_tells (OfGroup x) (OfPlace y) = inr (refl, λ e. (let z : ◌≡◌ {A = ℕ} 0 1 = cc in omega arith))
name_tells (OfGroup x) (OfGroup y) = elim (eqb_tells x y) [ inl q ↦ inl (q.0, ap OfGroup q.1) | inr q ↦ inr (q.0, λ e. q.1 (cc)) ]

pub among_without : (x y : Name) (l : List Name) → (y ≡ x → ⊥) → Among y l → Among y (without x l)
among_without x y [] n h = absurd h
among_without x y (z ∷ l) n (inl e) = elim (name_tells z x) [ inl q ↦ absurd (n (e ∙ q.1)) | inr q ↦ rw q.0 (inl e) ]
among_without x y (z ∷ l) n (inr h) = elim (name_tells z x) [ inl q ↦ rw q.0 (among_without x y l n h) | inr q ↦ rw q.0 (inr (among_without x y l n h)) ]

pub among_either : (y : Name) (k l : List Name) → Among y (k ++ l) → Among y k ⊎ Among y l
among_either y [] l h = inr h
among_either y (x ∷ k) l (inl e) = inl (inl e)
among_either y (x ∷ k) l (inr h) = elim (among_either y k l h) [ inl g ↦ inl (inr g) | inr g ↦ inr g ]
