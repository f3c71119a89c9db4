-- Sets that stand for names: which places and sets they give them, and what stays where one set is put in another's place or a name gets a set.
use Rattle.std.proofs.Common.{◌≡◌, ℕ, Bool, List, ◌++◌, sym, refl, ap, ◌∙◌, subst, inl, inr}
use Rattle.std.proofs.lemmas.Bool.Decides.{eqb_tells}
use Rattle.words.specs.Words.{Sets}
use Rattle.claims.specs.Claims.{has}
use Rattle.kinds.specs.Relations.{Only}
use Rattle.formulas.specs.declared.name.Name.{Name}
use Rattle.formulas.specs.declared.name.Name.TheVariants.{OfPlace, OfGroup}
use Rattle.formulas.specs.Meaning.{Env, with_place, with_group}
use Rattle.formulas.specs.Names.{without, Among}
use Rattle.formulas.proofs.NamesLaws.{among_left, among_right, among_without, name_tells}
use Rattle.translation.specs.Numbers.{Numbering, numbered, numbers, fresh}
use Rattle.translation.proofs.NumbersLaws.{among_number, fresh_free}
use Rattle.translation.proofs.Families.{Agree, only_agree}

-- set n stands for a name: for a place as the set of it alone
abbrev pub Stands : Sets → ℕ → Env → Name → Type 0
Stands v n e (OfPlace x) = Only v n (e.places x)
Stands v n e (OfGroup x) = (i : ℕ) → v n i ≡ has (e.groups x) i

abbrev pub Stand : Sets → Numbering → Env → List Name → Type 0
Stand v ρ e l = (x : Name) → Among x l → Stands v (ρ x) e x

pub stand_left : (v : Sets) (ρ : Numbering) (e : Env) (l k : List Name) → Stand v ρ e (l ++ k) → Stand v ρ e l
stand_left v ρ e l k s x h = s x (among_left x l k h)

pub stand_right : (v : Sets) (ρ : Numbering) (e : Env) (l k : List Name) → Stand v ρ e (l ++ k) → Stand v ρ e k
stand_right v ρ e l k s x h = s x (among_right x l k h)

-- names whose numbers are not m
pub stands_agree : (m n : ℕ) (v t : Sets) (e : Env) (x : Name) → Agree m v t → (n ≡ m → ⊥) → Stands v n e x → Stands t n e x
stands_agree m n v t e (OfPlace x) a d s = only_agree m n (e.places x) v t a d s
stands_agree m n v t e (OfGroup x) a d s = λ i. a n d i ∙ s i

pub stand_agree : (m : ℕ) (v t : Sets) (ρ : Numbering) (e : Env) (l : List Name) → Agree m v t → (Among m (numbers ρ l) → ⊥) → Stand v ρ e l → Stand t ρ e l
stand_agree m v t ρ e l a d s x h = stands_agree m (ρ x) v t e x a (λ q. d (subst (λ z. Among z (numbers ρ l)) q (among_number ρ x l h))) (s x h)

-- a name more, x, by set m
pub stand_bind : (x : Name) (v t : Sets) (ρ : Numbering) (e g : Env) (l : List Name) →
    let m = fresh (numbers ρ (without x l)) in
    Agree m v t → ((y : Name) (n : ℕ) → (y ≡ x → ⊥) → Stands t n e y → Stands t n g y) → Stands t m g x → Stand v ρ e (without x l) → Stand t (numbered ρ x m) g l
stand_bind x v t ρ e g l a k p s y h = elim (name_tells y x) [
  | inl q ↦ rw q.0 (subst (λ z. Stands t (fresh (numbers ρ (without x l))) g z) (sym q.1) p)
  | inr q ↦ rw q.0 (k y (ρ y) q.1 (stand_agree (fresh (numbers ρ (without x l))) v t ρ e (without x l) a (fresh_free (numbers ρ (without x l))) s y (among_without x y l q.1 h)))
]

pub place_other : (x i : ℕ) (t : Sets) (e : Env) (y : Name) (n : ℕ) → (y ≡ OfPlace x → ⊥) → Stands t n e y → Stands t n (with_place e x i) y
place_other x i t e (OfPlace y) n d s = elim (eqb_tells y x) [ inl q ↦ absurd (d (ap OfPlace q.1)) | inr q ↦ rw q.0 s ]
place_other x i t e (OfGroup y) n d s = s

pub group_other : (x : ℕ) (u : List Bool) (t : Sets) (e : Env) (y : Name) (n : ℕ) → (y ≡ OfGroup x → ⊥) → Stands t n e y → Stands t n (with_group e x u) y
group_other x u t e (OfPlace y) n d s = s
group_other x u t e (OfGroup y) n d s = elim (eqb_tells y x) [ inl q ↦ absurd (d (ap OfGroup q.1)) | inr q ↦ rw q.0 s ]

pub place_here : (x i m : ℕ) (t : Sets) (e : Env) → Only t m i → Stands t m (with_place e x i) (OfPlace x)
place_here x i m t e o = elim (eqb_tells x x) [ inl q ↦ rw q.0 o | inr q ↦ absurd (q.1 refl) ]

pub group_here : (x m : ℕ) (u : List Bool) (t : Sets) (e : Env) → ((i : ℕ) → t m i ≡ has u i) → Stands t m (with_group e x u) (OfGroup x)
group_here x m u t e o = elim (eqb_tells x x) [ inl q ↦ rw q.0 o | inr q ↦ absurd (q.1 refl) ]
