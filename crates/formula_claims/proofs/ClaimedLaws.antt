-- Bytes that are as the code makes them are the formula's claim.
use Rattle.std.proofs.Common.{◌≡◌, ℕ, ◌+◌, ◌<◌, Bool, true, ◌↔◌, List, [], ◌∷◌, length, sym, refl, ◌∙◌, subst, inl, inr, arith}
use Rattle.std.proofs.lemmas.Nat.{pow_pos}
use Rattle.words.specs.Words.{Word, Columns, sets}
use Rattle.words.proofs.BitsLaws.{put_bit_below}
use Rattle.claims.specs.Claims.{Of, has}
use Rattle.claims.specs.Places.{one}
use Rattle.claims.specs.Rows.{Claim}
use Rattle.claims.proofs.PlacesLaws.{put_same, put_other, has_one, one_has}
use Rattle.formulas.specs.declared.name.Name.{Name}
use Rattle.formulas.specs.declared.name.Name.TheVariants.{OfPlace, OfGroup}
use Rattle.formulas.specs.declared.formula.Formula.{Formula}
use Rattle.formulas.specs.Meaning.{Env, Meaning}
use Rattle.formulas.specs.Names.{Among}
use Rattle.formulas.proofs.NamesLaws.{name_tells}
use Rattle.translation.specs.Numbers.{Numbering}
use Rattle.translation.specs.Translation.{claim}
use Rattle.translation.specs.Settles.{Singles, Covers}
use Rattle.translation.proofs.Families.{with_set, with_set_sets}
use Rattle.translation.proofs.Standing.{Stands}
use Rattle.translation.proofs.Formulas.{of_words}
use Rattle.translation.proofs.SettlesLaws.{singles_says, settles}
use Rattle.formula_claims.specs.Claimed.{Claimed, Gives, whole, sets_needed, bytes_needed}
use Rattle.formula_claims.specs.Lengths.{formula_length, places_length}
use Rattle.formula_claims.specs.Listed.{listed}
use Rattle.formula_claims.proofs.LengthsLaws.{formula_bytes, singles_bytes}
use Rattle.formula_claims.proofs.ListedLaws.{among_listed, position_apart}

-- A word for each choice of places and sets.
set_for : Env → Name → List Bool
set_for e (OfPlace x) = one (e.places x)
set_for e (OfGroup x) = e.groups x

word_for : Env → Numbering → List Name → Word
word_for e ρ [] = []
word_for e ρ (x ∷ l) = with_set (ρ x) (word_for e ρ l) (set_for e x)

with_set_columns : (k x : ℕ) (w : Word) (u : List Bool) → x < k → Columns k w → Columns k (with_set x w u)
unfolding with_set
with_set_columns k x [] [] h c = tt
with_set_columns k x [] (b ∷ u) h c = (put_bit_below k x b 0 h (pow_pos k), with_set_columns k x [] u h c)
with_set_columns k x (a ∷ w) [] h c = (put_bit_below k x _ a h c.0, with_set_columns k x w [] h c.1)
with_set_columns k x (a ∷ w) (b ∷ u) h c = (put_bit_below k x b a h c.0, with_set_columns k x w u h c.1)

word_for_columns : (e : Env) (ρ : Numbering) (k : ℕ) (l : List Name) → ((x : Name) → Among x l → ρ x < k) → Columns k (word_for e ρ l)
unfolding word_for
word_for_columns e ρ k [] h = tt
word_for_columns e ρ k (x ∷ l) h = with_set_columns k (ρ x) (word_for e ρ l) (set_for e x) (h x (inl refl)) (word_for_columns e ρ k l (λ y g. h y (inr g)))

word_for_sets : (e : Env) (ρ : Numbering) (l : List Name) → ((x y : Name) → Among x l → Among y l → ρ x ≡ ρ y → x ≡ y) →
    (y : Name) → Among y l → (i : ℕ) → sets (word_for e ρ l) (ρ y) i ≡ has (set_for e y) i
unfolding word_for
word_for_sets e ρ [] apart y h i = absurd h
word_for_sets e ρ (x ∷ l) apart y h i =
    let w = word_for e ρ l in
    let u = set_for e x in
    let later = word_for_sets e ρ l (λ z t g k. apart z t (inr g) (inr k)) y in
    elim (name_tells y x) [
      | inl q ↦ subst (λ z. sets (with_set (ρ x) w u) (ρ z) i ≡ has (set_for e z) i) (sym q.1) (with_set_sets (ρ x) w u (ρ x) i ∙ put_same (sets w) (ρ x) u i)
      | inr q ↦ with_set_sets (ρ x) w u (ρ y) i ∙ put_other (sets w) (ρ x) u (ρ y) i (λ k. q.1 (apart y x h (inl refl) k))
          ∙ elim h [ inl k ↦ absurd (q.1 k) | inr g ↦ later g i ]
    ]

chosen_word : (e : Env) (l : List Name) → (w : Word) × Gives l e w
unfolding set_for
chosen_word e l =
    let ρ = listed l in
    let w = word_for e ρ l in
    let at = word_for_sets e ρ l (λ x y g h k. position_apart x y l g h k) in (
      w,
      record {
        columns = word_for_columns e ρ (length l) l (λ x h. among_listed x l h);
        places = λ x h. (at (OfPlace x) h (e.places x) ∙ has_one (e.places x), λ j k. one_has (e.places x) j (sym (at (OfPlace x) h j) ∙ k));
        groups = λ x h i. at (OfGroup x) h i;
      },
    )

chosen : (l : List Name) (a : Formula) (e : Env) → Covers l a → (w : Word) × Gives l e w × (Of (whole l a) w ↔ Meaning a e)
chosen l a e covers =
    let (w, g) = chosen_word e l in
    let ρ = listed l in
    let s = singles_says ρ a l (claim a ρ) (sets w) (w, refl) (λ h. h) in
    let single_places : Singles ρ l (sets w) = λ x h. (e.places x, g.places x h) in
    let of = of_words a ρ e w (λ x h. stands w g x (covers x h)) in
    (w, g, (λ h. of.0 (s.0 h).1, λ m. s.1 (single_places, of.1 m)))
  where
    stands : (w : Word) → Gives l e w → (x : Name) → Among x l → Stands (sets w) (listed l x) e x
    stands w g (OfPlace x) h = g.places x h
    stands w g (OfGroup x) h = g.groups x h

pub bytes_are : (l : List Name) (a : Formula) → formula_length a true + 1 + places_length a l ≡ bytes_needed l a
bytes_are l a = omega (arith, singles_bytes (listed l) a l (claim a (listed l)), formula_bytes a true (listed l))

pub claimed : (l : List Name) (a : Formula) (bytes : List ℕ) → Covers l a → Claim bytes (sets_needed l a) (whole l a) → Claimed l a bytes
claimed l a bytes covers c = record {
  covers = covers;
  claim = c;
  apart = λ x y h g p. position_apart x y l h g p;
  below = λ x h. (let r = among_listed x l h in omega arith);
  says = λ w. settles a (listed l) l w covers;
  chosen = λ e'. chosen l a e' covers;
}
