-- Families of sets that are some word's: one set put in another's place keeps them so, and of each claim it can be told whether it holds.
use Rattle.std.proofs.Common.{◌≡◌, ℕ, zero, suc, Bool, true, false, cond, eqb, List, [], ◌∷◌, sym, refl, ap, ◌∙◌, subst, inl, inr}
use mathlib.Core.Path.{fun_ext}
use Rattle.words.specs.Bits.{put_bit}
use Rattle.words.specs.Words.{Sets, Word, sets}
use Rattle.words.proofs.BitsLaws.{bit_put, bit_zero}
use Rattle.claims.specs.Claims.{C, Holds, put}
use Rattle.kinds.specs.Relations.{Only}
use Rattle.claims.proofs.PlacesLaws.{put_other}
use Rattle.automata.proofs.Told.{told}

-- the sets of some word
abbrev pub Family : Sets → Type 0
Family v = (w : Word) × (v ≡ sets w)

-- the same sets, but for m
abbrev pub Agree : ℕ → Sets → Sets → Type 0
Agree m v t = (y : ℕ) → (y ≡ m → ⊥) → (i : ℕ) → t y i ≡ v y i

-- a word with the set u for x, longer if u reaches beyond it
unfoldable pub with_set : ℕ → Word → List Bool → Word
with_set x [] [] = []
with_set x [] (b ∷ u) = put_bit x b 0 ∷ with_set x [] u
with_set x (a ∷ w) [] = put_bit x false a ∷ with_set x w []
with_set x (a ∷ w) (b ∷ u) = put_bit x b a ∷ with_set x w u

none_either : (b : Bool) → cond b false false ≡ false
none_either true = refl
none_either false = refl

pub with_set_sets : (x : ℕ) (w : Word) (u : List Bool) (y i : ℕ) → sets (with_set x w u) y i ≡ put (sets w) x u y i
unfolding with_set
with_set_sets x [] [] y i = sym (none_either (eqb y x))
with_set_sets x [] (b ∷ u) y zero = bit_put x b 0 y ∙ ap (cond (eqb y x) b) (bit_zero y)
with_set_sets x [] (b ∷ u) y (suc i) = with_set_sets x [] u y i
with_set_sets x (a ∷ w) [] y zero = bit_put x false a y
with_set_sets x (a ∷ w) [] y (suc i) = with_set_sets x w [] y i
with_set_sets x (a ∷ w) (b ∷ u) y zero = bit_put x b a y
with_set_sets x (a ∷ w) (b ∷ u) y (suc i) = with_set_sets x w u y i

pub family_put : (v : Sets) (m : ℕ) (u : List Bool) → Family v → Family (put v m u)
family_put v m u f = (with_set m f.0 u, ap (λ s. put s m u) f.1 ∙ sym (fun_ext λ y. fun_ext λ i. with_set_sets m f.0 u y i))

pub holds_or_not : (c : C) (v : Sets) → Family v → Dec (Holds c v)
holds_or_not c v f = elim (told c f.0) [ inl h ↦ yes (subst (Holds c) (sym f.1) h) | inr n ↦ no (λ h. n (subst (Holds c) f.1 h)) ]

pub put_agree : (v : Sets) (m : ℕ) (u : List Bool) → Agree m v (put v m u)
put_agree v m u y n i = put_other v m u y i n

pub only_agree : (m n i : ℕ) (v t : Sets) → Agree m v t → (n ≡ m → ⊥) → Only v n i → Only t n i
only_agree m n i v t a d o = (a n d i ∙ o.0, λ j h. o.1 j (sym (a n d j) ∙ h))
