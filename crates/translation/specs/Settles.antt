-- What the claim of a formula says of a word.
use Rattle.std.specs.Prelude.{ℕ, true, cond, ◌↔◌, List, [], ◌∷◌, map}
use Rattle.words.specs.Words.{Sets, Word, bit, sets}
use Rattle.claims.specs.Claims.{C, single, and1, Of}
use Rattle.kinds.specs.Relations.{Only}
use Rattle.formulas.specs.declared.name.Name.{Name}
use Rattle.formulas.specs.declared.name.Name.TheVariants.{OfPlace, OfGroup}
use Rattle.formulas.specs.declared.formula.Formula.{Formula}
use Rattle.formulas.specs.Sets.{lowest}
use Rattle.formulas.specs.Meaning.{Env, Meaning}
use Rattle.formulas.specs.Names.{names, Among}
use Rattle.translation.specs.Numbers.{Numbering}
use Rattle.translation.specs.Translation.{sure, claim}

-- c, and that the names of places in l are places; that is not said where the claim of a is sure of it
abbrev pub singles : Numbering → Formula → List Name → C → C
singles ρ a [] c = c
singles ρ a (OfPlace x ∷ l) c = singles ρ a l (cond (sure a true x) c (and1 (single (ρ (OfPlace x))) c))
singles ρ a (OfGroup x ∷ l) c = singles ρ a l c

abbrev pub Singles : Numbering → List Name → Sets → Type 0
Singles ρ l v = (x : ℕ) → Among (OfPlace x) l → (i : ℕ) × Only v (ρ (OfPlace x)) i

-- the places and sets that a word gives the names
abbrev pub env_of : Numbering → Word → Env
env_of ρ w = record { places = λ x. lowest (map (bit (ρ (OfPlace x))) w); groups = λ x. map (bit (ρ (OfGroup x))) w }

-- every name of a is in l
abbrev pub Covers : List Name → Formula → Type 0
Covers l a = (x : Name) → Among x (names a) → Among x l

-- the claim holds of a word exactly if the names of places in l are places in it, and the formula holds of the places and sets that it gives the names
abbrev pub Settles : Type 0
Settles = (a : Formula) (ρ : Numbering) (l : List Name) (w : Word) → Covers l a → Of (singles ρ a l (claim a ρ)) w ↔ (Singles ρ l (sets w) × Meaning a (env_of ρ w))
