-- What is made of a formula and a list of the names in it: the bytes of its claim, or the refusal that applies.
use Rattle.std.specs.Prelude.{◌≡◌, ℕ, ◌<◌, ◌↔◌, List, length}
use Rattle.words.specs.Words.{Word, Columns, sets}
use Rattle.claims.specs.Claims.{C, Of, has}
use Rattle.kinds.specs.Relations.{Only}
use Rattle.claims.specs.Rows.{Claim}
use Rattle.claims.specs.Encoded as encoded
use Rattle.formulas.specs.declared.name.Name.{Name}
use Rattle.formulas.specs.declared.name.Name.TheVariants.{OfPlace, OfGroup}
use Rattle.formulas.specs.declared.formula.Formula.{Formula}
use Rattle.formulas.specs.Meaning.{Env, Meaning}
use Rattle.formulas.specs.Names.{names, Among}
use Rattle.translation.specs.Translation.{claim}
use Rattle.translation.specs.Settles.{singles, Singles, env_of, Covers}
use Rattle.formula_claims.specs.declared.claimed.Refusal.{Refusal}
use Rattle.formula_claims.specs.declared.claimed.Refusal.TheVariants.{Unlisted}
use Rattle.formula_claims.specs.declared.claimed.Refusal.TheVariants as refusal
use Rattle.formula_claims.specs.Listed.{listed}

-- the claim: that the listed places are places, where what the formula says does not say so already, and that; each name being the set with its place in the list for a number
abbrev pub whole : List Name → Formula → C
whole l a = singles (listed l) a l (claim a (listed l))

-- how many sets it is about: at least those of the list, and one
abbrev pub sets_needed : List Name → Formula → ℕ
sets_needed l a = encoded.sets_needed (length l) (whole l a)

-- and how many bytes it takes, with the one that says how many sets
abbrev pub bytes_needed : List Name → Formula → ℕ
bytes_needed l a = encoded.bytes_needed (whole l a)

-- the word w gives the listed names the places and sets that e does
pub record Gives (l : List Name) (e : Env) (w : Word) : Type 0 where
  pub columns : Columns (length l) w
  pub places : (x : ℕ) → Among (OfPlace x) l → Only (sets w) (listed l (OfPlace x)) (e.places x)
  pub groups : (x : ℕ) → Among (OfGroup x) l → (i : ℕ) → sets w (listed l (OfGroup x)) i ≡ has (e.groups x) i

-- the bytes are the formula's claim
pub record Claimed (l : List Name) (a : Formula) (bytes : List ℕ) : Type 0 where
  pub covers : Covers l a
  pub claim : Claim bytes (sets_needed l a) (whole l a)
  -- listed names that differ have numbers that differ, below the number of sets
  pub apart : (x y : Name) → Among x l → Among y l → listed l x ≡ listed l y → x ≡ y
  pub below : (x : Name) → Among x l → listed l x < sets_needed l a
  -- it holds of a word exactly if the listed places are places in it and the formula holds of the places and sets that it gives the names
  pub says : (w : Word) → Of (whole l a) w ↔ (Singles (listed l) l (sets w) × Meaning a (env_of (listed l) w))
  -- and every choice of places and sets is some word's, of which it holds exactly if the formula holds of the choice
  pub chosen : (e : Env) → (w : Word) × Gives l e w × (Of (whole l a) w ↔ Meaning a e)

-- what a refusal says is so
abbrev pub Refused : List Name → Formula → Refusal → Type 0
Refused l a (Unlisted x) = Among x (names a) × (Among x l → ⊥)
Refused l a (refusal.Claim e) = encoded.Refused (length l) (whole l a) e
