-- What the formula of a claim says.
use Rattle.std.specs.Prelude.{◌≡◌, ℕ, ◌↔◌, Bool, true, false, cond, ◌==◌}
use Rattle.words.specs.Words.{Sets, Word, sets}
use Rattle.claims.specs.Claims.{C, Of, has}
use Rattle.formulas.specs.declared.formula.Formula.{Formula}
use Rattle.formulas.specs.Meaning.{Env, Meaning, with_place}
use Rattle.claim_formula.specs.declared.scope.Scope.{Scope}
use Rattle.claim_formula.specs.declared.scope.Scope.TheVariants.{Free, Place', Set'}

-- the formula says P of the places and sets that its names are
abbrev pub Means : Formula → (Env → Type 0) → Type 0
Means a P = (e : Env) → Meaning a e ↔ P e

-- the same, but for x
abbrev pub bound : (ℕ → Bool) → ℕ → Bool → ℕ → Bool
bound σ x b y = cond (y == x) b (σ y)

-- set x is written as a place: what the innermost that binds it says
abbrev pub is_place : Scope → ℕ → Bool
is_place Free = λ x. false
is_place (Place' y _ s) = bound (is_place s) y true
is_place (Set' y _ s) = bound (is_place s) y false

-- set x is the place named x alone, where it is written as a place, else the set named x
abbrev pub Stand : (ℕ → Bool) → Env → Sets → Type 0
Stand σ e v = (x i : ℕ) → v x i ≡ cond (σ x) (i == e.places x) (has (e.groups x) i)

-- P tells the claim, of every word and of all places and sets that it gives the names
abbrev pub Tells : (ℕ → Bool) → (Env → Type 0) → C → Type 0
Tells σ P c = (w : Word) (e : Env) → Stand σ e (sets w) → P e ↔ Of c w

-- the formula means the claim
abbrev pub Says : (ℕ → Bool) → Formula → C → Type 0
Says σ a c = Tells σ (Meaning a) c

-- P of place x: of the place of that name, where set x is written as a place, else of the one place of the set of that name
abbrev pub Point : Bool → ℕ → (Env → Type 0) → Env → Type 0
Point true x P e = P e
Point false x P e = (i : ℕ) × ((has (e.groups x) i ≡ true) × ((j : ℕ) → has (e.groups x) j ≡ true → j ≡ i)) × P (with_place e x i)
