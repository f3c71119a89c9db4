-- What is found, said of a formula: a are the formula's meaning, and l the names that it speaks of.
use Rattle.std.specs.Prelude.{ℕ, List}
use Rattle.words.specs.Words.{Word, Columns, sets}
use Rattle.words.specs.Order.{Less}
use Rattle.claims.specs.Sizes.{Fits}
use Rattle.formulas.specs.declared.name.Name.{Name}
use Rattle.formulas.specs.declared.formula.Formula.{Formula}
use Rattle.formulas.specs.Meaning.{Env, Meaning}
use Rattle.translation.specs.Settles.{Singles, env_of}
use Rattle.formula_claims.specs.Listed.{listed}
use Rattle.formula_claims.specs.Claimed.{whole, sets_needed}
use Rattle.first_word.specs.declared.first_word.Found.{Found}
use Rattle.first_word.specs.declared.first_word.Found.TheVariants.{Nothing, First, TooLarge}

-- the places of a word are places, and the formula holds of the places and sets that it gives the names
abbrev pub HoldsOf : List Name → Formula → Word → Type 0
HoldsOf l a w = Singles (listed l) l (sets w) × Meaning a (env_of (listed l) w)

-- at most n classes of rows are told apart at the formula's claim
abbrev pub IsWithin : List Name → Formula → ℕ → Type 0
IsWithin l a n = Fits (sets_needed l a) n (whole l a)

-- the first word of which the formula holds, of so many sets; that it holds of no choice of places and sets; that more than n classes of rows are told apart
abbrev pub Tells : List Name → Formula → ℕ → Found → Type 0
Tells l a n (First w) = IsWithin l a n × Columns (sets_needed l a) w.items × (HoldsOf l a w.items × ((u : Word) → Columns (sets_needed l a) u → Less u w.items → HoldsOf l a u → ⊥))
Tells l a n Nothing = IsWithin l a n × ((e : Env) → Meaning a e → ⊥)
Tells l a n TooLarge = IsWithin l a n → ⊥
