-- Which bits of the row after a claim needs: of those below a number the ones that pass a test, rising.
use Rattle.std.specs.Prelude.{ℕ, zero, suc, ◌+◌, Bool, false, cond, not, ◌&&◌, ◌||◌, ◌==◌, List, [], ◌∷◌, ◌++◌}
use Rattle.formulas.specs.declared.name.Name.{Name}
use Rattle.formulas.specs.declared.name.Name.TheVariants.{OfGroup}
use Rattle.formulas.specs.declared.formula.Formula.{Formula}
use Rattle.formulas.specs.Names.{same_name, names}
use Rattle.rows.specs.declared.rule.Asked.{Asked}
use Rattle.rows.specs.declared.rule.Literal.{Literal}
use Rattle.rows.specs.declared.rule.Asked.TheVariants.{There, Bit}
use Rattle.rows.specs.Rules.{Line}
use Rattle.rows.specs.Limits.{names_of}
use Rattle.rows.specs.Faults.{unchanged}

abbrev pub is_bit : Asked → ℕ → Bool
is_bit There j = false
is_bit (Bit i) j = i == j

abbrev pub asks : List Literal → ℕ → Bool
asks [] j = false
asks (p ∷ ps) j = is_bit p.asked j || asks ps j

abbrev pub some_asks : List (List Literal) → ℕ → Bool
some_asks [] j = false
some_asks (ps ∷ pss) j = asks ps j || some_asks pss j

-- the set with the name x is named
abbrev pub has_group : List Name → ℕ → Bool
has_group [] x = false
has_group (y ∷ l) x = same_name y (OfGroup x) || has_group l x

abbrev pub passing : (ℕ → Bool) → ℕ → List ℕ
passing test zero = []
passing test (suc n) = passing test n ++ cond (test n) (n ∷ []) []

-- the patterns or the names ask for the bit, and some line changes it
abbrev pub is_needed : List (List Literal) → List Name → List Line → ℕ → Bool
is_needed pss ns R j = (some_asks pss j || has_group ns j) && not (unchanged R j)

abbrev pub changed_named : ℕ → List (List Literal) → List Name → List Line → List ℕ
changed_named b pss ns R = passing (is_needed pss ns R) b

-- the patterns or the limits ask for it
abbrev pub changed : ℕ → List (List Literal) → List Formula → List Line → List ℕ
changed b pss l R = changed_named b pss (names_of l) R

-- the bits of the row after that the formula names
abbrev pub named_after : ℕ → Formula → List ℕ
named_after b a = passing (λ j. has_group (names a) (suc b + j)) b
