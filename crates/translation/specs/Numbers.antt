-- The numbers of the sets that stand for names.
use Rattle.std.specs.Prelude.{ℕ, zero, suc, ◌<◌, Bool, false, cond, ◌||◌, List, [], ◌∷◌, map, length, ◌==◌}
use Rattle.formulas.specs.declared.name.Name.{Name}
use Rattle.formulas.specs.Names.{same_name, Among}

abbrev pub Numbering : Type 0
Numbering = Name → ℕ

-- the same with n for the name x
abbrev pub numbered : Numbering → Name → ℕ → Numbering
numbered ρ x n y = cond (same_name y x) n (ρ y)

abbrev pub numbers : Numbering → List Name → List ℕ
numbers ρ l = map ρ l

abbrev pub among : ℕ → List ℕ → Bool
among n [] = false
among n (y ∷ l) = n == y || among n l

-- the first number from n on that is not in the list, if it is one of the next f, else the number behind these
abbrev pub free_from : ℕ → ℕ → List ℕ → ℕ
free_from zero n l = n
free_from (suc f) n l = cond (among n l) (free_from f (suc n) l) n

-- the lowest number that is not in the list
unfoldable pub fresh : List ℕ → ℕ
fresh l = free_from (length l) 0 l

-- it is none of the list's, and every lower number is one
abbrev pub LowestFree : Type 0
LowestFree = (l : List ℕ) → (Among (fresh l) l → ⊥) × ((j : ℕ) → j < fresh l → Among j l)
