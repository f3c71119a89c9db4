-- The bits of a column that a module names.
use Rattle.std.proofs.Common.{◌≡◌, ℕ, Bool, ◌||◌, List, [], ◌∷◌, map, refl, sym, ap, ◌∙◌}
use Rattle.std.specs.List.{list_any}
use Rattle.words.specs.Words.{bit}
use Rattle.words.proofs.BitsLaws.{bit_zero}

list_any-map : {X Y : Type 0} (p : Y → Bool) (f : X → Y) (xs : List X) → list_any p (map f xs) ≡ list_any (λ x. p (f x)) xs
list_any-map p f [] = refl
list_any-map p f (x ∷ xs) = ap (λ (b : Bool). p (f x) || b) (list_any-map p f xs)

-- the bits of a first name and of the others, in a column that had none
pub named_all : {X Y : Type 0} (p : ℕ → Y → Bool) (f : X → Y) (y : Y) (xs : List X) (first new : ℕ) → ((j : ℕ) → bit j first ≡ bit j 0 || p j y) → ((j : ℕ) → bit j new ≡ bit j first || list_any (λ x. p j (f x)) xs) → (j : ℕ) → bit j new ≡ list_any (p j) (y ∷ map f xs)
named_all p f y xs first new one more j =
    more j ∙ ap (λ (b : Bool). b || list_any (λ x. p j (f x)) xs) (one j ∙ ap (λ (b : Bool). b || p j y) (bit_zero j))
    ∙ ap (λ (b : Bool). p j y || b) (sym (list_any-map (p j) f xs))
