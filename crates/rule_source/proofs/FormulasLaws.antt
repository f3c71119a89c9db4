-- The line that declares the sets of a formula, and names that are seen as the same.
use Rattle.std.proofs.Common.{◌≡◌, ◌-◌, ◌≤◌, ℕ, List, [], ◌∷◌, ◌++◌, length, take, drop, get_or, map, refl, sym, ap, ◌∙◌, arith}
use Rattle.std.specs.List.{flat_map, join_by}
use Rattle.std.proofs.lemmas.List.{take_rest}

flat_map-map : {X : Type 0} (f : X → List ℕ) (sep : List ℕ) (xs : List X) → flat_map (λ x. sep ++ f x) xs ≡ flat_map (λ n. sep ++ n) (map f xs)
flat_map-map f sep [] = refl
flat_map-map f sep (x ∷ xs) = ap (λ (t : List ℕ). (sep ++ f x) ++ t) (flat_map-map f sep xs)

-- pieces that are joined, and what they are seen as
pub join_by-map : {X : Type 0} (f : X → List ℕ) (sep : List ℕ) (xs : List X) → join_by f sep xs ≡ join_by (λ n. n) sep (map f xs)
join_by-map f sep [] = refl
join_by-map f sep (x ∷ xs) = ap (λ (t : List ℕ). f x ++ t) (flat_map-map f sep xs)

-- two lists whose first are seen as the same, and so are those behind them
pub same_first : {X Y : Type 0} (f : X → List ℕ) (g : Y → List ℕ) (xs : List X) (ys : List Y) (d : X) (e : Y) → 1 ≤ length xs → 1 ≤ length ys → f (get_or xs 0 d) ≡ g (get_or ys 0 e) → map f (take (length xs - 1) (drop 1 xs)) ≡ map g (take (length ys - 1) (drop 1 ys)) → map f xs ≡ map g ys
same_first f g [] ys d e h k q r = let z : ⊥ = omega arith in absurd z
same_first f g (x ∷ xs) [] d e h k q r = let z : ⊥ = omega arith in absurd z
same_first f g (x ∷ xs) (y ∷ ys) d e h k q r =
    ap (λ (t : List ℕ). t ∷ map f xs) q
    ∙ ap (λ (t : List (List ℕ)). g y ∷ t) (sym (ap (λ (t : _). map f t) (take_rest (x ∷ xs) 1)) ∙ r ∙ ap (λ (t : _). map g t) (take_rest (y ∷ ys) 1))
