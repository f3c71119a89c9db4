-- Names with commas between them, read one after the other.
use Rattle.std.proofs.Common.{ℕ, zero, suc, ◌≡◌, ◌<◌, List, [], ◌∷◌, ◌++◌, true, false, Ok, Err, refl, sym, arith, string_bytes}
use Rattle.std.proofs.lemmas.List.{map-append}
use Rattle.tokens.specs.declared.kind.Kind.TheVariants as kind
use Rattle.trees.specs.declared.tree.Name.{Name}
use Rattle.tokens.specs.Words.{Word}
use Rattle.syntax.specs.Parsing.{Stop, begins, tail, name, names_at, more_names}
use Rattle.syntax.specs.Views.{names_of}

pub names_of_more : (xs : List Name) (x : Name) → names_of (xs ++ x ∷ []) ≡ names_of xs ++ string_bytes x.text ∷ []
names_of_more xs x = map-append (λ (y : Name). string_bytes y.text) xs (x ∷ [])

pub first_name : (n : ℕ) (ws rest : List Word) (x : List ℕ) (acc : List (List ℕ)) → name ws ≡ Ok (x, rest) → acc ≡ x ∷ [] → names_at n ws ≡ more_names n acc rest
first_name n ws rest x acc e a = rw e (rw a refl)

pub first_fails : (n : ℕ) (ws : List Word) (e : Stop) → name ws ≡ Err e → names_at n ws ≡ Err e
first_fails n ws e h = rw h refl

-- one name more
pub next_name : (k : ℕ) (acc more : List (List ℕ)) (ws behind rest : List Word) (x : List ℕ) → 0 < k → begins kind.Comma ws ≡ true → behind ≡ tail ws → name behind ≡ Ok (x, rest) → more ≡ acc ++ x ∷ [] → (j : ℕ) × (k ≡ suc j) × (more_names k acc ws ≡ more_names j more rest)
next_name zero acc more ws behind rest x lt b t e a = absurd (omega (arith, lt))
next_name (suc k) acc more ws behind rest x lt b t e a = (k, refl, rw b (rw (sym t) (rw e (rw a refl))))

pub next_fails : (k : ℕ) (acc : List (List ℕ)) (ws behind : List Word) (e : Stop) → 0 < k → begins kind.Comma ws ≡ true → behind ≡ tail ws → name behind ≡ Err e → more_names k acc ws ≡ Err e
next_fails zero acc ws behind e lt b t h = absurd (omega (arith, lt))
next_fails (suc k) acc ws behind e lt b t h = rw b (rw (sym t) (rw h refl))

pub no_more : (k : ℕ) (acc : List (List ℕ)) (ws : List Word) → begins kind.Comma ws ≡ false → more_names k acc ws ≡ Ok (acc, ws)
no_more zero acc ws b = refl
no_more (suc k) acc ws b = rw b refl
