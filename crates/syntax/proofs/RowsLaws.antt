-- What is claimed does not begin as a row does, nor as a ring.
use Rattle.std.proofs.Common.{ℕ, ◌≡◌, ◌⊎◌, inl, inr, List, [], ◌∷◌, Bool, true, false, ◌||◌, if◌then◌else◌, Some, None, refl}
use Rattle.std.specs.Option.{option_or, option_and_then}
use Rattle.std.specs.Str.{bytes_eq}
use Rattle.tokens.specs.declared.kind.Kind.TheVariants as kind
use Rattle.trees.specs.declared.tree.Unary.TheVariants as unary
use Rattle.trees.specs.declared.tree.Binary.{Binary}
use Rattle.trees.specs.declared.tree.Binary.TheVariants as binary
use Rattle.trees.specs.declared.tree.Sort.{Sort}
use Rattle.trees.specs.declared.tree.Sort.TheVariants.{Place, Set}
use Rattle.trees.specs.declared.tree.Quantifier.{Quantifier}
use Rattle.trees.specs.declared.tree.Quantifier.TheVariants as quantifier
use Rattle.tokens.specs.Words.{Word, word}
use Rattle.syntax.specs.Plain.{Plain, number, named, prefixed, joined, bound, call, counted, sign_of, quantifier_of, colon, semicolon, names, written}
use Rattle.syntax.specs.Parsing.{begins}
use Rattle.syntax.specs.Grammar.{IsText}
use Rattle.syntax.specs.Rows.{rows_name, rings_name, rings_words, behind_words, behind_row, is_rows}

sign_no_end : (b : Binary) (ws : List Word) → begins kind.Semicolon (sign_of b ∷ ws) ≡ false
sign_no_end binary.Iff ws = refl
sign_no_end _ ws = refl

quantifier_no_row : (q : Quantifier) (sort : Sort) (ws : List Word) → behind_row (quantifier_of q sort ∷ ws) ≡ None
quantifier_no_row quantifier.Some Place ws = refl
quantifier_no_row quantifier.Some Set ws = refl
quantifier_no_row quantifier.All Place ws = refl
quantifier_no_row quantifier.All Set ws = refl

no_end : (ws : List Word) → begins kind.Semicolon ws ≡ false → behind_words (semicolon ∷ []) ws ≡ None
no_end [] e = refl
no_end (word k d ∷ ws) e = rw e refl

-- two that do not hold together
neither : (a b : Bool) → a || b ≡ false → (a ≡ false) × (b ≡ false)
neither false false e = (refl, refl)
neither false true e = cc
neither true b e = cc

-- a name that is not `rows`, or behind which there is no `;`
name_no_row : (x : List ℕ) (ws : List Word) → (bytes_eq x rows_name || bytes_eq x rings_name ≡ false) ⊎ (begins kind.Semicolon ws ≡ false) → behind_row (word kind.Name x ∷ ws) ≡ None
name_no_row x ws (inl e) = rw (neither (bytes_eq x rows_name) (bytes_eq x rings_name) e).0 refl
name_no_row x ws (inr e) = go (bytes_eq x rows_name) (no_end ws e) where
  go : (b : Bool) → behind_words (semicolon ∷ []) ws ≡ None → option_or (option_and_then (behind_words (semicolon ∷ [])) (if b then Some ws else None)) None ≡ None
  go true h = rw h refl
  go false h = refl

-- and the same of `rings`
name_no_ring : (x : List ℕ) (ws : List Word) → (bytes_eq x rows_name || bytes_eq x rings_name ≡ false) ⊎ (begins kind.Semicolon ws ≡ false) → behind_words rings_words (word kind.Name x ∷ ws) ≡ None
name_no_ring x ws (inl e) = rw (neither (bytes_eq x rows_name) (bytes_eq x rings_name) e).1 refl
name_no_ring x ws (inr e) = go (bytes_eq x rings_name) (no_end ws e) where
  go : (b : Bool) → behind_words (semicolon ∷ []) ws ≡ None → option_and_then (behind_words (semicolon ∷ [])) (if b then Some ws else None) ≡ None
  go true h = h
  go false h = refl

pub no_row : (t : Plain) (rest : List Word) → IsText t → (is_rows t ≡ false) ⊎ (begins kind.Semicolon rest ≡ false) → behind_row (written t rest) ≡ None
no_row (number n) rest x e = absurd x
no_row (counted t m r) rest x e = absurd x
no_row (named f) rest x e = name_no_row f rest e
no_row (call f ts) rest x e = name_no_row f _ (inr refl)
no_row (prefixed unary.Not t) rest x e = refl
no_row (prefixed unary.Min t) rest x e = refl
no_row (prefixed unary.Max t) rest x e = refl
no_row (prefixed unary.IsEmpty t) rest x e = refl
no_row (joined b s t) rest x e = no_row s (sign_of b ∷ written t rest) x.0 (inr (sign_no_end b (written t rest)))
no_row (bound q sort xs t) rest x e = quantifier_no_row q sort (names xs (colon ∷ written t rest))
no_row _ rest x e = refl

quantifier_no_ring : (q : Quantifier) (sort : Sort) (ws : List Word) → behind_words rings_words (quantifier_of q sort ∷ ws) ≡ None
quantifier_no_ring quantifier.Some Place ws = refl
quantifier_no_ring quantifier.Some Set ws = refl
quantifier_no_ring quantifier.All Place ws = refl
quantifier_no_ring quantifier.All Set ws = refl

pub no_ring : (t : Plain) (rest : List Word) → IsText t → (is_rows t ≡ false) ⊎ (begins kind.Semicolon rest ≡ false) → behind_words rings_words (written t rest) ≡ None
no_ring (number n) rest x e = absurd x
no_ring (counted t m r) rest x e = absurd x
no_ring (named f) rest x e = name_no_ring f rest e
no_ring (call f ts) rest x e = name_no_ring f _ (inr refl)
no_ring (prefixed unary.Not t) rest x e = refl
no_ring (prefixed unary.Min t) rest x e = refl
no_ring (prefixed unary.Max t) rest x e = refl
no_ring (prefixed unary.IsEmpty t) rest x e = refl
no_ring (joined b s t) rest x e = no_ring s (sign_of b ∷ written t rest) x.0 (inr (sign_no_end b (written t rest)))
no_ring (bound q sort xs t) rest x e = quantifier_no_ring q sort (names xs (colon ∷ written t rest))
no_ring _ rest x e = refl
