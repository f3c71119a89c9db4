-- What the tables of keywords and signs have is spelled so.
use Rattle.std.proofs.Common.{◌≡◌, ◌<◌, ◌≤◌, ℕ, Bool, true, false, if◌then◌else◌, List, [], ◌∷◌, length, take, Option, Some, None, IfSome, nat_eq, refl, sym, subst, ap, ◌∙◌, arith, inl, inr}
use Rattle.std.specs.Prelude.{unwrap_or}
use Rattle.std.specs.List.{starts_with}
use Rattle.std.specs.Str.{bytes_eq}
use Rattle.std.specs.Cmp.Lexicographic.{same_text}
use Rattle.tokens.specs.declared.kind.Kind.{Kind}
use Rattle.tokens.specs.declared.kind.Kind.TheVariants as kind
use Rattle.tokens.specs.Spelling.{Spells}
use Rattle.tokens.specs.Scan.{keywords, signs, kind_in, sign_in, is_foreign, word_kind}

abbrev pub AllSpell : List (List ℕ × Kind) → Type 0
AllSpell [] = Unit {0}
AllSpell (e ∷ t) = Spells e.1 e.0 × (0 < length e.0) × AllSpell t

keywords_spell : AllSpell keywords
keywords_spell = (refl, omega arith, (refl, omega arith, (refl, omega arith, (inl refl, omega arith, (inr refl, omega arith, (refl, omega arith, (refl, omega arith, (refl, omega arith, (refl, omega arith, (refl, omega arith, (refl, omega arith, (refl, omega arith, (refl, omega arith, (refl, omega arith, (refl, omega arith, (refl, omega arith, (refl, omega arith, (refl, omega arith, (refl, omega arith, (refl, omega arith, tt))))))))))))))))))))

signs_spell : AllSpell signs
signs_spell = (refl, omega arith, (refl, omega arith, (refl, omega arith, (refl, omega arith, (refl, omega arith, (refl, omega arith, (refl, omega arith, (refl, omega arith, (refl, omega arith, (refl, omega arith, (refl, omega arith, (refl, omega arith, (refl, omega arith, (refl, omega arith, (refl, omega arith, (refl, omega arith, (refl, omega arith, (refl, omega arith, (refl, omega arith, (refl, omega arith, (refl, omega arith, (tt, omega arith, (tt, omega arith, (tt, omega arith, (tt, omega arith, (tt, omega arith, (tt, omega arith, (tt, omega arith, tt))))))))))))))))))))))))))))

kind_in_spells : (t : List (List ℕ × Kind)) (d : List ℕ) → AllSpell t → IfSome (kind_in t d) (λ k. Spells k d)
kind_in_spells [] d a = tt
kind_in_spells (e ∷ t) d a = go (bytes_eq e.0 d) refl (kind_in_spells t d a.2) where
  go : (p : Bool) → bytes_eq e.0 d ≡ p → IfSome (kind_in t d) (λ k. Spells k d) → IfSome (if p then Some e.1 else kind_in t d) (λ k. Spells k d)
  go true h rest = subst (λ (x : List ℕ). Spells e.1 x) (same_text e.0 d (sym h)) a.0
  go false h rest = rest

some_spells : (d : List ℕ) (k : Kind) (o : Option Kind) → o ≡ Some k → IfSome o (λ j. Spells j d) → Spells k d
some_spells d k o e h = rw e at h

pub keyword_spells : (d : List ℕ) (k : Kind) (o : Option Kind) → o ≡ Some k → o ≡ kind_in keywords d → Spells k d
keyword_spells d k o e h = some_spells d k (kind_in keywords d) (sym h ∙ e) (kind_in_spells keywords d keywords_spell)

-- what a word is
pub keyword_is : (d : List ℕ) (k : Kind) (o : Option Kind) → o ≡ Some k → o ≡ kind_in keywords d → k ≡ word_kind d
unfolding word_kind
keyword_is d k o e h = ap (λ p. unwrap_or p (if is_foreign d then kind.Foreign else kind.Name)) (sym e ∙ h)

pub other_is : (d : List ℕ) (o : Option Kind) (p : Bool) → o ≡ None → p ≡ true → o ≡ kind_in keywords d → p ≡ is_foreign d → kind.Foreign ≡ word_kind d
unfolding word_kind
other_is d o p n e h i = ap (λ q. if q then kind.Foreign else kind.Name) (sym e ∙ i) ∙ ap (λ q. unwrap_or q (if is_foreign d then kind.Foreign else kind.Name)) (sym n ∙ h)

pub name_is : (d : List ℕ) (o : Option Kind) (p : Bool) → o ≡ None → p ≡ false → o ≡ kind_in keywords d → p ≡ is_foreign d → kind.Name ≡ word_kind d
unfolding word_kind
name_is d o p n e h i = ap (λ q. if q then kind.Foreign else kind.Name) (sym e ∙ i) ∙ ap (λ q. unwrap_or q (if is_foreign d then kind.Foreign else kind.Name)) (sym n ∙ h)

abbrev pub SignSpells : List ℕ → Kind × ℕ → Type 0
SignSpells s r = (0 < r.1) × Spells r.0 (take r.1 s)

sign_in_spells : (t : List (List ℕ × Kind)) (s : List ℕ) → AllSpell t → IfSome (sign_in t s) (SignSpells s)
sign_in_spells [] s a = tt
sign_in_spells (e ∷ t) s a = go (starts_with nat_eq s e.0) refl (sign_in_spells t s a.2) where
  go : (p : Bool) → starts_with nat_eq s e.0 ≡ p → IfSome (sign_in t s) (SignSpells s) → IfSome (if p then Some (e.1, length e.0) else sign_in t s) (SignSpells s)
  go true h rest = holds where
    holds : SignSpells s (e.1, length e.0)
    holds = (a.1, subst (λ (x : List ℕ). Spells e.1 x) (same_text e.0 (take (length e.0) s) (sym h)) a.0)
  go false h rest = rest

pub sign_spells : (s : List ℕ) (o : Option (Kind × ℕ)) → o ≡ sign_in signs s → IfSome o (SignSpells s)
sign_spells s o e = subst (λ (x : Option (Kind × ℕ)). IfSome x (SignSpells s)) (sym e) (sign_in_spells signs s signs_spell)

pub spells_part : (s : List ℕ) (o : Option (Kind × ℕ)) → IfSome o (SignSpells s) → IfSome o (λ r. Spells r.0 (take r.1 s))
spells_part s None h = tt
spells_part s (Some r) h = h.1

pub some_part : (s : List ℕ) (o : Option (Kind × ℕ)) → IfSome o (SignSpells s) → IfSome o (λ r. r.1 ≤ length s) → IfSome o (λ r. (0 < r.1) × (r.1 ≤ length s))
some_part s None h i = tt
some_part s (Some r) h i = (h.0, i)
