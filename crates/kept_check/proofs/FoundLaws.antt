-- What is found of two is found of both together.
use Rattle.std.proofs.Common.{◌≡◌, ℕ, ◌⊎◌, ◌↔◌, sym, subst, inl, inr}
use Rattle.words.specs.Words.{Word, Columns}
use Rattle.words.specs.Order.{Less, Leq}
use Rattle.words.proofs.OrderLaws.{leq_less, leq_trans}
use Rattle.rows.specs.RowClaims.{First as FirstRow}
use Rattle.keeping.specs.declared.moment.Moment.{Moment}
use Rattle.kept_check.specs.Found.{FoundOf, Earlier}
use Rattle.kept_check.specs.declared.answer.TooLarge.{TooLarge}
use Rattle.kept_check.specs.declared.found.Found.{Found}
use Rattle.kept_check.specs.declared.found.Found.TheVariants as found

-- row u is the first with P, and no row with Q is before it
first_of : (b : ℕ) (P Q S : Word → Type 0) → ((w : Word) → Columns b w → S w ↔ (P w ⊎ Q w)) → (u : Word) → FirstRow b P u → ((w : Word) → Columns b w → Less w u → Q w → ⊥) → FirstRow b S u
first_of b P Q S join u f none = record {
  columns = f.columns;
  holds = (join u f.columns).1 (inl f.holds);
  first = λ w h l s. elim ((join w h).0 s) [ inl p ↦ f.first w h l p | inr q ↦ none w h l q ];
}

swapped : (b : ℕ) (P Q S : Word → Type 0) → ((w : Word) → Columns b w → S w ↔ (P w ⊎ Q w)) → (w : Word) → Columns b w → S w ↔ (Q w ⊎ P w)
swapped b P Q S join w h = (λ s. elim ((join w h).0 s) [ inl p ↦ inr p | inr q ↦ inl q ], λ t. (join w h).1 (elim t [ inl q ↦ inr q | inr p ↦ inl p ]))

-- no row is before the first row with Q and no later than it
before_none : (b : ℕ) (Q : Word → Type 0) (u v : Word) → FirstRow b Q v → Leq u v → (w : Word) → Columns b w → Less w u → Q w → ⊥
before_none b Q u v f l w h s q = elim (leq_cases w v (leq_trans w u v (inr s) l)) [ inl e ↦ leq_less u v l (subst (λ t. Less t u) e s) | inr k ↦ f.first w h k q ]
  where
    leq_cases : (x y : Word) → Leq x y → (x ≡ y) ⊎ Less x y
    leq_cases x y t = t

module _ (b : ℕ) (P Q S : Word → Type 0) (join : (w : Word) → Columns b w → S w ↔ (P w ⊎ Q w)) (M N O : Moment → Word → Type 0) (left : (m : Moment) (w : Word) → M m w → O m w) (right : (m : Moment) (w : Word) → N m w → O m w) (K L J : TooLarge → Type 0) (of_left : (t : TooLarge) → K t → J t) (of_right : (t : TooLarge) → L t → J t) where
  pub together : (x y z : Found) → FoundOf b P M K x → FoundOf b Q N L y → Earlier x y z → FoundOf b S O J z
  together (found.TooLarge t) y z f g e = subst (FoundOf b S O J) (sym e) (of_left t f)
  together found.Nothing found.Nothing z f g e = subst (FoundOf b S O J) (sym e) (λ w h s. elim ((join w h).0 s) [ inl p ↦ f w h p | inr q ↦ g w h q ])
  together found.Nothing (found.First l r) z f g e = subst (FoundOf b S O J) (sym e) (first_of b Q P S (swapped b P Q S join) r.items g.0 (λ w h s p. f w h p), right l r.items g.1)
  together found.Nothing (found.TooLarge t) z f g e = subst (FoundOf b S O J) (sym e) (of_right t g)
  together (found.First m u) found.Nothing z f g e = subst (FoundOf b S O J) (sym e) (first_of b P Q S join u.items f.0 (λ w h s q. g w h q), left m u.items f.1)
  together (found.First m u) (found.TooLarge t) z f g e = subst (FoundOf b S O J) (sym e) (of_right t g)
  together (found.First m u) (found.First l w) z f g (inl e) = subst (FoundOf b S O J) (sym e.0) (first_of b P Q S join u.items f.0 (before_none b Q u.items w.items g.0 e.1), left m u.items f.1)
  together (found.First m u) (found.First l w) z f g (inr e) = subst (FoundOf b S O J) (sym e.0) (first_of b Q P S (swapped b P Q S join) w.items g.0 (before_none b P w.items u.items f.0 e.1), right l w.items g.1)
