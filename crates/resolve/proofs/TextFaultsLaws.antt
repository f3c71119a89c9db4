-- Faults of an item are faults of the text.
use Rattle.std.proofs.Common.{◌≡◌, ◌⊎◌, List, ◌∷◌, inl, inr, sym, subst, string_bytes, Result, IfErr, IsErrAnd}
use Rattle.trees.specs.declared.tree.Name.{Name}
use Rattle.trees.specs.declared.tree.Sort.{Sort}
use Rattle.trees.specs.declared.tree.Item.{Item}
use Rattle.resolve.specs.declared.fault.Fault.{Fault}
use Rattle.resolve.specs.Faults.{Signature, named, FaultyText, NamedAgain, IsLimit, with_names}
use Rattle.resolve.proofs.FaultsLaws.{passed, if_err}

pub text_passed : {A : Type 0} (r : Result A Fault) (k : Signature) (items rest : List Item) (first : Item) (P : Fault → Type 0) (g : Fault) → IsErrAnd r (λ x. x ≡ g) → items ≡ first ∷ rest →
    (P g → FaultyText (first ∷ rest) k g) → IsLimit g ⊎ P g → IfErr r (λ f. IsLimit f ⊎ FaultyText items k f)
text_passed r k items rest first P g is parts turn h = passed r g (λ f. IsLimit f ⊎ FaultyText items k f) is
    (elim h [ inl l ↦ inl l | inr q ↦ inr (subst (λ (l : List Item). FaultyText l k g) (sym parts) (turn q)) ])

pub text_tail : {A : Type 0} (r : Result A Fault) (k : Signature) (items rest : List Item) (first : Item) (P : Fault → Type 0) → items ≡ first ∷ rest →
    ((g : Fault) → P g → FaultyText (first ∷ rest) k g) → IfErr r (λ f. IsLimit f ⊎ P f) → IfErr r (λ f. IsLimit f ⊎ FaultyText items k f)
text_tail r k items rest first P parts turn h = if_err r (λ f. IsLimit f ⊎ P f) (λ f. IsLimit f ⊎ FaultyText items k f)
    (λ g. elim [ inl l ↦ inl l | inr q ↦ inr (subst (λ (l : List Item). FaultyText l k g) (sym parts) (turn g q)) ]) h

-- what is told where names are declared
abbrev pub InNames : Signature → Sort → List Name → List Item → Fault → Type 0
InNames k sort names items f = NamedAgain sort names k f ⊎ FaultyText items (with_names sort names k) f

pub names_more : {A : Type 0} (r : Result A Fault) (k : Signature) (sort s : Sort) (names rest : List Name) (x : Name) (items : List Item) → names ≡ x ∷ rest → s ≡ sort →
    IfErr r (λ f. IsLimit f ⊎ InNames (named (string_bytes x.text) s k) sort rest items f) → IfErr r (λ f. IsLimit f ⊎ InNames k sort names items f)
names_more r k sort s names rest x items parts same h =
    subst (λ (l : List Name). IfErr r (λ f. IsLimit f ⊎ InNames k sort l items f)) (sym parts)
    (if_err r (λ f. IsLimit f ⊎ InNames (named (string_bytes x.text) sort k) sort rest items f) (λ f. IsLimit f ⊎ InNames k sort (x ∷ rest) items f)
    (λ g. elim [ inl l ↦ inl l | inr q ↦ inr (elim q [ inl n ↦ inl (inr n) | inr n ↦ inr n ]) ])
    (subst (λ y. IfErr r (λ f. IsLimit f ⊎ InNames (named (string_bytes x.text) y k) sort rest items f)) same h))
