-- Words written one after the other.
use Rattle.std.proofs.Common.{ℕ, zero, suc, ◌≡◌, ◌<◌, ◌+◌, List, [], ◌∷◌, Result, Ok, Err, OnOk, sym, ap, ◌∙◌, arith, add-one, length, drop, get_or, string_bytes}
use Rattle.tokens.specs.declared.kind.Kind.TheVariants as kind
use Rattle.tokens.specs.Words.{Word, word}
use Rattle.trees.specs.declared.tree.Name.{Name}
use Rattle.trees.specs.declared.tree.Parameter.{Parameter}
use Rattle.syntax.specs.Plain.{comma, names_more}
use Rattle.syntax.specs.Items.{sort_word, parameters_more, view_parameters}
use Rattle.syntax.specs.Views.{names_of}
use Rattle.printing.specs.declared.writer.Writer.{Writer}
use Rattle.printing.specs.Writing.{text_with, Writes}

-- first words and then others
pub both : (old mid new : Writer) (f g : List Word → List Word) → Writes old mid f → Writes mid new g → Writes old new (λ rest. f (g rest))
both old mid new f g p q = λ rest. q rest ∙ p (g rest)

pub then_ok : {T E : Type 0} (r : Result T E) (old mid new : Writer) (f g : List Word → List Word) → Writes old mid f → OnOk r (Writes mid new g) → OnOk r (Writes old new (λ rest. f (g rest)))
then_ok (Ok x) old mid new f g p q = both old mid new f g p q
then_ok (Err e) old mid new f g p q = tt

-- the same words
pub same : (old new : Writer) (f g : List Word → List Word) → ((rest : List Word) → f rest ≡ g rest) → Writes old new f → Writes old new g
same old new f g e p = λ rest. p rest ∙ ap (text_with old) (e rest)

pub same_ok : {T E : Type 0} (r : Result T E) (old new : Writer) (f g : List Word → List Word) → ((rest : List Word) → f rest ≡ g rest) → OnOk r (Writes old new f) → OnOk r (Writes old new g)
same_ok (Ok x) old new f g e p = same old new f g e p
same_ok (Err x) old new f g e p = tt

next : {A : Type 0} (xs : List A) (i : ℕ) (d : A) → i < length xs → d ≡ get_or xs i d → drop i xs ≡ d ∷ drop (suc i) xs
next [] i d h e = absurd (omega (arith, h))
next (x ∷ xs) zero d h e = ap (λ y. y ∷ xs) (sym e)
next (x ∷ xs) (suc i) d h e = next xs i d (omega (arith, h)) e

-- the element that a loop has come to
pub next_item : {A : Type 0} (xs : List A) (i : ℕ) (d : A) → i < length xs → d ≡ get_or xs i d → drop i xs ≡ d ∷ drop (i + 1) xs
next_item xs i d h e = rw add-one (next xs i d h e)

pub name_step : (a b c : Writer) (t : List ℕ) (x : Name) (xs more : List Name) → Writes a b (λ r. comma ∷ r) → Writes b c (λ r. word kind.Name t ∷ r) → t ≡ string_bytes x.text → xs ≡ x ∷ more → (rest : List Word) → text_with c (names_more (names_of more) rest) ≡ text_with a (names_more (names_of xs) rest)
name_step a b c t x xs more p q e s = λ rest.
    q (names_more (names_of more) rest) ∙ p (word kind.Name t ∷ names_more (names_of more) rest) ∙ ap (λ u. text_with a (comma ∷ word kind.Name u ∷ names_more (names_of more) rest)) e
    ∙ ap (λ ys. text_with a (names_more (names_of ys) rest)) (sym s)

pub parameter_step : (a b c : Writer) (x : Parameter) (xs more : List Parameter) → Writes a b (λ r. comma ∷ r) → Writes b c (λ r. sort_word x.sort ∷ word kind.Name (string_bytes x.name.text) ∷ r) → xs ≡ x ∷ more → (rest : List Word) → text_with c (parameters_more (view_parameters more) rest) ≡ text_with a (parameters_more (view_parameters xs) rest)
parameter_step a b c x xs more p q s = λ rest.
    q (parameters_more (view_parameters more) rest) ∙ p (sort_word x.sort ∷ word kind.Name (string_bytes x.name.text) ∷ parameters_more (view_parameters more) rest) ∙ ap (λ ys. text_with a (parameters_more (view_parameters ys) rest)) (sym s)
