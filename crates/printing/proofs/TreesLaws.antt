-- The words of a tree's parts.
use Rattle.std.proofs.Common.{ℕ, ◌≡◌, List, ◌∷◌, Bool, Vec, Global, sym, ap, ◌∙◌, string_bytes}
use Rattle.tokens.specs.declared.kind.Kind.TheVariants as kind
use Rattle.tokens.specs.Words.{Word, word}
use Rattle.trees.specs.declared.tree.Name.{Name}
use Rattle.trees.specs.Tree.{Expr}
use Rattle.trees.specs.declared.tree.ExprKind.{ExprKind, Listed, Call}
use Rattle.syntax.specs.Plain.{Plain, listed, call, written, list, open_, close, open_set, close_set}
use Rattle.syntax.specs.Views.{view, view_all}
use Rattle.syntax.specs.Printed.{text, texts}
use Rattle.syntax.proofs.ExpressionLaws.{listed_view, call_view}

pub of_view : (all : Bool) (x : ExprKind) (t : Plain) → view x ≡ t → (rest : List Word) → written (text all t) rest ≡ written (text all (view x)) rest
of_view all x t e rest = ap (λ u. written (text all u) rest) (sym e)

pub listed_words : (a : Bool) (x : ExprKind) (all : Vec Expr Global) (es : List Expr) → x ≡ Listed all → es ≡ all.items → (rest : List Word) → open_set ∷ list (texts a (view_all es)) (close_set ∷ rest) ≡ written (text a (view x)) rest
listed_words a x all es e f rest = ap (λ l. written (text a (listed (view_all l))) rest) f ∙ of_view a x (listed (view_all all.items)) (ap view e ∙ listed_view all) rest

pub call_words : (a : Bool) (x : ExprKind) (f : Name) (all : Vec Expr Global) (t : List ℕ) (es : List Expr) → x ≡ Call f all → t ≡ string_bytes f.text → es ≡ all.items → (rest : List Word) → word kind.Name t ∷ open_ ∷ list (texts a (view_all es)) (close ∷ rest) ≡ written (text a (view x)) rest
call_words a x f all t es e g h rest = ap (λ u. written (text a (call u (view_all es))) rest) g ∙ ap (λ l. written (text a (call (string_bytes f.text) (view_all l))) rest) h ∙ of_view a x (call (string_bytes f.text) (view_all all.items)) (ap view e ∙ call_view f all) rest
