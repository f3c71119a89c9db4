-- One word more of a pattern, and one line more.
use Rattle.std.proofs.Common.{All, List, [], ◌∷◌, ◌++◌}
use Rattle.std.proofs.lemmas.List.Elements.{All-push}
use Rattle.rule_file.specs.declared.tree.Term.{Term}
use Rattle.rule_file.specs.declared.tree.Line.{Line}
use Rattle.rule_file.specs.Kinds.{IsTerm, HasWord, HaveWords}

pub terms_more : (xs : List Term) (x : Term) → All IsTerm xs → IsTerm x → All IsTerm (xs ++ x ∷ [])
terms_more xs x a p = All-push IsTerm xs x a p

pub lines_more : (ls : List Line) (l : Line) → HaveWords ls → HasWord l.statement → HaveWords (ls ++ l ∷ [])
lines_more ls l a p = All-push (λ (x : Line). HasWord x.statement) ls l a p
