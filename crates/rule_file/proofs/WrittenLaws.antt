-- The tokens of trees, as a reader goes on.
use Rattle.std.proofs.Common.{◌≡◌, ◌+◌, ◌<◌, List, [], ◌∷◌, ◌++◌, length, append_assoc, length-append, ◌∙◌, sym, ap, arith}
use Rattle.std.specs.List.{flat_map}
use Rattle.std.proofs.lemmas.List.{flat_map_more}
use Rattle.rule_file.specs.declared.token.Token.{Token}
use Rattle.rule_file.specs.declared.tree.Change.{Change}
use Rattle.rule_file.specs.declared.tree.Change.TheVariants as change
use Rattle.rule_file.specs.declared.tree.Pattern.{Pattern}
use Rattle.rule_file.specs.declared.tree.Statement.{Statement}
use Rattle.rule_file.specs.declared.tree.Statement.TheVariants as statement
use Rattle.rule_file.specs.declared.tree.Line.{Line}
use Rattle.rule_file.specs.Written.{term_tokens, pattern_tokens, change_tokens, effects_tokens, statement_tokens, line_tokens}

-- one part more is read
pub written_more : {X : Type 0} (f : X → List Token) (xs : List X) (x : X) (r s t : List Token) → flat_map f xs ++ s ≡ t → f x ++ r ≡ s → flat_map f (xs ++ x ∷ []) ++ r ≡ t
written_more f xs x r s t h e =
    let e1 : flat_map f (xs ++ x ∷ []) ≡ flat_map f xs ++ f x = sym (flat_map_more f [] xs x) in
    rw e1 (rw append_assoc (rw e h))

-- one token more is read
pub token_more : (xs : List Token) (x : Token) (r s t : List Token) → xs ++ s ≡ t → x ∷ r ≡ s → (xs ++ x ∷ []) ++ r ≡ t
token_more xs x r s t h e = rw append_assoc (rw e h)

-- behind some tokens are fewer
pub some_less : (xs r t : List Token) → 0 < length xs → xs ++ r ≡ t → length r < length t
some_less xs r t h e = let k : length xs + length r ≡ length t = sym (length-append xs r) ∙ ap length e in omega arith

pub change_some : (c : Change) → 0 < length (change_tokens c)
change_some (change.Set t) = omega arith
change_some (change.Clear s t) = omega arith
change_some (change.AsWas t e s) = omega arith

inner_some : (xs : List Token) (x : Token) (ys : List Token) → 0 < length (xs ++ x ∷ ys)
inner_some [] x ys = omega arith
inner_some (y ∷ xs) x ys = omega arith

pattern_some : (p : Pattern) → 0 < length (pattern_tokens p)
pattern_some p = inner_some (flat_map term_tokens p.left.items) p.first _

front_some : (xs ys : List Token) → 0 < length xs → 0 < length (xs ++ ys)
front_some xs ys h = let k : length (xs ++ ys) ≡ length xs + length ys = length-append xs ys in omega arith

statement_some : (s : Statement) → 0 < length (statement_tokens s)
statement_some (statement.Allowed h) = omega arith
statement_some (statement.Limit h f) = omega arith
statement_some (statement.Pattern p) = pattern_some p
statement_some (statement.Table h) = omega arith
statement_some (statement.Line p a e) = inner_some (pattern_tokens p) a (effects_tokens e)
statement_some (statement.Start h f) = omega arith
statement_some (statement.Never n p) = omega arith
statement_some (statement.Claim n f) = omega arith
statement_some (statement.Kept n f) = omega arith
statement_some (statement.Helpers h) = omega arith
statement_some (statement.Helper l f) = omega arith
statement_some (statement.Row h ms) = omega arith

pub line_some : (l : Line) → 0 < length (line_tokens l)
line_some l = front_some (statement_tokens l.statement) l.ends.items (statement_some l.statement)
