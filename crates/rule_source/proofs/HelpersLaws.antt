-- Each line that may help to keep a claim has both a name and a formula.
use Rattle.std.proofs.Common.{◌≡◌, ℕ, suc, ◌+◌, ◌<◌, Option, List, [], ◌∷◌, ◌++◌, length, map, take, get_or, refl, sym, ap, ◌∙◌}
use Rattle.std.specs.List.{cons_option}
use Rattle.std.proofs.lemmas.List.{length-map, map-append}
use Rattle.std.proofs.lemmas.Slice.Zip.{AllZip-long}
use Rattle.rule_file.specs.declared.token.Token.{Token}
use Rattle.rule_file.specs.declared.tree.Line.{Line}
use Rattle.rule_file.specs.declared.tree.Statement.{Statement}
use Rattle.rule_file.specs.declared.tree.Statement.TheVariants as statement
use Rattle.formulas.specs.declared.formula.Formula.{Formula}
use Rattle.rule_source.specs.declared.bits.Bits.{Bits}
use Rattle.rule_source.specs.declared.formula.About.TheVariants.{Row}
use Rattle.rule_source.specs.Formulas.{AreHelpers, FormulaOf, helper_of, helpers_in}
use Rattle.rule_source.specs.Helpers.{helper_name, named_in}
use Rattle.rule_source.proofs.NamesLaws.{filtered_item}

-- a statement has both, or none of them
one_more : (s : Statement) (xs ys : List Token) → length xs ≡ length ys → length (cons_option (helper_name s) xs) ≡ length (cons_option (helper_of s) ys)
one_more (statement.Allowed h) xs ys e = e
one_more (statement.Limit h f) xs ys e = e
one_more (statement.Pattern p) xs ys e = e
one_more (statement.Table h) xs ys e = e
one_more (statement.Line p a d) xs ys e = e
one_more (statement.Start h f) xs ys e = e
one_more (statement.Never n p) xs ys e = e
one_more (statement.Claim n f) xs ys e = e
one_more (statement.Kept n f) xs ys e = e
one_more (statement.Helpers h) xs ys e = e
one_more (statement.Helper l f) xs ys e = ap suc e
one_more (statement.Row h ms) xs ys e = e

named_each : (ls : List Line) → length (named_in ls) ≡ length (helpers_in ls)
named_each [] = refl
named_each (l ∷ ls) = one_more l.statement (named_in ls) (helpers_in ls) (named_each ls)

-- names that are seen as the words of these lines' names are as many as the lines' formulas
pub as_many : {X : Type 0} (f : X → List ℕ) (word : Token → List ℕ) (names : List X) (ls : List Line) (n : ℕ) → map f names ≡ map word (named_in ls) → length (helpers_in ls) ≡ n → length names ≡ n
as_many f word names ls n e h =
    sym (length-map names f) ∙ ap length e ∙ length-map (named_in ls) word ∙ named_each ls ∙ h

-- one more line is looked at
pub names_more : (word : Token → List ℕ) (ls : List Line) (i : ℕ) (l : Line) (o : Option Token) (old new : List (List ℕ)) → i < length ls → l ≡ get_or ls i l → old ≡ map word (named_in (take i ls)) → o ≡ helper_name l.statement → new ≡ old ++ map word (cons_option o []) → new ≡ map word (named_in (take (i + 1) ls))
names_more word ls i l o old new h e a b n =
    let one : named_in (take i ls) ++ cons_option (helper_name l.statement) [] ≡ named_in (take (i + 1) ls) = filtered_item (λ (k : Line). helper_name k.statement) ls i l (named_in (take i ls)) _ h e refl refl in
    n ∙ ap (λ (q : Option Token). old ++ map word (cons_option q [])) b ∙ ap (λ (t : List (List ℕ)). t ++ map word (cons_option (helper_name l.statement) [])) a
    ∙ sym (map-append word (named_in (take i ls)) (cons_option (helper_name l.statement) [])) ∙ ap (λ (t : List Token). map word t) one

-- a formula has been read for each of these lines
pub each_read : (b : Bits) (ls : List Line) (read helpers : List Formula) → AreHelpers b ls read → helpers ≡ read → length (helpers_in ls) ≡ length helpers
each_read b ls read helpers a e = sym (AllZip-long (FormulaOf b Row) (helpers_in ls) read a) ∙ sym (ap length e)
