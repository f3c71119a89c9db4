-- Names that differ, and the names of claims, as a loop goes on.
use Rattle.std.proofs.Common.{◌≡◌, ◌≢◌, ℕ, ◌+◌, ◌<◌, Bool, true, false, Option, All, List, [], ◌∷◌, ◌++◌, length, take, get_or, sym, ap, subst, ◌∙◌}
use Rattle.std.specs.Bool.{Decides}
use Rattle.std.specs.List.{cons_option}
use Rattle.std.proofs.lemmas.List.{take_more}
use Rattle.std.proofs.lemmas.List.Elements.{All-push, filter_map-append}
use Rattle.std.proofs.lemmas.List.Quantifiers.{all_pairs_push}
use Rattle.rule_file.specs.declared.token.Token.{Token}
use Rattle.rule_file.specs.declared.tree.Line.{Line}
use Rattle.rule_file.specs.Claims.{bytes_of, claim_name, claim_names, Differ}

-- a test of `==` that failed
pub differs : (x y p q : List ℕ) (r : Bool) → x ≡ p → y ≡ q → Decides r (x ≡ y) → r ≡ false → p ≢ q
differs x y p q r a b d f = λ (e : p ≡ q). let t : r ≡ true = d.1 (a ∙ e ∙ sym b) in cc

-- one more of the others differs from a word
pub apart_more : (text : List ℕ) (others : List Token) (word : List ℕ) (i : ℕ) (d : Token) → i < length others → All (λ o. bytes_of text o ≢ word) (take i others) → bytes_of text (get_or others i d) ≢ word → All (λ o. bytes_of text o ≢ word) (take (i + 1) others)
apart_more text others word i d h a p =
    subst (λ (ts : List Token). All (λ o. bytes_of text o ≢ word) ts) (sym (take_more others i d h))
    (All-push (λ (o : Token). bytes_of text o ≢ word) (take i others) (get_or others i d) a p)

-- one more name differs from those before it
pub differ_more : (text : List ℕ) (names : List Token) (i : ℕ) (d : Token) → i < length names → Differ text (take i names) → All (λ o. bytes_of text o ≢ bytes_of text (get_or names i d)) (take i names) → Differ text (take (i + 1) names)
differ_more text names i d h a p =
    subst (λ (ts : List Token). Differ text ts) (sym (take_more names i d h))
    (all_pairs_push (λ (x y : Token). bytes_of text x ≢ bytes_of text y) (take i names) (get_or names i d) a p)

-- one more line is looked at
pub names_more : (ls : List Line) (i : ℕ) (l : Line) (old new : List Token) (o : Option Token) → i < length ls → l ≡ get_or ls i l → old ≡ claim_names (take i ls) → o ≡ claim_name l.statement → new ≡ old ++ cons_option o [] → new ≡ claim_names (take (i + 1) ls)
names_more ls i l old new o h e a b n =
    let f : Line → Option Token = λ x. claim_name x.statement in
    let one : claim_names (take (i + 1) ls) ≡ claim_names (take i ls) ++ cons_option (claim_name (get_or ls i l).statement) [] =
    ap (λ (xs : List Line). claim_names xs) (take_more ls i l h) ∙ filter_map-append f (take i ls) (get_or ls i l ∷ []) in
    let two : claim_names (take i ls) ++ cons_option (claim_name (get_or ls i l).statement) [] ≡ claim_names (take i ls) ++ cons_option (claim_name l.statement) [] =
    ap (λ (x : Line). claim_names (take i ls) ++ cons_option (claim_name x.statement) []) (sym e) in
    let three : old ++ cons_option o [] ≡ claim_names (take i ls) ++ cons_option (claim_name l.statement) [] =
    ap (λ (x : List Token). x ++ cons_option o []) a ∙ ap (λ (x : Option Token). claim_names (take i ls) ++ cons_option x []) b in
    n ∙ three ∙ sym two ∙ sym one
