-- Items that were written are read again.
use Rattle.std.proofs.Common.{ℕ, zero, suc, ◌<◌, ◌≤◌, ◌≡◌, List, [], ◌∷◌, ◌++◌, false, Some, Ok, refl, sym, ap, ◌∙◌, arith, length, map, append_assoc, append-nil, inl}
use Rattle.tokens.specs.declared.kind.Kind.TheVariants as kind
use Rattle.trees.specs.declared.tree.Unary.TheVariants as unary
use Rattle.trees.specs.declared.tree.Sort.{Sort}
use Rattle.trees.specs.declared.tree.Sort.TheVariants.{Place, Set}
use Rattle.trees.specs.declared.tree.Quantifier.{Quantifier}
use Rattle.trees.specs.declared.tree.Quantifier.TheVariants as quantifier
use Rattle.tokens.specs.Words.{Word, word}
use Rattle.syntax.specs.Plain.{Plain, number, prefixed, joined, bound, counted, sign_of, quantifier_of, colon, semicolon, close, names, written}
use Rattle.syntax.specs.Parsing.{Reader, begins, parse}
use Rattle.syntax.specs.Grammar.{bare, AreNames, IsText}
use Rattle.syntax.specs.Rows.{rings_words, behind_words, is_rows}
use Rattle.syntax.specs.Items.{PlainItem, free, row, ring, predicate, assumed, claimed, sort_of, more_parameters, parameters_at, formula_at, claimed_at, other_at, the_row, the_ring, said_or, item_at, more_read, read_words, sort_word, parameters, parameters_more, equal, written_item, written_items, bare_item, IsFormula, AreParameters, IsItem, AreItems}
use Rattle.syntax.proofs.RowsLaws.{no_row, no_ring}
use Rattle.syntax.proofs.WrittenLaws.{longer, names_again, names_at_longer}
use Rattle.syntax.proofs.RoundTrip.{read_again}

quantifier_no_header : (q : Quantifier) (sort : Sort) (ws : List Word) → begins kind.Ws1s (quantifier_of q sort ∷ ws) ≡ false
quantifier_no_header quantifier.Some Place ws = refl
quantifier_no_header quantifier.Some Set ws = refl
quantifier_no_header quantifier.All Place ws = refl
quantifier_no_header quantifier.All Set ws = refl

no_header : (t : Plain) (rest : List Word) → IsText t → begins kind.Ws1s (written t rest) ≡ false
no_header (number n) rest x = absurd x
no_header (counted t m r) rest x = absurd x
no_header (prefixed unary.Not t) rest x = refl
no_header (prefixed unary.Min t) rest x = refl
no_header (prefixed unary.Max t) rest x = refl
no_header (prefixed unary.IsEmpty t) rest x = refl
no_header (joined b s t) rest x = no_header s (sign_of b ∷ written t rest) x.0
no_header (bound q sort xs t) rest x = quantifier_no_header q sort (names xs (colon ∷ written t rest))
no_header _ rest x = refl

quantifier_claimed : (p : Reader) (n : ℕ) (q : Quantifier) (sort : Sort) (ws : List Word) → other_at p n (quantifier_of q sort ∷ ws) ≡ claimed_at p (quantifier_of q sort ∷ ws)
quantifier_claimed p n quantifier.Some Place ws = refl
quantifier_claimed p n quantifier.Some Set ws = refl
quantifier_claimed p n quantifier.All Place ws = refl
quantifier_claimed p n quantifier.All Set ws = refl

-- a formula begins as no other item does
other_claimed : (p : Reader) (n : ℕ) (t : Plain) (rest : List Word) → IsText t → other_at p n (written t rest) ≡ claimed_at p (written t rest)
other_claimed p n (number i) rest x = absurd x
other_claimed p n (counted t i j) rest x = absurd x
other_claimed p n (prefixed unary.Not t) rest x = refl
other_claimed p n (prefixed unary.Min t) rest x = refl
other_claimed p n (prefixed unary.Max t) rest x = refl
other_claimed p n (prefixed unary.IsEmpty t) rest x = refl
other_claimed p n (joined b s t) rest x = other_claimed p n s (sign_of b ∷ written t rest) x.0
other_claimed p n (bound q sort xs t) rest x = quantifier_claimed p n q sort (names xs (colon ∷ written t rest))
other_claimed p n _ rest x = refl

is_claimed : (p : Reader) (n : ℕ) (t : Plain) (rest : List Word) → IsText t → is_rows t ≡ false → item_at p n (written t rest) ≡ claimed_at p (written t rest)
is_claimed p n t rest x e =
    let ws = written t rest in
    ap (λ o. said_or the_row o (said_or the_ring (behind_words rings_words ws) (other_at p n ws))) (no_row t rest x (inl e))
    ∙ ap (λ o. said_or the_ring o (other_at p n ws)) (no_ring t rest x (inl e)) ∙ other_claimed p n t rest x

formula_again : (t : Plain) (n c : ℕ) (rest : List Word) → IsFormula t → c ≡ 2000 → length (written t (semicolon ∷ rest)) ≤ n → formula_at (parse n c) (written t (semicolon ∷ rest)) ≡ Ok (bare t, rest)
formula_again t n c rest x e le = rw (read_again t n c (semicolon ∷ rest) x.0 (omega (arith, e, x.1)) x.2 (refl, refl) le) refl

sort_is : (s : Sort) (ws : List Word) → sort_of (sort_word s ∷ ws) ≡ Some s
sort_is Place ws = refl
sort_is Set ws = refl

sort_no_close : (s : Sort) (ws : List Word) → begins kind.Close (sort_word s ∷ ws) ≡ false
sort_no_close Place ws = refl
sort_no_close Set ws = refl

sort_no_header : (s : Sort) (ws : List Word) → begins kind.Ws1s (sort_word s ∷ ws) ≡ false
sort_no_header Place ws = refl
sort_no_header Set ws = refl

more_parameters_again : (ps : List (Sort × List ℕ)) (n : ℕ) (s : Sort) (acc : List (Sort × List ℕ)) (rest : List Word) → AreParameters ps → begins kind.Comma rest ≡ false → length (parameters_more ps rest) ≤ n → more_parameters n s acc (parameters_more ps rest) ≡ Ok (acc ++ ps, rest)
more_parameters_again [] zero s acc rest a e le = rw append-nil refl
more_parameters_again [] (suc n) s acc rest a e le = rw e (rw append-nil refl)
more_parameters_again (p ∷ ps) zero s acc rest a e le = absurd (omega (arith, le))
more_parameters_again (p ∷ ps) (suc n) s acc rest a e le =
    let h = more_parameters_again ps n p.0 (acc ++ p ∷ []) rest a.1 e (omega (arith, le)) in
    rw (sort_is p.0 (word kind.Name p.1 ∷ parameters_more ps rest)) (rw a.0 (rw h (ap (λ qs. Ok (qs, rest)) (append_assoc acc (p ∷ []) ps))))

parameters_longer : (ps : List (Sort × List ℕ)) (rest : List Word) → length rest ≤ length (parameters_more ps rest)
parameters_longer [] rest = omega arith
parameters_longer (p ∷ ps) rest = let h = parameters_longer ps rest in omega arith

parameters_at_longer : (ps : List (Sort × List ℕ)) (rest : List Word) → length rest ≤ length (parameters ps rest)
parameters_at_longer [] rest = omega arith
parameters_at_longer (p ∷ ps) rest = let h = parameters_longer ps rest in omega arith

parameters_again : (ps : List (Sort × List ℕ)) (n : ℕ) (rest : List Word) → AreParameters ps → length (parameters ps (close ∷ rest)) ≤ n → parameters_at n (parameters ps (close ∷ rest)) ≡ Ok (ps, rest)
parameters_again [] n rest a le = refl
parameters_again (p ∷ ps) n rest a le =
    let ws = word kind.Name p.1 ∷ parameters_more ps (close ∷ rest) in
    let h = more_parameters_again ps n p.0 (p ∷ []) (close ∷ rest) a.1 refl (omega (arith, le)) in
    rw (sort_no_close p.0 ws) (rw (sort_is p.0 ws) (rw a.0 (rw h refl)))

longer_item : (i : PlainItem) (rest : List Word) → length rest < length (written_item i rest)
longer_item (free sort xs) rest = let h = names_at_longer xs (semicolon ∷ rest) in omega arith
longer_item (row places last) rest = omega arith
longer_item (ring places) rest = omega arith
longer_item (predicate f ps t) rest = let h = longer t (semicolon ∷ rest) in let i = parameters_at_longer ps (close ∷ equal ∷ written t (semicolon ∷ rest)) in omega arith
longer_item (assumed t) rest = let h = longer t (semicolon ∷ rest) in omega arith
longer_item (claimed t) rest = let h = longer t (semicolon ∷ rest) in omega arith

free_again : (sort : Sort) (p : Reader) (n : ℕ) (xs : List (List ℕ)) (rest : List Word) → AreNames xs → length (names xs (semicolon ∷ rest)) ≤ n → item_at p n (sort_word sort ∷ names xs (semicolon ∷ rest)) ≡ Ok (free sort xs, rest)
free_again Place p n xs rest x le = rw (names_again xs n (semicolon ∷ rest) x refl le) refl
free_again Set p n xs rest x le = rw (names_again xs n (semicolon ∷ rest) x refl le) refl

item_again : (i : PlainItem) (n c : ℕ) (rest : List Word) → IsItem i → c ≡ 2000 → length (written_item i rest) ≤ n → item_at (parse n c) n (written_item i rest) ≡ Ok (bare_item i, rest)
item_again (free sort xs) n c rest x e le = free_again sort (parse n c) n xs rest x (omega (arith, le))
item_again (row places last) n c rest x e le = rw x.0 (rw x.1 refl)
item_again (ring places) n c rest x e le = rw x refl
item_again (predicate f ps t) n c rest x e le =
    let i = parameters_at_longer ps (close ∷ equal ∷ written t (semicolon ∷ rest)) in
    let ps_again = parameters_again ps n (equal ∷ written t (semicolon ∷ rest)) x.1 (omega (arith, le)) in
    rw x.0 (rw ps_again (rw (formula_again t n c rest x.2 e (omega (arith, le, i))) refl))
item_again (assumed t) n c rest x e le = rw (formula_again t n c rest x e (omega (arith, le))) refl
item_again (claimed t) n c rest x e le = is_claimed (parse n c) n t (semicolon ∷ rest) x.0.0 x.1 ∙ rw (formula_again t n c rest x.0 e le) refl

goes_on : (p : Reader) (n k : ℕ) (is : List PlainItem) (ws rest : List Word) (i : PlainItem) → length ws ≤ k → 0 < length ws → item_at p n ws ≡ Ok (i, rest) → (j : ℕ) × (k ≡ suc j) × (more_read p n k is ws ≡ more_read p n j (is ++ i ∷ []) rest)
goes_on p n k is [] rest i le lt e = absurd (omega (arith, lt))
goes_on p n zero is (w ∷ ws) rest i le lt e = absurd (omega (arith, le))
goes_on p n (suc k) is (w ∷ ws) rest i le lt e = (k, refl, rw e refl)

more_again : (is : List PlainItem) (n k c : ℕ) (acc : List PlainItem) → AreItems is → c ≡ 2000 → length (written_items is) ≤ n → length (written_items is) ≤ k → more_read (parse n c) n k acc (written_items is) ≡ Ok (acc ++ map bare_item is)
more_again [] n k c acc x e le lk = ap Ok (sym (append-nil acc))
more_again (i ∷ is) n k c acc x e le lk =
    let h = longer_item i (written_items is) in
    let step = goes_on (parse n c) n k acc (written_item i (written_items is)) (written_items is) (bare_item i) lk (omega (arith, h)) (item_again i n c (written_items is) x.0 e le) in
    step.2 ∙ more_again is n step.0 c (acc ++ bare_item i ∷ []) x.1 e (omega (arith, le, h)) (omega (arith, lk, h, step.1)) ∙ ap Ok (append_assoc acc (bare_item i ∷ []) (map bare_item is))

item_no_header : (i : PlainItem) (rest : List Word) → IsItem i → begins kind.Ws1s (written_item i rest) ≡ false
item_no_header (free sort xs) rest x = sort_no_header sort (names xs (semicolon ∷ rest))
item_no_header (row places last) rest x = refl
item_no_header (ring places) rest x = refl
item_no_header (predicate f ps t) rest x = refl
item_no_header (assumed t) rest x = refl
item_no_header (claimed t) rest x = no_header t (semicolon ∷ rest) x.0.0

items_no_header : (is : List PlainItem) → AreItems is → begins kind.Ws1s (written_items is) ≡ false
items_no_header [] x = refl
items_no_header (i ∷ is) x = item_no_header i (written_items is) x.0

-- items that were written are read again
pub items_again : (is : List PlainItem) (n c : ℕ) → AreItems is → c ≡ 2000 → length (written_items is) ≤ n → read_words n c (written_items is) ≡ Ok (map bare_item is)
items_again is n c x e le = rw (items_no_header is x) (more_again is n n c [] x e le le)
