-- The words of a tree are told apart by their text, if its names are.
use Rattle.std.proofs.Common.{◌≡◌, ◌<◌, ◌≤◌, ◌/◌, ◌%◌, ◌+◌, ◌&&◌, ℕ, Bool, true, false, List, [], ◌∷◌, ◌++◌, length, map, refl, arith, length-append}
use Rattle.std.specs.Prelude.{decimal}
use Rattle.std.proofs.lemmas.Fmt.{decimal_by_steps}
use Rattle.tokens.specs.declared.kind.Kind.TheVariants as kind
use Rattle.tokens.specs.Spelling.{is_digit, each}
use Rattle.tokens.specs.Words.{Word, word}
use Rattle.tokens.specs.Scan.{word_kind, sign_at}
use Rattle.tokens.specs.Spaced.{IsAlone, AreAlone, NamesAlone}
use Rattle.tokens.proofs.ScanLaws.{digits_front}
use Rattle.trees.specs.declared.tree.Unary.TheVariants as unary
use Rattle.trees.specs.declared.tree.Binary.{Binary}
use Rattle.trees.specs.declared.tree.Binary.TheVariants as binary
use Rattle.trees.specs.declared.tree.Sort.{Sort}
use Rattle.trees.specs.declared.tree.Sort.TheVariants.{Place, Set}
use Rattle.trees.specs.declared.tree.Quantifier.{Quantifier}
use Rattle.trees.specs.declared.tree.Quantifier.TheVariants as quantifier
use Rattle.syntax.specs.Plain.{Plain, yes, no, nowhere, number, digits, named, paren, listed, prefixed, joined, bound, call, counted, tallied, Plains, none, more, sign_of, quantifier_of, mod_bytes, tally, names, names_more, written, list_more, close}
use Rattle.syntax.specs.Parsing.{right_of, MOST}
use Rattle.syntax.specs.Rows.{rows_name, rings_name, is_rows}
use Rattle.syntax.specs.Items.{PlainItem, free, row, ring, predicate, assumed, claimed, sort_word, parameters, parameters_more, written_item, written_items}
use Rattle.syntax.specs.Printed.{left_of, enclosed, within_parens, text, texts, IsTree, AreTrees, text_item, IsTreeItem, AreTreeItems}

-- words that are alone if their names are
pub record Goes (ws : List Word) : Type 0 where
  pub alone : NamesAlone ws → AreAlone ws

true_goes : (ws : List Word) → Goes ws → Goes (word kind.True (116 ∷ 114 ∷ 117 ∷ 101 ∷ []) ∷ ws)
unfolding word_kind sign_at
true_goes ws q = record { alone = λ h. (refl, q.alone h) }

false_goes : (ws : List Word) → Goes ws → Goes (word kind.False (102 ∷ 97 ∷ 108 ∷ 115 ∷ 101 ∷ []) ∷ ws)
unfolding word_kind sign_at
false_goes ws q = record { alone = λ h. (refl, q.alone h) }

nowhere_goes : (ws : List Word) → Goes ws → Goes (word kind.Empty (101 ∷ 109 ∷ 112 ∷ 116 ∷ 121 ∷ []) ∷ ws)
unfolding word_kind sign_at
nowhere_goes ws q = record { alone = λ h. (refl, q.alone h) }

open_goes : (ws : List Word) → Goes ws → Goes (word kind.Open (40 ∷ []) ∷ ws)
unfolding word_kind sign_at
open_goes ws q = record { alone = λ h. (refl, q.alone h) }

close_goes : (ws : List Word) → Goes ws → Goes (word kind.Close (41 ∷ []) ∷ ws)
unfolding word_kind sign_at
close_goes ws q = record { alone = λ h. (refl, q.alone h) }

open_set_goes : (ws : List Word) → Goes ws → Goes (word kind.OpenSet (123 ∷ []) ∷ ws)
unfolding word_kind sign_at
open_set_goes ws q = record { alone = λ h. (refl, q.alone h) }

close_set_goes : (ws : List Word) → Goes ws → Goes (word kind.CloseSet (125 ∷ []) ∷ ws)
unfolding word_kind sign_at
close_set_goes ws q = record { alone = λ h. (refl, q.alone h) }

comma_goes : (ws : List Word) → Goes ws → Goes (word kind.Comma (44 ∷ []) ∷ ws)
unfolding word_kind sign_at
comma_goes ws q = record { alone = λ h. (refl, q.alone h) }

colon_goes : (ws : List Word) → Goes ws → Goes (word kind.Colon (58 ∷ []) ∷ ws)
unfolding word_kind sign_at
colon_goes ws q = record { alone = λ h. (refl, q.alone h) }

semicolon_goes : (ws : List Word) → Goes ws → Goes (word kind.Semicolon (59 ∷ []) ∷ ws)
unfolding word_kind sign_at
semicolon_goes ws q = record { alone = λ h. (refl, q.alone h) }

not_goes : (ws : List Word) → Goes ws → Goes (word kind.Not (126 ∷ []) ∷ ws)
unfolding word_kind sign_at
not_goes ws q = record { alone = λ h. (refl, q.alone h) }

min_goes : (ws : List Word) → Goes ws → Goes (word kind.Min (109 ∷ 105 ∷ 110 ∷ []) ∷ ws)
unfolding word_kind sign_at
min_goes ws q = record { alone = λ h. (refl, q.alone h) }

max_goes : (ws : List Word) → Goes ws → Goes (word kind.Max (109 ∷ 97 ∷ 120 ∷ []) ∷ ws)
unfolding word_kind sign_at
max_goes ws q = record { alone = λ h. (refl, q.alone h) }

equal_goes : (ws : List Word) → Goes ws → Goes (word kind.Equal (61 ∷ []) ∷ ws)
unfolding word_kind sign_at
equal_goes ws q = record { alone = λ h. (refl, q.alone h) }

assert_goes : (ws : List Word) → Goes ws → Goes (word kind.Assert (97 ∷ 115 ∷ 115 ∷ 101 ∷ 114 ∷ 116 ∷ []) ∷ ws)
unfolding word_kind sign_at
assert_goes ws q = record { alone = λ h. (refl, q.alone h) }

predicate_goes : (ws : List Word) → Goes ws → Goes (word kind.Predicate (112 ∷ 114 ∷ 101 ∷ 100 ∷ []) ∷ ws)
unfolding word_kind sign_at
predicate_goes ws q = record { alone = λ h. (refl, q.alone h) }

ex1_goes : (ws : List Word) → Goes ws → Goes (word kind.Ex1 (101 ∷ 120 ∷ 49 ∷ []) ∷ ws)
unfolding word_kind sign_at
ex1_goes ws q = record { alone = λ h. (refl, q.alone h) }

ex2_goes : (ws : List Word) → Goes ws → Goes (word kind.Ex2 (101 ∷ 120 ∷ 50 ∷ []) ∷ ws)
unfolding word_kind sign_at
ex2_goes ws q = record { alone = λ h. (refl, q.alone h) }

all1_goes : (ws : List Word) → Goes ws → Goes (word kind.All1 (97 ∷ 108 ∷ 108 ∷ 49 ∷ []) ∷ ws)
unfolding word_kind sign_at
all1_goes ws q = record { alone = λ h. (refl, q.alone h) }

all2_goes : (ws : List Word) → Goes ws → Goes (word kind.All2 (97 ∷ 108 ∷ 108 ∷ 50 ∷ []) ∷ ws)
unfolding word_kind sign_at
all2_goes ws q = record { alone = λ h. (refl, q.alone h) }

var1_goes : (ws : List Word) → Goes ws → Goes (word kind.Var1 (118 ∷ 97 ∷ 114 ∷ 49 ∷ []) ∷ ws)
unfolding word_kind sign_at
var1_goes ws q = record { alone = λ h. (refl, q.alone h) }

var2_goes : (ws : List Word) → Goes ws → Goes (word kind.Var2 (118 ∷ 97 ∷ 114 ∷ 50 ∷ []) ∷ ws)
unfolding word_kind sign_at
var2_goes ws q = record { alone = λ h. (refl, q.alone h) }

sign_goes : (b : Binary) (ws : List Word) → Goes ws → Goes (sign_of b ∷ ws)
unfolding word_kind sign_at
sign_goes binary.Iff ws q = record { alone = λ h. (refl, q.alone h) }
sign_goes binary.Implies ws q = record { alone = λ h. (refl, q.alone h) }
sign_goes binary.Or ws q = record { alone = λ h. (refl, q.alone h) }
sign_goes binary.And ws q = record { alone = λ h. (refl, q.alone h) }
sign_goes binary.In ws q = record { alone = λ h. (refl, q.alone h) }
sign_goes binary.NotIn ws q = record { alone = λ h. (refl, q.alone h) }
sign_goes binary.Sub ws q = record { alone = λ h. (refl, q.alone h) }
sign_goes binary.Equal ws q = record { alone = λ h. (refl, q.alone h) }
sign_goes binary.Differs ws q = record { alone = λ h. (refl, q.alone h) }
sign_goes binary.Less ws q = record { alone = λ h. (refl, q.alone h) }
sign_goes binary.AtMost ws q = record { alone = λ h. (refl, q.alone h) }
sign_goes binary.Greater ws q = record { alone = λ h. (refl, q.alone h) }
sign_goes binary.AtLeast ws q = record { alone = λ h. (refl, q.alone h) }
sign_goes binary.Union ws q = record { alone = λ h. (refl, q.alone h) }
sign_goes binary.Inter ws q = record { alone = λ h. (refl, q.alone h) }
sign_goes binary.Without ws q = record { alone = λ h. (refl, q.alone h) }
sign_goes binary.Plus ws q = record { alone = λ h. (refl, q.alone h) }
sign_goes binary.Minus ws q = record { alone = λ h. (refl, q.alone h) }

quantifier_goes : (q : Quantifier) (sort : Sort) (ws : List Word) → Goes ws → Goes (quantifier_of q sort ∷ ws)
quantifier_goes quantifier.Some Place ws q = ex1_goes ws q
quantifier_goes quantifier.Some Set ws q = ex2_goes ws q
quantifier_goes quantifier.All Place ws q = all1_goes ws q
quantifier_goes quantifier.All Set ws q = all2_goes ws q

sort_goes : (sort : Sort) (ws : List Word) → Goes ws → Goes (sort_word sort ∷ ws)
sort_goes Place ws q = var1_goes ws q
sort_goes Set ws q = var2_goes ws q

name_goes : (x : List ℕ) (ws : List Word) → Goes ws → Goes (word kind.Name x ∷ ws)
name_goes x ws q = record { alone = λ h. (h.0, q.alone h.1) }

abbrev pub AreDigits : ℕ → List ℕ → Type 0
AreDigits n d = (each is_digit d ≡ true) × (0 < length d)

both_true : (p q : Bool) → p ≡ true → q ≡ true → p && q ≡ true
both_true p q e f = rw e f

each_push : (p : ℕ → Bool) (d : List ℕ) (x : ℕ) → each p d ≡ true → p x ≡ true → each p (d ++ x ∷ []) ≡ true
each_push p [] x h e = both_true (p x) true e refl
each_push p (b ∷ d) x h e = go (p b) (λ i. each_push p d x i e) h where
  go : (q : Bool) → (each p d ≡ true → each p (d ++ x ∷ []) ≡ true) → q && each p d ≡ true → q && each p (d ++ x ∷ []) ≡ true
  go true f i = f i
  go false f i = i

is_digit_of : (n : ℕ) → n < 10 → is_digit (48 + n) ≡ true
is_digit_of n h = grind arith

digits_one : (n : ℕ) → n < 10 → AreDigits n ((48 + n) ∷ [])
digits_one n h = (both_true (is_digit (48 + n)) true (is_digit_of n h) refl, omega arith)

digits_more : (n : ℕ) (d : List ℕ) → 10 ≤ n → AreDigits (n / 10) d → AreDigits n (d ++ ((48 + n % 10) ∷ []))
digits_more n d h a = let l = length-append d ((48 + n % 10) ∷ []) in (each_push is_digit d (48 + n % 10) a.0 (is_digit_of (n % 10) (omega arith)), omega (arith, l))

number_alone : (n : ℕ) → n ≤ MOST → IsAlone (word kind.Number (decimal n))
number_alone n h = let d : AreDigits n (decimal n) = decimal_by_steps AreDigits digits_one digits_more n (omega (arith, h)) in digits_front (decimal n) d.0 d.1

number_goes : (n : ℕ) (ws : List Word) → n ≤ MOST → Goes ws → Goes (word kind.Number (decimal n) ∷ ws)
number_goes n ws le q = record { alone = λ h. (number_alone n le, q.alone h) }

tally_goes : (m r : ℕ) (rest : List Word) → m ≤ MOST → r ≤ MOST → Goes rest → Goes (tally (decimal m) (decimal r) rest)
tally_goes m r rest h i q = sign_goes binary.Or _ (name_goes mod_bytes _ (number_goes m _ h (sign_goes binary.Equal _ (number_goes r rest i q))))

names_more_go : (xs : List (List ℕ)) (rest : List Word) → Goes rest → Goes (names_more xs rest)
names_more_go [] rest q = q
names_more_go (x ∷ xs) rest q = comma_goes _ (name_goes x _ (names_more_go xs rest q))

names_go : (xs : List (List ℕ)) (rest : List Word) → Goes rest → Goes (names xs rest)
names_go [] rest q = q
names_go (x ∷ xs) rest q = name_goes x _ (names_more_go xs rest q)

enclosed_goes : (b : Bool) (u : Plain) (rest : List Word) → ((ws : List Word) → Goes ws → Goes (written u ws)) → Goes rest → Goes (written (enclosed b u) rest)
enclosed_goes true u rest f q = open_goes _ (f (close ∷ rest) (close_goes rest q))
enclosed_goes false u rest f q = f rest q

mutual
  tree_goes : (t : Plain) (all : Bool) (rest : List Word) → IsTree t → Goes rest → Goes (written (text all t) rest)
  tree_goes yes all rest x q = true_goes rest q
  tree_goes no all rest x q = false_goes rest q
  tree_goes nowhere all rest x q = nowhere_goes rest q
  tree_goes (number n) all rest x q = number_goes n rest x q
  tree_goes (digits d) all rest x q = absurd x
  tree_goes (named f) all rest x q = name_goes f rest q
  tree_goes (paren t) all rest x q = absurd x
  tree_goes (listed none) all rest x q = absurd x
  tree_goes (listed (more t ts)) all rest x q = open_set_goes _ (tree_goes t all _ x.0 (list_more_goes ts all _ x.1 (close_set_goes rest q)))
  tree_goes (prefixed unary.Not t) all rest x q = not_goes _ (enclosed_goes (within_parens all 6 t) (text all t) rest (λ ws r. tree_goes t all ws x r) q)
  tree_goes (prefixed unary.Min t) all rest x q = min_goes _ (enclosed_goes (within_parens all 9 t) (text all t) rest (λ ws r. tree_goes t all ws x r) q)
  tree_goes (prefixed unary.Max t) all rest x q = max_goes _ (enclosed_goes (within_parens all 9 t) (text all t) rest (λ ws r. tree_goes t all ws x r) q)
  tree_goes (prefixed unary.IsEmpty t) all rest x q = nowhere_goes _ (open_goes _ (tree_goes t all _ x (close_goes rest q)))
  tree_goes (joined b s t) all rest x q = enclosed_goes (within_parens all (left_of b) s) (text all s) _ (λ ws r. tree_goes s all ws x.0 r) (sign_goes b _ (enclosed_goes (within_parens all (right_of b) t) (text all t) rest (λ ws r. tree_goes t all ws x.1 r) q))
  tree_goes (bound k sort xs t) all rest x q = quantifier_goes k sort _ (names_go xs _ (colon_goes _ (enclosed_goes (within_parens all 0 t) (text all t) rest (λ ws r. tree_goes t all ws x.1 r) q)))
  tree_goes (counted t m r) all rest x q = sign_goes binary.Or _ (enclosed_goes (within_parens all 9 t) (text all t) _ (λ ws s. tree_goes t all ws x.0 s) (tally_goes m r rest x.1 x.2 q))
  tree_goes (tallied t d e) all rest x q = absurd x
  tree_goes (call f none) all rest x q = name_goes f _ (open_goes _ (close_goes rest q))
  tree_goes (call f (more t ts)) all rest x q = name_goes f _ (open_goes _ (tree_goes t all _ x.1.0 (list_more_goes ts all _ x.1.1 (close_goes rest q))))

  list_more_goes : (ts : Plains) (all : Bool) (rest : List Word) → AreTrees ts → Goes rest → Goes (list_more (texts all ts) rest)
  list_more_goes none all rest x q = q
  list_more_goes (more t ts) all rest x q = comma_goes _ (tree_goes t all _ x.0 (list_more_goes ts all rest x.1 q))

parameters_more_go : (ps : List (Sort × List ℕ)) (rest : List Word) → Goes rest → Goes (parameters_more ps rest)
parameters_more_go [] rest q = q
parameters_more_go (p ∷ ps) rest q = comma_goes _ (sort_goes p.0 _ (name_goes p.1 _ (parameters_more_go ps rest q)))

parameters_go : (ps : List (Sort × List ℕ)) (rest : List Word) → Goes rest → Goes (parameters ps rest)
parameters_go [] rest q = q
parameters_go (p ∷ ps) rest q = sort_goes p.0 _ (name_goes p.1 _ (parameters_more_go ps rest q))

item_goes : (i : PlainItem) (all : Bool) (rest : List Word) → IsTreeItem i → Goes rest → Goes (written_item (text_item all i) rest)
item_goes (free sort xs) all rest x q = sort_goes sort _ (names_go xs _ (semicolon_goes rest q))
item_goes (row places last) all rest x q = name_goes rows_name _ (semicolon_goes rest q)
item_goes (ring places) all rest x q = name_goes rings_name _ (semicolon_goes rest q)
item_goes (predicate f ps t) all rest x q = predicate_goes _ (name_goes f _ (open_goes _ (parameters_go ps _ (close_goes _ (equal_goes _ (tree_goes t all _ x.2 (semicolon_goes rest q)))))))
item_goes (assumed t) all rest x q = assert_goes _ (tree_goes t all _ x.0 (semicolon_goes rest q))
item_goes (claimed t) all rest x q = enclosed_goes (is_rows t) (text all t) _ (λ ws r. tree_goes t all ws x.0 r) (semicolon_goes rest q)

items_go : (is : List PlainItem) (all : Bool) → AreTreeItems is → Goes (written_items (map (text_item all) is))
items_go [] all x = record { alone = λ h. tt }
items_go (i ∷ is) all x = item_goes i all _ x.0 (items_go is all x.1)

-- the words of items are alone if their names are
pub items_alone : (is : List PlainItem) (all : Bool) → AreTreeItems is → NamesAlone (written_items (map (text_item all) is)) → AreAlone (written_items (map (text_item all) is))
items_alone is all x = (items_go is all x).alone
