-- The text of a tree is a text, without its parentheses the tree again, and not too large to be read.
use Rattle.std.proofs.Common.{ℕ, suc, ◌+◌, ◌-◌, ◌*◌, ◌/◌, ◌%◌, ◌<◌, ◌≤◌, ◌≡◌, min, List, [], ◌∷◌, ◌++◌, map, Bool, true, false, ◌⊎◌, inl, inr, refl, ap, ◌∙◌, arith}
use Rattle.std.specs.Prelude.{decimal}
use Rattle.std.proofs.lemmas.Fmt.{decimal_step, decimal_digit}
use Rattle.std.proofs.lemmas.Bool.{cases_lt}
use Rattle.trees.specs.declared.tree.Unary.TheVariants as unary
use Rattle.trees.specs.declared.tree.Binary.{Binary}
use Rattle.trees.specs.declared.tree.Binary.TheVariants as binary
use Rattle.syntax.specs.Plain.{Plain, yes, no, nowhere, number, digits, named, paren, listed, prefixed, joined, bound, call, counted, tallied, Plains, none, more}
use Rattle.syntax.specs.Parsing.{level_of, right_of, value, depth, depths}
use Rattle.syntax.specs.Grammar.{bare, bares, spine, grab, IsText, AreTexts, opens, opens_each}
use Rattle.syntax.specs.Rows.{is_rows}
use Rattle.syntax.specs.Items.{PlainItem, free, row, ring, predicate, assumed, claimed, bare_item, IsItem, AreItems}
use Rattle.syntax.specs.Printed.{level, left_of, enclosed, within_parens, text, texts, IsTree, AreTrees, text_item, IsTreeItem, AreTreeItems}

-- the numbers of an operator
right_at_least : (b : Binary) → level_of b ≤ right_of b
right_at_least binary.Iff = omega arith
right_at_least binary.Implies = omega arith
right_at_least _ = omega arith

right_at_most : (b : Binary) → right_of b ≤ 13
right_at_most binary.Iff = omega arith
right_at_most binary.Implies = omega arith
right_at_most _ = omega arith

left_at_least : (b : Binary) → (level_of b ≤ left_of b) × (1 ≤ left_of b) × (left_of b ≤ 12)
left_at_least binary.Iff = (omega arith, omega arith, omega arith)
left_at_least binary.Implies = (omega arith, omega arith, omega arith)
left_at_least _ = (omega arith, omega arith, omega arith)

-- an operator that stands left of another in one row binds tight enough to be left alone by it
tighter_right : (b c : Binary) → left_of b ≤ level_of c → level_of b < right_of c
tighter_right binary.Iff binary.Iff h = absurd (omega (arith, h))
tighter_right binary.Iff binary.Implies h = omega arith
tighter_right binary.Iff _ h = omega arith
tighter_right binary.Implies binary.Iff h = absurd (omega (arith, h))
tighter_right binary.Implies binary.Implies h = absurd (omega (arith, h))
tighter_right binary.Implies _ h = omega arith
tighter_right _ binary.Iff h = absurd (omega (arith, h))
tighter_right _ binary.Implies h = absurd (omega (arith, h))
tighter_right _ _ h = omega (arith, h)

-- what is not in parentheses binds tight enough
outside : (all : Bool) (m : ℕ) (t : Plain) → within_parens all m t ≡ false → m ≤ level t
outside all m t h = grind (arith, h)

level_at_most : (t : Plain) → level t ≤ 13
level_at_most (prefixed unary.Not t) = omega arith
level_at_most (prefixed unary.Min t) = omega arith
level_at_most (prefixed unary.Max t) = omega arith
level_at_most (prefixed unary.IsEmpty t) = omega arith
level_at_most (joined b s t) = omega (arith, right_at_least b, right_at_most b)
level_at_most _ = omega arith

-- an operand binds as tight as it has to
spine_text : (all : Bool) (t : Plain) → level t ≤ spine (text all t)
spine_text all (prefixed unary.Not t) = omega arith
spine_text all (prefixed unary.Min t) = omega arith
spine_text all (prefixed unary.Max t) = omega arith
spine_text all (prefixed unary.IsEmpty t) = omega arith
spine_text all (joined b s t) = omega arith
spine_text all (bound q sort xs t) = omega arith
spine_text all _ = omega arith

spine_at : (all : Bool) (m : ℕ) (t : Plain) (b : Bool) → m ≤ 13 → (b ≡ false → m ≤ level t) → m ≤ spine (enclosed b (text all t))
spine_at all m t true le h = le
spine_at all m t false le h = let s = spine_text all t in omega (arith, h refl, s)

spine_operand : (all : Bool) (m : ℕ) (t : Plain) → m ≤ 13 → m ≤ spine (enclosed (within_parens all m t) (text all t))
spine_operand all m t le = spine_at all m t (within_parens all m t) le (outside all m t)

-- and takes nothing that binds less tight
grab_at : (g m : ℕ) (t u : Plain) (b : Bool) → m ≤ 13 → (b ≡ false → m ≤ level t) → level t ≤ grab u → m ≤ grab (enclosed b u)
grab_at g m t u true le h l = omega (arith, le)
grab_at g m t u false le h l = omega (arith, h refl, l)

grab_operand : (all : Bool) (m : ℕ) (t : Plain) → m ≤ 13 → level t ≤ grab (text all t) → m ≤ grab (enclosed (within_parens all m t) (text all t))
grab_operand all m t le l = grab_at 0 m t (text all t) (within_parens all m t) le (outside all m t) l

grab_text : (all : Bool) (t : Plain) → level t ≤ grab (text all t)
grab_text all (prefixed unary.Not t) = let h = grab_operand all 6 t (omega arith) (grab_text all t) in omega (arith, h)
grab_text all (prefixed unary.Min t) = let h = grab_operand all 9 t (omega arith) (grab_text all t) in omega (arith, h)
grab_text all (prefixed unary.Max t) = let h = grab_operand all 9 t (omega arith) (grab_text all t) in omega (arith, h)
grab_text all (prefixed unary.IsEmpty t) = omega arith
grab_text all (joined b s t) = let h = grab_operand all (right_of b) t (right_at_most b) (grab_text all t) in let i = right_at_least b in omega (arith, h, i)
grab_text all (bound q sort xs t) = omega arith
grab_text all _ = omega arith

-- what stands left of an operator leaves it alone
leaves_text : (all : Bool) (b : Binary) (s : Plain) → left_of b ≤ level s → level_of b < grab (text all s)
leaves_text all b (prefixed unary.Not t) h = let g = grab_operand all 6 t (omega arith) (grab_text all t) in let l = left_at_least b in omega (arith, h, g, l.0)
leaves_text all b (prefixed unary.Min t) h = let g = grab_operand all 9 t (omega arith) (grab_text all t) in let l = left_at_least b in omega (arith, h, g, l.0)
leaves_text all b (prefixed unary.Max t) h = let g = grab_operand all 9 t (omega arith) (grab_text all t) in let l = left_at_least b in omega (arith, h, g, l.0)
leaves_text all b (prefixed unary.IsEmpty t) h = let l = left_at_least b in omega (arith, l.0, l.2)
leaves_text all b (joined c s t) h = let g = grab_operand all (right_of c) t (right_at_most c) (grab_text all t) in let l = tighter_right b c h in omega (arith, g, l)
leaves_text all b (bound q sort xs t) h = let l = left_at_least b in absurd (omega (arith, h, l.1))
leaves_text all b _ h = let l = left_at_least b in omega (arith, l.0, l.2)

leaves_at : (all : Bool) (b : Binary) (s : Plain) (e : Bool) → (e ≡ false → left_of b ≤ level s) → level_of b < grab (enclosed e (text all s))
leaves_at all b s true h = let l = left_at_least b in omega (arith, l.0, l.2)
leaves_at all b s false h = leaves_text all b s (h refl)

leaves : (all : Bool) (b : Binary) (s : Plain) → level_of b < grab (enclosed (within_parens all (left_of b) s) (text all s))
leaves all b s = leaves_at all b s (within_parens all (left_of b) s) (outside all (left_of b) s)

-- digits say the number again
value_push : (a d : ℕ) (xs : List ℕ) → value a (xs ++ d ∷ []) ≡ min (value a xs * 10 + (d - 48)) 1001
value_push a d [] = refl
value_push a d (x ∷ xs) = value_push (min (a * 10 + (x - 48)) 1001) d xs

value_digit : (n : ℕ) → n < 10 → value 0 (decimal n) ≡ n
value_digit n h = rw (decimal_digit n h) (omega (arith, h))

value_step : (n : ℕ) → 10 ≤ n → n ≤ 1000 → value 0 (decimal (n / 10)) ≡ n / 10 → value 0 (decimal n) ≡ n
value_step n h le e = rw (decimal_step n h (omega (arith, le))) (value_push 0 (48 + n % 10) (decimal (n / 10)) ∙ rw e (omega (arith, h, le)))

value_two : (n : ℕ) → n < 100 → (n < 10) ⊎ (10 ≤ n) → value 0 (decimal n) ≡ n
value_two n h (inl l) = value_digit n l
value_two n h (inr l) = value_step n l (omega (arith, h)) (value_digit (n / 10) (omega (arith, h)))

value_three : (n : ℕ) → n < 1000 → (n < 10) ⊎ (10 ≤ n) → value 0 (decimal n) ≡ n
value_three n h (inl l) = value_digit n l
value_three n h (inr l) = value_step n l (omega (arith, h)) (value_two (n / 10) (omega (arith, h)) (cases_lt (n / 10) 10))

value_again : (n : ℕ) → n ≤ 1000 → (n < 10) ⊎ (10 ≤ n) → value 0 (decimal n) ≡ n
value_again n h (inl l) = value_digit n l
value_again n h (inr l) = value_step n l h (value_three (n / 10) (omega (arith, h)) (cases_lt (n / 10) 10))

number_again : (n : ℕ) → n ≤ 1000 → value 0 (decimal n) ≡ n
number_again n h = value_again n h (cases_lt n 10)

is_text_in : (b : Bool) (t : Plain) → IsText t → IsText (enclosed b t)
is_text_in true t h = h
is_text_in false t h = h

bare_in : (b : Bool) (t : Plain) → bare (enclosed b t) ≡ bare t
bare_in true t = refl
bare_in false t = refl

opens_in : (b : Bool) (t : Plain) → opens (enclosed b t) ≤ suc (opens t)
opens_in true t = omega arith
opens_in false t = omega arith

-- the text of a tree is a text
mutual
  is_text : (t : Plain) (all : Bool) → IsTree t → IsText (text all t)
  is_text yes all x = tt
  is_text no all x = tt
  is_text nowhere all x = tt
  is_text (number n) all x = let e = number_again n x in omega (arith, e, x)
  is_text (digits d) all x = absurd x
  is_text (named f) all x = x
  is_text (paren t) all x = absurd x
  is_text (listed none) all x = absurd x
  is_text (listed (more t ts)) all x = (is_text t all x.0, are_texts ts all x.1)
  is_text (prefixed unary.Not t) all x = (is_text_in (within_parens all 6 t) (text all t) (is_text t all x), spine_operand all 6 t (omega arith))
  is_text (prefixed unary.Min t) all x = (is_text_in (within_parens all 9 t) (text all t) (is_text t all x), spine_operand all 9 t (omega arith))
  is_text (prefixed unary.Max t) all x = (is_text_in (within_parens all 9 t) (text all t) (is_text t all x), spine_operand all 9 t (omega arith))
  is_text (prefixed unary.IsEmpty t) all x = is_text t all x
  is_text (joined b s t) all x =
      let l = left_at_least b in
      let i = spine_operand all (left_of b) s (omega (arith, l.2)) in (
        is_text_in (within_parens all (left_of b) s) (text all s) (is_text s all x.0),
        omega (arith, i, l.0),
        leaves all b s,
        is_text_in (within_parens all (right_of b) t) (text all t) (is_text t all x.1),
        spine_operand all (right_of b) t (right_at_most b),
      )
  is_text (bound q sort xs t) all x = (x.0, is_text_in (within_parens all 0 t) (text all t) (is_text t all x.1))
  is_text (call f ts) all x = (x.0, are_texts ts all x.1)
  is_text (counted t m r) all x =
      let g = grab_operand all 9 t (omega arith) (grab_text all t) in
      let a = number_again m x.1 in
      let b = number_again r x.2 in (
        is_text_in (within_parens all 9 t) (text all t) (is_text t all x.0),
        spine_operand all 9 t (omega arith),
        omega (arith, g),
        omega (arith, a, x.1),
        omega (arith, b, x.2),
      )
  is_text (tallied t d e) all x = absurd x

  are_texts : (ts : Plains) (all : Bool) → AreTrees ts → AreTexts (texts all ts)
  are_texts none all x = tt
  are_texts (more t ts) all x = (is_text t all x.0, are_texts ts all x.1)

-- without parentheses it is the tree again
mutual
  bare_text : (t : Plain) (all : Bool) → IsTree t → bare (text all t) ≡ t
  bare_text yes all x = refl
  bare_text no all x = refl
  bare_text nowhere all x = refl
  bare_text (number n) all x = ap number (number_again n x)
  bare_text (digits d) all x = absurd x
  bare_text (named f) all x = refl
  bare_text (paren t) all x = absurd x
  bare_text (listed none) all x = absurd x
  bare_text (listed (more t ts)) all x = rw (bare_text t all x.0) (rw (bares_texts ts all x.1) refl)
  bare_text (prefixed unary.Not t) all x = ap (prefixed unary.Not) (bare_in (within_parens all 6 t) (text all t) ∙ bare_text t all x)
  bare_text (prefixed unary.Min t) all x = ap (prefixed unary.Min) (bare_in (within_parens all 9 t) (text all t) ∙ bare_text t all x)
  bare_text (prefixed unary.Max t) all x = ap (prefixed unary.Max) (bare_in (within_parens all 9 t) (text all t) ∙ bare_text t all x)
  bare_text (prefixed unary.IsEmpty t) all x = ap (prefixed unary.IsEmpty) (bare_text t all x)
  bare_text (joined b s t) all x =
      let l = bare_in (within_parens all (left_of b) s) (text all s) ∙ bare_text s all x.0 in
      let r = bare_in (within_parens all (right_of b) t) (text all t) ∙ bare_text t all x.1 in
      rw l (rw r refl)
  bare_text (bound q sort xs t) all x = ap (bound q sort xs) (bare_in (within_parens all 0 t) (text all t) ∙ bare_text t all x.1)
  bare_text (call f ts) all x = ap (call f) (bares_texts ts all x.1)
  bare_text (counted t m r) all x =
      let s = bare_in (within_parens all 9 t) (text all t) ∙ bare_text t all x.0 in
      rw s (rw (number_again m x.1) (rw (number_again r x.2) refl))
  bare_text (tallied t d e) all x = absurd x

  bares_texts : (ts : Plains) (all : Bool) → AreTrees ts → bares (texts all ts) ≡ ts
  bares_texts none all x = refl
  bares_texts (more t ts) all x = rw (bare_text t all x.0) (rw (bares_texts ts all x.1) refl)

-- a part and its parentheses open two expressions at most
mutual
  opens_text : (t : Plain) (all : Bool) → IsTree t → opens (text all t) + 2 ≤ 2 * depth t
  opens_text (paren t) all x = absurd x
  opens_text (listed none) all x = absurd x
  opens_text (listed (more t ts)) all x = let h = opens_text t all x.0 in let i = opens_texts ts all x.1 in omega (arith, h, i)
  opens_text (prefixed unary.Not t) all x = let h = opens_text t all x in let i = opens_in (within_parens all 6 t) (text all t) in omega (arith, h, i)
  opens_text (prefixed unary.Min t) all x = let h = opens_text t all x in let i = opens_in (within_parens all 9 t) (text all t) in omega (arith, h, i)
  opens_text (prefixed unary.Max t) all x = let h = opens_text t all x in let i = opens_in (within_parens all 9 t) (text all t) in omega (arith, h, i)
  opens_text (prefixed unary.IsEmpty t) all x = let h = opens_text t all x in omega (arith, h)
  opens_text (joined b s t) all x = let h = opens_text s all x.0 in let i = opens_text t all x.1 in let j = opens_in (within_parens all (left_of b) s) (text all s) in let k = opens_in (within_parens all (right_of b) t) (text all t) in omega (arith, h, i, j, k)
  opens_text (bound q sort xs t) all x = let h = opens_text t all x.1 in let i = opens_in (within_parens all 0 t) (text all t) in omega (arith, h, i)
  opens_text (call f ts) all x = let h = opens_texts ts all x.1 in omega (arith, h)
  opens_text (counted t m r) all x = let h = opens_text t all x.0 in let i = opens_in (within_parens all 9 t) (text all t) in omega (arith, h, i)
  opens_text (tallied t d e) all x = absurd x
  opens_text _ all x = omega arith

  opens_texts : (ts : Plains) (all : Bool) → AreTrees ts → opens_each (texts all ts) ≤ 2 * depths ts
  opens_texts none all x = omega arith
  opens_texts (more t ts) all x = let h = opens_text t all x.0 in let i = opens_texts ts all x.1 in omega (arith, h, i)

rows_text : (t : Plain) (all : Bool) → is_rows t ≡ false → is_rows (text all t) ≡ false
rows_text (named x) all e = e
rows_text (prefixed unary.Not t) all e = refl
rows_text (prefixed unary.Min t) all e = refl
rows_text (prefixed unary.Max t) all e = refl
rows_text (prefixed unary.IsEmpty t) all e = refl
rows_text _ all e = refl

-- what is claimed is not the name `rows` or `rings` alone
no_rows_text : (t : Plain) (all : Bool) → is_rows (enclosed (is_rows t) (text all t)) ≡ false
no_rows_text t all = go (is_rows t) refl where
  go : (b : Bool) → is_rows t ≡ b → is_rows (enclosed b (text all t)) ≡ false
  go true e = refl
  go false e = rows_text t all e

-- the same of items
item_is : (i : PlainItem) (all : Bool) → IsTreeItem i → IsItem (text_item all i)
item_is (free sort xs) all x = x
item_is (row places last) all x = x
item_is (ring places) all x = x
item_is (predicate f ps t) all x = let o = opens_text t all x.2 in let e = ap depth (bare_text t all x.2) in (x.0, x.1, (is_text t all x.2, omega (arith, o, x.3), omega (arith, e, x.3)))
item_is (assumed t) all x = let o = opens_text t all x.0 in let e = ap depth (bare_text t all x.0) in (is_text t all x.0, omega (arith, o, x.1), omega (arith, e, x.1))
item_is (claimed t) all x =
    let b = is_rows t in
    let o = opens_text t all x.0 in
    let i = opens_in b (text all t) in
    let e = ap depth (bare_in b (text all t) ∙ bare_text t all x.0) in
    ((is_text_in b (text all t) (is_text t all x.0), omega (arith, o, i, x.1), omega (arith, e, x.1)), no_rows_text t all)

bare_item_text : (i : PlainItem) (all : Bool) → IsTreeItem i → bare_item (text_item all i) ≡ i
bare_item_text (free sort xs) all x = refl
bare_item_text (row places last) all x = refl
bare_item_text (ring places) all x = refl
bare_item_text (predicate f ps t) all x = ap (predicate f ps) (bare_text t all x.2)
bare_item_text (assumed t) all x = ap assumed (bare_text t all x.0)
bare_item_text (claimed t) all x = ap claimed (bare_in (is_rows t) (text all t) ∙ bare_text t all x.0)

pub items_are : (is : List PlainItem) (all : Bool) → AreTreeItems is → AreItems (map (text_item all) is)
items_are [] all x = tt
items_are (i ∷ is) all x = (item_is i all x.0, items_are is all x.1)

pub bare_items_text : (is : List PlainItem) (all : Bool) → AreTreeItems is → map bare_item (map (text_item all) is) ≡ is
bare_items_text [] all x = refl
bare_items_text (i ∷ is) all x = rw (bare_item_text i all x.0) (rw (bare_items_text is all x.1) refl)
