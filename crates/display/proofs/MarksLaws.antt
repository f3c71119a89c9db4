-- Lemmas on rows of marks.
use Rattle.std.proofs.Common.{◌≡◌, ℕ, zero, suc, ◌+◌, ◌*◌, ◌-◌, ◌≤◌, ◌<◌, List, [], ◌∷◌, ◌++◌, length, map, max, min, fold, take, drop, get_or, nat_le, nat_lt, arith, ap, ◌∙◌, sym, append_assoc, append-nil, add-one, length-drop}
use Rattle.std.proofs.lemmas.List.{take_min, take_more, get_or-map, length-take-le, length-map}
use Rattle.words.specs.Words.{Word}
use Rattle.display.specs.declared.ends.Ends.{Ends}
use Rattle.display.specs.Marks.{longest, rows_of, row_of, blocks_of, block_of}

-- the longest of some names and a length is no shorter than the length
le-longest_from : (names : List (List ℕ)) (least : ℕ) → least ≤ fold (λ most name. max most (length name)) least names
le-longest_from [] least = grind arith
le-longest_from (first ∷ names) least = let rest = le-longest_from names (max least (length first)) in grind (arith, rest)

-- nor than one of the names
length-le-longest_from : (names : List (List ℕ)) (least i : ℕ) (d : List ℕ) → i < length names
    → length (get_or names i d) ≤ fold (λ most name. max most (length name)) least names
length-le-longest_from [] least i d within = grind arith
length-le-longest_from (first ∷ names) least zero d within = let rest = le-longest_from names (max least (length first)) in grind (arith, rest)
length-le-longest_from (first ∷ names) least (suc i) d within = length-le-longest_from names (max least (length first)) i d (omega arith)

-- no name is longer than the longest
pub length-le-longest : (names : List (List ℕ)) (i : ℕ) (d : List ℕ) → i < length names → length (get_or names i d) ≤ longest names
length-le-longest names i d within = length-le-longest_from names 0 i d within

-- the rows with that of one more name behind
pub rows_of-append : (width : ℕ) (names : List (List ℕ)) (name : List ℕ) (x y : ℕ) (left : List ℕ) (columns : Word) (right : List ℕ) → y ≡ x + length names
    → rows_of width (names ++ (name ∷ [])) x left columns right ≡ rows_of width names x left columns right ++ row_of width name y left columns right
rows_of-append width [] name x y left columns right at = let same : y ≡ x = omega arith in rw same (append-nil (row_of width name x left columns right))
rows_of-append width (first ∷ names) name x y left columns right at =
    ap (λ (text : List ℕ). row_of width first x left columns right ++ text) (rows_of-append width names name (suc x) y left columns right (omega arith))
    ∙ sym (append_assoc (row_of width first x left columns right) (rows_of width names (suc x) left columns right) (row_of width name y left columns right))

-- the places that stand on a line
cut_line : (word : Word) (from last : ℕ) → from ≤ length word → last ≡ min (length word) (from + 60) → take (last - from) (drop from word) ≡ take 60 (drop from word)
cut_line word from last within bound =
    let size : last - from ≡ min 60 (length (drop from word)) = rw (length-drop from word) (omega arith) in
    rw size (take_min 60 (drop from word))

-- the lines with one more behind
pub blocks_of-more : (ends : Ends) (names : List (List ℕ)) (word : Word) (k last : ℕ) → 60 * k ≤ length word → last ≡ min (length word) (60 * k + 60)
    → blocks_of ends names word k ++ block_of ends names (take (last - 60 * k) (drop (60 * k) word)) (60 * k) (nat_lt 10 (length word)) (nat_le (length word) (60 * k + 60))
    ≡ blocks_of ends names word (k + 1)
blocks_of-more ends names word k last within bound =
    rw (add-one k)
    (ap (λ (line : Word). blocks_of ends names word k ++ block_of ends names line (60 * k) (nat_lt 10 (length word)) (nat_le (length word) (60 * k + 60)))
    (cut_line word (60 * k) last within bound))

-- no name is longer than the longest, where names are told by f
pub name-le-longest : {X : Type 0} (f : X → List ℕ) (xs : List X) (i : ℕ) (d : X) → i < length xs → length (f (get_or xs i d)) ≤ longest (map f xs)
name-le-longest f xs i d within =
    let name = length-le-longest (map f xs) i (f d) (rw (length-map xs f) within) in
    rw (get_or-map f xs i d (f d) within) at name

-- what stands before the rows, and the rows with one more, whose ends are `l` and `r`
pub rows_of-more : {X : Type 0} (f : X → List ℕ) (xs : List X) (i : ℕ) (d : X) (width : ℕ) (left l : List ℕ) (columns : Word) (right r tens units : List ℕ) → i < length xs
    → l ≡ left → r ≡ right
    → (tens ++ (units ++ rows_of width (take i (map f xs)) 0 left columns right)) ++ row_of width (f (get_or xs i d)) i l columns r
    ≡ tens ++ (units ++ rows_of width (take (i + 1) (map f xs)) 0 left columns right)
rows_of-more f xs i d width left l columns right r tens units within at_left at_right =
    let names = map f xs in
    let size : i < length names = rw (length-map xs f) within in
    let name : get_or names i (f d) ≡ f (get_or xs i d) = get_or-map f xs i d (f d) within in
    let before : List ℕ = rows_of width (take i names) 0 left columns right in
    let row : List ℕ = row_of width (f (get_or xs i d)) i left columns right in
    let more : rows_of width (take (i + 1) names) 0 left columns right ≡ before ++ row =
    rw (take_more names i (f d) size, name) (rows_of-append width (take i names) (f (get_or xs i d)) 0 i left columns right (omega (arith, length-take-le i names (omega arith)))) in
    rw (at_left, at_right) (append_assoc tens (units ++ before) row) ∙ ap (λ (text : List ℕ). tens ++ text) (append_assoc units before row) ∙ ap (λ (rows : List ℕ). tens ++ (units ++ rows)) (sym more)
