-- How the rows after a row, and the rows that are shown, go on by one.
use Rattle.std.proofs.Common.{◌≡◌, ℕ, zero, suc, ◌+◌, ◌-◌, ◌<◌, Some, List, [], ◌∷◌, ◌++◌, length, map, take, get_or, option_map, slice_get, Vec, refl, sym, ap, ◌∙◌, append_assoc, append-nil, add-one, arith}
use Rattle.std.specs.Global.{Global}
use Rattle.std.proofs.lemmas.List.{length-append, length-map, map-append, take_more, get_or-map, length-take-le}
use Rattle.std.proofs.lemmas.Option.{slice_get-map}
use Rattle.words.specs.Words.{Word}
use Rattle.rows.specs.declared.rule.Layout.{Layout}
use Rattle.display.specs.Marks.{shown}
use Rattle.diagram.specs.Rows.{IsLastRow}
use Rattle.diagram.specs.declared.history.History.{History}
use Rattle.rules.specs.Property.{after}
use Rattle.rules.specs.declared.rule.Rule.{Rule}
use Rattle.rule_report.specs.ShownRows.{ends_of, row_after, rows_from, rows_shown, step_line, Follows}

rows_from-length : (r : Rule) (w : Word) (n : ℕ) → length (rows_from r w n) ≡ suc n
rows_from-length r w zero = refl
rows_from-length r w (suc n) = let before = rows_from-length r w n in rw length-append (omega arith)

-- a place behind a list
at_end : {X : Type 0} (xs : List X) (x : X) (n : ℕ) → n ≡ length xs → slice_get (xs ++ x ∷ []) n ≡ Some x
at_end [] x n e = rw e refl
at_end (y ∷ xs) x zero e = let z : ⊥ = omega arith in absurd z
at_end (y ∷ xs) x (suc n) e = at_end xs x n (omega arith)

rows_from-last : (r : Rule) (w : Word) (n : ℕ) → slice_get (rows_from r w n) n ≡ Some (row_after r w n)
rows_from-last r w zero = refl
rows_from-last r w (suc n) = at_end (rows_from r w n) (row_after r w (suc n)) (suc n) (sym (rows_from-length r w n))

-- the last row is the one after so many steps
last_is : (r : Rule) (w : Word) (n : ℕ) (h : History) (columns : Word) → Follows r w n h → IsLastRow h.rows.items columns → columns ≡ row_after r w n
last_is r w n h columns f l =
    let rows = h.rows.items in
    let items : Vec ℕ Global → Word = λ row. row.items in
    let size : length rows ≡ suc n = sym (length-map rows items) ∙ ap length f.rows ∙ rows_from-length r w n in
    let place : length rows - 1 ≡ n = omega arith in
    let read : Some columns ≡ slice_get (rows_from r w n) n =
    ap Some l.its_columns ∙ sym (ap (option_map items) l.is_last) ∙ sym (slice_get-map items rows (length rows - 1)) ∙ ap (λ xs. slice_get xs (length rows - 1)) f.rows ∙ ap (slice_get (rows_from r w n)) place in
    let same : Some columns ≡ Some (row_after r w n) = read ∙ rows_from-last r w n in
    cc

-- a row more
pub follows_more : (r : Rule) (w : Word) (n : ℕ) (old new : History) (columns : Word) (next : Vec ℕ Global) → Follows r w n old → IsLastRow old.rows.items columns → next.items ≡ after r columns
    → new.rows.items ≡ old.rows.items ++ next ∷ [] → new.modules ≡ old.modules → Follows r w (n + 1) new
follows_more r w n old new columns next f l stepped pushed modules =
    let items : Vec ℕ Global → Word = λ row. row.items in
    let last = last_is r w n old columns f l in
    record {
      rows = rw add-one
          (ap (map items) pushed ∙ map-append items old.rows.items (next ∷ []) ∙ ap (λ ws. ws ++ next.items ∷ []) f.rows
          ∙ ap (λ (x : Word). rows_from r w n ++ x ∷ []) (stepped ∙ ap (after r) last));
      modules = modules ∙ f.modules;
    }

rows_shown-append : (s : Layout) (names : List (List ℕ)) (ws : List Word) (w : Word) (t u : ℕ) → u ≡ t + length ws
    → rows_shown s names t (ws ++ w ∷ []) ≡ rows_shown s names t ws ++ (step_line u ++ shown (ends_of s) names w)
rows_shown-append s names [] w t u at =
    let same : u ≡ t = omega arith in
    rw same (ap (λ (x : List ℕ). step_line t ++ x) (append-nil (shown (ends_of s) names w)))
rows_shown-append s names (v ∷ ws) w t u at =
    ap (λ (x : List ℕ). step_line t ++ (shown (ends_of s) names v ++ x)) (rows_shown-append s names ws w (suc t) u (omega arith))
    ∙ ap (λ (x : List ℕ). step_line t ++ x) (sym (append_assoc (shown (ends_of s) names v) (rows_shown s names (suc t) ws) (step_line u ++ shown (ends_of s) names w)))
    ∙ sym (append_assoc (step_line t) (shown (ends_of s) names v ++ rows_shown s names (suc t) ws) (step_line u ++ shown (ends_of s) names w))

-- what is shown of the first rows, and of one more
pub rows_shown-more : (s : Layout) (names : List (List ℕ)) (rows : List (Vec ℕ Global)) (i : ℕ) (row : Vec ℕ Global) → i < length rows → row ≡ get_or rows i row
    → rows_shown s names 0 (take i (map (λ v. v.items) rows)) ++ (step_line i ++ shown (ends_of s) names row.items) ≡ rows_shown s names 0 (take (i + 1) (map (λ v. v.items) rows))
rows_shown-more s names rows i row within read =
    let items : Vec ℕ Global → Word = λ v. v.items in
    let size : i < length (map items rows) = rw (length-map rows items) within in
    let here : get_or (map items rows) i row.items ≡ row.items = get_or-map items rows i row row.items within ∙ ap items (sym read) in
    let front : i ≡ length (take i (map items rows)) = sym (length-take-le i (map items rows) (omega arith)) in
    sym (ap (rows_shown s names 0) (take_more (map items rows) i row.items size ∙ ap (λ (x : Word). take i (map items rows) ++ x ∷ []) here)
    ∙ rows_shown-append s names (take i (map items rows)) row.items 0 i (omega (arith, front)))
