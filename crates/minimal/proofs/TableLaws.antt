-- Rows and acceptance of a table, taken out of the memory that it lies in.
use Rattle.std.proofs.Common.{◌≡◌, ℕ, ◌+◌, ◌-◌, ◌*◌, ◌<◌, ◌≤◌, Bool, false, ◌==◌, List, length, get_or, take, drop, map, sym, refl, ap, ◌∙◌, subst, arith, get_or-take}
use Rattle.std.proofs.lemmas.List.{get_or-map, length-take-le}
use Rattle.tables.specs.Cells.{entry, column, accepts}
use Rattle.tables.proofs.CellsLaws.{row_entry}

-- W is the width, as the code has it
pub row_at : (rows : List ℕ) (W width q a : ℕ) → W ≡ width → a < width → get_or (take (q * W + W - q * W) (drop (q * W) rows)) a 0 ≡ entry rows width q a
unfolding column
row_at rows W width q a e h = subst (λ w. get_or (take (q * w + w - q * w) (drop (q * w) rows)) a 0 ≡ entry rows width q a) (sym e) (row_entry rows width q a a h refl)

pub copied_accept : (from : List ℕ) (to : List Bool) (m q : ℕ) → to ≡ map (λ x. x == 1) (take m from) → m ≤ length from → q < m → get_or to q false ≡ accepts from q
copied_accept from to m q e r h =
    let l = length-take-le m from r in
    ap (λ xs. get_or xs q false) e ∙ get_or-map (λ x. x == 1) (take m from) q 0 false (omega arith) ∙ ap (λ x. x == 1) (get_or-take m from q 0 h)
