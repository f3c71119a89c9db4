-- A table of fewer sets finds room where one of more does.
use Rattle.std.proofs.Common.{◌≡◌, ℕ, ◌*◌, ◌≤◌, length, arith}
use Rattle.std.proofs.Math.Pow.{pow_mono}
use Rattle.std.proofs.lemmas.Nat.{mul-le}
use Rattle.tables.specs.declared.sheet.Shape.{Shape}
use Rattle.tables.specs.declared.cells.WordTable.{WordTable}
use Rattle.tables.specs.declared.sheet.Sheet.{Sheet}
use Rattle.workspace.specs.Cut.{slot_words}

pub width_less : (h g : Shape) → h.sets ≤ g.sets → h.width ≤ g.width
width_less h g l = rw (h.wide, g.wide) (pow_mono l)

pub rows_less : (h g : Shape) (n : ℕ) → h.sets ≤ g.sets → n ≡ g.most → n * h.width ≤ g.most * g.width
rows_less h g n l e = mul-le n h.width g.most g.width (omega (arith, e)) (width_less h g l)

pub slot_less : (h g : Shape) (n : ℕ) → h.sets ≤ g.sets → n ≡ g.most → slot_words h.width n ≤ slot_words g.width g.most
slot_less h g n l e = let r = rows_less h g n l e in omega (arith, e)

-- as many rows of a table fit as of one of the sheet's width
pub rows_fit : (t : WordTable) (s : Sheet) → t.sets ≤ s.shape.sets → t.table.classes ≤ s.shape.most → t.table.classes * t.table.width ≤ length s.rows.now
rows_fit t s l g =
    let w : t.table.width ≤ s.shape.width = rw (t.wide, s.shape.wide) (pow_mono l) in
    let r = mul-le t.table.classes t.table.width s.shape.most s.shape.width g w in
    omega (arith, s.rows_fit)
