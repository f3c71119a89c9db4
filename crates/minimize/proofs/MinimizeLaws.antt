-- From the parts of the classes that are alike, and their table, to the joined table on a sheet.
use Rattle.std.proofs.Common.{ℕ, List, get_or, arith}
use Rattle.automata.specs.Joined.{Written}
use Rattle.tables.specs.Cells.{entry, accepts}
use Rattle.tables.specs.View.{moves, accepting}
use Rattle.tables.specs.declared.cells.WordTable.{WordTable}
use Rattle.minimize.specs.Join.{Alike, Joins}
use Rattle.minimize.specs.Quotient.{Quotient}

abbrev pub joins : {t : WordTable} {cls firsts : List ℕ} {n : ℕ} → Alike t cls firsts n → Joins t n
joins {cls = cls} {firsts = firsts} h = record { cls = λ q. get_or cls q 0; rep = λ i. get_or firsts i 0; joined = h.joined; few = h.few }

pub written : (t : WordTable) (cls firsts rows accept : List ℕ) (n : ℕ) → Quotient t.table cls firsts n rows accept → Written t.sets (moves t.table) (accepting t.table) (λ q. get_or cls q 0) (λ i. get_or firsts i 0) n (entry rows t.table.width) (accepts accept)
written t cls firsts rows accept n q = record { steps = λ i a h g. q.leads i a h (omega (arith, t.wide)); accepts = q.ends }
