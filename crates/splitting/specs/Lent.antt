-- What the other files say of lists, said of what is lent: where classes stand, their parts, and
-- how far each part is marked.
use Rattle.std.specs.Prelude.{ℕ, List}
use Rattle.tables.specs.declared.cells.WordTable.{WordTable}
use Rattle.tables.specs.View.{moves, accepting}
use Rattle.splitting.specs.declared.places.Places.{Places}
use Rattle.splitting.specs.declared.places.Parting.{Parting}
use Rattle.splitting.specs.declared.places.Marks.{Marks}
use Rattle.splitting.specs.Places.{Arranged, Touched, Grown}
use Rattle.splitting.specs.Cutting.{Cutting, CutPart}
use Rattle.splitting.specs.Split.{Waiting}

-- the classes stand part by part, and each part is marked up to its cut
abbrev pub Stand : ℕ → Places → Parting → List ℕ → Type 0
Stand m s p cut = Arranged m p.count s.order.now s.place.now p.part.now p.begin.now p.end.now cut

-- the first `tail` words of `touched` are the parts of which a class is marked
abbrev pub AreTouched : ℕ → Parting → Marks → ℕ → Type 0
AreTouched m p k tail = Touched m p.count p.begin.now k.cut.now k.touched.now 0 tail

-- the classes of which Also holds have been marked besides those that were
abbrev pub AlsoMarked : ℕ → (ℕ → Type 0) → Parting → Places → Marks → Places → Marks → ℕ → Type 0
AlsoMarked m Also p s k s' k' tail' = Grown m p.count Also s.place.now p.part.now p.begin.now p.end.now k.cut.now s'.order.now s'.place.now k'.cut.now k'.touched.now tail'

-- part c is cut where it was marked
abbrev pub OneCut : ℕ → ℕ → Places → Parting → List ℕ → Parting → List ℕ → Type 0
OneCut m c s p cut p' cut' = CutPart m p.count c s.order.now s.place.now p.part.now p.begin.now p.end.now cut p'.count p'.part.now p'.begin.now p'.end.now cut'

-- parts are cut where they were marked
abbrev pub AllCut : ℕ → Places → Parting → List ℕ → Parting → List ℕ → Type 0
AllCut m s p cut p' cut' = Cutting m p.count s.order.now s.place.now p.part.now p.begin.now p.end.now cut p'.count p'.part.now p'.begin.now p'.end.now cut'

-- no class is marked, and the parts from `done` on wait to split the others
abbrev pub PartsWait : WordTable → ℕ → Places → Parting → Marks → Type 0
PartsWait t done s p k = Waiting t.sets t.table.classes (moves t.table) (accepting t.table) p.count done s.order.now s.place.now p.part.now p.begin.now p.end.now k.cut.now
