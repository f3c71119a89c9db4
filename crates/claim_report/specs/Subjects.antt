-- What a text's claim is about: places and sets, if names for such are declared, or rows, or rings, and whether something is assumed of them.
use Rattle.std.specs.Prelude.{true, false, List, [], ◌∷◌, Some, None}
use Rattle.trees.specs.declared.tree.Sort.TheVariants.{Place, Set}
use Rattle.trees.specs.declared.tree.Row.{Row as Stands}
use Rattle.trees.specs.declared.tree.Ends.{Ends}
use Rattle.trees.specs.declared.tree.Ends.TheVariants.{Last, Round}
use Rattle.trees.specs.declared.tree.Item.{Item}
use Rattle.trees.specs.declared.tree.Item.TheVariants.{Free, Row, Predicate as defined, Assert, Formula}
use Rattle.resolve.specs.declared.scope.Shape.{Shape}
use Rattle.resolve.specs.declared.scope.Shape.TheVariants as shape
use Rattle.claim_report.specs.declared.told.Subject.{Subject}

abbrev pub nothing : Subject
nothing = record { places = false; sets = false; shape = None; assumes = false }

-- whether it is a row or a ring
abbrev pub shape_by : Ends → Shape
shape_by (Last x) = shape.Row
shape_by Round = shape.Ring

abbrev pub shape_of : Stands → Shape
shape_of r = shape_by r.ends

abbrev pub subject_from : Subject → List Item → Subject
subject_from s [] = s
subject_from s (Free Place names ∷ items) = subject_from (record { places = true; sets = s.sets; shape = s.shape; assumes = s.assumes }) items
subject_from s (Free Set names ∷ items) = subject_from (record { places = s.places; sets = true; shape = s.shape; assumes = s.assumes }) items
subject_from s (Row r ∷ items) = subject_from (record { places = s.places; sets = s.sets; shape = Some (shape_of r); assumes = s.assumes }) items
subject_from s (defined p ∷ items) = subject_from s items
subject_from s (Assert a ∷ items) = subject_from (record { places = s.places; sets = s.sets; shape = s.shape; assumes = true }) items
subject_from s (Formula a ∷ items) = subject_from s items
