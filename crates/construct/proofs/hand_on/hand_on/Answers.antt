use Rattle.std.proofs.Common.{refl, arith}
use Rattle.construct.proofs.HandOnLaws.{handed_minimized, handed_copied}
use Rattle.construct.proofs.RoomLaws.{rows_fit}
use Rattle.construct.proofs.hand_on.hand_on.Goals as goal

-- the joined classes are no more than the classes, for which there is room
pub unreachable-requires : goal.unreachable-requires
unreachable-requires c = let y = c.in_default.ensures in omega (arith, y.many, y.joins.few, c.requires.few)

pub copy-requires-clause-rows : goal.copy-requires-clause-rows
copy-requires-clause-rows c = rows_fit c.args.t c.args.sheet.now c.requires.sets c.requires.few

pub returns-in-Some : goal.returns-in-Some
returns-in-Some c = rw c.in-Exact.is (handed_minimized c.args.t c.args.sheet.now c.minimize.new.sheet c.in-Some.count c.in-Some.ensures)

pub returns-in-Any : goal.returns-in-Any
returns-in-Any c = rw c.in-Any.is (handed_copied c.args.t c.args.sheet.now _ refl c.requires.few c.copy.ensures.leads c.copy.ensures.ends)
