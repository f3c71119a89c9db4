use Rattle.workspace.specs.Extents.{widest_of}
use Rattle.workspace.proofs.FloorLaws.{extent_width, asked}
use Rattle.workspace.proofs.floor.floor_of.Goals as goal

pub returns : goal.returns
returns c = (widest_of c.args.extent, extent_width c.args.claim.now c.args.extent c.requires.told, asked _ _ _ _ _ c.width.ensures.value c.width.ensures.few c.from-n.ensures)
