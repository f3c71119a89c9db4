use Rattle.std.proofs.Common.{arith}
use Rattle.splitting.proofs.PlacesLaws.{touched_room, grown_first, grown_again}
use Rattle.splitting.proofs.marking.mark.Goals as goal

pub bounds-marks-tail : goal.bounds-marks-tail
bounds-marks-tail c =
    let a = c.requires.arranged in
    let room = touched_room c.requires.touched (a.parts.below c.args.p.0 c.requires.class) (c.if-at-parting.true) in
    omega (arith, a.few, c.requires.touched.fits)

pub returns-then-at-parting : goal.returns-then-at-parting
returns-then-at-parting c = grown_first c.requires.arranged c.requires.class c.if-places-p.false c.swap.ensures.inverse c.swap.ensures.swapped c.requires.touched c.if-at-parting.true

pub returns-else-at-parting : goal.returns-else-at-parting
returns-else-at-parting c = grown_again c.requires.arranged c.requires.class c.if-places-p.false c.swap.ensures.inverse c.swap.ensures.swapped c.requires.touched c.if-at-parting.false
