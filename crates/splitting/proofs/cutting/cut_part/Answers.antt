use Rattle.std.proofs.Common.{◌<◌, length, get_or, arith}
use Rattle.splitting.proofs.CuttingLaws.{room_for_one, cut_pieces, twice_new, twice_old, twice_other, twice_length}
use Rattle.splitting.proofs.cutting.cut_part.Goals as goal

pub bound-requires : goal.bound-requires
bound-requires c =
    let a = c.requires.arranged in
    let r : c.args.parting.now.count < c.args.classes = room_for_one a c.requires.part c.requires.marked (omega (arith, a.cuts.to c.args.c c.requires.part)) in
    record { begin = omega (arith, a.parts.begin_fits); end = omega (arith, a.parts.end_fits); cut = omega (arith, a.cuts.fits) }

pub returns-clause-cut : goal.returns-clause-cut
returns-clause-cut c =
    let a = c.requires.arranged in
    let n = c.args.parting.now.count in
    let d = c.args.c in
    let h = c.halve-h.result in
    let l = c.requires.part in
    let more : get_or c.args.cut.now d 0 < get_or c.args.parting.now.end.now d 0 = omega (arith, a.cuts.to d l) in
    let r : n < c.args.classes = room_for_one a l c.requires.marked more in
    let b : n < length c.args.parting.now.begin.now = omega (arith, a.parts.begin_fits) in
    let e : n < length c.args.parting.now.end.now = omega (arith, a.parts.end_fits) in
    let k : n < length c.args.cut.now = omega (arith, a.cuts.fits) in
    let bs = twice_length c.args.parting.now.begin.now c.bound.new.begin c.bound-2.new.begin n d h.new_from h.old_from c.bound.ensures.begin c.bound-2.ensures.begin l b in
    let es = twice_length c.args.parting.now.end.now c.bound.new.end c.bound-2.new.end n d h.new_to h.old_to c.bound.ensures.end c.bound-2.ensures.end l e in
    let ks = twice_length c.args.cut.now c.bound.new.cut c.bound-2.new.cut n d h.new_from h.old_from c.bound.ensures.cut c.bound-2.ensures.cut l k in
    cut_pieces a l c.requires.marked more c.halve-h.ensures c.rename.new.part c.bound-2.new.begin c.bound-2.new.end c.bound-2.new.cut
    (omega (arith, a.parts.part_fits)) (omega (arith, a.parts.begin_fits)) (omega (arith, a.parts.end_fits)) (omega (arith, a.cuts.fits))
    (twice_new c.args.parting.now.begin.now c.bound.new.begin c.bound-2.new.begin n d h.new_from h.old_from c.bound.ensures.begin c.bound-2.ensures.begin l b)
    (twice_new c.args.parting.now.end.now c.bound.new.end c.bound-2.new.end n d h.new_to h.old_to c.bound.ensures.end c.bound-2.ensures.end l e)
    (twice_new c.args.cut.now c.bound.new.cut c.bound-2.new.cut n d h.new_from h.old_from c.bound.ensures.cut c.bound-2.ensures.cut l k)
    (twice_old c.args.parting.now.begin.now c.bound.new.begin c.bound-2.new.begin n d h.new_from h.old_from c.bound.ensures.begin c.bound-2.ensures.begin l b)
    (twice_old c.args.parting.now.end.now c.bound.new.end c.bound-2.new.end n d h.new_to h.old_to c.bound.ensures.end c.bound-2.ensures.end l e)
    (twice_old c.args.cut.now c.bound.new.cut c.bound-2.new.cut n d h.new_from h.old_from c.bound.ensures.cut c.bound-2.ensures.cut l k)
    (twice_other c.args.parting.now.begin.now c.bound.new.begin c.bound-2.new.begin n d h.new_from h.old_from c.bound.ensures.begin c.bound-2.ensures.begin l b)
    (twice_other c.args.parting.now.end.now c.bound.new.end c.bound-2.new.end n d h.new_to h.old_to c.bound.ensures.end c.bound-2.ensures.end l e)
    (twice_other c.args.cut.now c.bound.new.cut c.bound-2.new.cut n d h.new_from h.old_from c.bound.ensures.cut c.bound-2.ensures.cut l k)
    c.rename.ensures.piece c.rename.ensures.rest
