use Rattle.std.proofs.Common.{◌≤◌, refl, arith}
use Rattle.std.proofs.Math.Pow.{pow_mono}
use Rattle.std.proofs.lemmas.Nat.{mul-le}
use Rattle.minimize.proofs.MinimizeLaws.{joins, written}
use Rattle.minimize.proofs.minimize.minimize.Goals as goal

-- as many rows of the table's width fit as of the sheet's
pub quotient-requires-clause-rows : goal.quotient-requires-clause-rows
quotient-requires-clause-rows c =
    let s = c.args.sheet.now in
    let t = c.args.t in
    let w : t.table.width ≤ s.shape.width = rw (t.wide, s.shape.wide) (pow_mono c.requires.sets) in
    let r = mul-le c.join-n.result t.table.width s.shape.most s.shape.width (omega arith) w in
    omega (arith, s.rows_fit)

pub returns-then-n-sheet : goal.returns-then-n-sheet
returns-then-n-sheet c = record { count = c.join-n.result; joins = joins c.join-n.ensures.alike; many = c.if-n-sheet.true }

pub returns : goal.returns
returns c =
    let p = c.join-n.new.parts in
    record {
      joins = joins c.join-n.ensures.alike;
      few = omega arith;
      written = written c.args.t p.cls.now p.firsts.now c.quotient.new.rows c.quotient.new.accept c.join-n.result c.quotient.ensures;
      shape = refl;
      rows = refl;
      accept = refl;
    }
