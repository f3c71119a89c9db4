use Rattle.std.proofs.Common.{◌≡◌, ◌+◌, ◌∙◌, refl, sym, subst, inl, inr, arith}
use Rattle.tables.specs.Cells.{put_entry}
use Rattle.worklist.proofs.SearchLaws.{new_number, going_twin, going_many, going_next}
use Rattle.worklist.proofs.explore.column.Goals as goal

pub returns-then-b-a : goal.returns-then-b-a
returns-then-b-a g c =
    let p = c.put.ensures in
    let b = c.twin-b.ensures in
    record {
      advanced = record {
        more = omega arith;
        same = record { automaton = refl; shape = p.shape; rows = p.same_rows; accept = p.same_accept };
        going = going_twin c.requires.going c.requires.row c.requires.column c.put.new.self c.if-b-a.true (b.alike ((g.F.Frontier.seen c.args.f.now).at c.args.i)) (rw (← c.get-to.ensures) p.rows) p.shape;
      };
      kept = λ p h. refl;
    }

pub returns-then-j-m : goal.returns-then-j-m
returns-then-j-m g c =
    let p = c.put-then-j-m.ensures in
    record {
      advanced = record {
        more = omega arith;
        same = record { automaton = c.follow-j.ensures.automaton; shape = p.shape; rows = p.same_rows; accept = p.same_accept };
        going = going_next c.requires.going c.requires.row c.requires.column c.follow-j.ensures c.put-then-j-m.new.self c.args.m c.requires.going.few (inl (c.if-j-m.true, refl)) p.rows p.shape;
      };
      kept = c.follow-j.ensures.kept;
    }

pub returns-then-m-t : goal.returns-then-m-t
returns-then-m-t g c =
    let e = new_number c.requires.going c.requires.row c.requires.column c.follow-j.ensures c.if-j-m.false in
    going_many c.requires.going c.requires.row c.requires.column c.follow-j.ensures (e ∙ c.if-m-t.true)

pub returns : goal.returns
returns g c =
    let p = c.put-2.ensures in
    let t = c.args.t.now in
    let e = new_number c.requires.going c.requires.row c.requires.column c.follow-j.ensures c.if-j-m.false in
    let rows = subst (λ j. c.put-2.new.self.rows.now ≡ put_entry t.rows.now t.shape.width c.args.i c.args.a j) (sym e) p.rows in
    record {
      advanced = record {
        more = omega arith;
        same = record { automaton = c.follow-j.ensures.automaton; shape = p.shape; rows = p.same_rows; accept = p.same_accept };
        going = going_next c.requires.going c.requires.row c.requires.column c.follow-j.ensures c.put-2.new.self (c.args.m + 1) (omega arith) (inr (e, refl)) rows p.shape;
      };
      kept = c.follow-j.ensures.kept;
    }
