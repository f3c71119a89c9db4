use Rattle.std.proofs.Common.{refl, inl, inr, arith, below_more}
use Rattle.automata.proofs.Live.{dead_stays, live_moves}
use Rattle.tables.specs.Cells.{entry, accepts}
use Rattle.live.proofs.DeadLaws.{live_accepting, lives_but}
use Rattle.live.proofs.dead.dead.Goals as goal

pub returns-then-is_dead-clause-live : goal.returns-then-is_dead-clause-live
returns-then-is_dead-clause-live c =
    let t = c.args.t.table in
    let q = c.loop-q.q in
    let δ = entry t.rows.now t.width in
    let f = accepts t.accept.now in
    let nothing = dead_stays c.args.t.sets δ f q (c.if-is_dead.ensures.rejects refl) (λ a h. c.if-is_dead.ensures.stays refl a (omega arith)) in
    lives_but c.args.t.sets t.classes δ f c.requires.connected c.requires.collapsed q (omega arith) nothing

pub loop-q-preserved : goal.loop-q-preserved
loop-q-preserved c =
    let t = c.args.t.table in
    let k = c.args.t.sets in
    let q = c.loop-q.q in
    let δ = entry t.rows.now t.width in
    let f = accepts t.accept.now in
    below_more _ _ c.loop-q.invariant (elim (c.if-is_dead.ensures.open refl) [
      | inl e ↦ live_accepting k δ f q e
      | inr o ↦ let (a, h, n) = o in live_moves k t.classes δ f c.requires.connected c.requires.collapsed q a (omega arith) (omega arith) n
    ])
