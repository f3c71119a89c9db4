use Rattle.std.proofs.Common.{◌≡◌, ◌<◌, true, sym, ◌∙◌, arith}
use Rattle.tables.specs.Cells.{accepts}
use Rattle.splitting.proofs.WalksLaws.{grown_none, grown_as, grown_class, grown_skip}
use Rattle.splitting.proofs.marking.mark_accepting.Goals as goal
use Rattle.splitting.proofs.marking.mark_accepting.Goals.{then-accepts, else-accepts}

pub loop-q-init : goal.loop-q-init
loop-q-init c = grown_none (λ p. (p < 0) × (accepts c.args.t.accept.now p ≡ true)) c.requires.arranged c.requires.touched (λ p h e. (let (l, s) = e in omega arith))

pub loop-q-preserved : goal.loop-q-preserved
loop-q-preserved c = elim c.if-accepts.branch [
  | then-accepts w ↦ rw (w.places-is, w.marks-is, w.tail-is) (grown_class (λ p. accepts c.args.t.accept.now p ≡ true) c.loop-q.q (sym c.accepts.ensures ∙ w.if-accepts.true) c.loop-q.invariant w.mark-tail.ensures)
  | else-accepts w ↦ rw (w.places-is, w.marks-is, w.tail-is) (grown_skip (λ p. accepts c.args.t.accept.now p ≡ true) c.loop-q.q (λ e. (let f = c.accepts.ensures in let g = w.if-accepts.false in let z : ⊥ = cc in z)) c.loop-q.invariant)
]

pub returns : goal.returns
returns c = grown_as (λ p. (p < c.loop-q.q) × (accepts c.args.t.accept.now p ≡ true)) (λ p. accepts c.args.t.accept.now p ≡ true) (λ p h e. e.1) (λ p h e. (omega arith, e)) c.loop-q.invariant
