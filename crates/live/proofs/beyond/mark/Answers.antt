use Rattle.std.proofs.Common.{arith}
use Rattle.std.proofs.lemmas.Bool.{eqb-true}
use Rattle.live.proofs.BeyondLaws.{queue_room, grown_mark}
use Rattle.live.proofs.beyond.mark.Goals as goal

pub bounds-queue-tail : goal.bounds-queue-tail
bounds-queue-tail c =
    let room = queue_room c.args.classes c.args.marks.now c.args.queue.now c.args.tail c.args.q.0 c.requires.queued c.requires.class (λ e. c.if-marks-q-eq1.false (eqb-true _ _ e)) in
    omega arith

pub returns : goal.returns
returns c = grown_mark c.args.classes c.args.marks.now c.args.queue.now c.args.tail c.args.q.0 c.requires.queued c.requires.class (λ e. c.if-marks-q-eq1.false (eqb-true _ _ e))
