use Rattle.std.proofs.Common.{◌≡◌, ◌<◌, true}
use Rattle.tables.specs.Cells.{accepts}
use Rattle.live.specs.Beyond.{Grown}
use Rattle.live.proofs.beyond.mark_accepting.Given as goal

-- the accepting classes before q are marked
abbrev pub invariant-loop-q : goal.invariant-loop-q
invariant-loop-q l = Grown l.t.classes (λ p. (p < l.q) × (accepts l.t.accept.now p ≡ true)) l.initial.marks l.initial.queue l.initial.tail l.marks l.queue l.tail
