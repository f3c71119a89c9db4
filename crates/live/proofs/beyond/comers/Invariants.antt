use Rattle.live.specs.Beyond.{Comers, by_column}
use Rattle.live.proofs.beyond.comers.Given as goal

-- the lists have the classes before q
abbrev pub invariant-loop-q : goal.invariant-loop-q
invariant-loop-q l = Comers l.t.classes l.q (by_column l.t.rows.now l.t.width l.a) l.heads l.links
