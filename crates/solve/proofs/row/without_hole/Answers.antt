use Rattle.formulas.specs.Meaning.{with_place}
use Rattle.resolve.proofs.Iff.{if_ok}
use Rattle.solve.proofs.row.without_hole.Goals as goal

pub returns : goal.returns
returns c = if_ok c.every_place.result _ _ (λ f h e. (
  λ m i t. (c.in_ok-here.ensures (with_place e 0 i)).0 ((c.in_ok-closed.ensures (with_place e 0 i)).0 ((h e).0 m i) ((c.in_ok-next.ensures (with_place e 0 i)).1 t)),
  λ p. (h e).1 (λ i. (c.in_ok-closed.ensures (with_place e 0 i)).1 (λ n. (c.in_ok-here.ensures (with_place e 0 i)).1 (p i ((c.in_ok-next.ensures (with_place e 0 i)).0 n)))),
)) c.every_place.ensures
