use Rattle.std.proofs.Common.{length, sym, subst, length-append, arith}
use Rattle.state_diagram.specs.Drawn.{DrawnState}
use Rattle.state_diagram.proofs.PushedLaws.{each_pushed}
use Rattle.state_diagram.proofs.diagram.state_diagram.Goals as goal

pub loop-q-preserved : goal.loop-q-preserved
loop-q-preserved c =
    let t = c.args.automaton.now in
    let n = c.min-named.result in
    let states = c.loop-q.states.items in
    let state = c.in_ok-state.state in
    let size = c.loop-q.invariant.0 in
    let last : DrawnState t n (length states) state = subst (λ q. DrawnState t n q state) (sym size) c.in_ok-state.ensures in
    rw c.in_ok-push.ensures.items (simp length-append (omega (arith, size)), each_pushed (DrawnState t n) states state c.loop-q.invariant.1 last)
