use Rattle.std.proofs.Common.{length, ap, sym, subst, ◌∙◌, min}
use Rattle.std.proofs.lemmas.List.{length-map}
use Rattle.resolve.specs.Asks.{declared}
use Rattle.state_diagram.specs.Drawn.{Drawn}
use Rattle.claim_report.proofs.DeclaredLaws.{names_length}
use Rattle.claim_report.proofs.automaton.drawn.Goals as goal

pub returns-in-Plain : goal.returns-in-Plain
returns-in-Plain c =
    let all = ap length c.deref.ensures.value ∙ sym (length-map c.in_ok-names.names.items (λ n. n.now)) ∙ ap length c.in_ok-names.ensures ∙ names_length (declared c.args.items.now) in
    (c.in-Ok.diagram.states.items, subst (λ n. Drawn c.args.automaton.now (min n c.args.automaton.now.sets) c.in-Ok.diagram.states.items) all c.in-Ok.ensures)

pub returns : goal.returns
returns c =
    let all = ap length c.deref.ensures.value ∙ sym (length-map c.in_ok-names.names.items (λ n. n.now)) ∙ ap length c.in_ok-names.ensures ∙ names_length (declared c.args.items.now) in
    (c.in-Ok.diagram.states.items, subst (λ n. Drawn c.args.automaton.now (min n c.args.automaton.now.sets) c.in-Ok.diagram.states.items) all c.in-Ok.ensures)
