use Rattle.std.proofs.Common.{IfOk, string_bytes, sym, subst}
use Rattle.std.proofs.lemmas.Result.{IfOk-weaker}
use Rattle.claim_report.specs.Reported.{Reported, IsLines, ShowsAutomaton, Fulfils}
use Rattle.claim_report.proofs.report.reported.Goals as goal

pub returns-in-Bytes : goal.returns-in-Bytes
returns-in-Bytes c =
    let file = c.args.source.file.now in
    let text = c.args.source.text.now in
    let items = c.in_ok-items.items.items in
    subst (λ wish. IfOk c.lines.result (λ printed. Fulfils file text wish (string_bytes printed))) (sym c.in-Bytes.is)
    (IfOk-weaker c.lines.result _ _
    (λ printed h. (items, c.in_ok-items.ensures.reads, subst (λ l. IsLines l (string_bytes printed)) c.deref.ensures.value h)) c.lines.ensures)

pub returns-in-Answer : goal.returns-in-Answer
returns-in-Answer c =
    let file = c.args.source.file.now in
    let text = c.args.source.text.now in
    let items = c.in_ok-items.items.items in
    subst (λ wish. IfOk c.answer_of.result (λ printed. Fulfils file text wish (string_bytes printed))) (sym c.in-Answer.is)
    (IfOk-weaker c.answer_of.result _ _
    (λ printed h. (items, c.in_ok-items.ensures.reads, subst (λ l. Reported file text c.in-Answer.form l (string_bytes printed)) c.deref-in-Answer.ensures.value h)) c.answer_of.ensures)

pub returns : goal.returns
returns c =
    let file = c.args.source.file.now in
    let text = c.args.source.text.now in
    let items = c.in_ok-items.items.items in
    subst (λ wish. IfOk c.automaton.result (λ printed. Fulfils file text wish (string_bytes printed))) (sym c.in-Automaton.is)
    (IfOk-weaker c.automaton.result _ _
    (λ printed h. (items, c.in_ok-items.ensures.reads, subst (λ l. ShowsAutomaton file text l (string_bytes printed)) c.deref-in-Automaton.ensures.value h)) c.automaton.ensures)
