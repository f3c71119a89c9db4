use Rattle.std.proofs.Common.{◌≡◌, ◌*◌, ◌%◌, ◌^◌, ap, ◌∙◌, arith}
use Rattle.std.proofs.lemmas.Nat.{one_shl}
use Rattle.tables.specs.Cells.{entry}
use Rattle.minimal.proofs.TableLaws.{row_at}
use Rattle.minimal.proofs.automaton.Automaton.row.Goals as goal

pub returns-clause-leads : goal.returns-clause-leads
returns-clause-leads c a h =
    let w : (1 * 2 ^ c.args.self.now.sets) % 2 ^ 64 ≡ 2 ^ c.args.self.now.sets = one_shl c.args.self.now.sets 64 (omega arith) in
    row_at c.deref.result.now _ (2 ^ c.args.self.now.sets) c.args.q a w h ∙ ap (λ xs. entry xs (2 ^ c.args.self.now.sets) c.args.q a) c.deref.ensures.value
