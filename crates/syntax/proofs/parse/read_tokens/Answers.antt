use Rattle.std.proofs.Common.{arith, length}
use Rattle.tokens.specs.Words.{words}
use Rattle.syntax.specs.Items.{view_items}
use Rattle.syntax.proofs.ParseLaws.{at_most, read_written, read_printed}
use Rattle.syntax.proofs.parse.read_tokens.Goals as goal

pub returns-clause-gives : goal.returns-clause-gives
returns-clause-gives c = λ n e. at_most (λ v. view_items v.items) c.items.result (length c.args.tokens.now) c.most_open.result n (words c.args.text.now c.args.tokens.now) c.most_open.ensures e c.items.ensures

pub returns-clause-again : goal.returns-clause-again
returns-clause-again c = λ is x e. read_written (λ v. view_items v.items) c.items.result (length c.args.tokens.now) c.most_open.result c.args.text.now c.args.tokens.now is c.most_open.ensures (omega arith) x e c.items.ensures

pub returns-clause-printed : goal.returns-clause-printed
returns-clause-printed c = λ all is x e. read_printed (λ v. view_items v.items) c.items.result (length c.args.tokens.now) c.most_open.result c.args.text.now c.args.tokens.now all is c.most_open.ensures (omega arith) x e c.items.ensures
