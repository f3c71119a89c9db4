use Rattle.std.proofs.Common.{List, Some, sym, ap, ◌∙◌}
use Rattle.std.proofs.lemmas.Result.{err_from_is_err_and}
use Rattle.tokens.specs.declared.token.Token.{Token}
use Rattle.tokens.specs.Words.{words}
use Rattle.syntax.specs.Items.{view_items}
use Rattle.syntax.specs.Reads.{AreTokens}
use Rattle.syntax.proofs.ParseLaws.{found_tokens}
use Rattle.syntax.proofs.TextLaws.{read_text, fails_text}
use Rattle.syntax.proofs.parse.read.Goals as goal

pub returns-clause-reads : goal.returns-clause-reads
returns-clause-reads c = found_tokens (λ v. view_items v.items) c.read_tokens.result c.args.text.now (λ (ts : List Token). AreTokens c.args.text.now ts) c.deref.result.now c.in_ok-tokens.tokens.items (c.in_ok-tokens.ensures.covers, c.in_ok-tokens.ensures.words) c.deref.ensures.value c.read_tokens.ensures.gives

pub returns-clause-printed : goal.returns-clause-printed
returns-clause-printed c = λ all is x names e.
    let text = c.args.text.now in
    read_text (λ v. view_items v.items) c.read_tokens.result text (words text c.deref.result.now) all is x names e (c.in_ok-tokens.ensures.words ∙ ap (λ (ts : List Token). Some (words text ts)) (sym c.deref.ensures.value)) c.read_tokens.ensures.printed

pub returns-in_err-tokens-clause-printed : goal.returns-in_err-tokens-clause-printed
returns-in_err-tokens-clause-printed c = λ all is x names e.
    let p = err_from_is_err_and c.from_residual.result c.from_residual.ensures.1 in
    rw p.1 (fails_text p.0 c.in_err-tokens.field-0.0 c.args.text.now all is p.2 c.in_err-tokens.ensures.fails x names e)
