use Rattle.std.proofs.Common.{◌≡◌, true, sym, ◌∙◌, rules}
use Rattle.syntax.specs.Parsing.{ascii}
use Rattle.syntax.proofs.AsciiLaws as laws
use Rattle.syntax.proofs.source.ascii_text.Goals as goal

pub returns-in-Err : goal.returns-in-Err
returns-in-Err c =
    let e : ascii c.args.bytes.now ≡ true = sym c.is_ascii.ensures ∙ search (rules, c.if-not-is_ascii.false) in
    absurd (c.in-Err.ensures.cases.0 (laws.ascii_text c.args.bytes.now e))
