use Rattle.std.proofs.Common.{Bor, List, ℕ, map, ap, ◌∙◌, arith}
use Rattle.std.proofs.lemmas.List.{take_all}
use Rattle.rule_file.specs.Claims.{bytes_of}
use Rattle.rule_file.specs.declared.token.Token.{Token}
use Rattle.rule_file.specs.declared.tree.Line.{Line}
use Rattle.rule_source.specs.Helpers.{named_in}
use Rattle.rule_source.proofs.HelpersLaws.{as_many, names_more}
use Rattle.rule_source.proofs.helpers.helper_names.Goals as goal

pub loop-line-preserved : goal.loop-line-preserved
loop-line-preserved c =
    names_more (λ (t : Token). bytes_of c.args.source.now.bits.text.now t) c.args.source.now.file.lines.items c.loop-line.line-index c.line-item.result c.name_of.result (map (λ (n : Bor (List ℕ)). n.now) c.loop-line.names.items) (map (λ (n : Bor (List ℕ)). n.now) c.push_name.new.names.items) (omega arith) (cc) c.loop-line.invariant c.name_of.ensures c.in_ok-push_name.ensures

pub returns-clause-many : goal.returns-clause-many
returns-clause-many c =
    as_many (λ (n : Bor (List ℕ)). n.now) (λ (t : Token). bytes_of c.args.source.now.bits.text.now t) c.loop-line.names.items c.args.source.now.file.lines.items _
    (c.loop-line.invariant ∙ ap (λ (ls : List Line). map (λ (t : Token). bytes_of c.args.source.now.bits.text.now t) (named_in ls)) (take_all c.loop-line.line-index c.args.source.now.file.lines.items (omega arith))) (cc)
