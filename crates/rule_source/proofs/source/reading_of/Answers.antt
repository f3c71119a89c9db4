use Rattle.std.proofs.Common.{map, subst, arith}
use Rattle.std.proofs.lemmas.List.Elements.{All-more}
use Rattle.rows.specs.Rules as rules
use Rattle.rule_file.specs.declared.tree.Line.{Line}
use Rattle.trees.specs.declared.position.Span.{Span}
use Rattle.rule_source.specs.Effects.{NamesOnce, line_by}
use Rattle.rule_source.specs.Formulas.{FormulaOf, helper_of, limit_of, start_of}
use Rattle.rule_source.specs.Given.{IsRow, row_by}
use Rattle.rule_source.specs.Patterns.{allowed_by}
use Rattle.rule_source.specs.declared.formula.About.TheVariants.{Row}
use Rattle.rule_source.proofs.NamesLaws.{filtered_item, zip_filtered}
use Rattle.rule_source.proofs.source.reading_of.Goals as goal

pub loop-line-preserved : goal.loop-line-preserved
loop-line-preserved c = record {
  patterns = filtered_item (λ (l : Line). allowed_by c.args.bits.now l.statement) c.args.lines.now c.loop-line.line-index c.line-item.result c.loop-line.reading.allowed.items c.add.new.self.allowed.items (omega arith) c.line-item.is c.loop-line.invariant.patterns c.in_ok-add.ensures.patterns;
  limits = zip_filtered (FormulaOf c.args.bits.now Row) (λ (l : Line). limit_of l.statement) c.args.lines.now c.loop-line.line-index c.line-item.result c.loop-line.reading.limits.items c.add.new.self.limits.items (omega arith) c.line-item.is c.loop-line.invariant.limits c.in_ok-add.ensures.limits;
  starts = zip_filtered (FormulaOf c.args.bits.now Row) (λ (l : Line). start_of l.statement) c.args.lines.now c.loop-line.line-index c.line-item.result c.loop-line.reading.starts.items c.add.new.self.starts.items (omega arith) c.line-item.is c.loop-line.invariant.starts c.in_ok-add.ensures.starts;
  helpers = zip_filtered (FormulaOf c.args.bits.now Row) (λ (l : Line). helper_of l.statement) c.args.lines.now c.loop-line.line-index c.line-item.result c.loop-line.reading.helpers.items c.add.new.self.helpers.items (omega arith) c.line-item.is c.loop-line.invariant.helpers c.in_ok-add.ensures.helpers;
  lines = filtered_item (λ (l : Line). line_by c.args.bits.now l.statement) c.args.lines.now c.loop-line.line-index c.line-item.result (map (λ (p : rules.Line × Span). p.0) c.loop-line.reading.table.items) (map (λ (p : rules.Line × Span). p.0) c.add.new.self.table.items) (omega arith) c.line-item.is c.loop-line.invariant.lines c.in_ok-add.ensures.lines;
  once = All-more (λ (l : Line). NamesOnce c.args.bits.now l.statement) c.args.lines.now c.loop-line.line-index c.line-item.result (omega arith) c.loop-line.invariant.once (subst (λ (l : Line). NamesOnce c.args.bits.now l.statement) c.line-item.is c.in_ok-add.ensures.once);
  rows = zip_filtered (IsRow c.args.bits.now) (λ (l : Line). row_by l.statement) c.args.lines.now c.loop-line.line-index c.line-item.result c.loop-line.reading.rows.items c.add.new.self.rows.items (omega arith) c.line-item.is c.loop-line.invariant.rows c.in_ok-add.ensures.rows;
}
