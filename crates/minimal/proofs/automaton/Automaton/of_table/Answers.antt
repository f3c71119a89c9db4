use Rattle.std.proofs.Common.{◌≡◌, ◌*◌, ◌^◌, ◌==◌, length, take, map, sym, ap, ap₂, ◌∙◌, rules, arith}
use Rattle.std.proofs.lemmas.List.{length-map, length-take-le}
use Rattle.narrowing.specs.Columns.{size, extract}
use Rattle.narrowing.proofs.ColumnsLaws.{extract_below}
use Rattle.selection.specs.Selections.{chosen}
use Rattle.tables.specs.View.{moves}
use Rattle.minimal.proofs.TableLaws.{copied_accept}
use Rattle.minimal.proofs.WidenLaws.{narrow_below, widened}
use Rattle.minimal.proofs.automaton.Automaton.of_table.Goals as goal

pub rows_by-requires-clause-columns : goal.rows_by-requires-clause-columns
rows_by-requires-clause-columns c =
    let s = c.args.sets in
    let t = c.args.t in
    let n = c.in_ok-columns.ensures in
    rw c.deref.ensures.value (narrow_below s.of (chosen s) c.in_ok-columns.columns.items n.many n.narrow t.sets t.table.width c.requires.columns t.wide)

pub invariant_of-result : goal.invariant_of-result
invariant_of-result c =
    let s = c.args.sets in
    let t = c.args.t in
    let n = c.in_ok-columns.ensures in
    let r = c.in_ok-rows.ensures in
    let ends : c.in_ok-accepting.accepting.items ≡ map (λ x. x == 1) (take t.table.classes t.table.accept.now) = search rules in
    let states : length c.in_ok-accepting.accepting.items ≡ t.table.classes = ap length ends ∙ length-map (take t.table.classes t.table.accept.now) (λ x. x == 1) ∙ length-take-le t.table.classes t.table.accept.now t.table.accept_fits in
    let many : length c.deref.result.now ≡ 2 ^ s.of = ap length c.deref.ensures.value ∙ n.many in
    record {
      narrow = s.few;
      full = r.many ∙ ap₂ (λ m w. m * w) (sym states) many;
      below = λ q a hq ha.
          (let e = widened s.of (chosen s) c.in_ok-columns.columns.items n.many n.narrow c.in_ok-rows.rows.items (moves t.table) t.table.classes (rw c.deref.ensures.value at r.leads) q a (omega (arith, states)) ha in
          let w : t.table.width ≡ 2 ^ size s.of (chosen s) = t.wide ∙ ap (λ z. 2 ^ z) c.requires.columns in
          let b = t.table.below q (extract s.of (chosen s) a) (omega (arith, states)) (omega (arith, extract_below s.of (chosen s) a, w)) in
          rw (e, states) b);
    }

pub returns-clause-leads : goal.returns-clause-leads
returns-clause-leads c =
    let s = c.args.sets in
    let n = c.in_ok-columns.ensures in
    let r = c.in_ok-rows.ensures in
    widened s.of (chosen s) c.in_ok-columns.columns.items n.many n.narrow c.in_ok-rows.rows.items (moves c.args.t.table) c.args.t.table.classes (rw c.deref.ensures.value at r.leads)

pub returns-clause-accepts : goal.returns-clause-accepts
returns-clause-accepts c q hq =
    let t = c.args.t in
    let ends : c.in_ok-accepting.accepting.items ≡ map (λ x. x == 1) (take t.table.classes t.table.accept.now) = search rules in
    copied_accept t.table.accept.now c.in_ok-accepting.accepting.items t.table.classes q ends t.table.accept_fits hq
