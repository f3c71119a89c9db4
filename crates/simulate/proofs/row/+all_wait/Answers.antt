use Rattle.std.proofs.Common.{◌≡◌, get_or, refl, sym, ap, not, subst, true, ◌∙◌}
use Rattle.rows.specs.Views.{View, seen}
use Rattle.rows.specs.Rules.{moves}
use Rattle.simulate.specs.Seen.{place_of}
use Rattle.simulate.proofs.RowLaws.{each_first}
use Rattle.simulate.proofs.row.+all_wait.Goals as goal

pub returns-then-not-moves : goal.returns-then-not-moves
returns-then-not-moves n c =
    let w = c.args.row.now in
    let P = λ (s : View). not (moves c.args.table.now s) in
    let t = subst (λ r. P (seen (place_of c.args.beside.left) (get_or w 0 0) r) ≡ true) c.front.ensures (ap not (sym c.moves.ensures ∙ c.if-not-moves.true)) in
    let k = each_first P (place_of c.args.beside.left) w (place_of c.args.beside.right) (get_or w 0 0) c.in-len1-up.len_at_least refl t in
    let a = c.all_wait.ensures in
    (λ h. k.0 (a.0 h), λ h. a.1 (k.1 h))
