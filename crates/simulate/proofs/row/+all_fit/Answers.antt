use Rattle.std.proofs.Common.{◌≡◌, get_or, refl, sym, subst, true, ◌∙◌}
use Rattle.rows.specs.Views.{seen}
use Rattle.rows.specs.Patterns.{any_fits}
use Rattle.simulate.specs.Seen.{place_of}
use Rattle.simulate.proofs.RowLaws.{each_first}
use Rattle.simulate.proofs.row.+all_fit.Goals as goal

pub returns-then-fits_any : goal.returns-then-fits_any
returns-then-fits_any n c =
    let w = c.args.row.now in
    let P = any_fits c.args.patterns.now in
    let t = subst (λ r. P (seen (place_of c.args.beside.left) (get_or w 0 0) r) ≡ true) c.front.ensures (sym c.fits_any.ensures ∙ c.if-fits_any.true) in
    let k = each_first P (place_of c.args.beside.left) w (place_of c.args.beside.right) (get_or w 0 0) c.in-len1-up.len_at_least refl t in
    let a = c.all_fit.ensures in
    (λ h. k.0 (a.0 h), λ h. a.1 (k.1 h))
