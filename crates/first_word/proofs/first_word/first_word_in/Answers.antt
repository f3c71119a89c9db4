use Rattle.std.proofs.Common.{◌≡◌, ◌*◌, ◌≤◌, length, sym, subst, arith}
use Rattle.std.proofs.lemmas.Grind.{common_steps}
use Rattle.workspace.specs.Floor.{floor_words}
use Rattle.lengths.specs.Answer.{First}
use Rattle.first_word.proofs.FoundLaws.{first_empty, answered}
use Rattle.first_word.proofs.first_word.first_word_in.Goals as goal

pub returns-in-Always : goal.returns-in-Always
returns-in-Always c = λ k d claim.
    let says = c.in-Always.ensures.says k d claim in
    (says.0, subst (First k d) (sym c.new.ensures.items) (first_empty k d says.1))

pub returns-in-Both : goal.returns-in-Both
returns-in-Both c = λ k d claim.
    let says = c.in-Both.ensures.says k d claim in
    let (u, v, f, g, a, b, first, second, rest) = says.1 in
    let m : c.in_ok-from_slice-in-Both.field-0.items ≡ u = grind (arith, common_steps, first, c.in_ok-from_slice-in-Both.ensures, c.deref.ensures.value) in
    (says.0, subst (First k d) (sym m) f)

pub unreachable-requires : goal.unreachable-requires
unreachable-requires c =
    let (v, width, floor) = c.floor.ensures.value in
    let fits = c.requires.fits v width in
    let memory : floor_words v c.args.claim.now c.args.n ≤ length c.deref_mut-2.result.now = omega (arith, c.deref_mut-2.ensures.len, c.in_ok-work.ensures.len, floor) in
    let room : 2 * c.args.n ≤ length c.deref_mut.result.now = omega (arith, c.deref_mut.ensures.len, c.in_ok-out.ensures.len) in
    answered _ _ _ _ _ _ c.judge.ensures c.requires.claim v width memory room c.in-NoClaim.is
