use Rattle.std.proofs.Common.{◌≡◌, ◌<◌, ◌≤◌, ℕ, suc, Bool, true, false, All, List, [], ◌∷◌, ◌++◌, length, slice_index_or, ap, sym, subst, ◌∙◌, inl, inr, arith}
use Rattle.std.proofs.lemmas.List.Elements.{All-push}
use Rattle.words.specs.Words.{Word, Columns}
use Rattle.formulas.specs.declared.formula.Formula.{Formula}
use Rattle.formulas.specs.Names.{Among}
use Rattle.keeping.specs.declared.moment.Moment.TheVariants.{Step}
use Rattle.rows.specs.Rows.{step}
use Rattle.strengthen.specs.Follow.{Follows}
use Rattle.strengthen.specs.Known.{Without}
use Rattle.strengthen.specs.Listed.{Below, IsWith}
use Rattle.strengthen.specs.Marks.{AreMarks, IsRefutation}
use Rattle.strengthen.specs.declared.marks.Mark.{Mark}
use Rattle.strengthen.specs.declared.marks.Mark.TheVariants as mark
use Rattle.strengthen.specs.declared.refutation.Refutation.{Refutation}
use Rattle.strengthen.specs.declared.follow.Followed.{Followed}
use Rattle.strengthen.specs.declared.follow.Followed.TheVariants as followed
use Rattle.strengthen.proofs.KnownLaws.{all_hold, dropped}
use Rattle.strengthen.proofs.MarksLaws.{marked_fails}
use Rattle.strengthen.proofs.known.round.Goals as goal

pub keeping_with-requires : goal.keeping_with-requires
keeping_with-requires g c =
    let n = length c.args.problem.given.helpers.now in
    let many : length c.deref.result.now ≡ suc n = ap length c.deref.ensures.value ∙ c.requires.known.many_left in
    record { below = subst (Below n) (sym c.deref-2.ensures.value) (c.in_ok-choice.ensures.below n many) }

pub returns : goal.returns
returns g c =
    let x = c.args.problem.given in
    let r = x.keeping.now.rule.now in
    let n = length x.helpers.now in
    let left = c.args.known.now.left.items in
    let choice = c.in_ok-choice.choice.items in
    let k = c.in_ok-keeping.keeping in
    let row = c.in-Not.row.items in
    let with : IsWith x choice k = subst (λ (is : List ℕ). IsWith x is k) c.deref-2.ensures.value c.in_ok-keeping.ensures in
    let shown : Follows k k.claim.value Step (followed.Not c.in-Not.row) = subst (λ (d : Formula). Follows k d Step (followed.Not c.in-Not.row)) c.deref-3.ensures (subst (λ (f : Followed). Follows k c.deref-3.result.now Step f) c.in-Not.is c.in_ok-row.ensures) in
    let hold = all_hold x choice k with row shown.0 shown.1 in
    let all : (i : ℕ) → suc i < length left → slice_index_or left (suc i) true ≡ true → Among i choice =
    subst (λ (l : List Bool). (i : ℕ) → suc i < length l → slice_index_or l (suc i) true ≡ true → Among i choice) c.deref.ensures.value c.in_ok-choice.ensures.all in
    let marks : AreMarks x (step r.layout r.bits r.table.items row) c.in_ok-refutation.refutation.after.items =
    subst (λ (w : Word). AreMarks x (step r.layout r.bits r.table.items w) c.in_ok-refutation.refutation.after.items) c.deref-5.ensures.value c.in_ok-refutation.ensures.after in
    let out : (j : ℕ) → j ≤ n → slice_index_or c.in_ok-left.left.items j true ≡ false → Without x j = λ j h e.
    elim (c.in_ok-left.ensures.each j (omega (arith, c.requires.known.many_left, ap length c.deref-6.ensures.value)) e) [
      | inl f ↦ c.requires.known.left j h (subst (λ (l : List Bool). slice_index_or l j true ≡ false) c.deref-6.ensures.value f)
      | inr f ↦ dropped x left c.requires.known.left choice (λ i l. all i (omega (arith, c.requires.known.many_left))) row hold.0 hold.1 j (marked_fails x (step r.layout r.bits r.table.items row) c.in_ok-refutation.refutation.after.items marks j h (subst (λ (l : List Mark). slice_index_or l j mark.Unknown ≡ mark.Fails) c.deref-7.ensures.value f))
    ] in
    record {
      known = record {
        tabled = c.requires.known.tabled;
        many_begin = c.requires.known.many_begin;
        many_left = c.in_ok-left.ensures.many ∙ ap length c.deref-6.ensures.value ∙ c.requires.known.many_left;
        begin = c.requires.known.begin;
        left = out;
        refuted = subst (λ (l : List Refutation). All (IsRefutation x) l) (sym c.in_ok-push.ensures.items) (All-push (IsRefutation x) c.args.known.now.refutations.items c.in_ok-refutation.refutation c.requires.known.refuted c.in_ok-refutation.ensures.refutation);
      };
    }
