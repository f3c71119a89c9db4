use Rattle.std.proofs.Common.{◌≡◌, ◌+◌, ◌-◌, ◌<◌, ◌≤◌, ℕ, suc, false, true, Option, List, [], ◌∷◌, ◌++◌, length, get_or, sym, subst, ◌∙◌, arith, Some, None}
use Rattle.strengthening.specs.Search.{NoneExtends, NoneTo, Reaches}
use Rattle.strengthening.proofs.SearchLaws.{to_next, to_end, reached_at}
use Rattle.strengthen.specs.Known.{IsKnown, IsSearched, IsEnd, end_of}
use Rattle.strengthen.specs.Listed.{Below, KeptWith}
use Rattle.strengthen.specs.declared.known.Known.{Known}
use Rattle.strengthen.specs.declared.search.Stop.{Stop}
use Rattle.strengthen.proofs.GoingLaws.{passed_over}
use Rattle.strengthen.proofs.ListedLaws.{any_default}
use Rattle.strengthen.proofs.search.+search.Goals.{then-index+in_ok-choice+in_ok-stop+in_default, else-index}
use Rattle.strengthen.proofs.search.+search.Goals as goal

pub search-requires : goal.search-requires
search-requires g t c = λ κs lives.
    (
    let n = length c.args.problem.given.helpers.now in
    let below : Below n c.deref.result.now = subst (Below n) (sym c.deref.ensures.value) (c.in_ok-choice.ensures.below n c.requires.below (omega arith)) in
    (omega (arith, c.decreases), (lives, (c.loop-c.invariant.known, (below, omega arith))))
    )

pub returns-in-Some-clause-searched : goal.returns-in-Some-clause-searched
returns-in-Some-clause-searched g t c =
    let x = c.args.problem.given in
    let n = length x.helpers.now in
    let f = c.args.front in
    let m = f.count - 1 in
    let more : m + 1 ≡ f.count = (let z = c.if-front-eq0.false in omega arith) in
    let found : IsSearched x c.args.problem.memory (c.loop-c.c + 1) m c.deref.result.now (Some c.in-Some.stop) = subst (λ (o : Option Stop). IsSearched x c.args.problem.memory (c.loop-c.c + 1) m c.deref.result.now o) c.in-Some.is c.in_ok-stop.ensures.searched in
    let at : Reaches (KeptWith x) (c.loop-c.c + 1) n m (f.choice.now ++ (c.loop-c.c ∷ [])) (end_of c.in-Some.stop) =
    subst (λ (is : List ℕ). Reaches (KeptWith x) (c.loop-c.c + 1) n m is (end_of c.in-Some.stop)) (c.deref.ensures.value ∙ c.in_ok-choice.ensures.items) found.0 in
    (subst (λ (k : ℕ). Reaches (KeptWith x) f.from n k f.choice.now (end_of c.in-Some.stop)) more (reached_at n (KeptWith x) f.from m f.choice.now (end_of c.in-Some.stop) c.loop-c.c c.loop-c.invariant.from (omega arith) c.loop-c.invariant.none at), found.1)

pub loop-c-preserved : goal.loop-c-preserved
loop-c-preserved g t c = elim c.if-index.branch [
  | then-index+in_ok-choice+in_ok-stop+in_default w ↦ (
      let x = c.args.problem.given in
      let n = length x.helpers.now in
      let f = c.args.front in
      let m = f.count - 1 in
      let none : NoneExtends (KeptWith x) (c.loop-c.c + 1) n m w.deref.result.now = subst (λ (o : Option Stop). IsSearched x c.args.problem.memory (c.loop-c.c + 1) m w.deref.result.now o) w.in_default.is w.in_ok-stop.ensures.searched in
      let here : NoneExtends (KeptWith x) (c.loop-c.c + 1) n m (f.choice.now ++ (c.loop-c.c ∷ [])) =
      subst (λ (is : List ℕ). NoneExtends (KeptWith x) (c.loop-c.c + 1) n m is) (w.deref.ensures.value ∙ w.in_ok-choice.ensures.items) none in
      record {
        known = subst (λ (k : Known). IsKnown x k) (sym w.known-is) w.in_ok-stop.ensures.known;
        from = (let z = c.loop-c.invariant.from in omega arith);
        none = to_next n (KeptWith x) f.from m f.choice.now c.loop-c.c c.loop-c.invariant.none here;
      }
      )
  | else-index w ↦ (
      let plus : c.loop-c.c + 1 ≡ suc c.loop-c.c = omega arith in
      let x = c.args.problem.given in
      let n = length x.helpers.now in
      let f = c.args.front in
      let m = f.count - 1 in
      record {
        known = subst (λ (k : Known). IsKnown x k) (sym w.known-is) c.loop-c.invariant.known;
        from = (let z = c.loop-c.invariant.from in omega arith);
        none = to_next n (KeptWith x) f.from m f.choice.now c.loop-c.c c.loop-c.invariant.none (passed_over x m c.loop-c.c f.choice.now c.requires.below (omega arith) (c.loop-c.invariant.known.left (suc c.loop-c.c) (omega arith) (any_default c.loop-c.known.left.items (suc c.loop-c.c) true c.index.result.now (omega (arith, c.loop-c.invariant.known.many_left)) ∙ (subst (λ (z : ℕ). get_or c.loop-c.known.left.items z c.index.result.now ≡ c.index.result.now) plus (sym c.index.ensures) ∙ w.if-index.false))));
      }
      )
]

pub returns-clause-searched : goal.returns-clause-searched
returns-clause-searched g t c =
    let x = c.args.problem.given in
    let n = length x.helpers.now in
    let f = c.args.front in
    let m = f.count - 1 in
    let more : m + 1 ≡ f.count = (let z = c.if-front-eq0.false in omega arith) in
    let none : NoneTo (KeptWith x) f.from n m f.choice.now n = λ d h l. c.loop-c.invariant.none d h (let z = c.loop-c-test.false in omega arith) in
    subst (λ (k : ℕ). NoneExtends (KeptWith x) f.from n k f.choice.now) more (to_end n (KeptWith x) f.from m f.choice.now none)
