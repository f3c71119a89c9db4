use Rattle.std.proofs.Common.{◌≡◌, ℕ, ◌+◌, ◌*◌, ◌<◌, ◌≤◌, length, take, drop, sym, ap, ◌∙◌, subst, arith, length-take, length-drop, length-append}
use Rattle.claims.specs.Rows.{Claim}
use Rattle.workspace.specs.Floor.{floor_words}
use Rattle.row_claims.specs.Reading.{further_sets, row_with, row_without}
use Rattle.row_judge.specs.Made.{bytes_of, NotMade}
use Rattle.row_judge.specs.Finding.{NotAll, Enough, FindsFirst}
use Rattle.row_judge.specs.declared.made.Rows.TheVariants.{With, Without}
use Rattle.row_judge.specs.declared.finding.FirstWord.TheVariants.{Nothing, Long, TooLarge}
use Rattle.row_judge.proofs.CallLaws.{with_claim, without_claim, enough_with}
use Rattle.row_judge.proofs.RowLaws.{with_not_all, without_not_all, found_never, found_many, found_with, found_always, found_not_many, found_without}
use Rattle.row_judge.proofs.ModulesLaws.{rows_stand, first_kept, first_length, second_there, second_length}
use Rattle.row_judge.proofs.JudgedLaws.{asked_floor, too_long, few, never, many, always, out_full, both}
use Rattle.row_judge.proofs.judge_row.judge_row.Goals as goal

pub returns-in-Err-TooLong : goal.returns-in-Err-TooLong
returns-in-Err-TooLong c = too_long c.args.claim.now c.args.most c.args.out.now (length c.args.work.now) (subst (NotMade c.args.claim.now) c.in-Err-TooLong.field-0-is c.in-Err-TooLong.ensures)

pub returns-then-work-floor : goal.returns-then-work-floor
returns-then-work-floor c =
    let s = c.args.claim.now in
    let n = c.args.most in
    let k = c.in-Ok.made.0 in
    let (d, a, e) = c.in-Ok.ensures in
    let f = asked_floor s k d a n c.floor.result c.from.result c.as_slice.result.now (c.as_slice.ensures ∙ e) c.floor.ensures.value c.from.ensures in
    few s n c.args.out.now (length c.args.work.now) k d a _ f.floor c.if-work-floor.true

pub first_word-requires-clause-claim : goal.first_word-requires-clause-claim
first_word-requires-clause-claim c =
    let k = c.in-Ok.made.0 in
    let (d, a, e) = c.in-Ok.ensures in
    let i : c.as_slice-2.result.now ≡ bytes_of With k d = c.as_slice-2.ensures ∙ c.claim_with-with.ensures d a in
    (further_sets k, row_with k d, subst (λ t. Claim t (further_sets k) (row_with k d)) (sym i) (with_claim c.args.claim.now k d a))

pub first_word-requires-clause-not_all : goal.first_word-requires-clause-not_all
first_word-requires-clause-not_all c =
    let k = c.in-Ok.made.0 in
    let (d, a, e) = c.in-Ok.ensures in
    let i : c.as_slice-2.result.now ≡ bytes_of With k d = c.as_slice-2.ensures ∙ c.claim_with-with.ensures d a in
    subst NotAll (sym i) (with_not_all c.args.claim.now k d a)

pub first_word-requires-clause-work : goal.first_word-requires-clause-work
first_word-requires-clause-work c =
    let s = c.args.claim.now in
    let n = c.args.most in
    let k = c.in-Ok.made.0 in
    let (d, a, e) = c.in-Ok.ensures in
    let i : c.as_slice-2.result.now ≡ bytes_of With k d = c.as_slice-2.ensures ∙ c.claim_with-with.ensures d a in
    let f = asked_floor s k d a n c.floor.result c.from.result c.as_slice.result.now (c.as_slice.ensures ∙ e) c.floor.ensures.value c.from.ensures in
    let w = length c.split_at_mut-words.result.1.now in
    let l : floor_words f.wide (bytes_of Without k d) n ≤ w = omega (arith, f.call, f.more, c.split_at_mut-words.ensures.back_len) in
    subst (λ t. Enough t n w) (sym i) (enough_with s k d a n w f.wide f.width l)

pub returns-in-Nothing : goal.returns-in-Nothing
returns-in-Nothing c =
    let s = c.args.claim.now in
    let n = c.args.most in
    let k = c.in-Ok.made.0 in
    let (d, a, e) = c.in-Ok.ensures in
    let i : c.as_slice-2.result.now ≡ bytes_of With k d = c.as_slice-2.ensures ∙ c.claim_with-with.ensures d a in
    let f = asked_floor s k d a n c.floor.result c.from.result c.as_slice.result.now (c.as_slice.ensures ∙ e) c.floor.ensures.value c.from.ensures in
    let room : length c.args.work.now < c.floor.result + 3 * c.from.result → ⊥ = λ h. omega arith in
    let g = found_never s k d a n c.first_word.new.out (subst (λ t. FindsFirst t n c.first_word.new.out Nothing) i c.in-Nothing.ensures) in
    never s n c.args.out.now (length c.args.work.now) k d a _ f.floor room g.0 g.1

pub returns-in-TooLarge : goal.returns-in-TooLarge
returns-in-TooLarge c =
    let s = c.args.claim.now in
    let n = c.args.most in
    let k = c.in-Ok.made.0 in
    let (d, a, e) = c.in-Ok.ensures in
    let i : c.as_slice-2.result.now ≡ bytes_of With k d = c.as_slice-2.ensures ∙ c.claim_with-with.ensures d a in
    let f = asked_floor s k d a n c.floor.result c.from.result c.as_slice.result.now (c.as_slice.ensures ∙ e) c.floor.ensures.value c.from.ensures in
    let room : length c.args.work.now < c.floor.result + 3 * c.from.result → ⊥ = λ h. omega arith in
    let g = found_many s k d a n c.first_word.new.out (subst (λ t. FindsFirst t n c.first_word.new.out TooLarge) i c.in-TooLarge.ensures) in
    many s n c.args.out.now (length c.args.work.now) k d a _ f.floor room g

pub first_word-requires-2-clause-claim : goal.first_word-requires-2-clause-claim
first_word-requires-2-clause-claim c =
    let k = c.in-Ok.made.0 in
    let (d, a, e) = c.in-Ok.ensures in
    let i : c.as_slice-3.result.now ≡ bytes_of Without k d = c.as_slice-3.ensures ∙ e in
    (further_sets k, row_without k d, subst (λ t. Claim t (further_sets k) (row_without k d)) (sym i) (without_claim c.args.claim.now k d a))

pub first_word-requires-2-clause-not_all : goal.first_word-requires-2-clause-not_all
first_word-requires-2-clause-not_all c =
    let k = c.in-Ok.made.0 in
    let (d, a, e) = c.in-Ok.ensures in
    let i : c.as_slice-3.result.now ≡ bytes_of Without k d = c.as_slice-3.ensures ∙ e in
    subst NotAll (sym i) (without_not_all c.args.claim.now k d a)

pub returns-in-Nothing-first_word : goal.returns-in-Nothing-first_word
returns-in-Nothing-first_word c =
    let s = c.args.claim.now in
    let n = c.args.most in
    let k = c.in-Ok.made.0 in
    let (d, a, e) = c.in-Ok.ensures in
    let i : c.as_slice-2.result.now ≡ bytes_of With k d = c.as_slice-2.ensures ∙ c.claim_with-with.ensures d a in
    let j : c.as_slice-3.result.now ≡ bytes_of Without k d = c.as_slice-3.ensures ∙ e in
    let f = asked_floor s k d a n c.floor.result c.from.result c.as_slice.result.now (c.as_slice.ensures ∙ e) c.floor.ensures.value c.from.ensures in
    let room : length c.args.work.now < c.floor.result + 3 * c.from.result → ⊥ = λ h. omega arith in
    let g = found_with s k d a n c.first_word.new.out c.in-Long.a (subst (λ t. FindsFirst t n c.first_word.new.out (Long c.in-Long.a)) i c.in-Long.ensures) in
    let h = found_always s k d a n c.first_word-2.new.out (subst (λ t. FindsFirst t n c.first_word-2.new.out Nothing) j c.in-Nothing-first_word.ensures) in
    always s n c.args.out.now (length c.args.work.now) k d a _ f.floor room g.0 h

pub unreachable-requires : goal.unreachable-requires
unreachable-requires c =
    let s = c.args.claim.now in
    let n = c.args.most in
    let k = c.in-Ok.made.0 in
    let (d, a, e) = c.in-Ok.ensures in
    let i : c.as_slice-2.result.now ≡ bytes_of With k d = c.as_slice-2.ensures ∙ c.claim_with-with.ensures d a in
    let j : c.as_slice-3.result.now ≡ bytes_of Without k d = c.as_slice-3.ensures ∙ e in
    let g = found_with s k d a n c.first_word.new.out c.in-Long.a (subst (λ t. FindsFirst t n c.first_word.new.out (Long c.in-Long.a)) i c.in-Long.ensures) in
    found_not_many s k d a n c.first_word-2.new.out g.0 (subst (λ t. FindsFirst t n c.first_word-2.new.out TooLarge) j c.in-TooLarge-first_word.ensures)

pub overflow_add-a : goal.overflow_add-a
overflow_add-a c =
    let s = c.args.claim.now in
    let n = c.args.most in
    let k = c.in-Ok.made.0 in
    let (d, a, e) = c.in-Ok.ensures in
    let i : c.as_slice-2.result.now ≡ bytes_of With k d = c.as_slice-2.ensures ∙ c.claim_with-with.ensures d a in
    let j : c.as_slice-3.result.now ≡ bytes_of Without k d = c.as_slice-3.ensures ∙ e in
    let (b, g, l) = found_with s k d a n c.first_word.new.out c.in-Long.a (subst (λ t. FindsFirst t n c.first_word.new.out (Long c.in-Long.a)) i c.in-Long.ensures) in
    let (h, m) = found_without s k d a n c.first_word-2.new.out c.in-Long-first_word.b (subst (λ t. FindsFirst t n c.first_word-2.new.out (Long c.in-Long-first_word.b)) j c.in-Long-first_word.ensures) in
    omega arith

pub returns-then-out-a : goal.returns-then-out-a
returns-then-out-a c =
    let s = c.args.claim.now in
    let n = c.args.most in
    let k = c.in-Ok.made.0 in
    let (d, a, e) = c.in-Ok.ensures in
    let i : c.as_slice-2.result.now ≡ bytes_of With k d = c.as_slice-2.ensures ∙ c.claim_with-with.ensures d a in
    let j : c.as_slice-3.result.now ≡ bytes_of Without k d = c.as_slice-3.ensures ∙ e in
    let f = asked_floor s k d a n c.floor.result c.from.result c.as_slice.result.now (c.as_slice.ensures ∙ e) c.floor.ensures.value c.from.ensures in
    let room : length c.args.work.now < c.floor.result + 3 * c.from.result → ⊥ = λ h. omega arith in
    let (b, g, l) = found_with s k d a n c.first_word.new.out c.in-Long.a (subst (λ t. FindsFirst t n c.first_word.new.out (Long c.in-Long.a)) i c.in-Long.ensures) in
    let (h, m) = found_without s k d a n c.first_word-2.new.out c.in-Long-first_word.b (subst (λ t. FindsFirst t n c.first_word-2.new.out (Long c.in-Long-first_word.b)) j c.in-Long-first_word.ensures) in
    out_full s n c.args.out.now (length c.args.work.now) k d a _ f.floor room b c.in-Long.a c.in-Long-first_word.b g.row h.row (g.first, h.first, g.long, h.long) c.if-out-a.true

pub slice_bounds-write_rows-end : goal.slice_bounds-write_rows-end
slice_bounds-write_rows-end c =
    let s = c.args.claim.now in
    let n = c.args.most in
    let k = c.in-Ok.made.0 in
    let (d, a, e) = c.in-Ok.ensures in
    let i : c.as_slice-2.result.now ≡ bytes_of With k d = c.as_slice-2.ensures ∙ c.claim_with-with.ensures d a in
    let j : c.as_slice-3.result.now ≡ bytes_of Without k d = c.as_slice-3.ensures ∙ e in
    let (b, g, l) = found_with s k d a n c.first_word.new.out c.in-Long.a (subst (λ t. FindsFirst t n c.first_word.new.out (Long c.in-Long.a)) i c.in-Long.ensures) in
    let (h, m) = found_without s k d a n c.first_word-2.new.out c.in-Long-first_word.b (subst (λ t. FindsFirst t n c.first_word-2.new.out (Long c.in-Long-first_word.b)) j c.in-Long-first_word.ensures) in
    let x = c.first_word.new.out in
    let y = c.first_word-2.new.out in
    let z = drop (2 * n) c.split_at_mut-words.result.0.now in
    let o : n ≤ length x = omega (arith, c.first_word.auto.out, c.split_at_mut-words.ensures.front_len, length-take {A = ℕ}) in
    sym (ap (λ p. length (take c.in-Long.a p)) c.split_at.ensures.front ∙ first_length c.in-Long.a 0 n _ x y z o (omega arith))

pub slice_bounds-write_rows-end-2 : goal.slice_bounds-write_rows-end-2
slice_bounds-write_rows-end-2 c =
    let s = c.args.claim.now in
    let n = c.args.most in
    let k = c.in-Ok.made.0 in
    let (d, a, e) = c.in-Ok.ensures in
    let i : c.as_slice-2.result.now ≡ bytes_of With k d = c.as_slice-2.ensures ∙ c.claim_with-with.ensures d a in
    let j : c.as_slice-3.result.now ≡ bytes_of Without k d = c.as_slice-3.ensures ∙ e in
    let (b, g, l) = found_with s k d a n c.first_word.new.out c.in-Long.a (subst (λ t. FindsFirst t n c.first_word.new.out (Long c.in-Long.a)) i c.in-Long.ensures) in
    let (h, m) = found_without s k d a n c.first_word-2.new.out c.in-Long-first_word.b (subst (λ t. FindsFirst t n c.first_word-2.new.out (Long c.in-Long-first_word.b)) j c.in-Long-first_word.ensures) in
    let y = c.first_word-2.new.out in
    let x = c.first_word.new.out in
    let z = drop (2 * n) c.split_at_mut-words.result.0.now in
    let p : n ≤ length x = omega (arith, c.first_word.auto.out, c.split_at_mut-words.ensures.front_len, length-take {A = ℕ}) in
    let o : n ≤ length y = omega (arith, c.first_word-2.auto.out, c.first_word.auto.out, c.split_at_mut-words.ensures.front_len, length-take {A = ℕ}, length-drop {A = ℕ}, length-append {A = ℕ}) in
    sym (ap (λ q. length (take c.in-Long-first_word.b q)) c.split_at.ensures.back ∙ second_length 0 c.in-Long-first_word.b n _ x y z p (omega arith))

pub returns : goal.returns
returns c =
    let s = c.args.claim.now in
    let n = c.args.most in
    let k = c.in-Ok.made.0 in
    let (d, a, e) = c.in-Ok.ensures in
    let i : c.as_slice-2.result.now ≡ bytes_of With k d = c.as_slice-2.ensures ∙ c.claim_with-with.ensures d a in
    let j : c.as_slice-3.result.now ≡ bytes_of Without k d = c.as_slice-3.ensures ∙ e in
    let (b, g, l) = found_with s k d a n c.first_word.new.out c.in-Long.a (subst (λ t. FindsFirst t n c.first_word.new.out (Long c.in-Long.a)) i c.in-Long.ensures) in
    let (h, m) = found_without s k d a n c.first_word-2.new.out c.in-Long-first_word.b (subst (λ t. FindsFirst t n c.first_word-2.new.out (Long c.in-Long-first_word.b)) j c.in-Long-first_word.ensures) in
    let f = asked_floor s k d a n c.floor.result c.from.result c.as_slice.result.now (c.as_slice.ensures ∙ e) c.floor.ensures.value c.from.ensures in
    let room : length c.args.work.now < c.floor.result + 3 * c.from.result → ⊥ = λ h. omega arith in
    let x = c.first_word.new.out in
    let y = c.first_word-2.new.out in
    let p = c.split_at.result.0.now in
    let q = c.split_at.result.1.now in
    let z = drop (2 * n) c.split_at_mut-words.result.0.now in
    let long : n ≤ length x = omega (arith, c.first_word.auto.out, c.split_at_mut-words.ensures.front_len, length-take {A = ℕ}) in
    let also : n ≤ length y = omega (arith, c.first_word-2.auto.out, c.first_word.auto.out, c.split_at_mut-words.ensures.front_len, length-take {A = ℕ}, length-drop {A = ℕ}, length-append {A = ℕ}) in
    let u : take c.in-Long.a p ≡ take c.in-Long.a x = ap (take c.in-Long.a) c.split_at.ensures.front ∙ first_kept c.in-Long.a 0 n _ x y z long (omega arith) in
    let v : take c.in-Long-first_word.b q ≡ take c.in-Long-first_word.b y = ap (take c.in-Long-first_word.b) c.split_at.ensures.back ∙ second_there 0 c.in-Long-first_word.b n _ x y z long (omega arith) in
    let w = rows_stand c.in-Long.a c.in-Long-first_word.b g.row h.row c.args.out.now g.long h.long k _ _ c.write_rows.new.out (u ∙ g.stands) (v ∙ h.stands) g.first.columns h.first.columns c.write_rows.ensures in
    both s n c.args.out.now (length c.args.work.now) k d a _ f.floor room b c.in-Long.a c.in-Long-first_word.b g.row h.row (g.first, h.first, g.long, h.long) c.write_rows.new.out w.0 w.1 w.2
