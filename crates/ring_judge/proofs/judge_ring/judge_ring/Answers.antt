use Rattle.std.proofs.Common.{length, subst}
use Rattle.row_judge.specs.Says.{RowJudgedPost}
use Rattle.row_judge.specs.declared.row_judged.RowJudged.TheVariants as row
use Rattle.ring_judge.specs.Made.{NotMade}
use Rattle.ring_judge.proofs.RingLaws as rings
use Rattle.ring_judge.proofs.judge_ring.judge_ring.Goals as goal

pub returns-in-Err-TooLong : goal.returns-in-Err-TooLong
returns-in-Err-TooLong c = rings.too_long c.args.claim.now c.args.most c.args.out.now (length c.args.work.now) (subst (NotMade c.args.claim.now) c.in-Err-TooLong.field-0-is c.in-Err-TooLong.ensures)

pub returns-in-Always : goal.returns-in-Always
returns-in-Always c =
    let (k, d, m) = c.in-Ok.ensures in
    let p = subst (λ t. RowJudgedPost t c.args.most c.args.out.now c.judge_row.new.out (length c.args.work.now) row.Always) c.as_slice.ensures c.in-Always.ensures in
    rings.always c.args.claim.now k d c.in-Ok.row m c.args.most c.args.out.now c.judge_row.new.out (length c.args.work.now) p

pub returns-in-Never : goal.returns-in-Never
returns-in-Never c =
    let (k, d, m) = c.in-Ok.ensures in
    let p = subst (λ t. RowJudgedPost t c.args.most c.args.out.now c.judge_row.new.out (length c.args.work.now) row.Never) c.as_slice.ensures c.in-Never.ensures in
    rings.never c.args.claim.now k d c.in-Ok.row m c.args.most c.args.out.now c.judge_row.new.out (length c.args.work.now) p

pub returns-in-Both : goal.returns-in-Both
returns-in-Both c =
    let (k, d, m) = c.in-Ok.ensures in
    let p = subst (λ t. RowJudgedPost t c.args.most c.args.out.now c.judge_row.new.out (length c.args.work.now) (row.Both c.in-Both.a c.in-Both.b)) c.as_slice.ensures c.in-Both.ensures in
    rings.both c.args.claim.now k d c.in-Ok.row m c.args.most c.args.out.now c.judge_row.new.out (length c.args.work.now) c.in-Both.a c.in-Both.b p

pub returns-in-TooLong : goal.returns-in-TooLong
returns-in-TooLong c =
    let (k, d, m) = c.in-Ok.ensures in
    let p = subst (λ t. RowJudgedPost t c.args.most c.args.out.now c.judge_row.new.out (length c.args.work.now) row.TooLong) c.as_slice.ensures c.in-TooLong.ensures in
    rings.row_too_long c.args.claim.now k d c.in-Ok.row m c.args.most c.args.out.now c.judge_row.new.out (length c.args.work.now) p

pub returns-in-Many : goal.returns-in-Many
returns-in-Many c =
    let (k, d, m) = c.in-Ok.ensures in
    let p = subst (λ t. RowJudgedPost t c.args.most c.args.out.now c.judge_row.new.out (length c.args.work.now) row.Many) c.as_slice.ensures c.in-Many.ensures in
    rings.many c.args.claim.now k d c.in-Ok.row m c.args.most c.args.out.now c.judge_row.new.out (length c.args.work.now) p

pub returns-in-OutFull : goal.returns-in-OutFull
returns-in-OutFull c =
    let (k, d, m) = c.in-Ok.ensures in
    let p = subst (λ t. RowJudgedPost t c.args.most c.args.out.now c.judge_row.new.out (length c.args.work.now) (row.OutFull c.in-OutFull.a c.in-OutFull.b)) c.as_slice.ensures c.in-OutFull.ensures in
    rings.out_full c.args.claim.now k d c.in-Ok.row m c.args.most c.args.out.now c.judge_row.new.out (length c.args.work.now) c.in-OutFull.a c.in-OutFull.b p

pub returns-in-Few : goal.returns-in-Few
returns-in-Few c =
    let (k, d, m) = c.in-Ok.ensures in
    let p = subst (λ t. RowJudgedPost t c.args.most c.args.out.now c.judge_row.new.out (length c.args.work.now) row.Few) c.as_slice.ensures c.in-Few.ensures in
    rings.few_words c.args.claim.now k d c.in-Ok.row m c.args.most c.args.out.now c.judge_row.new.out (length c.args.work.now) p

pub unreachable-requires : goal.unreachable-requires
unreachable-requires c =
    let (k, d, m) = c.in-Ok.ensures in
    let p = subst (λ t. RowJudgedPost t c.args.most c.args.out.now c.judge_row.new.out (length c.args.work.now) c.judge_row.result) c.as_slice.ensures c.judge_row.ensures in
    rings.not_others c.args.claim.now k d c.in-Ok.row m c.args.most c.args.out.now c.judge_row.new.out (length c.args.work.now) c.judge_row.result p c.in-NoRowClaim.is
