use Rattle.std.proofs.Common.{length, ap, ◌∙◌, arith}
use Rattle.tables.proofs.CellsLaws.{row_fits}
use Rattle.bitsets.specs.Intern.{bucket_of}
use Rattle.bitsets.proofs.BitrowsLaws.{row_part, row_ext}
use Rattle.bitsets.proofs.InternLaws.{interned_more}
use Rattle.bitsets.proofs.intern.intern.Goals as goal

pub find-requires : goal.find-requires
find-requires c = record {
  interned = c.requires.interned;
  hash = c.bucket-h.ensures.value ∙ ap (λ r. bucket_of r (length c.args.heads.now)) (row_part c.args.sets.now c.args.w c.args.n);
  row = c.requires.row;
  bucket = c.bucket-h.ensures.below;
  links = omega arith;
  buckets = omega arith;
}

pub returns-in-None : goal.returns-in-None
returns-in-None c =
    let sets = c.args.sets.now in
    let w = c.args.w in
    let n = c.args.n in
    record {
      differs = λ j o e. (let f = row_fits j n w o in c.in-None.ensures j o (row_ext sets w j n (omega arith) c.requires.row (λ z. omega (arith, c.type_inv.sets z)) e));
      interned = interned_more sets w n c.args.heads.now c.args.links.now c.args.buckets.now c.file.new.heads c.file.new.links c.file.new.buckets c.bucket-h.result
          c.requires.interned c.file.ensures.chained c.file.ensures.filed c.requires.buckets (omega arith)
          (c.bucket-h.ensures.value ∙ ap (λ r. bucket_of r (length c.args.heads.now)) (row_part sets w n));
    }
