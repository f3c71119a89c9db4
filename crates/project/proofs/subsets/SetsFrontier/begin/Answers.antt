use Rattle.bitsets.proofs.InternLaws.{interned_start}
use Rattle.project.proofs.MemoryLaws.{begun}
use Rattle.project.proofs.subsets.SetsFrontier.begin.Goals as goal

pub intern-requires-clause-interned : goal.intern-requires-clause-interned
intern-requires-clause-interned c = let f = c.args.self.now in interned_start c.start_set.new.sets f.part.w f.heads.now f.links.now f.buckets.now

pub returns : goal.returns
returns c =
    let f = c.args.self.now in
    begun f.part f.most f.sets.now f.heads.now f.links.now f.buckets.now c.start_set.new.sets c.intern.new.heads c.intern.new.links c.intern.new.buckets c.intern.result c.start_set.ensures c.intern.ensures
