use Rattle.std.proofs.Common.{ℕ, ◌+◌, set, sym, refl, subst}
use Rattle.bitsets.specs.Intern.{Chains}
use Rattle.bitsets.proofs.InternLaws.{chains_more}
use Rattle.bitsets.proofs.intern.file.Goals as goal

pub returns : goal.returns
returns c =
    let heads = c.args.heads.now in
    let links = c.args.links.now in
    let buckets = c.args.buckets.now in
    let n = c.args.n in
    let h = c.args.h in
    let P : ℕ → Type 0 = λ z. Chains (set heads h n) (set links n z) (set buckets n h) (n + 1) in
    record { chained = subst P (sym c.first.ensures) (chains_more heads links buckets n h c.requires.chained c.requires.bucket c.requires.links c.requires.buckets); filed = refl }
