-- What a claim without parts means.
-- `Means` is shut: no other file can look into it. What others need of a kind's meaning stands here
-- as a law of that kind.
use Rattle.std.specs.Prelude.{◌↔◌}
use Rattle.words.specs.Words.{Sets, sets}
use Rattle.words.specs.Languages.{Lang}
use Rattle.kinds.specs.Counts.{Counts}
use Rattle.kinds.specs.Relations.{Relates}
use Rattle.kinds.specs.declared.atom.Atom.{Atom}
use Rattle.kinds.specs.declared.atom.Atom.TheVariants.{Related, Counted}
use Rattle.kinds.specs.declared.multiple.Multiple.{Multiple}
use Rattle.kinds.specs.declared.relation.Relation.{Relation}

pub Means : Atom → Sets → Type 0
Means (Related r) v = Relates r v
Means (Counted m) v = Counts m v

-- the words of whose sets it holds
abbrev pub OfAtom : Atom → Lang
OfAtom a w = Means a (sets w)

pub related : (r : Relation) (v : Sets) → Means (Related r) v ↔ Relates r v
unfolding Means
related r v = (λ h. h, λ h. h)

pub counted : (m : Multiple) (v : Sets) → Means (Counted m) v ↔ Counts m v
unfolding Means
counted m v = (λ h. h, λ h. h)
