-- What a declared name stands for.
use Rattle.trees.specs.declared.tree.Sort.{Sort}
use Rattle.trees.specs.declared.tree.Sort.TheVariants as sort
use Rattle.resolve.specs.declared.scope.Kind.{Kind}
use Rattle.resolve.specs.declared.scope.Kind.TheVariants as kind

-- a name of that sort
abbrev pub kind_of : Sort → Kind
kind_of sort.Place = kind.Place
kind_of sort.Set = kind.Set
