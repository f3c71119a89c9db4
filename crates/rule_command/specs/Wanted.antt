-- What the words of the command line ask for.
use Rattle.std.specs.Prelude.{◌≡◌, ℕ, Bool, true, false, is_some, Option, Some, None, List, codes}
use Rattle.clap.specs.Matches.{found_of, first_value, one_text}
use Rattle.clap.specs.declared.parser.matches.ArgMatches.{ArgMatches}
use Rattle.rule_report.specs.declared.options.Options.{Options}

-- what stands behind the option of that name, if it is there
abbrev pub value_of : ArgMatches → List ℕ → Option (List ℕ)
value_of m name = one_text (found_of m) name

-- a flag is set where its value is `true`
pub record IsFlag (value : Option (List ℕ)) (set : Bool) : Type 0 where
  pub absent : value ≡ None → set ≡ false
  pub given : value ≡ Some (codes "true") → set ≡ true
  pub unset : value ≡ Some (codes "false") → set ≡ false

-- the flags that are given are set; without `--most` all memory is used, without `--steps` no row is shown; pictures are drawn where a folder is named
pub record AreWanted (m : ArgMatches) (o : Options) : Type 0 where
  pub most : value_of m (codes "most") ≡ None → o.most ≡ None
  pub steps : value_of m (codes "steps") ≡ None → o.steps ≡ 0
  pub show : IsFlag (value_of m (codes "show")) o.show
  pub bytes : IsFlag (value_of m (codes "bytes")) o.bytes
  pub why : IsFlag (value_of m (codes "why")) o.why
  pub pictures : o.pictures ≡ is_some (first_value (found_of m) (codes "picture"))
