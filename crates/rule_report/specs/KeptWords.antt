-- The words in which the answer on a claim that something is kept is told.
use Rattle.std.specs.Prelude.{ℕ, max, List, ◌++◌, length, map, codes}
use Rattle.std.specs.Fmt.{decimal}
use Rattle.keeping.specs.declared.moment.Moment.{Moment}
use Rattle.keeping.specs.declared.moment.Moment.TheVariants as moment
use Rattle.kept_check.specs.declared.answer.Breach.{Breach}
use Rattle.kept_check.specs.declared.answer.Large.{Large}
use Rattle.kept_check.specs.declared.answer.Large.TheVariants as large
use Rattle.rule_source.specs.declared.source.Source.{Source}
use Rattle.rule_report.specs.declared.options.Options.{Options}
use Rattle.rule_report.specs.ShownRows.{rows_from, rows_shown}

abbrev pub names_of : Source → List (List ℕ)
names_of s = map (λ name. name.now) s.bits.names.items

-- at which moment
abbrev pub moment_of : Moment → List ℕ
moment_of moment.Start = codes "at the start"
moment_of moment.Step = codes "in a step"

-- how large it is
abbrev pub why_of : Large → List ℕ
why_of (large.Classes n) = codes "more than " ++ (decimal n ++ codes " classes are told apart")
why_of (large.Bytes n) = decimal n ++ codes " bytes are needed, and at most 1024 can be judged"
why_of (large.Sets n) = decimal n ++ codes " sets are needed, and at most 12 can be judged"

-- the first row that shows that something is not kept, and one row after it at least
abbrev pub breach_words : Source → Options → Breach → List ℕ
breach_words s o x =
    codes "not kept, first at length " ++ (decimal (length x.row.items) ++ (codes ", " ++ (moment_of x.moment ++ (codes "\n" ++ rows_shown s.bits.layout (names_of s) 0 (rows_from s.rule x.row.items (max o.steps 1))))))
