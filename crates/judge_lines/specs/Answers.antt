-- The line of an answer.
use Rattle.std.specs.Prelude.{ℕ, ◌-◌, List, [], ◌++◌, length, take, drop, codes, nat_le, ◌&&◌, if◌then◌else◌}
use Rattle.std.specs.Fmt.{decimal}
use Rattle.display.specs.Columns.{columns_of}
use Rattle.lengths.specs.declared.judged.Judged.{Judged}
use Rattle.lengths.specs.declared.judged.Judged.TheVariants.{Always, Never, Both, NoClaim, Many, OutFull, Few}

-- the columns of both words, which stand one behind the other; nothing where there are not so many
abbrev pub words_of : ℕ → ℕ → List ℕ → List ℕ
words_of a b out = if nat_le a (length out) && nat_le b (length out - a)
    then columns_of (take a out) ++ (codes " | " ++ columns_of (take b (drop a out))) else []

-- what is said, and of two first words their lengths and then the columns of each
abbrev pub line_of : Judged → List ℕ → List ℕ
line_of Always out = codes "always"
line_of Never out = codes "never"
line_of (Both a b) out = codes "both " ++ (decimal a ++ (codes " " ++ (decimal b ++ (codes " | " ++ words_of a b out))))
line_of NoClaim out = codes "no claim"
line_of Many out = codes "many"
line_of (OutFull a b) out = codes "out full " ++ (decimal a ++ (codes " " ++ decimal b))
line_of Few out = codes "few"
