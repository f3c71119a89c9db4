-- How the modules of a file lie.
use Rattle.std.specs.Prelude.{ℕ, Option, Some, None, List, codes}
use Rattle.rows.specs.declared.rule.Layout.{Layout}
use Rattle.rows.specs.declared.rule.Layout.TheVariants.{Line, Ring}
use Rattle.rule_file.specs.declared.tree.RingLine.{RingLine}

-- in a ring if the file has the line `ring:`, else in a line
abbrev pub layout_of : Option RingLine → Layout
layout_of None = Line
layout_of (Some l) = Ring

-- what the set of all places is called
abbrev pub places_of : Layout → List ℕ
places_of Line = codes "row"
places_of Ring = codes "ring"

-- the line with which a text says that it is about a row with its ends, or about a ring
abbrev pub places_line : Layout → List ℕ
places_line Line = codes "rows;\n"
places_line Ring = codes "rings;\n"
