-- What a report asks of a rule, in words.
use Rattle.std.specs.Prelude.{ℕ, List, max, codes}
use Rattle.rows.specs.declared.rule.Layout.{Layout}
use Rattle.rows.specs.declared.rule.Layout.TheVariants.{Line, Ring}
use Rattle.rule_source.specs.declared.claimed.Put.TheVariants as put
use Rattle.rule_report.specs.declared.subject.Subject.{Subject}
use Rattle.rule_report.specs.declared.subject.Subject.TheVariants.{SomeAllowed, NoneStuck, AllowedKept, Claim}

-- what is claimed
abbrev pub name_of : Layout → Subject → List ℕ
name_of Line SomeAllowed = codes "some row is allowed"
name_of Line NoneStuck = codes "no allowed row is stuck"
name_of Line AllowedKept = codes "the row after an allowed row is allowed"
name_of Line (Claim how name statement) = name.now
name_of Ring SomeAllowed = codes "some ring is allowed"
name_of Ring NoneStuck = codes "no allowed ring is stuck"
name_of Ring AllowedKept = codes "the ring after an allowed ring is allowed"
name_of Ring (Claim how name statement) = name.now

-- what a given row is called
abbrev pub given_of : Layout → List ℕ
given_of Line = codes "a given row"
given_of Ring = codes "a given ring"

-- the same in the name of a picture
abbrev pub short_of : Subject → List ℕ
short_of SomeAllowed = codes "allowed"
short_of NoneStuck = codes "stuck"
short_of AllowedKept = codes "not-kept"
short_of (Claim how name statement) = name.now

-- what is said where no row is as it is asked for
abbrev pub settled_of : Layout → Subject → List ℕ
settled_of Line SomeAllowed = codes "no: no row is allowed, of whatever length, so what is said of allowed rows is empty talk"
settled_of Ring SomeAllowed = codes "no: no ring is allowed, of whatever length, so what is said of allowed rings is empty talk"
settled_of s NoneStuck = codes "settled for every length"
settled_of s AllowedKept = codes "settled for every length"
settled_of s (Claim put.Claim name statement) = codes "settled for every length"
settled_of s (Claim put.Never name statement) = codes "never, settled for every length"

-- what is said where there is a first row, before its length
abbrev pub found_of : Layout → Subject → List ℕ
found_of Line SomeAllowed = codes "yes, the first row has length"
found_of Ring SomeAllowed = codes "yes, the first ring has length"
found_of s NoneStuck = codes "fails, first at length"
found_of s AllowedKept = codes "fails, first at length"
found_of s (Claim put.Claim name statement) = codes "fails, first at length"
found_of s (Claim put.Never name statement) = codes "found, first at length"

-- how many rows after the first row are shown, where so many steps are asked for
abbrev pub steps_of : Subject → ℕ → ℕ
steps_of SomeAllowed steps = 0
steps_of NoneStuck steps = steps
steps_of AllowedKept steps = max steps 1
steps_of (Claim put.Claim name statement) steps = max steps 1
steps_of (Claim put.Never name statement) steps = steps
