-- What is called so where a part of a formula is printed.
use Rattle.std.specs.Prelude.{ℕ, Bool, ◌||◌, List}
use Rattle.std.specs.Str.{bytes_eq}
use Rattle.std.specs.List.{list_any}
use Rattle.claim_text.specs.declared.known.Known.{Known}
use Rattle.claim_text.specs.declared.known.Known.TheVariants.{Free, Bound'}

-- whether one of the free sets, or of what is bound around, has this word for a name
abbrev pub called : Known → List ℕ → Bool
called (Free words) w = list_any (λ b. bytes_eq b.now w) words.now
called (Bound' _ word _ rest) w = bytes_eq word.now w || called rest w
