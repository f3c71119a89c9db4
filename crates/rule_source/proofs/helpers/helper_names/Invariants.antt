use Rattle.std.proofs.Common.{◌≡◌, map, take}
use Rattle.rule_file.specs.Claims.{bytes_of}
use Rattle.rule_source.specs.Helpers.{named_in}
use Rattle.rule_source.proofs.helpers.helper_names.Given as goal

-- the names in the first lines
abbrev pub invariant-loop-line : goal.invariant-loop-line
invariant-loop-line l = map (λ n. n.now) l.names.items ≡ map (λ t. bytes_of l.source.bits.text.now t) (named_in (take l.line-index l.source.file.lines.items))
