use Rattle.std.proofs.Common.{ap, cond, encode_utf8}
use lib.Utf8.{encode}
use Rattle.diagram.specs.Escapes.{named}
use Rattle.diagram.proofs.text.replacement.Goals as goal

pub returns-then-is_forbidden : goal.returns-then-is_forbidden
unfolding encode
returns-then-is_forbidden c = ap (λ b. cond b (encode_utf8 65533) (named c.args.c)) (rw c.is_forbidden.ensures at c.if-is_forbidden.true)
