use Rattle.std.proofs.Common.{◌+◌, ◌-◌, length, string_bytes}
use Rattle.claim_text.proofs.CalledLaws.{together}
use Rattle.claim_text.proofs.known.Known.new_word.Given as goal

abbrev pub decreases-loop-word : goal.decreases-loop-word
decreases-loop-word l = together l.self + 1 - length (string_bytes l.word)
