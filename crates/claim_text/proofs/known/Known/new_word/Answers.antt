use Rattle.std.proofs.Common.{◌≡◌, ◌+◌, ◌++◌, true, length, string_bytes, sym, ap, ◌∙◌, subst, arith, length-append}
use Rattle.claim_text.specs.Called.{called}
use Rattle.claim_text.proofs.CalledLaws.{called_short}
use Rattle.claim_text.proofs.known.Known.new_word.Goals as goal

pub loop-word-smaller : goal.loop-word-smaller
loop-word-smaller c =
    let k = c.args.self.now in
    let w = string_bytes c.loop-word.word in
    let h : called k w ≡ true = subst (λ v. called k v ≡ true) c.as_str.ensures.value (sym c.has_word.ensures ∙ c.loop-word-test.true) in
    let short = called_short k w h in
    let bytes = c.in_ok-push.ensures.bytes ∙ ap (λ t. w ++ t) (c.push.ensures.ascii (omega arith)) in
    let longer : length (string_bytes c.push.new.self) ≡ length w + 1 = ap (λ l. length l) bytes ∙ length-append w _ in
    omega (arith, short, longer)
