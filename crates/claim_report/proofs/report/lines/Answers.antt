use Rattle.std.proofs.Common.{◌≡◌, ◌++◌, codes, string_bytes, sym, ap, ◌∙◌, append_assoc}
use Rattle.std.specs.Fmt.{decimal}
use Rattle.display.specs.Hex.{hex_of}
use Rattle.claim_report.specs.Reported.{line_of}
use Rattle.claim_report.proofs.report.lines.Goals as goal

pub returns : goal.returns
returns c =
    let most = c.in_ok-most.most in
    let holds = c.in_ok-question.question.holds.items in
    let fails = c.in_ok-question.question.fails.items in
    let s = c.deref.result.now in
    let t = c.deref-2.result.now in
    let printed : string_bytes c.in_ok-format.field-0 ≡ decimal most ++ (codes " " ++ (hex_of s ++ (codes "\n" ++ (decimal most ++ (codes " " ++ (hex_of t ++ codes "\n")))))) = c.in_ok-format.ensures.ok in
    let lines : line_of most s ++ line_of most t ≡ decimal most ++ (codes " " ++ (hex_of s ++ (codes "\n" ++ (decimal most ++ (codes " " ++ (hex_of t ++ codes "\n")))))) = simp append_assoc in
    record {
      most = most;
      holds = holds;
      fails = fails;
      put = c.in_ok-question.ensures.holds;
      opposite = c.in_ok-question.ensures.fails;
      fits = (c.in_ok-most.ensures.holds, c.in_ok-most.ensures.fails);
      printed_is = printed ∙ sym lines ∙ ap (λ s. line_of most s ++ line_of most t) c.deref.ensures.value ∙ ap (λ t. line_of most holds ++ line_of most t) c.deref-2.ensures.value;
    }
