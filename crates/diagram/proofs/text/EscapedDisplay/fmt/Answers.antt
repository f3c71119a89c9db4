use Rattle.std.proofs.Common.{◌≡◌, ◌++◌, ◌∙◌, [], length, sym, ap, encode_utf8, append_assoc, append-nil, rules}
use Rattle.std.proofs.Output.{has_written_append, has_written_of_eq}
use Rattle.std.proofs.lemmas.List.{nil_from_length}
use Rattle.std.proofs.lemmas.Str.{chars-nil, chars_past_char, IsUtf8-past_char}
use Rattle.std.specs.List.{flat_map}
use Rattle.diagram.specs.Escapes.{escape_of, escaped}
use Rattle.diagram.proofs.text.EscapedDisplay.fmt.Goals as goal

pub loop-c-preserved : goal.loop-c-preserved
loop-c-preserved g c =
    let text = c.loop-c.c-iterator.rest.now in
    let rest = c.next.new.self.rest.now in
    let e : text ≡ encode_utf8 c.in-Some.c ++ rest = search rules in
    let first : escaped text ≡ escape_of c.in-Some.c ++ escaped rest = ap (flat_map escape_of) (chars_past_char text rest c.in-Some.c c.loop-c.invariant.0 e) in (
      IsUtf8-past_char text rest c.in-Some.c c.loop-c.invariant.0 e,
      λ plain.
          let so_far = c.loop-c.invariant.1 plain in (
            so_far.0 ++ escape_of c.in-Some.c,
            has_written_append _ _ _ _ _ _ so_far.1 (c.write.ensures.writes so_far.1.plain (search rules)),
            append_assoc so_far.0 (escape_of c.in-Some.c) (escaped rest) ∙ (ap (λ b. so_far.0 ++ b) (sym first) ∙ so_far.2),
          ),
    )

pub returns-clause-writes : goal.returns-clause-writes
returns-clause-writes g c = λ plain _.
    let text = c.loop-c.c-iterator.rest.now in
    let so_far = c.loop-c.invariant.1 plain in
    let z : length text ≡ 0 = search rules in
    let none : escaped text ≡ [] = ap escaped (nil_from_length text z) ∙ ap (flat_map escape_of) chars-nil in
    has_written_of_eq _ _ _ _ _ (sym (append-nil so_far.0) ∙ (ap (λ b. so_far.0 ++ b) (sym none) ∙ so_far.2)) so_far.1
