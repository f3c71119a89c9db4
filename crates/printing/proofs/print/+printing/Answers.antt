use Rattle.std.proofs.Common.{ℕ, List, ◌∷◌, ap, ◌∙◌}
use Rattle.std.specs.Prelude.{decimal}
use Rattle.tokens.specs.declared.kind.Kind.TheVariants as kind
use Rattle.tokens.specs.Words.{Word, word}
use Rattle.syntax.specs.Plain.{prefixed, joined, counted, written, list, open_, close, open_set, close_set, empty_word, sign_of, bar, tally}
use Rattle.trees.specs.Tree.{Expr}
use Rattle.trees.specs.declared.tree.Unary.TheVariants as unary
use Rattle.syntax.specs.Views.{view, view_all}
use Rattle.syntax.specs.Parsing.{right_of}
use Rattle.syntax.specs.Printed.{text, texts, enclosed, within_parens, left_of}
use Rattle.printing.specs.Writing.{is_all}
use Rattle.printing.proofs.WritingLaws.{both, then_ok, same, same_ok}
use Rattle.printing.proofs.TreesLaws.{of_view, listed_words, call_words}
use Rattle.printing.proofs.print.+printing.Goals as goal

pub put_enclosed-returns : goal.put_enclosed-returns
put_enclosed-returns t c =
    let a = is_all c.args.style in
    let inside = λ (r : List Word). written (text a (view c.args.expr.now.kind)) r in
    then_ok c.word-2.result c.args.writer.now c.put.new.writer c.word-2.new.self (λ r. open_ ∷ inside r) (λ r. close ∷ r)
    (both c.args.writer.now c.word.new.self c.put.new.writer (λ r. open_ ∷ r) inside c.in_ok-word.ensures c.in_ok-put.ensures) c.word-2.ensures

pub put-returns-in_ok-put_all-in-Listed : goal.put-returns-in_ok-put_all-in-Listed
put-returns-in_ok-put_all-in-Listed t c =
    let a = is_all c.args.style in
    let inside = λ (r : List Word). list (texts a (view_all c.deref.result.now)) r in
    same_ok c.word-in-Listed-2.result c.args.writer.now c.word-in-Listed-2.new.self (λ r. open_set ∷ inside (close_set ∷ r)) (λ r. written (text a (view c.args.expr.now.kind)) r)
    (listed_words a c.args.expr.now.kind c.in-Listed.all c.deref.result.now c.in-Listed.is c.deref.ensures.value)
    (then_ok c.word-in-Listed-2.result c.args.writer.now c.put_all.new.writer c.word-in-Listed-2.new.self (λ r. open_set ∷ inside r) (λ r. close_set ∷ r)
    (both c.args.writer.now c.word-in-Listed.new.self c.put_all.new.writer (λ r. open_set ∷ r) inside c.in_ok-word-in-Listed.ensures c.in_ok-put_all-in-Listed.ensures) c.word-in-Listed-2.ensures)

pub put-returns-in_ok-put_all-in-Call : goal.put-returns-in_ok-put_all-in-Call
put-returns-in_ok-put_all-in-Call t c =
    let a = is_all c.args.style in
    let inside = λ (r : List Word). list (texts a (view_all c.deref-in-Call.result.now)) r in
    let name = λ (r : List Word). word kind.Name c.as_str-in-Call.result.now ∷ r in
    same_ok c.word-in-Call-3.result c.args.writer.now c.word-in-Call-3.new.self (λ r. name (open_ ∷ inside (close ∷ r))) (λ r. written (text a (view c.args.expr.now.kind)) r)
    (call_words a c.args.expr.now.kind c.in-Call.name c.in-Call.all c.as_str-in-Call.result.now c.deref-in-Call.result.now c.in-Call.is c.as_str-in-Call.ensures.value c.deref-in-Call.ensures.value)
    (then_ok c.word-in-Call-3.result c.args.writer.now c.put_all-in-Call.new.writer c.word-in-Call-3.new.self (λ r. name (open_ ∷ inside r)) (λ r. close ∷ r)
    (both c.args.writer.now c.word-in-Call-2.new.self c.put_all-in-Call.new.writer (λ r. name (open_ ∷ r)) inside
    (both c.args.writer.now c.word-in-Call.new.self c.word-in-Call-2.new.self name (λ r. open_ ∷ r) c.in_ok-word-in-Call.ensures c.in_ok-word-in-Call-2.ensures) c.in_ok-put_all-in-Call.ensures)
    c.word-in-Call-3.ensures)

pub put-returns-in_ok-word-in-IsEmpty : goal.put-returns-in_ok-word-in-IsEmpty
put-returns-in_ok-word-in-IsEmpty t c =
    let a = is_all c.args.style in
    let part = λ (x : Expr) (r : List Word). empty_word ∷ open_ ∷ written (text a (view x.kind)) (close ∷ r) in
    same_ok c.put_enclosed.result c.args.writer.now c.put_enclosed.new.writer (part c.deref-in-IsEmpty.result.now) (λ r. written (text a (view c.args.expr.now.kind)) r)
    (λ r. ap (λ x. part x r) c.deref-in-IsEmpty.ensures ∙ of_view a c.args.expr.now.kind (prefixed unary.IsEmpty (view c.in-Unary.inside.value.kind)) (ap view c.in-Unary.is ∙ ap (λ u. prefixed u (view c.in-Unary.inside.value.kind)) c.in-IsEmpty.is) r)
    (then_ok c.put_enclosed.result c.args.writer.now c.word-in-IsEmpty.new.self c.put_enclosed.new.writer (λ r. empty_word ∷ r) (λ r. open_ ∷ written (text a (view c.deref-in-IsEmpty.result.now.kind)) (close ∷ r)) c.in_ok-word-in-IsEmpty.ensures c.put_enclosed.ensures)

pub put-returns-in_ok-put_operand-in-Count : goal.put-returns-in_ok-put_operand-in-Count
put-returns-in_ok-put_operand-in-Count t c =
    let a = is_all c.args.style in
    let set = c.in-Count.set.value in
    let m = c.in-Count.modulus.kind in
    let n = c.in-Count.rest.kind in
    let operand = λ (x : Expr) (r : List Word). written (enclosed (within_parens a 9 (view x.kind)) (text a (view x.kind))) r in
    let counts = λ (r : List Word). tally (decimal m) (decimal n) r in
    let old = c.args.writer.now in
    let first = c.word-in-Count.new.self in
    let second = c.put_operand-in-Count.new.writer in
    let last = c.put_tally.new.writer in
    same_ok c.put_tally.result old last (λ r. bar ∷ operand set (counts r)) (λ r. written (text a (view c.args.expr.now.kind)) r)
    (of_view a c.args.expr.now.kind (counted (view set.kind) m n) (ap view c.in-Count.is))
    (then_ok c.put_tally.result old second last (λ r. bar ∷ operand set r) counts
    (both old first second (λ r. bar ∷ r) (operand set) c.in_ok-word-in-Count.ensures
    (same first second (operand c.deref-in-Count.result.now) (operand set) (λ r. ap (λ x. operand x r) c.deref-in-Count.ensures) c.in_ok-put_operand-in-Count.ensures))
    c.put_tally.ensures)

pub put-returns-in_ok-word-in-Binary : goal.put-returns-in_ok-word-in-Binary
put-returns-in_ok-word-in-Binary t c =
    let a = is_all c.args.style in
    let b = c.in-Binary.binary in
    let operand = λ (m : ℕ) (x : Expr) (r : List Word). written (enclosed (within_parens a m (view x.kind)) (text a (view x.kind))) r in
    let left = operand (left_of b) c.in-Binary.left.value in
    let right = operand (right_of b) c.in-Binary.right.value in
    let sign = λ (r : List Word). sign_of b ∷ r in
    let old = c.args.writer.now in
    let first = c.put_operand-in-Binary.new.writer in
    let second = c.word-in-Binary.new.self in
    let last = c.put_operand-in-Binary-2.new.writer in
    same_ok c.put_operand-in-Binary-2.result old last (λ r. left (sign (right r))) (λ r. written (text a (view c.args.expr.now.kind)) r)
    (of_view a c.args.expr.now.kind (joined b (view c.in-Binary.left.value.kind) (view c.in-Binary.right.value.kind)) (ap view c.in-Binary.is))
    (then_ok c.put_operand-in-Binary-2.result old second last (λ r. left (sign r)) right
    (both old first second left sign
    (same old first (operand c.left_of.result c.deref-in-Binary.result.now) left (λ r. ap (λ x. operand c.left_of.result x r) c.deref-in-Binary.ensures ∙ ap (λ m. operand m c.in-Binary.left.value r) c.left_of.ensures) c.in_ok-put_operand-in-Binary.ensures)
    (same first second _ sign (λ r. ap (λ w. w ∷ r) c.sign_word-kind.ensures) c.in_ok-word-in-Binary.ensures))
    (same_ok c.put_operand-in-Binary-2.result second last (operand c.right_of.result c.deref-in-Binary-2.result.now) right (λ r. ap (λ x. operand c.right_of.result x r) c.deref-in-Binary-2.ensures ∙ ap (λ m. operand m c.in-Binary.right.value r) c.right_of.ensures) c.put_operand-in-Binary-2.ensures))
