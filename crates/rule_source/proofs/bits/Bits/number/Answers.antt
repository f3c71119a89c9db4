use Rattle.std.proofs.Common.{List, ℕ, Bor, ap, ◌∙◌, arith}
use Rattle.std.proofs.lemmas.Bool.Decides.{Decides-eqb}
use Rattle.std.proofs.lemmas.Slice.Eq.{slice_eq-Decides}
use Rattle.rule_file.specs.Claims.{bytes_of}
use Rattle.rule_source.proofs.NamesLaws.{apart_all, apart_at, is_other, is_word, number_at, place_of}
use Rattle.rule_source.proofs.bits.Bits.number.Goals as goal

pub returns-then-eq-clause-number : goal.returns-then-eq-clause-number
returns-then-eq-clause-number c =
    number_at (λ (n : Bor (List ℕ)). n.now) c.args.self.now.names.items _ _ c.loop-j.j _ c.deref-other-items.ensures.value (omega arith)
    (is_word _ _ _ _ c.eq.result c.as_bytes-in-loop-j.ensures.value (c.bytes-name.ensures ∙ ap (λ t. bytes_of t c.args.token) c.as_bytes.ensures.value) (slice_eq-Decides Decides-eqb _ _ _ c.eq.ensures) c.if-eq.true) c.loop-j.invariant

pub returns-then-eq-clause-place : goal.returns-then-eq-clause-place
returns-then-eq-clause-place c =
    place_of (λ (n : Bor (List ℕ)). n.now) c.args.self.now.names.items _ c.loop-j.j _ _ c.deref-other-items.ensures.value (omega arith)
    (is_word _ _ _ _ c.eq.result c.as_bytes-in-loop-j.ensures.value (c.bytes-name.ensures ∙ ap (λ t. bytes_of t c.args.token) c.as_bytes.ensures.value) (slice_eq-Decides Decides-eqb _ _ _ c.eq.ensures) c.if-eq.true)

pub loop-j-preserved : goal.loop-j-preserved
loop-j-preserved c =
    apart_at (λ (n : Bor (List ℕ)). n.now) c.args.self.now.names.items _ _ c.loop-j.j _ c.deref-other-items.ensures.value (omega arith) c.loop-j.invariant
    (is_other _ _ _ _ c.eq.result c.as_bytes-in-loop-j.ensures.value (c.bytes-name.ensures ∙ ap (λ t. bytes_of t c.args.token) c.as_bytes.ensures.value) (slice_eq-Decides Decides-eqb _ _ _ c.eq.ensures) c.if-eq.false)

pub returns-clause-none : goal.returns-clause-none
returns-clause-none c = apart_all (λ (n : Bor (List ℕ)). n.now) c.args.self.now.names.items _ c.loop-j.j (omega arith) c.loop-j.invariant
