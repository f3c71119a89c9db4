use Rattle.std.proofs.Common.{◌≡◌, ◌↔◌, ◌++◌, List, ℕ, Option, Box, Global, IfSome, codes, map, string_bytes, ap, subst, ◌∙◌}
use Rattle.std.proofs.lemmas.Bool.{OnTrue_at}
use Rattle.formulas.specs.Meaning.{Env, Meaning}
use Rattle.formulas.specs.declared.formula.Formula.{Formula}
use Rattle.trees.specs.declared.tree.Item.{Item}
use Rattle.resolve.specs.Says.{text}
use Rattle.rule_file.specs.Claims.{bytes_of}
use Rattle.syntax.specs.Reads.{IsReadAs}
use Rattle.rule_source.specs.Formulas.{AreOne, before, declared, names_now}
use Rattle.rule_source.specs.Names.{names_after}
use Rattle.rule_source.proofs.formula.formula_of.Goals as goal

pub returns-in-Some : goal.returns-in-Some
returns-in-Some c =
    let b = c.args.bits.now in
    let s = b.layout in
    let a = c.args.about in
    let formula = bytes_of b.text.now c.args.formula in
    let items = c.in_ok-items.items.items in
    let names = names_now b in
    let now : map (λ n. string_bytes n) c.deref.result.now ≡ names = ap (λ l. map (λ n. string_bytes n) l) c.deref.ensures.value ∙ c.in_ok-now.ensures in
    let after : map (λ n. string_bytes n) c.deref-2.result.now ≡ names_after names = ap (λ l. map (λ n. string_bytes n) l) c.deref-2.ensures.value ∙ c.in_ok-after.ensures in
    let lines : string_bytes c.in_ok-lines.lines ≡ before s a names (names_after names) =
    c.in_ok-lines.ensures ∙ ap (λ (l : List (List ℕ)). before s a l (map (λ n. string_bytes n) c.deref-2.result.now)) now ∙ ap (λ (l : List (List ℕ)). before s a names l) after in
    let bytes : string_bytes c.in_ok-composed.composed.text ≡ declared s a names (names_after names) formula =
    c.in_ok-composed.ensures ∙ ap (λ (t : List ℕ). t ++ formula ++ codes "\n;\n") lines in
    let asked : AreOne s a c.deref-3.result.now (map (λ n. string_bytes n) c.deref-4.result.now) (map (λ n. string_bytes n) c.deref-5.result.now) = OnTrue_at c.if-are_one.true c.are_one.ensures in
    let asked_now : AreOne s a c.deref-3.result.now names (map (λ n. string_bytes n) c.deref-5.result.now) =
    subst (λ (l : List (List ℕ)). AreOne s a c.deref-3.result.now l (map (λ n. string_bytes n) c.deref-5.result.now)) (ap (λ l. map (λ n. string_bytes n) l) c.deref-4.ensures.value ∙ c.in_ok-now.ensures) asked in
    let asked_after : AreOne s a c.deref-3.result.now names (names_after names) =
    subst (λ (l : List (List ℕ)). AreOne s a c.deref-3.result.now names l) (ap (λ l. map (λ n. string_bytes n) l) c.deref-5.ensures.value ∙ c.in_ok-after.ensures) asked_now in
    record {
      items = items;
      read = subst (λ (t : List ℕ). IsReadAs t items) bytes c.in_ok-items.ensures;
      one = subst (λ (l : List Item). AreOne s a l names (names_after names)) c.deref-3.ensures.value asked_after;
      means = subst (λ (l : List Item). (e : Env) → Meaning c.in-Some.read.value e ↔ (text l e).claimed) c.deref-then-are_one.ensures.value
          (subst (λ (o : Option (Box Formula Global)). IfSome o (λ f. (e : Env) → Meaning f.value e ↔ (text c.deref-then-are_one.result.now e).claimed)) c.in-Some.is c.in_ok-read.ensures);
    }
