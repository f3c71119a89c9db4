-- One line more, in its section.
use Rattle.std.proofs.Common.{◌≡◌, List, [], ◌∷◌, ◌++◌, refl, sym, ap, subst, ◌∙◌}
use Rattle.rule_file.specs.declared.section.Section.{Section}
use Rattle.rule_file.specs.declared.section.Section.TheVariants.{Outside}
use Rattle.rule_file.specs.declared.tree.Line.{Line}
use Rattle.rule_file.specs.Sections.{HaveSections, StandFrom, StandsIn, section_after, section_behind}

stand_more : (s : Section) (ls : List Line) (l : Line) → StandFrom s ls → StandsIn (section_after s ls) l.statement → StandFrom s (ls ++ l ∷ [])
stand_more s [] l a p = (p, tt)
stand_more s (k ∷ ls) l a p = (a.0, stand_more (section_behind s k.statement) ls l a.1 p)

after_more : (s : Section) (ls : List Line) (l : Line) → section_after s (ls ++ l ∷ []) ≡ section_behind (section_after s ls) l.statement
after_more s [] l = refl
after_more s (k ∷ ls) l = after_more (section_behind s k.statement) ls l

-- a line stands where it may, behind lines that do
pub sections_more : (ls new : List Line) (l : Line) (s : Section) → new ≡ ls ++ l ∷ [] → s ≡ section_after Outside ls → HaveSections ls → StandsIn s l.statement → HaveSections new
sections_more ls new l s n e a p =
    subst (λ (ks : List Line). HaveSections ks) (sym n) (stand_more Outside ls l a (subst (λ (t : Section). StandsIn t l.statement) e p))

-- and the section behind it
pub section_more : (ls new : List Line) (l : Line) (s t : Section) → new ≡ ls ++ l ∷ [] → s ≡ section_after Outside ls → t ≡ section_behind s l.statement → t ≡ section_after Outside new
section_more ls new l s t n e b =
    b ∙ ap (λ (u : Section). section_behind u l.statement) e ∙ sym (after_more Outside ls l) ∙ ap (λ (ks : List Line). section_after Outside ks) (sym n)
