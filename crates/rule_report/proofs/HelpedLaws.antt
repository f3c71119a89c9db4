-- Which numbers an answer names, and how what is told of choices goes on by one.
use Rattle.std.proofs.Common.{◌≡◌, ℕ, ◌+◌, ◌<◌, IfSome, Option, List, [], ◌∷◌, ◌++◌, All, length, map, take, get_or, Vec, refl, sym, ap, subst, ◌∙◌, append_assoc, append-nil}
use Rattle.std.specs.Global.{Global}
use Rattle.std.proofs.lemmas.List.{map_more, get_or-map, length-map}
use Rattle.rule_check.specs.declared.memory.Memory.{Memory}
use Rattle.rule_source.specs.declared.source.Source.{Source}
use Rattle.strengthen.specs.Before.{AreBefore}
use Rattle.strengthen.specs.Listed.{Below}
use Rattle.strengthen.specs.Told.{Told}
use Rattle.strengthen.specs.declared.answer.Stronger.{Stronger}
use Rattle.strengthen.specs.declared.answer.Stronger.TheVariants as stronger
use Rattle.strengthen.specs.declared.listed.Listed.{Listed}
use Rattle.strengthening.specs.Choices.{Rising}
use Rattle.rule_report.specs.Choices.{end_of}
use Rattle.rule_report.specs.Why.{AreWhys, IsWhyOf}
use Rattle.rule_report.specs.declared.options.Options.{Options}

-- numbers that rise below n are numbers of a list of n
pub rising_below : (a n : ℕ) (is : List ℕ) → Rising a n is → Below n is
rising_below a n [] h = tt
rising_below a n (i ∷ is) h = (h.1, rising_below (i + 1) n is h.2)

-- the numbers at which an answer stands are those of helpers
pub end_below : (g : Listed) (y : Memory) (a : Stronger) → Told g y a → IfSome (end_of a) (Below (length g.helpers.now))
end_below g y (stronger.With is) t = rising_below 0 (length g.helpers.now) is.items t.choice.0
end_below g y stronger.NoneAmong t = tt
end_below g y (stronger.TooLarge x) t = rising_below 0 (length g.helpers.now) x.choice.items t.choice.0

-- those before an end are of helpers
pub all_below : (n : ℕ) (e : Option (List ℕ)) (cs : List (List ℕ)) → AreBefore n e cs → All (Below n) cs
all_below n e cs b = λ k d h. let one = b.sound k d h in rising_below 0 n (get_or cs k d) one.choice.0

-- the first number, and those behind it
pub first_below : (n : ℕ) (is : List ℕ) (i : ℕ) (rest : List ℕ) → is ≡ i ∷ rest → Below n is → (i < n) × Below n rest
first_below n is i rest e h = subst (Below n) e h

-- one of a list of choices
pub below_at : (n : ℕ) (xs : List (Vec ℕ Global)) (i : ℕ) (x : Vec ℕ Global) → i < length xs → x ≡ get_or xs i x → All (Below n) (map (λ c. c.items) xs) → Below n x.items
below_at n xs i x within read h =
    let items : Vec ℕ Global → List ℕ = λ c. c.items in
    let size : i < length (map items xs) = rw (length-map xs items) within in
    let here : get_or (map items xs) i x.items ≡ x.items = get_or-map items xs i x x.items within ∙ ap items (sym read) in
    subst (Below n) here (h i x.items size)

whys_append : (s : Source) (o : Options) (g : Listed) (y : Memory) (cs : List (List ℕ)) (is words more : List ℕ) → AreWhys s o g y cs words → IsWhyOf s o g y is more → AreWhys s o g y (cs ++ is ∷ []) (words ++ more)
whys_append s o g y [] is words more e w = (more, [], w, refl, ap (λ (x : List ℕ). x ++ more) e ∙ sym (append-nil more))
whys_append s o g y (c ∷ cs) is words more (u, v, h, t, e) w = (u, v ++ more, h, whys_append s o g y cs is v more t w, ap (λ (x : List ℕ). x ++ more) e ∙ append_assoc u v more)

-- what is told of a choice more
pub whys_more : (s : Source) (o : Options) (g : Listed) (y : Memory) (xs : List (Vec ℕ Global)) (i : ℕ) (x : Vec ℕ Global) (old more new : List ℕ) → i < length xs → x ≡ get_or xs i x
    → AreWhys s o g y (map (λ c. c.items) (take i xs)) old → IsWhyOf s o g y x.items more → new ≡ old ++ more → AreWhys s o g y (map (λ c. c.items) (take (i + 1) xs)) new
whys_more s o g y xs i x old more new within read t w n =
    let items : Vec ℕ Global → List ℕ = λ c. c.items in
    let one : map items (take (i + 1) xs) ≡ map items (take i xs) ++ items x ∷ [] = map_more items xs i x within ∙ ap (λ (z : Vec ℕ Global). map items (take i xs) ++ items z ∷ []) (sym read) in
    let grown : AreWhys s o g y (map items (take i xs) ++ items x ∷ []) new = subst (λ (z : List ℕ). AreWhys s o g y (map items (take i xs) ++ items x ∷ []) z) (sym n) (whys_append s o g y (map items (take i xs)) x.items old more t w) in
    subst (λ (cs : List (List ℕ)). AreWhys s o g y cs new) (sym one) grown
