-- What two literals exclude and give, and what holds of a pattern whose first literal is taken off.
use Rattle.std.proofs.Common.{◌≡◌, ◌≢◌, ℕ, ◌-◌, ◌≤◌, Bool, true, false, not, ◌&&◌, List, [], ◌∷◌, ◌++◌, length, get_or, take, drop, refl, sym, ap, subst, ◌∙◌, arith}
use Rattle.std.proofs.lemmas.List.{take_rest}
use Rattle.std.proofs.Math.Option.{Option, some, none}
use Rattle.rows.specs.declared.rule.Side.{Side}
use Rattle.rows.specs.declared.rule.Asked.{Asked}
use Rattle.rows.specs.declared.rule.Layout.{Layout}
use Rattle.rows.specs.declared.rule.Layout.TheVariants.{Line, Ring}
use Rattle.rows.specs.declared.rule.Literal.{Literal}
use Rattle.rows.specs.declared.rule.Side.TheVariants.{Left, Own, Right}
use Rattle.rows.specs.declared.rule.Asked.TheVariants.{There}
use Rattle.rows.specs.Views.{View, shows, seen}
use Rattle.rows.specs.Patterns.{same, fits}
use Rattle.rule_source.specs.Clash.{AlwaysStands, CanStand, FitsNone, FitsWherever}

-- where no module stands, nothing is so
shows_nothing : (o : Option ℕ) (q : Asked) → shows o There ≡ false → shows o q ≡ false
shows_nothing none q h = refl
shows_nothing (some a) q h = let z : ⊥ = cc in absurd z

nothing_there : (l : Option ℕ) (a : ℕ) (r : Option ℕ) (d : Side) (q : Asked) → seen l a r d There ≡ false → seen l a r d q ≡ false
nothing_there l a r Left q h = shows_nothing l q h
nothing_there l a r Own q h = shows_nothing (some a) q h
nothing_there l a r Right q h = shows_nothing r q h

-- two tests that exclude each other
same_opposite : (s t b : Bool) → s ≢ t → same s b && (same t b && true) ≡ false
same_opposite true true b h = absurd (h refl)
same_opposite true false true h = refl
same_opposite true false false h = refl
same_opposite false true true h = refl
same_opposite false true false h = refl
same_opposite false false b h = absurd (h refl)

and_swap : (a b : Bool) → a && (b && true) ≡ b && (a && true)
and_swap true true = refl
and_swap true false = refl
and_swap false true = refl
and_swap false false = refl

pub fits_none_swap : (p q : Literal) → ((s : Layout) → FitsNone s (p ∷ q ∷ [])) → (s : Layout) → FitsNone s (q ∷ p ∷ [])
fits_none_swap p q h s = λ l a r i j. and_swap (same q.set (seen l a r q.side q.asked)) (same p.set (seen l a r p.side p.asked)) ∙ h s l a r i j

-- the same is asked to be so and not so
pub opposite_fits_none : (p q : Literal) → p.side ≡ q.side → p.asked ≡ q.asked → p.set ≢ q.set → (s : Layout) → FitsNone s (p ∷ q ∷ [])
opposite_fits_none p q d e h s = λ l a r i j.
    subst (λ (t : Side). same p.set (seen l a r p.side p.asked) && (same q.set (seen l a r t q.asked) && true) ≡ false) d
    (subst (λ (t : Asked). same p.set (seen l a r p.side p.asked) && (same q.set (seen l a r p.side t) && true) ≡ false) e
    (same_opposite p.set q.set (seen l a r p.side p.asked) h))

apart : (b c : Bool) → (b ≡ false → c ≡ false) → not b && (c && true) ≡ false
apart true c h = refl
apart false true h = h refl
apart false false h = refl

-- something is so where no module stands
pub nothing_there_fits_none : (p q : Literal) → p.side ≡ q.side → p.asked ≡ There → p.set ≡ false → q.set ≡ true → (s : Layout) → FitsNone s (p ∷ q ∷ [])
nothing_there_fits_none p q d e f g s = λ l a r i j.
    let k : not (seen l a r q.side There) && (seen l a r q.side q.asked && true) ≡ false = apart (seen l a r q.side There) (seen l a r q.side q.asked) (nothing_there l a r q.side q.asked) in
    subst (λ (t : Side). same p.set (seen l a r t p.asked) && (same q.set (seen l a r q.side q.asked) && true) ≡ false) (sym d)
    (subst (λ (t : Asked). same p.set (seen l a r q.side t) && (same q.set (seen l a r q.side q.asked) && true) ≡ false) (sym e)
    (subst (λ (t : Bool). same t (seen l a r q.side There) && (same q.set (seen l a r q.side q.asked) && true) ≡ false) (sym f)
    (subst (λ (t : Bool). same false (seen l a r q.side There) && (same t (seen l a r q.side q.asked) && true) ≡ false) (sym g) k)))

-- the rest of a list behind its first
abbrev pub behind : List Literal → List Literal
behind ps = take (length ps - 1) (drop 1 ps)

and_then : (a b c d : Bool) → b ≡ c && d → a && b ≡ (a && c) && d
and_then true b c d h = h
and_then false b c d h = refl

fits_append : (xs ys : List Literal) (s : View) → fits (xs ++ ys) s ≡ fits xs s && fits ys s
fits_append [] ys s = refl
fits_append (x ∷ xs) ys s = and_then (same x.set (s x.side x.asked)) (fits (xs ++ ys) s) (fits xs s) (fits ys s) (fits_append xs ys s)

and_between : (a b c : Bool) → a && (c && true) ≡ false → a && (b && (c && true)) ≡ false
and_between true true c h = h
and_between true false c h = refl
and_between false b c h = refl

and_false : (a b : Bool) → b ≡ false → a && b ≡ false
and_false true b h = h
and_false false b h = refl

and_both : (a b : Bool) → a && true ≡ true → b ≡ true → a && b ≡ true
and_both true b h k = k
and_both false b h k = h

-- the first literal and another exclude each other
pub excludes_first : (s : Layout) (ps : List Literal) (d p : Literal) → 1 ≤ length ps → FitsNone s (get_or ps 0 d ∷ p ∷ []) → FitsNone s (ps ++ p ∷ [])
excludes_first s [] d p h f = let z : ⊥ = omega arith in absurd z
excludes_first s (q ∷ ps) d p h f = λ l a r i j.
    let v : View = seen l a r in
    ap (λ b. same q.set (v q.side q.asked) && b) (fits_append ps (p ∷ []) v)
    ∙ and_between (same q.set (v q.side q.asked)) (fits ps v) (same p.set (v p.side p.asked)) (f l a r i j)

-- the literals behind the first and another do
pub excludes_rest : (s : Layout) (ps : List Literal) (p : Literal) → 1 ≤ length ps → FitsNone s (behind ps ++ p ∷ []) → FitsNone s (ps ++ p ∷ [])
excludes_rest s [] p h f = let z : ⊥ = omega arith in absurd z
excludes_rest s (q ∷ ps) p h f = λ l a r i j.
    and_false (same q.set (seen l a r q.side q.asked)) (fits (ps ++ p ∷ []) (seen l a r))
    (subst (λ (t : List Literal). fits (t ++ p ∷ []) (seen l a r) ≡ false) (take_rest (q ∷ ps) 1) (f l a r i j))

-- the first literal is as it says wherever a pattern fits, and so are those behind it
pub covers_first : (s : Layout) (wide narrow : List Literal) (d : Literal) → 1 ≤ length wide → FitsWherever s (get_or wide 0 d ∷ []) narrow → FitsWherever s (behind wide) narrow → FitsWherever s wide narrow
covers_first s [] narrow d h f g = let z : ⊥ = omega arith in absurd z
covers_first s (q ∷ ps) narrow d h f g = λ l a r i j t.
    and_both (same q.set (seen l a r q.side q.asked)) (fits ps (seen l a r)) (f l a r i j t)
    (subst (λ (u : List Literal). fits u (seen l a r) ≡ true) (take_rest (q ∷ ps) 1) (g l a r i j t))

-- where a module always stands: at its own place, and in a ring beside it
pub own_stands : (s : Layout) → AlwaysStands s Own
own_stands s = λ l a r i j. refl

stands_there : (o : Option ℕ) → CanStand Ring o → shows o There ≡ true
stands_there none h = absurd h
stands_there (some a) h = refl

pub ring_stands : (d : Side) → AlwaysStands Ring d
ring_stands Left = λ l a r i j. stands_there l i
ring_stands Own = λ l a r i j. refl
ring_stands Right = λ l a r i j. stands_there r j

-- there it cannot be asked that none stands, and that one does asks nothing
pub none_stands : (s : Layout) (p : Literal) → p.asked ≡ There → p.set ≡ false → AlwaysStands s p.side → FitsNone s (p ∷ [])
none_stands s p e f h = λ l a r i j.
    subst (λ (q : Asked). same p.set (seen l a r p.side q) && true ≡ false) (sym e)
    (subst (λ (t : Bool). same t (seen l a r p.side There) && true ≡ false) (sym f)
    (subst (λ (t : Bool). not t && true ≡ false) (sym (h l a r i j)) refl))

pub one_stands : (s : Layout) (p : Literal) → p.asked ≡ There → p.set ≡ true → AlwaysStands s p.side → FitsWherever s (p ∷ []) []
one_stands s p e f h = λ l a r i j t.
    subst (λ (q : Asked). same p.set (seen l a r p.side q) && true ≡ true) (sym e)
    (subst (λ (u : Bool). same u (seen l a r p.side There) && true ≡ true) (sym f)
    (subst (λ (u : Bool). u && true ≡ true) (sym (h l a r i j)) refl))

and_front : (a b : Bool) → a && b ≡ true → a && true ≡ true
and_front true b h = refl
and_front false b h = h

-- what the first literal gives, the pattern gives
pub gives_first : (s : Layout) (ps : List Literal) (d q : Literal) → 1 ≤ length ps → FitsWherever s (q ∷ []) (get_or ps 0 d ∷ []) → FitsWherever s (q ∷ []) ps
gives_first s [] d q h f = let z : ⊥ = omega arith in absurd z
gives_first s (p ∷ ps) d q h f = λ l a r i j t. f l a r i j (and_front (same p.set (seen l a r p.side p.asked)) (fits ps (seen l a r)) t)

-- in a line none may stand beside
pub left_may_be_none : (s : Layout) (d : Side) → s ≡ Line → d ≡ Left → AlwaysStands s d → ⊥
left_may_be_none s d e f h =
    let stands : AlwaysStands Line Left = subst (λ (x : Layout). AlwaysStands x Left) e (subst (λ (x : Side). AlwaysStands s x) f h) in
    let k : false ≡ true = stands none 0 none tt tt in
    cc

pub right_may_be_none : (s : Layout) (d : Side) → s ≡ Line → d ≡ Right → AlwaysStands s d → ⊥
right_may_be_none s d e f h =
    let stands : AlwaysStands Line Right = subst (λ (x : Layout). AlwaysStands x Right) e (subst (λ (x : Side). AlwaysStands s x) f h) in
    let k : false ≡ true = stands none 0 none tt tt in
    cc
