-- Rows module by module: the first module and the rest.
use Rattle.std.proofs.Common.{◌≡◌, ℕ, zero, suc, ◌+◌, ◌-◌, ◌*◌, ◌^◌, ◌<◌, ◌≤◌, Bool, true, cond, ◌↔◌, List, [], ◌∷◌, ◌++◌, append_assoc, length, get_or, take, drop, sym, refl, ap, ◌∙◌, subst, pow-suc, arith}
use mathlib.Core.Path.{fun_ext}
use Rattle.std.proofs.lemmas.List.{take_rest}
use Rattle.std.proofs.Math.Option.{Option, some}
use Rattle.words.specs.Words.{Word}
use Rattle.rows.specs.Views.{View, seen, front, last}
use Rattle.rows.specs.Rules.{Line, bit_after}
use Rattle.rows.specs.Rows.{EachBetween, pack, step_between}
use Rattle.simulate.specs.Seen.{packed}

pub pow_pred : (n m : ℕ) → (n ≡ 0 → ⊥) → m < 2 ^ (n - 1) → 1 + 2 * m < 2 ^ n
pow_pred zero m h l = absurd (h refl)
pow_pred (suc n) m h l = let e : suc n - 1 ≡ n = omega arith in let k : m < 2 ^ n = subst (λ t. m < 2 ^ t) e l in omega (arith, pow-suc 2 n)

packed_is : (n : ℕ) (f : ℕ → Bool) (j : ℕ) → packed n f j ≡ pack n (λ i. f (j + i))
packed_is zero f j = refl
packed_is (suc n) f j =
    let e : j + 0 ≡ j = omega arith in
    ap (λ t. cond (f j) 1 0 + 2 * t) (packed_is n f (suc j) ∙ ap (λ g. pack n g) (fun_ext (λ i. (let q : suc j + i ≡ j + suc i = omega arith in ap f q))))
    ∙ ap (λ t. cond (f t) 1 0 + 2 * pack n (λ i. f (j + suc i))) (sym e)

pub packed_all : (n : ℕ) (f : ℕ → Bool) → packed n f 0 ≡ pack n f
packed_all n f = packed_is n f 0 ∙ ap (λ g. pack n g) (fun_ext (λ i. (let q : 0 + i ≡ i = omega arith in ap f q)))

-- the rest of a row behind its first module
abbrev pub behind : Word → Word
behind w = take (length w - 1) (drop 1 w)

pub each_first : (P : View → Bool) (l : Option ℕ) (w : Word) (r : Option ℕ) (a : ℕ) → 1 ≤ length w → a ≡ get_or w 0 0 → P (seen l a (front (behind w) r)) ≡ true → EachBetween P (some a) (behind w) r ↔ EachBetween P l w r
each_first P l [] r a h e t = let z : ⊥ = omega arith in absurd z
each_first P l (c ∷ w) r a h e t =
    let d = take_rest (c ∷ w) 1 in
    let q : EachBetween P (some a) w r ↔ EachBetween P l (c ∷ w) r = subst (λ z. EachBetween P (some z) w r ↔ EachBetween P l (c ∷ w) r) (sym e) (λ h. (subst (λ z. P (seen l z (front w r)) ≡ true) e (subst (λ z. P (seen l a (front z r)) ≡ true) d t), h), λ h. h.1) in
    subst (λ z. EachBetween P (some a) z r ↔ EachBetween P l (c ∷ w) r) (sym d) q

pub step_first : (b : ℕ) (R : List Line) (l : Option ℕ) (w : Word) (r : Option ℕ) (a : ℕ) → 1 ≤ length w → a ≡ get_or w 0 0 → step_between b R l w r ≡ pack b (bit_after R (seen l a (front (behind w) r))) ∷ step_between b R (some a) (behind w) r
step_first b R l [] r a h e = let z : ⊥ = omega arith in absurd z
step_first b R l (c ∷ w) r a h e =
    let d = take_rest (c ∷ w) 1 in
    subst (λ z. step_between b R l (c ∷ w) r ≡ pack b (bit_after R (seen l a (front z r))) ∷ step_between b R (some a) z r) (sym d)
    (subst (λ z. step_between b R l (c ∷ w) r ≡ pack b (bit_after R (seen l z (front w r))) ∷ step_between b R (some z) w r) (sym e) refl)

-- the module that is pushed is the first one after the step, where n stands on its right
pub step_pushed : (b : ℕ) (R : List Line) (l r n : Option ℕ) (w : Word) (m : ℕ) (old new : List ℕ) → 1 ≤ length w → n ≡ front (behind w) r → m ≡ packed b (bit_after R (seen l (get_or w 0 0) n)) 0 → new ≡ old ++ (m ∷ []) →
    old ++ step_between b R l w r ≡ new ++ step_between b R (some (get_or w 0 0)) (behind w) r
step_pushed b R l r n w m old new h e f g =
    let p : m ≡ pack b (bit_after R (seen l (get_or w 0 0) (front (behind w) r))) = f ∙ (packed_all b (bit_after R (seen l (get_or w 0 0) n)) ∙ ap (λ t. pack b (bit_after R (seen l (get_or w 0 0) t))) e) in
    let rest = step_between b R (some (get_or w 0 0)) (behind w) r in
    ap (λ t. old ++ t) (step_first b R l w r (get_or w 0 0) h refl ∙ ap (λ t. t ∷ rest) (sym p)) ∙ (sym (append_assoc old (m ∷ []) rest) ∙ ap (λ t. t ++ rest) (sym g))

-- the last module of a row is the last one of what is behind its first
pub last_behind : (l : Option ℕ) (w : Word) → 1 ≤ length w → last (some (get_or w 0 0)) (behind w) ≡ last l w
last_behind l [] h = let z : ⊥ = omega arith in absurd z
last_behind l (a ∷ w) h = ap (last (some a)) (take_rest (a ∷ w) 1)
