-- Choices with a number that is left out are passed over.
use Rattle.std.proofs.Common.{◌≡◌, ℕ, suc, ◌+◌, ◌<◌, ◌≤◌, List, [], ◌∷◌, ◌++◌, length, refl, sym, subst, ◌∙◌, inl, inr, arith, append_assoc, Option, Some}
use Rattle.formulas.specs.Names.{Among}
use Rattle.rule_check.specs.declared.memory.Memory.{Memory}
use Rattle.strengthening.specs.Choices.{Rising}
use Rattle.strengthening.specs.Search.{NoneExtends, Reaches}
use Rattle.strengthen.specs.Known.{Without, IsSearched, IsEnd, end_of}
use Rattle.strengthen.specs.Listed.{Below, KeptWith}
use Rattle.strengthen.specs.declared.listed.Listed.{Listed}
use Rattle.strengthen.specs.declared.search.Stop.{Stop}

pub rising_below : (a n : ℕ) (ks : List ℕ) → Rising a n ks → Below n ks
rising_below a n [] h = tt
rising_below a n (i ∷ ks) h = (h.1, rising_below (i + 1) n ks h.2)

below_both : (n : ℕ) (is ks : List ℕ) → Below n is → Below n ks → Below n (is ++ ks)
below_both n [] ks h k = k
below_both n (i ∷ is) ks h k = (h.0, below_both n is ks h.1 k)

among_in : (is ks : List ℕ) (i : ℕ) → Among i (is ++ (i ∷ ks))
among_in [] ks i = inl refl
among_in (x ∷ is) ks i = inr (among_in is ks i)

pub passed_over : (g : Listed) (m c : ℕ) (is : List ℕ) → Below (length g.helpers.now) is → c < length g.helpers.now → Without g (suc c) → NoneExtends (KeptWith g) (c + 1) (length g.helpers.now) m (is ++ (c ∷ []))
passed_over g m c is h l none js (ks, e, r, s) kept =
    let f : js ≡ is ++ (c ∷ ks) = e ∙ append_assoc is (c ∷ []) ks in
    none js (subst (Below (length g.helpers.now)) (sym f) (below_both (length g.helpers.now) is (c ∷ ks) h (l, rising_below (c + 1) (length g.helpers.now) ks r))) (subst (λ z. Among c z) (sym f) (among_in is ks c)) kept

-- where a search ends
pub of_some : (g : Listed) (y : Memory) (a m : ℕ) (is : List ℕ) (o : Option Stop) (s : Stop) → o ≡ Some s → IsSearched g y a m is o → Reaches (KeptWith g) a (length g.helpers.now) m is (end_of s) × IsEnd g y s
of_some g y a m is o s e h = subst (IsSearched g y a m is) e h
