-- Claims that say a truth value.
use Rattle.std.proofs.Common.{◌≡◌, ℕ, Bool, true, false, not, ◌&&◌, ◌↔◌, sym, refl, subst}
use Rattle.words.specs.Words.{Sets}
use Rattle.claims.specs.Claims.{C, Holds, within, not1, and1}
use Rattle.kinds.specs.Relations.{Only}
use Rattle.translation.proofs.Opened.{within_holds}
use Rattle.rows.proofs.Bools.{bool_apart}

-- a claim says a truth value
abbrev pub Says : C → Sets → Bool → Type 0
Says c v b = Holds c v ↔ (b ≡ true)

pub says_not : (c : C) (v : Sets) (b : Bool) → Says c v b → Says (not1 c) v (not b)
says_not c v true s = (λ h. absurd (h (s.1 refl)), λ e. bool_apart e refl)
says_not c v false s = (λ h. refl, λ e h. bool_apart (s.0 h) refl)

pub says_and : (c d : C) (v : Sets) (a b : Bool) → Says c v a → Says d v b → Says (and1 c d) v (a && b)
says_and c d v true b s t = (λ h. t.0 h.1, λ e. (s.1 refl, t.1 e))
says_and c d v false b s t = (λ h. s.0 h.0, λ e. bool_apart e refl)

pub says_within : (x y : ℕ) (v : Sets) (i : ℕ) → Only v x i → Says (within x y) v (v y i)
says_within x y v i o = let l = within_holds x y v in (λ h. l.0 h i o.0, λ e. l.1 (λ j g. subst (λ z. v y z ≡ true) (sym (o.1 j g)) e))
