-- One token more, and the gap behind it.
use Rattle.std.proofs.Common.{◌≡◌, ℕ, ◌+◌, ◌-◌, ◌<◌, ◌≤◌, IsTrue, List, [], ◌∷◌, ◌++◌, length, take, drop, sym, subst, arith}
use Rattle.tokens.specs.declared.token.Token.{Token}
use Rattle.std.specs.Prelude.{slice_range}
use Rattle.std.proofs.lemmas.List.{take_rest}
use Rattle.tokens.specs.declared.kind.Kind.{Kind}
use Rattle.tokens.specs.Gaps.{is_gap}
use Rattle.tokens.specs.Spelling.{Spells}
use Rattle.tokens.specs.Covering.{Covers}

pub covers_push : (text : List ℕ) (a : ℕ) (ts : List Token) (t : Token) (g : ℕ) → Covers text a ts t.span.start → t.span.start < t.span.end → Spells t.kind (slice_range text t.span.start t.span.end) → t.span.end + g ≤ length text → IsTrue (is_gap (take g (drop t.span.end text))) → Covers text a (ts ++ t ∷ []) (t.span.end + g)
covers_push text a [] t g h lt spells within gap =
    let k : t.span.end + g - t.span.end ≡ g = omega arith in
    (h.0, h.2, lt, spells, (omega arith, within, subst (λ (n : ℕ). IsTrue (is_gap (take n (drop t.span.end text)))) (sym k) gap))
covers_push text a (u ∷ ts) t g h lt spells within gap = (h.0, h.1, h.2, h.3, covers_push text u.span.end ts t g h.4 lt spells within gap)

-- the bytes at the front of what is left of a text, as a part of the text
pub spells_of : (k : Kind) (s : List ℕ) (at n : ℕ) → Spells k (take n (take (length s - at) (drop at s))) → Spells k (slice_range s at (at + n))
spells_of k s at n h =
    let e : at + n - at ≡ n = omega arith in
    subst (λ (m : ℕ). Spells k (take m (drop at s))) (sym e) (subst (λ (t : List ℕ). Spells k (take n t)) (take_rest s at) h)
