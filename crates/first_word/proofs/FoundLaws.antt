-- From what the judge says of a claim to what is found of it.
use Rattle.std.proofs.Common.{◌≡◌, ℕ, ◌*◌, ◌<◌, ◌≤◌, ◌⊎◌, List, [], ◌∷◌, length, refl, subst, inl, inr, arith}
use Rattle.words.specs.Words.{Word, Columns}
use Rattle.words.specs.Order.{Less, shorter}
use Rattle.words.proofs.OrderLaws.{leq_less}
use Rattle.claims.specs.Claims.{C, Of}
use Rattle.claims.specs.Rows.{IsClaim}
use Rattle.workspace.specs.Floor.{Width, floor_words}
use Rattle.workspace.proofs.FloorLaws.{one_width}
use Rattle.lengths.specs.Answer.{First}
use Rattle.lengths.specs.Says.{JudgedSays, JudgedPost}
use Rattle.lengths.specs.declared.judged.Judged.{Judged}
use Rattle.lengths.specs.declared.judged.Judged.TheVariants.{NoClaim, OutFull, Few}
use Rattle.first_word.proofs.ShortLaws.{short_both}

none_before : (u : Word) → Less u [] → ⊥
none_before [] h = leq_less [] [] (inl refl) h
none_before (a ∷ u) h = leq_less [] (a ∷ u) (inr (shorter (omega arith))) h

-- where a claim always holds, it holds first of the empty word
pub first_empty : (k : ℕ) (c : C) → ((w : Word) → Columns k w → Of c w) → First k c []
first_empty k c all = record { columns = tt; holds = all [] tt; first = λ u h l m. none_before u l }

-- with memory and room enough, bytes that are a claim get an answer
pub answered : (s : List ℕ) (n : ℕ) (o o' : List ℕ) (w : ℕ) (r : Judged) → JudgedPost s n o o' w r → IsClaim s → (v : ℕ) → Width s v → floor_words v s n ≤ w → 2 * n ≤ length o →
    (r ≡ NoClaim) ⊎ (((x : ℕ) × (y : ℕ) × (r ≡ OutFull x y)) ⊎ (r ≡ Few)) → ⊥
answered s n o o' w r post claim v width memory room (inl e) =
    let (k, c, t) = claim in
    (subst (JudgedSays s n o o') e post.says).0 k c t
answered s n o o' w r post claim v width memory room (inr (inl (x, y, e))) =
    let (k, c, t) = claim in
    let says = (subst (JudgedSays s n o o') e post.says) k c t in
    let (u, v, f, g, a, b, full) = says.1 in
    let short = short_both k n c u v says.0 f g in
    omega arith
answered s n o o' w r post claim v width memory room (inr (inr e)) = let (u, p, few) = post.few in
    let same : u ≡ v = one_width s u v p width in
    let less : w < floor_words v s n = subst (λ u. w < floor_words u s n) same (few.1 e) in
    omega arith
