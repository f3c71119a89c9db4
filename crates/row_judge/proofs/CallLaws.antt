-- The claims that are made of a row claim, asked of the call: both fit into so many classes or neither does, both ask for no more work words than the longer.
use Rattle.std.proofs.Common.{◌≡◌, ℕ, suc, ◌+◌, ◌*◌, ◌^◌, ◌<◌, ◌≤◌, T, leb, ◌⊎◌, List, ◌∷◌, length, sym, refl, ◌∙◌, subst, inl, inr, arith, le→leb, length-append}
use Rattle.words.specs.Words.{Word}
use Rattle.words.specs.Languages.{SameLeft}
use Rattle.claims.specs.Claims.{C, Of, not1, and1}
use Rattle.claims.specs.Sizes.{Fits, Top}
use Rattle.claims.specs.Rows.{row, ok, Claim}
use Rattle.claims.proofs.FrontLaws.{pass_both}
use Rattle.automata.proofs.Told.{told}
use Rattle.narrowing.specs.Mentioned.{widest}
use Rattle.workspace.specs.Floor.{Width, floor_words}
use Rattle.workspace.proofs.FloorLaws.{one_width}
use Rattle.rows.specs.RowClaims.{is_row}
use Rattle.row_claims.specs.Meaning.{RowClaim}
use Rattle.row_claims.specs.Reading.{row_ok, further, further_sets, row_with, row_without}
use Rattle.row_claims.specs.Bytes.{SaysRow}
use Rattle.row_claims.proofs.FrontLaws.{opened}
use Rattle.row_claims.proofs.Told.{further_in}
use Rattle.row_judge.specs.Made.{Asked, bytes_of}
use Rattle.row_judge.specs.Finding.{Enough}
use Rattle.row_judge.specs.declared.made.Rows.TheVariants.{With, Without}

-- what is left of a claim's opposite tells words apart as what is left of the claim does
same_not : (k : ℕ) (c : C) (u v : Word) → SameLeft k (Of c) u v → SameLeft k (Of (not1 c)) u v
same_not k c u v s x h = (λ n m. n ((s x h).1 m), λ n m. n ((s x h).0 m))

same_claim : (k : ℕ) (c : C) (u v : Word) → SameLeft k (Of (not1 c)) u v → SameLeft k (Of c) u v
same_claim k c u v s x h = (λ m. back _ (told c _) (λ n. (s x h).1 n m), λ m. back _ (told c _) (λ n. (s x h).0 n m))
  where
    back : (A : Type 0) → A ⊎ (A → ⊥) → ((A → ⊥) → ⊥) → A
    back A (inl a) n = a
    back A (inr f) n = absurd (n f)

module _ (k n : ℕ) (a c : C) where
  top_not : Top k n (and1 a c) → Top k n (and1 a (not1 c))
  top_not (ws, t, l) = (
    ws,
    record {
      columns = t.columns;
      differ = λ i j u v p q e. t.differ i j u v p q (e.0, same_claim k c u v e.1);
      all = λ w h. (let (i, u, e, s) = t.all w h in (i, u, e, (s.0, same_not k c u w s.1)));
    },
    l,
  )

  top_claim : Top k n (and1 a (not1 c)) → Top k n (and1 a c)
  top_claim (ws, t, l) = (
    ws,
    record {
      columns = t.columns;
      differ = λ i j u v p q e. t.differ i j u v p q (e.0, same_not k c u v e.1);
      all = λ w h. (let (i, u, e, s) = t.all w h in (i, u, e, (s.0, same_claim k c u w s.1)));
    },
    l,
  )

  pub fits_not : Fits k n (and1 a c) → Fits k n (and1 a (not1 c))
  fits_not f = (f.0, f.1, top_not f.2)

  pub fits_claim : Fits k n (and1 a (not1 c)) → Fits k n (and1 a c)
  fits_claim f = (f.0, f.1, top_claim f.2)

-- what the bytes of a row claim say of its numbers
pub record Numbers (s : List ℕ) (k : ℕ) (c : RowClaim) : Type 0 where
  pub low : 1 ≤ k
  pub high : k ≤ 12
  pub sets : T (row_ok k c)
  pub above : k < further_sets k

above_it : (k : ℕ) → k < further_sets k
above_it k = omega arith

pub numbers : (s : List ℕ) (k : ℕ) (c : RowClaim) → SaysRow s k c → Numbers s k c
numbers s k c f = let (o, g) = opened s k c f in record { low = o.low; high = o.high; sets = g.fine; above = above_it k }

-- a claim for the call
claim_from : (m : ℕ) (d : C) → 1 ≤ m → m ≤ 12 → length (m ∷ row d) ≤ 1024 → T (ok m d) → Claim (m ∷ row d) m d
claim_from m d a b l o = record {
  rows = refl;
  fine = pass_both (leb 1 m) _ (le→leb 1 m a) (pass_both (leb m 12) _ (le→leb m 12 b) (pass_both (leb (length (m ∷ row d)) 1024) (ok m d) (le→leb (length (m ∷ row d)) 1024 l) o));
}

-- the claim for the rows of which it holds is a byte shorter
pub shorter_with : (k : ℕ) (c : RowClaim) → length (bytes_of Without k c) ≡ suc (length (bytes_of With k c))
shorter_with k c = omega (arith, length-append (row (is_row k)) (row (further k c)), length-append (row (is_row k)) (4 ∷ row (further k c)))

module _ (s : List ℕ) (k : ℕ) (c : RowClaim) (a : Asked s k c) where
  nums : Numbers s k c
  nums = numbers s k c a.says

  pub with_claim : Claim (bytes_of With k c) (further_sets k) (row_with k c)
  with_claim =
      let f = further_in k c nums.low nums.sets in
      claim_from (further_sets k) (row_with k c) (omega (arith, nums.above)) a.few_sets (omega (arith, a.few_bytes, shorter_with k c)) f.1

  pub without_claim : Claim (bytes_of Without k c) (further_sets k) (row_without k c)
  without_claim =
      let f = further_in k c nums.low nums.sets in
      claim_from (further_sets k) (row_without k c) (omega (arith, nums.above)) a.few_sets a.few_bytes f.2

  -- neither part of the one mentions more sets than a part of the other
  same_widest : widest (further_sets k) (row_with k c) ≡ widest (further_sets k) (row_without k c)
  same_widest = refl

  -- what suffices for the longer suffices for the shorter
  pub enough_with : (n w v : ℕ) → Width (bytes_of Without k c) v → floor_words v (bytes_of Without k c) n ≤ w → Enough (bytes_of With k c) n w
  enough_with n w v x h u y =
      let e : u ≡ v = y.of_claim (further_sets k) (row_with k c) with_claim ∙ (same_widest ∙ sym (x.of_claim (further_sets k) (row_without k c) without_claim)) in
      subst (λ u. floor_words u (bytes_of With k c) n ≤ w) (sym e) (less (length (bytes_of With k c)) (length (bytes_of Without k c)) ((n + 1) * (16 * 2 ^ v + (256 + n))) (shorter_with k c) h)
    where
      less : (a b p : ℕ) → b ≡ suc a → 8192 + (64 * b + p) ≤ w → 8192 + (64 * a + p) ≤ w
      less a b p e l = omega arith

  pub enough_without : (n w v : ℕ) → Width (bytes_of Without k c) v → floor_words v (bytes_of Without k c) n ≤ w → Enough (bytes_of Without k c) n w
  enough_without n w v x h u y = subst (λ u. floor_words u (bytes_of Without k c) n ≤ w) (one_width (bytes_of Without k c) v u x y) h
