-- What a claim of the row after says, whose changed bits are sets of their own.
use Rattle.std.proofs.Common.{◌≡◌, ℕ, zero, suc, ◌+◌, ◌<◌, Bool, true, false, cond, ◌&&◌, ◌||◌, T, ltb, ◌⊎◌, ◌↔◌, List, [], ◌∷◌, length, map, sym, refl, ap, ◌∙◌, subst, inl, inr, arith, ltb→lt}
use native.Mathlib.Decide.{dec_lt}
use Rattle.words.specs.Words.{Sets, Word, bit, sets}
use Rattle.claims.specs.Claims.{has, put, C, Holds, within}
use Rattle.claims.proofs.FrontLaws.{both_passed}
use Rattle.claims.proofs.PlacesLaws.{put_same, put_other}
use Rattle.translation.proofs.Families.{Family, family_put}
use Rattle.translation.proofs.Opened.{within_holds}
use Rattle.rows.specs.declared.rule.Layout.{Layout}
use Rattle.rows.specs.Rules.{Line}
use Rattle.rows.specs.Rows.{step}
use Rattle.rows.specs.RowClaims.{below, same_number, Gives}
use Rattle.rows.specs.Faults.{lines_ok, member, unchanged, all_below, after_number, some_row, after_step, groups, next_claim}
use Rattle.rows.proofs.Bools.{not_true}
use Rattle.rows.proofs.StepLaws.{as_long, sets_below, sets_end}
use Rattle.rows.proofs.AfterLaws.{Has, has_or_not, after_says, unchanged_bits}

pub passed_true : (b : Bool) → T b → b ≡ true
passed_true true h = refl
passed_true false h = absurd h

-- the places whose module has bit j
abbrev marks : ℕ → Word → List Bool
marks j w = map (bit j) w

pub has_marks : (j : ℕ) (w : Word) (i : ℕ) → has (marks j w) i ≡ sets w j i
has_marks j [] i = refl
has_marks j (a ∷ w) zero = refl
has_marks j (a ∷ w) (suc i) = has_marks j w i

-- bits js of a row u put for the sets from b + 1 on
abbrev put_row : ℕ → List ℕ → Word → Sets → Sets
put_row b [] u v = v
put_row b (k ∷ js) u v = put_row b js u (put v (suc b + k) (marks k u))

put_row_family : (b : ℕ) (js : List ℕ) (u : Word) (v : Sets) → Family v → Family (put_row b js u v)
put_row_family b [] u v f = f
put_row_family b (k ∷ js) u v f = put_row_family b js u (put v (suc b + k) (marks k u)) (family_put v (suc b + k) (marks k u) f)

put_row_other : (b : ℕ) (js : List ℕ) (u : Word) (v : Sets) (y i : ℕ) → ((j : ℕ) → Has j js → y ≡ suc b + j → ⊥) → put_row b js u v y i ≡ v y i
put_row_other b [] u v y i h = refl
put_row_other b (k ∷ js) u v y i h =
    put_row_other b js u (put v (suc b + k) (marks k u)) y i (λ j l. h j (inr l)) ∙ put_other v (suc b + k) (marks k u) y i (h k (inl refl))

put_row_same : (b : ℕ) (js : List ℕ) (u : Word) (v : Sets) (j i : ℕ) → Has j js → put_row b js u v (suc b + j) i ≡ sets u j i
put_row_same b [] u v j i h = absurd h
put_row_same b (k ∷ js) u v j i h = at (has_or_not js j) (λ l. put_row_same b js u (put v (suc b + k) (marks k u)) j i l) h
  where
    at : (Has j js × (member js j ≡ true)) ⊎ ((Has j js → ⊥) × (member js j ≡ false)) → (Has j js → put_row b js u (put v (suc b + k) (marks k u)) (suc b + j) i ≡ sets u j i) → Has j (k ∷ js) → put_row b (k ∷ js) u v (suc b + j) i ≡ sets u j i
    at (inl l) part h = part l.0
    at (inr l) part (inr h) = absurd (l.0 h)
    at (inr l) part (inl e) =
        put_row_other b js u (put v (suc b + k) (marks k u)) (suc b + j) i (λ m s q. l.0 (let f : j ≡ m = omega arith in subst (λ z. Has z js) (sym f) s))
        ∙ (subst (λ z. put v (suc b + k) (marks k u) (suc b + z) i ≡ has (marks k u) i) (sym e) (put_same v (suc b + k) (marks k u) i)
        ∙ (has_marks k u i ∙ ap (λ z. sets u z i) (sym e)))

-- further sets within set b, one for each of js, make c hold
record Chosen (b : ℕ) (js : List ℕ) (c : C) (v : Sets) : Type 0 where
  chosen : Sets
  family : Family chosen
  kept : (y i : ℕ) → ((j : ℕ) → Has j js → y ≡ suc b + j → ⊥) → chosen y i ≡ v y i
  inner : (j i : ℕ) → Has j js → chosen (suc b + j) i ≡ true → v b i ≡ true
  holds : Holds c chosen

some_row_to : (b : ℕ) (js : List ℕ) (c : C) (v : Sets) → Family v → Holds (some_row b js c) v → Chosen b js c v
some_row_to b [] c v f h = record { chosen = v; family = f; kept = λ y i l. refl; inner = λ j i l e. absurd l; holds = h }
some_row_to b (n ∷ js) c v f h = let (u, g) = h in at u g.0 (some_row_to b js c (put v (suc b + n) u) (family_put v (suc b + n) u f) g.1)
  where
    at : (u : List Bool) → Holds (within (suc b + n) b) (put v (suc b + n) u) → Chosen b js c (put v (suc b + n) u) → Chosen b (n ∷ js) c v
    at u inn r = record { chosen = r.chosen; family = r.family; kept = kept; inner = λ j i l e. inner j i (has_or_not js j) l e; holds = r.holds }
      where
        row_kept : (i : ℕ) → put v (suc b + n) u b i ≡ v b i
        row_kept i = put_other v (suc b + n) u b i (λ e. omega arith)

        kept : (y i : ℕ) → ((j : ℕ) → Has j (n ∷ js) → y ≡ suc b + j → ⊥) → r.chosen y i ≡ v y i
        kept y i h = r.kept y i (λ j l. h j (inr l)) ∙ put_other v (suc b + n) u y i (h n (inl refl))

        inner : (j i : ℕ) → (Has j js × (member js j ≡ true)) ⊎ ((Has j js → ⊥) × (member js j ≡ false)) → Has j (n ∷ js) → r.chosen (suc b + j) i ≡ true → v b i ≡ true
        inner j i (inl s) l e = sym (row_kept i) ∙ r.inner j i s.0 e
        inner j i (inr s) (inr l) e = absurd (s.0 l)
        inner j i (inr s) (inl q) e =
            let t : r.chosen (suc b + n) i ≡ true = subst (λ z. r.chosen (suc b + z) i ≡ true) q e in
            sym (row_kept i) ∙ (within_holds (suc b + n) b (put v (suc b + n) u)).0 inn i (sym (r.kept (suc b + n) i (λ k m f. s.0 (let z : j ≡ k = omega arith in subst (λ z. Has z js) (sym z) m))) ∙ t)

some_row_from : (b : ℕ) (js : List ℕ) (c : C) (u : Word) (v : Sets) → ((j i : ℕ) → sets u j i ≡ true → v b i ≡ true) → Holds c (put_row b js u v) → Holds (some_row b js c) v
some_row_from b [] c u v inn h = h
some_row_from b (n ∷ js) c u v inn h = (
  marks n u,
  (
    (within_holds (suc b + n) b (put v (suc b + n) (marks n u))).1 (λ i e. row_kept i ∙ inn n i (sym (put_same v (suc b + n) (marks n u) i ∙ has_marks n u i) ∙ e)),
    some_row_from b js c u (put v (suc b + n) (marks n u)) (λ j i e. row_kept i ∙ inn j i e) h,
  ),
)
  where
    row_kept : (i : ℕ) → put v (suc b + n) (marks n u) b i ≡ v b i
    row_kept i = put_other v (suc b + n) (marks n u) b i (λ e. omega arith)

-- a bit of a module, of which the sets tell how it is after the step: it is one of js, or no line changes it
abbrev pub known : ℕ → List ℕ → List Line → ℕ → Bool
known b js R j = ltb j b && (member js j || unchanged R j)

module _ (b : ℕ) (js : List ℕ) (R : List Line) (bits_below : T (all_below b js)) where
  pub number_changed : (j : ℕ) → Has j js → after_number b js j ≡ suc b + j
  number_changed j h = elim (has_or_not js j) [ inl p ↦ subst (λ t. cond t (suc b + j) j ≡ suc b + j) (sym p.1) refl | inr p ↦ absurd (p.0 h) ]

  pub number_same : (j : ℕ) → member js j ≡ false → after_number b js j ≡ j
  number_same j e = subst (λ t. cond t (suc b + j) j ≡ j) (sym e) refl

  module _ (s : Layout) (w : Word) where
    -- a family that has row w, and the changed bits of the row after, has the row after
    module _ (z : Sets) (g : Gives b (below b) same_number z w) (right : (j : ℕ) → Has j js → (i : ℕ) → i < length w → z (after_number b js j) i ≡ sets (step s b R w) j i) (inn : (j i : ℕ) → Has j js → z (suc b + j) i ≡ true → z b i ≡ true) where
      changed_bit : (j i : ℕ) → Has j js → z (after_number b js j) i ≡ sets (step s b R w) j i
      changed_bit j i h = elim (dec_lt i (length w)) [
        | yes l ↦ right j h i l
        | no l ↦
            not_true (z (after_number b js j) i) (λ e. (let p = (g.places i).0 (inn j i h (subst (λ q. z q i ≡ true) (number_changed j h) e)) in omega arith))
            ∙ sym (sets_end (step s b R w) j i (let e = as_long s b R w in omega arith))
      ]

      same_bit : (j i : ℕ) → T (ltb j b) → member js j ≡ false → unchanged R j ≡ true → z (after_number b js j) i ≡ sets (step s b R w) j i
      same_bit j i l m u = ap (λ q. z q i) (number_same j m) ∙ (g.bits j i l ∙ elim (dec_lt i (length w)) [
        | yes g ↦ sym (unchanged_bits s b R w j i l u g)
        | no g ↦ sets_end w j i (omega arith) ∙ sym (sets_end (step s b R w) j i (let e = as_long s b R w in omega arith))
      ])

      bit_is : (j i : ℕ) → T (known b js R j) → z (after_number b js j) i ≡ sets (step s b R w) j i
      bit_is j i t =
          let (l, k) = both_passed (ltb j b) (member js j || unchanged R j) t in
          elim (has_or_not js j) [
            | inl p ↦ changed_bit j i p.0
            | inr p ↦ same_bit j i l p.1 (passed_true (unchanged R j) (subst (λ q. T (q || unchanged R j)) p.1 k))
          ]

      after_gives : Gives b (known b js R) (after_number b js) z (step s b R w)
      after_gives = record {
        places = λ i. (let a = as_long s b R w in (λ e. (let z = (g.places i).0 e in omega arith), λ l. (g.places i).1 (omega arith)));
        bits = bit_is;
      }

    -- A claim tells in each family of sets that has row w and the row after it whether Q. Then of the row after it tells in each family that has row w whether Q.
    module _ (hr : T (lines_ok (below b) R)) (v : Sets) (f : Family v) (g : Gives b (below b) same_number v w) (X : C) (Q : Type 0) (says : (z : Sets) → Family z → Gives b (below b) same_number z w → Gives b (known b js R) (after_number b js) z (step s b R w) → Holds X z ↔ Q) where
      next_to : Holds (next_claim s b js R X) v → Q
      next_to h = at (some_row_to b js (after_step s b (after_number b js) R (groups js) X) v f h)
        where
          at : Chosen b js (after_step s b (after_number b js) R (groups js) X) v → Q
          at r =
              let low : (y i : ℕ) → y < suc b → r.chosen y i ≡ v y i = λ y i l. r.kept y i (λ k m f. omega arith) in
              let gz : Gives b (below b) same_number r.chosen w = record {
                places = λ i. (λ e. (g.places i).0 (sym (low b i (omega arith)) ∙ e), λ l. low b i (omega arith) ∙ (g.places i).1 l);
                bits = λ j i l. low j i (let z = ltb→lt j b l in omega arith) ∙ g.bits j i l;
              } in
              let a = (after_says s b (after_number b js) r.chosen w gz R hr js X bits_below).0 r.holds in
              (says r.chosen r.family gz (after_gives r.chosen gz a.0 (λ j i h e. low b i (omega arith) ∙ r.inner j i h e))).0 a.1

      abbrev z : Sets
      z = put_row b js (step s b R w) v

      next_from : Q → Holds (next_claim s b js R X) v
      next_from q =
          some_row_from b js (after_step s b (after_number b js) R (groups js) X) (step s b R w) v (λ j i e. (g.places i).1 (in_row j i e))
          ((after_says s b (after_number b js) z w gz R hr js X bits_below).1
          (λ j h i l. right j h i, (says z (put_row_family b js (step s b R w) v f) gz (after_gives z gz (λ j h i l. right j h i) inn)).1 q))
        where
          in_row : (j i : ℕ) → sets (step s b R w) j i ≡ true → i < length w
          in_row j i e = let l = sets_below (step s b R w) j i e in let e = as_long s b R w in omega arith

          low : (y i : ℕ) → y < suc b → z y i ≡ v y i
          low y i l = put_row_other b js (step s b R w) v y i (λ j s e. omega arith)

          gz : Gives b (below b) same_number z w
          gz = record {
            places = λ i. (λ e. (g.places i).0 (sym (low b i (omega arith)) ∙ e), λ l. low b i (omega arith) ∙ (g.places i).1 l);
            bits = λ j i l. low j i (let m = ltb→lt j b l in omega arith) ∙ g.bits j i l;
          }

          right : (j : ℕ) → Has j js → (i : ℕ) → z (after_number b js j) i ≡ sets (step s b R w) j i
          right j h i = ap (λ q. z q i) (number_changed j h) ∙ put_row_same b js (step s b R w) v j i h

          inn : (j i : ℕ) → Has j js → z (suc b + j) i ≡ true → z b i ≡ true
          inn j i h e = (gz.places i).1 (in_row j i (sym (put_row_same b js (step s b R w) v j i h) ∙ e))

      pub next_says : Holds (next_claim s b js R X) v ↔ Q
      next_says = (next_to, next_from)
