-- One word more, or none.
use Rattle.std.proofs.Common.{◌≡◌, ◌<◌, ◌≤◌, ℕ, zero, suc, ◌+◌, ◌-◌, true, false, nat_le, List, [], ◌∷◌, ◌++◌, length, take, drop, Option, Some, None, refl, sym, ap, ◌∙◌, arith, append_assoc, append-nil}
use Rattle.std.proofs.lemmas.List.{drop-drop, drop_all, length-drop, take_rest}
use Rattle.tokens.specs.declared.kind.Kind.{Kind}
use Rattle.tokens.specs.declared.token.Token.{Token}
use Rattle.tokens.specs.Gaps.{gap_len}
use Rattle.tokens.specs.Words.{Word, word, bytes_of, words}
use Rattle.tokens.proofs.ScanLaws.{none_some}
use Rattle.tokens.specs.Scan.{front, behind_gap, with_first, first_then, scan_from, scan}

-- words in front of others, if there are others
abbrev pub behind_words : List Word → Option (List Word) → Option (List Word)
behind_words ws None = None
behind_words ws (Some us) = Some (ws ++ us)

behind_none : (o : Option (List Word)) → behind_words [] o ≡ o
behind_none None = refl
behind_none (Some us) = refl

behind_more : (ws : List Word) (w : Word) (o : Option (List Word)) → behind_words ws (with_first w o) ≡ behind_words (ws ++ w ∷ []) o
behind_more ws w None = refl
behind_more ws w (Some us) = ap Some (sym (append_assoc ws (w ∷ []) us))

words_push : (text : List ℕ) (ts : List Token) (t : Token) → words text (ts ++ t ∷ []) ≡ words text ts ++ word t.kind (bytes_of text t) ∷ []
words_push text [] t = refl
words_push text (u ∷ ts) t = ap (λ ws. word u.kind (bytes_of text u) ∷ ws) (words_push text ts t)

le_true : (a b : ℕ) → a ≤ b → nat_le a b ≡ true
le_true a b h = grind arith

bytes_are : (text : List ℕ) (t : Token) (at n : ℕ) → t.span.start ≡ at → t.span.end ≡ at + n → at + n ≤ length text → bytes_of text t ≡ take n (drop at text)
bytes_are text t at n s e h =
    let first : nat_le t.span.start t.span.end ≡ true = le_true _ _ (omega (arith, s, e)) in
    let second : nat_le t.span.end (length text) ≡ true = le_true _ _ (omega (arith, e, h)) in
    let size : t.span.end - t.span.start ≡ n = omega (arith, s, e) in
    rw first (rw second (rw size (rw s refl)))

-- reading goes on behind the word that stands in front
abbrev pub Taken : ℕ → List ℕ → Kind × ℕ → Type 0
Taken k s r = (j : ℕ) × (k ≡ suc j) × (scan_from k s ≡ with_first (word r.0 (take r.1 s)) (scan_from j (behind_gap (drop r.1 s))))

taken : (k : ℕ) (s : List ℕ) (r : Kind × ℕ) → front s ≡ Some r → length s ≤ k → Taken k s r
taken k [] r f h = absurd (none_some r None refl f)
taken zero (b ∷ s) r f h = absurd (omega (arith, h))
taken (suc k) (b ∷ s) r f h = (k, refl, ap (λ o. first_then o (b ∷ s) (scan_from k)) f)

stops : (k : ℕ) (s : List ℕ) → front s ≡ None → 0 < length s → scan_from k s ≡ None
stops k [] f h = absurd (omega (arith, h))
stops zero (b ∷ s) f h = refl
stops (suc k) (b ∷ s) f h = ap (λ o. first_then o (b ∷ s) (scan_from k)) f

-- what was read, and what is left, up to a place in the text
abbrev pub Scanned : List ℕ → List Token → ℕ → Type 0
Scanned text ts at = (k : ℕ) × (length (drop at text) ≤ k) × (scan text ≡ behind_words (words text ts) (scan_from k (drop at text)))

pub scan_init : (text : List ℕ) (ts : List Token) (at : ℕ) → ts ≡ [] → at ≡ gap_len false text → Scanned text ts at
scan_init text ts at none g =
    let shorter : length (drop at text) ≤ length text = let l = length-drop at text in omega (arith, l) in
    let same : drop at text ≡ behind_gap text = ap (λ n. drop n text) g in
    (length text, shorter, sym (rw none (behind_none _ ∙ ap (scan_from (length text)) same)))

pub scan_step : (text : List ℕ) (ts : List Token) (at n g : ℕ) (t : Token) → Scanned text ts at → front (drop at text) ≡ Some (t.kind, n) → 0 < n → at + n ≤ length text → t.span.start ≡ at → t.span.end ≡ at + n → g ≡ gap_len false (drop (at + n) text) → Scanned text (ts ++ t ∷ []) (at + n + g)
scan_step text ts at n g t old f pos within s e gap =
    let next : Taken old.0 (drop at text) (t.kind, n) = taken old.0 (drop at text) (t.kind, n) f old.1 in
    let rest : drop n (drop at text) ≡ drop (at + n) text = drop-drop n at text in
    let left : behind_gap (drop n (drop at text)) ≡ drop (at + n + g) text = ap behind_gap rest ∙ ap (λ m. drop m (drop (at + n) text)) (sym gap) ∙ drop-drop g (at + n) text in
    let is_word : word t.kind (take n (drop at text)) ≡ word t.kind (bytes_of text t) = ap (word t.kind) (sym (bytes_are text t at n s e within)) in
    let fewer : length (drop (at + n + g) text) ≤ next.0 =
    let l = length-drop (at + n + g) text in
    let m = length-drop at text in
    omega (arith, l, m, next.1, old.1) in
    let step : scan_from old.0 (drop at text) ≡ with_first (word t.kind (bytes_of text t)) (scan_from next.0 (drop (at + n + g) text)) = next.2 ∙ ap (λ w. with_first w (scan_from next.0 (behind_gap (drop n (drop at text))))) is_word ∙ ap (λ r. with_first (word t.kind (bytes_of text t)) (scan_from next.0 r)) left in
    (next.0, fewer, old.2 ∙ ap (behind_words (words text ts)) step ∙ behind_more (words text ts) (word t.kind (bytes_of text t)) (scan_from next.0 (drop (at + n + g) text)) ∙ ap (λ ws. behind_words ws (scan_from next.0 (drop (at + n + g) text))) (sym (words_push text ts t)))

pub scan_fails : (text : List ℕ) (ts : List Token) (at : ℕ) → Scanned text ts at → front (drop at text) ≡ None → at < length text → scan text ≡ None
scan_fails text ts at old f h =
    let l = length-drop at text in
    old.2 ∙ ap (behind_words (words text ts)) (stops old.0 (drop at text) f (omega (arith, l, h)))

pub scan_done : (text : List ℕ) (ts : List Token) (at : ℕ) → Scanned text ts at → length text ≤ at → scan text ≡ Some (words text ts)
scan_done text ts at old h =
    let end : drop at text ≡ [] = drop_all at text h in
    let none : scan_from old.0 [] ≡ Some [] = refl in
    old.2 ∙ ap (behind_words (words text ts)) (ap (scan_from old.0) end ∙ none) ∙ ap Some (append-nil (words text ts))

-- the rest of a text, as a slice
pub front_of : (text : List ℕ) (at : ℕ) (o : Option (Kind × ℕ)) → o ≡ front (take (length text - at) (drop at text)) → front (drop at text) ≡ o
front_of text at o e = sym (e ∙ ap front (take_rest text at))

pub gap_of_rest : (text : List ℕ) (at g : ℕ) → g ≡ gap_len false (take (length text - at) (drop at text)) → g ≡ gap_len false (drop at text)
gap_of_rest text at g e = e ∙ ap (gap_len false) (take_rest text at)

pub within_rest : (text : List ℕ) (at n : ℕ) → n ≤ length (take (length text - at) (drop at text)) → at < length text → at + n ≤ length text
within_rest text at n h lt =
    let e = ap length (take_rest text at) in
    let l = length-drop at text in
    omega (arith, h, lt, e, l)
