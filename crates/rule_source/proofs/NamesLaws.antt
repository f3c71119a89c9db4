-- The number of a name, and lists that a loop goes on with.
use Rattle.std.proofs.Common.{◌≡◌, ◌≢◌, ℕ, zero, suc, ◌+◌, ◌<◌, ◌≤◌, Bool, true, false, cond, Option, Some, None, All, List, [], ◌∷◌, ◌++◌, append_assoc, length, take, get_or, map, refl, sym, ap, subst, ◌∙◌, arith}
use Rattle.std.specs.Str.{bytes_eq}
use Rattle.std.specs.List.{AllZip, cons_option, filter_map}
use Rattle.std.specs.Bool.{Decides}
use Rattle.std.proofs.lemmas.List.{take_all, take_more, get_or-map, length-map}
use Rattle.std.proofs.lemmas.List.Elements.{All-push, filter_map-append}
use Rattle.std.proofs.lemmas.Option.{slice_get-get_or, slice_get-map}
use Rattle.std.specs.Prelude.{slice_get, option_map}
use Rattle.std.proofs.lemmas.Slice.Eq.{bytes_eq-Decides}
use Rattle.rule_source.specs.Names.{number_of}

is_false : (b : Bool) → (b ≡ true → ⊥) → b ≡ false
is_false true h = absurd (h refl)
is_false false h = refl

-- the first name that is the word has its number
pub number_is : (ws : List (List ℕ)) (w : List ℕ) (j : ℕ) (d : List ℕ) → j < length ws → get_or ws j d ≡ w → All (λ v. v ≢ w) (take j ws) → j ≡ number_of ws w
number_is [] w j d h e a = let z : ⊥ = omega arith in absurd z
number_is (v ∷ vs) w zero d h e a =
    let t : bytes_eq v w ≡ true = (bytes_eq-Decides v w).1 e in
    sym (ap (λ (b : Bool). cond b 0 (suc (number_of vs w))) t)
number_is (v ∷ vs) w (suc j) d h e a =
    let f : bytes_eq v w ≡ false = is_false (bytes_eq v w) (λ t. a 0 v (omega arith) ((bytes_eq-Decides v w).0 t)) in
    let r : j ≡ number_of vs w = number_is vs w j d (omega arith) e (λ k d' l. a (suc k) d' (omega arith)) in
    ap suc r ∙ sym (ap (λ (b : Bool). cond b 0 (suc (number_of vs w))) f)

-- a test of `==` that held, and one that did not
pub is_word : (v x w y : List ℕ) (r : Bool) → x ≡ v → y ≡ w → Decides r (x ≡ y) → r ≡ true → v ≡ w
is_word v x w y r p q d e = sym p ∙ d.0 e ∙ q

pub is_other : (v x w y : List ℕ) (r : Bool) → x ≡ v → y ≡ w → Decides r (x ≡ y) → r ≡ false → v ≢ w
is_other v x w y r p q d f = λ (e : v ≡ w). let t : r ≡ true = d.1 (p ∙ e ∙ sym q) in cc

within : {X : Type 0} (f : X → List ℕ) (xs : List X) (j : ℕ) → j < length xs → j < length (map f xs)
within f xs j h = subst (λ (n : ℕ). j < n) (sym (length-map xs f)) h

-- the same of names that are mapped to their words, where a loop reads them from an equal list
pub number_at : {X : Type 0} (f : X → List ℕ) (xs ys : List X) (w : List ℕ) (j : ℕ) (d : X) → ys ≡ xs → j < length xs → f (get_or ys j d) ≡ w → All (λ v. v ≢ w) (take j (map f xs)) → j ≡ number_of (map f xs) w
number_at f xs ys w j d q h e a = number_is (map f xs) w j (f d) (within f xs j h) (get_or-map f xs j d (f d) h ∙ ap (λ t. f (get_or t j d)) (sym q) ∙ e) a

pub apart_at : {X : Type 0} (f : X → List ℕ) (xs ys : List X) (w : List ℕ) (i : ℕ) (d : X) → ys ≡ xs → i < length xs → All (λ v. v ≢ w) (take i (map f xs)) → f (get_or ys i d) ≢ w → All (λ v. v ≢ w) (take (i + 1) (map f xs))
apart_at f xs ys w i d r h a p =
    let q : get_or (map f xs) i (f d) ≢ w = λ e. p (ap (λ t. f (get_or t i d)) r ∙ sym (get_or-map f xs i d (f d) h) ∙ e) in
    subst (λ (t : List (List ℕ)). All (λ v. v ≢ w) t) (sym (take_more (map f xs) i (f d) (within f xs i h)))
    (All-push (λ (v : List ℕ). v ≢ w) (take i (map f xs)) (get_or (map f xs) i (f d)) a q)

pub apart_all : {X : Type 0} (f : X → List ℕ) (xs : List X) (w : List ℕ) (i : ℕ) → length xs ≤ i → All (λ v. v ≢ w) (take i (map f xs)) → All (λ v. v ≢ w) (map f xs)
apart_all f xs w i h a = subst (λ (t : List (List ℕ)). All (λ v. v ≢ w) t) (take_all i (map f xs) (subst (λ (n : ℕ). n ≤ i) (sym (length-map xs f)) h)) a

-- of what some elements of a list are mapped to, one more, or none
pub filtered_more : {X Y : Type 0} (f : X → Option Y) (xs : List X) (i : ℕ) (d : X) (base old new : List Y) → i < length xs → old ≡ base ++ filter_map f (take i xs) → new ≡ old ++ cons_option (f (get_or xs i d)) [] → new ≡ base ++ filter_map f (take (i + 1) xs)
filtered_more f xs i d base old new h a n =
    let one : filter_map f (take (i + 1) xs) ≡ filter_map f (take i xs) ++ cons_option (f (get_or xs i d)) [] = ap (λ t. filter_map f t) (take_more xs i d h) ∙ filter_map-append f (take i xs) (get_or xs i d ∷ []) in
    n ∙ ap (λ t. t ++ cons_option (f (get_or xs i d)) []) a ∙ append_assoc base (filter_map f (take i xs)) (cons_option (f (get_or xs i d)) []) ∙ ap (λ t. base ++ t) (sym one)

-- the same where the element was read
pub filtered_item : {X Y : Type 0} (f : X → Option Y) (xs : List X) (i : ℕ) (x : X) (old new : List Y) → i < length xs → x ≡ get_or xs i x → old ≡ filter_map f (take i xs) → new ≡ old ++ cons_option (f x) [] → new ≡ filter_map f (take (i + 1) xs)
filtered_item f xs i x old new h e a n = filtered_more f xs i x [] old new h a (n ∙ ap (λ t. old ++ cons_option (f t) []) e)

-- one more of which it holds
pub all_push : {X : Type 0} (P : X → Type 0) (old new : List X) (x : X) → new ≡ old ++ x ∷ [] → P x → All P old → All P new
all_push P old new x n p a = subst (λ t. All P t) (sym n) (All-push P old x a p)

-- of no element it need hold
pub all_none : {X : Type 0} (P : X → Type 0) (xs : List X) → xs ≡ [] → All P xs
all_none P [] e = λ k d h. let z : ⊥ = omega arith in absurd z
all_none P (x ∷ xs) e = let z : ⊥ = cc in absurd z

-- a place of a list, read
pub place_of : {X Z : Type 0} (f : X → Z) (xs ys : List X) (j : ℕ) (d : X) (z : Z) → ys ≡ xs → j < length xs → f (get_or ys j d) ≡ z → slice_get (map f xs) j ≡ Some z
place_of f xs ys j d z q h e = slice_get-map f xs j ∙ ap (λ o. option_map f o) (slice_get-get_or xs j d h) ∙ ap Some (ap (λ t. f (get_or t j d)) (sym q) ∙ e)

-- two lists, of which what stands at the same place belongs together, and one more of each
pub zip_push : {X Y : Type 0} (R : X → Y → Type 0) (xs : List X) (ys : List Y) (x : X) (y : Y) → AllZip R xs ys → R x y → AllZip R (xs ++ x ∷ []) (ys ++ y ∷ [])
zip_push R [] [] x y h r = (r, tt)
zip_push R [] (z ∷ ys) x y h r = absurd h
zip_push R (w ∷ xs) [] x y h r = absurd h
zip_push R (w ∷ xs) (z ∷ ys) x y h r = (h.0, zip_push R xs ys x y h.1 r)

-- the same where the element was read
pub zip_item : {X Y : Type 0} (R : X → Y → Type 0) (xs : List X) (i : ℕ) (x : X) (old new : List Y) (y : Y) → i < length xs → x ≡ get_or xs i x → AllZip R (take i xs) old → new ≡ old ++ y ∷ [] → R x y → AllZip R (take (i + 1) xs) new
zip_item R xs i x old new y h e a n r =
    subst (λ t. AllZip R t new) (sym (take_more xs i x h ∙ ap (λ t. take i xs ++ t ∷ []) (sym e)))
    (subst (λ t. AllZip R (take i xs ++ x ∷ []) t) (sym n) (zip_push R (take i xs) old x y a r))

-- the same of what some elements are mapped to
pub zip_filtered : {X Y Z : Type 0} (R : Y → Z → Type 0) (f : X → Option Y) (xs : List X) (i : ℕ) (x : X) (old new : List Z) → i < length xs → x ≡ get_or xs i x → AllZip R (filter_map f (take i xs)) old → ((ys : List Y) → AllZip R ys old → AllZip R (ys ++ cons_option (f x) []) new) → AllZip R (filter_map f (take (i + 1) xs)) new
zip_filtered R f xs i x old new h e a n = subst (λ t. AllZip R t new) (filtered_item f xs i x (filter_map f (take i xs)) _ h e refl refl) (n (filter_map f (take i xs)) a)

pub append_none : {X : Type 0} (xs : List X) → xs ≡ xs ++ []
append_none [] = refl
append_none (x ∷ xs) = ap (λ t. x ∷ t) (append_none xs)

-- none more, or one, as an option is
pub zip_none : {X Y : Type 0} (R : X → Y → Type 0) (o : Option X) (xs : List X) (old new : List Y) → AllZip R xs old → o ≡ None → new ≡ old → AllZip R (xs ++ cons_option o []) new
zip_none R o xs old new a e n =
    subst (λ t. AllZip R (xs ++ cons_option t []) new) (sym e) (subst (λ t. AllZip R t new) (append_none xs) (subst (λ t. AllZip R xs t) (sym n) a))

pub zip_one : {X Y : Type 0} (R : X → Y → Type 0) (o : Option X) (x : X) (y : Y) (xs : List X) (old new : List Y) → AllZip R xs old → o ≡ Some x → new ≡ old ++ y ∷ [] → R x y → AllZip R (xs ++ cons_option o []) new
zip_one R o x y xs old new a e n r =
    subst (λ t. AllZip R (xs ++ cons_option t []) new) (sym e) (subst (λ t. AllZip R (xs ++ x ∷ []) t) (sym n) (zip_push R xs old x y a r))
