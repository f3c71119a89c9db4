-- How the report of a rule goes on by a question.
use Rattle.std.proofs.Common.{◌≡◌, ℕ, ◌+◌, ◌<◌, Bool, true, false, List, [], ◌∷◌, ◌++◌, length, map, take, get_or, string_bytes, codes, if◌then◌else◌, refl, sym, ap, ap₂, subst, ◌∙◌, append-nil, add-one, arith}
use Rattle.std.specs.List.{flat_map}
use Rattle.std.specs.Fmt.{decimal}
use Rattle.std.proofs.lemmas.List.{map-append, map_more, take_more, flat_map_more}
use Rattle.std.proofs.lemmas.List.Elements.{All-append, All-push}
use Rattle.std.proofs.lemmas.Grind.{flat_map-append}
use Rattle.rule_source.specs.declared.claimed.Claim.{Claim}
use Rattle.rule_source.specs.declared.kept.Keep.{Keep}
use Rattle.rule_source.specs.declared.source.Source.{Source}
use Rattle.rule_report.specs.declared.options.Options.{Options}
use Rattle.rule_report.specs.declared.piece.Report.{Report}
use Rattle.rule_report.specs.declared.shown_rows.Picture.{Picture}
use Rattle.rule_report.specs.ShownRows.{picture_name}
use Rattle.rule_report.specs.Reported.{Answers, Item, Part, IsPart, Tells, Reports, front_pictures, front_words, given_pictures, items, picture_names}

-- what there is of two lists, if anything
wanted-append : {X : Type 0} (b : Bool) (xs ys : List X) → (if b then xs else []) ++ (if b then ys else []) ≡ (if b then (xs ++ ys) else [])
wanted-append true xs ys = refl
wanted-append false xs ys = refl

answers_append : (file : List ℕ) (s : Source) (o : Options) (asked more : List Item) (words behind : List ℕ) (pictures others : List (List ℕ))
    → Answers file s o asked words pictures → Answers file s o more behind others → Answers file s o (asked ++ more) (words ++ behind) (pictures ++ others)
answers_append file s o asked more words behind pictures others a b =
    let words_of : Part → List ℕ = λ part. part.words in
    let pictures_of : Part → List (List ℕ) = λ part. part.pictures in
    let item_of : Part → Item = λ part. part.item in
    record {
      parts = a.parts ++ b.parts;
      of_items = map-append item_of a.parts b.parts ∙ ap₂ (λ (xs ys : List Item). xs ++ ys) a.of_items b.of_items;
      all_true = All-append (IsPart file s o) a.parts b.parts a.all_true b.all_true;
      words_are = ap₂ (λ (xs ys : List ℕ). xs ++ ys) a.words_are b.words_are ∙ sym (flat_map-append words_of a.parts b.parts);
      pictures_are = ap₂ (λ (xs ys : List (List ℕ)). xs ++ ys) a.pictures_are b.pictures_are
          ∙ wanted-append o.pictures (flat_map pictures_of a.parts) (flat_map pictures_of b.parts)
          ∙ ap (λ (xs : List (List ℕ)). if o.pictures then xs else []) (sym (flat_map-append pictures_of a.parts b.parts));
    }

abbrev nothing : List (List ℕ)
nothing = []

nothing_wanted : (b : Bool) → nothing ≡ (if b then nothing else nothing)
nothing_wanted true = refl
nothing_wanted false = refl

answers_none : (file : List ℕ) (s : Source) (o : Options) → Answers file s o [] [] []
answers_none file s o = record { parts = []; of_items = refl; all_true = λ k d h. let z : ⊥ = omega arith in absurd z; words_are = refl; pictures_are = nothing_wanted o.pictures }

-- the names of the pictures of two reports, one behind the other
names-append : (title : List ℕ) (old more new : List Picture) (names others : List (List ℕ)) → picture_names old ≡ map (picture_name title) names → picture_names more ≡ map (picture_name title) others
    → new ≡ old ++ more → picture_names new ≡ map (picture_name title) (names ++ others)
names-append title old more new names others p q n =
    ap picture_names n ∙ map-append (λ (x : Picture). string_bytes x.name) old more ∙ ap₂ (λ (xs ys : List (List ℕ)). xs ++ ys) p q ∙ sym (map-append (picture_name title) names others)

-- a report of no question
pub tells_none : (file title : List ℕ) (s : Source) (o : Options) (r : Report) → string_bytes r.text ≡ [] → r.pictures.items ≡ [] → Tells file title s o [] r
tells_none file title s o r text pictures = record {
  pictures = [];
  answers = subst (λ words. Answers file s o [] words []) (sym text) (answers_none file s o);
  pictures_are = ap picture_names pictures;
}

-- a report of one item
pub tells_one : (file title : List ℕ) (s : Source) (o : Options) (part : Part) (r : Report) → IsPart file s o part → string_bytes r.text ≡ part.words
    → picture_names r.pictures.items ≡ map (picture_name title) (if o.pictures then part.pictures else []) → Tells file title s o (part.item ∷ []) r
tells_one file title s o part r is text pictures = record {
  pictures = if o.pictures then part.pictures else [];
  answers = record {
    parts = part ∷ [];
    of_items = refl;
    all_true = All-push (IsPart file s o) [] part (λ k d h. let z : ⊥ = omega arith in absurd z) is;
    words_are = text ∙ sym (append-nil part.words);
    pictures_are = ap (λ (xs : List (List ℕ)). if o.pictures then xs else []) (sym (append-nil part.pictures));
  };
  pictures_are = pictures;
}

-- a report with that of more questions behind it
pub tells_append : (file title : List ℕ) (s : Source) (o : Options) (asked others : List Item) (old more new : Report)
    → Tells file title s o asked old → Tells file title s o others more → string_bytes new.text ≡ string_bytes old.text ++ string_bytes more.text → new.pictures.items ≡ old.pictures.items ++ more.pictures.items
    → Tells file title s o (asked ++ others) new
tells_append file title s o asked others old more new t u text pictures = record {
  pictures = t.pictures ++ u.pictures;
  answers = subst (λ words. Answers file s o (asked ++ others) words (t.pictures ++ u.pictures)) (sym text)
      (answers_append file s o asked others (string_bytes old.text) (string_bytes more.text) t.pictures u.pictures t.answers u.answers);
  pictures_are = names-append title old.pictures.items more.pictures.items new.pictures.items t.pictures u.pictures t.pictures_are u.pictures_are pictures;
}

-- the words of a given row more
pub words_more : {X : Type 0} (f : X → List ℕ) (xs : List X) (i : ℕ) (x : X) (old more new : List ℕ) → i < length xs → x ≡ get_or xs i x → old ≡ flat_map f (take i xs) → more ≡ f x → new ≡ old ++ more → new ≡ flat_map f (take (i + 1) xs)
words_more f xs i x old more new within read o m n =
    n ∙ ap₂ (λ (s t : List ℕ). s ++ t) o m ∙ flat_map_more f [] (take i xs) x ∙ ap (flat_map f) (sym (take_more xs i x within ∙ ap (λ y. take i xs ++ y ∷ []) (sym read)))

-- the pictures of a given row more
pub pictures_more : (title : List ℕ) (b : Bool) (i : ℕ) (old more new : List Picture) → picture_names old ≡ map (picture_name title) (if b then given_pictures i else [])
    → picture_names more ≡ map (picture_name title) (if b then ((codes "row-" ++ decimal (i + 1)) ∷ []) else []) → new ≡ old ++ more → picture_names new ≡ map (picture_name title) (if b then given_pictures (i + 1) else [])
pictures_more title b i old more new o m n =
    let one = (codes "row-" ++ decimal (i + 1)) ∷ [] in
    let more_names : given_pictures i ++ one ≡ given_pictures (i + 1) = rw (add-one i) refl in
    names-append title old more new (if b then given_pictures i else []) (if b then one else []) o m n
    ∙ ap (map (picture_name title)) (wanted-append b (given_pictures i) one ∙ ap (λ (xs : List (List ℕ)). if b then xs else []) more_names)

-- an item more
pub tells_more : {X : Type 0} (file title : List ℕ) (s : Source) (o : Options) (f : X → Item) (xs : List X) (i : ℕ) (x : X) (old more new : Report) → i < length xs → x ≡ get_or xs i x
    → Tells file title s o (map f (take i xs)) old → Tells file title s o (f x ∷ []) more
    → string_bytes new.text ≡ string_bytes old.text ++ string_bytes more.text → new.pictures.items ≡ old.pictures.items ++ more.pictures.items
    → Tells file title s o (map f (take (i + 1) xs)) new
tells_more file title s o f xs i x old more new within read t u text pictures =
    let grown = tells_append file title s o (map f (take i xs)) (f x ∷ []) old more new t u text pictures in
    let one : map f (take (i + 1) xs) ≡ map f (take i xs) ++ f x ∷ [] = map_more f xs i x within ∙ ap (λ y. map f (take i xs) ++ f y ∷ []) (sym read) in
    subst (λ asked. Tells file title s o asked new) (sym one) grown

-- the file's name and given rows, and the answers
pub reports_all : (file title : List ℕ) (s : Source) (o : Options) (claims : List Claim) (keeps : List Keep) (front told all : Report)
    → string_bytes front.text ≡ front_words file s o → picture_names front.pictures.items ≡ map (picture_name title) (front_pictures s o)
    → Tells file title s o (items claims keeps) told
    → string_bytes all.text ≡ string_bytes front.text ++ string_bytes told.text → all.pictures.items ≡ front.pictures.items ++ told.pictures.items
    → Reports file title s o claims keeps all
reports_all file title s o claims keeps front told all front_text front_names t all_text all_pictures =
    let words = string_bytes told.text in
    record {
      words = words;
      pictures = t.pictures;
      answers = t.answers;
      text_is = all_text ∙ ap (λ x. x ++ words) front_text;
      pictures_are = names-append title front.pictures.items told.pictures.items all.pictures.items (front_pictures s o) t.pictures front_names t.pictures_are all_pictures;
    }
