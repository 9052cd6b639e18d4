-- lists of words and of further cuts, read from the front of their text
use Rattle.std.proofs.Common.{◌≡◌, ◌≢◌, ℕ, List, [], ◌∷◌, ◌++◌, length, refl, sym, ap, ◌∙◌, arith, append_assoc, append-nil}
use Rattle.std.specs.Prelude.{decimal, codes, flat_map, All}
use Rattle.std.proofs.lemmas.Fmt.{decimal_injective}
use Rattle.std.proofs.lemmas.List.{flat_map_more}
use Rattle.std.proofs.lemmas.List.Elements.{All-nil, All-head, All-tail, All-push}
use Rattle.clover_words.specs.declared.word.Word.{Word}
use Rattle.clover_script.specs.declared.choice.Choice.{Choice}
use Rattle.clover_script.specs.declared.choice.Choice.TheVariants.{Old, New, Mix, Pick}
use Rattle.clover_script.specs.Split.{Lacks, EndsNumber, EndsWord}
use Rattle.clover_script.specs.Text.{word_text}
use Rattle.clover_script.specs.Choice.{IsNamed, AreNamed, further_name, names_text, IsChoice, choice_text, IsFurtherCut, further_cut, cut_text}
use Rattle.clover_script.proofs.LineLemmas.{one_word}
use Rattle.clover_script.proofs.PartLemmas.{number_lacks, number_split, lacks_append}
use Rattle.clover_script.proofs.SpellingLemmas.{after_same, apart}
use Rattle.clover_script.proofs.WordNameLemmas.{one_name, name_lacks}

-- where the text of a list of items goes on behind its first item
pub next_item : {A : Type 0} (P : A → Type 0) (f : A → List ℕ) (Ends : List ℕ → Type 0) (Is : A → List ℕ → Type 0) (ends : (xs : List A) → Ends (flat_map f xs)) (rest : List ℕ) → rest ≢ []
    → ((a : A) (r : List ℕ) → P a → Ends r → rest ≡ f a ++ r → Is a r) → (more : List A) → All P more → rest ≡ flat_map f more
    → (a : A) × (xs : List A) × (more ≡ a ∷ xs) × P a × All P xs × Is a (flat_map f xs)
next_item P f Ends Is ends rest some only [] all e = absurd (some e)
next_item P f Ends Is ends rest some only (a ∷ xs) all e =
    let is = All-head P a xs all in
    (a, xs, refl, is, All-tail P a xs all, only a (flat_map f xs) is (ends xs) e)

-- the text of a list that begins with no item is that of no items
pub no_item : {A : Type 0} (P : A → Type 0) (f : A → List ℕ) (Ends : List ℕ → Type 0) (ends : (xs : List A) → Ends (flat_map f xs)) (rest : List ℕ)
    → ((a : A) (r : List ℕ) → P a → Ends r → rest ≡ f a ++ r → ⊥) → (more : List A) → All P more → rest ≡ flat_map f more → more ≡ []
no_item P f Ends ends rest none [] all e = refl
no_item P f Ends ends rest none (a ∷ xs) all e = absurd (none a (flat_map f xs) (All-head P a xs all) (ends xs) e)

pub names_end : (words : List Word) → EndsNumber (flat_map further_name words)
names_end [] = tt
names_end (w ∷ more) = λ h. omega (arith, h.0)

pub cuts_end : (more : List (ℕ × Choice)) → EndsWord (flat_map further_cut more)
cuts_end [] = tt
cuts_end (cut ∷ more) = refl

-- the text is the names of some words, and what is left
pub record NamesRead (text rest : List ℕ) : Type 0 where
  pub first : Word
  pub more : List Word
  pub is : IsNamed first
  pub are : All IsNamed more
  pub parts : text ≡ names_text (first ∷ more) ++ rest

pub first_name_read : (text rest : List ℕ) (w : Word) → IsNamed w → text ≡ word_text w ++ rest → NamesRead text rest
first_name_read text rest w is e = record { first = w; more = []; is = is; are = All-nil IsNamed; parts = e ∙ ap (λ l. l ++ rest) (sym (append-nil (word_text w))) }

flat_front : {A : Type 0} (f : A → List ℕ) (front : List ℕ) (xs : List A) (x : A) (text rest after : List ℕ) → text ≡ (front ++ flat_map f xs) ++ rest → rest ≡ f x ++ after
    → text ≡ (front ++ flat_map f (xs ++ x ∷ [])) ++ after
flat_front f front xs x text rest after e r =
    e ∙ ap (λ l. (front ++ flat_map f xs) ++ l) r ∙ sym (append_assoc (front ++ flat_map f xs) (f x) after) ∙ ap (λ l. l ++ after) (flat_map_more f front xs x)

pub name_read : (text rest after : List ℕ) (w : Word) → NamesRead text rest → IsNamed w → rest ≡ further_name w ++ after → NamesRead text after
name_read text rest after w h is e = record {
  first = h.first;
  more = h.more ++ w ∷ [];
  is = h.is;
  are = All-push IsNamed h.more w h.are is;
  parts = flat_front further_name (word_text h.first) h.more w text rest after h.parts e;
}

-- the text is some further cuts, and what is left
pub record CutsRead (text rest : List ℕ) : Type 0 where
  pub more : List (ℕ × Choice)
  pub are : All IsFurtherCut more
  pub parts : text ≡ flat_map further_cut more ++ rest

pub no_cut_read : (text : List ℕ) → CutsRead text text
no_cut_read text = record { more = []; are = All-nil IsFurtherCut; parts = refl }

pub cut_read : (text rest after : List ℕ) (cut : ℕ × Choice) → CutsRead text rest → IsFurtherCut cut → rest ≡ further_cut cut ++ after → CutsRead text after
cut_read text rest after cut h is e = record {
  more = h.more ++ cut ∷ [];
  are = All-push IsFurtherCut h.more cut h.are is;
  parts = flat_front further_cut [] h.more cut text rest after h.parts e;
}

-- the names of all words begin with that of the first
pub first_name : (Is : Word → List ℕ → Type 0) (text : List ℕ) → ((w : Word) (r : List ℕ) → IsNamed w → EndsNumber r → text ≡ word_text w ++ r → Is w r)
    → (words : List Word) → AreNamed words → text ≡ names_text words → (w : Word) × (more : List Word) × (words ≡ w ∷ more) × All IsNamed more × Is w (flat_map further_name more)
first_name Is text only [] are e = absurd (are.0 refl)
first_name Is text only (w ∷ more) are e =
    (w, more, refl, All-tail IsNamed w more are.1, only w (flat_map further_name more) (All-head IsNamed w more are.1) (names_end more) e)

-- a text is the text of one list
one_list : {A : Type 0} (P : A → Type 0) (f : A → List ℕ) (Ends : List ℕ → Type 0) (ends : (xs : List A) → Ends (flat_map f xs)) (some : (a : A) (x : List ℕ) → f a ++ x ≢ [])
    → ((a b : A) (x y : List ℕ) → P a → P b → Ends x → Ends y → f a ++ x ≡ f b ++ y → (a ≡ b) × (x ≡ y)) → (xs ys : List A) → All P xs → All P ys → flat_map f xs ≡ flat_map f ys → xs ≡ ys
one_list P f Ends ends some one [] [] p q e = refl
one_list P f Ends ends some one [] (y ∷ ys) p q e = absurd (some y (flat_map f ys) (sym e))
one_list P f Ends ends some one (x ∷ xs) [] p q e = absurd (some x (flat_map f xs) e)
one_list {A} P f Ends ends some one (x ∷ xs) (y ∷ ys) p q e =
    let r = one x y (flat_map f xs) (flat_map f ys) (All-head P x xs p) (All-head P y ys q) (ends xs) (ends ys) e in
    ap (λ (z : A). z ∷ xs) r.0 ∙ ap (λ (zs : List A). y ∷ zs) (one_list P f Ends ends some one xs ys (All-tail P x xs p) (All-tail P y ys q) r.1)

one_further_name : (v w : Word) (x y : List ℕ) → IsNamed v → IsNamed w → EndsNumber x → EndsNumber y → further_name v ++ x ≡ further_name w ++ y → (v ≡ w) × (x ≡ y)
one_further_name v w x y p q ex ey e = one_name v w x y p.1 q.1 ex ey (after_same (codes ",") (word_text v ++ x) (word_text w ++ y) e)

one_names : (v w : List Word) → AreNamed v → AreNamed w → names_text v ≡ names_text w → v ≡ w
one_names [] w p q e = absurd (p.0 refl)
one_names (v ∷ vs) [] p q e = absurd (q.0 refl)
one_names (v ∷ vs) (w ∷ ws) p q e =
    let r = one_name v w (flat_map further_name vs) (flat_map further_name ws) (All-head IsNamed v vs p.1).1 (All-head IsNamed w ws q.1).1 (names_end vs) (names_end ws) e in
    let more = one_list IsNamed further_name EndsNumber names_end (λ a x h. cc) one_further_name vs ws (All-tail IsNamed v vs p.1) (All-tail IsNamed w ws q.1) r.1 in
    ap (λ (z : Word). z ∷ vs) r.0 ∙ ap (λ (zs : List Word). w ∷ zs) more

-- a text is one choice's
pub one_choice : (c d : Choice) → IsChoice c → IsChoice d → choice_text c ≡ choice_text d → c ≡ d
one_choice Old Old p q e = refl
one_choice New New p q e = refl
one_choice (Mix s) (Mix t) p q e = ap Mix (decimal_injective s t p q (after_same (codes "mix:") (decimal s) (decimal t) e))
one_choice (Pick v) (Pick w) p q e = ap Pick (one_names v w p q (after_same (codes "pick:") (names_text v) (names_text w) e))
one_choice c d p q e = absurd (omega (arith, apart (choice_text c) (choice_text d) e))

further_names_lack : (words : List Word) → All IsNamed words → Lacks 32 (flat_map further_name words)
further_names_lack [] are = tt
further_names_lack (w ∷ more) are =
    ((λ e. omega (arith, e)), lacks_append 32 (word_text w) (flat_map further_name more) (name_lacks w (All-head IsNamed w more are).1) (further_names_lack more (All-tail IsNamed w more are)))

names_lack : (words : List Word) → AreNamed words → Lacks 32 (names_text words)
names_lack [] are = tt
names_lack (w ∷ more) are =
    lacks_append 32 (word_text w) (flat_map further_name more) (name_lacks w (All-head IsNamed w more are.1).1) (further_names_lack more (All-tail IsNamed w more are.1))

-- no space stands in a choice
pub choice_lacks : (c : Choice) → IsChoice c → Lacks 32 (choice_text c)
choice_lacks Old is = ((λ e. omega (arith, e)), ((λ e. omega (arith, e)), ((λ e. omega (arith, e)), tt)))
choice_lacks New is = ((λ e. omega (arith, e)), ((λ e. omega (arith, e)), ((λ e. omega (arith, e)), tt)))
choice_lacks (Mix seed) is = lacks_append 32 (codes "mix:") (decimal seed) ((λ e. omega (arith, e)), ((λ e. omega (arith, e)), ((λ e. omega (arith, e)), ((λ e. omega (arith, e)), tt)))) (number_lacks seed is)
choice_lacks (Pick words) is =
    lacks_append 32 (codes "pick:") (names_text words) ((λ e. omega (arith, e)), ((λ e. omega (arith, e)), ((λ e. omega (arith, e)), ((λ e. omega (arith, e)), ((λ e. omega (arith, e)), tt))))) (names_lack words is)

-- a choice and what stands behind it are one thing
pub choice_split : (c d : Choice) (x y : List ℕ) → IsChoice c → IsChoice d → EndsWord x → EndsWord y → choice_text c ++ x ≡ choice_text d ++ y → (c ≡ d) × (x ≡ y)
choice_split c d x y p q ex ey e =
    let r = one_word (choice_text c) (choice_text d) x y (choice_lacks c p) (choice_lacks d q) ex ey e in
    (one_choice c d p q r.0, r.1)

pub cut_then : (cut : ℕ × Choice) (x : List ℕ) → further_cut cut ++ x ≡ codes " at " ++ (decimal cut.0 ++ (codes " " ++ (choice_text cut.1 ++ x)))
cut_then cut x = simp (append_assoc)

one_further_cut : (a b : ℕ × Choice) (x y : List ℕ) → IsFurtherCut a → IsFurtherCut b → EndsWord x → EndsWord y → further_cut a ++ x ≡ further_cut b ++ y → (a ≡ b) × (x ≡ y)
one_further_cut a b x y p q ex ey e =
    let at = after_same (codes " at ") (decimal a.0 ++ (codes " " ++ (choice_text a.1 ++ x))) (decimal b.0 ++ (codes " " ++ (choice_text b.1 ++ y))) (sym (cut_then a x) ∙ e ∙ cut_then b y) in
    let stores = number_split a.0 b.0 (choice_text a.1 ++ x) (choice_text b.1 ++ y) p.0 q.0 at in
    let choices = choice_split a.1 b.1 x y p.1 q.1 ex ey stores.1 in
    ((λ i. (stores.0 i, choices.0 i)), choices.1)

-- a text is one choice with one list of further cuts
pub one_cut_line : (c d : Choice) (more others : List (ℕ × Choice)) → IsChoice c → IsChoice d → All IsFurtherCut more → All IsFurtherCut others → cut_text c more ≡ cut_text d others → (c ≡ d) × (more ≡ others)
one_cut_line c d more others p q are be e =
    let r = choice_split c d (flat_map further_cut more) (flat_map further_cut others) p q (cuts_end more) (cuts_end others) e in
    (r.0, one_list IsFurtherCut further_cut EndsWord cuts_end (λ a x h. cc) one_further_cut more others are be r.1)

pub no_bytes : (text : List ℕ) → length text ≡ 0 → text ≡ []
no_bytes [] e = refl
no_bytes (b ∷ bs) e = absurd (omega (arith, e))

pub some_name : (w : Word) (x : List ℕ) → further_name w ++ x ≢ []
some_name w x e = cc

pub some_cut : (cut : ℕ × Choice) (x : List ℕ) → further_cut cut ++ x ≢ []
some_cut cut x e = cc
