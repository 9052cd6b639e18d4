-- pieces of output, one behind the other
use Rattle.std.proofs.Common.{◌≡◌, ℕ, Bool, true, false, List, [], ◌∷◌, ◌++◌, length, flat_map, Option, Some, None, refl, ap, subst, sym, ◌∙◌, append-nil, append_assoc, option_to_list}
use Rattle.std.proofs.KnownBytes.{Appends-nil, Appends-trans}
use Rattle.std.specs.Io.KnownBytes.{Appends}
use Rattle.std.specs.Prelude.{All, slice_get}
use Rattle.std.proofs.lemmas.List.Elements.{All-head, All-tail}
use Rattle.clover_words.specs.Tag.{TagParts}
use Rattle.clover_alloc.specs.Batch.{tags_of}
use Rattle.clover_alloc.specs.declared.batch.Batch.{Batch}
use Rattle.clover_rule.specs.declared.access.Access.{Access}
use Rattle.clover_run.specs.Folds.{accesses_in, listed_in}
use Rattle.clover_run.specs.Machine.{Parts, IsAt}
use Rattle.clover_run.specs.Record.{Record}
use Rattle.clover_run.specs.Run.{Opening}
use Rattle.clover_run.specs.Running.{IsSilent, IsUnsaid}
use Rattle.clover_event.specs.Text.{traced}
use Rattle.clover_run.specs.Text.{said, noted}
use Rattle.clover_run.specs.declared.event.Note.{Note}
use Rattle.clover_run.specs.declared.event.Note.TheVariants.{Quiet, Waits}
use Rattle.clover_main.specs.Causes.{AppendsFront}
use Rattle.clover_run.specs.Lawful.{IsLawful}
use Rattle.clover_main.specs.Running.{Says, Puts, PutsEnding, Ran, Fails}
use Rattle.clover_main.specs.declared.output.Stop.{Stop}
use Rattle.clover_main.specs.declared.output.Stop.TheVariants.{Memory, Write}
use Rattle.clover_run.proofs.Following.{lawful_at}
use Rattle.clover_main.proofs.Puts.{front_of_first}

pub all_said : (t : Bool) (rs qs : List Record) → flat_map (said t) (rs ++ qs) ≡ flat_map (said t) rs ++ flat_map (said t) qs
all_said t [] qs = refl
all_said t (r ∷ rs) qs = ap (λ l. said t r ++ l) (all_said t rs qs) ∙ sym (append_assoc (said t r) (flat_map (said t) rs) (flat_map (said t) qs))

pub accesses_append : (rs qs : List Record) → accesses_in (rs ++ qs) ≡ accesses_in rs ++ accesses_in qs
accesses_append [] qs = refl
accesses_append (r ∷ rs) qs = ap (λ l. option_to_list r.access ++ l) (accesses_append rs qs) ∙ sym (append_assoc (option_to_list r.access) (accesses_in rs) (accesses_in qs))

-- the element behind a list
get_behind : {A : Type 0} (xs : List A) (o : Option A) → slice_get (xs ++ option_to_list o) (length xs) ≡ o
get_behind [] None = refl
get_behind [] (Some x) = refl
get_behind (x ∷ xs) o = get_behind xs o

-- the access that was listed last is that of the last record
listed_last : (before : List Access) (rs : List Record) (r : Record) → slice_get (before ++ accesses_in (rs ++ r ∷ [])) (length (before ++ accesses_in rs)) ≡ r.access
listed_last before rs r =
    ap (λ l. slice_get (before ++ l) (length (before ++ accesses_in rs))) (accesses_append rs (r ∷ []) ∙ ap (λ l. accesses_in rs ++ l) (append-nil (option_to_list r.access)))
    ∙ ap (λ l. slice_get l (length (before ++ accesses_in rs))) (sym (append_assoc before (accesses_in rs) (option_to_list r.access)))
    ∙ get_behind (before ++ accesses_in rs) r.access

-- the line of the access that is listed behind those before is the one that is printed; without a trace there is none
listed_line : (before : List Access) (t : Bool) (rs : List Record) (r : Record) → traced true (slice_get (listed_in before t (rs ++ r ∷ [])) (length (listed_in before t rs))) ≡ traced t r.access
listed_line before true rs r = ap (traced true) (listed_last before rs r)
listed_line before false rs r = refl

-- that line and that of the note are what the record prints
pub said_line : (before : List Access) (t : Bool) (xs : List Access) (n : ℕ) (rs : List Record) (r : Record) (note : Note) (batch : Batch) (old mid new : List ℕ) (u : Bool) → u ≡ t → xs ≡ listed_in before t (rs ++ r ∷ []) → n ≡ length (listed_in before t rs) → r.note ≡ note → batch ≡ r.served.batch
    → mid ≡ old ++ traced true (slice_get xs n) → new ≡ mid ++ noted u (tags_of batch) note → new ≡ old ++ said t r
said_line before t xs n rs r note batch old mid new u same all here is last grown told =
    let line : traced true (slice_get xs n) ≡ traced t r.access = ap (λ l. traced true (slice_get l n)) all ∙ ap (λ k. traced true (slice_get (listed_in before t (rs ++ r ∷ [])) k)) here ∙ listed_line before t rs r in
    told ∙ ap (λ (b : Bool). mid ++ noted b (tags_of batch) note) same ∙ ap (λ l. l ++ noted t (tags_of batch) note) (grown ∙ ap (λ l. old ++ l) line) ∙ append_assoc old (traced t r.access) (noted t (tags_of batch) note)
    ∙ (λ k. old ++ (traced t r.access ++ noted t (tags_of (last k)) (sym is k)))

pub says_then : (a b c : Option (List ℕ)) (w v u x y : List ℕ) → Says a b w v x → Says b c v u y → Says a c w u (x ++ y)
says_then a b c w v u x y s t = record {
  piece = s.piece ++ t.piece;
  put = Appends-trans a b c s.piece t.piece s.put t.put;
  all = sym (append_assoc w x y) ∙ ap (λ l. l ++ y) s.all ∙ append_assoc s.piece v y ∙ ap (λ l. s.piece ++ l) t.all ∙ sym (append_assoc s.piece t.piece u);
}

-- what was put and what waits are what waited and what was said
whole_then : (s w x v y : List ℕ) → w ++ x ≡ s ++ v → w ++ (x ++ y) ≡ s ++ (v ++ y)
whole_then s w x v y e = sym (append_assoc w x y) ∙ ap (λ l. l ++ y) e ∙ append_assoc s v y

pub front_then : (a b c : Option (List ℕ)) (w v x y : List ℕ) → Says a b w v x → AppendsFront b c (v ++ y) → AppendsFront a c (w ++ (x ++ y))
front_then a b c w v x y s (front, rest, e, put) = (
  s.piece ++ front,
  rest,
  whole_then s.piece w x v y s.all ∙ ap (λ l. s.piece ++ l) e ∙ sym (append_assoc s.piece front rest),
  Appends-trans a b c s.piece front s.put put,
)

pub whole_put : (a b c : Option (List ℕ)) (w v x y : List ℕ) → Says a b w v x → Appends b c (v ++ y) → Appends a c (w ++ (x ++ y))
whole_put a b c w v x y s put = subst (λ l. Appends a c l) (sym (whole_then s.piece w x v y s.all)) (Appends-trans a b c s.piece (v ++ y) s.put put)

pub puts_then : (stop : Stop) (a b c : Option (List ℕ)) (w v x y : List ℕ) → Says a b w v x → Puts stop b c (v ++ y) → Puts stop a c (w ++ (x ++ y))
puts_then Memory a b c w v x y s put = whole_put a b c w v x y s put
puts_then Write a b c w v x y s put = front_then a b c w v x y s put

-- what was put of all that waits was put of it and of an end
pub puts_end : (stop : Stop) (a b : Option (List ℕ)) (w end : List ℕ) → Puts stop a b w → PutsEnding stop a b w end
puts_end Memory a b w end put = put
puts_end Write a b w end put = front_of_first a b w end put

pub puts_nothing : (stop : Stop) (a b : Option (List ℕ)) (w : List ℕ) → Puts stop a b w → Puts stop a b (w ++ [])
puts_nothing stop a b w put = subst (λ l. Puts stop a b l) (sym (append-nil w)) put

-- records without an access and a line print nothing
traced_none : (t : Bool) → traced t None ≡ []
traced_none true = refl
traced_none false = refl

noted_none : (t : Bool) (tags : List TagParts) (n : Note) → IsUnsaid n → noted t tags n ≡ []
noted_none true tags Quiet h = refl
noted_none false tags Quiet h = refl
noted_none true tags Waits h = refl
noted_none false tags Waits h = refl
noted_none t tags n h = absurd h

still_said : (t : Bool) (more : List Record) → All IsSilent more → flat_map (said t) more ≡ []
still_said t [] all = refl
still_said t (r ∷ rs) all =
    let still : IsSilent r = All-head IsSilent r rs all in
    let line : said t r ≡ [] = ap (λ (x : Option Access). traced t x ++ noted t (tags_of r.served.batch) r.note) still.access ∙ ap (λ (l : List ℕ). traced t None ++ l) (noted_none t (tags_of r.served.batch) r.note still.unsaid) ∙ append-nil (traced t None) ∙ traced_none t in
    ap (λ l. l ++ flat_map (said t) rs) line ∙ still_said t rs (All-tail IsSilent r rs all)

module _ (o : Opening) (t : Bool) (rs : List Record) where
  said_one : (more : List Record) (r : Record) → more ≡ r ∷ [] → flat_map (said t) more ≡ said t r
  said_one more r one = ap (flat_map (said t)) one ∙ append-nil (said t r)

  pub ran_nothing : (m : Parts) (a : Option (List ℕ)) (w : List ℕ) (Is : List Record → Type 0) → IsAt o m rs → Is [] → Ran o t rs m a a w w Is
  ran_nothing m a w Is at k = record { more = []; kind = k; at = subst (λ l. IsAt o m l) (sym (append-nil rs)) at; says = record { piece = []; put = Appends-nil a; all = append-nil w } }

  pub ran_then : (m n : Parts) (a b c : Option (List ℕ)) (w v u : List ℕ) (P Q R : List Record → Type 0)
      → (x : Ran o t rs m a b w v P) → (y : Ran o t (rs ++ x.more) n b c v u Q) → R (x.more ++ y.more) → Ran o t rs n a c w u R
  ran_then m n a b c w v u P Q R x y k = record {
    more = x.more ++ y.more;
    kind = k;
    at = subst (λ l. IsAt o n l) (append_assoc rs x.more y.more) y.at;
    says = subst (λ l. Says a c w u l) (sym (all_said t x.more y.more)) (says_then a b c w v u (flat_map (said t) x.more) (flat_map (said t) y.more) x.says y.says);
  }

  pub fails_then : (stop : Stop) (m : Parts) (a b c : Option (List ℕ)) (w v : List ℕ) (P Q R : List Record → Type 0)
      → (x : Ran o t rs m a b w v P) → (y : Fails o t (rs ++ x.more) stop b c v Q) → R (x.more ++ y.more) → Fails o t rs stop a c w R
  fails_then stop m a b c w v P Q R x y k = record {
    more = x.more ++ y.more;
    kind = k;
    lawful = subst (λ l. IsLawful o l) (append_assoc rs x.more y.more) y.lawful;
    puts = subst (λ l. Puts stop a c (w ++ l)) (sym (all_said t x.more y.more)) (puts_then stop a b c w v (flat_map (said t) x.more) (flat_map (said t) y.more) x.says y.puts);
  }

  -- nothing happened
  pub fails_none : (stop : Stop) (a b : Option (List ℕ)) (w : List ℕ) (Is : List Record → Type 0) → IsLawful o rs → Is [] → Puts stop a b w → Fails o t rs stop a b w Is
  fails_none stop a b w Is lawful k put = record { more = []; kind = k; lawful = subst (λ l. IsLawful o l) (sym (append-nil rs)) lawful; puts = puts_nothing stop a b w put }

  -- an event happened, and what it prints joined what waits and went on
  pub ran_event : (m : Parts) (a b : Option (List ℕ)) (w v u : List ℕ) (Is : List Record → Type 0) (more : List Record) (r : Record) → more ≡ r ∷ [] → Is more → IsAt o m (rs ++ more) → v ≡ w ++ said t r → Says a b v u [] → Ran o t rs m a b w u Is
  ran_event m a b w v u Is more r one k at grown s = record {
    more = more;
    kind = k;
    at = at;
    says = record {
      piece = s.piece;
      put = s.put;
      all = ap (λ l. w ++ l) (said_one more r one) ∙ sym grown ∙ sym (append-nil v) ∙ s.all;
    };
  }

  pub fails_event : (stop : Stop) (m : Parts) (a b : Option (List ℕ)) (w v : List ℕ) (Is : List Record → Type 0) (more : List Record) (r : Record) → stop ≡ Write → more ≡ r ∷ [] → Is more → IsAt o m (rs ++ more) → v ≡ w ++ said t r → AppendsFront a b v
      → Fails o t rs stop a b w Is
  fails_event stop m a b w v Is more r why one k at grown f = record {
    more = more;
    kind = k;
    lawful = lawful_at o m (rs ++ more) at;
    puts = subst (λ (s : Stop). Puts s a b (w ++ flat_map (said t) more)) (sym why) (subst (λ l. AppendsFront a b l) (grown ∙ ap (λ l. w ++ l) (sym (said_one more r one))) f);
  }

  -- nothing that happened prints anything
  pub ran_silent : (m : Parts) (a : Option (List ℕ)) (w : List ℕ) (Is : List Record → Type 0) (more : List Record) → Is more → IsAt o m (rs ++ more) → All IsSilent more → Ran o t rs m a a w w Is
  ran_silent m a w Is more k at still = record {
    more = more;
    kind = k;
    at = at;
    says = record { piece = []; put = Appends-nil a; all = ap (λ l. w ++ l) (still_said t more still) ∙ append-nil w };
  }
