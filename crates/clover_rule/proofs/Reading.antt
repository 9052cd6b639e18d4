-- How a step reads to its actor, with the words as the codecs give them.
use Rattle.std.proofs.Common.{◌≡◌, ◌≢◌, ℕ, ◌==◌, [], ◌∷◌, ◌++◌, Bool, true, false, cond, sym, ap, ◌∙◌, subst, eq-eqb, ne_eqb}
use Rattle.std.specs.Prelude.{None}
use Rattle.clover_words.specs.declared.pool.Pool.{Pool}
use Rattle.clover_words.specs.Tag.{TagParts, IsTag, tag_number, home}
use Rattle.clover_words.specs.Next.{NextParts, IsNext, next_word}
use Rattle.clover_words.proofs.Spellings.{one_next}
use Rattle.clover_words.specs.Version.{unlinked, buffer_at}
use Rattle.clover_words.proofs.Versions.{unlinked_is, buffer_tag}
use Rattle.clover_map.specs.declared.call.Call.{Call}
use Rattle.clover_map.specs.declared.call.Reply.{Reply}
use Rattle.clover_rule.specs.Knowing.{link_entry, link_view}
use Rattle.clover_rule.specs.Lists.{Within}
use Rattle.clover_rule.specs.Meant.{IsLoad}
use Rattle.clover_rule.specs.Memory.{Next, word}
use Rattle.clover_rule.specs.Learned.{turn_at, counted, seen, decided, rest_of, next_history}
use Rattle.clover_rule.specs.Asks.{Asks}
use Rattle.clover_rule.specs.Steps.{LoadNext, DecideNext, LinkNext, act_of, client, reply_of, IsClient}
use Rattle.clover_rule.specs.Told.{Told}
use Rattle.clover_rule.specs.Words.{next_of}
use Rattle.clover_rule.specs.declared.access.Act.TheVariants.{Load}
use Rattle.clover_rule.specs.declared.view.View.{View}
use Rattle.clover_rule.proofs.Codecs.{tag_option, next_of_word, shown_next}
use Rattle.clover_words.specs.declared.word.Word.{Word}
use Rattle.clover_words.specs.declared.word.Word.TheVariants.{Next as NextOf}
use Rattle.clover_words.specs.Place.{IsBuffer, IsWithin}

-- the word shows the tag's generation, unlinked
abbrev pub IsTailWord : TagParts → NextParts → Type 0
IsTailWord t n = (n.own ≡ t.generation) × (n.link ≡ None)

pub tail_word : (t : TagParts) (n : NextParts) → IsTag t → IsTailWord t n → next_word n ≡ unlinked (tag_number t)
tail_word t n h (a, b) = ap next_word (λ i. record { own = a i; link = b i }) ∙ sym (unlinked_is t h)

pub word_tail : (t : TagParts) (n : NextParts) → IsTag t → IsNext n → next_word n ≡ unlinked (tag_number t) → IsTailWord t n
word_tail t n h k e = let q : n ≡ record { own = t.generation; link = None } = one_next n (record { own = t.generation; link = None }) k (record { own = h.generation; link = tt }) (e ∙ unlinked_is t h) in (ap (λ (z : NextParts). z.own) q, ap (λ (z : NextParts). z.link) q)

-- a load of a next word on a walk
pub load_reads : (p : Pool) (s t : ℕ) (b : Bool) (v : View) (x : ℕ) (w : View) (n : NextParts) → IsNext n → next_word n ≡ x → Told p (LoadNext s t) b v x w
    → w ≡ counted b (act_of (LoadNext s t) x) (turn_at t x) (seen s t v (word n.own (tag_option n.link)))
load_reads p s t b v x w n k e told = told.2.next ∙ ap (λ (z : Next). counted b (act_of (LoadNext s t) x) (turn_at t x) (seen s t v z)) (ap next_of (sym e) ∙ next_of_word n k)

-- a deciding load that showed the tail: the entry stands behind the history of that moment
pub decide_reads : (p : Pool) (s t : ℕ) (c : Call) (r : Reply) (b : Bool) (v : View) (x : ℕ) (w : View) → x ≡ unlinked t → (told : Told p (DecideNext s t c r) b v x w)
    → (w ≡ counted b (act_of (DecideNext s t c r) x) 0 (decided v told.1 t c r)) × (next_history (DecideNext s t c r) told.1 v x ≡ told.1 ++ link_entry v (client v) c r ∷ [])
decide_reads p s t c r b v x w e told = let q : (x == unlinked t) ≡ true = eq-eqb x (unlinked t) e in (
  told.2.next ∙ ap (λ (z : Bool). counted b (act_of (DecideNext s t c r) x) (cond z 0 1) (cond z (decided v told.1 t c r) (seen s t v (next_of x)))) q,
  ap (λ (z : Bool). cond z (told.1 ++ link_entry v (client v) c r ∷ []) told.1) q,
)

-- and one that did not is a load of a walk that made a turn
pub decide_misses : (p : Pool) (s t : ℕ) (c : Call) (r : Reply) (b : Bool) (v : View) (x : ℕ) (w : View) (n : NextParts) → IsNext n → next_word n ≡ x → x ≢ unlinked t → (told : Told p (DecideNext s t c r) b v x w)
    → (w ≡ counted b (act_of (DecideNext s t c r) x) 1 (seen s t v (word n.own (tag_option n.link)))) × (next_history (DecideNext s t c r) told.1 v x ≡ told.1)
decide_misses p s t c r b v x w n k e d told = let q : (x == unlinked t) ≡ false = ne_eqb x (unlinked t) d in (
  told.2.next ∙ ap (λ (z : Bool). counted b (act_of (DecideNext s t c r) x) (cond z 0 1) (cond z (decided v told.1 t c r) (seen s t v (next_of x)))) q
      ∙ ap (λ (z : Next). counted b (act_of (DecideNext s t c r) x) 1 (seen s t v z)) (ap next_of (sym e) ∙ next_of_word n k),
  ap (λ (z : Bool). cond z (told.1 ++ link_entry v (client v) c r ∷ []) told.1) q,
)

-- an exchange that wrote
pub link_reads : (p : Pool) (s u t : ℕ) (c : Call) (b : Bool) (v : View) (x : ℕ) (w : View) → x ≡ unlinked u → (told : Told p (LinkNext s u t c) b v x w)
    → (w ≡ counted b (act_of (LinkNext s u t c) x) 0 (link_view v told.1 (client v) s u t c (reply_of t c) (rest_of v.pass.stock))) × (next_history (LinkNext s u t c) told.1 v x ≡ told.1 ++ link_entry v (client v) c (reply_of t c) ∷ [])
link_reads p s u t c b v x w e told = let q : (x == unlinked u) ≡ true = eq-eqb x (unlinked u) e in (
  told.2.next ∙ ap (λ (z : Bool). counted b (act_of (LinkNext s u t c) x) (cond z 0 1) (cond z (link_view v told.1 (client v) s u t c (reply_of t c) (rest_of v.pass.stock)) (seen s u v (next_of x)))) q,
  ap (λ (z : Bool). cond z (told.1 ++ link_entry v (client v) c (reply_of t c) ∷ []) told.1) q,
)

-- and one that did not
pub link_misses : (p : Pool) (s u t : ℕ) (c : Call) (b : Bool) (v : View) (x : ℕ) (w : View) (n : NextParts) → IsNext n → next_word n ≡ x → x ≢ unlinked u → (told : Told p (LinkNext s u t c) b v x w)
    → (w ≡ counted b (act_of (LinkNext s u t c) x) 1 (seen s u v (word n.own (tag_option n.link)))) × (next_history (LinkNext s u t c) told.1 v x ≡ told.1)
link_misses p s u t c b v x w n k e d told = let q : (x == unlinked u) ≡ false = ne_eqb x (unlinked u) d in (
  told.2.next ∙ ap (λ (z : Bool). counted b (act_of (LinkNext s u t c) x) (cond z 0 1) (cond z (link_view v told.1 (client v) s u t c (reply_of t c) (rest_of v.pass.stock)) (seen s u v (next_of x)))) q
      ∙ ap (λ (z : Next). counted b (act_of (LinkNext s u t c) x) 1 (seen s u v z)) (ap next_of (sym e) ∙ next_of_word n k),
  ap (λ (z : Bool). cond z (told.1 ++ link_entry v (client v) c (reply_of t c) ∷ []) told.1) q,
)

-- the next word of a tag's buffer, and what a step on it asks
pub next_place : (t : TagParts) → IsTag t → NextOf (buffer_at (home (tag_number t))) ≡ NextOf (record { node = t.node; index = t.index })
next_place t h = ap NextOf (buffer_tag t h)

pub within_next : (p : Pool) (t : TagParts) → IsTag t → IsBuffer p (record { node = t.node; index = t.index }) → IsWithin p (NextOf (buffer_at (home (tag_number t))))
within_next p t h b = subst (IsBuffer p) (sym (buffer_tag t h)) b

pub is_load_next : (s : ℕ) (t : TagParts) → IsTag t → IsLoad (LoadNext s (tag_number t)) (NextOf (record { node = t.node; index = t.index }))
is_load_next s t h x = ap (λ (w : Word). Load w x) (next_place t h)

pub asks_load_next : (p : Pool) (v : View) (s : ℕ) (t : TagParts) → IsTag t → IsBuffer p (record { node = t.node; index = t.index }) → IsClient v → Within (s, tag_number t) v.pass.durable → Asks p (LoadNext s (tag_number t)) v
asks_load_next p v s t h b cl d = (within_next p t h b, (cl, d))

-- what a load of a tag's next word found decodes
pub told_decodes : (p : Pool) (s : ℕ) (t : TagParts) (b : Bool) (v : View) (x : ℕ) (w : View) → Told p (LoadNext s (tag_number t)) b v x w → (n : NextParts) × IsNext n × (next_word n ≡ x)
told_decodes p s t b v x w told = shown_next p (buffer_at (home (tag_number t))) x told.2.number
