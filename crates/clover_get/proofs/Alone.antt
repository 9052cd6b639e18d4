-- A get that is made alone: what each of its accesses finds, and how many decide it.
use Prim.Native.Nat.{zero, suc}
use Rattle.std.proofs.Common.{◌≡◌, ℕ, ◌+◌, ◌-◌, ◌*◌, ◌^◌, ◌==◌, ◌<◌, ◌≤◌, List, [], ◌∷◌, ◌++◌, length, take, Bool, true, false, cond, ltb, refl, sym, ap, ◌∙◌, arith, subst, eq-eqb}
use Rattle.std.specs.Prelude.{Option, Some, None}
use Rattle.std.proofs.lemmas.Bool.{lt-ltb, le-ltb}
use native.Mathlib.Decide.{ℕ_discrete, dec_le}
use Rattle.clover_words.specs.declared.bytes.ValueBuf.{ValueBuf}
use Rattle.clover_words.specs.declared.meta.Kind.TheVariants.{Value as IsValue, Tombstone}
use Rattle.clover_words.specs.declared.pool.Pool.{Pool}
use Rattle.clover_words.specs.declared.word.Word.TheVariants.{Next as NextOf}
use Rattle.clover_words.specs.declared.word.Side.TheVariants.{Current}
use Rattle.clover_words.specs.Meta.{MetaParts, IsMeta, meta_word, tombstone}
use Rattle.clover_words.specs.Pack.{AreBytes, packed, words_of, with_eight}
use Rattle.clover_words.specs.Place.{copy_in}
use Rattle.clover_words.proofs.Packing.{packed_set, packed_kept, room_kept, unpacked}
use Rattle.clover_words.proofs.Spellings.{one_meta}
use Rattle.clover_words.specs.Tag.{home}
use Rattle.clover_words.specs.Version.{unlinked, buffer_at, content_at}
use Rattle.clover_map.specs.declared.bytes.Value.{Value}
use Rattle.clover_map.specs.declared.call.Call.TheVariants.{Get}
use Rattle.clover_rule.specs.Content.{content, value_meta}
use Rattle.clover_rule.specs.Learned.{found, words_after_step}
use Rattle.clover_rule.specs.Steps.{DecideNext}
use Rattle.clover_rule.specs.declared.view.View.{View}
use Rattle.clover_rule.proofs.Spelling.{nth_all, short_enough}
use Rattle.clover_walk.specs.Alone.{alone, HasVersion, ReachesAfter, raised, version_words}
use Rattle.clover_walk.specs.Walking.{Walking, OnTail, IsOnWay, walk_step, goes_on, key_at}
use Rattle.clover_walk.specs.declared.start.Start.{Start}
use Rattle.clover_walk.proofs.Calling.{by_way}
use Rattle.clover_walk.proofs.Alone.{load_leaves, start_law, raised_version, last_range, content_words}
use Rattle.clover_get.specs.Alone.{Moment, next_step, GoesAlone, LeadsAlone, reply_at, StandsIn, EndsAfter, GetLaw}
use Rattle.clover_get.specs.Getting.{Getting, Stage, Seeking, AtMeta, AtValue, AtFound, AtDead, AtBad, Over, IsOpen, Reads, getting, sought, stage_at, value_in, valued, read_stage}

abbrev moment : List ℕ → Getting → ValueBuf → Moment
moment ws g room = record { words = ws; call = g; room = room }

-- there is such a run, and each that there is ends so
record Comes (p : Pool) (v : ℕ → View) (n : ℕ) (a : Moment) (Q : Moment → Type 0) : Type 0 where
  pub runs : (b : Moment) × LeadsAlone p v n a b
  pub each : (b : Moment) → LeadsAlone p v n a b → Q b

-- the same of one access
record Steps (p : Pool) (v : View) (a : Moment) (P : Moment → Type 0) : Type 0 where
  pub some : (b : Moment) × GoesAlone p v a b
  pub each : (b : Moment) → GoesAlone p v a b → P b

stay : (p : Pool) (v : ℕ → View) (a : Moment) (Q : Moment → Type 0) → Q a → Comes p v 0 a Q
stay p v a Q q = record { runs = (a, refl); each = λ b e. subst Q (sym e) q }

and_then : (p : Pool) (v : ℕ → View) (n : ℕ) (a : Moment) (P Q : Moment → Type 0) → Steps p (v 0) a P → ((c : Moment) → P c → Comes p (λ (i : ℕ). v (suc i)) n c Q) → Comes p v (suc n) a Q
and_then p v n a P Q s f = record {
  runs = let c = s.some in let r = (f c.0 (s.each c.0 c.1)).runs in (r.0, (c.0, c.1, r.1));
  each = λ b r. (f r.0 (s.each r.0 r.1)).each b r.2;
}

-- the walk's accesses
seeking : (w : Walking) → IsOnWay w.stand → sought w ≡ getting w Seeking
seeking w h = by_way (λ s. getting w (stage_at s) ≡ getting w Seeking) w.stand h refl refl (λ t. refl) (λ t u. refl)

module _ (p : Pool) (Q : Moment → Type 0) where
  walk_one : (v : View) (ws : List ℕ) (w : Walking) (room : ValueBuf) → Steps p v (moment ws (getting w Seeking) room) (λ (b : Moment). b ≡ moment (words_after_step p (walk_step w) ws) (sought (goes_on w (found p (walk_step w) ws))) room)
  walk_one v ws w room = record {
    some = (moment (words_after_step p (walk_step w) ws) (sought (goes_on w (found p (walk_step w) ws))) room, record { words = refl; call = refl; room = refl });
    each = λ b g. λ i. record { words = g.words i; call = g.call i; room = g.room i };
  }

  walking : (k n : ℕ) (ws : List ℕ) (w : Walking) (room : ValueBuf) → ((j : ℕ) → j < k → IsOnWay (alone p j ws w).1.stand) → ((v : ℕ → View) → Comes p v n (moment (alone p k ws w).0 (sought (alone p k ws w).1) room) Q)
      → (v : ℕ → View) → Comes p v (k + n) (moment ws (sought w) room) Q
  walking zero n ws w room h rest v = subst (λ (j : ℕ). Comes p v j (moment ws (sought w) room) Q) (let e : n ≡ 0 + n = omega arith in e) (rest v)
  walking (suc k) n ws w room h rest v =
      subst (λ (j : ℕ). Comes p v j (moment ws (sought w) room) Q) (let e : suc (k + n) ≡ suc k + n = omega arith in e)
      (subst (λ (g : Getting). Comes p v (suc (k + n)) (moment ws g room) Q) (sym (seeking w (h 0 (omega arith))))
      (and_then p v (k + n) (moment ws (getting w Seeking) room) (λ (b : Moment). b ≡ moment (words_after_step p (walk_step w) ws) (sought (goes_on w (found p (walk_step w) ws))) room) Q (walk_one (v 0) ws w room)
      (λ c e. subst (λ (b : Moment). Comes p (λ (i : ℕ). v (suc i)) (k + n) b Q) (sym e)
      (walking k n (words_after_step p (walk_step w) ws) (goes_on w (found p (walk_step w) ws)) room (λ j l. h (suc j) (omega arith)) rest (λ (i : ℕ). v (suc i))))))

-- a word of bytes
packed_small : (bytes : List ℕ) (k : ℕ) → AreBytes bytes → packed bytes k < 2 ^ 64
unfolding packed
packed_small bytes k h = omega (arith, h (8 * k), h (8 * k + 1), h (8 * k + 2), h (8 * k + 3), h (8 * k + 4), h (8 * k + 5), h (8 * k + 6), h (8 * k + 7))

-- the words of a version
meta_at : (p : Pool) (ws : List ℕ) (t : ℕ) (x : Value) → HasVersion p ws t (Some x) → copy_in p ws (content_at (home t) 0) Current ≡ value_meta x
unfolding content
meta_at p ws t x h = h.words 0 (value_meta x) refl

dead_at : (p : Pool) (ws : List ℕ) (t : ℕ) → HasVersion p ws t None → copy_in p ws (content_at (home t) 0) Current ≡ tombstone
unfolding content
dead_at p ws t h = h.words 0 tombstone refl

word_at : (p : Pool) (ws : List ℕ) (t : ℕ) (x : Value) → HasVersion p ws t (Some x) → (k : ℕ) → k < words_of (length x.bytes) → copy_in p ws (content_at (home t) (suc k)) Current ≡ packed x.bytes k
unfolding content
word_at p ws t x h k l = h.words (suc k) (packed x.bytes k) (nth_all x.bytes k l)

-- what the meta words say
reads_only : (x : ℕ) (m : MetaParts) → IsMeta m → meta_word m ≡ x → Reads x (Some m)
reads_only x m i e = record { found = (i, e); only = λ n j d. ap Some (one_meta m n i j (e ∙ sym d)) }

open_valued : (t f size j : ℕ) → IsOpen (valued t f size j)
open_valued t f size j = go (ltb j (words_of size))
  where
    go : (b : Bool) → IsOpen (cond b (AtValue t f j) (AtFound t f))
    go true = tt
    go false = tt

-- the room has so many words of the value, and its length
record Has (x : Value) (j : ℕ) (room : ValueBuf) : Type 0 where
  pub size : room.length ≡ length x.bytes
  pub words : (k : ℕ) → k < j → packed room.bytes k ≡ packed x.bytes k

has_more : (x : Value) (j : ℕ) (room room1 : ValueBuf) → AreBytes x.bytes → j < 128 → Has x j room → room1.bytes ≡ with_eight room.bytes j (packed x.bytes j) → room1.length ≡ room.length → Has x (suc j) room1
has_more x j room room1 bytes l h e f = record { size = f ∙ h.size; words = λ k lt. at k lt (ℕ_discrete k j) }
  where
    fit : 8 * j + 8 ≤ length room.bytes
    fit = let z = room.room.size in omega arith

    at : (k : ℕ) → k < suc j → Dec (k ≡ j) → packed room1.bytes k ≡ packed x.bytes k
    at k lt (yes q) = ap (λ (bs : List ℕ). packed bs k) e ∙ ap (packed (with_eight room.bytes j (packed x.bytes j))) q ∙ packed_set room.bytes j (packed x.bytes j) fit (packed_small x.bytes j bytes) ∙ ap (packed x.bytes) (sym q)
    at k lt (no d) = ap (λ (bs : List ℕ). packed bs k) e ∙ packed_kept room.bytes j k (packed x.bytes j) fit d ∙ h.words k (omega arith)

has_all : (x : Value) (room : ValueBuf) → AreBytes x.bytes → length x.bytes ≤ 1024 → Has x (words_of (length x.bytes)) room → value_in x.flags room ≡ x
has_all x room bytes n h =
    let q : take room.length room.bytes ≡ x.bytes = ap (λ (k : ℕ). take k room.bytes) h.size ∙ unpacked x.bytes room.bytes bytes room.room.bytes (let z = room.room.size in omega arith) h.words in
    λ i. record { flags = x.flags; bytes = q i }

module _ (w : Walking) (ws : List ℕ) (u : ℕ) where
  -- the last loads
  found_one : (v : View) (f : ℕ) (room : ValueBuf) → copy_in w.pool ws (NextOf (buffer_at (home u))) Current ≡ unlinked u → Steps w.pool v (moment ws (getting w (AtFound u f)) room) (λ (b : Moment). b ≡ moment ws (getting w Over) room)
  found_one v f room e =
      let x : ℕ = copy_in w.pool ws (NextOf (buffer_at (home u))) Current in
      let a : Moment = moment ws (getting w (AtFound u f)) room in
      let here : cond (x == unlinked u) (getting w Over) (sought (goes_on w x)) ≡ getting w Over = ap (λ (b : Bool). cond b (getting w Over) (sought (goes_on w x))) (eq-eqb x (unlinked u) e) in
      let same : words_after_step w.pool (next_step v a) ws ≡ ws = load_leaves w.pool (next_step v a) ws (λ y. refl) in
      record {
        some = (moment ws (getting w Over) room, record { words = sym same; call = sym here; room = refl });
        each = λ b g. λ i. moment ((g.words ∙ same) i) ((g.call ∙ here) i) (g.room i);
      }

  dead_one : (v : View) (room : ValueBuf) → copy_in w.pool ws (NextOf (buffer_at (home u))) Current ≡ unlinked u → Steps w.pool v (moment ws (getting w (AtDead u)) room) (λ (b : Moment). b ≡ moment ws (getting w Over) room)
  dead_one v room e =
      let x : ℕ = copy_in w.pool ws (NextOf (buffer_at (home u))) Current in
      let a : Moment = moment ws (getting w (AtDead u)) room in
      let here : cond (x == unlinked u) (getting w Over) (sought (goes_on w x)) ≡ getting w Over = ap (λ (b : Bool). cond b (getting w Over) (sought (goes_on w x))) (eq-eqb x (unlinked u) e) in
      let same : words_after_step w.pool (next_step v a) ws ≡ ws = load_leaves w.pool (next_step v a) ws (λ y. refl) in
      record {
        some = (moment ws (getting w Over) room, record { words = sym same; call = sym here; room = refl });
        each = λ b g. λ i. moment ((g.words ∙ same) i) ((g.call ∙ here) i) (g.room i);
      }

  -- the load of the meta word
  after_meta : (v : View) (room : ValueBuf) (m : MetaParts) → IsMeta m → copy_in w.pool ws (content_at (home u) 0) Current ≡ meta_word m → m.length ≤ 1024
      → Steps w.pool v (moment ws (getting w (AtMeta u)) room) (λ (b : Moment). (b.words ≡ ws) × (b.call ≡ getting w (read_stage w.pool u (Some m))) × (b.room.length ≡ m.length))
  after_meta v room m i e fit =
      let a : Moment = moment ws (getting w (AtMeta u)) room in
      let same : words_after_step w.pool (next_step v a) ws ≡ ws = load_leaves w.pool (next_step v a) ws (λ y. refl) in
      record {
        some = (
          moment ws (getting w (read_stage w.pool u (Some m))) (record { bytes = room.bytes; length = m.length; length_fits = fit; room = room.room }),
          record {
            words = sym same;
            call = (Some m, reads_only _ m i (sym e), refl);
            room = (refl, λ n j d. ap (λ (z : MetaParts). z.length) (one_meta m n i j (sym e ∙ sym d)));
          },
        );
        each = λ b g. (g.words ∙ same, g.call.2 ∙ ap (λ (o : Option MetaParts). getting w (read_stage w.pool u o)) (g.call.1.only m i (sym e)), g.room.1 m i (sym e));
      }

  -- the load of a value word
  after_value : (v : View) (f j y : ℕ) (room : ValueBuf) → j < 128 → copy_in w.pool ws (content_at (home u) (suc j)) Current ≡ y
      → Steps w.pool v (moment ws (getting w (AtValue u f j)) room) (λ (b : Moment). (b.words ≡ ws) × (b.call ≡ getting w (valued u f room.length (suc j))) × (b.room.bytes ≡ with_eight room.bytes j y) × (b.room.length ≡ room.length))
  after_value v f j y room lt e =
      let a : Moment = moment ws (getting w (AtValue u f j)) room in
      let x : ℕ = copy_in w.pool ws (content_at (home u) (suc j)) Current in
      let same : words_after_step w.pool (next_step v a) ws ≡ ws = load_leaves w.pool (next_step v a) ws (λ z. refl) in
      record {
        some = (
          moment ws (getting w (valued u f room.length (suc j))) (record { bytes = with_eight room.bytes j x; length = room.length; length_fits = room.length_fits; room = room_kept room.bytes j x lt room.room }),
          record { words = sym same; call = refl; room = (refl, refl) },
        );
        each = λ b g. (g.words ∙ same, g.call ∙ ap (λ (n : ℕ). getting w (valued u f n (suc j))) g.room.1, g.room.0 ∙ ap (with_eight room.bytes j) e, g.room.1);
      }

  -- the loads of some value words
  values : (x : Value) (Q : Moment → Type 0) → HasVersion w.pool ws u (Some x) → (r n j e : ℕ) → j + r ≡ e → e ≤ words_of (length x.bytes)
      → ((v : ℕ → View) (room : ValueBuf) → Has x e room → Comes w.pool v n (moment ws (getting w (valued u x.flags (length x.bytes) e)) room) Q)
      → (v : ℕ → View) (room : ValueBuf) → Has x j room → Comes w.pool v (r + n) (moment ws (getting w (valued u x.flags (length x.bytes) j)) room) Q
  values x Q h zero n j e q l rest v room has =
      let z : j ≡ e = omega arith in
      subst (λ (k : ℕ). Comes w.pool v k (moment ws (getting w (valued u x.flags (length x.bytes) j)) room) Q) (let y : n ≡ 0 + n = omega arith in y)
      (subst (λ (k : ℕ). Comes w.pool v n (moment ws (getting w (valued u x.flags (length x.bytes) k)) room) Q) (sym z) (rest v room (subst (λ (k : ℕ). Has x k room) z has)))
  values x Q h (suc r) n j e q l rest v room has =
      let less : j < words_of (length x.bytes) = omega arith in
      let short = h.fits.1 in let most = w.pool.words_fit in
      let lt : j < 128 = omega arith in
      let at : valued u x.flags (length x.bytes) j ≡ AtValue u x.flags j = ap (λ (b : Bool). cond b (AtValue u x.flags j) (AtFound u x.flags)) (lt-ltb j (words_of (length x.bytes)) less) in
      subst (λ (k : ℕ). Comes w.pool v k (moment ws (getting w (valued u x.flags (length x.bytes) j)) room) Q) (let y : suc (r + n) ≡ suc r + n = omega arith in y)
      (subst (λ (s : Stage). Comes w.pool v (suc (r + n)) (moment ws (getting w s) room) Q) (sym at)
      (and_then w.pool v (r + n) (moment ws (getting w (AtValue u x.flags j)) room) _ Q (after_value (v 0) x.flags j (packed x.bytes j) room lt (word_at w.pool ws u x h j less))
      (λ c d. subst (λ (b : Moment). Comes w.pool (λ (i : ℕ). v (suc i)) (r + n) b Q) (λ i. moment (sym d.0 i) (sym (d.1 ∙ ap (λ (k : ℕ). getting w (valued u x.flags k (suc j))) has.size) i) c.room)
      (values x Q h r n (suc j) e (omega arith) l rest (λ (i : ℕ). v (suc i)) c.room (has_more x j room c.room h.fits.2 lt has d.2 d.3)))))

  -- the load of the meta word of a value, and then of some value words
  meta_values : (x : Value) (Q : Moment → Type 0) → HasVersion w.pool ws u (Some x) → (r n : ℕ) → r ≤ words_of (length x.bytes)
      → ((v : ℕ → View) (room : ValueBuf) → Has x r room → Comes w.pool v n (moment ws (getting w (valued u x.flags (length x.bytes) r)) room) Q)
      → (v : ℕ → View) (room : ValueBuf) → Comes w.pool v (suc (r + n)) (moment ws (getting w (AtMeta u)) room) Q
  meta_values x Q h r n l rest v room =
      let size = short_enough w.pool (length x.bytes) h.fits.1 in
      let m : MetaParts = record { kind = IsValue; flags = x.flags; length = length x.bytes } in
      let at : read_stage w.pool u (Some m) ≡ valued u x.flags (length x.bytes) 0 = ap (λ (b : Bool). cond b (AtBad u) (valued u x.flags (length x.bytes) 0)) (le-ltb (8 * w.pool.words) (length x.bytes) h.fits.1) in
      and_then w.pool v (r + n) (moment ws (getting w (AtMeta u)) room) _ Q (after_meta (v 0) room m (h.fits.0, size) (meta_at w.pool ws u x h) size)
      (λ c d. subst (λ (b : Moment). Comes w.pool (λ (i : ℕ). v (suc i)) (r + n) b Q) (λ i. moment (sym d.0 i) (sym (d.1 ∙ ap (getting w) at) i) c.room)
      (values x Q h r n 0 r (omega arith) l rest (λ (i : ℕ). v (suc i)) c.room (record { size = d.2; words = λ k lt. absurd (omega arith) })))

  meta_dead : (Q : Moment → Type 0) → HasVersion w.pool ws u None → (n : ℕ) → ((v : ℕ → View) (room : ValueBuf) → Comes w.pool v n (moment ws (getting w (AtDead u)) room) Q)
      → (v : ℕ → View) (room : ValueBuf) → Comes w.pool v (suc n) (moment ws (getting w (AtMeta u)) room) Q
  meta_dead Q h n rest v room =
      and_then w.pool v n (moment ws (getting w (AtMeta u)) room) _ Q (after_meta (v 0) room (record { kind = Tombstone; flags = 0; length = 0 }) (refl, refl) (dead_at w.pool ws u h) (omega arith))
      (λ c d. subst (λ (b : Moment). Comes w.pool (λ (i : ℕ). v (suc i)) n b Q) (λ i. moment (sym d.0 i) (sym d.1 i) c.room) (rest (λ (i : ℕ). v (suc i)) c.room))

  -- from the tail's meta word on: the get is open, its last access decides it, and then it is over
  abbrev OpenNow : Moment → Type 0
  OpenNow b = IsOpen b.call.stage

  abbrev Last : Option Value → Moment → Type 0
  Last o b = (y : View) → (next_step y b ≡ DecideNext w.slot u (Get (key_at y.pass.names w.slot)) (reply_at u o)) × (found w.pool (next_step y b) b.words ≡ unlinked u)

  abbrev Done : Option Value → Moment → Type 0
  Done o b = (b.call.stage ≡ Over) × StandsIn o b.room × (b.words ≡ ws)

  all_found : (x : Value) → valued u x.flags (length x.bytes) (words_of (length x.bytes)) ≡ AtFound u x.flags
  all_found x = ap (λ (b : Bool). cond b (AtValue u x.flags (words_of (length x.bytes))) (AtFound u x.flags)) (le-ltb (words_of (length x.bytes)) (words_of (length x.bytes)) (omega arith))

  tail_open : (o : Option Value) → HasVersion w.pool ws u o → (j : ℕ) → j ≤ length (content o) → (v : ℕ → View) (room : ValueBuf) → Comes w.pool v j (moment ws (getting w (AtMeta u)) room) OpenNow
  tail_open o h zero l v room = stay w.pool v (moment ws (getting w (AtMeta u)) room) OpenNow tt
  tail_open None h (suc zero) l v room = meta_dead OpenNow h 0 (λ y r. stay w.pool y (moment ws (getting w (AtDead u)) r) OpenNow tt) v room
  tail_open None h (suc (suc j)) l v room = absurd (let e = content_words None in omega arith)
  tail_open (Some x) h (suc j) l v room =
      let e = content_words (Some x) in
      subst (λ (k : ℕ). Comes w.pool v k (moment ws (getting w (AtMeta u)) room) OpenNow) (let z : suc (j + 0) ≡ suc j = omega arith in z)
      (meta_values x OpenNow h j 0 (omega arith) (λ y r has. stay w.pool y (moment ws (getting w (valued u x.flags (length x.bytes) j)) r) OpenNow (open_valued u x.flags (length x.bytes) j)) v room)

  tail_last : (o : Option Value) → HasVersion w.pool ws u o → (v : ℕ → View) (room : ValueBuf) → Comes w.pool v (length (content o)) (moment ws (getting w (AtMeta u)) room) (Last o)
  tail_last None h v room = subst (λ (k : ℕ). Comes w.pool v k (moment ws (getting w (AtMeta u)) room) (Last None)) (sym (content_words None))
      (meta_dead (Last None) h 0 (λ y r. stay w.pool y (moment ws (getting w (AtDead u)) r) (Last None) (λ z. (refl, h.next))) v room)
  tail_last (Some x) h v room =
      let n : ℕ = words_of (length x.bytes) in
      subst (λ (k : ℕ). Comes w.pool v k (moment ws (getting w (AtMeta u)) room) (Last (Some x))) (let z : suc (n + 0) ≡ 1 + n = omega arith in z ∙ sym (content_words (Some x)))
      (meta_values x (Last (Some x)) h n 0 (omega arith) (λ y r has. subst (λ (s : Stage). Comes w.pool y 0 (moment ws (getting w s) r) (Last (Some x))) (sym (all_found x))
      (stay w.pool y (moment ws (getting w (AtFound u x.flags)) r) (Last (Some x)) (λ z. (ap (λ (k : Value). DecideNext w.slot u (Get (key_at z.pass.names w.slot)) (reply_at u (Some k))) (has_all x r h.fits.2 (short_enough w.pool (length x.bytes) h.fits.1) has), h.next)))) v room)

  tail_over : (o : Option Value) → HasVersion w.pool ws u o → (v : ℕ → View) (room : ValueBuf) → Comes w.pool v (suc (length (content o))) (moment ws (getting w (AtMeta u)) room) (Done o)
  tail_over None h v room = subst (λ (k : ℕ). Comes w.pool v (suc k) (moment ws (getting w (AtMeta u)) room) (Done None)) (sym (content_words None))
      (meta_dead (Done None) h 1 (λ y r. and_then w.pool y 0 (moment ws (getting w (AtDead u)) r) _ (Done None) (dead_one (y 0) r h.next) (λ c e. stay w.pool _ c (Done None) (ap (λ (b : Moment). b.call.stage) e, tt, ap (λ (b : Moment). b.words) e))) v room)
  tail_over (Some x) h v room =
      let n : ℕ = words_of (length x.bytes) in
      subst (λ (k : ℕ). Comes w.pool v k (moment ws (getting w (AtMeta u)) room) (Done (Some x))) (let z : suc (n + 1) ≡ suc (1 + n) = omega arith in z ∙ ap suc (sym (content_words (Some x))))
      (meta_values x (Done (Some x)) h n 1 (omega arith) (λ y r has. subst (λ (s : Stage). Comes w.pool y 1 (moment ws (getting w s) r) (Done (Some x))) (sym (all_found x))
      (and_then w.pool y 0 (moment ws (getting w (AtFound u x.flags)) r) _ (Done (Some x)) (found_one (y 0) x.flags r h.next)
      (λ c e. stay w.pool _ c (Done (Some x)) (ap (λ (b : Moment). b.call.stage) e, ap (λ (b : Moment). value_in x.flags b.room) e ∙ has_all x r h.fits.2 (short_enough w.pool (length x.bytes) h.fits.1) has, ap (λ (b : Moment). b.words) e)))) v room)

module _ (ws : List ℕ) (w : Walking) (room : ValueBuf) (ts : List ℕ) (u : ℕ) (o : Option Value) (m turns : ℕ) (f : Start) (way : IsOnWay w.stand) (r : ReachesAfter m ws w turns f ts u) where
  abbrev tail_walk : Walking
  tail_walk = record w { turns = w.turns + turns; first = false; start = f; stand = OnTail u }

  abbrev tail_words : List ℕ
  tail_words = raised w.pool w.slot (ts ++ u ∷ []) ws

  abbrev start : Moment
  start = moment ws (getting w Seeking) room

  begins : sought w ≡ getting w Seeking
  begins = seeking w way

  at_tail : (Q : Moment → Type 0) (n : ℕ) → ((v : ℕ → View) → Comes w.pool v n (moment tail_words (getting tail_walk (AtMeta u)) room) Q) → (v : ℕ → View) → Comes w.pool v (m + n) start Q
  at_tail Q n rest v =
      subst (λ (g : Getting). Comes w.pool v (m + n) (moment ws g room) Q) begins
      (walking w.pool Q m n ws w room r.before (λ y. subst (λ (b : Moment). Comes w.pool y n b Q) (λ i. moment (sym r.words i) (sought (sym r.there i)) room) (rest y)) v)

  on_way : (k : ℕ) → k < m → (v : ℕ → View) → Comes w.pool v k start (λ (b : Moment). IsOpen b.call.stage)
  on_way k l v =
      subst (λ (j : ℕ). Comes w.pool v j start (λ (b : Moment). IsOpen b.call.stage)) (let z : k + 0 ≡ k = omega arith in z)
      (subst (λ (g : Getting). Comes w.pool v (k + 0) (moment ws g room) (λ (b : Moment). IsOpen b.call.stage)) begins
      (walking w.pool (λ (b : Moment). IsOpen b.call.stage) k 0 ws w room (λ j lt. r.before j (omega arith))
      (λ y. stay w.pool y _ (λ (b : Moment). IsOpen b.call.stage) (subst (λ (g : Getting). IsOpen g.stage) (sym (seeking (alone w.pool k ws w).1 (r.before k l))) tt)) v))

  open_before : HasVersion w.pool tail_words u o → (k : ℕ) → k < m + 1 + length (content o) → (v : ℕ → View) → Comes w.pool v k start (λ (b : Moment). IsOpen b.call.stage)
  open_before h k l v = go (dec_le (suc k) m)
    where
      go : Dec (suc k ≤ m) → Comes w.pool v k start (λ (b : Moment). IsOpen b.call.stage)
      go (yes d) = on_way k (omega arith) v
      go (no d) =
          let j : ℕ = k - m in
          subst (λ (n : ℕ). Comes w.pool v n start (λ (b : Moment). IsOpen b.call.stage)) (let z : m + j ≡ k = omega arith in z)
          (at_tail (λ (b : Moment). IsOpen b.call.stage) j (λ y. tail_open tail_walk tail_words u o h j (omega arith) y room) v)

  ends : HasVersion w.pool tail_words u o → (v : ℕ → View) → EndsAfter (m + 1 + length (content o)) v start u o tail_words
  ends h v =
      let whole = subst (λ (n : ℕ). Comes w.pool v n start (Done tail_walk tail_words u o)) (let z : m + suc (length (content o)) ≡ m + 1 + length (content o) = omega arith in z)
      (at_tail (Done tail_walk tail_words u o) (suc (length (content o))) (λ y. tail_over tail_walk tail_words u o h y room) v) in
      record {
        runs = whole.runs;
        before = λ k b l run. (open_before h k l v).each b run;
        last = λ k b y q run. (at_tail (Last tail_walk tail_words u o) (length (content o)) (λ z. tail_last tail_walk tail_words u o h z room) v).each b
            (subst (λ (n : ℕ). LeadsAlone w.pool v n start b) (let z : k ≡ m + length (content o) = omega arith in z) run) y;
        over = whole.each;
      }

pub get_law : GetLaw
get_law v ws w room known y ts u o c h =
    let l = c.leads in
    let r = start_law ws w known y ts u c in
    subst (λ (n : ℕ). EndsAfter n v (moment ws (getting w Seeking) room) u o (raised w.pool w.slot (ts ++ u ∷ []) ws)) (let q = content_words o in let e : y.loads + 2 * length ts + 1 + 1 + length (content o) ≡ y.loads + 2 * length ts + 2 + version_words o = omega arith in e)
    (ends ws w room ts u o (y.loads + 2 * length ts + 1) (y.stale + length ts) y.start (r.before 0 (omega arith)) r (raised_version w.pool w.slot (ts ++ u ∷ []) ws u o l.range (last_range w.pool ts u l.range) h) v)
