-- What a step of a get says where it loads a content word, and where its last load decides it.
use Prim.Native.Nat.{suc}
use Rattle.std.proofs.Common.{◌≡◌, ◌≢◌, ℕ, ◌+◌, ◌*◌, ◌<◌, ◌≤◌, List, length, Bool, true, false, cond, ltb, refl, sym, ap, ◌∙◌, inl, subst, eq-eqb, arith}
use Rattle.std.specs.Prelude.{Option, Some, None, IfSome}
use Rattle.std.proofs.lemmas.Bool.Decides.{nat_tests}
use Rattle.clover_words.specs.declared.bytes.ValueBuf.{ValueBuf}
use Rattle.clover_words.specs.declared.meta.Kind.{Kind}
use Rattle.clover_words.specs.declared.meta.Kind.TheVariants.{Value as IsValue, Tombstone}
use Rattle.clover_words.specs.declared.pool.Pool.{Pool}
use Rattle.clover_words.specs.Meta.{MetaParts, IsVersion, meta_word}
use Rattle.clover_words.specs.Pack.{packed, words_of}
use Rattle.clover_words.specs.Tag.{TagParts, tag_number}
use Rattle.clover_words.specs.Version.{unlinked}
use Rattle.clover_map.specs.declared.call.Call.{Call}
use Rattle.clover_map.specs.declared.call.Call.TheVariants.{Get}
use Rattle.clover_map.specs.declared.call.Reply.{Reply}
use Rattle.clover_map.specs.declared.call.Reply.TheVariants.{Found, Absent}
use Rattle.clover_port.specs.Told.{Open, Made}
use Rattle.clover_rule.specs.Accesses.{AtTail, SawWhole, SawDead}
use Rattle.clover_rule.specs.Content.{InRange}
use Rattle.clover_rule.specs.Lists.{Within}
use Rattle.clover_rule.specs.Learned.{turn_at, counted, decided, seen}
use Rattle.clover_rule.specs.Steps.{Step, LoadContent, DecideNext, number_of, act_of}
use Rattle.clover_rule.specs.Told.{AreOneVersion}
use Rattle.clover_rule.specs.Words.{next_of}
use Rattle.clover_rule.specs.declared.view.Role.{Role}
use Rattle.clover_rule.specs.declared.view.Role.TheVariants.{Client}
use Rattle.clover_rule.specs.declared.view.View.{View}
use Rattle.clover_walk.specs.Walking.{Walking, Stand, StandsOn as WalkStandsOn, Holds, key_at, budget, most_accesses}
use Rattle.clover_walk.proofs.Endings.{stepped, copied_one, at_tail}
use Rattle.clover_get.specs.declared.turn.GetTurn.TheVariants.{More, Found as IsFound, Absent as IsAbsent}
use Rattle.clover_get.specs.Copying.{Copied}
use Rattle.clover_get.specs.Getting.{Getting, Stage, AtMeta, AtValue, AtFound, AtDead, AtBad, Over, getting, Reads, read_stage, read_kind, valued, value_in}
use Rattle.clover_get.specs.Going.{Went}
use Rattle.clover_get.specs.Holding.{GetHolds, StandsOn, IsAt, copied}
use Rattle.clover_get.proofs.Copies.{more_value, first_value, first_dead, first_bad, undecoded, too_long}
use Rattle.clover_get.proofs.Versions.{saw_whole}
use Rattle.clover_get.proofs.Counting.{bounded, one_more}

-- a value of so many bytes takes no more words than the buffers have
words_fit : (n w : ℕ) → n ≤ 8 * w → words_of n ≤ w
words_fit n w h = omega arith

module _ (p : Pool) (w : Walking) (t : ℕ) (v : View) (o : Option Open) (x : ℕ) (v1 : View) (o1 : Option Open) (of : p ≡ w.pool) where
  -- what the walk stands on stays so where a content word was loaded
  still_holds : (j : ℕ) → Holds w v → IsAt w t → Made p (LoadContent w.slot t j) false v o x v1 o1 → Holds w v1
  still_holds j h at made =
      let s = stepped p (LoadContent w.slot t j) false v o x v1 o1 made in
      let c = copied_one p w.slot t j false v o x v1 o1 made in
      let known : Within (w.slot, t) v.pass.durable = subst (λ (z : Stand). WalkStandsOn w.slot z v) at.0 h.stand in
      let turns : v1.pass.turns ≡ v.pass.turns = s.turns ∙ (let q : v.pass.turns + 0 ≡ v.pass.turns = omega arith in q) in
      record {
        pool = s.pool ∙ h.pool;
        client = subst (λ (r : Role). r ≡ Client (number_of r)) (sym s.role) h.client;
        named = subst (λ (ns : List (ℕ × List ℕ)). Within (w.slot, key_at ns w.slot) ns) (sym s.names) h.named;
        stand = subst (λ (z : Stand). WalkStandsOn w.slot z v1) (sym at.0) (subst (λ (ds : List (ℕ × ℕ)). Within (w.slot, t) ds) (sym c.durable) known);
        turns = subst (λ (n : ℕ). cond w.first 0 n ≡ w.turns) (sym turns) h.turns;
        below = h.below;
      }

  -- the accesses of the call after it, within those that the turns allow
  counts : (a : Step) (extra : ℕ) → IsAt w t → Made p a false v o x v1 o1 → cond w.first 0 (length v.pass.since) ≤ w.turns * (w.pool.words + 5) + extra → length v1.pass.since ≤ w.turns * (w.pool.words + 5) + suc extra
  counts a extra at made h =
      let e = one_more p a false v o x v1 o1 made in
      let b : length v.pass.since ≤ w.turns * (w.pool.words + 5) + extra = subst (λ (b : Bool). cond b 0 (length v.pass.since) ≤ w.turns * (w.pool.words + 5) + extra) at.1 h in omega arith

  allows : (extra : ℕ) → extra ≤ 5 + w.pool.words → w.turns ≡ v1.pass.turns → length v1.pass.since ≤ w.turns * (w.pool.words + 5) + extra → length v1.pass.since ≤ most_accesses p v1.pass.turns
  allows extra few e h =
      let b : length v1.pass.since ≤ most_accesses w.pool w.turns = bounded w.turns w.pool.words extra (length v1.pass.since) few h in
      subst (λ (n : ℕ). length v1.pass.since ≤ most_accesses p n) e (subst (λ (q : Pool). length v1.pass.since ≤ most_accesses q w.turns) (sym of) b)

  turns_now : Holds w v1 → IsAt w t → w.turns ≡ v1.pass.turns
  turns_now h at = sym (subst (λ (b : Bool). cond b 0 v1.pass.turns ≡ w.turns) at.1 h.turns)

  -- a get that goes on at the tail
  on_tail : (s : Stage) (into1 : ValueBuf) (extra : ℕ) → Holds w v1 → IsAt w t → StandsOn s w v1 into1 → length v1.pass.since ≤ w.turns * (w.pool.words + 5) + extra → extra ≤ copied s w.stand w.pool.words → GetHolds (getting w s) v1 into1
  on_tail s into1 extra h at stands n e = record {
    walk = h;
    stage = stands;
    bound = subst (λ (b : Bool). cond b 0 (length v1.pass.since) ≤ w.turns * (w.pool.words + 5) + copied s w.stand w.pool.words) (sym at.1)
        (omega arith);
  }

  tail_went : (s : Stage) (g1 : Getting) (into into1 : ValueBuf) (extra : ℕ) → Holds w v1 → IsAt w t → GetHolds g1 v1 into1 → length v1.pass.since ≤ w.turns * (w.pool.words + 5) + extra → extra ≤ 5 + w.pool.words
      → Went p (getting w s) g1 into into1 v o v1 o1 More
  tail_went s g1 into into1 extra h at holds n few = record {
    found = tt;
    at = tt;
    absent = tt;
    known = tt;
    behind = tt;
    ahead = let e = turns_now h at in let b : w.turns < budget p = subst (λ (q : Pool). w.turns < budget q) (sym of) h.below in subst (λ (k : ℕ). k < budget p) e b;
    stands = holds;
    ends = tt;
    bound = allows extra few (turns_now h at) n;
  }

  -- the stage after so many value words
  valued_stands : (fl j n : ℕ) (into1 : ValueBuf) (b : Bool) → IsAt w t → ltb j (words_of n) ≡ b → into1.length ≡ n → j ≤ words_of n → Copied w.pool w.slot t fl j v1 into1
      → StandsOn (cond b (AtValue t fl j) (AtFound t fl)) w v1 into1 × (4 + j ≤ copied (cond b (AtValue t fl j) (AtFound t fl)) w.stand w.pool.words)
  valued_stands fl j n into1 true at q e le c = let less : j < words_of n = grind (arith, nat_tests) in ((at, subst (λ (k : ℕ). j < words_of k) (sym e) less, c), omega arith)
  valued_stands fl j n into1 false at q e le c =
      let not_less : j < words_of n → ⊥ = λ l. grind (arith, nat_tests) in
      let all : j ≡ words_of n = omega arith in
      let fit = words_fit into1.length w.pool.words c.size in
      let same : words_of into1.length ≡ words_of n = ap words_of e in
      ((at, subst (λ (k : ℕ). Copied w.pool w.slot t fl k v1 into1) (all ∙ sym same) c), omega arith)

  kind_stands : (k : Kind) (fl n : ℕ) (into1 : ValueBuf) → IsAt w t → Made p (LoadContent w.slot t 0) false v o x v1 o1 → IsVersion k fl n → meta_word (record { kind = k; flags = fl; length = n }) ≡ x → into1.length ≡ n
      → StandsOn (read_kind w.pool t k fl n) w v1 into1 × (4 ≤ copied (read_kind w.pool t k fl n) w.stand w.pool.words)
  kind_stands Tombstone fl n into1 at made h e size =
      let c = copied_one p w.slot t 0 false v o x v1 o1 made in let s = stepped p (LoadContent w.slot t 0) false v o x v1 o1 made in
      ((at, first_dead w.pool w.slot t v v1 x c.copied s.since ((λ i. meta_word (record { kind = Tombstone; flags = sym h.0 i; length = sym h.1 i })) ∙ e)), omega arith)
  kind_stands IsValue fl n into1 at made h e size = long (ltb (8 * w.pool.words) n) refl
    where
      long : (b : Bool) → ltb (8 * w.pool.words) n ≡ b → StandsOn (cond b (AtBad t) (valued t fl n 0)) w v1 into1 × (4 ≤ copied (cond b (AtBad t) (valued t fl n 0)) w.stand w.pool.words)
      long true q = let more : 8 * w.pool.words < n = grind (arith, nat_tests) in ((at, first_bad w.pool w.slot t v v1 x (copied_one p w.slot t 0 false v o x v1 o1 made).copied (stepped p (LoadContent w.slot t 0) false v o x v1 o1 made).since (too_long w.pool fl n x h.0 h.1 more e)), omega arith)
      long false q =
          let room : n ≤ 8 * w.pool.words = (let d : 8 * w.pool.words < n → ⊥ = λ l. grind (arith, nat_tests) in omega arith) in
          valued_stands fl 0 n into1 (ltb 0 (words_of n)) at refl size (omega arith)
          (first_value w.pool w.slot t v v1 x (copied_one p w.slot t 0 false v o x v1 o1 made).copied (stepped p (LoadContent w.slot t 0) false v o x v1 o1 made).since fl into1 h.0 (subst (λ (k : ℕ). k ≤ 8 * w.pool.words) (sym size) room) (ap (λ (k : ℕ). meta_word (record { kind = IsValue; flags = fl; length = k })) size ∙ e))

  meta_stands : (om : Option MetaParts) (into1 : ValueBuf) → IsAt w t → Made p (LoadContent w.slot t 0) false v o x v1 o1 → Reads x om → IfSome om (λ m. into1.length ≡ m.length)
      → StandsOn (read_stage w.pool t om) w v1 into1 × (4 ≤ copied (read_stage w.pool t om) w.stand w.pool.words)
  meta_stands None into1 at made r size =
      let c = copied_one p w.slot t 0 false v o x v1 o1 made in let s = stepped p (LoadContent w.slot t 0) false v o x v1 o1 made in
      ((at, first_bad w.pool w.slot t v v1 x c.copied s.since (undecoded w.pool x r)), omega arith)
  meta_stands (Some m) into1 at made r size = kind_stands m.kind m.flags m.length into1 at made r.found.0 r.found.1 size

  pub meta_went : (om : Option MetaParts) (g1 : Getting) (into into1 : ValueBuf) → GetHolds (getting w (AtMeta t)) v into → Made p (LoadContent w.slot t 0) false v o x v1 o1 → Reads x om
      → g1 ≡ getting w (read_stage w.pool t om) → IfSome om (λ m. into1.length ≡ m.length) → Went p (getting w (AtMeta t)) g1 into into1 v o v1 o1 More
  meta_went om g1 into into1 h made r value size =
      let at = h.stage in
      let s = meta_stands om into1 at made r size in
      let n = counts (LoadContent w.slot t 0) 3 at made h.bound in
      let k = still_holds 0 h.walk at made in
      tail_went (AtMeta t) g1 into into1 4 k at
      (subst (λ (z : Getting). GetHolds z v1 into1) (sym value) (on_tail (read_stage w.pool t om) into1 4 k at s.0 n s.1)) n (omega arith)

  pub value_went : (fl j : ℕ) (g1 : Getting) (into into1 : ValueBuf) → GetHolds (getting w (AtValue t fl j)) v into → Made p (LoadContent w.slot t (suc j)) false v o x v1 o1
      → g1 ≡ getting w (valued t fl into1.length (suc j)) → into1.length ≡ into.length → packed into1.bytes j ≡ x → ((k : ℕ) → k ≢ j → packed into1.bytes k ≡ packed into.bytes k)
      → Went p (getting w (AtValue t fl j)) g1 into into1 v o v1 o1 More
  value_went fl j g1 into into1 h made value size packs others =
      let at = h.stage.0 in
      let less : j < words_of into.length = h.stage.1 in
      let c = copied_one p w.slot t (suc j) false v o x v1 o1 made in
      let s = stepped p (LoadContent w.slot t (suc j)) false v o x v1 o1 made in
      let next = more_value w.pool w.slot t fl j v v1 into into1 x h.stage.2 c.copied s.since size packs others in
      let same : words_of into1.length ≡ words_of into.length = ap words_of size in
      let stands = valued_stands fl (suc j) into1.length into1 (ltb (suc j) (words_of into1.length)) at refl refl (omega arith) next in
      let fit = words_fit into1.length w.pool.words next.size in
      let n0 = counts (LoadContent w.slot t (suc j)) (4 + j) at made h.bound in
      let n : length v1.pass.since ≤ w.turns * (w.pool.words + 5) + (4 + suc j) = omega arith in
      let k = still_holds (suc j) h.walk at made in
      tail_went (AtValue t fl j) g1 into into1 (4 + suc j) k at
      (subst (λ (z : Getting). GetHolds z v1 into1) (sym value) (on_tail (valued t fl into1.length (suc j)) into1 (4 + suc j) k at stands.0 n stands.1)) n (omega arith)

-- the last load showed the tag unlinked
module _ (p : Pool) (w : Walking) (tag : TagParts) (v : View) (o : Option Open) (x : ℕ) (v1 : View) (o1 : Option Open) (of : p ≡ w.pool) where
  -- the turns are as they were, since a load that shows the tail makes none
  no_turn_more : (c : Call) (r : Reply) → Holds w v → IsAt w (tag_number tag) → Made p (DecideNext w.slot (tag_number tag) c r) false v o x v1 o1 → x ≡ unlinked (tag_number tag) → v1.pass.turns ≡ w.turns
  no_turn_more c r h at made e =
      let s = stepped p (DecideNext w.slot (tag_number tag) c r) false v o x v1 o1 made in
      s.turns ∙ ap (λ (b : Bool). v.pass.turns + cond b 0 1) (eq-eqb x (unlinked (tag_number tag)) e) ∙ (let q : v.pass.turns + 0 ≡ v.pass.turns = omega arith in q) ∙ subst (λ (b : Bool). cond b 0 v.pass.turns ≡ w.turns) at.1 h.turns

  below : Holds w v → v1.pass.turns ≡ w.turns → v1.pass.turns < budget p
  below h e = subst (λ (q : Pool). v1.pass.turns < budget q) (sym of) (subst (λ (k : ℕ). k < budget w.pool) (sym e) h.below)

  -- the tail is of the pool, and is known to be durable as before
  known_still : (c : Call) (r : Reply) → Holds w v → IsAt w (tag_number tag) → Made p (DecideNext w.slot (tag_number tag) c r) false v o x v1 o1 → x ≡ unlinked (tag_number tag)
      → InRange w.pool (tag_number tag) × Within (w.slot, tag_number tag) v1.pass.durable
  known_still c r h at made e =
      let t : ℕ = tag_number tag in
      let known : Within (w.slot, t) v.pass.durable = subst (λ (z : Stand). WalkStandsOn w.slot z v) at.0 h.stand in
      let next : v1 ≡ counted false (act_of (DecideNext w.slot t c r) x) (turn_at t x) (decided v made.now.history t c r) = made.told.next ∙ ap (λ (b : Bool). counted false (act_of (DecideNext w.slot t c r) x) (turn_at t x) (cond b (decided v made.now.history t c r) (seen w.slot t v (next_of x)))) (eq-eqb x (unlinked t) e) in
      (at.2, subst (λ (z : View). Within (w.slot, t) z.pass.durable) (sym next) known)

  at_number : (c : Call) (r : Reply) → x ≡ unlinked (tag_number tag) → Made p (DecideNext w.slot (tag_number tag) c r) false v o x v1 o1 → Made p (DecideNext w.slot (tag_number tag) c r) false v o (unlinked (tag_number tag)) v1 o1
  at_number c r e made = subst (λ (y : ℕ). Made p (DecideNext w.slot (tag_number tag) c r) false v o y v1 o1) e made

  pub found_went : (fl : ℕ) (g1 : Getting) (into : ValueBuf) → GetHolds (getting w (AtFound (tag_number tag) fl)) v into
      → Made p (DecideNext w.slot (tag_number tag) (Get (key_at v.pass.names w.slot)) (Found (tag_number tag) (value_in fl into))) false v o x v1 o1 → x ≡ unlinked (tag_number tag) → g1 ≡ getting w Over
      → Went p (getting w (AtFound (tag_number tag) fl)) g1 into into v o v1 o1 (IsFound tag fl)
  found_went fl g1 into h made e value =
      let at = h.stage.0 in
      let key : Call = Get (key_at v.pass.names w.slot) in
      let reply : Reply = Found (tag_number tag) (value_in fl into) in
      let a : Step = DecideNext w.slot (tag_number tag) key reply in
      let m = at_number key reply e made in
      let q = no_turn_more key reply h.walk at made e in
      let n = counts p w (tag_number tag) v o x v1 o1 of a (4 + w.pool.words) at made h.bound in
      let one : AreOneVersion w.pool w.slot (tag_number tag) v = subst (λ (z : Pool). AreOneVersion z w.slot (tag_number tag) v) of (m.told.says refl).1 in
      let saw : SawWhole (tag_number tag) (value_in fl into) v.pass.since = saw_whole w.pool w.slot (tag_number tag) fl v into h.stage.1 one in
      record {
        found = (record { slot = w.slot; tag = tag_number tag; made = m; decides = at_tail p w.slot (tag_number tag) key reply (SawWhole (tag_number tag) (value_in fl into)) v o v1 o1 m saw }, refl, refl);
        at = (refl, refl);
        absent = tt;
        known = known_still key reply h.walk at made e;
        behind = tt;
        ahead = below h.walk q;
        stands = tt;
        ends = ap (λ (z : Getting). z.stage) value;
        bound = allows p w (tag_number tag) v o x v1 o1 of (5 + w.pool.words) (omega arith) (sym q) (omega arith);
      }

  pub dead_went : (g1 : Getting) (into : ValueBuf) → GetHolds (getting w (AtDead (tag_number tag))) v into
      → Made p (DecideNext w.slot (tag_number tag) (Get (key_at v.pass.names w.slot)) Absent) false v o x v1 o1 → x ≡ unlinked (tag_number tag) → g1 ≡ getting w Over
      → Went p (getting w (AtDead (tag_number tag))) g1 into into v o v1 o1 (IsAbsent tag)
  dead_went g1 into h made e value =
      let at = h.stage.0 in
      let key : Call = Get (key_at v.pass.names w.slot) in
      let a : Step = DecideNext w.slot (tag_number tag) key Absent in
      let m = at_number key Absent e made in
      let q = no_turn_more key Absent h.walk at made e in
      let n = counts p w (tag_number tag) v o x v1 o1 of a 4 at made h.bound in
      let ended : AtTail p m.now.words key (tag_number tag) (SawDead (tag_number tag)) v1.pass.since = at_tail p w.slot (tag_number tag) key Absent (SawDead (tag_number tag)) v o v1 o1 m h.stage.1.load in
      record {
        found = tt;
        at = tt;
        absent = (record { slot = w.slot; tag = tag_number tag; made = m; decides = inl (tag_number tag, ended) }, refl, refl);
        known = known_still key Absent h.walk at made e;
        behind = tt;
        ahead = below h.walk q;
        stands = tt;
        ends = ap (λ (z : Getting). z.stage) value;
        bound = allows p w (tag_number tag) v o x v1 o1 of 5 (omega arith) (sym q) (omega arith);
      }
