-- That the rule allows each access of a binding.
use Rattle.std.proofs.Common.{◌≡◌, ◌≢◌, ℕ, ◌+◌, ◌/◌, ◌<◌, ◌≤◌, List, [], ◌∷◌, ◌++◌, length, length-append, append-nil, refl, sym, ap, ◌∙◌, arith, subst}
use Rattle.std.specs.Prelude.{Some}
use Rattle.clover_words.specs.declared.pool.Pool.{Pool}
use Rattle.clover_words.specs.Place.{IsWithin}
use Rattle.clover_words.specs.Tag.{tag_number, home}
use Rattle.clover_words.specs.Version.{content_at}
use Rattle.clover_map.specs.Key.{IsKey}
use Rattle.clover_rule.specs.Asks.{Asks}
use Rattle.clover_rule.specs.Content.{spelling}
use Rattle.clover_rule.specs.Lists.{nth, Within}
use Rattle.clover_rule.specs.Server.{waiting_name}
use Rattle.clover_rule.specs.declared.view.ServerTask.{ServerTask}
use Rattle.clover_rule.specs.declared.view.View.{View}
use Rattle.clover_rule.proofs.Spelling.{length_words, nth_all}
use Rattle.clover_rule.proofs.Ties.{content_in}
use Rattle.clover_dir.specs.Directory.{Bindings}
use Rattle.clover_dir.specs.Holding.{BindHolds}
use Rattle.clover_dir.specs.Task.{UnderWay, IsPlaced, IsUnderWay, bind_step, key_length, staged, word_at}
use Rattle.clover_dir.specs.declared.stage.Stage.{Stage}
use Rattle.clover_dir.specs.declared.stage.Stage.TheVariants.{Tombstone, FlushedTombstone, Key, FlushedKey, Root, FlushedRoot, Count, Over}

-- a key has as many words as spell it
pub long_key : (key : List ℕ) → length (spelling key) ≡ key_length key
unfolding spelling
long_key key = length_words (length key ∷ key) 0 ((length (length key ∷ key) + 7) / 8) ∙ (let e : length (length key ∷ key) + 7 ≡ length key + 8 = omega arith in ap (λ (n : ℕ). n / 8) e)

pub word_is : (key : List ℕ) (j : ℕ) → j < key_length key → nth (spelling key) j ≡ Some (word_at key j)
unfolding spelling
word_is key j h = nth_all (length key ∷ key) j (let e : length (length key ∷ key) + 7 ≡ length key + 8 = omega arith in let z = ap (λ (n : ℕ). n / 8) e in omega arith)

few_words : (key : List ℕ) → IsKey key → key_length key ≤ 32
few_words key k = let m = k.1 in omega arith

module _ (p : Pool) (c : UnderWay) (d : Bindings) (v : View) where
  from : (at : Stage) → at ≢ Over → IsKey c.key → IsPlaced (key_length c.key) at → BindHolds p (staged c at) d v → Asks p (bind_step (staged c at) d) v
  from at is key place h = by at is place h
    where
      slot : c.slot < p.slots
      slot = subst (λ (q : Pool). c.slot < q.slots) h.directory.pool h.enter.inside

      meta : IsWithin p (content_at (home (tag_number c.own)) 0)
      meta = content_in p (home (tag_number c.own)) 0 h.buffer (omega arith)

      in_list : (task : ServerTask) → v.server.task ≡ task → waiting_name task ≡ [] → d.list ≡ v.server.directory
      in_list task e f = sym (append-nil d.list) ∙ ap (λ (l : List (ℕ × List ℕ)). d.list ++ l) (sym (ap waiting_name e ∙ f)) ∙ sym h.directory.list

      by : (at : Stage) → at ≢ Over → IsPlaced (key_length c.key) at → BindHolds p (staged c at) d v → Asks p (bind_step (staged c at) d) v
      by Tombstone is place h = (
        meta,
        record {
          idle = h.at;
          free = h.free;
          buffer = h.buffer;
          slot = slot;
          key = key;
          unbound = λ k w. h.enter.unbound (k, subst (Within (c.slot, k)) (sym (in_list _ h.at.task_is refl)) w);
          unnamed = λ s w. h.enter.new s (subst (Within (s, c.key)) (sym (in_list _ h.at.task_is refl)) w);
        },
      )
      by FlushedTombstone is place h = (meta, h.at)
      by (Key j) is place h = ((slot, (let f = few_words c.key key in omega arith)), (h.at, word_is c.key j place))
      by (FlushedKey j) is place h = ((slot, (let f = few_words c.key key in omega arith)), (h.at, word_is c.key j place))
      by Root is place h = (slot, h.at)
      by FlushedRoot is place h = (slot, h.at)
      by Count is place h = (tt, (h.at, (let e = ap length (h.directory.list ∙ ap (λ (t : ServerTask). d.list ++ waiting_name t) h.at.task_is) ∙ length-append d.list ((c.slot, c.key) ∷ []) in omega arith)))
      by Over is place h = absurd (is refl)

pub bind_asks : (p : Pool) (c : UnderWay) (d : Bindings) (v : View) → c.stage ≢ Over → IsUnderWay c → BindHolds p c d v → Asks p (bind_step c d) v
bind_asks p c d v is k h = from p c d v c.stage is k.key k.place h
