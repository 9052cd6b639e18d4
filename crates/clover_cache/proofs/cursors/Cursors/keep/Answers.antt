use Rattle.std.proofs.Common.{◌≡◌, ◌∙◌, ℕ, true, Result, Ok, Err, OnOk, OnErr, nat_eq, sym, ap, subst}
use Rattle.std.specs.Result.{is_ok}
use Rattle.std.proofs.lemmas.Result.{on_ok_weaker, on_err_weaker}
use Rattle.clover_words.specs.Tag.{TagParts}
use Rattle.lru.specs.LruCache.{LruCache, lru_cache, put_entries}
use Rattle.clover_cache.specs.Cursors.{IsCursorList, most_cursors, after_keep}
use Rattle.clover_cache.proofs.Keeping.{put_entries-after_keep, IsCursorList-after_keep}
use Rattle.clover_cache.proofs.cursors.Cursors.keep.Goals as goal

either : {T E P : Type 0} (r : Result T E) → OnOk r P → OnErr r P → P
either (Ok x) ok err = ok
either (Err e) ok err = err

when_ok : {T E P : Type 0} (r : Result T E) → OnOk r P → is_ok r ≡ true → P
when_ok (Ok x) ok is = ok
when_ok (Err e) ok is = cc

-- the cache keeps its capacity, and its entries are a list of cursors
abbrev IsSound : LruCache ℕ TagParts → Type 0
IsSound cache = (cache.cap ≡ most_cursors) × IsCursorList cache.entries

put_is_sound : (old new : LruCache ℕ TagParts) (slot : ℕ) (tag : TagParts) → IsSound old → new ≡ lru_cache (put_entries nat_eq old slot tag) old.cap → IsSound new
put_is_sound old new slot tag sound is = subst IsSound (sym is)
    (sound.0, subst IsCursorList (sym (put_entries-after_keep old slot tag sound.0 sound.1)) (IsCursorList-after_keep slot old.entries sound.1 tag))

pub invariant_of-self : goal.invariant_of-self
invariant_of-self c = either c.put.result
    (on_ok_weaker c.put.result (put_is_sound c.self.inside.cache c.put.new.self c.args.slot c.args.tag c.self.invariant) c.put.ensures.entries)
    (on_err_weaker c.put.result (λ same. subst IsSound (sym same) c.self.invariant) c.put.ensures.err)

pub returns-clause-kept : goal.returns-clause-kept
returns-clause-kept c = λ kept.
    ap (λ (cache : LruCache ℕ TagParts). cache.entries) (when_ok c.put.result c.put.ensures.entries (sym c.is_ok.ensures.value ∙ kept))
    ∙ put_entries-after_keep c.self.inside.cache c.args.slot c.args.tag c.self.invariant.0 c.self.invariant.1
    ∙ ap (after_keep c.args.slot c.args.tag) c.self.view_is

pub returns-clause-valid : goal.returns-clause-valid
returns-clause-valid c = (invariant_of-self c).1
