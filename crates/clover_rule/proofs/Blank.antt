-- The pool before any store: its image has no chain, and a run begins from it.
use Rattle.std.proofs.Common.{◌≡◌, ℕ, ◌+◌, ◌&&◌, List, [], Bool, true, false, cond, refl, sym, ap, arith, subst, nat_lt, ne_eqb}
use Rattle.std.specs.Prelude.{None}
use Rattle.clover_words.specs.declared.pool.Pool.{Pool}
use Rattle.clover_words.specs.declared.word.Word.{Word}
use Rattle.clover_words.specs.declared.word.Word.TheVariants.{Next as NextOf, Root, Short, Key, Count, Meta, Value as ValueOf}
use Rattle.clover_words.specs.declared.word.Side.TheVariants.{Current, Flushed}
use Rattle.clover_words.specs.Version.{buffer_at, content_at}
use Rattle.clover_map.specs.Tagged.{Tagged}
use Rattle.clover_rule.specs.Content.{inside}
use Rattle.clover_rule.specs.Image.{Image}
use Rattle.clover_rule.specs.Laws.{BlankLaw, IsBlank}
use Rattle.clover_rule.specs.Meets.{IsCode}
use Rattle.clover_rule.specs.Memory.{Mem, word}
use Rattle.clover_rule.specs.Opening.{BlankOpening, Opens}
use Rattle.clover_rule.specs.Sound.{Sound}
use Rattle.clover_rule.specs.Views.{book, free_or_worn}
use Rattle.clover_rule.specs.Words.{mem_of, guarded, next_of, root_of}
use Rattle.clover_rule.specs.declared.view.BufferState.TheVariants.{Free as IsFree, Worn as IsWorn}
use Rattle.clover_rule.proofs.KeyMaps.{shows}
use Rattle.clover_rule.proofs.Ties.{mem_path}

abbrev pub blank_image : Image
blank_image = record { next = λ (b : ℕ). word 0 None; root = λ (s : ℕ). None; body = λ (b j : ℕ). 0; key = λ (s j : ℕ). 0 }

abbrev pub blank_mem : Mem
blank_mem = record { next = λ (b : ℕ). word 0 None; fnext = λ (b : ℕ). word 0 None; body = λ (b j : ℕ). 0; fbody = λ (b j : ℕ). 0; root = λ (s : ℕ). None; froot = λ (s : ℕ). None; short = λ (s : ℕ). None; count = 0; key = λ (s j : ℕ). 0; fkey = λ (s j : ℕ). 0 }

unfoldable pub blank_sound : (l : Pool) → Sound l blank_image
blank_sound l = record {
  own = λ b. omega arith;
  target = λ b t e. absurd cc;
  root = λ s t e. absurd cc;
  key = λ s t e. absurd cc;
  same = λ s1 s2 t1 t2 k e1 e2 q1 q2. absurd cc;
  chain = λ s. [];
  walk = λ s. tt;
  once = λ s1 s2 i1 i2 t1 t2 e1 e2 q. absurd cc;
  value = λ s i. None;
  contents = λ s i t e. absurd cc;
  inside = λ s t e. absurd cc;
}

guard_same : {A : Type 0} (b : Bool) (x z : A) → x ≡ z → guarded b x z ≡ z
guard_same true x z e = e
guard_same false x z e = refl

zero_code : (w : Word) → IsCode w 0
zero_code (NextOf b) = refl
zero_code (Meta b) = tt
zero_code (ValueOf b k) = tt
zero_code (Root s) = refl
zero_code (Key s k) = tt
zero_code (Short s) = refl
zero_code Count = tt

-- words of 0 decode to nothing
blank_words : (p : Pool) (ws : List ℕ) → IsBlank p ws → mem_of p ws ≡ blank_mem
blank_words p ws (sized, zeros) = mem_path _ _ record {
  next = λ b. guard_same (inside p b) _ (word 0 None) (ap next_of (zeros (NextOf (buffer_at b)) Current));
  fnext = λ b. guard_same (inside p b) _ (word 0 None) (ap next_of (zeros (NextOf (buffer_at b)) Flushed));
  body = λ b k. guard_same (inside p b && nat_lt k (1 + p.words)) _ 0 (zeros (content_at b k) Current);
  fbody = λ b k. guard_same (inside p b && nat_lt k (1 + p.words)) _ 0 (zeros (content_at b k) Flushed);
  root = λ s. guard_same (nat_lt s p.slots) _ None (ap root_of (zeros (Root s) Current));
  froot = λ s. guard_same (nat_lt s p.slots) _ None (ap root_of (zeros (Root s) Flushed));
  short = λ s. guard_same (nat_lt s p.slots) _ None (ap root_of (zeros (Short s) Current));
  count = zeros Count Current;
  key = λ s k. guard_same (nat_lt s p.slots && nat_lt k 32) _ 0 (zeros (Key s k) Current);
  fkey = λ s k. guard_same (nat_lt s p.slots && nat_lt k 32) _ 0 (zeros (Key s k) Flushed);
}

module _ (p : Pool) (first : Tagged) (ws : List ℕ) (blank : IsBlank p ws) (empty : (k : List ℕ) → shows first k ≡ None) where
  words_are : mem_of p ws ≡ blank_mem
  words_are = blank_words p ws blank

  opens : Opens p blank_image (blank_sound p) first [] (mem_of p ws)
  unfolding blank_sound
  opens = record {
    next = λ b. (ap (λ (m : Mem). m.next b) words_are, ap (λ (m : Mem). m.fnext b) words_are);
    root = λ s. (ap (λ (m : Mem). m.root s) words_are, ap (λ (m : Mem). m.froot s) words_are);
    body = λ b j. (ap (λ (m : Mem). m.body b j) words_are, ap (λ (m : Mem). m.fbody b j) words_are);
    key = λ s j. (ap (λ (m : Mem). m.key s j) words_are, ap (λ (m : Mem). m.fkey s j) words_are);
    short = λ s. ap (λ (m : Mem). m.short s) words_are;
    spot = λ b. None;
    on = λ s i t e. absurd cc;
    from = λ b s i e. absurd cc;
    off = λ b e. refl;
    keys = λ s. None;
    keyed = λ s t e. absurd cc;
    valid = λ s k e. absurd cc;
    bare = λ s e. refl;
    bindings = [];
    listed = λ s k e. absurd cc;
    bound = λ s k e. absurd e;
    once = λ i j s k k1 e f. absurd cc;
    count = ap (λ (m : Mem). m.count) words_are;
    slot_named = λ k. 0;
    found = λ s k e. absurd cc;
    map_is = λ s k e. absurd cc;
    map_else = λ k e. empty k;
    used_is = tt;
  }

  young : free_or_worn p.wear 0 ≡ IsFree
  young = ap (λ (t : Bool). cond t IsWorn IsFree) (ne_eqb 0 p.wear (λ e. let w = p.some_wear in absurd (omega arith)))

  pub blank_opening : BlankOpening p first ws
  unfolding opens
  blank_opening = record {
    opening = record { sized = blank.0; decodes = λ w s hw hs. subst (IsCode w) (sym (blank.1 w s)) (zero_code w); image = blank_image; sound = blank_sound p; opens = opens };
    unbound = refl;
    unrooted = λ s. refl;
    free = λ b i. ap (book 0) young;
  }

pub blank_law : BlankLaw
blank_law p first ws blank empty = blank_opening p first ws blank empty
