-- The law of openings: whatever sound image the words are, the rule holds over views that begin.
use Rattle.std.proofs.Common.{◌≡◌, ℕ, zero, suc, ◌<◌, ◌&&◌, List, [], append-nil, Bool, true, false, cond, eqb, ltb, refl, sym, ap, ◌∙◌, arith, subst, eq-eqb, ne_eqb, true≢false}
use Rattle.std.specs.Prelude.{Option, Some, None}
use Rattle.std.proofs.lemmas.Bool.{lt-ltb}
use Rattle.std.proofs.lemmas.Bool.Decides.{nat_tests}
use native.Mathlib.Decide.{dec_le}
use mathlib.Core.Logic.{dite}
use Rattle.clover_words.specs.declared.pool.Pool.{Pool}
use Rattle.clover_words.specs.Tag.{home}
use Rattle.clover_map.specs.Tagged.{Tagged}
use Rattle.clover_rule.specs.Content.{inside}
use Rattle.clover_rule.specs.Laws.{OpeningLaw}
use Rattle.clover_rule.specs.Lists.{Each, Within, nth}
use Rattle.clover_rule.specs.Memory.{Mem, gen}
use Rattle.clover_rule.specs.Opening.{FirstServer, FirstViews, Opening, Owners, Starts, opened_book}
use Rattle.clover_rule.specs.Rule.{Rule}
use Rattle.clover_rule.specs.Server.{Serves, book_of, is_home}
use Rattle.clover_rule.specs.Story.{Chained, Stocked, Free, Worn, Story, tag_at}
use Rattle.clover_rule.specs.Views.{Apart, book, free_or_worn}
use Rattle.clover_rule.specs.Words.{mem_of}
use Rattle.clover_rule.specs.declared.view.BufferState.TheVariants.{Free as IsFree, Worn as IsWorn, Bound as IsBound, Out as IsOut}
use Rattle.clover_rule.specs.declared.view.Server.{Server}
use Rattle.clover_rule.specs.declared.view.ServerTask.TheVariants.{Idle}
use Rattle.clover_rule.specs.declared.view.View.{View}
use Rattle.clover_rule.proofs.Opening.{open_core, open_whole, opened, placed, rest_place, versions_tag}
use Rattle.clover_rule.proofs.Tools.{nth_within, nth_some}
use Rattle.clover_rule.proofs.TwelveParts.{rule_holds}

module _ (p : Pool) (first : Tagged) (used ws : List ℕ) (vs : List View) (o : Opening p first used ws) (v : FirstViews p first used ws o vs) where
  abbrev m : Mem
  m = mem_of p ws

  -- no view has a stock
  abbrev owner : ℕ → Option ℕ
  owner = λ (b : ℕ). None

  nobody : (i : ℕ) → ◌≡◌ {A = Option ℕ} None (Some i) → ⊥
  nobody i e = absurd cc

  owners : Owners p o.image o.opens.spot owner
  owners = record { off = λ b i e. absurd (nobody i e); in_pool = λ b i e. absurd (nobody i e); young = λ b i e. absurd (nobody i e) }

  abbrev st : Story
  st = opened p o.image o.sound first used m o.opens owner owners

  starts : (i : ℕ) (y : View) → nth vs i ≡ Some y → Starts m o.opens.bindings owner i y
  starts i y e = let b = v.begins i y e in record {
    stock = subst (Each (λ (t : ℕ). (owner (home t) ≡ Some i) × _)) (sym b.stock) tt;
    apart = subst Apart (sym b.stock) tt;
    names = b.names;
    most = b.most;
    nothing = b.nothing;
  }

  root_is : (s : ℕ) → tag_at st s 0 ≡ o.image.root s
  root_is s = sym ((open_core p o.image o.sound first used m o.opens owner owners).root s) ∙ (o.opens.root s).0

  -- the first tag of a chain stands in the buffer exactly where the buffer stands first
  first_home : (b s i : ℕ) → o.opens.spot b ≡ Some (s, i) → is_home (tag_at st s 0) b ≡ eqb i 0
  first_home b s i e = go i e (o.opens.from b s i e)
    where
      head : (i : ℕ) → (t : ℕ) × (nth (o.sound.chain s) i ≡ Some t) × (home t ≡ b) → tag_at st s 0 ≡ nth (o.sound.chain s) 0
      head i f = versions_tag (o.sound.chain s) (o.sound.value s) 0

      go : (i : ℕ) → o.opens.spot b ≡ Some (s, i) → (t : ℕ) × (nth (o.sound.chain s) i ≡ Some t) × (home t ≡ b) → is_home (tag_at st s 0) b ≡ eqb i 0
      go zero e f = ap (λ (x : Option ℕ). is_home x b) (head zero f ∙ f.1) ∙ eq-eqb (home f.0) b f.2
      go (suc i) e f =
          let long = nth_within (o.sound.chain s) (suc i) f.0 f.1 in
          let u = nth_some (o.sound.chain s) 0 (omega arith) in
          ap (λ (x : Option ℕ). is_home x b) (head (suc i) f ∙ u.1) ∙ ne_eqb (home u.0) b (λ z. let y : ◌≡◌ {A = Option (ℕ × ℕ)} (Some (s, 0)) (Some (s, suc i)) = sym (o.opens.on s 0 u.0 u.1) ∙ ap o.opens.spot z ∙ e in absurd (zero_no_suc i y)) ∙ sym (ne_eqb (suc i) 0 (λ z. absurd (omega arith)))
        where
          place_in : Option (ℕ × ℕ) → ℕ
          place_in None = 0
          place_in (Some q) = q.1

          zero_no_suc : (i : ℕ) → ◌≡◌ {A = Option (ℕ × ℕ)} (Some (s, 0)) (Some (s, suc i)) → ⊥
          zero_no_suc i y = let z : 0 ≡ suc i = ap place_in y in absurd (omega arith)

  gen_is : (b : ℕ) → gen (m.next b) ≡ gen (o.image.next b)
  gen_is b = ap gen (o.opens.next b).0

  -- the books of the opened story
  says : (b : ℕ) → inside p b ≡ true → (x : Option (ℕ × ℕ)) → o.opens.spot b ≡ x → opened_book p o.image x b ≡ book_of Idle st (placed x (rest_place None (inside p b && ltb (gen (o.image.next b)) p.wear))) (gen (o.image.next b)) b
  says b i (Some q) e = ap (λ (t : Bool). book (gen (o.image.next b)) (cond t IsBound IsOut)) (sym (first_home b q.0 q.1 e))
  says b i None e = rest (ltb (gen (o.image.next b)) p.wear) refl ∙ ap (λ (t : Bool). book_of Idle st (rest_place None (t && ltb (gen (o.image.next b)) p.wear)) (gen (o.image.next b)) b) (sym i)
    where
      rest : (t : Bool) → ltb (gen (o.image.next b)) p.wear ≡ t → book (gen (o.image.next b)) (free_or_worn p.wear (gen (o.image.next b))) ≡ book_of Idle st (rest_place None t) (gen (o.image.next b)) b
      rest true f = ap (λ (t : Bool). book (gen (o.image.next b)) (cond t IsWorn IsFree)) (ne_eqb (gen (o.image.next b)) p.wear (λ z. let a : gen (o.image.next b) < p.wear = grind (arith, nat_tests) in absurd (omega arith)))
      rest false f = ap (λ (t : Bool). book (gen (o.image.next b)) (cond t IsWorn IsFree)) (eq-eqb (gen (o.image.next b)) p.wear (let a = o.sound.own b in dite (dec_le (suc (gen (o.image.next b))) p.wear) (λ l. absurd (true≢false (sym (lt-ltb (gen (o.image.next b)) p.wear l) ∙ f))) (λ n. omega arith)))

  serves : (sv : Server) → FirstServer p first used ws o sv → Serves p m st Idle sv
  serves sv f = record {
    task_is = f.task;
    directory = f.directory ∙ sym (append-nil o.opens.bindings);
    roots = λ s. f.roots s ∙ sym (root_is s);
    books = λ b i. f.books b i ∙ says b i (o.opens.spot b) refl ∙ ap (λ (g : ℕ). book_of Idle st (st.place b) g b) (sym (gen_is b));
  }

  no_stock : (b i : ℕ) → st.place b ≡ Stocked i → (z : View) × (nth vs i ≡ Some z) × (u : ℕ) × Within u z.pass.stock × (home u ≡ b)
  no_stock b i e = go (o.opens.spot b) (inside p b && ltb (gen (o.image.next b)) p.wear) e
    where
      go : (x : Option (ℕ × ℕ)) (t : Bool) → placed x (rest_place None t) ≡ Stocked i → (z : View) × (nth vs i ≡ Some z) × (u : ℕ) × Within u z.pass.stock × (home u ≡ b)
      go (Some q) t f = absurd (let z : Chained q.0 ≡ Stocked i = f in cc)
      go None true f = absurd (let z : Free ≡ Stocked i = f in cc)
      go None false f = absurd (let z : Worn ≡ Stocked i = f in cc)

  pub opened_rule : Rule p first used ws vs []
  opened_rule = rule_holds p first used ws vs st [] (record {
    sized = o.sized;
    decodes = o.decodes;
    same = λ i y e. (v.begins i y e).run;
    still = λ i y e. ap (λ (z : View). z.plan) (sym (v.begins i y e).nothing);
    stocks = no_stock;
    whole = open_whole p o.image o.sound first used m o.opens owner owners vs starts v.numbered v.some (λ i y e s. serves y.server (v.serves i y e s)) v.one v.made;
  })

pub opening_law : OpeningLaw
opening_law p first used ws vs o v = opened_rule p first used ws vs o v
