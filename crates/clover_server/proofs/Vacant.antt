-- That a buffer which the books have as free is one that nobody has.
use Rattle.std.proofs.Common.{◌≡◌, ◌≢◌, ℕ, suc, ◌≤◌, List, [], ◌∷◌, ◌++◌, true, sym, ap, ◌∙◌, arith}
use native.Mathlib.Decide.{dec_le}
use mathlib.Core.Logic.{dite}
use Rattle.std.specs.Prelude.{Some}
use Rattle.clover_words.specs.declared.pool.Pool.{Pool}
use Rattle.clover_words.specs.Tag.{TagParts, IsTag, age, home, tag_number}
use Rattle.clover_words.specs.Version.{buffer_at}
use Rattle.clover_words.proofs.Versions.{buffer_tag}
use Rattle.clover_map.specs.Legal.{used_by}
use Rattle.clover_rule.specs.Buffers.{AtRest, BuffersInOnePlace}
use Rattle.clover_rule.specs.Content.{inside}
use Rattle.clover_rule.specs.Lists.{Each}
use Rattle.clover_rule.specs.Meets.{Meets}
use Rattle.clover_rule.specs.Memory.{Mem, gen}
use Rattle.clover_rule.specs.Story.{Chained, Stocked, Free as IsFreePlace, Core, Story, tag_at, tag_in_version}
use Rattle.clover_rule.specs.Views.{book, book_at}
use Rattle.clover_rule.specs.Words.{mem_of}
use Rattle.clover_rule.specs.declared.view.BufferState.TheVariants.{Free as ViewFree}
use Rattle.clover_rule.specs.declared.view.View.{View}
use Rattle.clover_rule.proofs.ServerTools.{free_place}
use Rattle.clover_rule.proofs.Snocs.{within_nth}
use Rattle.clover_rule.proofs.Steps.{each_map, each_of}
use Rattle.clover_alloc.specs.Ledger.{Ledger, buffer_of_tag, book as line_of}
use Rattle.clover_alloc.specs.Lines.{line}
use Rattle.clover_alloc.specs.declared.line.Line.{Line}
use Rattle.clover_alloc.specs.declared.line.Place.{Place as BookPlace}
use Rattle.clover_alloc.specs.declared.line.Place.TheVariants.{Free, Out}
use Rattle.clover_server.specs.Holding.{Agrees, reserved, seen_book}
use Rattle.clover_server.specs.Laws.{FreeLaw, IsOld}
use Rattle.clover_server.specs.Server.{ServerState}

-- a buffer that the books have as free is that of no tag that was taken
untaken : (books : Ledger) (b g : ℕ) → line_of books (buffer_at b) ≡ line g Free → (taken : List TagParts) → Each IsTag taken → Each (λ (t : TagParts). line_of books (buffer_of_tag t) ≡ line t.generation Out) taken
    → Each (λ (t : TagParts). home (tag_number t) ≢ b) taken
untaken books b g free [] tags out = tt
untaken books b g free (t ∷ ts) tags out = (is_free, untaken books b g free ts tags.1 out.1)
  where
    is_free : home (tag_number t) ≢ b
    is_free e =
        let z : line g Free ≡ line t.generation Out = sym free ∙ ap (line_of books) (ap buffer_at (sym e) ∙ buffer_tag t tags.0) ∙ out.0 in
        let y : ◌≡◌ {A = BookPlace} Free Out = ap (λ (l : Line). l.place) z in cc

-- the view has it as free as well
seen_free : (p : Pool) (ahead : List TagParts) (s : ServerState) (v : View) (b g : ℕ) → Agrees p ahead s v → inside p b ≡ true → line_of s.books (buffer_at b) ≡ line g Free → book_at v.server b ≡ book g ViewFree
seen_free p ahead s v b g a i free = let k = a.books in k.same b i (untaken s.books b g free (ahead ++ reserved s.task) k.tags k.out) ∙ ap seen_book free

-- a version of a buffer that is on no chain was passed
passed_there : (m : Mem) (st : Story) → Core m st → (b : ℕ) → st.place b ≡ IsFreePlace → (slot i t : ℕ) → tag_at st slot i ≡ Some t → IsOld m b t
passed_there m st c b free slot i t e here = dite (dec_le (st.gone slot) i)
    (λ stands. absurd (let z : Chained slot ≡ IsFreePlace = sym (c.standing slot i t e stands).placed ∙ ap st.place here ∙ free in cc))
    (λ gone. (c.passed slot i t e (omega (arith, gone))).later)

pub vacant : FreeLaw
vacant p first used ws vs h rule v s ahead b g server agrees here free = record {
  unchained = λ slot. each_of (λ (t : ℕ). home t ≢ b) (rule.chain slot) (λ t w e. let z : Chained slot ≡ IsFreePlace = sym (places.chained slot t w) ∙ ap rule.place e ∙ place in cc);
  unstocked = λ w at. let n = within_nth w vs at in each_map (λ t q e. let z : Stocked n.0 ≡ IsFreePlace = sym q ∙ ap rule.place e ∙ place in cc) w.pass.stock (places.stocked n.0 w n.1).0;
  shortcut = λ slot t e. let d = help.whole.help.short slot t e in old slot d.0 t d.1;
  handed = each_used_old (used_by used h) rule.history_and_map.old (rule.history_and_map.unfree v server);
  known = λ w at. let n = within_nth w vs at in let k = (help.whole.basis.views n.0 w n.1).knows in record {
    durable = each_map (λ q d. old q.0 d.0 q.1 d.1) w.pass.durable k.durable;
    links = each_map (λ l d. (old l.slot d.0 l.from d.1, old l.slot (suc d.0) l.to d.2)) w.pass.links k.links;
    copied = each_map (λ q d. old q.0 d.0 q.1.tag (ap tag_in_version d.2 ∙ ap Some d.3)) w.pass.copied k.copied;
  };
  rest = at_rest;
}
  where
    m : Mem
    m = mem_of p ws

    st : Story
    st = rule.story

    places : BuffersInOnePlace p vs rule.chain rule.task rule.place
    places = rule.buffers_in_one_place

    help : Meets p first used ws vs rule.story h
    help = rule.helped

    seen : book_at v.server b ≡ book g ViewFree
    seen = seen_free p ahead s v b g agrees here free

    place : rule.place b ≡ IsFreePlace
    place = places.free v server b g here seen

    at_rest : AtRest m b g
    at_rest = rule.stocks_at_rest.free v server b g here seen

    in_story : st.place b ≡ IsFreePlace
    in_story = let q = help.whole.serves server.0 v server.1 server.2 in (free_place st.task st (st.place b) (gen (m.next b)) b g (sym (q.books b here) ∙ seen)).0

    same : (t : ℕ) → age t ≤ gen (m.next (home t)) → gen (m.next (home t)) ≤ age t → gen (m.next (home t)) ≡ age t
    same t least most = omega (arith, least, most)

    -- a used tag that was not passed would be at the generation at which the buffer is free
    used_old : (t : ℕ) → age t ≤ gen (m.next (home t)) → (inside p (home t) ≡ true → book_at v.server (home t) ≡ book (age t) ViewFree → ⊥) → IsOld m b t
    used_old t least unfree e = dite (dec_le (gen (m.next (home t))) (age t))
        (λ most. absurd (unfree (ap (inside p) e ∙ here) (ap (book_at v.server) e ∙ seen ∙ ap (λ (n : ℕ). book n ViewFree) (sym (ap gen at_rest.0) ∙ ap (λ (x : ℕ). gen (m.next x)) (sym e) ∙ same t least most))))
        (λ less. omega (arith, less))

    each_used_old : (ts : List ℕ) → Each (λ (t : ℕ). age t ≤ gen (m.next (home t))) ts → Each (λ (t : ℕ). inside p (home t) ≡ true → book_at v.server (home t) ≡ book (age t) ViewFree → ⊥) ts → Each (IsOld m b) ts
    each_used_old [] x y = tt
    each_used_old (t ∷ ts) x y = (used_old t x.0 y.0, each_used_old ts x.1 y.1)

    old : (slot i t : ℕ) → tag_at st slot i ≡ Some t → IsOld m b t
    old = passed_there m st help.whole.basis.core b in_story
