-- Lists of accesses that grow by one at their end, and the story of a pool's accesses.
use Rattle.std.proofs.Common.{◌≡◌, ℕ, ◌+◌, List, [], ◌∷◌, ◌++◌, length, length-append, Bool, true, false, ◌&&◌, cond, refl, sym, ap, ◌∙◌, subst, arith}
use Rattle.std.proofs.lemmas.List.{append_assoc}
use Rattle.clover_words.specs.declared.pool.Pool.{Pool}
use Rattle.clover_rule.specs.Accesses.{CameBack, words_after_act, ActsReplay, done}
use Rattle.clover_rule.specs.declared.access.Access.{Access}
use Rattle.clover_rule.specs.declared.access.Act.{Act}
use Rattle.clover_rule.specs.Steps.{Step, act_of}
use Rattle.clover_plain.specs.Plain.{Plain, HasStory, Leads, Refused, Stepped, access, after_acts, counted, grown}

pub done_more : (xs : List Access) (x : Access) → x.refused ≡ false → done (xs ++ x ∷ []) ≡ done xs ++ x.act ∷ []
done_more [] x e = ap (λ (b : Bool). cond b [] (x.act ∷ [])) e
done_more (y ∷ xs) x e = pick y.refused y.act (done_more xs x e)
  where
    pick : (b : Bool) (a : Act) → done (xs ++ x ∷ []) ≡ done xs ++ x.act ∷ [] → cond b (done (xs ++ x ∷ [])) (a ∷ done (xs ++ x ∷ [])) ≡ cond b (done xs) (a ∷ done xs) ++ x.act ∷ []
    pick true a f = f
    pick false a f = ap (λ (l : List Act). a ∷ l) f

pub done_refused : (xs : List Access) (x : Access) → x.refused ≡ true → done (xs ++ x ∷ []) ≡ done xs
done_refused [] x e = ap (λ (b : Bool). cond b [] (x.act ∷ [])) e
done_refused (y ∷ xs) x e = ap (λ (l : List Act). cond y.refused l (y.act ∷ l)) (done_refused xs x e)

pub replay_more : (p : Pool) (ws : List ℕ) (acts : List Act) (a : Act) → ActsReplay p ws acts → CameBack p (after_acts p ws acts) a → ActsReplay p ws (acts ++ a ∷ [])
replay_more p ws [] a r c = (c, tt)
replay_more p ws (b ∷ acts) a r c = (r.0, replay_more p (words_after_act p ws b) acts a r.1 c)

pub after_more : (p : Pool) (ws : List ℕ) (acts : List Act) (a : Act) → after_acts p ws (acts ++ a ∷ []) ≡ words_after_act p (after_acts p ws acts) a
after_more p ws [] a = refl
after_more p ws (b ∷ acts) a = after_more p (words_after_act p ws b) acts a

count_more : (n : ℕ) → counted (counted n + 1) ≡ counted (n + 1)
count_more n = omega arith

-- with an access behind them, all accesses are those before and the ones since with that access
pub more_at_end : (earlier since : List Access) (x : Access) → earlier ++ (since ++ x ∷ []) ≡ (earlier ++ since) ++ x ∷ []
more_at_end earlier since x = sym (append_assoc earlier since (x ∷ []))

-- an access that was made
pub leads_more : (p : Pool) (start ws us : List ℕ) (n m : ℕ) (earlier since : List Access) (x : Access) → Leads p start ws n earlier since → x.refused ≡ false → CameBack p ws x.act → us ≡ words_after_act p ws x.act → m ≡ counted (n + 1) → Leads p start us m earlier (since ++ x ∷ [])
leads_more p start ws us n m earlier since x l e c w k =
    let all : List Access = earlier ++ since in record {
      replays = subst (ActsReplay p start) (sym (done_more since x e)) (replay_more p start (done since) x.act l.replays (subst (λ (z : List ℕ). CameBack p z x.act) (sym l.ends) c));
      ends = ap (after_acts p start) (done_more since x e) ∙ after_more p start (done since) x.act ∙ ap (λ (z : List ℕ). words_after_act p z x.act) l.ends ∙ sym w;
      count = k ∙ ap (λ (z : ℕ). counted (z + 1)) l.count ∙ count_more (length (done all)) ∙ ap counted (sym (length-append (done all) (x.act ∷ [])))
          ∙ ap (λ (z : List Act). counted (length z)) (sym (done_more all x e)) ∙ ap (λ (z : List Access). counted (length (done z))) (sym (more_at_end earlier since x));
    }

-- a refused access
pub leads_refused : (p : Pool) (start ws : List ℕ) (n : ℕ) (earlier since : List Access) (x : Access) → Leads p start ws n earlier since → x.refused ≡ true → Leads p start ws n earlier (since ++ x ∷ [])
leads_refused p start ws n earlier since x l e = record {
  replays = subst (ActsReplay p start) (sym (done_refused since x e)) l.replays;
  ends = ap (after_acts p start) (done_refused since x e) ∙ l.ends;
  count = l.count ∙ ap (λ (z : List Act). counted (length z)) (sym (done_refused (earlier ++ since) x e)) ∙ ap (λ (z : List Access). counted (length (done z))) (sym (more_at_end earlier since x));
}

-- where the test is true, both are
pub both : (s t : Bool) → (s && t) ≡ true → (s ≡ true) × (t ≡ true)
both true true e = (refl, refl)
both true false e = absurd cc
both false t e = absurd cc

-- the story of accesses behind one that was made, and behind one that was refused
pub story_stepped : (a : Step) (b list : Bool) (seat x : ℕ) (p q : Plain) → HasStory p → CameBack p.setup.pool p.words (act_of a x) → q.words ≡ words_after_act p.setup.pool p.words (act_of a x) → Stepped a b list seat x p q → HasStory q
story_stepped a b list seat x p q t came words st =
    let y : Access = access p.setup seat (act_of a x) false in
    let since : List Access = t.1 ++ y ∷ [] in (
      t.0,
      since,
      subst (λ (n : Pool). Leads n q.start q.words q.made t.0 since) (ap (λ s. s.pool) (sym st.same.setup))
          (subst (λ (l : List ℕ). Leads p.setup.pool l q.words q.made t.0 since) (sym st.same.start) (leads_more p.setup.pool p.start p.words q.words p.made q.made t.0 t.1 y t.2 refl came words st.made)),
      λ d w.
          let s = both p.whole list (sym st.whole ∙ w) in
          let e : p.traced ≡ true = sym st.same.traced ∙ d in
          more_at_end t.0 t.1 y ∙ ap (λ (l : List Access). l ++ y ∷ []) (t.3 e s.0)
          ∙ sym (ap (λ (z : Bool). grown (z && list) p.accesses y) e ∙ ap (λ (z : Bool). grown z p.accesses y) s.1) ∙ sym st.accesses,
    )

pub story_refused : (a : Act) (seat : ℕ) (p q : Plain) → HasStory p → Refused a seat p q → HasStory q
story_refused a seat p q t st =
    let y : Access = access p.setup seat a true in
    let since : List Access = t.1 ++ y ∷ [] in (
      t.0,
      since,
      subst (λ (n : Pool). Leads n q.start q.words q.made t.0 since) (ap (λ s. s.pool) (sym st.same.setup))
          (subst (λ (l : List ℕ). Leads p.setup.pool l q.words q.made t.0 since) (sym st.same.start)
          (subst (λ (l : List ℕ). Leads p.setup.pool p.start l q.made t.0 since) (sym st.words)
          (subst (λ (n : ℕ). Leads p.setup.pool p.start p.words n t.0 since) (sym st.made) (leads_refused p.setup.pool p.start p.words p.made t.0 t.1 y t.2 refl)))),
      λ d w.
          let e : p.traced ≡ true = sym st.same.traced ∙ d in
          more_at_end t.0 t.1 y ∙ ap (λ (l : List Access). l ++ y ∷ []) (t.3 e (sym st.whole ∙ w)) ∙ sym (ap (λ (z : Bool). grown z p.accesses y) e) ∙ sym st.accesses,
    )

-- without a trace nothing is listed, also behind one more access
pub untraced_stepped : (a : Step) (b list : Bool) (seat x : ℕ) (p q : Plain) → (p.traced ≡ false → p.accesses ≡ []) → Stepped a b list seat x p q → q.traced ≡ false → q.accesses ≡ []
untraced_stepped a b list seat x p q none st t =
    let e : p.traced ≡ false = sym st.same.traced ∙ t in
    st.accesses ∙ ap (λ (z : Bool). grown (z && list) p.accesses (access p.setup seat (act_of a x) false)) e ∙ none e

pub untraced_refused : (a : Act) (seat : ℕ) (p q : Plain) → (p.traced ≡ false → p.accesses ≡ []) → Refused a seat p q → q.traced ≡ false → q.accesses ≡ []
untraced_refused a seat p q none st t =
    let e : p.traced ≡ false = sym st.same.traced ∙ t in
    st.accesses ∙ ap (λ (z : Bool). grown z p.accesses (access p.setup seat a true)) e ∙ none e
