-- the lines behind the pool line, as they are written and as they are kept
use Rattle.std.proofs.Common.{◌≡◌, ◌<◌, ◌^◌, ℕ, List, ◌∷◌, ◌++◌, get_or, length, refl, sym, ap, subst, ◌∙◌, inl, inr, arith}
use Rattle.std.specs.Prelude.{decimal, codes}
use Rattle.std.proofs.lemmas.Fmt.{decimal_injective}
use Rattle.clover_script.specs.declared.choice.Choice.{Choice}
use Rattle.clover_script.specs.declared.line.PoolLine.{PoolLine}
use Rattle.clover_script.specs.declared.line.Line.{Line}
use Rattle.clover_script.specs.Choice.{choice_text, cut_text}
use Rattle.clover_script.specs.Line.{IsActor, pool_line, IsPoolLine, Asked, client, recycle, sweep, IsAsked, asked_text, Spoken, says_begin, says_step, says_finish, says_call, says_refuse, says_cut, says_image, IsSpoken, line_text, kept_line, IsLineOf, IsIgnored}
use Rattle.clover_script.specs.Spelling.{SpellsNoTask, SpellsNothingAsked}
use Rattle.clover_script.proofs.PartLemmas.{number_split}
use Rattle.clover_script.proofs.ChoiceLemmas.{one_choice, one_cut_line}
use Rattle.clover_script.proofs.SpellingLemmas.{after_same, apart, one_client_call}
use Rattle.clover_script.proofs.PoolLineLemmas.{pool_parts, nodes_on}

-- a text is one task of an actor
one_asked : (s t : Asked) (a : ℕ) → IsAsked a s → IsAsked a t → asked_text s ≡ asked_text t → s ≡ t
one_asked (client c) (client d) a p q e = ap client (one_client_call c d p.2 q.2 e)
one_asked (client c) (recycle j) a p q e = absurd (omega (arith, p.0, q.0))
one_asked (client c) sweep a p q e = absurd (omega (arith, p.0, q))
one_asked (recycle i) (client d) a p q e = absurd (omega (arith, p.0, q.0))
one_asked (recycle i) (recycle j) a p q e =
    ap recycle (decimal_injective i j (omega (arith, p.1)) (omega (arith, q.1)) (after_same (codes "recycle ") (decimal i) (decimal j) e))
one_asked (recycle i) sweep a p q e = absurd (omega (arith, apart (asked_text (recycle i)) (asked_text sweep) e))
one_asked sweep (client d) a p q e = absurd (omega (arith, p, q.0))
one_asked sweep (recycle j) a p q e = absurd (omega (arith, apart (asked_text sweep) (asked_text (recycle j)) e))
one_asked sweep sweep a p q e = refl

small_actor : (a : ℕ) (s : Asked) → IsAsked a s → a < 2 ^ 64
small_actor a (client c) is = omega (arith, is.1)
small_actor a (recycle slot) is = omega (arith, is.0)
small_actor a sweep is = omega (arith, is)

asked_split : (a b : ℕ) (s t : Asked) → IsAsked a s → IsAsked b t → decimal a ++ 32 ∷ asked_text s ≡ decimal b ++ 32 ∷ asked_text t → (a ≡ b) × (s ≡ t)
asked_split a b s t p q e =
    let r = number_split a b (asked_text s) (asked_text t) (small_actor a s p) (small_actor b t q) e in
    (r.0, one_asked s t a p (subst (λ (n : ℕ). IsAsked n t) (sym r.0) q) r.1)

-- two texts with other second bytes
apart_second : (x y : List ℕ) → x ≡ y → get_or x 1 0 ≡ get_or y 1 0
apart_second x y e = ap (λ (l : List ℕ). get_or l 1 0) e

-- a text is one line
pub one_spoken : (s t : Spoken) → IsSpoken s → IsSpoken t → line_text s ≡ line_text t → s ≡ t
one_spoken (says_begin a x) (says_begin b y) p q e =
    let r = asked_split a b x y p q (after_same (codes "begin ") (decimal a ++ 32 ∷ asked_text x) (decimal b ++ 32 ∷ asked_text y) e) in
    ap (λ (n : ℕ). says_begin n x) r.0 ∙ ap (says_begin b) r.1
one_spoken (says_step a n) (says_step b m) p q e =
    let r = number_split a b (decimal n) (decimal m) (omega (arith, p.0)) (omega (arith, q.0)) (after_same (codes "step ") (decimal a ++ 32 ∷ decimal n) (decimal b ++ 32 ∷ decimal m) e) in
    let times = decimal_injective n m (omega (arith, p.1)) (omega (arith, q.1)) r.1 in
    ap (λ (k : ℕ). says_step k n) r.0 ∙ ap (says_step b) times
one_spoken (says_finish a) (says_finish b) p q e =
    ap says_finish (decimal_injective a b (omega (arith, p)) (omega (arith, q)) (after_same (codes "finish ") (decimal a) (decimal b) e))
one_spoken (says_call a x) (says_call b y) p q e =
    let r = asked_split a b x y p q (after_same (codes "call ") (decimal a ++ 32 ∷ asked_text x) (decimal b ++ 32 ∷ asked_text y) e) in
    ap (λ (n : ℕ). says_call n x) r.0 ∙ ap (says_call b) r.1
one_spoken (says_refuse a) (says_refuse b) p q e =
    ap says_refuse (decimal_injective a b (omega (arith, p)) (omega (arith, q)) (after_same (codes "refuse ") (decimal a) (decimal b) e))
one_spoken (says_cut c x) (says_cut d y) p q e =
    let r = one_cut_line c d x y p.0 q.0 p.1 q.1 (after_same (codes "cut ") (cut_text c x) (cut_text d y) e) in
    ap (λ (k : Choice). says_cut k x) r.0 ∙ ap (says_cut d) r.1
one_spoken (says_image c) (says_image d) p q e = ap says_image (one_choice c d p q (after_same (codes "image ") (choice_text c) (choice_text d) e))
one_spoken (says_call a x) (says_cut d y) p q e = absurd (omega (arith, apart_second (line_text (says_call a x)) (line_text (says_cut d y)) e))
one_spoken (says_cut c x) (says_call b y) p q e = absurd (omega (arith, apart_second (line_text (says_cut c x)) (line_text (says_call b y)) e))
one_spoken s t p q e = absurd (omega (arith, apart (line_text s) (line_text t) e))

-- and is kept in one way
pub one_line : (text : List ℕ) (l m : Line) → IsLineOf text l → IsLineOf text m → l ≡ m
one_line text l m (s, p, e, l_is) (t, q, f, m_is) = l_is ∙ ap kept_line (one_spoken s t p q (sym e ∙ f)) ∙ sym m_is

-- a line that says something is no pool line
pub no_pool : (s : Spoken) (n : PoolLine) → line_text s ≡ pool_line n → ⊥
no_pool (says_begin a x) n e = omega (arith, apart (line_text (says_begin a x)) (pool_line n) e)
no_pool (says_step a x) n e = omega (arith, apart (line_text (says_step a x)) (pool_line n) e)
no_pool (says_finish a) n e = omega (arith, apart (line_text (says_finish a)) (pool_line n) e)
no_pool (says_call a x) n e = omega (arith, apart (line_text (says_call a x)) (pool_line n) e)
no_pool (says_refuse a) n e = omega (arith, apart (line_text (says_refuse a)) (pool_line n) e)
no_pool (says_cut c x) n e = omega (arith, apart (line_text (says_cut c x)) (pool_line n) e)
no_pool (says_image c) n e = omega (arith, apart (line_text (says_image c)) (pool_line n) e)

-- its first byte is no hash
says_first : (s : Spoken) → get_or (line_text s) 0 35 ≡ 35 → ⊥
says_first (says_begin a x) e = omega (arith, e)
says_first (says_step a x) e = omega (arith, e)
says_first (says_finish a) e = omega (arith, e)
says_first (says_call a x) e = omega (arith, e)
says_first (says_refuse a) e = omega (arith, e)
says_first (says_cut c x) e = omega (arith, e)
says_first (says_image c) e = omega (arith, e)

-- and it is not passed over
pub not_ignored : (s : Spoken) → IsIgnored (line_text s) → ⊥
not_ignored s (inl e) = says_first s (ap (λ (l : List ℕ). get_or l 0 35) e)
not_ignored s (inr (rest, e)) = says_first s (ap (λ (l : List ℕ). get_or l 0 35) e)

pub pool_stays : (n : PoolLine) → IsIgnored (pool_line n) → ⊥
pool_stays n (inl e) = omega (arith, ap length (sym (pool_parts n) ∙ e))
pool_stays n (inr (rest, e)) = omega (arith, apart (nodes_on n) (35 ∷ rest) (sym (pool_parts n) ∙ e))

pub apart_lines : (text : List ℕ) → ((line : Line) → IsLineOf text line → (IsPoolLine text → ⊥) × (IsIgnored text → ⊥)) × (IsPoolLine text → IsIgnored text → ⊥)
apart_lines text = (
  λ line of. (λ pool. no_pool of.0 pool.0 (sym of.2 ∙ pool.2), λ over. not_ignored of.0 (subst IsIgnored of.2 over)),
  λ pool over. pool_stays pool.0 (subst IsIgnored pool.2 over),
)

-- a text whose actor is followed by none of its tasks
pub no_asked : (text words : List ℕ) (a : ℕ) → IsActor a → text ≡ decimal a ++ 32 ∷ words → SpellsNoTask a words → SpellsNothingAsked text
no_asked text words a is e none b asked p f =
    let r = number_split a b words (asked_text asked) (omega (arith, is)) (small_actor b asked p) (sym e ∙ f) in
    none asked (subst (λ (n : ℕ). IsAsked n asked) (sym r.0) p) r.1
