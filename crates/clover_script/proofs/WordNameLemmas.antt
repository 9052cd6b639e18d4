-- the names of words
use Rattle.std.proofs.Common.{◌≡◌, ◌<◌, ◌^◌, ℕ, List, [], ◌++◌, refl, sym, ap, ◌∙◌, arith, append_assoc, append-nil}
use Rattle.std.specs.Prelude.{decimal, codes}
use Rattle.clover_words.specs.declared.word.Buffer.{Buffer}
use Rattle.clover_words.specs.declared.word.Word.{Word}
use Rattle.clover_words.specs.declared.word.Word.TheVariants.{Next, Meta, Value, Root, Key, Short, Count}
use Rattle.clover_words.specs.declared.word.Side.{Side}
use Rattle.clover_words.specs.declared.word.Side.TheVariants.{Current, Flushed}
use Rattle.clover_script.specs.Split.{Lacks, EndsNumber}
use Rattle.clover_script.specs.Text.{IsNumberedBuffer, IsNumbered, buffer_text, word_text, copy_text}
use Rattle.clover_script.proofs.NumberLemmas.{one_number}
use Rattle.clover_script.proofs.PartLemmas.{number_lacks, lacks_append}
use Rattle.clover_script.proofs.SpellingLemmas.{after_same, apart}

-- two numbers with a dot between them
abbrev pair_text : ℕ → ℕ → List ℕ
pair_text a b = decimal a ++ (codes "." ++ decimal b)

pair_then : (a b : ℕ) (x : List ℕ) → pair_text a b ++ x ≡ decimal a ++ (codes "." ++ (decimal b ++ x))
pair_then a b x = simp (append_assoc)

one_pair : (a b c d : ℕ) (x y : List ℕ) → a < 2 ^ 32 → b < 2 ^ 32 → c < 2 ^ 32 → d < 2 ^ 32 → EndsNumber x → EndsNumber y
    → pair_text a b ++ x ≡ pair_text c d ++ y → (a ≡ c) × (b ≡ d) × (x ≡ y)
one_pair a b c d x y p q r s ex ey e =
    let front = one_number a c (codes "." ++ (decimal b ++ x)) (codes "." ++ (decimal d ++ y)) (omega (arith, p)) (omega (arith, r)) (λ h. omega (arith, h.0)) (λ h. omega (arith, h.0)) (sym (pair_then a b x) ∙ e ∙ pair_then c d y) in
    let back = one_number b d x y (omega (arith, q)) (omega (arith, s)) ex ey (after_same (codes ".") (decimal b ++ x) (decimal d ++ y) front.1) in
    (front.0, back.0, back.1)

one_buffer : (a b : Buffer) (x y : List ℕ) → IsNumberedBuffer a → IsNumberedBuffer b → EndsNumber x → EndsNumber y → buffer_text a ++ x ≡ buffer_text b ++ y → (a ≡ b) × (x ≡ y)
one_buffer a b x y p q ex ey e =
    let r = one_pair a.node a.index b.node b.index x y p.0 p.1 q.0 q.1 ex ey e in
    ((λ i. record { node = r.0 i; index = r.1 i }), r.2)

part_then : (b : Buffer) (k : ℕ) (x : List ℕ) → (buffer_text b ++ (codes "." ++ decimal k)) ++ x ≡ buffer_text b ++ (codes "." ++ (decimal k ++ x))
part_then b k x = simp (append_assoc)

one_part : (a b : Buffer) (k l : ℕ) (x y : List ℕ) → IsNumberedBuffer a × (k < 2 ^ 32) → IsNumberedBuffer b × (l < 2 ^ 32) → EndsNumber x → EndsNumber y
    → (buffer_text a ++ (codes "." ++ decimal k)) ++ x ≡ (buffer_text b ++ (codes "." ++ decimal l)) ++ y → (a ≡ b) × (k ≡ l) × (x ≡ y)
one_part a b k l x y p q ex ey e =
    let front = one_buffer a b (codes "." ++ (decimal k ++ x)) (codes "." ++ (decimal l ++ y)) p.0 q.0 (λ h. omega (arith, h.0)) (λ h. omega (arith, h.0)) (sym (part_then a k x) ∙ e ∙ part_then b l y) in
    let back = one_number k l x y (omega (arith, p.1)) (omega (arith, q.1)) ex ey (after_same (codes ".") (decimal k ++ x) (decimal l ++ y) front.1) in
    (front.0, back.0, back.1)

-- a text is in one way the name of a word and what no digit begins
pub one_name : (v w : Word) (x y : List ℕ) → IsNumbered v → IsNumbered w → EndsNumber x → EndsNumber y → word_text v ++ x ≡ word_text w ++ y → (v ≡ w) × (x ≡ y)
one_name (Next a) (Next b) x y p q ex ey e =
    let r = one_buffer a b x y p q ex ey (after_same (codes "N") (buffer_text a ++ x) (buffer_text b ++ y) e) in (ap Next r.0, r.1)
one_name (Meta a) (Meta b) x y p q ex ey e =
    let r = one_buffer a b x y p q ex ey (after_same (codes "M") (buffer_text a ++ x) (buffer_text b ++ y) e) in (ap Meta r.0, r.1)
one_name (Value a k) (Value b l) x y p q ex ey e =
    let r = one_part a b k l x y p q ex ey (after_same (codes "V") ((buffer_text a ++ (codes "." ++ decimal k)) ++ x) ((buffer_text b ++ (codes "." ++ decimal l)) ++ y) e) in
    (ap (λ (c : Buffer). Value c k) r.0 ∙ ap (Value b) r.1, r.2)
one_name (Root s) (Root t) x y p q ex ey e =
    let r = one_number s t x y (omega (arith, p)) (omega (arith, q)) ex ey (after_same (codes "R") (decimal s ++ x) (decimal t ++ y) e) in (ap Root r.0, r.1)
one_name (Key s k) (Key t l) x y p q ex ey e =
    let r = one_pair s k t l x y p.0 p.1 q.0 q.1 ex ey (after_same (codes "K") (pair_text s k ++ x) (pair_text t l ++ y) e) in
    (ap (λ (c : ℕ). Key c k) r.0 ∙ ap (Key t) r.1, r.2)
one_name (Short s) (Short t) x y p q ex ey e =
    let r = one_number s t x y (omega (arith, p)) (omega (arith, q)) ex ey (after_same (codes "S") (decimal s ++ x) (decimal t ++ y) e) in (ap Short r.0, r.1)
one_name Count Count x y p q ex ey e = (refl, after_same (codes "C") x y e)
one_name v w x y p q ex ey e = absurd (omega (arith, apart (word_text v ++ x) (word_text w ++ y) e))

-- which the name of a flushed copy is not
no_flag : (v w : Word) → word_text v ≡ codes "f" ++ word_text w → ⊥
no_flag (Next b) w e = omega (arith, apart (word_text (Next b)) (codes "f" ++ word_text w) e)
no_flag v w e = omega (arith, apart (word_text v) (codes "f" ++ word_text w) e)

-- a text is the name of one copy of one word
pub one_copy : (v w : Word) (s t : Side) → IsNumbered v → IsNumbered w → copy_text v s ≡ copy_text w t → (v ≡ w) × (s ≡ t)
one_copy v w Current Current p q e =
    ((one_name v w [] [] p q tt tt (append-nil (word_text v) ∙ e ∙ sym (append-nil (word_text w)))).0, refl)
one_copy v w Flushed Flushed p q e =
    ((one_name v w [] [] p q tt tt (append-nil (word_text v) ∙ after_same (codes "f") (word_text v) (word_text w) e ∙ sym (append-nil (word_text w)))).0, refl)
one_copy v w Current Flushed p q e = absurd (no_flag v w e)
one_copy v w Flushed Current p q e = absurd (no_flag w v (sym e))

pair_lacks : (a b : ℕ) → a < 2 ^ 32 → b < 2 ^ 32 → Lacks 32 (pair_text a b)
pair_lacks a b p q = lacks_append 32 (decimal a) (codes "." ++ decimal b) (number_lacks a (omega (arith, p))) ((λ e. omega (arith, e)), number_lacks b (omega (arith, q)))

-- no space stands in the name of a word
pub name_lacks : (w : Word) → IsNumbered w → Lacks 32 (word_text w)
name_lacks (Next b) is = ((λ e. omega (arith, e)), pair_lacks b.node b.index is.0 is.1)
name_lacks (Meta b) is = ((λ e. omega (arith, e)), pair_lacks b.node b.index is.0 is.1)
name_lacks (Value b k) is =
    ((λ e. omega (arith, e)), lacks_append 32 (buffer_text b) (codes "." ++ decimal k) (pair_lacks b.node b.index is.0.0 is.0.1) ((λ e. omega (arith, e)), number_lacks k (omega (arith, is.1))))
name_lacks (Root s) is = ((λ e. omega (arith, e)), number_lacks s (omega (arith, is)))
name_lacks (Key s k) is = ((λ e. omega (arith, e)), pair_lacks s k is.0 is.1)
name_lacks (Short s) is = ((λ e. omega (arith, e)), number_lacks s (omega (arith, is)))
name_lacks Count is = ((λ e. omega (arith, e)), tt)
