-- what the parts of a line spell, read from their front
use Rattle.std.proofs.Common.{suc, ◌≡◌, ◌<◌, ◌/◌, ◌%◌, ℕ, Bool, true, false, List, [], ◌∷◌, ◌++◌, get_or, refl, sym, ap, ◌∙◌, arith, append_assoc}
use Rattle.std.specs.Prelude.{if◌then◌else◌, codes}
use Rattle.std.proofs.lemmas.Bool.Decides.{nat_tests}
use Rattle.clover_map.specs.Key.{IsKey}
use Rattle.clover_map.specs.declared.bytes.Value.{Value}
use Rattle.clover_map.specs.declared.call.Call.{Call}
use Rattle.clover_map.specs.declared.call.Call.TheVariants.{Get, Put, Delete, Swap}
use Rattle.clover_words.specs.Pack.{AreBytes}
use Rattle.clover_script.specs.Coded.{coded, is_plain, hex_digit}
use Rattle.clover_script.specs.Split.{Lacks}
use Rattle.clover_script.specs.Line.{IsWritten, IsClientCall}
use Rattle.clover_script.specs.Text.{tag_text, value_text, call_text}
use Rattle.clover_script.proofs.CodedLemmas.{one_text}
use Rattle.clover_script.proofs.LineLemmas.{one_split}
use Rattle.clover_script.proofs.PartLemmas.{tag_split}

pub after_same : (w x y : List ℕ) → w ++ x ≡ w ++ y → x ≡ y
after_same [] x y e = e
after_same (b ∷ bs) x y e = let t : bs ++ x ≡ bs ++ y = cc in after_same bs x y t

plain_lacks : (p : Bool) (b : ℕ) (rest : List ℕ) → is_plain b ≡ p → b < 256 → Lacks 32 rest → Lacks 32 ((if p then b ∷ [] else 37 ∷ hex_digit (b / 16) ∷ hex_digit (b % 16) ∷ []) ++ rest)
plain_lacks true b rest is lt h = (grind (arith, nat_tests), h)
plain_lacks false b rest is lt h = (grind (arith), (grind (arith, nat_tests), (grind (arith, nat_tests), h)))

-- no space stands in a coded text
pub coded_lacks : (k : List ℕ) → AreBytes k → Lacks 32 (coded k)
coded_lacks [] are = tt
coded_lacks (b ∷ bs) are = plain_lacks (is_plain b) b (coded bs) refl (are 0) (coded_lacks bs (λ i. are (suc i)))

same_value : (v w : Value) → v.flags ≡ w.flags → v.bytes ≡ w.bytes → v ≡ w
same_value v w p q = λ i. record { flags = p i; bytes = q i }

swap_words : (k t v : List ℕ) → codes "swap " ++ k ++ codes " " ++ t ++ codes " " ++ v ≡ codes "swap " ++ (k ++ 32 ∷ (t ++ 32 ∷ v))
swap_words k t v = simp (append_assoc)

-- a text is one value's
pub one_value : (v w : Value) → IsWritten v → IsWritten w → value_text v ≡ value_text w → v ≡ w
one_value v w f g e = same_value v w (f.0 ∙ sym g.0) (one_text v.bytes w.bytes f.2 g.2 (after_same (61 ∷ []) (coded v.bytes) (coded w.bytes) e))

-- a key and what stands behind the space after it
pub key_split : (k j x y : List ℕ) → IsKey k → IsKey j → coded k ++ 32 ∷ x ≡ coded j ++ 32 ∷ y → (k ≡ j) × (x ≡ y)
key_split k j x y p q e =
    let r = one_split 32 (coded k) (coded j) x y (coded_lacks k p.2) (coded_lacks j q.2) e in
    (one_text k j p.2 q.2 r.0, r.1)

same_put : (k j : List ℕ) (v w : Value) → IsKey k → IsKey j → IsWritten v → IsWritten w → coded k ++ 32 ∷ value_text v ≡ coded j ++ 32 ∷ value_text w → (k ≡ j) × (v ≡ w)
same_put k j v w p q f g e =
    let r = key_split k j (value_text v) (value_text w) p q e in
    (r.0, one_value v w f g r.1)

-- the words of a call's text
abbrev pub put_on : List ℕ → Value → List ℕ
put_on k v = codes "put " ++ (coded k ++ 32 ∷ value_text v)

abbrev pub swap_on : List ℕ → ℕ → Value → List ℕ
swap_on k e v = codes "swap " ++ (coded k ++ 32 ∷ (tag_text e ++ 32 ∷ value_text v))

pub put_parts : (k : List ℕ) (v : Value) → call_text (Put k v) ≡ put_on k v
put_parts k v = simp (append_assoc)

pub swap_parts : (k : List ℕ) (e : ℕ) (v : Value) → call_text (Swap k e v) ≡ swap_on k e v
swap_parts k e v = swap_words (coded k) (tag_text e) (value_text v)

-- two texts with other first bytes
pub apart : (x y : List ℕ) → x ≡ y → get_or x 0 0 ≡ get_or y 0 0
apart x y e = ap (λ (l : List ℕ). get_or l 0 0) e

-- a text is one call's
pub one_client_call : (a b : Call) → IsClientCall a → IsClientCall b → call_text a ≡ call_text b → a ≡ b
one_client_call (Get k) (Get j) p q e = ap Get (one_text k j p.2 q.2 (after_same (codes "get ") (coded k) (coded j) e))
one_client_call (Put k v) (Put j w) p q e =
    let r = same_put k j v w p.0 q.0 p.1 q.1 (after_same (codes "put ") (coded k ++ 32 ∷ value_text v) (coded j ++ 32 ∷ value_text w) (sym (put_parts k v) ∙ e ∙ put_parts j w)) in
    ap (λ (x : List ℕ). Put x v) r.0 ∙ ap (Put j) r.1
one_client_call (Delete k) (Delete j) p q e = ap Delete (one_text k j p.2 q.2 (after_same (codes "delete ") (coded k) (coded j) e))
one_client_call (Swap k t v) (Swap j u w) p q e =
    let words = after_same (codes "swap ") (coded k ++ 32 ∷ (tag_text t ++ 32 ∷ value_text v)) (coded j ++ 32 ∷ (tag_text u ++ 32 ∷ value_text w)) (sym (swap_parts k t v) ∙ e ∙ swap_parts j u w) in
    let keys = key_split k j (tag_text t ++ 32 ∷ value_text v) (tag_text u ++ 32 ∷ value_text w) p.0 q.0 words in
    let tags = tag_split t u (value_text v) (value_text w) p.1 q.1 keys.1 in
    let values = one_value v w p.2 q.2 tags.1 in
    ap (λ (x : List ℕ). Swap x t v) keys.0 ∙ ap (λ (x : ℕ). Swap j x v) tags.0 ∙ ap (Swap j u) values
one_client_call (Get k) (Put j w) p q e = absurd (omega (arith, apart (call_text (Get k)) (call_text (Put j w)) e))
one_client_call (Get k) (Delete j) p q e = absurd (omega (arith, apart (call_text (Get k)) (call_text (Delete j)) e))
one_client_call (Get k) (Swap j u w) p q e = absurd (omega (arith, apart (call_text (Get k)) (call_text (Swap j u w)) e))
one_client_call (Put k v) (Get j) p q e = absurd (omega (arith, apart (call_text (Put k v)) (call_text (Get j)) e))
one_client_call (Put k v) (Delete j) p q e = absurd (omega (arith, apart (call_text (Put k v)) (call_text (Delete j)) e))
one_client_call (Put k v) (Swap j u w) p q e = absurd (omega (arith, apart (call_text (Put k v)) (call_text (Swap j u w)) e))
one_client_call (Delete k) (Get j) p q e = absurd (omega (arith, apart (call_text (Delete k)) (call_text (Get j)) e))
one_client_call (Delete k) (Put j w) p q e = absurd (omega (arith, apart (call_text (Delete k)) (call_text (Put j w)) e))
one_client_call (Delete k) (Swap j u w) p q e = absurd (omega (arith, apart (call_text (Delete k)) (call_text (Swap j u w)) e))
one_client_call (Swap k t v) (Get j) p q e = absurd (omega (arith, apart (call_text (Swap k t v)) (call_text (Get j)) e))
one_client_call (Swap k t v) (Put j w) p q e = absurd (omega (arith, apart (call_text (Swap k t v)) (call_text (Put j w)) e))
one_client_call (Swap k t v) (Delete j) p q e = absurd (omega (arith, apart (call_text (Swap k t v)) (call_text (Delete j)) e))
