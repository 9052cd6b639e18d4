-- The stores of a buffer that goes on.
use Rattle.std.proofs.Common.{◌≡◌, ◌+◌, ◌*◌, List, [], ◌∷◌, ◌++◌, ap, ◌∙◌, append_assoc}
use Rattle.std.specs.Prelude.{map}
use Rattle.std.proofs.lemmas.List.{map-append}
use Rattle.clover_words.specs.Tag.{TagParts, IsTag}
use Rattle.clover_words.specs.declared.word.Side.TheVariants.{Current, Flushed}
use Rattle.clover_words.proofs.Versions.{home_tag, age_tag}
use Rattle.clover_rule.specs.declared.view.RestartStore.TheVariants.{Lift as LiftNext, LiftFlushed}
use Rattle.clover_restart.specs.Stores.{store_of}
use Rattle.clover_restart.specs.declared.store.Store.{Store}
use Rattle.clover_restart.specs.declared.store.Store.TheVariants.{Lift}

-- two stores more
pub two_more : (xs ys zs : List Store) (a b : Store) → ys ≡ xs ++ a ∷ [] → zs ≡ ys ++ b ∷ [] → map store_of zs ≡ map store_of xs ++ store_of a ∷ store_of b ∷ []
two_more xs ys zs a b e f =
    ap (map store_of) (f ∙ ap (λ (us : List Store). us ++ b ∷ []) e ∙ append_assoc xs (a ∷ []) (b ∷ [])) ∙ map-append store_of xs (a ∷ b ∷ [])

-- those of a buffer
pub lifted_more : (xs ys zs : List Store) (t : TagParts) → IsTag t → ys ≡ xs ++ Lift t Current ∷ [] → zs ≡ ys ++ Lift t Flushed ∷ [] → map store_of zs ≡ map store_of xs ++ LiftNext (t.node * 65536 + t.index) t.generation ∷ LiftFlushed (t.node * 65536 + t.index) t.generation ∷ []
lifted_more xs ys zs t h e f = two_more xs ys zs (Lift t Current) (Lift t Flushed) e f ∙ (λ i. map store_of xs ++ LiftNext (home_tag t h i) (age_tag t h i) ∷ LiftFlushed (home_tag t h i) (age_tag t h i) ∷ [])
