-- Which commits a power cut took is seen at the ends of the chains: in the current copies as they were at the cut, and in the image that it left.
use Rattle.std.specs.List.{last_or}
use Rattle.std.specs.Prelude.{◌≡◌, ◌≢◌, ℕ, ◌<◌, List, take, Bool, true, Option, Some, None}
use Rattle.clover_words.specs.declared.pool.Pool.{Pool}
use Rattle.clover_words.specs.Place.{durable_words}
use Rattle.clover_map.specs.declared.call.Entry.{Entry}
use Rattle.clover_map.specs.Tagged.{Tagged}
use Rattle.clover_rule.specs.Cut.{AfterCut, IsCut, IsSound}
use Rattle.clover_rule.specs.History.{Version, commit_of}
use Rattle.clover_rule.specs.Lists.{Within}
use Rattle.clover_rule.specs.Rule.{Rule}
use Rattle.clover_rule.specs.declared.view.View.{View}

-- the current copies of the durable words
abbrev pub current_copies : Pool → List ℕ → List ℕ
current_copies p ws = take (durable_words p) ws

-- the last tag of a chain
abbrev pub last_tag : List ℕ → Option ℕ
last_tag ts = last_or None ts

-- the slot's chain ends in this tag in the one image, and in another one in the other image
pub record EndsOtherwise (p : Pool) (now im : List ℕ) (here : IsSound p now) (there : IsSound p im) (s t : ℕ) : Type 0 where
  pub inside : s < p.slots
  pub ends : last_tag (here.reads.chain s) ≡ Some t
  pub before : ℕ
  pub other : last_tag (there.reads.chain s) ≡ Some before
  pub apart : before ≢ t

-- the tag is that of a commit of the history
abbrev pub IsCommitted : List Entry → ℕ → Type 0
IsCommitted h t = (e : Entry) × (w : Version) × Within e h × (commit_of e ≡ Some w) × (w.tag ≡ t)

-- The current copies are a sound image too. However the two are found sound, a tag that ends a slot's chain in the current copies, where another one ends it in the image that is left, is that of a lost commit, and each lost commit's tag is such a one.
-- Where the image has no chain of the slot, its binding was not finished, and the tag is that of no commit.
pub record Marks (p : Pool) (ws im : List ℕ) (h : List Entry) (lost : ℕ → Bool) : Type 0 where
  pub now : IsSound p (current_copies p ws)
  pub image : IsSound p im
  pub took : (here : IsSound p (current_copies p ws)) (there : IsSound p im) (s t : ℕ) → EndsOtherwise p (current_copies p ws) im here there s t → (lost t ≡ true) × IsCommitted h t
  pub only : (here : IsSound p (current_copies p ws)) (there : IsSound p im) (e : Entry) (w : Version) → Within e h → commit_of e ≡ Some w → lost w.tag ≡ true → (s : ℕ) × EndsOtherwise p (current_copies p ws) im here there s w.tag
  pub unfinished : (here : IsSound p (current_copies p ws)) (there : IsSound p im) (s t : ℕ) → last_tag (here.reads.chain s) ≡ Some t → last_tag (there.reads.chain s) ≡ None → IsCommitted h t → ⊥

-- Which commits a cut took is seen at the ends of the chains, whichever of the histories that survive one takes.
abbrev pub MarksLaw : Type 0
MarksLaw = (p : Pool) (first : Tagged) (used ws : List ℕ) (vs : List View) (h : List Entry) (im : List ℕ) → Rule p first used ws vs h → IsCut p ws im → (a : AfterCut p first used vs h im) → Marks p ws im h a.survives.lost
