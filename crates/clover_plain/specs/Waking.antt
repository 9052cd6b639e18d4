-- What a power cut leaves of what the actors know.
use Rattle.std.specs.Prelude.{◌≡◌, ℕ, List, Bool, true, false}
use Rattle.clover_words.specs.declared.pool.Pool.{Pool}
use Rattle.clover_map.specs.declared.call.Entry.{Entry}
use Rattle.clover_map.specs.Legal.{used_by}
use Rattle.clover_map.specs.Tagged.{Tagged}
use Rattle.clover_rule.specs.Cut.{AfterCut, Rests, image_of}
use Rattle.clover_rule.specs.Restart.{plan}
use Rattle.clover_rule.specs.Views.{alone, start_pass}
use Rattle.clover_rule.specs.declared.view.RestartStore.{RestartStore}
use Rattle.clover_rule.specs.declared.view.Role.TheVariants.{Restarting}
use Rattle.clover_rule.specs.declared.view.View.{View}

-- what restart knows as it begins: the map and the used tags of the next run, and the stores that it has to make
abbrev pub waking : Pool → Tagged → List ℕ → List RestartStore → View
waking p n used xs = record (alone (start_pass p n used Restarting)) { plan = xs }

-- the image rests with this map and these used tags, and restart has all stores of its plan to make
abbrev pub IsWaking : Pool → List ℕ → Tagged → List ℕ → View → Type 0
IsWaking p im n used v = (r : Rests p im n used) × (v ≡ waking p n used (plan p (image_of p im) r.sound.reads))

-- What restart knows behind a power cut that left this image. Of a pool that ran it has the map of a history that survived, and the tags that the run used; of a pool that was down it has those of the cut before.
abbrev pub IsWoken : Bool → Pool → Tagged → List ℕ → List View → List Entry → List ℕ → View → Type 0
IsWoken true p first used vs h im v = (a : AfterCut p first used vs h im) × (v ≡ waking p a.map (used_by used h) (plan p (image_of p im) a.rests.sound.reads))
IsWoken false p first used vs h im v = IsWaking p im first used v
