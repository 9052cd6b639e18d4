-- What the server of a small pool stands on as its run begins, where it is to bind a key.
use Rattle.std.proofs.Common.{◌≡◌, ℕ, zero, suc, ◌<◌, ◌/◌, ◌%◌, List, [], ◌∷◌, get_or, replicate, true, refl, sym, ap, arith, subst}
use Rattle.std.specs.Prelude.{Option, None}
use Rattle.std.specs.Option.{option_map}
use Rattle.clover_words.specs.declared.setup.Setup.{Setup}
use Rattle.clover_words.specs.Place.{IsBuffer}
use Rattle.clover_words.specs.Tag.{TagParts, age, home, tag_number}
use Rattle.clover_words.specs.Version.{buffer_at}
use Rattle.clover_rule.specs.Content.{inside}
use Rattle.clover_rule.specs.Moves.{giving, lines_out}
use Rattle.clover_rule.specs.Views.{book, find_book}
use Rattle.clover_rule.specs.declared.view.BufferState.TheVariants.{Free}
use Rattle.clover_rule.proofs.Keeping.{inside_of}
use Rattle.clover_plain.specs.Plain.{first_view}
use Rattle.clover_plain.proofs.Opening.{server_role}
use Rattle.clover_dir.specs.Directory.{nothing_bound}
use Rattle.clover_dir.specs.Holding.{BindHolds}
use Rattle.clover_dir.specs.Task.{made_bind}
use Rattle.clover_pools.specs.Small.{HasSmallNumbers}

-- buffer 2 at generation 0
abbrev pub third : TagParts
third = record { node = 0; index = 2; generation = 0 }

pub home_third : home 2097152 ≡ 2
unfolding home
home_third = refl

pub age_third : age 2097152 ≡ 0
unfolding age
age_third = refl

-- it is free where nothing was handed out
pub third_free : find_book (lines_out [] []) (home 2097152) ≡ book (age 2097152) Free
third_free = ap (λ (g : ℕ). book g Free) (sym age_third)

none_there : (n i : ℕ) → get_or (replicate n (let x : Option TagParts = None in x)) i None ≡ None
none_there zero i = refl
none_there (suc n) zero = refl
none_there (suc n) (suc i) = none_there n i

module _ (s : Setup) (few : HasSmallNumbers s) where
  pub in_pool : (t b : ℕ) → home t ≡ b → b < 4 → b % 65536 ≡ b → b / 65536 ≡ 0 → inside s.pool (home t) ≡ true
  in_pool t b e low m d = let a = few.nodes in let c = few.buffers in
      inside_of s.pool (home t) (subst (λ (n : ℕ). IsBuffer s.pool (buffer_at n)) (sym e) (record { node = omega arith; index = omega arith }))

  -- the server may begin to bind `a` to slot 0, with buffer 2 for the tombstone, once it has handed these tags out
  pub begins : (tags : List ℕ) → find_book (lines_out [] tags) (home 2097152) ≡ book (age 2097152) Free → BindHolds s.pool (made_bind 0 (97 ∷ []) third) (nothing_bound s.pool) (giving tags (first_view s 1))
  begins tags free = let a = few.clients in let c = few.slots in record {
    at = record { server = server_role s 1 (omega arith); task_is = refl };
    directory = record { pool = refl; list = refl; roots = λ slot. sym (ap (option_map tag_number) (none_there s.pool.slots slot)) };
    enter = record { inside = omega arith; unbound = λ b. b.1; new = λ slot w. w };
    buffer = in_pool 2097152 2 home_third (omega arith) refl refl;
    free = free;
  }
