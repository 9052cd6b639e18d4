-- What a restart's stores do to the decoded words: some clear roots, the others come later and leave roots alone.
use Rattle.std.proofs.Common.{◌≡◌, ℕ, suc, ◌⊎◌, List, [], ◌∷◌, ◌++◌, Bool, true, refl, sym, ap, ◌∙◌, inl, inr, ⊎_elim}
use native.Mathlib.Decide.{ℕ_discrete}
use mathlib.Core.Logic.{dite}
use Rattle.std.specs.Prelude.{Option, None}
use Rattle.clover_rule.specs.Lists.{upd, Each}
use Rattle.clover_rule.specs.Memory.{Mem, Next, word}
use Rattle.clover_rule.specs.declared.view.RestartStore.{RestartStore}
use Rattle.clover_rule.specs.declared.view.RestartStore.TheVariants.{ClearRoot, ClearFlushedRoot, Lift, LiftFlushed, SetCount}
use Rattle.clover_rule.proofs.Tools.{upd_same, upd_else}

-- the decoded words after a store, and after some stores
abbrev pub store_mem : Mem → RestartStore → Mem
store_mem m (ClearRoot s) = record m { root = upd m.root s None }
store_mem m (ClearFlushedRoot s) = record m { froot = upd m.froot s None }
store_mem m (Lift b g) = record m { next = upd m.next b (word g None) }
store_mem m (LiftFlushed b g) = record m { fnext = upd m.fnext b (word g None) }
store_mem m (SetCount n) = record m { count = n }

abbrev pub stores_mem : Mem → List RestartStore → Mem
stores_mem m [] = m
stores_mem m (x ∷ xs) = stores_mem (store_mem m x) xs

pub stores_both : (xs ys : List RestartStore) (m : Mem) → stores_mem m (xs ++ ys) ≡ stores_mem (stores_mem m xs) ys
stores_both [] ys m = refl
stores_both (x ∷ xs) ys m = stores_both xs ys (store_mem m x)

-- the store clears a copy of a root
abbrev pub IsClear : RestartStore → Type 0
IsClear (ClearRoot s) = Unit {0}
IsClear (ClearFlushedRoot s) = Unit {0}
IsClear x = ⊥

-- the store lifts a buffer or sets the count
abbrev pub IsLater : RestartStore → Type 0
IsLater (Lift b x) = Unit {0}
IsLater (LiftFlushed b x) = Unit {0}
IsLater (SetCount n) = Unit {0}
IsLater x = ⊥

-- clearing roots leaves the next words
pub nexts_kept : (m : Mem) (xs : List RestartStore) → Each IsClear xs → ((stores_mem m xs).next ≡ m.next) × ((stores_mem m xs).fnext ≡ m.fnext)
nexts_kept m [] e = (refl, refl)
nexts_kept m (ClearRoot s ∷ xs) e = nexts_kept (store_mem m (ClearRoot s)) xs e.1
nexts_kept m (ClearFlushedRoot s ∷ xs) e = nexts_kept (store_mem m (ClearFlushedRoot s)) xs e.1
nexts_kept m (Lift b x ∷ xs) e = absurd e.0
nexts_kept m (LiftFlushed b x ∷ xs) e = absurd e.0
nexts_kept m (SetCount n ∷ xs) e = absurd e.0

-- what comes later leaves the roots
pub roots_kept : (m : Mem) (xs : List RestartStore) → Each IsLater xs → ((stores_mem m xs).root ≡ m.root) × ((stores_mem m xs).froot ≡ m.froot)
roots_kept m [] e = (refl, refl)
roots_kept m (Lift b x ∷ xs) e = roots_kept (store_mem m (Lift b x)) xs e.1
roots_kept m (LiftFlushed b x ∷ xs) e = roots_kept (store_mem m (LiftFlushed b x)) xs e.1
roots_kept m (SetCount n ∷ xs) e = roots_kept (store_mem m (SetCount n)) xs e.1
roots_kept m (ClearRoot s ∷ xs) e = absurd e.0
roots_kept m (ClearFlushedRoot s ∷ xs) e = absurd e.0

-- no store is on a shortcut
pub shorts_kept : (m : Mem) (xs : List RestartStore) → (stores_mem m xs).short ≡ m.short
shorts_kept m [] = refl
shorts_kept m (ClearRoot s ∷ xs) = shorts_kept (store_mem m (ClearRoot s)) xs
shorts_kept m (ClearFlushedRoot s ∷ xs) = shorts_kept (store_mem m (ClearFlushedRoot s)) xs
shorts_kept m (Lift b x ∷ xs) = shorts_kept (store_mem m (Lift b x)) xs
shorts_kept m (LiftFlushed b x ∷ xs) = shorts_kept (store_mem m (LiftFlushed b x)) xs
shorts_kept m (SetCount n ∷ xs) = shorts_kept (store_mem m (SetCount n)) xs

module _ (gone on : ℕ → Bool) (g : ℕ → ℕ) where
  -- the store clears a root of a slot that is gone, lifts a buffer that goes on to behind its generation, or sets the count
  abbrev pub IsFit : RestartStore → Type 0
  IsFit (ClearRoot s) = gone s ≡ true
  IsFit (ClearFlushedRoot s) = gone s ≡ true
  IsFit (Lift b x) = (on b ≡ true) × (x ≡ suc (g b))
  IsFit (LiftFlushed b x) = (on b ≡ true) × (x ≡ suc (g b))
  IsFit (SetCount n) = Unit {0}

  -- the next word of a buffer that went on
  abbrev pub up : ℕ → Next
  up b = word (suc (g b)) None

  -- each root is as before, or a slot that is gone has none
  abbrev pub Roots : (ℕ → Option ℕ) → (ℕ → Option ℕ) → Type 0
  Roots f f0 = (s : ℕ) → (f s ≡ f0 s) ⊎ ((f s ≡ None) × (gone s ≡ true))

  -- each next word is as before, or the buffer went on
  abbrev pub Nexts : (ℕ → Next) → (ℕ → Next) → Type 0
  Nexts f f0 = (b : ℕ) → (f b ≡ f0 b) ⊎ ((f b ≡ up b) × (on b ≡ true))

  -- what some of such stores may leave
  pub record Between (m0 m : Mem) : Type 0 where
    pub root : Roots m.root m0.root
    pub froot : Roots m.froot m0.froot
    pub next : Nexts m.next m0.next
    pub fnext : Nexts m.fnext m0.fnext
    pub body : m.body ≡ m0.body
    pub fbody : m.fbody ≡ m0.fbody
    pub key : m.key ≡ m0.key
    pub fkey : m.fkey ≡ m0.fkey

  roots_store : (f f0 : ℕ → Option ℕ) (s : ℕ) → gone s ≡ true → Roots f f0 → Roots (upd f s None) f0
  roots_store f f0 s d r s1 = dite (ℕ_discrete s1 s) (λ e. inr (ap (upd f s None) e ∙ upd_same f s None, ap gone e ∙ d))
      (λ n. ⊎_elim {C = (upd f s None s1 ≡ f0 s1) ⊎ ((upd f s None s1 ≡ None) × (gone s1 ≡ true))} (λ a. inl (upd_else f s s1 None n ∙ a)) (λ a. inr (upd_else f s s1 None n ∙ a.0, a.1)) (r s1))

  nexts_store : (f f0 : ℕ → Next) (b x : ℕ) → on b ≡ true → x ≡ suc (g b) → Nexts f f0 → Nexts (upd f b (word x None)) f0
  nexts_store f f0 b x d q r b1 = dite (ℕ_discrete b1 b) (λ e. inr (ap (upd f b (word x None)) e ∙ upd_same f b (word x None) ∙ ap (λ (n : ℕ). word n None) (q ∙ ap (λ (n : ℕ). suc (g n)) (sym e)), ap on e ∙ d))
      (λ n. ⊎_elim {C = (upd f b (word x None) b1 ≡ f0 b1) ⊎ ((upd f b (word x None) b1 ≡ up b1) × (on b1 ≡ true))} (λ a. inl (upd_else f b b1 (word x None) n ∙ a)) (λ a. inr (upd_else f b b1 (word x None) n ∙ a.0, a.1)) (r b1))

  between_store : (m0 m : Mem) (x : RestartStore) → IsFit x → Between m0 m → Between m0 (store_mem m x)
  between_store m0 m (ClearRoot s) f a = record { root = roots_store m.root m0.root s f a.root; froot = a.froot; next = a.next; fnext = a.fnext; body = a.body; fbody = a.fbody; key = a.key; fkey = a.fkey }
  between_store m0 m (ClearFlushedRoot s) f a = record { root = a.root; froot = roots_store m.froot m0.froot s f a.froot; next = a.next; fnext = a.fnext; body = a.body; fbody = a.fbody; key = a.key; fkey = a.fkey }
  between_store m0 m (Lift b x) f a = record { root = a.root; froot = a.froot; next = nexts_store m.next m0.next b x f.0 f.1 a.next; fnext = a.fnext; body = a.body; fbody = a.fbody; key = a.key; fkey = a.fkey }
  between_store m0 m (LiftFlushed b x) f a = record { root = a.root; froot = a.froot; next = a.next; fnext = nexts_store m.fnext m0.fnext b x f.0 f.1 a.fnext; body = a.body; fbody = a.fbody; key = a.key; fkey = a.fkey }
  between_store m0 m (SetCount n) f a = record { root = a.root; froot = a.froot; next = a.next; fnext = a.fnext; body = a.body; fbody = a.fbody; key = a.key; fkey = a.fkey }

  between_more : (m0 m : Mem) (xs : List RestartStore) → Each IsFit xs → Between m0 m → Between m0 (stores_mem m xs)
  between_more m0 m [] e a = a
  between_more m0 m (x ∷ xs) e a = between_more m0 (store_mem m x) xs e.1 (between_store m0 m x e.0 a)

  pub between : (m : Mem) (xs : List RestartStore) → Each IsFit xs → Between m (stores_mem m xs)
  between m xs e = between_more m m xs e (record { root = λ s. inl refl; froot = λ s. inl refl; next = λ b. inl refl; fnext = λ b. inl refl; body = refl; fbody = refl; key = refl; fkey = refl })

  -- each slot that is gone has no root
  pub record Cleared (m : Mem) : Type 0 where
    pub root : (s : ℕ) → gone s ≡ true → m.root s ≡ None
    pub froot : (s : ℕ) → gone s ≡ true → m.froot s ≡ None
