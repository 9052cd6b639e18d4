-- one more line of a script, for a check that reads them one behind the other
use Rattle.std.proofs.Common.{◌≡◌, ℕ, List, [], ◌∷◌, ◌++◌, refl, ap, ◌∙◌, inl, inr, append_assoc}
use Rattle.std.proofs.lemmas.List.Elements.{All-nil, All-cons, All-append}
use Rattle.clover_words.specs.declared.setup.Setup.{Setup}
use Rattle.clover_script.specs.Line.{pool_line, numbers_of, IsIgnored, Spoken, IsSpoken, line_text}
use Rattle.clover_script.specs.Lines.{Say, Opens, unopened, begun, IsBefore}

-- a line that is passed over changes nothing
say_over : (lines : List (List ℕ)) (said : List Spoken) (l : List ℕ) → Say lines said → IsIgnored l → Say (lines ++ l ∷ []) said
say_over [] said l h over = inl (over, h)
say_over (k ∷ ks) said l (inl h) over = inl (h.0, say_over ks said l h.1 over)
say_over (k ∷ ks) said l (inr (s, rest, is, e, f, h)) over = inr (s, rest, is, e, f, say_over ks rest l h over)

say_one : (lines : List (List ℕ)) (said : List Spoken) (l : List ℕ) (u : Spoken) → Say lines said → IsSpoken u → l ≡ line_text u → Say (lines ++ l ∷ []) (said ++ u ∷ [])
say_one [] said l u h is e = inr (u, [], is, e, ap (λ (r : List Spoken). r ++ u ∷ []) h, refl)
say_one (k ∷ ks) said l u (inl h) is e = inl (h.0, say_one ks said l u h.1 is e)
say_one (k ∷ ks) said l u (inr (s, rest, i, f, g, h)) is e =
    inr (s, rest ++ u ∷ [], i, f, ap (λ (r : List Spoken). r ++ u ∷ []) g, say_one ks rest l u h is e)

-- lines behind the opening
opens_longer : (lines : List (List ℕ)) (s : Setup) (said now : List Spoken) (l : List ℕ) (o : Opens lines s said) → Say (o.rest ++ l ∷ []) now → Opens (lines ++ l ∷ []) s now
opens_longer lines s said now l o say = record {
  over = o.over;
  rest = o.rest ++ l ∷ [];
  parts = ap (λ (ls : List (List ℕ)). ls ++ l ∷ []) o.parts ∙ append_assoc o.over (pool_line (numbers_of s) ∷ o.rest) (l ∷ []);
  ignored = o.ignored;
  say = say;
}

pub before_over : (lines : List (List ℕ)) (s : Setup) (said : List Spoken) (l : List ℕ) → IsIgnored l → IsBefore lines (begun s said) → IsBefore (lines ++ l ∷ []) (begun s said)
before_over lines s said l over o = opens_longer lines s said said l o (say_over o.rest said l o.say over)

pub unopened_over : (lines : List (List ℕ)) (l : List ℕ) → IsIgnored l → IsBefore lines unopened → IsBefore (lines ++ l ∷ []) unopened
unopened_over lines l over all = All-append IsIgnored lines (l ∷ []) all (All-cons IsIgnored l [] over (All-nil IsIgnored))

-- the pool line
pub before_first : (lines : List (List ℕ)) (s : Setup) (l : List ℕ) → IsBefore lines unopened → l ≡ pool_line (numbers_of s) → IsBefore (lines ++ l ∷ []) (begun s [])
before_first lines s l all e = record { over = lines; rest = []; parts = ap (λ (p : List ℕ). lines ++ p ∷ []) e; ignored = all; say = refl }

-- a line of an actor
pub before_said : (lines : List (List ℕ)) (s : Setup) (said : List Spoken) (l : List ℕ) (u : Spoken) → IsBefore lines (begun s said) → IsSpoken u → l ≡ line_text u → IsBefore (lines ++ l ∷ []) (begun s (said ++ u ∷ []))
before_said lines s said l u o is e = opens_longer lines s said (said ++ u ∷ []) l o (say_one o.rest said l u o.say is e)
