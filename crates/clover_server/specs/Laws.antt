-- How a server comes to agree with its view, and that it does so again once a batch is handed over; what the rule says of a buffer that its books have as free, and of the tags that a history hands out.
use Rattle.std.specs.Prelude.{◌≡◌, ◌≢◌, ℕ, [], ◌∷◌, List, map, true, Some, None}
use Rattle.clover_words.specs.declared.pool.Pool.{Pool}
use Rattle.clover_words.specs.declared.setup.Setup.{Setup}
use Rattle.clover_words.specs.declared.word.Buffer.{Buffer}
use Rattle.clover_words.specs.Place.{IsBuffer}
use Rattle.clover_words.specs.Tag.{TagParts, home, tag_number}
use Rattle.clover_words.specs.Version.{buffer_at}
use Rattle.clover_map.specs.Legal.{used_by}
use Rattle.clover_map.specs.Tagged.{Tagged}
use Rattle.clover_map.specs.Tags.{IsFresh, new_tags}
use Rattle.clover_map.specs.declared.call.Entry.{Entry}
use Rattle.clover_rule.specs.Asks.{IsAt}
use Rattle.clover_rule.specs.Buffers.{AtRest}
use Rattle.clover_rule.specs.Content.{inside}
use Rattle.clover_rule.specs.Holding.{IsServer}
use Rattle.clover_rule.specs.Known.{HasPassed}
use Rattle.clover_rule.specs.Lists.{Each, Within, nth}
use Rattle.clover_rule.specs.Memory.{Mem}
use Rattle.clover_rule.specs.Moves.{giving}
use Rattle.clover_rule.specs.Rule.{Rule}
use Rattle.clover_rule.specs.Words.{mem_of}
use Rattle.clover_rule.specs.declared.view.Content.{Content}
use Rattle.clover_rule.specs.declared.view.Link.{Link}
use Rattle.clover_rule.specs.declared.view.ServerTask.TheVariants.{Idle}
use Rattle.clover_rule.specs.declared.view.View.{View}
use Rattle.clover_alloc.specs.Ledger.{Ledger, IsLedger, book}
use Rattle.clover_alloc.specs.Lines.{line}
use Rattle.clover_alloc.specs.declared.line.Place.TheVariants.{Free}
use Rattle.clover_dir.specs.Directory.{nothing_bound}
use Rattle.clover_server.specs.Holding.{Agrees}
use Rattle.clover_server.specs.Server.{ServerState, new_server}

-- the server's view as a run begins with words of 0: nothing is unfinished, bound, or written in its books
pub record IsFirstServer (v : View) : Type 0 where
  pub idle : IsAt v Idle
  pub directory : v.server.directory ≡ []
  pub roots : v.server.roots ≡ []
  pub books : v.server.books ≡ []

-- A server that is made with new books and an empty directory agrees with such a view.
abbrev pub FirstLaw : Type 0
FirstLaw = (setup : Setup) (books : Ledger) (v : View) → IsLedger books → books.pool ≡ setup.pool → ((b : Buffer) → IsBuffer setup.pool b → book books b ≡ line 0 Free) → IsFirstServer v
    → Agrees setup.pool [] (new_server setup books (nothing_bound setup.pool)) v

-- Once a batch that was ahead is handed over, the server agrees with its view again, where no sweep of a want is under way.
abbrev pub HandedLaw : Type 0
HandedLaw = (p : Pool) (s : ServerState) (v : View) (batch : List TagParts) → Agrees p batch s v → s.sweep ≡ None → Agrees p [] s (giving (map tag_number batch) v)

-- none of these tags has its home in the buffer
abbrev pub AreElsewhere : ℕ → List ℕ → Type 0
AreElsewhere b ts = Each (λ (t : ℕ). home t ≢ b) ts

-- the tag was passed, where it has its home in the buffer
abbrev pub IsOld : Mem → ℕ → ℕ → Type 0
IsOld m b t = home t ≡ b → HasPassed m t

-- Each tag of the buffer was passed that the view knows to be durable, that stands at either end of a link that it hopped over or wrote, or under which it has copied words.
pub record KnowsOld (m : Mem) (b : ℕ) (v : View) : Type 0 where
  pub durable : Each (λ (q : ℕ × ℕ). IsOld m b q.1) v.pass.durable
  pub links : Each (λ (l : Link). IsOld m b l.from × IsOld m b l.to) v.pass.links
  pub copied : Each (λ (q : ℕ × Content). IsOld m b q.1.tag) v.pass.copied

-- A buffer that nobody has, at generation g: no tag of it stands on a chain or in a stock; each one that a shortcut names, that is used, or that a view knows, was passed; and both copies of its next word are at g, unlinked.
pub record IsVacant (m : Mem) (chain : ℕ → List ℕ) (used : List ℕ) (vs : List View) (b g : ℕ) : Type 0 where
  pub unchained : (slot : ℕ) → AreElsewhere b (chain slot)
  pub unstocked : (v : View) → Within v vs → AreElsewhere b v.pass.stock
  pub shortcut : (slot t : ℕ) → m.short slot ≡ Some t → IsOld m b t
  pub handed : Each (IsOld m b) used
  pub known : (v : View) → Within v vs → KnowsOld m b v
  pub rest : AtRest m b g

-- Under the rule, whatever batch is ahead of the view, a buffer that the server's books have as free is one that nobody has.
abbrev pub FreeLaw : Type 0
FreeLaw = (p : Pool) (first : Tagged) (used ws : List ℕ) (vs : List View) (h : List Entry) (rule : Rule p first used ws vs h) (v : View) (s : ServerState) (ahead : List TagParts) (b g : ℕ) → IsServer vs v → Agrees p ahead s v
    → inside p b ≡ true → book s.books (buffer_at b) ≡ line g Free → IsVacant (mem_of p ws) rule.chain (used_by used h) vs b g

-- the entry hands this tag out: it stored or deleted, and its new version has the tag
abbrev pub HandsOut : ℕ → Entry → Type 0
HandsOut t e = new_tags e.reply ≡ t ∷ []

-- No tag stands in two of the entries that stored or deleted, and none that was used before the history stands in one.
pub record AreTagsApart (used : List ℕ) (h : List Entry) : Type 0 where
  pub fresh : (i t : ℕ) (e : Entry) → nth h i ≡ Some e → HandsOut t e → IsFresh used t
  pub once : (i j t : ℕ) (d e : Entry) → nth h i ≡ Some d → nth h j ≡ Some e → HandsOut t d → HandsOut t e → i ≡ j

-- Under the rule no tag is handed out twice.
abbrev pub OnceLaw : Type 0
OnceLaw = (p : Pool) (first : Tagged) (used ws : List ℕ) (vs : List View) (h : List Entry) → Rule p first used ws vs h → AreTagsApart used h
