-- the text of a run, from its pieces
use Rattle.std.proofs.Common.{◌≡◌, ◌≤◌, inl, inr, ℕ, Bool, List, [], ◌++◌, flat_map, map, Option, refl, subst, sym, arith, append-nil}
use Rattle.std.specs.FinMap.{empty}
use Rattle.std.specs.Io.KnownBytes.{Appends}
use Rattle.clover_words.specs.declared.setup.Setup.{Setup}
use Rattle.clover_script.specs.Line.{Spoken, kept_line}
use Rattle.clover_script.specs.Lines.{IsLinesOf}
use Rattle.clover_script.specs.declared.line.Line.{Line}
use Rattle.clover_run.specs.Folds.{entries_in, made_after}
use Rattle.clover_run.specs.Lines.{Covers}
use Rattle.clover_run.specs.Machine.{Parts, IsAt, first_opening}
use Rattle.clover_run.specs.Record.{Record}
use Rattle.clover_run.specs.Run.{Opening}
use Rattle.clover_event.specs.Text.{ending}
use Rattle.clover_run.specs.Text.{said, text}
use Rattle.clover_main.specs.Beginnings.{CoversFront}
use Rattle.clover_port.specs.Told.{Rose}
use Rattle.clover_main.specs.Causes.{Writes}
use Rattle.clover_main.specs.Cuts.{HasNoCuts}
use Rattle.clover_main.specs.Reading.{Reads}
use Rattle.clover_main.specs.Refusing.{line_of}
use Rattle.clover_main.specs.declared.refusal.Refusal.TheVariants.{OutOfMemory}
use Rattle.clover_main.specs.Performing.{IsPerformed, IsBeginning, IsOutput}
use Rattle.clover_main.specs.Replay.{IsScriptOf, IsReplay, LacksMemory, HasStopped}
use Rattle.clover_main.specs.Running.{PutsEnding, Ran, Fails}
use Rattle.clover_main.specs.declared.output.Stop.{Stop}
use Rattle.clover_main.specs.declared.output.Stop.TheVariants.{Memory, Write}
use Rattle.clover_main.proofs.Committing.{legal_committed}
use Rattle.clover_run.proofs.Following.{lawful_at}
use Rattle.clover_main.proofs.Pieces.{front_then, whole_put}

module _ (o : Opening) (lines : List Line) (t : Bool) (none : o.first ≡ empty) where
  performed : (m : Parts) (a b : Option (List ℕ)) (w : List ℕ) → (x : Ran o t [] m a b [] w (Covers lines [])) → IsPerformed o lines t (text t o.made x.more)
  performed m a b w x = record {
    records = x.more;
    covers = x.kind;
    lawful = lawful_at o m x.more x.at;
    whole = legal_committed o.first o.used (entries_in x.more) none x.at.legal;
    printed = refl;
  }

  -- all lines were run, and the end was not put
  begun_all : (m : Parts) (a b : Option (List ℕ)) (w : List ℕ) → (x : Ran o t [] m a b [] w (Covers lines [])) → IsBeginning o lines t (flat_map (said t) x.more)
  begun_all m a b w x = record {
    records = x.more;
    covers = record { done = lines; rest = []; before = x.more; part = []; split = sym (append-nil lines); all = sym (append-nil x.more); covers = x.kind; begun = refl };
    lawful = lawful_at o m x.more x.at;
    whole = legal_committed o.first o.used (entries_in x.more) none x.at.legal;
    printed = refl;
  }

  begun_some : (stop : Stop) (a c : Option (List ℕ)) → (f : Fails o t [] stop a c [] (CoversFront lines)) → IsBeginning o lines t (flat_map (said t) f.more)
  begun_some stop a c f = record { records = f.more; covers = f.kind; lawful = f.lawful; whole = legal_committed o.first o.used (entries_in f.more) none f.lawful.legal; printed = refl }

-- the text is a script of these lines, which begins there, with nothing in the map
abbrev pub Begins : List ℕ → Opening → List Line → Type 1
Begins bytes o lines = (o.first ≡ empty) × ((Is : Opening → List Line → Type 0) → Is o lines → IsScriptOf bytes Is)

pub script_begins : (bytes : List ℕ) (s : Setup) (said : List Spoken) → IsLinesOf bytes s said → HasNoCuts bytes → Begins bytes (first_opening s) (map kept_line said)
script_begins bytes s said script uncut = (refl, λ Is is. record { setup = s; said = said; script = script; uncut = uncut; is = is })

rose_from : (a b c : ℕ) → a ≤ b → Rose b c → Rose a c
rose_from a b c le rose = omega arith

writes_from : (taken now : Option (List ℕ)) (before then_faults faults : ℕ) (line : List ℕ) → before ≤ then_faults → Writes taken now then_faults faults line → Writes taken now before faults line
writes_from taken now before then_faults faults line le (inl all) = inl all
writes_from taken now before then_faults faults line le (inr (front, rose)) = inr (front, rose_from before then_faults faults le rose)

-- what was put where there was no memory
pub lacks_memory : (stop : Stop) (t : Bool) (bytes : List ℕ) (left after taken between now : Option (List ℕ)) (before then_faults faults : ℕ) → stop ≡ Memory → Reads left after bytes → before ≤ then_faults
    → HasStopped stop t bytes taken between → Writes between now then_faults faults (line_of OutOfMemory) → LacksMemory t left after taken now before faults
lacks_memory Write t bytes left after taken between now before then_faults faults is read le stopped writes = cc
lacks_memory Memory t bytes left after taken between now before then_faults faults is read le (inl same) writes =
    inl (subst (λ (o : Option (List ℕ)). Writes o now before faults (line_of OutOfMemory)) same (writes_from between now before then_faults faults (line_of OutOfMemory) le writes))
lacks_memory Memory t bytes left after taken between now before then_faults faults is read le (inr (out, begun, put)) writes =
    inr (record {
      out = out;
      between = between;
      run = record { text = bytes; read = read; is = begun };
      put = put;
      line = writes_from between now before then_faults faults (line_of OutOfMemory) le writes;
    })

module _ (bytes : List ℕ) (o : Opening) (lines : List Line) (t : Bool) (begins : Begins bytes o lines) where
  pub performs : (m : Parts) (a b c : Option (List ℕ)) (w : List ℕ) → (x : Ran o t [] m a b [] w (Covers lines []))
      → ((p : Opening) (rs : List Record) → IsAt p m rs → Appends b c (w ++ ending (entries_in rs) (made_after p.made rs))) → (out : List ℕ) × IsReplay t bytes out × Appends a c out
  performs m a b c w x close = (
    text t o.made x.more,
    begins.1 (λ (p : Opening) (ls : List Line). IsPerformed p ls t (text t o.made x.more)) (performed o lines t begins.0 m a b w x),
    whole_put a b c [] w (flat_map (said t) x.more) (ending (entries_in x.more) (made_after o.made x.more)) x.says (close o x.more x.at),
  )

  pub stops_closing : (stop : Stop) (m : Parts) (a b c : Option (List ℕ)) (w : List ℕ) → (x : Ran o t [] m a b [] w (Covers lines []))
      → ((p : Opening) (rs : List Record) → IsAt p m rs → PutsEnding stop b c w (ending (entries_in rs) (made_after p.made rs))) → HasStopped stop t bytes a c
  stops_closing Write m a b c w x close = (
    text t o.made x.more,
    begins.1 (λ (p : Opening) (ls : List Line). IsOutput p ls t (text t o.made x.more)) (inl (performed o lines t begins.0 m a b w x)),
    front_then a b c [] w (flat_map (said t) x.more) (ending (entries_in x.more) (made_after o.made x.more)) x.says (close o x.more x.at),
  )
  stops_closing Memory m a b c w x close =
      let all = flat_map (said t) x.more in
      inr (
        all,
        begins.1 (λ (p : Opening) (ls : List Line). IsBeginning p ls t all) (begun_all o lines t begins.0 m a b w x),
        subst (Appends a c) (append-nil all) (whole_put a b c [] w all [] x.says (subst (Appends b c) (sym (append-nil w)) (close o x.more x.at))),
      )

  pub stops_running : (stop : Stop) (a c : Option (List ℕ)) → Fails o t [] stop a c [] (CoversFront lines) → HasStopped stop t bytes a c
  stops_running Write a c f = (
    flat_map (said t) f.more,
    begins.1 (λ (p : Opening) (ls : List Line). IsOutput p ls t (flat_map (said t) f.more)) (inr (begun_some o lines t begins.0 Write a c f)),
    f.puts,
  )
  stops_running Memory a c f = inr (
    flat_map (said t) f.more,
    begins.1 (λ (p : Opening) (ls : List Line). IsBeginning p ls t (flat_map (said t) f.more)) (begun_some o lines t begins.0 Memory a c f),
    f.puts,
  )
