-- which statuses there can be where no count rose
use Rattle.std.proofs.Common.{◌≡◌, ◌⊎◌, ◌<◌, ◌≤◌, ℕ, Bool, List, ◌++◌, Option, Some, None, length, inl, inr, ap, subst, sym, ◌∙◌, arith, append-nil, length-append}
use Rattle.std.proofs.lemmas.Bool.{cases_eq}
use Rattle.std.specs.Io.KnownBytes.{Consumes, IsAtEnd}
use Rattle.clover_words.specs.declared.setup.Setup.{Setup}
use Rattle.clover_script.specs.Line.{Spoken}
use Rattle.clover_script.specs.Lines.{IsLinesOf}
use Rattle.clover_main.specs.declared.refusal.Refusal.{Refusal}
use Rattle.clover_main.specs.declared.refusal.Refusal.TheVariants.{BadLine, TooMuchInput, ReadFault, OutOfMemory, BadWords}
use Rattle.clover_port.specs.Told.{Rose}
use Rattle.clover_main.specs.Cuts.{HasNoCuts, IsTurnedDown}
use Rattle.clover_main.specs.Reading.{Reads, input_limit}
use Rattle.clover_main.specs.Refusing.{status_of, HasShown}
use Rattle.clover_main.specs.Replay.{Replays, Refuses, IsExact}
use Rattle.clover_script.proofs.LinesLaws.{lines_not_refused}
use Rattle.clover_main.proofs.CutLines.{cuts_nowhere}

-- a source that was read to its end gave all that it had
all_given : (text given : List ℕ) (after : Option (List ℕ)) → Consumes (Some text) after given → IsAtEnd after → given ≡ text
all_given text given None c e = absurd c
all_given text given (Some rest) c e = sym (c ∙ ap (λ r. given ++ r) e ∙ append-nil given)

-- no more was taken than there was
some_given : (text given : List ℕ) (after : Option (List ℕ)) → Consumes (Some text) after given → length given ≤ length text
some_given text given None c = absurd c
some_given text given (Some rest) c = omega (arith, ap length c, length-append given rest)

-- the status 2 is that of a failed read
read_cause : (left after : Option (List ℕ)) (faults now : ℕ) (r : Refusal) → status_of r ≡ 2 → HasShown left after faults now r → Rose faults now
read_cause left after faults now (BadLine n) is shown = absurd (omega arith)
read_cause left after faults now TooMuchInput is shown = absurd (omega arith)
read_cause left after faults now ReadFault is shown = shown
read_cause left after faults now OutOfMemory is shown = absurd (omega arith)
read_cause left after faults now BadWords is shown = absurd (omega arith)

-- the status 1 is that of a bad line or of too much input
text_cause : (text : List ℕ) (after : Option (List ℕ)) (faults now : ℕ) (r : Refusal) → status_of r ≡ 1 → HasShown (Some text) after faults now r
    → ((n : ℕ) × IsTurnedDown text n) ⊎ (input_limit < length text)
text_cause text after faults now (BadLine n) is (given, read, bad) = inl (n, subst (λ t. IsTurnedDown t n) (all_given text given after read.taken read.ended) bad)
text_cause text after faults now TooMuchInput is shown = inr (omega (arith, some_given text shown.bytes after shown.taken, shown.many))
text_cause text after faults now ReadFault is shown = absurd (omega arith)
text_cause text after faults now OutOfMemory is shown = absurd (omega arith)
text_cause text after faults now BadWords is shown = absurd shown

-- what each status says, where no count rose and the source's bytes are known
record Says (text : List ℕ) (status : ℕ) : Type 0 where
  zero : status ≡ 0 → (s : Setup) × (said : List Spoken) × IsLinesOf text s said × (length text ≤ input_limit) × HasNoCuts text
  one : status ≡ 1 → ((n : ℕ) × IsTurnedDown text n) ⊎ (input_limit < length text)
  two : status ≡ 2 → ⊥
  three : status ≡ 3 → ⊥
  most : status ≤ 4

-- neither 2 nor 3
among : (text : List ℕ) (status : ℕ) → Says text status → (status ≡ 0) ⊎ ((status ≡ 1) ⊎ (status ≡ 4))
among text status says =
    elim (cases_eq status 0) [
      | inl z ↦ inl z
      | inr nz ↦ elim (cases_eq status 1) [
        | inl o ↦ inr (inl o)
        | inr n1 ↦ elim (cases_eq status 2) [
          | inl t ↦ absurd (says.two t)
          | inr nt ↦ elim (cases_eq status 3) [
            | inl h ↦ absurd (says.three h)
            | inr nh ↦ inr (inr (let m : status ≤ 4 = says.most in omega arith))
          ]
        ]
      ]
    ]

no_one : (text : List ℕ) (status : ℕ) → Says text status → (status ≡ 1 → ⊥) → (status ≡ 0) ⊎ (status ≡ 4)
no_one text status says never =
    elim (among text status says) [ inl z ↦ inl z | inr r ↦ elim r [ inl o ↦ absurd (never o) | inr f ↦ inr f ] ]

no_zero : (text : List ℕ) (status : ℕ) → Says text status → (status ≡ 0 → ⊥) → (status ≡ 1) ⊎ (status ≡ 4)
no_zero text status says never =
    elim (among text status says) [ inl z ↦ absurd (never z) | inr r ↦ r ]

-- a script without power cuts is not turned down
not_down : (text : List ℕ) (s : Setup) (said : List Spoken) (n : ℕ) → IsLinesOf text s said → HasNoCuts text → IsTurnedDown text n → ⊥
not_down text s said n script uncut down = elim down.0 as (λ _. ⊥) [ inl bad ↦ lines_not_refused text s said n script bad | inr cut ↦ cuts_nowhere text n uncut cut ]

is_exact : (text : List ℕ) (status : ℕ) → Says text status → IsExact text status
is_exact text status says = record {
  script = λ s said is uncut short. no_one text status says (λ o.
      elim (says.one o) as (λ _. ⊥) [ inl bad ↦ not_down text s said bad.0 is uncut bad.1 | inr more ↦ absurd (omega arith) ]);
  refused = λ n bad short. no_zero text status says (λ z.
      let done = says.zero z in not_down text done.0 done.1 n done.2 done.4 bad);
  much = λ more. no_zero text status says (λ z. absurd (omega (arith, (says.zero z).3)));
}

-- from the clauses of a replay
pub exact : (status : ℕ) (t : Bool) (left after taken now : Option (List ℕ)) (sb sf kb kf : ℕ)
    → (status ≡ 0 → Replays t left after taken now) → (status ≡ 1 → Refuses 1 left after sb sf taken now kb kf)
    → (status ≡ 2 → Refuses 2 left after sb sf taken now kb kf) → (status ≡ 3 → Rose kb kf) → status ≤ 4
    → (text : List ℕ) → left ≡ Some text → (Rose sb sf → ⊥) → (Rose kb kf → ⊥) → IsExact text status
exact status t left after taken now sb sf kb kf zero one two three most text is source sink =
    is_exact text status (record {
      zero = λ z.
          let done = zero z in
          let run = done.run in
          let read : Reads (Some text) after run.text = subst (λ l. Reads l after run.text) is run.read in
          let same : run.text ≡ text = all_given text run.text after read.taken read.ended in (
            run.is.setup,
            run.is.said,
            subst (λ t. IsLinesOf t run.is.setup run.is.said) same run.is.script,
            subst (λ (t : List ℕ). length t ≤ input_limit) same read.short,
            subst HasNoCuts same run.is.uncut,
          );
      one = λ o.
          let refuses = one o in
          text_cause text after sb sf refuses.refusal refuses.is (subst (λ l. HasShown l after sb sf refuses.refusal) is refuses.shown);
      two = λ t. let refuses = two t in source (read_cause left after sb sf refuses.refusal refuses.is refuses.shown);
      three = λ h. sink (three h);
      most = most;
    })
