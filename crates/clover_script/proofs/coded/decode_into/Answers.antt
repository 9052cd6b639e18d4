use Rattle.std.proofs.Common.{◌<◌, ◌++◌, ◌∷◌, [], ◌∙◌, List, ℕ, sym, ap, rules, arith, length, take, append_assoc}
use Rattle.std.proofs.lemmas.List.{length-append, length-take-le, take_more_set}
use Rattle.clover_script.proofs.CodedLemmas.{one_front, nowhere, as_short}
use Rattle.clover_script.proofs.coded.decode_into.Goals as goal

pub returns-then-text-room : goal.returns-then-text-room
returns-then-text-room c = λ bytes are e size.
    c.copy_from_slice.ensures.after ∙ e ∙ as_short bytes (ap length (sym e) ∙ c.if-text-room.true ∙ sym size)

pub returns-in_default : goal.returns-in_default
returns-in_default c = λ bytes are e size.
    let l = c.loop-index in
    let m = l.invariant.left bytes are e in
    let none = nowhere l.rest.now m.0 m.1 m.2 c.in_default.ensures.none in
    let whole = ap length m.3 ∙ length-append (take l.index l.room) m.0 in
    let read = length-take-le l.index l.room (omega (arith, l.invariant.room, c.loop-index-test.true)) in
    absurd (omega (arith, size, whole, read, ap length none, c.loop-index-test.true))

pub loop-index-preserved : goal.loop-index-preserved
loop-index-preserved c =
    let l = c.loop-index in
    let fits : c.in-Some.byte < 256 = search rules in
    record {
      room = search rules;
      left = λ bytes are e.
          let m = l.invariant.left bytes are e in
          let next = one_front c.in-Some.byte c.in-Some.after.now m.0 fits m.1 (sym c.in-Some.ensures.found ∙ m.2) in
          let written = take_more_set l.room l.index c.in-Some.byte (omega (arith, l.invariant.room, c.loop-index-test.true)) in (
            next.0,
            next.1,
            next.2,
            m.3 ∙ ap (λ (x : List ℕ). take l.index l.room ++ x) next.3 ∙ sym (append_assoc (take l.index l.room) (c.in-Some.byte ∷ []) next.0) ∙ ap (λ (x : List ℕ). x ++ next.0) (sym written),
          );
    }
