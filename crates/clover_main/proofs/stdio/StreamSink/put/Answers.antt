use Rattle.std.proofs.Common.{◌∙◌, ◌++◌, ap, drop, sym, take, append_assoc}
use Rattle.std.proofs.KnownBytes.{Appends-trans}
use Rattle.std.proofs.lemmas.List.{take-append-drop}
use Rattle.clover_main.proofs.Puts.{write_front}
use Rattle.clover_main.proofs.stdio.StreamSink.put.Goals as goal

pub loop-rest-preserved : goal.loop-rest-preserved
loop-rest-preserved g c =
    let (front, all, taken) = c.loop-rest.invariant.front in
    let rest = c.loop-rest.rest.now in
    let count = c.in-Ok.count in
    record {
      faults = c.loop-rest.invariant.faults;
      front = (
        front ++ take count rest,
        all ∙ ap (λ l. front ++ l) (sym (take-append-drop count rest)) ∙ sym (append_assoc front (take count rest) (drop count rest)) ∙ ap (λ l. (front ++ take count rest) ++ l) (sym c.behind-rest.ensures),
        Appends-trans _ _ _ front (take count rest) taken c.in-Ok.ensures.bytes,
      );
    }

pub returns-in_default-clause-err : goal.returns-in_default-clause-err
returns-in_default-clause-err g c =
    let (front, all, taken) = c.loop-rest.invariant.front in
    write_front _ _ _ c.write.result front c.loop-rest.rest.now c.args.piece.now all taken c.write.ensures.bytes
