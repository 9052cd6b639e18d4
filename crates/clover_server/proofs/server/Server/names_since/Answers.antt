use Rattle.std.proofs.Common.{ℕ, length-drop, drop, take, sym, ap, ◌∙◌}
use Rattle.std.proofs.Math.Seq.{take-length}
use Rattle.std.proofs.lemmas.List.{drop-map}
use Rattle.clover_dir.specs.Bindings.{pair_of, pairs_of}
use Rattle.clover_server.specs.Server.{ServerState}
use Rattle.clover_server.proofs.server.Server.names_since.Goals as goal

pub returns : goal.returns
returns c =
    let xs = c.list.result.now in let k = c.args.known in
    ap pairs_of (ap (λ (n : ℕ). take n (drop k xs)) (sym (length-drop k xs)) ∙ take-length (drop k xs))
    ∙ sym (drop-map pair_of k xs)
    ∙ ap (drop k) (c.list.ensures.pairs ∙ ap (λ (z : ServerState). z.directory.list) c.self.view_is)
