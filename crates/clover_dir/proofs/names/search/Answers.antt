use Rattle.std.proofs.Common.{◌≡◌, rules}
use Rattle.std.proofs.lemmas.Fn.{always_returns_same}
use Rattle.clover_dir.specs.Index.{compared}
use Rattle.clover_dir.proofs.Searching.{searched}
use Rattle.clover_dir.proofs.names.search.Goals as goal

pub returns : goal.returns
returns c =
    let facts = c.binary_search_by.ensures in
    let by = facts.position (compared c.args.list.now c.args.key.now) (always_returns_same _ (λ a r. r ≡ compared c.args.list.now c.args.key.now a.0.now) _ (λ a r g called. (search rules, search rules))) in
    let z = searched c.args.list.now c.args.order.now c.requires c.args.key.now c.binary_search_by.result facts.bound by in
    record { found = z.0; absent = z.1 }
