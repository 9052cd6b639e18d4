use Rattle.std.proofs.Common.{◌≡◌, [], false, refl, subst, sym, ap, ◌∙◌}
use Rattle.std.specs.Prelude.{None, IsSome, slice_get}
use Rattle.clover_dir.specs.Directory.{root_of}
use Rattle.clover_server.specs.Holding.{Agrees}
use Rattle.clover_server.specs.Looking.{position}
use Rattle.clover_server.specs.Server.{ServerState}
use Rattle.clover_server.specs.Steps.{recycling, sweeping}
use Rattle.clover_server.proofs.Steps.{sweep_refused, sweep_went, sweep_read, read_left, read_known, read_agrees, read_full}
use Rattle.clover_server.proofs.Wants.{some_root, begun_recycling, agrees_sweeping, agrees_ended, bound_at}
use Rattle.clover_server.proofs.server.Server.sweep_slot.Goals as goal

pub begin_recycling-requires : goal.begin_recycling-requires
begin_recycling-requires g c = (c.requires.at.0, bound_at c.args.self.now.directory.list (position c.args.self.now.sweep) (c.args.slot, c.requires.at.0) c.requires.at.1)

pub go_on-requires : goal.go_on-requires
go_on-requires g c =
    let P = g.P.Port in let p = c.args.port.now in let s = c.args.self.now in
    let r = some_root (root_of s.directory c.args.slot) (λ root. c.begin_recycling.new.self ≡ recycling s c.args.slot root) c.begin_recycling.ensures.root c.begin_recycling.ensures.begun in
    let e : c.begin_sweep.new.self ≡ sweeping (recycling s c.args.slot r.0) = c.begin_sweep.ensures ∙ ap sweeping r.2 in
    record {
      task = subst (λ (z : ServerState). IsSome z.task) (sym e) refl;
      agrees = subst (λ (z : ServerState). Agrees (P.pool p) [] z (P.view p)) (sym e) (agrees_sweeping (P.pool p) (recycling s c.args.slot r.0) (P.view p) (begun_recycling (P.pool p) s (P.view p) c.args.slot r.0 c.requires.agrees c.requires.idle r.1 (c.requires.at.0, bound_at s.directory.list (position s.sweep) (c.args.slot, c.requires.at.0) c.requires.at.1)));
    }

pub read_unlinked-requires-clause-sweep : goal.read_unlinked-requires-clause-sweep
read_unlinked-requires-clause-sweep g c =
    let P = g.P.Port in let p = c.args.port.now in let q = c.go_on.new.port in let s = c.args.self.now in
    let r = some_root (root_of s.directory c.args.slot) (λ root. c.begin_recycling.new.self ≡ recycling s c.args.slot root) c.begin_recycling.ensures.root c.begin_recycling.ensures.begun in
    let e : c.begin_sweep.new.self ≡ sweeping (recycling s c.args.slot r.0) = c.begin_sweep.ensures ∙ ap sweeping r.2 in
    let l = read_left (λ a x. P.made p a false x q) (P.failed p q) (q ≡ p) s c.begin_sweep.new.self c.go_on.new.self c.go_on.result c.go_on.ensures.made c.args.slot r.0 r.1 e c.in-Unlinked.is in
    subst (λ (z : ServerState). IsSome z.sweep) (sym (l ∙ ap (λ (z : ServerState). record z { task = None }) e)) refl

pub returns-in-Unlinked-clause-step : goal.returns-in-Unlinked-clause-step
returns-in-Unlinked-clause-step g c =
    let P = g.P.Port in let p = c.args.port.now in let q = c.go_on.new.port in let s = c.args.self.now in
    let r = some_root (root_of s.directory c.args.slot) (λ root. c.begin_recycling.new.self ≡ recycling s c.args.slot root) c.begin_recycling.ensures.root c.begin_recycling.ensures.begun in
    let e : c.begin_sweep.new.self ≡ sweeping (recycling s c.args.slot r.0) = c.begin_sweep.ensures ∙ ap sweeping r.2 in
    sweep_read (λ a x. P.made p a false x q) (P.failed p q) (q ≡ p) s c.begin_sweep.new.self c.go_on.new.self c.go_on.result c.go_on.ensures.made c.args.slot r.0 r.1 e c.in-Unlinked.is c.read_unlinked.new.self c.read_unlinked.result c.read_unlinked.ensures.value c.read_unlinked.ensures.answer

pub returns-in-Unlinked-clause-full : goal.returns-in-Unlinked-clause-full
returns-in-Unlinked-clause-full g c =
    let P = g.P.Port in let p = c.args.port.now in let q = c.go_on.new.port in let s = c.args.self.now in
    let r = some_root (root_of s.directory c.args.slot) (λ root. c.begin_recycling.new.self ≡ recycling s c.args.slot root) c.begin_recycling.ensures.root c.begin_recycling.ensures.begun in
    let e : c.begin_sweep.new.self ≡ sweeping (recycling s c.args.slot r.0) = c.begin_sweep.ensures ∙ ap sweeping r.2 in
    let l = read_left (λ a x. P.made p a false x q) (P.failed p q) (q ≡ p) s c.begin_sweep.new.self c.go_on.new.self c.go_on.result c.go_on.ensures.made c.args.slot r.0 r.1 e c.in-Unlinked.is ∙ ap (λ (z : ServerState). record z { task = None }) e in
    let k = read_known (λ a x. P.made p a false x q) (P.failed p q) (q ≡ p) s c.begin_sweep.new.self c.go_on.new.self c.go_on.result c.go_on.ensures.made c.args.slot r.0 r.1 e (P.pool p) (P.view p) (P.told p) (P.view q) (P.told q) (λ a x m. g.met.P.Port.made_tells p q a false x m) c.in-Unlinked.is in
    read_full (P.pool q) c.go_on.new.self (P.view q) (position s.sweep) c.args.slot c.requires.at.0 c.go_on.ensures.agrees (ap (λ (z : ServerState). z.sweep) l) (ap (λ (z : ServerState). slice_get z.directory.list (position s.sweep)) l ∙ c.requires.at.1) k
    c.read_unlinked.new.self c.read_unlinked.result c.read_unlinked.ensures.value c.read_unlinked.ensures.answer c.read_unlinked.ensures.adds_up

pub returns-in-Unlinked-clause-agrees : goal.returns-in-Unlinked-clause-agrees
returns-in-Unlinked-clause-agrees g c =
    let P = g.P.Port in let p = c.args.port.now in let q = c.go_on.new.port in let s = c.args.self.now in
    let r = some_root (root_of s.directory c.args.slot) (λ root. c.begin_recycling.new.self ≡ recycling s c.args.slot root) c.begin_recycling.ensures.root c.begin_recycling.ensures.begun in
    let e : c.begin_sweep.new.self ≡ sweeping (recycling s c.args.slot r.0) = c.begin_sweep.ensures ∙ ap sweeping r.2 in
    let l = read_left (λ a x. P.made p a false x q) (P.failed p q) (q ≡ p) s c.begin_sweep.new.self c.go_on.new.self c.go_on.result c.go_on.ensures.made c.args.slot r.0 r.1 e c.in-Unlinked.is ∙ ap (λ (z : ServerState). record z { task = None }) e in
    let k = read_known (λ a x. P.made p a false x q) (P.failed p q) (q ≡ p) s c.begin_sweep.new.self c.go_on.new.self c.go_on.result c.go_on.ensures.made c.args.slot r.0 r.1 e (P.pool p) (P.view p) (P.told p) (P.view q) (P.told q) (λ a x m. g.met.P.Port.made_tells p q a false x m) c.in-Unlinked.is in
    read_agrees (P.pool q) c.go_on.new.self (P.view q) (position s.sweep) c.args.slot c.requires.at.0 c.go_on.ensures.agrees (ap (λ (z : ServerState). z.sweep) l) (ap (λ (z : ServerState). slice_get z.directory.list (position s.sweep)) l ∙ c.requires.at.1) k
    c.read_unlinked.new.self c.read_unlinked.ensures.value

pub returns-in-Unreached-clause-step : goal.returns-in-Unreached-clause-step
returns-in-Unreached-clause-step g c =
    let P = g.P.Port in let p = c.args.port.now in let q = c.go_on.new.port in let s = c.args.self.now in
    let r = some_root (root_of s.directory c.args.slot) (λ root. c.begin_recycling.new.self ≡ recycling s c.args.slot root) c.begin_recycling.ensures.root c.begin_recycling.ensures.begun in
    let e : c.begin_sweep.new.self ≡ sweeping (recycling s c.args.slot r.0) = c.begin_sweep.ensures ∙ ap sweeping r.2 in
    sweep_refused (λ a x. P.made p a false x q) (P.failed p q) (q ≡ p) s c.begin_sweep.new.self c.go_on.new.self c.go_on.result c.go_on.ensures.made c.args.slot r.0 r.1 e c.in-Unreached.is c.answer.new.self c.answer.result c.answer.ensures.value c.answer.ensures.answer

pub returns-in-Unreached-clause-agrees : goal.returns-in-Unreached-clause-agrees
returns-in-Unreached-clause-agrees g c =
    let P = g.P.Port in let q = c.go_on.new.port in
    subst (λ (z : ServerState). Agrees (P.pool q) [] z (P.view q)) (sym c.answer.ensures.value) (agrees_ended (P.pool q) c.go_on.new.self (P.view q) c.go_on.ensures.agrees)

pub returns-in_default-clause-step : goal.returns-in_default-clause-step
returns-in_default-clause-step g c =
    let P = g.P.Port in let p = c.args.port.now in let q = c.go_on.new.port in let s = c.args.self.now in
    let r = some_root (root_of s.directory c.args.slot) (λ root. c.begin_recycling.new.self ≡ recycling s c.args.slot root) c.begin_recycling.ensures.root c.begin_recycling.ensures.begun in
    let e : c.begin_sweep.new.self ≡ sweeping (recycling s c.args.slot r.0) = c.begin_sweep.ensures ∙ ap sweeping r.2 in
    sweep_went (λ a x. P.made p a false x q) (P.failed p q) (q ≡ p) s c.begin_sweep.new.self c.go_on.new.self c.go_on.result c.go_on.ensures.made c.args.slot r.0 r.1 e c.in_default.not-Unlinked c.in_default.not-Unreached
