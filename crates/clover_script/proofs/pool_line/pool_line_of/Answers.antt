use Rattle.std.proofs.Common.{◌∙◌, [], length, ap, arith, rules}
use Rattle.std.proofs.lemmas.Grind.{common_steps}
use Rattle.clover_script.proofs.LineLemmas.{if_none}
use Rattle.clover_script.proofs.PoolLineLemmas.{pool_parts, pool_found, buffers_on, slots_on, words_on, wear_on, clients_on, batch_on, buffers_ends, slots_ends, words_ends, wear_ends, clients_ends, batch_ends, after_nodes, after_buffers, after_slots, after_words, after_wear, after_clients}
use Rattle.clover_script.proofs.pool_line.pool_line_of.Goals as goal

pub returns-in_err-nodes-clause-none : goal.returns-in_err-nodes-clause-none
returns-in_err-nodes-clause-none c = if_none c.from_residual.result (λ p.
    c.in_err-nodes.ensures.only p.0.nodes (buffers_on p.0) p.1.nodes (buffers_ends p.0) (p.2 ∙ pool_parts p.0))

pub returns-in_err-buffers-clause-none : goal.returns-in_err-buffers-clause-none
returns-in_err-buffers-clause-none c = if_none c.from_residual-in_err-buffers.result (λ p.
    c.in_err-buffers.ensures.only p.0.buffers (slots_on p.0) p.1.buffers (slots_ends p.0)
    (after_nodes p.0 p.1 p.2 c.in_ok-nodes.ensures.only))

pub returns-in_err-slots-clause-none : goal.returns-in_err-slots-clause-none
returns-in_err-slots-clause-none c = if_none c.from_residual-in_err-slots.result (λ p.
    c.in_err-slots.ensures.only p.0.slots (words_on p.0) p.1.slots (words_ends p.0)
    (after_buffers p.0 p.1 (after_nodes p.0 p.1 p.2 c.in_ok-nodes.ensures.only) c.in_ok-buffers.ensures.only))

pub returns-in_err-words-clause-none : goal.returns-in_err-words-clause-none
returns-in_err-words-clause-none c = if_none c.from_residual-in_err-words.result (λ p.
    c.in_err-words.ensures.only p.0.words (wear_on p.0) p.1.words (wear_ends p.0)
    (after_slots p.0 p.1 (after_buffers p.0 p.1 (after_nodes p.0 p.1 p.2 c.in_ok-nodes.ensures.only) c.in_ok-buffers.ensures.only) c.in_ok-slots.ensures.only))

pub returns-in_err-wear-clause-none : goal.returns-in_err-wear-clause-none
returns-in_err-wear-clause-none c = if_none c.from_residual-in_err-wear.result (λ p.
    c.in_err-wear.ensures.only p.0.wear (clients_on p.0) p.1.wear (clients_ends p.0)
    (after_words p.0 p.1 (after_slots p.0 p.1 (after_buffers p.0 p.1 (after_nodes p.0 p.1 p.2 c.in_ok-nodes.ensures.only) c.in_ok-buffers.ensures.only) c.in_ok-slots.ensures.only) c.in_ok-words.ensures.only))

pub returns-in_err-clients-clause-none : goal.returns-in_err-clients-clause-none
returns-in_err-clients-clause-none c = if_none c.from_residual-in_err-clients.result (λ p.
    c.in_err-clients.ensures.only p.0.clients (batch_on p.0) p.1.clients (batch_ends p.0)
    (after_wear p.0 p.1 (after_words p.0 p.1 (after_slots p.0 p.1 (after_buffers p.0 p.1 (after_nodes p.0 p.1 p.2 c.in_ok-nodes.ensures.only) c.in_ok-buffers.ensures.only) c.in_ok-slots.ensures.only) c.in_ok-words.ensures.only) c.in_ok-wear.ensures.only))

pub returns-in_err-batch-clause-none : goal.returns-in_err-batch-clause-none
returns-in_err-batch-clause-none c = if_none c.from_residual-in_err-batch.result (λ p.
    c.in_err-batch.ensures.only p.0.batch [] p.1.batch tt
    (after_clients p.0 p.1 (after_wear p.0 p.1 (after_words p.0 p.1 (after_slots p.0 p.1 (after_buffers p.0 p.1 (after_nodes p.0 p.1 p.2 c.in_ok-nodes.ensures.only) c.in_ok-buffers.ensures.only) c.in_ok-slots.ensures.only) c.in_ok-words.ensures.only) c.in_ok-wear.ensures.only) c.in_ok-clients.ensures.only))

pub returns-then-not-is_empty-clause-none : goal.returns-then-not-is_empty-clause-none
returns-then-not-is_empty-clause-none c p =
    let batch = c.in_ok-batch.ensures.only p.0.batch [] p.1.batch tt
    (after_clients p.0 p.1 (after_wear p.0 p.1 (after_words p.0 p.1 (after_slots p.0 p.1 (after_buffers p.0 p.1 (after_nodes p.0 p.1 p.2 c.in_ok-nodes.ensures.only) c.in_ok-buffers.ensures.only) c.in_ok-slots.ensures.only) c.in_ok-words.ensures.only) c.in_ok-wear.ensures.only) c.in_ok-clients.ensures.only) in
    let none = ap length batch.1 in
    absurd (grind (arith, common_steps))

pub returns-clause-found : goal.returns-clause-found
returns-clause-found c = (
  record { nodes = search rules; buffers = search rules; slots = search rules; words = search rules; wear = search rules; clients = search rules; batch = search rules },
  pool_found _ c.args.line.now _ _ _ _ _ _ _
      c.in_ok-nodes.ensures.found c.in_ok-buffers.ensures.found c.in_ok-slots.ensures.found c.in_ok-words.ensures.found c.in_ok-wear.ensures.found c.in_ok-clients.ensures.found c.in_ok-batch.ensures.found (search rules),
)
