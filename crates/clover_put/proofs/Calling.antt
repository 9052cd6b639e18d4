-- What a caller needs of a put: what it stands on as it is made. The layers above cite it.
use Rattle.std.proofs.Common.{◌≡◌, ℕ, ◌≤◌, ◌∷◌, List, length, Bool, true, cond, sym, arith, subst}
use Rattle.clover_map.specs.declared.bytes.Value.{Value}
use Rattle.clover_rule.specs.declared.view.View.{View}
use Rattle.clover_walk.specs.Walking.{Walking, Holds, IsOnWay}
use Rattle.clover_put.specs.Holding.{PutHolds}
use Rattle.clover_put.specs.Putting.{commits, made_put}
use Rattle.clover_put.specs.declared.job.Job.{Job}
use Rattle.clover_put.proofs.Body.{body_some}

-- a call that was just made with a walk of no step, and with the next tag of the stock, stands on what the client knows
pub made_holds : (w : Walking) (v : View) (j : Job) (t : ℕ) (x : Value) → Holds w v → w.first ≡ true → IsOnWay w.stand → (rest : List ℕ) × (v.pass.stock ≡ t ∷ rest) → PutHolds (made_put w j t x) v
made_holds w v j t x h first way own = record {
  walk = h;
  owns = own;
  fills = (record { written = λ i y l q. absurd (omega arith); flushed = λ i y l q. absurd (omega arith) }, body_some (commits j x), first);
  looks = way;
  spent = subst (λ (b : Bool). cond b 0 (length v.pass.since) ≤ 0) (sym first) (omega arith);
}
