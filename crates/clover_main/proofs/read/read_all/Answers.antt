use Rattle.std.proofs.Common.{◌++◌, arith, length-append}
use Rattle.std.proofs.KnownBytes.{Consumes-trans}
use Rattle.clover_main.proofs.read.read_all.Goals as goal

pub returns-in_err-count-clause-few : goal.returns-in_err-count-clause-few
returns-in_err-count-clause-few g c =
    let (got, taken, few) = c.take_more.ensures.few in
    let before = c.loop-bytes.bytes.items in record {
      bytes = before ++ got;
      few = omega (arith, length-append before got);
      taken = Consumes-trans _ _ _ before got c.loop-bytes.invariant.taken taken;
    }
