-- What is promised of each call determines its answer: the result, number by number, and its count; and no two conditions of refusal hold at once.
use Prim.Native.Nat.{max}
use Rattle.storage.specs.Promises.{Combines, Unites}
use Rattle.storage.proofs.Once.{one-combined, one_united, once_lacks, once_lacks_result}
use Rattle.storage.proofs.Promises.{once_exact}
use Rattle.setops.specs.Setops.{combining, uniting}
use Rattle.setops.specs.Promises.{CallsExact}
use Rattle.setops.proofs.Promises.{combines, unites}

pub calls_exact : CallsExact
calls_exact = record {
  combine = λ op o h. once_exact (combining op o) _ _ (combines op o h) (λ c b g l k. once_lacks_result c b (Combines op o) (one-combined op o b));
  unite = λ o h. once_exact (uniting o) _ _ (unites o h)
      (λ c b g l k. once_lacks c b (Unites o b) (λ b. max b.count o.count) (one_united o b) (λ s p. p.count));
}
