-- What is promised of each call determines its answer: the result, number by number, and its count; and no two conditions of refusal hold at once.
use Prim.Native.Nat.{max}
use Rattle.storage.specs.Promises.{Combines, Unites}
use Rattle.storage.proofs.Once.{one-combined, one_united, once_lacks, once_lacks_result}
use Rattle.storage.proofs.Promises.{once_exact}
use Rattle.combine.specs.Combine.{combining_from, uniting_from}
use Rattle.combine.specs.Promises.{CallsExact}
use Rattle.combine.proofs.Promises.{combines_from, unites_from}

pub calls_exact : CallsExact
calls_exact = record {
  combine = λ op x y h k. once_exact (combining_from op x y) _ _ (combines_from op x y h k)
      (λ c b g l m. once_lacks_result c b (λ b s. Combines op y x s) (one-combined op y x));
  unite = λ x y h k. once_exact (uniting_from x y) _ _ (unites_from x y h k)
      (λ c b g l m. once_lacks c b (Unites y x) (λ b. max x.count y.count) (one_united y x) (λ s p. p.count));
}
