-- The promises of specs/Promises.
use mathlib.Core.Path.{refl, subst}
use Rattle.pairs.specs.declared.SetOp.{SetOp}
use Rattle.pairs.specs.declared.SetOp.TheVariants.{Or}
use Rattle.storage.specs.Stores.{Bits, Bounded, trimmed, combined}
use Rattle.storage.specs.Promises.{Combines, Unites, Contained}
use Rattle.storage.proofs.Checks.{within_done}
use Rattle.storage.proofs.Outcomes.{lacks, bounded_combined, contained_within}
use Rattle.storage.proofs.Trims.{bounded_trimmed}
use Rattle.storage.proofs.Promises.{combined_fewest, combined_either}
use Rattle.setops.specs.Setops.{combining, uniting}
use Rattle.setops.specs.Promises.{CombineMeans, UniteMeans}

pub contained_combining : (op : SetOp) (o : Bits) → Bounded o → Contained (combining op o)
unfolding combining
contained_combining op o k =
    contained_within (combining op o) (λ b. trimmed (combined op b o)) (λ c b. refl) (λ b h. bounded_trimmed (combined op b o) (bounded_combined op b o h k))

pub contained_uniting : (o : Bits) → Bounded o → Contained (uniting o)
unfolding uniting
contained_uniting o k = contained_within (uniting o) (λ b. combined Or b o) (λ c b. refl) (λ b h. bounded_combined Or b o h k)

pub combines : CombineMeans
unfolding combining
combines op o k = record {
  made = λ c b s q. subst (Combines op o b) (within_done c _ s q).0 (combined_fewest op b o);
  contained = contained_combining op o k;
  why = λ c b e q. let l = lacks c _ e q in (l.0, (trimmed (combined op b o), combined_fewest op b o, l.1));
}

pub unites : UniteMeans
unfolding uniting combined
unites o k = record {
  made = λ c b s q. subst (Unites o b) (within_done c _ s q).0 (combined_either b o);
  contained = contained_uniting o k;
  why = λ c b e q. lacks c _ e q;
}
