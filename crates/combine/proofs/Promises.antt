-- The promises of specs/Promises.
use mathlib.Core.Path.{refl, subst}
use mathlib.Core.List.{List}
use Prim.Native.Nat.{ℕ, max}
use Rattle.pairs.specs.declared.SetOp.TheVariants.{Or}
use Rattle.storage.specs.Refusals.{change_number, change_record}
use Rattle.storage.specs.Stores.{Bits, Bounded, Op, no_words, view, held, beside, outcome, trimmed, combined}
use Rattle.storage.specs.Promises.{Contained, Combines, Unites, Lacks, LacksResult}
use Rattle.storage.specs.declared.Bitmap.{Bitmap}
use Rattle.storage.proofs.Checks.{within_done}
use Rattle.storage.proofs.Outcomes.{lacks, bounded_combined, contained_within, contained_beside}
use Rattle.storage.proofs.Trims.{bounded_trimmed}
use Rattle.storage.proofs.Views.{bounded_view}
use Rattle.storage.proofs.Promises.{guarded_map, leaves_guarded, leaves_ends, guarded_once, ends_one, combined_fewest, combined_either}
use Rattle.combine.specs.Combine.{combining_from, uniting_from, beside_both}
use Rattle.combine.specs.Promises.{CombinesFrom, CombiningDiscards, UnitesFrom, UnitingDiscards, BothMeans, DeterminesBoth, CombineFromMeans, UniteFromMeans, DupCombineMeans, DupUniteMeans}

-- ---- `and_from`, `andnot_from`, `xor_from` and their dup forms

pub combines_from : CombinesFrom
unfolding combining_from combined
combines_from op x y h k = record {
  made = λ c b s q. subst (Combines op y x) (within_done c _ s q).0 (combined_fewest op x y);
  contained = contained_within (combining_from op x y) (λ b. trimmed (combined op x y)) (λ c b. refl) (λ b i. bounded_trimmed (combined op x y) (bounded_combined op x y h k));
  why = λ c b e q. let l = lacks c _ e q in (l.0, (trimmed (combined op x y), combined_fewest op x y, l.1));
}

pub combining_discards : CombiningDiscards
unfolding combining_from
combining_discards op x y c b b' = refl

-- ---- `or_from` and `dup_or`

pub unites_from : UnitesFrom
unfolding uniting_from combined
unites_from x y h k = record {
  made = λ c b s q. subst (Unites y x) (within_done c _ s q).0 (combined_either x y);
  contained = contained_within (uniting_from x y) (λ b. combined Or x y) (λ c b. refl) (λ b i. bounded_combined Or x y h k);
  why = λ c b e q. lacks c _ e q;
}

pub uniting_discards : UnitingDiscards
unfolding uniting_from
uniting_discards x y c b b' = refl

-- ---- with the two stores that are read

pub contained_both : (xs ys : List ℕ) (x y : Bitmap) (op : Bits → Bits → Op) → ((s t : Bits) → Bounded s → Bounded t → Contained (op s t)) → Contained (beside_both xs x ys y op)
unfolding beside_both
contained_both xs ys x y op f = contained_beside xs x (λ s. beside ys y (op s)) (λ s h. contained_beside ys y (op s) (λ t k. f s t h k))

pub both_means : BothMeans
unfolding beside_both beside outcome
both_means op rule why meets xs x ys y ws b r ws' l =
    guarded_map
    (λ k p.
    guarded_map
    (λ k' q.
    guarded_map (λ k''. leaves_ends (op s t) (rule s t) (why s t) (meets s t (bounded_view xs x.count) (bounded_view ys y.count)) ws ws' b r k)
    (leaves_guarded ys y _ ws ws' b r q))
    (leaves_guarded xs x _ ws ws' b r p))
    (leaves_guarded ws b _ ws ws' b r l)
  where
    s : Bits
    s = held xs x

    t : Bits
    t = held ys y

pub determines_both : DeterminesBoth
determines_both op rule why exact xs x ys y ws us vs b r s f g p q =
    guarded_once ws b b.count ws us vs k k' m m' p q
    (λ h p' q'. guarded_once xs x b.count ws us vs k k' m m' p' q'
    (λ h' p'' q''. guarded_once ys y b.count ws us vs k k' m m' p'' q''
    (λ h''. ends_one (op l t) (rule l t) (why l t) (exact l t (bounded_view xs x.count) (bounded_view ys y.count)) ws us vs b k k' m m' f g h)))
  where
    l : Bits
    l = held xs x

    t : Bits
    t = held ys y

    k : ℕ
    k = change_number r

    k' : ℕ
    k' = change_number s

    m : ℕ
    m = (change_record r).count

    m' : ℕ
    m' = (change_record s).count

pub combine_from_means : CombineFromMeans
combine_from_means op =
    both_means (combining_from op) (λ x y c b s. Combines op y x s) (λ x y. LacksResult (λ b s. Combines op y x s)) (λ x y. combines_from op x y)

pub unite_from_means : UniteFromMeans
unfolding view
unite_from_means = both_means uniting_from (λ x y c b s. Unites y x s) (λ x y. Lacks (λ b. max x.count y.count)) unites_from

pub dup-combine_means : DupCombineMeans
dup-combine_means op xs x ys y ws r ws' l = combine_from_means op xs x ys y ws no_words r ws' l

pub dup_unite_means : DupUniteMeans
dup_unite_means xs x ys y ws r ws' l = unite_from_means xs x ys y ws no_words r ws' l
