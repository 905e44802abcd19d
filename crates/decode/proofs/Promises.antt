-- The promise of specs/Promises.
use Prim.Native.Nat.{ℕ, ◌<◌}
use mathlib.Core.Path.{◌≡◌, refl, sym, ap, ◌∙◌, subst}
use mathlib.Core.Bool.{Bool, true}
use mathlib.Core.List.{List}
use mathlib.Core.Option.{Option, none, some}
use mathlib.Core.Logic.{◌↔◌}
use native.Mathlib.Omega.{arith}
use lib.ListN.{length, get_or}
use borrow.Author.Tests.{eq-eqb, ne_eqb}
use Rattle.word.specs.Sets.{choose}
use Rattle.word.proofs.Cases.{by_eq, zero_one}
use Rattle.storage.specs.declared.Refusal.TheVariants.{BadPayload, NewerKind}
use Rattle.sheet.specs.Kinds.{size_in, rule_of}
use Rattle.editions.specs.Frames.{Item}
use Rattle.editions.specs.Reader.{asking_by}
use Rattle.sheet.specs.Reads.{edition_of}
use Rattle.sheet.specs.Promises.{HasKind, Laid}
use Rattle.sheet.specs.declared.Edit.{Edit}
use Rattle.sheet.proofs.Papers.{has_size, size_has, payloads_exact}
use Rattle.decode.specs.Asks.{asked_by, asked_for}
use Rattle.decode.specs.Kernels.{asks}
use Rattle.decode.specs.Promises.{AskedExact, EditOfMeans}
use Rattle.decode.specs.Asks.{Asked}
use Rattle.std.specs.Prelude.{Ok, Err}
use Rattle.storage.specs.Refusals.{answer_number}

module _ (n kind : ℕ) (p : List ℕ) (bytes : (i : ℕ) → get_or p i 0 < 256) where
  abbrev item : Item
  item = record { duty = true; kind = kind; payload = p }

  -- the edition lacks the kind
  lacking : size_in n kind ≡ none → ¬ HasKind n kind
  lacking s (e, q, l) = let z : none ≡ some _ = sym s ∙ has_size n kind e q l in zero_one cc

  -- it has the kind: an edit is asked for exactly where it is laid out so
  module _ (m : ℕ) (s : size_in n kind ≡ some m) where
    has : HasKind n kind
    has = size_has n kind m s

    laid-asks : (e : Edit) → Laid kind p e → (m ≡ length p) × (rule_of kind p ≡ some e)
    unfolding edition_of
    laid-asks e g =
        let a = (payloads_exact n 0 m item e refl s bytes).1 g in
        let z : some m ≡ some (length p) = sym s ∙ a.sized in
        ((cc), a.ruled)

    asks-laid : (e : Edit) → m ≡ length p → rule_of kind p ≡ some e → Laid kind p e
    unfolding edition_of
    asks-laid e l r = (payloads_exact n 0 m item e refl s bytes).0 (record { duty = refl; sized = s ∙ ap some l; ruled = r })

    wrong : ((e : Edit) → ¬ Laid kind p e) → (a : Asked) → a ≡ Err BadPayload → AskedExact n kind p a
    wrong none-laid a q = record {
      newer = ((λ x. absurd (omega (arith, ap answer_number q))), (λ h. absurd (h has)));
      bad = ((λ x. (has, none-laid)), (λ h. ap answer_number q));
      done = ((λ x. absurd (omega (arith, ap answer_number q))), (λ h. absurd (none-laid h.1 h.2)));
      for = λ e. ((λ x. absurd (omega (arith, ap answer_number (sym q ∙ x)))), (λ h. absurd (none-laid e h.1)));
    }

    right : (d : Edit) → ((e : Edit) → Laid kind p e ↔ (d ≡ e)) → (a : Asked) → a ≡ Ok d → AskedExact n kind p a
    right d its a q = record {
      newer = ((λ x. absurd (omega (arith, ap answer_number q))), (λ h. absurd (h has)));
      bad = ((λ x. absurd (omega (arith, ap answer_number q))), (λ h. absurd (h.1 d ((its d).1 refl))));
      done = ((λ x. (has, d, (its d).1 refl)), (λ h. ap answer_number q));
      for = λ e. ((λ x. let z : Ok d ≡ Ok e = sym q ∙ x in (has, (its e).1 (cc))), (λ h. q ∙ ap Ok ((its e).0 h.1)));
    }

    ruled : (o : Option Edit) → rule_of kind p ≡ o → length p ≡ m → AskedExact n kind p (asks o)
    ruled none r l = wrong (λ e g. let z : none ≡ some e = sym r ∙ (laid-asks e g).1 in zero_one cc) (asks none) refl
    ruled (some d) r l =
        right d
        (λ e. ((λ g. let z : some d ≡ some e = sym r ∙ (laid-asks e g).1 in cc), (λ q. asks-laid e (sym l) (r ∙ ap some q))))
        (asks (some d)) refl

    sized : AskedExact n kind p (asked_by (asking_by rule_of kind p (some m)))
    sized =
        by_eq (length p) m
        (λ l. subst (AskedExact n kind p) (sym (ap (λ (t : Bool). asks (choose t (rule_of kind p) none)) (eq-eqb (length p) m l))) (ruled (rule_of kind p) refl l))
        (λ l. wrong (λ e g. l (sym (laid-asks e g).0)) _ (ap (λ (t : Bool). asks (choose t (rule_of kind p) none)) (ne_eqb (length p) m l)))

  lacks : size_in n kind ≡ none → AskedExact n kind p (Err NewerKind)
  lacks s = record {
    newer = ((λ x. lacking s), (λ h. refl));
    bad = ((λ x. absurd (omega arith)), (λ h. absurd (lacking s h.0)));
    done = ((λ x. absurd (omega arith)), (λ h. absurd (lacking s h.0)));
    for = λ e. ((λ x. absurd (omega (arith, ap answer_number x))), (λ h. absurd (lacking s h.0)));
  }

  exact : AskedExact n kind p (asked_for n kind p)
  unfolding asked_for
  exact = go (size_in n kind) refl
    where
      go : (o : Option ℕ) → size_in n kind ≡ o → AskedExact n kind p (asked_by (asking_by rule_of kind p o))
      go none s = lacks s
      go (some m) s = sized m s

pub asked_exact : EditOfMeans
asked_exact = exact
