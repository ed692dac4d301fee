-- That what analyses share keeps the laws: to keep the common facts, and to change nothing.
use Rattle.std.specs.Prelude.{◌≡◌, ◌≢◌, ℕ, ◌<◌, ◌≤◌, Bool, true, List, [], ◌∷◌, length, Some}
use Rattle.std.specs.Prelude.{IfSome, refl, ◌&&◌}
use Rattle.std.specs.List.{AllByRecursion, filter, list_all}
use Rattle.std.proofs.Common.{ap, sym, ◌∙◌, subst, arith, append-nil}
use Rattle.std.proofs.lemmas.Bool.{cond_both}
use Rattle.cpa_facts.specs.declared.fact.Fact.{Fact}
use Rattle.cpa_model.specs.declared.facts.Elem.{Elem}
use Rattle.cpa_model.specs.declared.automaton.Cfa.{Cfa}
use Rattle.cpa_model.specs.declared.automaton.Path.{Path}
use Rattle.cpa_model.specs.Facts.{FactHolds, IsFact, IsWithin}
use Rattle.cpa_model.specs.Standing.{has_facts}
use Rattle.cpa_model.specs.lemmas.StandingLaws.{has_facts-within}
use Rattle.cpa_iface.specs.declared.analysis.Part.TheVariants as part
use Rattle.cpa_iface.specs.declared.analysis.Settings.{Settings}
use Rattle.cpa_iface.specs.declared.merging.MergeRule.{MergeRule}
use Rattle.cpa_iface.specs.declared.merging.MergeRule.TheVariants.{Sep, Join, Widen}
use Rattle.cpa_iface.specs.declared.precisions.Precision.{Precision}
use Rattle.cpa_iface.specs.declared.entries.Entry.{Entry}
use Rattle.cpa_iface.specs.Meanings.{Meaning, IsShaped, IsPrecision}
use Rattle.cpa_iface.specs.Laws.{FirstPrecisionLaws, StrengthenLaws, MergeLaws, AdjustLaws}
use Rattle.cpa_iface.specs.Laws.{RefineLaws, AppendsMissing, AppendsSuggested}
use Rattle.cpa_iface.specs.Common.{stands_in, common_facts, merged_facts, fact_count, no_precision}
use Rattle.cpa_iface.specs.Common.{no_suggestion}

-- the analysis covers by the letter, its rank is the number of facts, and it tells nothing else of
-- merging than that the common facts are kept
pub record CoversByFacts (m : Meaning) : Type 0 where
  pub cover : m.cover ≡ has_facts
  pub rank : m.rank ≡ fact_count
  pub merges : (cfa : Cfa) (rule : MergeRule) (new old : Elem) (p : Precision)
      → IfSome m.replies (λ r. merged_facts rule new old ≡ r.merge cfa rule new old p)

-- what holds of all items holds of those that pass a test
pub kept_all : (P : Fact → Type 0) (test : Fact → Bool) (fs : List Fact) → AllByRecursion P fs
    → AllByRecursion P (filter test fs)
kept_all P test [] all = tt
kept_all P test (f ∷ fs) all =
    cond_both (test f) (f ∷ filter test fs) (filter test fs) (AllByRecursion P)
    (λ _. (all.0, kept_all P test fs all.1)) (λ _. kept_all P test fs all.1)

-- no more items pass a test than there are
pub kept_length : (test : Fact → Bool) (fs : List Fact) → length (filter test fs) ≤ length fs
kept_length test [] = omega arith
kept_length test (f ∷ fs) =
    let less : length (filter test fs) ≤ length fs = kept_length test fs in
    cond_both (test f) (f ∷ filter test fs) (filter test fs) (λ l. length l ≤ length (f ∷ fs))
    (λ _. omega arith) (λ _. omega arith)

-- where not all pass there are fewer
kept_fewer : (test : Fact → Bool) (fs : List Fact) → filter test fs ≢ fs
    → length (filter test fs) < length fs
kept_fewer test [] differs = absurd (differs refl)
kept_fewer test (f ∷ fs) differs =
    cond_both (test f) (f ∷ filter test fs) (filter test fs)
    (λ l. (l ≢ f ∷ fs) → length l < length (f ∷ fs))
    (λ _ other.
    let less : length (filter test fs) < length fs =
    kept_fewer test fs (λ e. other (ap (λ l. f ∷ l) e)) in omega arith)
    (λ _ _. let less : length (filter test fs) ≤ length fs = kept_length test fs in omega arith)
    differs

-- each item that is kept passes the test
passing : (test : Fact → Bool) (fs : List Fact) → list_all test (filter test fs) ≡ true
passing test [] = refl
passing test (f ∷ fs) =
    cond_both (test f) (f ∷ filter test fs) (filter test fs) (λ l. list_all test l ≡ true)
    (λ passes. ap (λ b. b && list_all test (filter test fs)) passes ∙ passing test fs)
    (λ _. passing test fs)

-- the common facts of two elements stand in both
common_within_old : (new old : Elem) → IsWithin old (common_facts new old)
common_within_old new old s all = kept_all (FactHolds s) (stands_in new.facts) old.facts all

common_within_new : (new old : Elem) → IsWithin new (common_facts new old)
common_within_new new old =
    has_facts-within new (common_facts new old) (passing (stands_in new.facts) old.facts)

-- of two elements that differ from no common facts, the ranks
common_falls : (new old : Elem) → common_facts new old ≢ old
    → length (common_facts new old).facts < length old.facts
common_falls new old differs =
    kept_fewer (stands_in new.facts) old.facts
    (λ e. differs (ap (λ (fs : List Fact). let r : Elem = record { facts = fs } in r) e))

widened : (m : Meaning) (cfa : Cfa) (new old : Elem) (p : Precision) → CoversByFacts m
    → IsShaped cfa old
    → MergeLaws m cfa Widen new old p (common_facts new old)
widened m cfa new old p by shaped =
    let rank_is : (e : Elem) → m.rank cfa e ≡ length e.facts = λ e. ap (λ f. f cfa e) by.rank in
    let merged = common_facts new old in
    let less : length merged.facts ≤ length old.facts =
    kept_length (stands_in new.facts) old.facts in
    let of_merged : m.rank cfa merged ≡ length merged.facts = rank_is merged in
    let of_old : m.rank cfa old ≡ length old.facts = rank_is old in
    record {
      shaped = kept_all (IsFact cfa.cells cfa.points) (stands_in new.facts) old.facts shaped;
      covers_old = λ s _ holds. common_within_old new old s holds;
      sep = λ e. absurd (cc);
      covers_new = λ _ s _ holds. common_within_new new old s holds;
      covered =
          λ _. subst (λ (f : Elem → Elem → Bool). f new merged ≡ true) (sym by.cover)
          (passing (stands_in new.facts) old.facts);
      falls =
          λ _ differs. let fewer : length merged.facts < length old.facts =
          common_falls new old differs in omega (arith, of_merged, of_old);
      bounded = λ _ below. omega (arith, of_merged, of_old, less, below);
      told = by.merges cfa Widen new old p;
    }

-- To keep the common facts keeps the laws of merging, the widening law too.
pub merged_facts-laws : (m : Meaning) (cfa : Cfa) (rule : MergeRule) (new old : Elem)
    (p : Precision) → CoversByFacts m → IsShaped cfa old
    → MergeLaws m cfa rule new old p (merged_facts rule new old)
merged_facts-laws m cfa Sep new old p by shaped = record {
  shaped = shaped;
  covers_old = λ s _ holds. holds;
  sep = λ _. refl;
  covers_new = λ e. absurd (cc);
  covered = λ e. absurd (cc);
  falls = λ e. absurd (cc);
  bounded = λ _ below. below;
  told = by.merges cfa Sep new old p;
}
merged_facts-laws m cfa Join new old p by shaped =
    let w = widened m cfa new old p by shaped in
    record {
      shaped = w.shaped;
      covers_old = w.covers_old;
      sep = λ e. absurd (cc);
      covers_new = λ e. absurd (cc);
      covered = λ e. absurd (cc);
      falls = λ e. absurd (cc);
      bounded = w.bounded;
      told = by.merges cfa Join new old p;
    }
merged_facts-laws m cfa Widen new old p by shaped = widened m cfa new old p by shaped

-- To give the own element keeps the laws of strengthening.
pub own-laws : (m : Meaning) (cfa : Cfa) (own : Elem) (others : List Elem) (p : Precision)
    → IfSome m.replies (λ r. Some own ≡ r.strengthen cfa own others p) → IsShaped cfa own
    → StrengthenLaws m cfa own others p (Some own)
own-laws m cfa own others p told shaped = record {
  shaped = shaped;
  keeps = λ s _ holds _. holds;
  exact = λ _ _. refl;
  bounded = λ below. below;
  told = told;
}

-- To adjust nothing keeps the laws of adjustment.
pub unadjusted-laws : (m : Meaning) (cfa : Cfa) (e : Elem) (p : Precision) (reached : List Entry)
    (place : ℕ)
    → IfSome m.replies (λ r. (e ≡ (r.adjust cfa e p reached place).0)
    × (p ≡ (r.adjust cfa e p reached place).1))
    → IsShaped cfa e → IsPrecision cfa p → AdjustLaws m cfa e p reached place e p
unadjusted-laws m cfa e p reached place told shaped precision = record {
  shaped = shaped;
  shaped_precision = precision;
  covers = λ s _ holds. holds;
  exact = λ _. refl;
  exact_precision = λ _ _. refl;
  bounded = λ below _. below;
  told = told;
}

nothing_missing : {X : Type 0} (old : List X) → AppendsMissing [] old old
nothing_missing old =
    record { more = []; is = sym (append-nil old); whole = tt; only = tt; once = tt }

-- To refine nothing keeps the laws of refinement, where nothing is suggested.
pub unrefined-laws : (m : Meaning) (cfa : Cfa) (path : Path) (p : Precision)
    → m.suggestion cfa path ≡ Some no_suggestion
    → IfSome m.replies (λ r. p ≡ r.refine cfa path p) → IsPrecision cfa p
    → RefineLaws m cfa path p p
unrefined-laws m cfa path p suggested told precision = record {
  shaped = precision;
  limit = refl;
  tracked = ([], sym (append-nil p.tracked));
  preds = ([], sym (append-nil p.preds));
  suggested =
      subst (λ o. IfSome o (AppendsSuggested p p)) (sym suggested)
      (nothing_missing p.tracked, nothing_missing p.preds);
  told = told;
}

-- The empty precision keeps the laws of the first one, but for an analysis that is exact on the
-- store.
pub no_precision-laws : (m : Meaning) (cfa : Cfa) (settings : Settings) → m.part ≢ part.Store
    → IfSome m.replies (λ r. no_precision ≡ r.first_precision cfa settings)
    → FirstPrecisionLaws m cfa settings no_precision
no_precision-laws m cfa settings other told = record {
  shaped = record { tracked = tt; preds = tt };
  exact = λ e _ _. absurd (other e);
  told = told;
}
