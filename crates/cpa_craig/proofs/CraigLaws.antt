-- What the analysis of predicates keeps of the laws, this one keeps; and what is counted beside its
-- questions leaves what is known of them.
use Rattle.std.proofs.Common.{◌≡◌, ℕ, ◌<◌, ◌-◌, ◌^◌, List, Result, sym, ap, ◌∙◌, subst, arith}
use Rattle.std.specs.Prelude.{Option, Some, slice_get, IfOk}
use Rattle.std.specs.declared.alloc.Global.{Global}
use Rattle.std.specs.declared.vec.Vec.{Vec}
use Rattle.std.proofs.lemmas.Result.{IfOk-weaker}
use Rattle.cpa_model.specs.declared.facts.Elem.{Elem}
use Rattle.cpa_model.specs.declared.automaton.Edge.{Edge}
use Rattle.cpa_model.specs.declared.automaton.Cfa.{Cfa}
use Rattle.cpa_iface.specs.declared.analysis.Settings.{Settings}
use Rattle.cpa_iface.specs.declared.entries.Entry.{Entry}
use Rattle.cpa_iface.specs.declared.merging.MergeRule.{MergeRule}
use Rattle.cpa_iface.specs.declared.precisions.Precision.{Precision}
use Rattle.cpa_iface.specs.Laws.{InitialLaws, FirstPrecisionLaws, TransferLaws}
use Rattle.cpa_iface.specs.Laws.{StrengthenLaws, MergeLaws, AdjustLaws}
use Rattle.cpa_form_rules.specs.Forms.{Form}
use Rattle.cpa_predicate.specs.declared.asking.Budgets.{Budgets}
use Rattle.cpa_predicate.specs.Predicates.{predicates}
use Rattle.cpa_predicate.specs.Questions.{form_asked, IsOpen, IsUndecided, SomeBeyond, Spends}
use Rattle.cpa_predicate.specs.Transfer.{IsCartesian, NoneOpen}
use Rattle.cpa_predicate.specs.lemmas.Wider.{cartesian_wider}
use Rattle.cpa_craig.specs.Craigs.{craigs, spent_more}

-- ---- laws

pub initial-laws : (cfa : Cfa) (e : Elem) → InitialLaws predicates cfa e → InitialLaws craigs cfa e
initial-laws cfa e l = record {
  shaped = l.shaped;
  holds = l.holds;
  exact = l.exact;
  bounded = l.bounded;
  told = tt;
}

pub first-laws : (cfa : Cfa) (settings : Settings) (p : Precision)
    → FirstPrecisionLaws predicates cfa settings p → FirstPrecisionLaws craigs cfa settings p
first-laws cfa settings p l = record { shaped = l.shaped; exact = l.exact; told = tt }

pub transfer-laws : (cfa : Cfa) (edge : ℕ) (e : Elem) (p : Precision) (es : List Elem)
    → TransferLaws predicates cfa edge e p es → TransferLaws craigs cfa edge e p es
transfer-laws cfa edge e p es l = record {
  shaped = l.shaped;
  covers = l.covers;
  exact = l.exact;
  bounded = l.bounded;
  told = tt;
}

pub strengthen-laws : (cfa : Cfa) (own : Elem) (others : List Elem) (p : Precision)
    (e : Option Elem) → StrengthenLaws predicates cfa own others p e
    → StrengthenLaws craigs cfa own others p e
strengthen-laws cfa own others p e l = record {
  shaped = l.shaped;
  keeps = l.keeps;
  exact = l.exact;
  bounded = l.bounded;
  told = tt;
}

pub merge-laws : (cfa : Cfa) (rule : MergeRule) (new old : Elem) (p : Precision) (e : Elem)
    → MergeLaws predicates cfa rule new old p e → MergeLaws craigs cfa rule new old p e
merge-laws cfa rule new old p e l = record {
  shaped = l.shaped;
  covers_old = l.covers_old;
  sep = l.sep;
  covers_new = l.covers_new;
  covered = l.covered;
  falls = l.falls;
  bounded = l.bounded;
  told = tt;
}

pub adjust-laws : (cfa : Cfa) (e : Elem) (p : Precision) (reached : List Entry) (place : ℕ)
    (after : Elem) (next : Precision) → AdjustLaws predicates cfa e p reached place after next
    → AdjustLaws craigs cfa e p reached place after next
adjust-laws cfa e p reached place after next l = record {
  shaped = l.shaped;
  shaped_precision = l.shaped_precision;
  covers = l.covers;
  exact = l.exact;
  exact_precision = l.exact_precision;
  bounded = l.bounded;
  told = tt;
}

-- ---- counts

module _ (s : ℕ) (b c : Budgets) where
  pub more_undecided : (form : Form) → IsUndecided b c form
      → IsUndecided (spent_more s b) (spent_more s c) form
  more_undecided form was = record {
    beyond = was.beyond;
    counted = λ less. let rises = was.counted (omega (arith, less)) in omega (arith, less, rises);
  }

  pub more_spent : (C : Type 0) → Spends b c C → Spends (spent_more s b) (spent_more s c) C
  more_spent C t = record {
    learnt = t.learnt;
    gates = t.gates;
    grows = let grows = t.grows in omega (arith, grows);
    rises = λ less. t.rises (omega (arith, less));
  }

  pub same_spent : (spent_more s c).spent ≡ (spent_more s b).spent
      → (spent_more s c).spent < 2 ^ 64 - 1 → c.spent ≡ b.spent
  same_spent same below = omega (arith, same, below)

  pub below_spent : (spent_more s c).spent < 2 ^ 64 - 1 → c.spent < 2 ^ 64 - 1
  below_spent below = omega (arith, below)

-- ---- what a transfer gives, with the count of both

module _ {E : Type 0} (s : ℕ) (b c old : Budgets) (is : spent_more s b ≡ old) (cfa : Cfa)
    (edge : ℕ) (e : Elem) (p : Precision) (r : Result (Vec Elem Global) E) where
  pub transfer-exact : IfOk r (λ es. (g : Edge) → slice_get cfa.edges edge ≡ Some g
      → c.spent ≡ b.spent → c.spent < 2 ^ 64 - 1
      → IsCartesian NoneOpen cfa e g p.preds es.items)
      → IfOk r (λ es. (g : Edge) → slice_get cfa.edges edge ≡ Some g
      → (spent_more s c).spent ≡ old.spent → (spent_more s c).spent < 2 ^ 64 - 1
      → IsCartesian NoneOpen cfa e g p.preds es.items)
  transfer-exact =
      IfOk-weaker r _ _ (λ (es : Vec Elem Global) exact g at same below.
      exact g at (same_spent s b c (same ∙ ap (λ (x : Budgets). x.spent) (sym is)) below)
      (below_spent s b c below))

  pub transfer-known : IfOk r (λ es. (g : Edge) → slice_get cfa.edges edge ≡ Some g
      → IsCartesian (IsOpen b c cfa e g) cfa e g p.preds es.items)
      → IfOk r (λ es. (g : Edge) → slice_get cfa.edges edge ≡ Some g
      → IsCartesian (IsOpen old (spent_more s c) cfa e g) cfa e g p.preds es.items)
  transfer-known =
      IfOk-weaker r _ _ (λ (es : Vec Elem Global) known g at.
      cartesian_wider (IsOpen b c cfa e g) (IsOpen old (spent_more s c) cfa e g) cfa e g
      (λ question was. subst (λ (x : Budgets). IsOpen x (spent_more s c) cfa e g question) is
      (more_undecided s b c (form_asked cfa e g question) was)) p.preds es.items (known g at))

  pub transfer-spends : ((g : Edge) → slice_get cfa.edges edge ≡ Some g
      → Spends b c (SomeBeyond b cfa e g p.preds))
      → (g : Edge) → slice_get cfa.edges edge ≡ Some g
      → Spends old (spent_more s c) (SomeBeyond old cfa e g p.preds)
  transfer-spends spends g at =
      subst (λ (x : Budgets). Spends x (spent_more s c) (SomeBeyond x cfa e g p.preds)) is
      (more_spent s b c (SomeBeyond b cfa e g p.preds) (spends g at))
