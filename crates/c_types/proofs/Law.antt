-- The first fault of a list, and of a list and a least place of another rule, is found
-- (`finds_list`, `finds_joined`), and then what is answered is what `IsChecked` asks for
-- (`fault_checked`, `large_checked`, `sound_checked`).
use Rattle.std.proofs.Common.{◌≡◌, ◌⊎◌, ℕ, ◌<◌, ◌≤◌, Bool, true, false, nat_lt, List, [], ◌∷◌, ◌++◌}
use Rattle.std.proofs.Common.{suc}
use Rattle.std.proofs.Common.{Option, None, Some, refl, sym, subst, ap, ◌∙◌, arith}
use Rattle.std.specs.Prelude.{if◌then◌else◌}
use Rattle.std.proofs.lemmas.Bool.Decides.{leb_tells}
use Rattle.c_lexer.specs.Rules.{rule_number}
use Rattle.c_lexer.specs.declared.fault.Rule.TheVariants as rule
use Rattle.c_lexer.specs.declared.fault.TextFault.{TextFault}
use Rattle.c_grammar_tree.specs.declared.item.Unit.{Unit as UnitTree}
use Rattle.c_types_rules.specs.Names.{Text}
use Rattle.c_types_rules.specs.First.{comes_before, first_of_two, first_with, first_append}
use Rattle.c_types_rules.specs.ExpressionRules.{broken, option_places}
use Rattle.c_types_rules.specs.Items.{Before, Call, text_in, nothing_before, items_faults}
use Rattle.c_types_rules.specs.Items.{items_calls}
use Rattle.c_types_rules.specs.Recursion.{Among, LeadsBack}
use Rattle.c_types_rules.specs.Sound.{NotBehind, BreaksTree, unit_faults, unit_calls}
use Rattle.c_types_rules.specs.Sound.{unit_globals, unit_functions, without_main}
use Rattle.c_types_recursion.specs.Least.{FindsLeast}
use Rattle.c_core_rules_laws.specs.Sizes.{IsWithinLimits}
use Rattle.c_core_rules_laws.specs.Layouts.{IsTooLarge}
use Rattle.c_core_checked.specs.Texts.{unit_core}
use Rattle.c_core_checked.specs.Sound.{Sound, IsFirstBroken}
use Rattle.c_types.specs.Firsts.{FindsFirst}
use mathlib.Core.Logic.{inl, inr, ⊎_elim}
use Rattle.cpa_ints.specs.declared.data_model.DataModel.{DataModel}

-- the order of faults, as a relation of numbers
abbrev IsBefore : ℕ → ℕ → ℕ → ℕ → Type 0
IsBefore p r q s = (p < q) ⊎ ((p ≡ q) × (r ≤ s))

not_behind_same : (f : TextFault) → NotBehind f f
not_behind_same f = inr (refl, omega arith)

steps : (p r q s m n : ℕ) → IsBefore p r q s → IsBefore q s m n → IsBefore p r m n
steps p r q s m n (inl a) (inl b) = inl (omega (arith, a, b))
steps p r q s m n (inl a) (inr b) = inl (omega (arith, a, b.0))
steps p r q s m n (inr a) (inl b) = inl (omega (arith, a.0, b))
steps p r q s m n (inr a) (inr b) = inr (a.0 ∙ b.0, omega (arith, a.1, b.1))

not_behind_step : (f g h : TextFault) → NotBehind f g → NotBehind g h → NotBehind f h
not_behind_step f g h = steps f.place (rule_number f.rule) g.place (rule_number g.rule) h.place
    (rule_number h.rule)

abbrev tests : ℕ → ℕ → ℕ → ℕ → Bool
tests p r q s = if nat_lt p q then true else if nat_lt q p then false else nat_lt r s

tested : (p r q s : ℕ) → ((tests p r q s ≡ true) × IsBefore p r q s)
    ⊎ ((tests p r q s ≡ false) × IsBefore q s p r)
tested p r q s = by_places (nat_lt p q) (nat_lt q p) (nat_lt r s) refl refl refl
  where
    by_places : (a b c : Bool) → nat_lt p q ≡ a → nat_lt q p ≡ b → nat_lt r s ≡ c →
        (((if a then true else if b then false else c) ≡ true) × IsBefore p r q s)
        ⊎ (((if a then true else if b then false else c) ≡ false) × IsBefore q s p r)
    by_places true b c d e f = inl (refl, inl (grind (arith, d, leb_tells (suc p) q)))
    by_places false true c d e f = inr (refl, inl (grind (arith, e, leb_tells (suc q) p)))
    by_places false false true d e f =
        inl (
          refl,
          inr (
            grind (arith, d, e, leb_tells (suc p) q, leb_tells (suc q) p),
            grind (arith, f, leb_tells (suc r) s),
          ),
        )
    by_places false false false d e f =
        inr (
          refl,
          inr (
            grind (arith, d, e, leb_tells (suc p) q, leb_tells (suc q) p),
            grind (arith, f, leb_tells (suc r) s),
          ),
        )

-- what is found of one thing is found of another one that holds of it, and of nothing before it
pub found_of : (P Q : TextFault → Type 0) (found : Option TextFault) → FindsFirst P found →
    ((f : TextFault) → P f → Q f) →
    ((f : TextFault) → Q f → (g : TextFault) × (P g × NotBehind g f)) → FindsFirst Q found
found_of P Q None h into from = λ f q. let g = from f q in h g.0 g.1.0
found_of P Q (Some x) h into from =
    (into x h.0, λ f q. let g = from f q in not_behind_step x g.0 f (h.1 g.0 g.1.0) g.1.1)

-- one fault more
added_by : (P : TextFault → Type 0) (held x : TextFault) (b : Bool) → FindsFirst P (Some held) →
    ((b ≡ true) × NotBehind x held) ⊎ ((b ≡ false) × NotBehind held x) →
    FindsFirst (λ f. P f ⊎ (f ≡ x)) (if b then Some x else Some held)
added_by P held x true h (inl t) = (
  inr refl,
  λ f. ⊎_elim (λ p. not_behind_step x held f t.1 (h.1 f p))
      (λ e. subst (λ g. NotBehind x g) (sym e) (not_behind_same x)),
)
added_by P held x true h (inr t) = absurd (cc)
added_by P held x false h (inl t) = absurd (cc)
added_by P held x false h (inr t) =
    (inl h.0, λ f. ⊎_elim (λ p. h.1 f p) (λ e. subst (λ g. NotBehind held g) (sym e) t.1))

pub finds_added : (P : TextFault → Type 0) (held : Option TextFault) (x : TextFault) →
    FindsFirst P held → FindsFirst (λ f. P f ⊎ (f ≡ x)) (first_of_two held x)
finds_added P None x h = (
  inr refl,
  λ f. ⊎_elim (λ p. absurd (h f p))
      (λ e. subst (λ g. NotBehind x g) (sym e) (not_behind_same x)),
)
finds_added P (Some held) x h =
    added_by P held x (comes_before x held) h
    (tested x.place (rule_number x.rule) held.place (rule_number held.rule))

-- faults one after the other
pub finds_more : (P : TextFault → Type 0) (held : Option TextFault) (xs : List TextFault) →
    FindsFirst P held → FindsFirst (λ f. P f ⊎ Among f xs) (first_with held xs)
finds_more P held [] h =
    found_of P (λ f. P f ⊎ Among f []) held h (λ f p. inl p)
    (λ f. ⊎_elim (λ p. (f, (p, not_behind_same f))) (λ (e : ⊥). absurd e))
finds_more P held (x ∷ xs) h =
    found_of (λ f. (P f ⊎ (f ≡ x)) ⊎ Among f xs) (λ f. P f ⊎ Among f (x ∷ xs))
    (first_with (first_of_two held x) xs)
    (finds_more (λ f. P f ⊎ (f ≡ x)) (first_of_two held x) xs (finds_added P held x h))
    (λ f. ⊎_elim (⊎_elim (λ p. inl p) (λ e. inr (inl e))) (λ a. inr (inr a)))
    (λ f. ⊎_elim (λ p. (f, (inl (inl p), not_behind_same f)))
    (⊎_elim (λ e. (f, (inl (inr e), not_behind_same f))) (λ a. (f, (inr a, not_behind_same f)))))

pub finds_list : (xs : List TextFault) → FindsFirst (λ f. Among f xs) (first_with None xs)
finds_list xs =
    found_of (λ f. ⊥ ⊎ Among f xs) (λ f. Among f xs) (first_with None xs)
    (finds_more (λ f. ⊥) None xs (λ f (e : ⊥). e))
    (λ f. ⊎_elim (λ (e : ⊥). absurd e) (λ a. a))
    (λ f a. (f, (inr a, not_behind_same f)))

-- the fault of a call that leads back
abbrev pub leading_back : ℕ → TextFault
leading_back place = record { rule = rule.N10; place = place }

-- of a fault that is held and that of a call that leads back, if there is one, the first
abbrev pub joined : Option TextFault → Option ℕ → Option TextFault
joined held None = held
joined held (Some place) = first_of_two held (leading_back place)

places_order : (m n r s : ℕ) → m ≤ n → s ≡ r → IsBefore m r n s
places_order m n r s le same = ⊎_elim
    (λ t. inr (omega (arith, le, t.1), omega (arith, same)))
    (λ t. inl (omega (arith, t.1)))
    (leb_tells n m)

pub finds_joined : (model : DataModel) (unit : UnitTree) (held : Option TextFault)
    (least : Option ℕ) →
    FindsFirst (λ f. Among f (unit_faults model unit)) held →
    FindsLeast (LeadsBack (unit_calls model unit)) least →
    FindsFirst (BreaksTree model unit) (joined held least)
finds_joined model unit held None h none =
    found_of (λ f. Among f (unit_faults model unit)) (BreaksTree model unit) held h (λ f a. inl a)
    (λ f. ⊎_elim (λ a. (f, (a, not_behind_same f)))
    (λ r. absurd (none f.place r.back)))
finds_joined model unit held (Some place) h some =
    found_of (λ f. Among f (unit_faults model unit) ⊎ (f ≡ leading_back place))
    (BreaksTree model unit)
    (first_of_two held (leading_back place))
    (finds_added (λ f. Among f (unit_faults model unit)) held (leading_back place) h)
    (λ f. ⊎_elim (λ a. inl a) (λ e. inr (record {
      rule = ap (λ (g : TextFault). g.rule) e;
      back = subst (LeadsBack (unit_calls model unit))
          (sym (ap (λ (g : TextFault). g.place) e)) some.0;
    })))
    (λ f. ⊎_elim (λ a. (f, (inl a, not_behind_same f)))
    (λ r. (
      leading_back place,
      (
        inr refl,
        places_order place f.place (rule_number rule.N10)
            (rule_number f.rule) (some.1 f.place r.back) (ap rule_number r.rule),
      ),
    )))

-- the fault that is found is the first broken rule
pub fault_checked : (model : DataModel) (unit : UnitTree) (fault : TextFault) →
    FindsFirst (BreaksTree model unit) (Some fault) → IsFirstBroken model unit fault
fault_checked model unit fault h = record {
  breaks = inl h.0;
  first = λ other. ⊎_elim (λ b. h.1 other b) (λ large. absurd (large.has_core fault h.0));
}

-- where no rule is broken but that the core is too large, that one is the first
pub large_checked : (model : DataModel) (unit : UnitTree) →
    FindsFirst (BreaksTree model unit) None →
    IsTooLarge (unit_globals model unit) (unit_functions model unit) →
    IsFirstBroken model unit (record { rule = rule.N13; place = unit.length })
large_checked model unit h large = record {
  breaks = inr (record { rule = refl; place = refl; has_core = h; large = large });
  first = λ other. ⊎_elim (λ b. absurd (h other b))
      (λ more. inr (sym more.place, omega (arith, ap rule_number more.rule)));
}

-- where none is broken and the core is not too large the text is sound
pub sound_checked : (model : DataModel) (unit : UnitTree) →
    FindsFirst (BreaksTree model unit) None →
    (firsts : List ℕ) → IsWithinLimits (unit_core model firsts unit) → Sound model unit
sound_checked model unit h firsts within = λ fault. ⊎_elim (λ b. h fault b)
    (λ more. more.large firsts within)

faults_are : (model : DataModel) (unit : UnitTree) → unit_faults model unit
    ≡ items_faults (text_in model unit.items) unit.items nothing_before ++ without_main model unit
unfolding unit_faults
faults_are model unit = refl

calls_are : (model : DataModel) (unit : UnitTree) →
    unit_calls model unit ≡ items_calls (text_in model unit.items) unit.items nothing_before
unfolding unit_calls
calls_are model unit = refl

joined_is : (held : Option TextFault) (least : Option ℕ) →
    first_with held (broken rule.N10 (option_places least)) ≡ joined held least
joined_is held None = refl
joined_is held (Some place) = refl

-- the fault that is held behind the items, a missing main and the least place of a call that leads
-- back
pub finds_gathered : (model : DataModel) (unit : UnitTree) (text : Text) (before : Before)
    (held behind main whole : Option TextFault) (calls : List Call) (least : Option ℕ) →
    text ≡ text_in model unit.items → before ≡ nothing_before → held ≡ None →
    behind ≡ first_with held (items_faults text unit.items before) →
    main ≡ first_with behind (without_main model unit) →
    whole ≡ first_with main (broken rule.N10 (option_places least)) →
    calls ≡ items_calls text unit.items before →
    FindsLeast (LeadsBack calls) least → FindsFirst (BreaksTree model unit) whole
finds_gathered model unit text before held behind main whole calls least t b n h m w c found =
    let items = unit.items in
    let faults = items_faults (text_in model items) items nothing_before in
    let behind_is : behind ≡ first_with None faults =
    h ∙ ap (λ (f : Option TextFault). first_with f (items_faults text items before)) n
    ∙ ap (λ (x : Text). first_with None (items_faults x items before)) t
    ∙ ap (λ (x : Before). first_with None (items_faults (text_in model items) items x)) b in
    let main_is : main ≡ first_with None (unit_faults model unit) =
    m ∙ ap (λ (f : Option TextFault). first_with f (without_main model unit)) behind_is
    ∙ sym (first_append None faults (without_main model unit))
    ∙ ap (first_with None) (sym (faults_are model unit)) in
    let whole_is : whole ≡ joined (first_with None (unit_faults model unit)) least =
    w ∙ joined_is main least ∙ ap (λ (f : Option TextFault). joined f least) main_is in
    let calls_is : calls ≡ unit_calls model unit =
    c ∙ ap (λ (x : Text). items_calls x items before) t
    ∙ ap (λ (x : Before). items_calls (text_in model items) items x) b
    ∙ sym (calls_are model unit) in
    subst (FindsFirst (BreaksTree model unit)) (sym whole_is)
    (finds_joined model unit (first_with None (unit_faults model unit)) least
    (finds_list (unit_faults model unit))
    (subst (λ (cs : List Call). FindsLeast (LeadsBack cs) least) calls_is found))
