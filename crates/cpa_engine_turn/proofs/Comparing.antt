-- Where all that do not tell entries apart widen, each live row with the key of the successor
-- covers
-- it when all were compared (`compares_good`).
use Rattle.std.proofs.Common.{◌≡◌, ◌≢◌, zero, suc, Bool, true, cond}
use Rattle.std.proofs.Common.{List}
use Rattle.std.proofs.Common.{[], ◌∷◌, length, sym, ap, ◌∙◌}
use Rattle.std.proofs.Common.{subst}
use Rattle.std.proofs.Common.{inl, inr, ⊎_elim}
use Rattle.std.specs.Prelude.{◌⊎◌}
use Rattle.std.proofs.lemmas.Bool.{cases_Bool, and_parts}
use Rattle.std.proofs.lemmas.Option.{same_Some}
use Rattle.cpa_model.specs.declared.automaton.Cfa.{Cfa}
use Rattle.cpa_model.specs.declared.facts.Elem.{Elem}
use Rattle.cpa_iface.specs.declared.merging.MergeRule.TheVariants.{Sep, Join, Widen}
use Rattle.cpa_iface.specs.declared.precisions.Precision.{Precision}
use Rattle.cpa_composite.specs.Comparisons.{keeps_apart}
use Rattle.cpa_composite.specs.Components.{Component}
use Rattle.cpa_composite.specs.Keys.{is_key}
use Rattle.cpa_composite.specs.Laws.{AgreeOnSep, WidenCovers, MergedRow}
use Rattle.cpa_composite.specs.Ranks.{JoinNone}
use Rattle.cpa_composite.specs.lemmas.RankLaws.{stays_covers, merged_covers}
use Rattle.cpa_engine_turn.specs.Keys.{key_of, WidenBesideKeys, CoversKey}
use Rattle.cpa_engine_turn.specs.lemmas.Keyed.{apart, heads}

-- none of them joins
one_joins_not : (c : Component) → (is_key c ≡ true) ⊎ (c.rule ≡ Widen) → c.rule ≢ Join
one_joins_not c (inl key) join =
    let sep = apart c.rule (and_parts _ (keeps_apart c.rule) key).1 in
    absurd (let wrong : Sep ≡ Join = sym sep ∙ join in cc)
one_joins_not c (inr widen) join = absurd (let wrong : Widen ≡ Join = sym widen ∙ join in cc)

pub none_joins : (cs : List Component) → WidenBesideKeys cs → JoinNone cs
none_joins [] all = tt
none_joins (c ∷ cs) all = (one_joins_not c all.0, none_joins cs all.1)

-- rows of the same key agree where elements are kept apart
sep_is_key : (c : Component) → (is_key c ≡ true) ⊎ (c.rule ≡ Widen) → c.rule ≡ Sep → is_key c ≡ true
sep_is_key c (inl key) sep = key
sep_is_key c (inr widen) sep = absurd (let wrong : Widen ≡ Sep = sym widen ∙ sep in cc)

agree_by_key : (cs : List Component) (new old : List Elem) → WidenBesideKeys cs
    → key_of cs old ≡ key_of cs new → AgreeOnSep cs new old
agree_by_key [] new old all same i c e f at at_e at_f sep = absurd (cc)
agree_by_key (d ∷ cs) [] old all same i c e f at at_e at_f sep = absurd (cc)
agree_by_key (d ∷ cs) (x ∷ new) [] all same i c e f at at_e at_f sep = absurd (cc)
agree_by_key (d ∷ cs) (x ∷ new) (y ∷ old) all same zero c e f at at_e at_f sep =
    let is_d : d ≡ c = same_Some d c at in
    let key : is_key d ≡ true =
    sep_is_key d all.0 (ap (λ (b : Component). b.rule) is_d ∙ sep) in
    let both : y ∷ key_of cs old ≡ x ∷ key_of cs new =
    subst (λ (b : Bool). cond b (y ∷ key_of cs old) (key_of cs old)
    ≡ cond b (x ∷ key_of cs new) (key_of cs new)) key same in
    sym (same_Some x e at_e) ∙ (sym (heads y x (key_of cs old) (key_of cs new) both).0
    ∙ same_Some y f at_f)
agree_by_key (d ∷ cs) (x ∷ new) (y ∷ old) all same (suc i) c e f at at_e at_f sep =
    let later : key_of cs old ≡ key_of cs new =
    ⊎_elim
    (λ key. (heads y x (key_of cs old) (key_of cs new)
    (subst (λ (b : Bool). cond b (y ∷ key_of cs old) (key_of cs old)
    ≡ cond b (x ∷ key_of cs new) (key_of cs new)) key same)).1)
    (λ other. subst (λ (b : Bool). cond b (y ∷ key_of cs old) (key_of cs old)
    ≡ cond b (x ∷ key_of cs new) (key_of cs new)) other same)
    (cases_Bool (is_key d)) in
    agree_by_key cs new old all.1 later i c e f at at_e at_f sep

-- a row that stays covers the successor
pub stays_good : (cs : List Component) (successor row : List Elem) → WidenBesideKeys cs
    → (AgreeOnSep cs successor row → WidenCovers cs successor row) → CoversKey cs successor row
stays_good cs successor row all none same =
    let agree = agree_by_key cs successor row all same in
    stays_covers cs successor row (none_joins cs all) agree (none agree)

-- and so does one that takes its place
pub merged_good : (cfa : Cfa) (cs : List Component) (successor old : List Elem)
    (ps : List Precision) (merged : List Elem) → WidenBesideKeys cs
    → length successor ≡ length cs → length old ≡ length cs → length ps ≡ length cs
    → MergedRow cs cfa successor old ps merged → CoversKey cs successor merged
merged_good cfa cs successor old ps merged all a b d row same =
    merged_covers cfa cs successor old ps merged a b d row.elems.size (none_joins cs all) row.agree
    row.each
