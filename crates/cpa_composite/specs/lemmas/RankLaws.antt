-- What a merge makes of rows: the new one is covered by what stands there afterwards, and where the
-- row changed, the ranks fell. Lemmas for the crates above.
use Rattle.std.specs.Prelude.{◌≡◌, ◌≢◌, ℕ, suc, ◌+◌, ◌<◌, Bool, true, ◌&&◌, List}
use Rattle.std.specs.Prelude.{[], ◌∷◌, length, refl, ◌⊎◌}
use Rattle.std.proofs.Common.{sym, ap, ◌∙◌, subst, inl, inr, ⊎_elim, arith}
use Rattle.std.proofs.lemmas.Bool.{both_ways, cases_Bool}
use Rattle.cpa_model.specs.declared.facts.Elem.{Elem}
use Rattle.cpa_model.specs.declared.automaton.Cfa.{Cfa}
use Rattle.cpa_iface.specs.declared.merging.MergeRule.{MergeRule}
use Rattle.cpa_iface.specs.declared.merging.MergeRule.TheVariants.{Sep, Join, Widen}
use Rattle.cpa_iface.specs.declared.precisions.Precision.{Precision}
use Rattle.cpa_iface.specs.Laws.{MergeLaws}
use Rattle.cpa_composite.specs.Components.{Component}
use Rattle.cpa_reached_key.specs.Rows.{same_elem}
use Rattle.cpa_reached_key.specs.lemmas.RowLaws.{same_elem-means, same_elem-self}
use Rattle.cpa_composite.specs.Covers.{all_cover}
use Rattle.cpa_composite.specs.Laws.{EachMerged, MergedRow, AgreeOnSep, WidenCovers}
use Rattle.cpa_composite.specs.Ranks.{rank_by, row_rank, JoinNone}

-- an element is another one or not
pub elem_is : (e f : Elem) → (e ≡ f) ⊎ (e ≢ f)
elem_is e f =
    ⊎_elim (λ yes. inl (same_elem-means e f yes))
    (λ no. inr (λ same. both_ways (same_elem e f) no
    (subst (λ (x : Elem). same_elem e x ≡ true) same (same_elem-self e))))
    (cases_Bool (same_elem e f))

rule_cases : {P : Type 0} (r : MergeRule) → (r ≡ Sep → P) → (r ≡ Join → P) → (r ≡ Widen → P) → P
rule_cases Sep s j w = s refl
rule_cases Join s j w = j refl
rule_cases Widen s j w = w refl

-- one item: the rank falls, or it is the old element
one_falls : (cfa : Cfa) (c : Component) (e : Elem) (p : Precision) (f g : Elem)
    → MergeLaws c.meaning cfa c.rule e f p g → c.rule ≢ Join
    → (g ≡ f) ⊎ (rank_by c.rule (c.meaning.rank cfa g) < rank_by c.rule (c.meaning.rank cfa f))
one_falls cfa c e p f g laws other =
    rule_cases c.rule
    (λ sep. inl (laws.sep sep))
    (λ join. absurd (other join))
    (λ widen. ⊎_elim (λ same. inl same)
    (λ differs. inr
    (let at_g : rank_by c.rule (c.meaning.rank cfa g) ≡ c.meaning.rank cfa g =
    ap (λ (r : MergeRule). rank_by r (c.meaning.rank cfa g)) widen in
    let at_f : rank_by c.rule (c.meaning.rank cfa f) ≡ c.meaning.rank cfa f =
    ap (λ (r : MergeRule). rank_by r (c.meaning.rank cfa f)) widen in
    let less = laws.falls widen differs in omega (arith, at_g, at_f, less)))
    (elem_is g f))

-- each later item at its place
later_merged : (cfa : Cfa) (c : Component) (cs : List Component) (e : Elem) (es : List Elem)
    (f : Elem) (fs : List Elem) (p : Precision) (ps : List Precision) (g : Elem) (gs : List Elem)
    → EachMerged cfa (c ∷ cs) (e ∷ es) (f ∷ fs) (p ∷ ps) (g ∷ gs)
    → EachMerged cfa cs es fs ps gs
later_merged cfa c cs e es f fs p ps g gs each i d x q y z stands at_y at_z =
    each (suc i) d x q y z
    (record { component = stands.component; elem = stands.elem; precision = stands.precision })
    at_y at_z

first_merged : (cfa : Cfa) (c : Component) (cs : List Component) (e : Elem) (es : List Elem)
    (f : Elem) (fs : List Elem) (p : Precision) (ps : List Precision) (g : Elem) (gs : List Elem)
    → EachMerged cfa (c ∷ cs) (e ∷ es) (f ∷ fs) (p ∷ ps) (g ∷ gs)
    → MergeLaws c.meaning cfa c.rule e f p g
first_merged cfa c cs e es f fs p ps g gs each =
    each 0 c e p f g (record { component = refl; elem = refl; precision = refl }) refl refl

-- what one change makes of both lists together
both_fall : (a b c d : ℕ) (X Y : Type 0) → X ⊎ (a < b) → Y ⊎ (c < d) → (X → a ≡ b)
    → (Y → c ≡ d) → (X × Y) ⊎ (a + c < b + d)
both_fall a b c d X Y (inl x) (inl y) same_a same_c = inl (x, y)
both_fall a b c d X Y (inl x) (inr less) same_a same_c =
    inr (let is : a ≡ b = same_a x in omega (arith, is, less))
both_fall a b c d X Y (inr less) (inl y) same_a same_c =
    inr (let is : c ≡ d = same_c y in omega (arith, is, less))
both_fall a b c d X Y (inr less) (inr also) same_a same_c = inr (omega (arith, less, also))

-- the ranks of a merged row fall, or it is the old one
pub row_falls : (cfa : Cfa) (cs : List Component) (new old : List Elem) (ps : List Precision)
    (merged : List Elem) → length new ≡ length cs → length old ≡ length cs
    → length ps ≡ length cs → length merged ≡ length cs → JoinNone cs
    → EachMerged cfa cs new old ps merged
    → (merged ≡ old) ⊎ (row_rank cfa cs merged < row_rank cfa cs old)
row_falls cfa [] [] [] [] [] a b d size other each = inl refl
row_falls cfa [] (e ∷ es) fs ps gs a b d size other each = absurd (omega arith)
row_falls cfa [] [] (f ∷ fs) ps gs a b d size other each = absurd (omega arith)
row_falls cfa [] [] [] (p ∷ ps) gs a b d size other each = absurd (omega arith)
row_falls cfa [] [] [] [] (g ∷ gs) a b d size other each = absurd (omega arith)
row_falls cfa (c ∷ cs) [] fs ps gs a b d size other each = absurd (omega arith)
row_falls cfa (c ∷ cs) (e ∷ es) [] ps gs a b d size other each = absurd (omega arith)
row_falls cfa (c ∷ cs) (e ∷ es) (f ∷ fs) [] gs a b d size other each = absurd (omega arith)
row_falls cfa (c ∷ cs) (e ∷ es) (f ∷ fs) (p ∷ ps) [] a b d size other each = absurd (omega arith)
row_falls cfa (c ∷ cs) (e ∷ es) (f ∷ fs) (p ∷ ps) (g ∷ gs) a b d size other each =
    ⊎_elim
    (λ same. inl (let first : g ≡ f = same.0 in let later : gs ≡ fs = same.1 in cc))
    (λ less. inr less)
    (both_fall (rank_by c.rule (c.meaning.rank cfa g)) (rank_by c.rule (c.meaning.rank cfa f))
    (row_rank cfa cs gs) (row_rank cfa cs fs) (g ≡ f) (gs ≡ fs)
    (one_falls cfa c e p f g (first_merged cfa c cs e es f fs p ps g gs each) other.0)
    (row_falls cfa cs es fs ps gs (omega arith) (omega arith) (omega arith) (omega arith) other.1
    (later_merged cfa c cs e es f fs p ps g gs each))
    (λ same. ap (λ (x : Elem). rank_by c.rule (c.meaning.rank cfa x)) same)
    (λ same. ap (λ (xs : List Elem). row_rank cfa cs xs) same))

-- the ranks of a row that takes the place of an old one are lower
pub merged_falls : (cfa : Cfa) (cs : List Component) (new old : List Elem) (ps : List Precision)
    (merged : List Elem) → length new ≡ length cs → length old ≡ length cs
    → length ps ≡ length cs → JoinNone cs → MergedRow cs cfa new old ps merged
    → row_rank cfa cs merged < row_rank cfa cs old
merged_falls cfa cs new old ps merged a b d other row =
    ⊎_elim (λ same. absurd (row.differs same)) (λ less. less)
    (row_falls cfa cs new old ps merged a b d row.elems.size other row.each)

-- where an analysis keeps apart or widens, the new element is covered
one_covers : (c : Component) (e f : Elem) → c.rule ≢ Join
    → (c.rule ≡ Sep → e ≡ f) → (c.rule ≡ Widen → c.meaning.cover e f ≡ true)
    → c.meaning.cover e f ≡ true
one_covers c e f other sep widen =
    rule_cases c.rule
    (λ is. subst (λ (x : Elem). c.meaning.cover e x ≡ true) (sep is) (c.meaning.same e))
    (λ is. absurd (other is))
    (λ is. widen is)

-- the new row is covered by an old one that stays
pub stays_covers : (cs : List Component) (new old : List Elem) → JoinNone cs
    → AgreeOnSep cs new old → WidenCovers cs new old → all_cover cs new old ≡ true
stays_covers [] es fs other agree covers = refl
stays_covers (c ∷ cs) [] fs other agree covers = refl
stays_covers (c ∷ cs) (e ∷ es) [] other agree covers = refl
stays_covers (c ∷ cs) (e ∷ es) (f ∷ fs) other agree covers =
    let first : c.meaning.cover e f ≡ true =
    one_covers c e f other.0 (λ is. agree 0 c e f refl refl refl is)
    (λ is. covers 0 c e f refl refl refl is) in
    ap (λ (b : Bool). b && all_cover cs es fs) first
    ∙ stays_covers cs es fs other.1
    (λ i d x y at_d at_x at_y is. agree (suc i) d x y at_d at_x at_y is)
    (λ i d x y at_d at_x at_y is. covers (suc i) d x y at_d at_x at_y is)

-- and by the row that takes its place
pub merged_covers : (cfa : Cfa) (cs : List Component) (new old : List Elem) (ps : List Precision)
    (merged : List Elem) → length new ≡ length cs → length old ≡ length cs
    → length ps ≡ length cs → length merged ≡ length cs → JoinNone cs → AgreeOnSep cs new old
    → EachMerged cfa cs new old ps merged → all_cover cs new merged ≡ true
merged_covers cfa [] new old ps merged a b d size other agree each = refl
merged_covers cfa (c ∷ cs) [] old ps merged a b d size other agree each = refl
merged_covers cfa (c ∷ cs) (e ∷ es) [] ps merged a b d size other agree each =
    absurd (omega arith)
merged_covers cfa (c ∷ cs) (e ∷ es) (f ∷ fs) [] merged a b d size other agree each =
    absurd (omega arith)
merged_covers cfa (c ∷ cs) (e ∷ es) (f ∷ fs) (p ∷ ps) [] a b d size other agree each = refl
merged_covers cfa (c ∷ cs) (e ∷ es) (f ∷ fs) (p ∷ ps) (g ∷ gs) a b d size other agree each =
    let laws = first_merged cfa c cs e es f fs p ps g gs each in
    let first : c.meaning.cover e g ≡ true =
    one_covers c e g other.0
    (λ is. agree 0 c e f refl refl refl is ∙ sym (laws.sep is))
    (λ is. laws.covered is) in
    ap (λ (b : Bool). b && all_cover cs es gs) first
    ∙ merged_covers cfa cs es fs ps gs (omega arith) (omega arith) (omega arith) (omega arith)
    other.1 (λ i d x y at_d at_x at_y is. agree (suc i) d x y at_d at_x at_y is)
    (later_merged cfa c cs e es f fs p ps g gs each)
