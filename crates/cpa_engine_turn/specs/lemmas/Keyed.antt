-- Keys by places: a row of successors has the key of a state to which the parts step (`row_key`),
-- and neither adjusting nor merging changes a key.
use Rattle.std.proofs.Common.{◌≡◌, ℕ, zero, suc, ◌<◌, Bool, true, cond, List, [], ◌∷◌}
use Rattle.std.proofs.Common.{length}
use Rattle.std.proofs.Common.{Some, refl, sym, ap, ◌∙◌, subst, inl, inr, ⊎_elim, arith}
use Rattle.std.specs.List.{slice_get, AllByRecursion}
use Rattle.std.proofs.lemmas.Bool.{cases_Bool, and_parts}
use Rattle.std.proofs.lemmas.Option.{same_Some, slice_get_within}
use Rattle.cpa_model.specs.declared.automaton.Cfa.{Cfa}
use Rattle.cpa_model.specs.declared.automaton.Edge.{Edge}
use Rattle.cpa_model.specs.declared.facts.Elem.{Elem}
use Rattle.cpa_model.specs.declared.states.State.{State}
use Rattle.cpa_iface.specs.declared.analysis.Part.{Part}
use Rattle.cpa_iface.specs.declared.analysis.Part.TheVariants.{Nothing, Point, Stack, Store}
use Rattle.cpa_iface.specs.declared.entries.Entry.{Entry}
use Rattle.cpa_iface.specs.declared.merging.MergeRule.{MergeRule}
use Rattle.cpa_iface.specs.declared.merging.MergeRule.TheVariants.{Sep, Join, Widen}
use Rattle.cpa_iface.specs.declared.precisions.Precision.{Precision}
use Rattle.cpa_iface.specs.Pins.{pin_of, StepsPart, MustBeExact}
use Rattle.cpa_composite.specs.Comparisons.{keeps_apart}
use Rattle.cpa_composite.specs.Components.{Component}
use Rattle.cpa_composite.specs.Exact.{IsControl, ControlSteps, pins}
use Rattle.cpa_composite.specs.Keys.{is_control, is_key}
use Rattle.cpa_composite.specs.Laws.{AdjustedRow, EachMerged}
use Rattle.cpa_reached.specs.Members.{IsIn}
use Rattle.cpa_engine_turn.specs.Bounds.{KeysStep, KeyStepsTo, KeysBound, HasKey}
use Rattle.cpa_engine_turn.specs.Keys.{key_of}

control_part : (which : Part) → is_control which ≡ true → IsControl which
control_part Nothing is = absurd (cc)
control_part Point is = inl refl
control_part Stack is = inr refl
control_part Store is = absurd (cc)

pub key_control : (c : Component) → is_key c ≡ true → IsControl c.meaning.part
key_control c is =
    control_part c.meaning.part
    (and_parts (is_control c.meaning.part) (keeps_apart c.rule) is).0

pub heads : {X : Type 0} (x y : X) (xs ys : List X) → x ∷ xs ≡ y ∷ ys → (x ≡ y) × (xs ≡ ys)
heads x y xs ys same = (cc, cc)

-- rows of one key have the same elements where entries are told apart
pub key_at : (cs : List Component) (es fs : List Elem) → length es ≡ length cs
    → length fs ≡ length cs
    → key_of cs es ≡ key_of cs fs → (i : ℕ) (c : Component) (e f : Elem) → slice_get cs i ≡ Some c
    → slice_get es i ≡ Some e → slice_get fs i ≡ Some f → is_key c ≡ true → e ≡ f
key_at [] es fs many long same i c e f at at_e at_f key = absurd (cc)
key_at (d ∷ cs) [] fs many long same i c e f at at_e at_f key = absurd (cc)
key_at (d ∷ cs) (x ∷ es) [] many long same i c e f at at_e at_f key = absurd (cc)
key_at (d ∷ cs) (x ∷ es) (y ∷ fs) many long same zero c e f at at_e at_f key =
    let is_d : d ≡ c = same_Some d c at in
    let own : is_key d ≡ true = ap (λ (b : Component). is_key b) is_d ∙ key in
    let both : x ∷ key_of cs es ≡ y ∷ key_of cs fs =
    subst (λ (b : Bool). cond b (x ∷ key_of cs es) (key_of cs es)
    ≡ cond b (y ∷ key_of cs fs) (key_of cs fs)) own same in
    sym (same_Some x e at_e) ∙ ((heads x y (key_of cs es) (key_of cs fs) both).0 ∙ same_Some y f
    at_f)
key_at (d ∷ cs) (x ∷ es) (y ∷ fs) many long same (suc i) c e f at at_e at_f key =
    let later : key_of cs es ≡ key_of cs fs =
    ⊎_elim
    (λ own. (heads x y (key_of cs es) (key_of cs fs)
    (subst (λ (b : Bool). cond b (x ∷ key_of cs es) (key_of cs es)
    ≡ cond b (y ∷ key_of cs fs) (key_of cs fs)) own same)).1)
    (λ other. subst (λ (b : Bool). cond b (x ∷ key_of cs es) (key_of cs es)
    ≡ cond b (y ∷ key_of cs fs) (key_of cs fs)) other same)
    (cases_Bool (is_key d)) in
    key_at cs es fs (omega (arith, many)) (omega (arith, long)) later i c e f at at_e at_f key

-- and the other way round
pub key_by : (cs : List Component) (es fs : List Elem) → length es ≡ length cs
    → length fs ≡ length cs
    → ((i : ℕ) (c : Component) (e f : Elem) → slice_get cs i ≡ Some c → slice_get es i ≡ Some e
    → slice_get fs i ≡ Some f → is_key c ≡ true → e ≡ f)
    → key_of cs es ≡ key_of cs fs
key_by [] es fs many long each = refl
key_by (c ∷ cs) [] fs many long each = absurd (omega (arith, many))
key_by (c ∷ cs) (e ∷ es) [] many long each = absurd (omega (arith, long))
key_by (c ∷ cs) (e ∷ es) (f ∷ fs) many long each =
    let later : key_of cs es ≡ key_of cs fs =
    key_by cs es fs (omega (arith, many)) (omega (arith, long))
    (λ i d x y at at_x at_y key. each (suc i) d x y at at_x at_y key) in
    ⊎_elim
    (λ key. rw key (ap (λ (x : Elem). x ∷ key_of cs es) (each 0 c e f refl refl refl key)
    ∙ ap (λ (l : List Elem). f ∷ l) later))
    (λ other. rw other later)
    (cases_Bool (is_key c))

-- items by their places
pub there_is : {X : Type 0} (xs : List X) (i : ℕ) → i < length xs
    → (x : X) × (slice_get xs i ≡ Some x)
there_is [] i less = absurd (omega (arith, less))
there_is (x ∷ xs) zero less = (x, refl)
there_is (x ∷ xs) (suc i) less = there_is xs i (omega (arith, less))

pub by_place : {X : Type 0} (P : X → Type 0) (xs : List X)
    → ((i : ℕ) (x : X) → slice_get xs i ≡ Some x → P x) → AllByRecursion P xs
by_place P [] each = tt
by_place P (x ∷ xs) each = (each 0 x refl, by_place P xs (λ i y at. each (suc i) y at))

pub pins_size : (cs : List Component) (s : State) → length (pins cs s) ≡ length cs
pins_size [] s = refl
pins_size (c ∷ cs) s = ap suc (pins_size cs s)

pub pin_there : (cs : List Component) (s : State) (i : ℕ) (c : Component) → slice_get cs i ≡ Some c
    → slice_get (pins cs s) i ≡ Some (pin_of c.meaning.part s)
pin_there [] s i c at = absurd (cc)
pin_there (d ∷ cs) s zero c at =
    ap (λ (b : Component). Some (pin_of b.meaning.part s)) (same_Some d c at)
pin_there (d ∷ cs) s (suc i) c at = pin_there cs s i c at

-- a row of successors
pub row_steps : (cfa : Cfa) (cs : List Component) (g : Edge) (s : State) (es row : List Elem)
    → length es ≡ length cs → length row ≡ length cs → key_of cs es ≡ key_of cs (pins cs s)
    → ControlSteps cs cfa g s es row → KeyStepsTo cfa cs g s row
row_steps cfa cs g s es row many long has steps =
    let t = steps.after in
    let pinned : (i : ℕ) (c : Component) (e : Elem) → slice_get cs i ≡ Some c
    → slice_get es i ≡ Some e → is_key c ≡ true → e ≡ pin_of c.meaning.part s =
    λ i c e at_c at_e key.
    key_at cs es (pins cs s) many (pins_size cs s) has i c e (pin_of c.meaning.part s) at_c at_e
    (pin_there cs s i c at_c) key in
    let step : KeysStep cfa cs g s t =
    by_place (λ (c : Component). is_key c ≡ true → StepsPart c.meaning.part cfa g s t) cs
    (λ i c at_c key.
    let e = there_is es i
    (let inside = slice_get_within cs i c at_c in omega (arith, inside, many)) in
    (steps.each i c e.0 at_c e.1 (key_control c key) (pinned i c e.0 at_c e.1 key)).0) in
    let same : key_of cs row ≡ key_of cs (pins cs t) =
    key_by cs row (pins cs t) long (pins_size cs t)
    (λ i c x y at_c at_x at_y key.
    let e = there_is es i
    (let inside = slice_get_within cs i c at_c in omega (arith, inside, many)) in
    let new = (steps.each i c e.0 at_c e.1 (key_control c key) (pinned i c e.0 at_c e.1 key)).1 in
    same_Some x y (sym at_x ∙ (new ∙ (sym (pin_there cs t i c at_c) ∙ at_y)))) in
    record { state = t; is_state = steps.is_state; step = step; key = same }

-- so it has one of the keys that steps do not leave
pub row_key : (cfa : Cfa) (cs : List Component) (keys : List (List Elem)) (k : ℕ) (g : Edge)
    (es row : List Elem) → KeysBound cfa cs keys → length es ≡ length cs → length row ≡ length cs
    → slice_get cfa.edges k ≡ Some g → (has : HasKey cfa cs keys es)
    → ControlSteps cs cfa g has.state es row → HasKey cfa cs keys row
row_key cfa cs keys k g es row bound many long at has steps =
    let to_it = row_steps cfa cs g has.state es row many long has.key steps in
    record {
      state = to_it.state;
      is_state = to_it.is_state;
      key = to_it.key;
      is_in = subst (λ (j : List Elem). IsIn j keys) (sym to_it.key)
          (bound.closed k g has.state to_it.state at has.is_state to_it.is_state to_it.step
          (subst (λ (j : List Elem). IsIn j keys) has.key has.is_in));
    }

-- the same key
pub key_kept : (cfa : Cfa) (cs : List Component) (keys : List (List Elem)) (es fs : List Elem)
    → key_of cs fs ≡ key_of cs es → HasKey cfa cs keys es → HasKey cfa cs keys fs
key_kept cfa cs keys es fs same has = record {
  state = has.state;
  is_state = has.is_state;
  key = same ∙ has.key;
  is_in = subst (λ (j : List Elem). IsIn j keys) (sym same) has.is_in;
}

-- adjusted
binds : (which : Part) (cfa : Cfa) (p : Precision) → IsControl which → MustBeExact which cfa p
binds which cfa p (inl is) = subst (λ (w : Part). MustBeExact w cfa p) (sym is) tt
binds which cfa p (inr is) = subst (λ (w : Part). MustBeExact w cfa p) (sym is) tt

pub adjusted_key : (cfa : Cfa) (cs : List Component) (es : List Elem) (ps : List Precision)
    (reached : List Entry) (after : List Elem) (next : List Precision) → length es ≡ length cs
    → length ps ≡ length cs → AdjustedRow cs cfa es ps reached after next
    → key_of cs after ≡ key_of cs es
adjusted_key cfa cs es ps reached after next many size row =
    key_by cs after es row.elems.size many
    (λ i c f e at at_f at_e key.
    let inside = slice_get_within cs i c at in
    let p = there_is ps i (omega (arith, inside, size)) in
    let q = there_is next i (let long = row.precisions.size in omega (arith, inside, long)) in
    (row.each i c e p.0 f q.0 (record { component = at; elem = at_e; precision = p.1 }) at_f
    q.1).exact (binds c.meaning.part cfa p.0 (key_control c key)))

-- merged
pub apart : (rule : MergeRule) → keeps_apart rule ≡ true → rule ≡ Sep
apart Sep is = refl
apart Join is = absurd (cc)
apart Widen is = absurd (cc)

-- a merged row has the key of the old one
pub merged_key : (cfa : Cfa) (cs : List Component) (successor old : List Elem)
    (ps : List Precision) (merged : List Elem) → length successor ≡ length cs
    → length old ≡ length cs → length ps ≡ length cs → length merged ≡ length cs
    → EachMerged cfa cs successor old ps merged → key_of cs merged ≡ key_of cs old
merged_key cfa [] es fs ps gs a b d size each = refl
merged_key cfa (c ∷ cs) [] fs ps gs a b d size each = absurd (omega arith)
merged_key cfa (c ∷ cs) (e ∷ es) [] ps gs a b d size each = absurd (omega arith)
merged_key cfa (c ∷ cs) (e ∷ es) (f ∷ fs) [] gs a b d size each = absurd (omega arith)
merged_key cfa (c ∷ cs) (e ∷ es) (f ∷ fs) (p ∷ ps) [] a b d size each = absurd (omega arith)
merged_key cfa (c ∷ cs) (e ∷ es) (f ∷ fs) (p ∷ ps) (g ∷ gs) a b d size each =
    let later : key_of cs gs ≡ key_of cs fs =
    merged_key cfa cs es fs ps gs (omega arith) (omega arith) (omega arith) (omega arith)
    (λ i x y q u v stands at_u at_v. each (suc i) x y q u v
    (record { component = stands.component; elem = stands.elem; precision = stands.precision })
    at_u at_v) in
    ⊎_elim
    (λ key.
    let sep = apart c.rule (and_parts _ (keeps_apart c.rule) key).1 in
    let first : g ≡ f =
    (each 0 c e p f g (record { component = refl; elem = refl; precision = refl }) refl refl).sep
    sep in
    rw key (ap (λ (x : Elem). x ∷ key_of cs gs) first ∙ ap (λ (l : List Elem). f ∷ l) later))
    (λ other. rw other later)
    (cases_Bool (is_key c))
