-- What the rules see of an expression in which none of them is broken, beside the rules that make
-- its core: where it has a value, this is well typed.
use Rattle.std.proofs.Common.{◌≡◌, ℕ, Bool, true, false, not, ◌||◌, List, []}
use Rattle.std.proofs.Common.{◌∷◌, ◌++◌, Option, None, Some, refl, ap, subst}
use Rattle.std.proofs.Common.{inl, inr}
use Rattle.std.specs.Prelude.{◌⊎◌}
use Rattle.std.specs.List.{AllByRecursion}
use Rattle.std.proofs.lemmas.List.{map-append}
use Rattle.cpa_ints.specs.declared.integers.IntType.{IntType}
use Rattle.cpa_ints.specs.declared.integers.IntType.TheVariants as ty
use Rattle.cpa_ints.specs.Integers.{IsInRange}
use Rattle.c_lexer.specs.declared.fault.Rule.{Rule}
use Rattle.c_lexer.specs.declared.fault.Rule.TheVariants as rule
use Rattle.c_types_rules.specs.declared.meaning.Kind.{Kind}
use Rattle.c_types_rules.specs.declared.meaning.Kind.TheVariants.{Void, Value}
use Rattle.c_types_rules.specs.declared.meaning.Meaning.{Meaning}
use Rattle.c_types_rules.specs.declared.meaning.Meaning.TheVariants as meaning
use Rattle.c_types_rules.specs.declared.meaning.Form.{Form}
use Rattle.c_types_rules.specs.declared.meaning.Form.TheVariants.{Bare, Element, Plain}
use Rattle.c_types_rules.specs.declared.meaning.Part.{Part}
use Rattle.c_types_rules.specs.declared.meaning.Role.{Role}
use Rattle.c_types_rules.specs.declared.meaning.Role.TheVariants.{Valued, Evaluated, Changed}
use Rattle.c_types_rules.specs.Parts.{is_changeable}
use Rattle.c_types_rules.specs.Expressions.{Use, taken}
use Rattle.c_types_rules.specs.ExpressionRules.{broken, use_faults, names_function, names_array}
use Rattle.c_types_rules.specs.ExpressionRules.{undeclared, misused_function, miscounted}
use Rattle.c_types_rules.specs.ExpressionRules.{misused_type}
use Rattle.c_types_rules.specs.ExpressionRules.{called_without_body, not_changeable, misused_array}
use Rattle.c_types_rules.specs.ExpressionRules.{void_value, has_own_fault, is_void}
use Rattle.c_types_rules.specs.Items.{Call, use_calls}
use Rattle.c_core_rules.specs.declared.tree.Usage.TheVariants.{Unused}
use Rattle.c_core_rules.specs.Expressions as rows
use Rattle.c_core_laws.specs.lemmas.Faults.{NoFaults, none_left, none_right, not_broken}
use Rattle.c_core_sound.proofs.Fitting.{World}
use Rattle.c_core_sound.proofs.FittingRows.{ObjectFits, MayCall, TargetFits, GoodRule}

-- what a use breaks, rule by rule
pub record Unbroken (one : Use) : Type 0 where
  pub n1 : NoFaults (broken rule.N1 (undeclared one))
  pub n3 : NoFaults (broken rule.N3 (misused_function one))
  pub n5 : NoFaults (broken rule.N5 (misused_type one))
  pub n14 : NoFaults (broken rule.N14 (called_without_body one))
  pub n15 : NoFaults (broken rule.N15 (not_changeable one))

pub unbroken : (one : Use) → NoFaults (use_faults one) → Unbroken one
unbroken one none =
    let a = broken rule.N1 (undeclared one) in
    let b = broken rule.N3 (misused_function one) in
    let c = broken rule.N4 (miscounted one) in
    let d = broken rule.N5 (misused_type one) in
    let e = broken rule.N14 (called_without_body one) in
    let f = broken rule.N15 (not_changeable one) in
    let abcde = none_left (a ++ b ++ c ++ d ++ e) f none in
    let abcd = none_left (a ++ b ++ c ++ d) e abcde in
    let abc = none_left (a ++ b ++ c) d abcd in
    let ab = none_left (a ++ b) c abc in
    record {
      n1 = none_left a b ab;
      n3 = none_right a b ab;
      n5 = none_right (a ++ b ++ c) d abcd;
      n14 = none_right (a ++ b ++ c ++ d) e abcde;
      n15 = none_right (a ++ b ++ c ++ d ++ e) f none;
    }

-- a use that breaks no rule, in a body that may call what it calls
pub record UseFits (W : World) (caller : ℕ) (one : Use) : Type 0 where
  pub none : NoFaults (use_faults one)
  pub calls : AllByRecursion (λ (c : Call). W.ground.calls c.callee) (use_calls caller one)

abbrev pub UsesFit : World → ℕ → List Use → Type 0
UsesFit W caller uses = AllByRecursion (UseFits W caller) uses

pub uses_left : (W : World) (caller : ℕ) (a b : List Use) → UsesFit W caller (a ++ b) →
    UsesFit W caller a
uses_left W caller [] b h = tt
uses_left W caller (u ∷ a) b h = (h.0, uses_left W caller a b h.1)

pub uses_right : (W : World) (caller : ℕ) (a b : List Use) → UsesFit W caller (a ++ b) →
    UsesFit W caller b
uses_right W caller [] b h = h
uses_right W caller (u ∷ a) b h = uses_right W caller a b h.1

-- what a name stands for is there
abbrev pub MeaningFits : World → rows.Frames → Option Meaning → Type 0
MeaningFits W frames (Some (meaning.Object object)) = ObjectFits W object
MeaningFits W frames (Some (meaning.Function function)) =
    (body : ℕ) → function.body ≡ Some body → W.ground.calls body → MayCall W frames function
MeaningFits W frames (Some (meaning.Enumerator value)) =
    (starts : ℕ → Option ℕ) → W.knows starts → IsInRange ty.I32 value
MeaningFits W frames _ = Unit {0}

-- how an expression stands for what is there
abbrev pub FormFits : World → rows.Frames → rows.Rows → Form → Type 0
FormFits W frames row (Bare place None) = ⊥
FormFits W frames row (Bare place (Some m)) =
    (row.names ≡ Some m) × MeaningFits W frames (Some m)
FormFits W frames row (Element (Some (meaning.Object object))) = Unit {0}
FormFits W frames row (Element _) = ⊥
FormFits W frames row Plain = Unit {0}

-- the name of a function or an array
pub data IsName : Form → Type 0 where
  of_function : (place : ℕ) (found : Option Meaning) → names_function found ≡ true
      → IsName (Bare place found)
  of_array : (place : ℕ) (found : Option Meaning) → names_array found ≡ true
      → IsName (Bare place found)

abbrev pub HasKind : Option Kind → Type 0
HasKind kind = (k : Kind) × (kind ≡ Some k)

-- an expression of this type and form, and its rows
pub record Reads (W : World) (frames : rows.Frames) (kind : Option Kind) (shape : Form)
    (row : rows.Rows) : Type 0 where
  pub stands : HasKind kind ⊎ IsName shape
  pub used : (t : IntType) → kind ≡ Some (Value t) → GoodRule W (rows.used row)
  pub unused : (k : Kind) → kind ≡ Some k → GoodRule W (row.rule Unused)
  pub target : (k : Kind) → kind ≡ Some k → is_changeable shape ≡ true → TargetFits W row.target
  pub form : FormFits W frames row shape

pub no_two : (b : Bool) → b ≡ true → b ≡ false → ⊥
no_two true h k = absurd (cc)
no_two false h k = absurd (cc)

pub broken_left : (r : Rule) (a b : List ℕ) → NoFaults (broken r (a ++ b)) → NoFaults (broken r a)
broken_left r a b none =
    none_left (broken r a) (broken r b)
    (subst NoFaults (map-append (λ (place : ℕ). record { rule = r; place = place }) a b) none)

pub broken_right : (r : Rule) (a b : List ℕ) → NoFaults (broken r (a ++ b)) → NoFaults (broken r b)
broken_right r a b none =
    none_right (broken r a) (broken r b)
    (subst NoFaults (map-append (λ (place : ℕ). record { rule = r; place = place }) a b) none)

-- where a part is taken so, it is no name of a function, of an array, and not void

abbrev pub at_place : ℕ → Option Kind → Form → Part
at_place place kind form = record { place = place; kind = kind; form = form }

abbrev pub Taken : Role → ℕ → Option Kind → Form → Type 0
Taken role place kind form = NoFaults (use_faults (taken role (at_place place kind form)))

not_void : (place : ℕ) (kind : Option Kind) (form : Form) → Taken Valued place kind form →
    is_void kind ≡ false
not_void place kind form none =
    let part = at_place place kind form in
    not_broken rule.N5 (is_void kind) place
    (broken_right rule.N5 (misused_array Valued part) (void_value Valued part)
    (unbroken (taken Valued part) none).n5)

valued_name : (place : ℕ) (kind : Option Kind) (form : Form) → IsName form →
    Taken Valued place kind form → ⊥
valued_name place kind form (of_function at found is) none =
    no_two (names_function found) is
    (not_broken rule.N3 (names_function found) at
    (unbroken (taken Valued (at_place place kind (Bare at found))) none).n3)
valued_name place kind form (of_array at found is) none =
    let part = at_place place kind (Bare at found) in
    no_two (names_array found) is
    (not_broken rule.N5 (names_array found) at
    (broken_left rule.N5 (misused_array Valued part) (void_value Valued part)
    (unbroken (taken Valued part) none).n5))

evaluated_name : (place : ℕ) (kind : Option Kind) (form : Form) → IsName form →
    Taken Evaluated place kind form → ⊥
evaluated_name place kind form (of_function at found is) none =
    no_two (names_function found) is
    (not_broken rule.N3 (names_function found) at
    (unbroken (taken Evaluated (at_place place kind (Bare at found))) none).n3)
evaluated_name place kind form (of_array at found is) none =
    let part = at_place place kind (Bare at found) in
    no_two (names_array found) is
    (not_broken rule.N5 (names_array found) at
    (broken_left rule.N5 (misused_array Evaluated part) (void_value Evaluated part)
    (unbroken (taken Evaluated part) none).n5))

changed_name : (place : ℕ) (kind : Option Kind) (form : Form) → IsName form →
    Taken Changed place kind form → ⊥
changed_name place kind form (of_function at found is) none =
    no_two (names_function found) is
    (not_broken rule.N3 (names_function found) at
    (unbroken (taken Changed (at_place place kind (Bare at found))) none).n3)
changed_name place kind form (of_array at found is) none =
    let part = at_place place kind (Bare at found) in
    no_two (names_array found) is
    (not_broken rule.N5 (names_array found) at
    (broken_left rule.N5 (misused_array Changed part) (void_value Changed part)
    (unbroken (taken Changed part) none).n5))

value_of : (k : Kind) (kind : Option Kind) → kind ≡ Some k → is_void kind ≡ false →
    (t : IntType) × (kind ≡ Some (Value t))
value_of Void kind is none = absurd (no_two (is_void kind) (ap is_void is) none)
value_of (Value t) kind is none = (t, is)

-- a value, where one is wanted
pub is_value : (place : ℕ) (kind : Option Kind) (form : Form) → HasKind kind ⊎ IsName form →
    Taken Valued place kind form → (t : IntType) × (kind ≡ Some (Value t))
is_value place kind form (inl has) none =
    value_of has.0 kind has.1 (not_void place kind form none)
is_value place kind form (inr name) none = absurd (valued_name place kind form name none)

pub is_evaluated : (place : ℕ) (kind : Option Kind) (form : Form) → HasKind kind ⊎ IsName form →
    Taken Evaluated place kind form → HasKind kind
is_evaluated place kind form (inl has) none = has
is_evaluated place kind form (inr name) none = absurd (evaluated_name place kind form name none)

-- what is assigned to can be

own_fault : (W : World) (frames : rows.Frames) (row : rows.Rows) (place : ℕ)
    (kind : Option Kind) (form : Form) → FormFits W frames row form →
    Taken Changed place kind form → has_own_fault form ≡ false
own_fault W frames row place kind (Bare at None) fits none = absurd fits
own_fault W frames row place kind (Bare at (Some m)) fits none =
    not_broken rule.N3 (names_function (Some m)) at
    (unbroken (taken Changed (at_place place kind (Bare at (Some m)))) none).n3
own_fault W frames row place kind (Element None) fits none = absurd fits
own_fault W frames row place kind (Element (Some (meaning.Object object))) fits none = refl
own_fault W frames row place kind (Element (Some (meaning.Function function))) fits none =
    absurd fits
own_fault W frames row place kind (Element (Some (meaning.Known function))) fits none = absurd fits
own_fault W frames row place kind (Element (Some (meaning.Enumerator value))) fits none =
    absurd fits
own_fault W frames row place kind Plain fits none = refl

either_true : (a b : Bool) → not (a || b) ≡ false → b ≡ false → a ≡ true
either_true true b h k = refl
either_true false true h k = absurd (cc)
either_true false false h k = absurd (cc)

changed_kind_of : (place : ℕ) (kind : Option Kind) (form : Form) → HasKind kind ⊎ IsName form →
    Taken Changed place kind form → HasKind kind
changed_kind_of place kind form (inl has) none = has
changed_kind_of place kind form (inr name) none = absurd (changed_name place kind form name none)

pub is_changed : (W : World) (frames : rows.Frames) (row : rows.Rows) (place : ℕ)
    (kind : Option Kind) (form : Form) → Reads W frames kind form row →
    Taken Changed place kind form →
    (is_changeable form ≡ true) × ((t : IntType) × (kind ≡ Some (Value t)))
is_changed W frames row place kind form reads none =
    let part = at_place place kind form in
    let has = changed_kind_of place kind form reads.stands none in (
      either_true (is_changeable form) (has_own_fault form)
          (not_broken rule.N15 (not (is_changeable form || has_own_fault form)) place
          (unbroken (taken Changed part) none).n15)
          (own_fault W frames row place kind form reads.form none),
      value_of has.0 kind has.1 (not_broken rule.N5 (is_void kind) place
          (broken_right rule.N5 (misused_array Changed part) (void_value Changed part)
          (unbroken (taken Changed part) none).n5)),
    )
