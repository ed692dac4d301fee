-- Each form of an expression in which no rule is broken has a well typed core.
use Rattle.std.proofs.Common.{◌≡◌, ℕ, Bool, true, false, not, List, [], ◌∷◌, map}
use Rattle.std.proofs.Common.{length, Option, None, Some, refl, ap, sym, ◌∙◌, subst, ℤ, inl, inr}
use Rattle.std.specs.Prelude.{◌⊎◌, is_some}
use Rattle.std.specs.List.{AllByRecursion, flat_map}
use Rattle.cpa_ints.specs.declared.integers.IntType.{IntType}
use Rattle.cpa_ints.specs.declared.integers.IntType.TheVariants as ty
use Rattle.c_lexer.specs.declared.fault.Rule.TheVariants as rule
use Rattle.c_grammar_tree.specs.declared.expression.Expression.TheOpen.{Suffix-F}
use Rattle.c_types_rules.specs.declared.meaning.Kind.{Kind}
use Rattle.c_types_rules.specs.declared.meaning.Kind.TheVariants.{Value}
use Rattle.c_types_rules.specs.declared.meaning.Object.{Object}
use Rattle.c_types_rules.specs.declared.meaning.Function.{Function}
use Rattle.c_types_rules.specs.declared.meaning.Meaning.{Meaning}
use Rattle.c_types_rules.specs.declared.meaning.Meaning.TheVariants as meaning
use Rattle.c_types_rules.specs.declared.meaning.Form.{Form}
use Rattle.c_types_rules.specs.declared.meaning.Form.TheVariants.{Bare, Element, Plain}
use Rattle.c_types_rules.specs.declared.meaning.Part.{Part}
use Rattle.c_types_rules.specs.declared.meaning.Role.TheVariants.{Valued, Changed, Indexed, Called}
use Rattle.c_types_rules.specs.Known.{known_result}
use Rattle.c_types_rules.specs.Parts.{with_value, with_values, named_kind, element_kind}
use Rattle.c_types_rules.specs.Parts.{result_kind, element_form, element_of, result_of}
use Rattle.c_types_rules.specs.Types.{value_kind}
use Rattle.c_types_rules.specs.Parts.{changed_kind, value}
use Rattle.c_types_rules.specs.Expressions.{named, taken, given, Reading, used, parts_of, trees_of}
use Rattle.c_types_rules.specs.Expressions.{ReadSuffix, suffix_part, suffix_uses, suffix_typed}
use Rattle.c_types_rules.specs.Expressions.{suffixed}
use Rattle.c_types_rules.specs.ExpressionRules.{use_faults, names_function, names_array}
use Rattle.c_types_rules.specs.ExpressionRules.{misused_array, void_value}
use Rattle.c_types_rules.specs.Items.{Call}
use Rattle.c_core_rules.specs.declared.tree.Usage.{Usage}
use Rattle.c_core_rules.specs.declared.tree.Usage.TheVariants.{Used, Unused}
use Rattle.c_core_rules.specs.declared.tree.Valued.{Valued as CoreValued}
use Rattle.c_core_rules.specs.Cells as core
use Rattle.c_core_rules.specs.Expressions as rows
use Rattle.c_core_laws.specs.lemmas.Faults.{NoFaults, not_broken}
use Rattle.c_core_sound.proofs.Fitting.{World, EachFits, none_fits, more_fit}
use Rattle.c_core_sound.proofs.FittingActs.{Good}
use Rattle.c_core_sound.proofs.FittingRows.{ObjectFits, MayCall, TargetFits, fit_scalar}
use Rattle.c_core_sound.proofs.FittingRows.{fit_element, GoodRule, finish_fits, kept_rule}
use Rattle.c_core_sound.proofs.FittingRows.{name_fits, element_fits, called_fits}
use Rattle.c_core_sound.proofs.FittingRows.{enumerator_fits}
use Rattle.c_core_sound.proofs.FittingRows.{called_unused_fits, known_unused_fits, known_used_fits}
use Rattle.c_core_sound.proofs.FittingRows.{stepping_fits}
use Rattle.c_core_laws.specs.lemmas.CoreLayers.{core_suffix}
use Rattle.c_core_sound.proofs.Opened.{open_index, open_call, open_step, open_skipped}
use Rattle.c_core_sound.proofs.ReadParts.{unbroken, UseFits, UsesFit, uses_left, uses_right}
use Rattle.c_core_sound.proofs.ReadParts.{MeaningFits, FormFits, IsName, of_function, of_array}
use Rattle.c_core_sound.proofs.ReadParts.{HasKind, Reads, no_two, broken_left, at_place, Taken}
use Rattle.c_core_sound.proofs.ReadParts.{is_value, is_changed}

pub no_Some : {A : Type 0} (x : A) → None ≡ Some x → ⊥
no_Some x is = cc

same_kind : (k l : Kind) → Some k ≡ Some l → k ≡ l
same_kind k l is = cc

module _ (W : World) (frames : rows.Frames) (caller : ℕ) where
  abbrev pub ReadsAs : Option Kind → Form → rows.Rows → Type 0
  ReadsAs kind form row = Reads W frames kind form row

  -- an expression that is no name and no left side
  pub plain_reads : (origin : ℕ) (kind : Option Kind) {rule : core.Rule CoreValued} → HasKind kind →
      GoodRule W rule → ReadsAs kind Plain (rows.plain origin rule)
  plain_reads origin kind has h = record {
    stands = inl has;
    used = λ t is. finish_fits W origin Used h;
    unused = λ k is. finish_fits W origin Unused h;
    target = λ k is so. absurd (cc);
    form = tt;
  }

  pub act_reads : (kind : Option Kind) {by : Usage → core.Rule CoreValued} → HasKind kind →
      ((t : IntType) → kind ≡ Some (Value t) → GoodRule W (by Used)) →
      ((k : Kind) → kind ≡ Some k → GoodRule W (by Unused)) →
      ReadsAs kind Plain (rows.act by)
  act_reads kind has h k = record {
    stands = inl has;
    used = h;
    unused = k;
    target = λ k is so. absurd (cc);
    form = tt;
  }

  -- names

  abbrev named_by : Option ℤ → IntType → Option Kind
  named_by length t = elim length [ None ↦ Some (Value t) | Some n ↦ None ]

  object_reads : (place : ℕ) (object : Object) (length : Option ℤ) → object.length ≡ length →
      ObjectFits W object →
      ReadsAs (named_by length object.ty) (Bare place (Some (meaning.Object object)))
      (rows.name_rows place (Some (meaning.Object object)))
  object_reads place object None is h = record {
    stands = inl (Value object.ty, refl);
    used = λ t so. finish_fits W place Used (name_fits W object h);
    unused = λ k so. finish_fits W place Unused (name_fits W object h);
    target = λ k so also. fit_scalar object h;
    form = (refl, h);
  }
  object_reads place object (Some n) is h = record {
    stands =
        inr (of_array place (Some (meaning.Object object)) (ap (λ (o : Option ℤ). is_some o) is));
    used = λ t so. absurd (no_Some (Value t) so);
    unused = λ k so. absurd (no_Some k so);
    target = λ k so also. absurd (no_Some k so);
    form = (refl, h);
  }

  pub name_reads : (place : ℕ) (found : Option Meaning) → MeaningFits W frames found →
      NoFaults (use_faults (named place found)) →
      ReadsAs (named_kind found) (Bare place found) (rows.name_rows place found)
  name_reads place None h none =
      absurd ((unbroken (named place None) none).n1 (record { rule = rule.N1; place = place })
      (inl refl))
  name_reads place (Some (meaning.Object object)) h none =
      object_reads place object object.length refl h
  name_reads place (Some (meaning.Function function)) h none = record {
    stands = inr (of_function place (Some (meaning.Function function)) refl);
    used = λ t so. absurd (no_Some (Value t) so);
    unused = λ k so. absurd (no_Some k so);
    target = λ k so also. absurd (no_Some k so);
    form = (refl, h);
  }
  name_reads place (Some (meaning.Known function)) h none = record {
    stands = inr (of_function place (Some (meaning.Known function)) refl);
    used = λ t so. absurd (no_Some (Value t) so);
    unused = λ k so. absurd (no_Some k so);
    target = λ k so also. absurd (no_Some k so);
    form = (refl, tt);
  }
  name_reads place (Some (meaning.Enumerator value)) h none = record {
    stands = inl (Value ty.I32, refl);
    used = λ t so. finish_fits W place Used (enumerator_fits W value h);
    unused = λ k so. finish_fits W place Unused (enumerator_fits W value h);
    target = λ k so also. absurd (cc);
    form = (refl, h);
  }

  -- elements

  pub with_value_is : {A : Type 0} (x : Option A) (kind : Option Kind) (t : IntType) →
      kind ≡ Some (Value t) → with_value x kind ≡ x
  with_value_is x kind t is = ap (with_value x) is

  abbrev element_by : Option ℤ → IntType → Option Kind
  element_by length t = elim length [ None ↦ None | Some n ↦ Some (Value t) ]

  element_is : (length : Option ℤ) (t : IntType) → is_some length ≡ true →
      element_by length t ≡ Some (Value t)
  element_is None t is = absurd (cc)
  element_is (Some n) t is = refl

  -- an element of an array
  array_reads : (origin : ℕ) (object : Object) (at : ℕ) → is_some object.length ≡ true →
      (base : rows.Rows) →
      (base.names ≡ Some (meaning.Object object)) × ObjectFits W object →
      (kind : Option Kind) (t : IntType) → kind ≡ Some (Value t) → {index : core.Rule CoreValued} →
      GoodRule W index →
      ReadsAs (with_value (element_kind (Some (meaning.Object object))) kind)
      (Element (Some (meaning.Object object))) (rows.element_rows origin base.names index)
  array_reads origin object at is base fits kind t so {index = index} h =
      let found = Some (meaning.Object object) in
      let has : with_value (element_kind found) kind ≡ Some (Value object.ty) =
      with_value_is (element_kind found) kind t so
      ∙ element_is object.length object.ty is in
      let good = element_fits W object fits.1 h in
      subst (λ (names : Option Meaning). ReadsAs (with_value (element_kind found) kind)
      (Element found) (rows.element_rows origin names index)) (sym fits.0) (record {
        stands = inl (Value object.ty, has);
        used = λ u is. finish_fits W origin Used good;
        unused = λ k is. finish_fits W origin Unused good;
        target = λ k is also. fit_element object fits.1 h;
        form = tt;
      })

  no_kind : (kind : Option Kind) → HasKind kind → is_some kind ≡ false → ⊥
  no_kind kind has none = no_two (is_some kind) (ap (λ (o : Option Kind). is_some o) has.1) none

  named_array : (origin : ℕ) (place at : ℕ) (kind : Option Kind) (found : Option Meaning)
      (base : rows.Rows) →
      names_array found ≡ true → FormFits W frames base (Bare at found) →
      (index : Option Kind) (t : IntType) → index ≡ Some (Value t) → {rule : core.Rule CoreValued} →
      GoodRule W rule →
      ReadsAs (with_value (element_kind found) index) (Element found)
      (rows.element_rows origin base.names rule)
  named_array origin place at kind None base is fits index t so h = absurd (cc)
  named_array origin place at kind (Some (meaning.Object object)) base is fits index t so h =
      array_reads origin object at is base fits index t so h
  named_array origin place at kind (Some (meaning.Function function)) base is fits index t so h =
      absurd (cc)
  named_array origin place at kind (Some (meaning.Known function)) base is fits index t so h =
      absurd (cc)
  named_array origin place at kind (Some (meaning.Enumerator value)) base is fits index t so h =
      absurd (cc)

  indexed_by : (origin : ℕ) (place : ℕ) (kind : Option Kind) (form : Form) (base : rows.Rows) →
      IsName form →
      FormFits W frames base form → Taken Indexed place kind form → (index : Option Kind)
      (t : IntType) → index ≡ Some (Value t) → {rule : core.Rule CoreValued} → GoodRule W rule →
      ReadsAs (with_value (element_of form) index) (element_form form)
      (rows.element_rows origin base.names rule)
  indexed_by origin place kind form base (of_function at found is) fits none index t so h =
      absurd (no_two (names_function found) is
      (not_broken rule.N3 (names_function found) at
      (unbroken (taken Indexed (at_place place kind (Bare at found))) none).n3))
  indexed_by origin place kind form base (of_array at found is) fits none index t so h =
      named_array origin place at kind found base is fits index t so h

  by_stands : (origin : ℕ) (place : ℕ) (kind : Option Kind) (form : Form) (base : rows.Rows) →
      HasKind kind ⊎ IsName form → FormFits W frames base form → Taken Indexed place kind form →
      (index : Option Kind) (t : IntType) → index ≡ Some (Value t) →
      {rule : core.Rule CoreValued} → GoodRule W rule →
      ReadsAs (with_value (element_of form) index) (element_form form)
      (rows.element_rows origin base.names rule)
  by_stands origin place kind form base (inl has) fits none index t so h =
      let part = at_place place kind form in
      absurd (no_kind kind has (not_broken rule.N5 (is_some kind) place
      (broken_left rule.N5 (misused_array Indexed part) (void_value Indexed part)
      (unbroken (taken Indexed part) none).n5)))
  by_stands origin place kind form base (inr name) fits none index t so h =
      indexed_by origin place kind form base name fits none index t so h

  -- calls

  -- each argument has a value
  pub record ArgumentReads (r : Reading) : Type 0 where
    pub type : IntType
    pub is : r.part.kind ≡ Some (Value type)
    pub used : GoodRule W (rows.used (rows.rows frames r.typed))
    pub unused : GoodRule W ((rows.rows frames r.typed).rule Unused)

  arguments_used : (arguments : List Reading) → AllByRecursion ArgumentReads arguments →
      EachFits W (Unit {0}) (Good W)
      (map rows.used (map (rows.rows frames) (trees_of arguments)))
  arguments_used [] all = none_fits
  arguments_used (r ∷ arguments) all = more_fit all.0.used (arguments_used arguments all.1)

  arguments_unused : (arguments : List Reading) → AllByRecursion ArgumentReads arguments →
      AllByRecursion (λ (row : rows.Rows). GoodRule W (row.rule Unused))
      (map (rows.rows frames) (trees_of arguments))
  arguments_unused [] all = tt
  arguments_unused (r ∷ arguments) all = (all.0.unused, arguments_unused arguments all.1)

  arguments_typed : (result : Option Kind) (arguments : List Reading) →
      AllByRecursion ArgumentReads arguments →
      with_values result (parts_of arguments) ≡ result
  arguments_typed result [] all = refl
  arguments_typed result (r ∷ arguments) all =
      with_value_is (with_values result (parts_of arguments)) r.part.kind all.0.type all.0.is
      ∙ arguments_typed result arguments all.1

  has_body : (body : Option ℕ) → is_some body ≡ true → (n : ℕ) × (body ≡ Some n)
  has_body None is = absurd (cc)
  has_body (Some n) is = (n, refl)

  not_true : (b : Bool) → not b ≡ false → b ≡ true
  not_true true h = refl
  not_true false h = absurd (cc)

  callee_is : (at : ℕ) (body : Option ℕ) (n : ℕ) → body ≡ Some n →
      AllByRecursion (λ (c : Call). W.ground.calls c.callee) (elim body as (λ o. List Call) [
        | None ↦ []
        | Some callee ↦ record { caller = caller; callee = callee; place = at } ∷ []
      ]) → W.ground.calls n
  callee_is at body n is all =
      (subst (λ (o : Option ℕ). AllByRecursion (λ (c : Call). W.ground.calls c.callee)
      (elim o as (λ p. List Call) [
        | None ↦ []
        | Some callee ↦ record { caller = caller; callee = callee; place = at } ∷ []
      ])) is all).0

  callable : (at count : ℕ) (function : Function) →
      MeaningFits W frames (Some (meaning.Function function)) →
      UseFits W caller (given (Bare at (Some (meaning.Function function))) count) →
      MayCall W frames function
  callable at count function fits one =
      let form = Bare at (Some (meaning.Function function)) in
      let body = has_body function.body (not_true (is_some function.body)
      (not_broken rule.N14 (not (is_some function.body)) at
      (unbroken (given form count) one.none).n14)) in
      fits body.0 body.1 (callee_is at function.body body.0 body.1 one.calls)

  call_reads_by : (origin : ℕ) (found : Option Meaning) (at count : ℕ) →
      (names_function found ≡ true) → MeaningFits W frames found →
      UseFits W caller (given (Bare at found) count) → (arguments : List Reading) →
      AllByRecursion ArgumentReads arguments →
      ReadsAs (with_values (result_kind found) (parts_of arguments)) Plain
      (rows.call_rows origin frames found (map (rows.rows frames) (trees_of arguments)))
  call_reads_by origin None at count is fits one arguments all = absurd (cc)
  call_reads_by origin (Some (meaning.Object object)) at count is fits one arguments all =
      absurd (cc)
  call_reads_by origin (Some (meaning.Enumerator value)) at count is fits one arguments all =
      absurd (cc)
  call_reads_by origin (Some (meaning.Function function)) at count is fits one arguments all =
      let kind = with_values (Some function.result) (parts_of arguments) in
      let same : kind ≡ Some function.result =
      arguments_typed (Some function.result) arguments all in
      let may = callable at count function fits one in
      act_reads kind (function.result, same)
      (λ t so. kept_rule W Used (called_fits W origin frames function may t
      (same_kind function.result (Value t) (sym same ∙ so)) (arguments_used arguments all)))
      (λ k so. called_unused_fits W origin frames function may (arguments_used arguments all))
  call_reads_by origin (Some (meaning.Known function)) at count is fits one arguments all =
      let kind = with_values (Some (known_result function)) (parts_of arguments) in
      let same : kind ≡ Some (known_result function) =
      arguments_typed (Some (known_result function)) arguments all in
      let given_rows = map (rows.rows frames) (trees_of arguments) in
      act_reads kind (known_result function, same)
      (λ t so. known_used_fits W origin function given_rows t
      (same_kind (known_result function) (Value t) (sym same ∙ so)))
      (λ k so. known_unused_fits W origin function given_rows (arguments_unused arguments all))

  call_form : (origin : ℕ) (place count : ℕ) (kind : Option Kind) (form : Form) (base : rows.Rows) →
      FormFits W frames base form → Taken Called place kind form →
      UseFits W caller (given form count) → (arguments : List Reading) →
      AllByRecursion ArgumentReads arguments →
      ReadsAs (with_values (result_of form) (parts_of arguments)) Plain
      (rows.call_rows origin frames base.names (map (rows.rows frames) (trees_of arguments)))
  call_form origin place count kind (Bare at None) base fits none one arguments all = absurd fits
  call_form origin place count kind (Bare at (Some m)) base fits none one arguments all =
      subst (λ (names : Option Meaning). ReadsAs (with_values (result_kind (Some m))
      (parts_of arguments)) Plain
      (rows.call_rows origin frames names (map (rows.rows frames) (trees_of arguments))))
      (sym fits.0)
      (call_reads_by origin (Some m) at count
      (not_true (names_function (Some m)) (not_broken rule.N3 (not (names_function (Some m))) place
      (unbroken (taken Called (at_place place kind (Bare at (Some m)))) none).n3)) fits.1 one
      arguments all)
  call_form origin place count kind (Element found) base fits none one arguments all =
      absurd (no_two true refl (not_broken rule.N3 true place
      (unbroken (taken Called (at_place place kind (Element found))) none).n3))
  call_form origin place count kind Plain base fits none one arguments all =
      absurd (no_two true refl (not_broken rule.N3 true place
      (unbroken (taken Called (at_place place kind Plain)) none).n3))

  -- suffixes

  -- an expression in a suffix, where its uses break no rule
  abbrev pub ReadsWhere : Reading → Type 0
  ReadsWhere r =
      UsesFit W caller r.uses → ReadsAs r.part.kind r.part.form (rows.rows frames r.typed)

  -- its value is used
  pub used_reads : (r : Reading) → ReadsWhere r → UsesFit W caller (used Valued r) →
      ArgumentReads r
  used_reads r reads uses =
      let h = reads (uses_left W caller r.uses (taken Valued r.part ∷ []) uses) in
      let one = (uses_right W caller r.uses (taken Valued r.part ∷ []) uses).0 in
      let v = is_value r.part.place r.part.kind r.part.form h.stands one.none in
      record { type = v.0; is = v.1; used = h.used v.0 v.1; unused = h.unused (Value v.0) v.1 }

  pub all_used : (arguments : List Reading) → AllByRecursion ReadsWhere arguments →
      UsesFit W caller (flat_map (used Valued) arguments) → AllByRecursion ArgumentReads arguments
  all_used [] all uses = tt
  all_used (r ∷ arguments) all uses =
      let own = used Valued r in
      let rest = flat_map (used Valued) arguments in (
        used_reads r all.0 (uses_left W caller own rest uses),
        all_used arguments all.1 (uses_right W caller own rest uses),
      )

  abbrev pub SuffixReads : ReadSuffix → Type 0
  SuffixReads (Suffix-F.Index index place) = ReadsWhere index
  SuffixReads (Suffix-F.Call arguments place) = AllByRecursion ReadsWhere arguments
  SuffixReads (Suffix-F.Step operator place) = Unit {0}
  SuffixReads (Suffix-F.Skipped place) = Unit {0}

  changed_is : (part : Part) (t : IntType) → part.kind ≡ Some (Value t) →
      changed_kind part ≡ Some (Value t)
  changed_is part t is = ap (λ kind. value (value_kind kind)) is

  -- what is assigned to, with the kind that it is read with
  pub changed_reads : (part : Part) (row : rows.Rows) → ReadsAs part.kind part.form row →
      NoFaults (use_faults (taken Changed part)) →
      (k : Kind) × (changed_kind part ≡ Some k) × TargetFits W row.target
  changed_reads part row reads none =
      let c = is_changed W frames row part.place part.kind part.form reads none in
      (Value c.1.0, changed_is part c.1.0 c.1.1, reads.target (Value c.1.0) c.1.1 c.0)

  suffix_reads : (origin : ℕ) (base : Part) (row : rows.Rows) (suffix : ReadSuffix) →
      ReadsAs base.kind base.form row → SuffixReads suffix →
      UsesFit W caller (suffix_uses base suffix) →
      ReadsAs (suffix_part base suffix).kind (suffix_part base suffix).form
      (rows.suffix_rows origin frames row (core_suffix frames (suffix_typed base suffix)))
  suffix_reads origin base row (Suffix-F.Index index place) reads inside uses =
      let kind = (suffix_part base (Suffix-F.Index index place)).kind in
      let i = used_reads index inside uses.1 in
      subst (λ (s : rows.ReadSuffix). ReadsAs kind (element_form base.form)
      (rows.suffix_rows origin frames row s)) (sym (open_index frames index.typed kind place))
      (by_stands origin base.place base.kind base.form row reads.stands reads.form uses.0.none
      index.part.kind i.type i.is i.used)
  suffix_reads origin base row (Suffix-F.Call arguments place) reads inside uses =
      let kind = (suffix_part base (Suffix-F.Call arguments place)).kind in
      subst (λ (s : rows.ReadSuffix). ReadsAs kind Plain (rows.suffix_rows origin frames row s))
      (sym (open_call frames (trees_of arguments) kind place))
      (call_form origin base.place (length arguments) base.kind base.form row reads.form uses.0.none
      uses.1.0 arguments (all_used arguments inside uses.1.1))
  suffix_reads origin base row (Suffix-F.Step operator place) reads inside uses =
      let c = changed_reads base row reads uses.0.none in
      subst (λ (s : rows.ReadSuffix). ReadsAs (changed_kind base) Plain
      (rows.suffix_rows origin frames row s))
      (sym (open_step frames operator (changed_kind base) place))
      (act_reads (changed_kind base) (c.0, c.1)
      (λ t so. stepping_fits W origin Used operator c.2)
      (λ k so. stepping_fits W origin Unused operator c.2))
  suffix_reads origin base row (Suffix-F.Skipped place) reads inside uses =
      let kind = result_of base.form in
      subst (λ (s : rows.ReadSuffix). ReadsAs kind Plain (rows.suffix_rows origin frames row s))
      (sym (open_skipped frames kind place))
      (call_form origin base.place 0 base.kind base.form row reads.form uses.0.none uses.1.0 [] tt)

  pub suffixed_reads : (origin : ℕ) (suffixes : List ReadSuffix) →
      AllByRecursion SuffixReads suffixes →
      (base : Part) (row : rows.Rows) → ReadsAs base.kind base.form row →
      UsesFit W caller (suffixed base suffixes).uses →
      ReadsAs (suffixed base suffixes).part.kind (suffixed base suffixes).part.form
      (rows.suffixed origin frames row (map (core_suffix frames) (suffixed base suffixes).typed))
  suffixed_reads origin [] all base row reads uses = reads
  suffixed_reads origin (suffix ∷ suffixes) all base row reads uses =
      let next = suffix_part base suffix in
      let rest = (suffixed next suffixes).uses in
      suffixed_reads origin suffixes all.1 next
      (rows.suffix_rows origin frames row (core_suffix frames (suffix_typed base suffix)))
      (suffix_reads origin base row suffix reads all.0
      (uses_left W caller (suffix_uses base suffix) rest uses))
      (uses_right W caller (suffix_uses base suffix) rest uses)
