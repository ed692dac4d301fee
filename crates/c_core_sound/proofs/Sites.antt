-- What the rules see of the sites of a function in which none of them is broken: the expressions in
-- them have well typed cores.
use Rattle.std.proofs.Common.{◌≡◌, ℕ, true, List, [], ◌∷◌, ◌++◌, Option, None, Some}
use Rattle.std.proofs.Common.{refl}
use Rattle.std.specs.List.{AllByRecursion, flat_map}
use Rattle.std.specs.Str.{bytes_eq}
use Rattle.cpa_ints.specs.declared.integers.IntType.TheVariants as ty
use Rattle.cpa_ints.specs.Integers.{IsInRange}
use Rattle.c_grammar_tree.specs.declared.expression.Expression.{Expression}
use Rattle.c_types_rules.specs.declared.known.KnownFunction.{KnownFunction}
use Rattle.c_types_rules.specs.declared.meaning.Declared.{Declared}
use Rattle.c_types_rules.specs.declared.meaning.Declared.TheVariants as declared
use Rattle.c_types_rules.specs.declared.meaning.Entry.{Entry}
use Rattle.c_types_rules.specs.declared.meaning.Role.TheVariants.{Valued, Evaluated}
use Rattle.c_types_rules.specs.Names.{Text, body_of, declared_as, function_of, meaning_by}
use Rattle.c_types_rules.specs.Names.{meaning_of}
use Rattle.c_types_rules.specs.Known.{known}
use Rattle.c_types_rules.specs.Expressions.{Use, used, reading}
use Rattle.c_types_rules.specs.ExpressionRules.{use_faults, uses_faults}
use Rattle.c_types_rules.specs.Statements.{Around, Site, evaluates}
use Rattle.c_types_rules.specs.StatementRules.{site_faults}
use Rattle.c_types_rules.specs.Items.{Call, use_calls, site_calls}
use Rattle.c_types_rules.specs.TypedStatements.{typed_expression}
use Rattle.c_core_rules.specs.Expressions as rows
use Rattle.c_core_laws.specs.lemmas.Faults.{NoFaults, none_left, none_right}
use Rattle.c_core_sound.specs.Whole.{is_whole}
use Rattle.c_core_sound.proofs.Fitting.{Ground}
use Rattle.c_core_sound.proofs.FittingRows.{FunctionFits, GoodRule, TreesRule, only_fits}
use Rattle.c_core_sound.proofs.ReadParts.{UsesFit, MeaningFits}
use Rattle.c_core_sound.proofs.ReadForms.{used_reads}
use Rattle.c_core_sound.proofs.ReadExpressions.{expression_reads, evaluated_reads}
use Rattle.c_core_sound.proofs.Running.{world}
use Rattle.c_core_sound.proofs.Entries.{pushed_by}

-- a site of a body that breaks no rule, and may call what it calls
pub record SiteFits (G : Ground) (text : Text) (caller : ℕ) (site : Site) : Type 0 where
  pub none : NoFaults (site_faults text site)
  pub calls : AllByRecursion (λ (c : Call). G.calls c.callee) (site_calls text caller site)

abbrev pub SitesFit : Ground → Text → ℕ → List Site → Type 0
SitesFit G text caller sites = AllByRecursion (SiteFits G text caller) sites

pub sites_left : (G : Ground) (text : Text) (caller : ℕ) (a b : List Site) →
    SitesFit G text caller (a ++ b) → SitesFit G text caller a
sites_left G text caller [] b h = tt
sites_left G text caller (s ∷ a) b h = (h.0, sites_left G text caller a b h.1)

pub sites_right : (G : Ground) (text : Text) (caller : ℕ) (a b : List Site) →
    SitesFit G text caller (a ++ b) → SitesFit G text caller b
sites_right G text caller [] b h = h
sites_right G text caller (s ∷ a) b h = sites_right G text caller a b h.1

all_left : {X : Type 0} (P : X → Type 0) (a b : List X) → AllByRecursion P (a ++ b) →
    AllByRecursion P a
all_left P [] b h = tt
all_left P (x ∷ a) b h = (h.0, all_left P a b h.1)

all_right : {X : Type 0} (P : X → Type 0) (a b : List X) → AllByRecursion P (a ++ b) →
    AllByRecursion P b
all_right P [] b h = h
all_right P (x ∷ a) b h = all_right P a b h.1

module _ (G : Ground) (frames : rows.Frames) (text : Text) where
  -- a function that is declared so fits where it has a body that may be called
  abbrev pub DeclaredFits : List ℕ → Declared → Type 0
  DeclaredFits name (declared.Object object initialized) = Unit {0}
  DeclaredFits name (declared.Function result parameters defined) =
      (body : ℕ) → body_of text name ≡ Some body → G.calls body
      → FunctionFits G frames (function_of text name result parameters)
  DeclaredFits name (declared.Enumerator value) = IsInRange ty.I32 value
  DeclaredFits name declared.Tag = Unit {0}

  pub record FunctionsFit (names : List Entry) : Type 0 where
    pub at : (name : List ℕ) (d : Declared) → declared_as names name ≡ Some d →
        DeclaredFits name d

  pub functions_push : (names : List Entry) (entry : Entry) → FunctionsFit names →
      ((name : List ℕ) → bytes_eq entry.name name ≡ true → DeclaredFits name entry.declared) →
      FunctionsFit (names ++ entry ∷ [])
  functions_push names entry h here =
      record { at = pushed_by DeclaredFits names entry h.at here }

  module _ (names : List Entry) (fits : FunctionsFit names) where
    meaning_fits_by : (name : List ℕ) (function : Option KnownFunction) (o : Option Declared) →
        declared_as names name ≡ o →
        MeaningFits (world G names) frames (meaning_by text name function o)
    meaning_fits_by name None None is = tt
    meaning_fits_by name (Some function) None is = tt
    meaning_fits_by name None (Some (declared.Object object initialized)) is =
        record { begins = λ starts k. k.begins name (declared.Object object initialized) is }
    meaning_fits_by name (Some function) (Some (declared.Object object initialized)) is =
        record { begins = λ starts k. k.begins name (declared.Object object initialized) is }
    meaning_fits_by name None (Some (declared.Enumerator value)) is =
        λ starts k. fits.at name (declared.Enumerator value) is
    meaning_fits_by name (Some function) (Some (declared.Enumerator value)) is =
        λ starts k. fits.at name (declared.Enumerator value) is
    meaning_fits_by name None (Some declared.Tag) is = tt
    meaning_fits_by name (Some function) (Some declared.Tag) is = tt
    meaning_fits_by name (Some function) (Some (declared.Function result parameters defined)) is =
        tt
    meaning_fits_by name None (Some (declared.Function result parameters defined)) is =
        λ body has calls. record {
          fits = λ starts k.
              fits.at name (declared.Function result parameters defined) is body has calls;
        }

    pub meaning_fits : (name : List ℕ) →
        MeaningFits (world G names) frames (meaning_of text names name)
    meaning_fits name = meaning_fits_by name (known text.model name) (declared_as names name) refl

  module _ (caller : ℕ) where
    uses_of : (names : List Entry) (uses : List Use) → NoFaults (uses_faults uses) →
        AllByRecursion (λ (c : Call). G.calls c.callee) (flat_map (use_calls caller) uses) →
        UsesFit (world G names) caller uses
    uses_of names [] none calls = tt
    uses_of names (one ∷ uses) none calls =
        let may = λ (c : Call). G.calls c.callee in
        let rest = uses_faults uses in
        let others = flat_map (use_calls caller) uses in (
          record {
            none = none_left (use_faults one) rest none;
            calls = all_left may (use_calls caller one) others calls;
          },
          uses_of names uses (none_right (use_faults one) rest none)
              (all_right may (use_calls caller one) others calls),
        )

    -- the value of an expression that is used at a site
    pub value_rule : (around : Around) (e : Expression) → FunctionsFit around.names →
        SiteFits G text caller (record { around = around; act = evaluates Valued e }) →
        is_whole e ≡ true →
        GoodRule (world G around.names)
        (rows.used (rows.rows frames (typed_expression text around e)))
    value_rule around e fits site whole =
        let W = world G around.names in
        let r = reading text around.names e in
        (used_reads W frames caller r (expression_reads W frames caller text around.names
        (meaning_fits around.names fits) e whole)
        (uses_of around.names (used Valued r) site.none site.calls)).used

    pub trees_rule : (around : Around) (e : Expression) → FunctionsFit around.names →
        SiteFits G text caller (record { around = around; act = evaluates Evaluated e }) →
        is_whole e ≡ true →
        TreesRule (world G around.names) (rows.unused (rows.rows frames
        (typed_expression text around e)))
    trees_rule around e fits site whole =
        let W = world G around.names in
        let r = reading text around.names e in
        let h = evaluated_reads W frames caller text around.names
        (meaning_fits around.names fits) r (expression_reads W frames caller text around.names
        (meaning_fits around.names fits) e whole)
        (uses_of around.names (used Evaluated r) site.none site.calls) in
        only_fits W (h.1.unused h.0.0 h.0.1)
