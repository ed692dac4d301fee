-- Expressions that a list lacks are appended once each, and nothing else.
use Rattle.std.proofs.Common.{◌≡◌, ℕ, ◌<◌, Bool, true, false, List, [], ◌∷◌, ◌++◌}
use Rattle.std.proofs.Common.{refl, sym, ◌∙◌, subst, arith, length, append-nil}
use Rattle.std.proofs.Common.{get_or}
use Rattle.std.specs.Prelude.{zero, suc, ◌||◌, if◌then◌else◌}
use Rattle.std.specs.List.{AllByRecursion, Contains, list_any}
use Rattle.std.proofs.lemmas.Bool.{or_left, or_right}
use Rattle.std.proofs.lemmas.List.{append_assoc}
use Rattle.std.proofs.lemmas.List.Elements.{Contains-append_left, Contains-append_right}
use Rattle.cpa_expr.specs.declared.tree.Expr.{Expr}
use Rattle.cpa_expr.specs.Equality.{same_expr}
use Rattle.cpa_expr.specs.lemmas.SameTrees.{same_expr_is, same_expr_self}
use Rattle.cpa_model.specs.lemmas.Lists.{AllByRecursion-push}
use Rattle.cpa_iface.specs.Laws.{AppendsMissing}
use Rattle.cpa_folds.specs.Carried.{with_new}
use Rattle.cpa_predicate.specs.Refining.{with_missing}

weaker : (P Q : Expr → Type 0) (es : List Expr) → ((e : Expr) → P e → Q e) → AllByRecursion P es
    → AllByRecursion Q es
weaker P Q [] f all = tt
weaker P Q (e ∷ es) f all = (f e all.0, weaker P Q es f all.1)

later : (x y : Expr) (ys : List Expr) → Contains ys x → Contains (y ∷ ys) x
later x y ys at = (suc at.0, (let less = at.1 in omega (arith, less)), at.2)

-- the test finds what is there, and nothing else
found_in : (e : Expr) (es : List Expr) → list_any (same_expr e) es ≡ true → Contains es e
found_in e [] h = absurd (cc)
found_in e (f ∷ es) h = by (same_expr e f) refl h (found_in e es)
  where
    by : (b : Bool) → same_expr e f ≡ b → (b || list_any (same_expr e) es) ≡ true
        → (list_any (same_expr e) es ≡ true → Contains es e) → Contains (f ∷ es) e
    by true same h rest = (zero, omega arith, sym (same_expr_is e f same))
    by false other h rest = later e f es (rest h)

finds : (e : Expr) (es : List Expr) (k : ℕ) → k < length es → (d : Expr) → get_or es k d ≡ e
    → list_any (same_expr e) es ≡ true
finds e [] k less d at = absurd (omega (arith, less))
finds e (f ∷ es) zero less d at =
    or_left (same_expr e f) (list_any (same_expr e) es)
    (subst (λ x. same_expr e x ≡ true) (sym at) (same_expr_self e))
finds e (f ∷ es) (suc k) less d at =
    or_right (same_expr e f) (list_any (same_expr e) es)
    (finds e es k (omega (arith, less)) d at)

-- the first one stands there, and then the others follow
missing_on : (e : Expr) (es old : List Expr)
    → ((now : List Expr) → AppendsMissing es now (with_missing es now))
    → AppendsMissing (e ∷ es) old (with_missing es (with_new e old))
missing_on e es old rest = by (list_any (same_expr e) old) refl
  where
    by : (b : Bool) → list_any (same_expr e) old ≡ b
        → AppendsMissing (e ∷ es) old (with_missing es (if b then old else old ++ e ∷ []))
    by true there =
        let r = rest old in
        record {
          more = r.more;
          is = r.is;
          whole = (
            subst (λ l. Contains l e) (sym r.is)
                (Contains-append_left old r.more e (found_in e old there)),
            r.whole,
          );
          only = weaker _ _ r.more (λ x h. (later x e es h.0, h.1)) r.only;
          once = r.once;
        }
    by false none =
        let r = rest (old ++ e ∷ []) in
        let is : with_missing es (old ++ e ∷ []) ≡ old ++ (e ∷ r.more) =
        r.is ∙ append_assoc old (e ∷ []) r.more in
        record {
          more = e ∷ r.more;
          is = is;
          whole = (
            subst (λ l. Contains l e) (sym is)
                (Contains-append_right old (e ∷ r.more) e (zero, omega arith, refl)),
            r.whole,
          );
          only = (
            ((zero, omega arith, refl), λ at. absurd (cc (finds e old at.0 at.1 e at.2, none))),
            weaker _ _ r.more
                (λ x h. (later x e es h.0, λ at. h.1 (Contains-append_left old (e ∷ []) x at)))
                r.only,
          );
          once = (
            weaker _ _ r.more
                (λ x h same. h.1 (Contains-append_right old (e ∷ []) x
                (zero, omega arith, same)))
                r.only,
            r.once,
          );
        }

pub missing : (es old : List Expr) → AppendsMissing es old (with_missing es old)
missing [] old = record {
  more = [];
  is = sym (append-nil old);
  whole = tt;
  only = tt;
  once = tt;
}
missing (e ∷ es) old = missing_on e es old (λ now. missing es now)

pub all_missing : (P : Expr → Type 0) (es old : List Expr) → AllByRecursion P es
    → AllByRecursion P old → AllByRecursion P (with_missing es old)
all_missing P [] old first second = second
all_missing P (e ∷ es) old first second =
    all_missing P es (with_new e old) first.1 (by (list_any (same_expr e) old))
  where
    by : (b : Bool) → AllByRecursion P (if b then old else old ++ e ∷ [])
    by true = second
    by false = AllByRecursion-push P old e second first.0
