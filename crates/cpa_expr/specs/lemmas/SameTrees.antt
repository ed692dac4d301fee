-- Expressions are the same tree exactly where they are equal.
use Rattle.std.proofs.Common.{◌≡◌, ◌↔◌, IsTrue, ◌==◌, ◌&&◌, Bool, true, List, [], ◌∷◌, map, refl}
use Rattle.std.proofs.Common.{ap, sym, ◌∙◌, subst}
use Rattle.std.specs.List.{AllByRecursion}
use Rattle.std.specs.Ordering.{int_eq}
use Rattle.std.specs.Cmp.{IsPartialEquivalence, IsEquivalence}
use Rattle.std.proofs.lemmas.Bool.Decides.{Decides-eqb, Decides-int_eq, same_from_decides}
use Rattle.std.proofs.lemmas.Bool.{and_parts, and_from}
use denote.Enum.Bare.{same_true, true_same}
use Rattle.cpa_ints.specs.declared.integers.IntType.{IntType}
use Rattle.cpa_ints.specs.contracts.integers.IntType as int_type
use Rattle.cpa_expr.specs.contracts.tree.UnOp as un_op
use Rattle.cpa_expr.specs.contracts.tree.BinOp as bin_op
use Rattle.cpa_expr.specs.contracts.tree.CmpOp as cmp_op
use Rattle.cpa_expr.specs.declared.tree.Expr.{Expr, out-Expr, roll-Expr}
use Rattle.cpa_expr.specs.declared.tree.Expr.TheViews.{roll-out-Expr, out-roll-Expr}
use Rattle.cpa_expr.specs.declared.tree.Expr.TheOpen.{Expr-F}
use Rattle.cpa_expr.specs.declared.tree.Expr.TheFolds.{map-Expr, fold-roll-Expr}
use Rattle.cpa_expr.specs.Shape.{parts, OfParts}
use Rattle.cpa_expr.specs.Equality.{same_type, same_un, same_bin, same_cmp, same_head, all_hold}
use Rattle.cpa_expr.specs.Equality.{same_node, same_expr}
use Rattle.cpa_expr.specs.lemmas.Parts.{by_parts, parts_mapped}

type_is : (t u : IntType) → same_type t u ≡ true → t ≡ u
type_is = same_true int_type.the_type tt

type_self : (t : IntType) → same_type t t ≡ true
type_self t = true_same int_type.the_type t t refl

-- the tests of the parts, in a node
abbrev tests_in : Expr-F Expr → Expr-F (Expr → Bool)
tests_in = map-Expr Expr (Expr → Bool) same_expr

-- what passes the test of an expression is that expression
abbrev IsOne : Expr → Type 0
IsOne e = (f : Expr) → same_expr e f ≡ true → e ≡ f

abbrev IsSelf : Expr → Type 0
IsSelf e = same_expr e e ≡ true

same_rolled : (x : Expr-F Expr) (f : Expr) →
    same_expr (roll-Expr x) f ≡ same_node (tests_in x) (out-Expr f)
same_rolled x f =
    ap (λ test. test f) (fold-roll-Expr (Expr → Bool) (λ node other.
    same_node node (out-Expr other)) x)

-- nodes with one head and the same parts are one
one_head : (x y : Expr-F Expr) → same_head x y ≡ true → parts x ≡ parts y → x ≡ y
one_head (Expr-F.Const t n) (Expr-F.Const u m) h ps =
    let p = and_parts (same_type t u) (int_eq n m) h in
    let a = type_is t u p.0 in let b = (Decides-int_eq n m).0 p.1 in cc
one_head (Expr-F.Read t base len index) (Expr-F.Read u first count place) h ps =
    let q = and_parts (same_type t u && (base == first)) (len == count) h in
    let r = and_parts (same_type t u) (base == first) q.0 in
    let a = type_is t u r.0 in let b = (Decides-eqb base first).0 r.1 in
    let c = (Decides-eqb len count).0 q.1 in cc
one_head (Expr-F.Un o t arg) (Expr-F.Un p u other) h ps =
    let r = and_parts (same_un o p) (same_type t u) h in
    let a = same_true un_op.the_type tt o p r.0 in let b = type_is t u r.1 in cc
one_head (Expr-F.Bin o t left right) (Expr-F.Bin p u one two) h ps =
    let s = and_parts (same_bin o p) (same_type t u) h in
    let a = same_true bin_op.the_type tt o p s.0 in let b = type_is t u s.1 in cc
one_head (Expr-F.Cmp o t left right) (Expr-F.Cmp p u one two) h ps =
    let s = and_parts (same_cmp o p) (same_type t u) h in
    let a = same_true cmp_op.the_type tt o p s.0 in let b = type_is t u s.1 in cc
one_head (Expr-F.Cast t arg) (Expr-F.Cast u other) h ps = let a = type_is t u h in cc
one_head (Expr-F.And left right) (Expr-F.And one two) h ps = cc
one_head (Expr-F.Or left right) (Expr-F.Or one two) h ps = cc
one_head (Expr-F.Not arg) (Expr-F.Not other) h ps = cc
one_head (Expr-F.Cond t test first second) (Expr-F.Cond u check one two) h ps =
    let a = type_is t u h in cc
one_head _ _ h ps = absurd (cc)

self_head : (x : Expr-F Expr) → same_head x x ≡ true
self_head (Expr-F.Const t n) = and_from _ _ (type_self t) ((Decides-int_eq n n).1 refl)
self_head (Expr-F.Read t base len index) =
    and_from _ _ (and_from _ _ (type_self t) ((Decides-eqb base base).1 refl))
    ((Decides-eqb len len).1 refl)
self_head (Expr-F.Un o t arg) = and_from _ _ (true_same un_op.the_type o o refl) (type_self t)
self_head (Expr-F.Bin o t left right) =
    and_from _ _ (true_same bin_op.the_type o o refl) (type_self t)
self_head (Expr-F.Cmp o t left right) =
    and_from _ _ (true_same cmp_op.the_type o o refl) (type_self t)
self_head (Expr-F.Cast t arg) = type_self t
self_head (Expr-F.And left right) = refl
self_head (Expr-F.Or left right) = refl
self_head (Expr-F.Not arg) = refl
self_head (Expr-F.Cond t test first second) = type_self t

-- the tests of the parts do not count for the head
head_mapped : (x y : Expr-F Expr) → same_head (tests_in x) y ≡ same_head x y
head_mapped (Expr-F.Const t n) y = refl
head_mapped (Expr-F.Read t base len index) y = refl
head_mapped (Expr-F.Un o t arg) y = refl
head_mapped (Expr-F.Bin o t left right) y = refl
head_mapped (Expr-F.Cmp o t left right) y = refl
head_mapped (Expr-F.Cast t arg) y = refl
head_mapped (Expr-F.And left right) y = refl
head_mapped (Expr-F.Or left right) y = refl
head_mapped (Expr-F.Not arg) y = refl
head_mapped (Expr-F.Cond t test first second) y = refl

-- parts that pass the tests of parts are those
ones : (ps qs : List Expr) → AllByRecursion IsOne ps → all_hold (map same_expr ps) qs ≡ true →
    ps ≡ qs
ones [] [] all h = refl
ones [] (q ∷ qs) all h = absurd (cc)
ones (p ∷ ps) [] all h = absurd (cc)
ones (p ∷ ps) (q ∷ qs) all h =
    let both = and_parts (same_expr p q) (all_hold (map same_expr ps) qs) h in
    let a = all.0 q both.0 in let b = ones ps qs all.1 both.1 in cc

selves : (ps : List Expr) → AllByRecursion IsSelf ps → all_hold (map same_expr ps) ps ≡ true
selves [] all = refl
selves (p ∷ ps) all = and_from _ _ all.0 (selves ps all.1)

-- the test of a node: its head, and each part
node_parts : (x y : Expr-F Expr) →
    same_node (tests_in x) y ≡ (same_head x y && all_hold (map same_expr (parts x)) (parts y))
node_parts x y =
    ap (λ b. b && all_hold (parts (tests_in x)) (parts y)) (head_mapped x y) ∙
    ap (λ ts. same_head x y && all_hold ts (parts y)) (parts_mapped (Expr → Bool) same_expr x)

one_layer : (x y : Expr-F Expr) → OfParts IsOne x → same_node (tests_in x) y ≡ true → x ≡ y
one_layer x y all h =
    let both = and_parts (same_head x y) (all_hold (map same_expr (parts x)) (parts y))
    (sym (node_parts x y) ∙ h) in
    one_head x y both.0 (ones (parts x) (parts y) all both.1)

pub same_expr_is : (e : Expr) → IsOne e
same_expr_is =
    by_parts IsOne (λ x all f h. ap roll-Expr (one_layer x (out-Expr f) all (sym (same_rolled x f)
    ∙ h)) ∙ roll-out-Expr f)

own_layer : (x : Expr-F Expr) → OfParts IsSelf x → same_node (tests_in x) x ≡ true
own_layer x all = node_parts x x ∙ and_from _ _ (self_head x) (selves (parts x) all)

pub same_expr_self : (e : Expr) → IsSelf e
same_expr_self =
    by_parts IsSelf (λ x all. same_rolled x (roll-Expr x)
    ∙ (ap (same_node (tests_in x)) (out-roll-Expr x) ∙ own_layer x all))

pub same_expr_decides : (e f : Expr) → IsTrue (same_expr e f) ↔ (e ≡ f)
same_expr_decides e f =
    (λ h. same_expr_is e f h, λ h. subst (λ g. IsTrue (same_expr e g)) h (same_expr_self e))

-- the test does not mind the order, and carries over
same_expr_back : (e f : Expr) → same_expr e f ≡ same_expr f e
same_expr_back e f =
    same_from_decides (same_expr e f) (same_expr f e) (same_expr_decides e f)
    ((λ h. sym ((same_expr_decides f e).0 h)), (λ h. (same_expr_decides f e).1 (sym h)))

pub same_expr_per : IsPartialEquivalence same_expr
same_expr_per = record {
  symm = same_expr_back;
  trans = λ e f g h k. subst (λ x. same_expr x g ≡ true) (sym (same_expr_is e f h)) k;
}

pub same_expr_equivalence : IsEquivalence same_expr
same_expr_equivalence = record {
  refl = same_expr_self;
  symm = same_expr_back;
  congr = λ e f g h. ap (λ x. same_expr x g) (same_expr_is e f h);
}

-- the test by lists of parts
pub same_parts : (e f : Expr) →
    same_expr e f ≡ (same_head (out-Expr e) (out-Expr f) && all_hold
    (map same_expr (parts (out-Expr e))) (parts (out-Expr f)))
same_parts e f =
    ap (λ d. same_expr d f) (sym (roll-out-Expr e))
    ∙ (same_rolled (out-Expr e) f ∙ node_parts (out-Expr e) (out-Expr f))
