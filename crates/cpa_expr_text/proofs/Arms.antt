-- What each arm of the reader of trees gives, from what comes first among the words.
use Rattle.std.proofs.Common.{◌≡◌, ℕ, ◌+◌, ◌<◌, ◌≤◌, ℤ, List, ◌∷◌, refl, sym, ap, ◌∙◌, subst, arith}
use Rattle.std.specs.Prelude.{Result, Option, None, Some}
use Rattle.std.specs.Borrow.{Bor}
use Rattle.cpa_ints.specs.declared.integers.IntType.{IntType}
use Rattle.cpa_expr.specs.declared.tree.Expr.{Expr}
use Rattle.cpa_expr.specs.declared.tree.Expr.TheVariants.{Const, Cond}
use Rattle.cpa_expr.specs.Shape.{height}
use Rattle.cpa_expr_text.specs.declared.fault.ReadFault.{ReadFault}
use Rattle.cpa_expr_text.specs.declared.heads.Head.{Head}
use Rattle.cpa_expr_text.specs.declared.heads.Head.TheVariants as head
use Rattle.cpa_expr_text.specs.declared.heads.One.{One}
use Rattle.cpa_expr_text.specs.declared.heads.Two.{Two}
use Rattle.cpa_expr_text.specs.Kinds.{head_onto, FitsHead}
use Rattle.cpa_expr_text.specs.Reading.{Word, words_onto, one_of, two_of, Fits, Passed, Took}
use Rattle.cpa_expr_text.proofs.Forms.{Form, leaf, one_part, two_parts, three_parts, form_of}

-- where nothing is passed, nothing comes first
pub nothing_passed : {A : Type 0} (x : A) (us : List Word)
    (r : Option (A × Bor (List (Bor Word)))) → Passed x us r
    → ((p : A × Bor (List (Bor Word))) → r ≡ Some p → ⊥) → ⊥
nothing_passed x us None h none = h
nothing_passed x us (Some p) h none = none p refl

-- no expression comes first, where no node does
pub none_comes : (words ws : List Word)
    → ((h : Head) (us : List Word) → FitsHead h → words ≡ head_onto h us → ⊥)
    → (e : Expr) → Fits e → words ≡ words_onto e ws → ⊥
none_comes words ws none e fit is = elim (form_of e fit) [
  | leaf t n same k w some ↦ none (head.Leaf t n) ws k (is ∙ w ws)
  | one_part h a same k fa w low ↦ none (head.One h) (words_onto a ws) k (is ∙ w ws)
  | two_parts h a b same fa fb w low below ↦
      none (head.Two h) (words_onto a (words_onto b ws)) tt (is ∙ w ws)
  | three_parts t a b d same fa fb fd w low below beneath ↦
      none (head.Three t) (words_onto a (words_onto b (words_onto d ws))) tt (is ∙ w ws)
]

-- none has no level
pub some_level : (e : Expr) → Fits e → 0 < height e
some_level e fit = elim (form_of e fit) [
  | leaf t n same k w some ↦ some
  | one_part h a same k fa w low ↦ omega arith
  | two_parts h a b same fa fb w low below ↦ omega arith
  | three_parts t a b d same fa fb fd w low below beneath ↦ omega arith
]

-- the node that comes first, and the words behind it
module _ (words left : List Word) (first : Head)
    (passed : (h : Head) (us : List Word) → FitsHead h → words ≡ head_onto h us
    → (first ≡ h) × (left ≡ us)) where
  pub leaf_comes : (t : IntType) (n : ℤ) → first ≡ head.Leaf t n
      → (e : Expr) (ws : List Word) → Fits e → words ≡ words_onto e ws
      → (Const t n ≡ e) × (left ≡ ws)
  leaf_comes t n at e ws fit is = elim (form_of e fit) [
    | leaf u m same k w some ↦
        let p = passed (head.Leaf u m) ws k (is ∙ w ws) in
        let ty : t ≡ u = cc in
        let number : n ≡ m = cc in
        (ap (λ x. Const x n) ty ∙ ap (Const u) number ∙ same, p.1)
    | one_part h a same k fa w low ↦
        let p = (passed (head.One h) (words_onto a ws) k (is ∙ w ws)).0 in absurd (cc)
    | two_parts h a b same fa fb w low below ↦
        let p = (passed (head.Two h) (words_onto a (words_onto b ws)) tt (is ∙ w ws)).0 in
        absurd (cc)
    | three_parts u a b d same fa fb fd w low below beneath ↦
        let p =
        (passed (head.Three u) (words_onto a (words_onto b (words_onto d ws))) tt
        (is ∙ w ws)).0 in
        absurd (cc)
  ]

  module _ (levels less : ℕ) (fewer : levels ≤ less + 1)
      (r : Result (Expr × Bor (List (Bor Word))) ReadFault) where
    pub one_comes : (g : One) → first ≡ head.One g
        → ((a : Expr) (us : List Word) → Fits a → height a ≤ less → left ≡ words_onto a us
        → Took (one_of g a) us r)
        → (e : Expr) (ws : List Word) → Fits e → height e ≤ levels → words ≡ words_onto e ws
        → Took e ws r
    one_comes g at took e ws fit high is = elim (form_of e fit) [
      | leaf u m same k w some ↦
          let p = (passed (head.Leaf u m) ws k (is ∙ w ws)).0 in absurd (cc)
      | one_part h a same k fa w low ↦
          let p = passed (head.One h) (words_onto a ws) k (is ∙ w ws) in
          let node : g ≡ h = cc in
          subst (λ x. Took x ws r) (ap (λ q. one_of q a) node ∙ same)
          (took a ws fa (omega arith) p.1)
      | two_parts h a b same fa fb w low below ↦
          let p = (passed (head.Two h) (words_onto a (words_onto b ws)) tt (is ∙ w ws)).0 in
          absurd (cc)
      | three_parts u a b d same fa fb fd w low below beneath ↦
          let p =
          (passed (head.Three u) (words_onto a (words_onto b (words_onto d ws))) tt
          (is ∙ w ws)).0 in
          absurd (cc)
    ]

    pub two_come : (g : Two) → first ≡ head.Two g
        → ((a b : Expr) (us : List Word) → Fits a → Fits b → height a ≤ less → height b ≤ less
        → left ≡ words_onto a (words_onto b us) → Took (two_of g a b) us r)
        → (e : Expr) (ws : List Word) → Fits e → height e ≤ levels → words ≡ words_onto e ws
        → Took e ws r
    two_come g at took e ws fit high is = elim (form_of e fit) [
      | leaf u m same k w some ↦
          let p = (passed (head.Leaf u m) ws k (is ∙ w ws)).0 in absurd (cc)
      | one_part h a same k fa w low ↦
          let p = (passed (head.One h) (words_onto a ws) k (is ∙ w ws)).0 in absurd (cc)
      | two_parts h a b same fa fb w low below ↦
          let p = passed (head.Two h) (words_onto a (words_onto b ws)) tt (is ∙ w ws) in
          let node : g ≡ h = cc in
          subst (λ x. Took x ws r) (ap (λ q. two_of q a b) node ∙ same)
          (took a b ws fa fb (omega arith) (omega arith) p.1)
      | three_parts u a b d same fa fb fd w low below beneath ↦
          let p =
          (passed (head.Three u) (words_onto a (words_onto b (words_onto d ws))) tt
          (is ∙ w ws)).0 in
          absurd (cc)
    ]

    pub three_come : (t : IntType) → first ≡ head.Three t
        → ((a b d : Expr) (us : List Word) → Fits a → Fits b → Fits d
        → height a ≤ less → height b ≤ less → height d ≤ less
        → left ≡ words_onto a (words_onto b (words_onto d us)) → Took (Cond t a b d) us r)
        → (e : Expr) (ws : List Word) → Fits e → height e ≤ levels → words ≡ words_onto e ws
        → Took e ws r
    three_come t at took e ws fit high is = elim (form_of e fit) [
      | leaf u m same k w some ↦
          let p = (passed (head.Leaf u m) ws k (is ∙ w ws)).0 in absurd (cc)
      | one_part h a same k fa w low ↦
          let p = (passed (head.One h) (words_onto a ws) k (is ∙ w ws)).0 in absurd (cc)
      | two_parts h a b same fa fb w low below ↦
          let p = (passed (head.Two h) (words_onto a (words_onto b ws)) tt (is ∙ w ws)).0 in
          absurd (cc)
      | three_parts u a b d same fa fb fd w low below beneath ↦
          let p =
          passed (head.Three u) (words_onto a (words_onto b (words_onto d ws))) tt (is ∙ w ws) in
          let ty : t ≡ u = cc in
          subst (λ x. Took x ws r) (ap (λ q. Cond q a b d) ty ∙ same)
          (took a b d ws fa fb fd (omega arith) (omega arith) (omega arith) p.1)
    ]
