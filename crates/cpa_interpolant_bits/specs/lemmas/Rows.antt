-- What a step makes of each node in a row: where it stands, that newer nodes change nothing, and
-- what two rows have in common.
use Rattle.std.proofs.Common.{◌≡◌, ◌⊎◌, ℕ, ◌+◌, ◌<◌, ◌≤◌, List, [], ◌∷◌, ◌++◌, length}
use Rattle.std.proofs.Common.{get_or, reverse, refl, sym, ap, subst, ◌∙◌, arith, inl, inr}
use Rattle.std.specs.Prelude.{slice_index_or}
use Rattle.std.specs.List.{AllByRecursion}
use Rattle.std.proofs.lemmas.Bool.{cases_lt, cases_eq}
use Rattle.std.proofs.lemmas.List.{get_or_append_left, get_or_push, get_or_past, length_push}
use Rattle.std.proofs.lemmas.List.{reverse-append, length-reverse}
use Rattle.cpa_interpolant_bits.specs.declared.nodes.Node.{Node}
use Rattle.cpa_interpolant_bits.specs.declared.nodes.Node.TheVariants.{Literal, Both, Either}
use Rattle.cpa_interpolant_bits.specs.Nodes.{row, ReadsBelow, IsScoped}

-- a number below a longer list by one is below the list, or its length
pub below_or_last : (k n : ℕ) → k < n + 1 → (k < n) ⊎ (k ≡ n)
below_or_last k n h =
    elim (cases_lt k n) [ inl less ↦ inl less | inr more ↦ inr (omega arith) ]

pub reverse_more : {X : Type 0} (x : X) (xs : List X) → reverse (x ∷ xs) ≡ reverse xs ++ x ∷ []
reverse_more x xs = reverse-append (x ∷ []) xs

-- ---- one row

module _ {A : Type 0} (none : A) (step : (ℕ → A) → Node → A) where
  pub row_length : (nodes : List Node) → length (row none step nodes) ≡ length nodes
  row_length [] = refl
  row_length (node ∷ older) =
      let before = row none step older in
      let rest = row_length older in
      let more = length_push before (step (λ number. slice_index_or before number none) node) in
      omega arith

  pub at : List Node → ℕ → A
  at nodes number = slice_index_or (row none step nodes) number none

abbrev pub row_at : {A : Type 0} → A → ((ℕ → A) → Node → A) → List Node → ℕ → A
row_at none step nodes number = slice_index_or (row none step nodes) number none

module _ {A : Type 0} (none : A) (step : (ℕ → A) → Node → A) where
  pub newest : (node : Node) (older : List Node)
      → row_at none step (node ∷ older) (length older) ≡ step (row_at none step older) node
  newest node older =
      let before = row none step older in
      get_or_push before (step (λ number. slice_index_or before number none) node) none
      (length older) (row_length none step older)

  pub older_same : (node : Node) (older : List Node) (k : ℕ) → k < length older
      → row_at none step (node ∷ older) k ≡ row_at none step older k
  older_same node older k h =
      let before = row none step older in
      let long = row_length none step older in
      get_or_append_left before (step (λ number. slice_index_or before number none) node ∷ [])
      none k (omega arith)

  pub all_older_same : (more older : List Node) (k : ℕ) → k < length older
      → row_at none step (more ++ older) k ≡ row_at none step older k
  all_older_same [] older k h = refl
  all_older_same (node ∷ more) older k h =
      older_same node (more ++ older) k (within more older k h) ∙ all_older_same more older k h
    where
      within : (more older : List Node) (k : ℕ) → k < length older → k < length (more ++ older)
      within [] older k h = h
      within (node ∷ more) older k h = let rest = within more older k h in omega arith

  beyond : (node : Node) (older : List Node) (k : ℕ) → length older < k
      → row_at none step (node ∷ older) k ≡ none
  beyond node older k h =
      let long = row_length none step (node ∷ older) in
      get_or_past (row none step (node ∷ older)) k none (omega arith)

-- ---- two rows

-- R of what the two steps make of the node, where it is so of the nodes before
abbrev pub Keeps : {A B : Type 0} → (A → B → Type 0) → ((ℕ → A) → Node → A)
    → ((ℕ → B) → Node → B) → Node → Type 0
Keeps {A} {B} R first second node =
    (f : ℕ → A) (g : ℕ → B) → ((k : ℕ) → R (f k) (g k)) → R (first f node) (second g node)

module _ {A B : Type 0} (R : A → B → Type 0) (none : A) (other : B)
    (first : (ℕ → A) → Node → A) (second : (ℕ → B) → Node → B) (start : R none other) where
  pub rows_related : (nodes : List Node) → AllByRecursion (Keeps R first second) nodes
      → (k : ℕ) → R (row_at none first nodes k) (row_at other second nodes k)
  rows_related [] all k =
      subst (λ a. R a (row_at other second [] k)) (sym (get_or_past [] k none (omega arith)))
      (subst (λ b. R none b) (sym (get_or_past [] k other (omega arith))) start)
  rows_related (node ∷ older) all k =
      let earlier = rows_related older all.1 in
      elim (cases_lt k (length older)) [
        | inl less ↦
            subst (λ a. R a (row_at other second (node ∷ older) k))
            (sym (older_same none first node older k less))
            (subst (λ b. R (row_at none first older k) b)
            (sym (older_same other second node older k less)) (earlier k))
        | inr more ↦ elim (cases_eq k (length older)) [
          | inl same ↦
              subst (λ n. R (row_at none first (node ∷ older) n)
              (row_at other second (node ∷ older) n)) (sym same)
              (subst (λ a. R a (row_at other second (node ∷ older) (length older)))
              (sym (newest none first node older))
              (subst (λ b. R (first (row_at none first older) node) b)
              (sym (newest other second node older))
              (all.0 (row_at none first older) (row_at other second older) earlier)))
          | inr apart ↦
              let far : length older < k = omega arith in
              subst (λ a. R a (row_at other second (node ∷ older) k))
              (sym (beyond none first node older k far))
              (subst (λ b. R none b) (sym (beyond other second node older k far)) start)
        ]
      ]

-- ---- a node by its number

pub reads_more : (n m : ℕ) (node : Node) → n ≤ m → ReadsBelow n node → ReadsBelow m node
reads_more n m (Literal l) h reads = tt
reads_more n m (Both a b) h reads =
    let left = reads.0 in let right = reads.1 in (omega arith, omega arith)
reads_more n m (Either a b) h reads =
    let left = reads.0 in let right = reads.1 in (omega arith, omega arith)

module _ (none : Node) where
  numbered_older : (node : Node) (older : List Node) (k : ℕ) → k < length older
      → get_or (reverse (node ∷ older)) k none ≡ get_or (reverse older) k none
  numbered_older node older k h =
      let long = length-reverse older in
      ap (λ xs. get_or xs k none) (reverse_more node older)
      ∙ get_or_append_left (reverse older) (node ∷ []) none k (omega arith)

  numbered_newest : (node : Node) (older : List Node)
      → get_or (reverse (node ∷ older)) (length older) none ≡ node
  numbered_newest node older =
      ap (λ xs. get_or xs (length older) none) (reverse_more node older)
      ∙ get_or_push (reverse older) node none (length older) (length-reverse older)

  pub scoped_at : (nodes : List Node) (k : ℕ) → IsScoped nodes → k < length nodes
      → ReadsBelow k (get_or (reverse nodes) k none)
  scoped_at [] k is h = absurd (omega arith)
  scoped_at (node ∷ older) k is h =
      elim (below_or_last k (length older) (omega arith)) [
        | inl less ↦
            subst (ReadsBelow k) (sym (numbered_older node older k less))
            (scoped_at older k is.0 less)
        | inr same ↦
            subst (λ n. ReadsBelow n (get_or (reverse (node ∷ older)) n none)) (sym same)
            (subst (ReadsBelow (length older)) (sym (numbered_newest node older)) is.1)
      ]

  module _ {A : Type 0} (start : A) (step : (ℕ → A) → Node → A)
      (congruent : (f g : ℕ → A) (node : Node) (n : ℕ) → ReadsBelow n node
      → ((k : ℕ) → k < n → f k ≡ g k) → step f node ≡ step g node) where
    pub at_number : (nodes : List Node) (k : ℕ) → IsScoped nodes → k < length nodes
        → row_at start step nodes k
        ≡ step (row_at start step nodes) (get_or (reverse nodes) k none)
    at_number [] k is h = absurd (omega arith)
    at_number (node ∷ older) k is h =
        elim (below_or_last k (length older) (omega arith)) [
          | inl less ↦
              older_same start step node older k less ∙ at_number older k is.0 less
              ∙ congruent (row_at start step older) (row_at start step (node ∷ older))
              (get_or (reverse older) k none) k (scoped_at older k is.0 less)
              (λ j below. sym (older_same start step node older j (omega arith)))
              ∙ ap (step (row_at start step (node ∷ older)))
              (sym (numbered_older node older k less))
          | inr same ↦
              ap (row_at start step (node ∷ older)) same ∙ newest start step node older
              ∙ congruent (row_at start step older) (row_at start step (node ∷ older)) node
              (length older) is.1 (λ j below. sym (older_same start step node older j below))
              ∙ ap (step (row_at start step (node ∷ older)))
              (sym (ap (λ n. get_or (reverse (node ∷ older)) n none) same
              ∙ numbered_newest node older))
        ]
