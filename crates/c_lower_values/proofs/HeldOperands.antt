-- Operands, the first held or not and the others left (`hold_kept`), and their parts.
use Rattle.std.proofs.Common.{◌≡◌, ℕ, ◌+◌, ◌-◌, ◌==◌, Bool, true, false, List, [], ◌∷◌, ◌++◌, refl}
use Rattle.std.proofs.Common.{ap, sym, ◌∙◌, arith, append_assoc, not, if◌then◌else◌}
use Rattle.std.proofs.lemmas.Bool.Decides.{nat_tests}
use Rattle.cpa_expr.specs.declared.tree.Expr.{Expr}
use Rattle.c_core_rules.specs.declared.tree.Valued.{Valued}
use Rattle.cpa_model_trees.specs.Numbering.{Trees}
use Rattle.c_core_rules.specs.Cells.{Taken, Made, Rule, gives}
use Rattle.c_core_rules.specs.Acts.{is_pure, held, hold_all, have_statements, statements_of}
use Rattle.c_core_rules.specs.Acts.{values_of}
use Rattle.c_lower_values.specs.Held.{full_count, left_behind, held_where}

-- none has statements where their number is 0
full_have : (vs : List Valued) → (full_count vs == 0) ≡ not (have_statements vs)
full_have [] = refl
full_have (v ∷ vs) = elim (is_pure v) as (λ b.
    (elim b [ true ↦ full_count vs | false ↦ full_count vs + 1 ] == 0)
    ≡ not (elim b [ true ↦ have_statements vs | false ↦ true ])) [
      | true ↦ full_have vs
      | false ↦ grind (arith, nat_tests)
    ]

chosen_either : (origin : ℕ) (b : Bool) (v : Valued) →
    (if b then held origin v else gives v) ≡ (if not b then gives v else held origin v)
chosen_either origin true v = refl
chosen_either origin false v = refl

held_full : (origin : ℕ) (v : Valued) (vs : List Valued) →
    (if have_statements vs then held origin v else gives v) ≡ held_where origin (full_count vs) v
held_full origin v vs =
    chosen_either origin (have_statements vs) v
    ∙ ap (λ (b : Bool). if b then gives v else held origin v) (sym (full_have vs))

hold_more : (origin : ℕ) (v : Valued) (vs : List Valued) (taken : Taken) →
    hold_all origin (v ∷ vs) taken
    ≡ (let m = held_where origin (full_count vs) v taken in
    let n = hold_all origin vs m.taken in
    record { taken = n.taken; made = m.made ∷ n.made })
hold_more origin v vs taken =
    ap (λ (rule : Rule Valued).
    let m = rule taken in
    let n = hold_all origin vs m.taken in
    record { taken = n.taken; made = m.made ∷ n.made })
    (held_full origin v vs)

less_one : (b : Bool) (n : ℕ) →
    (if b then elim b [ true ↦ n | false ↦ n + 1 ] else elim b [ true ↦ n | false ↦ n + 1 ] - 1)
    ≡ n
less_one true n = refl
less_one false n = omega arith

pub hold_kept : (origin : ℕ) (kept new vs xs : List Valued) (v y : Valued) (left less : ℕ)
    (taken later : Taken) (whole : Made (List Valued)) → xs ≡ v ∷ vs → left ≡ full_count xs →
    less ≡ left_behind left v → later ≡ (held_where origin less v taken).taken →
    y ≡ (held_where origin less v taken).made → new ≡ kept ++ y ∷ [] →
    (hold_all origin xs taken).taken ≡ whole.taken →
    kept ++ (hold_all origin xs taken).made ≡ whole.made →
    (less ≡ full_count vs) × ((hold_all origin vs later).taken ≡ whole.taken)
    × (new ++ (hold_all origin vs later).made ≡ whole.made)
hold_kept origin kept new vs xs v y left less taken later whole x l b t m n c w =
    let e : less ≡ full_count vs =
    b ∙ ap (λ k. left_behind k v) (l ∙ ap full_count x) ∙ less_one (is_pure v) (full_count vs) in
    let same : held_where origin less v taken ≡ held_where origin (full_count vs) v taken =
    ap (λ k. held_where origin k v taken) e in
    let one = held_where origin (full_count vs) v taken in
    let s : hold_all origin xs taken ≡ (let n = hold_all origin vs one.taken in
    record { taken = n.taken; made = one.made ∷ n.made }) =
    ap (λ ys. hold_all origin ys taken) x ∙ hold_more origin v vs taken in
    let g : later ≡ one.taken = t ∙ ap (λ (k : Made Valued). k.taken) same in
    let u : y ≡ one.made = m ∙ ap (λ (k : Made Valued). k.made) same in (
      e,
      ap (λ k. (hold_all origin vs k).taken) g
          ∙ sym (ap (λ (k : Made (List Valued)). k.taken) s) ∙ c,
      ap (λ ys. ys ++ (hold_all origin vs later).made) n
          ∙ append_assoc kept (y ∷ []) (hold_all origin vs later).made
          ∙ ap (λ k. kept ++ (y ∷ (hold_all origin vs k).made)) g
          ∙ ap (λ k. kept ++ (k ∷ (hold_all origin vs one.taken).made)) u
          ∙ ap (λ k. kept ++ k) (sym (ap (λ (k : Made (List Valued)). k.made) s)) ∙ w,
    )

pub divided_kept : (statements more : Trees) (values new : List Expr) (vs xs : List Valued)
    (v : Valued) (trees : Trees) (all : List Expr) → xs ≡ v ∷ vs →
    more ≡ statements ++ v.statements → new ≡ values ++ v.value ∷ [] →
    statements ++ statements_of xs ≡ trees → values ++ values_of xs ≡ all →
    (more ++ statements_of vs ≡ trees) × (new ++ values_of vs ≡ all)
divided_kept statements more values new vs xs v trees all x m n s w = (
  ap (λ ts. ts ++ statements_of vs) m
      ∙ append_assoc statements v.statements (statements_of vs)
      ∙ sym (ap (λ ys. statements ++ statements_of ys) x) ∙ s,
  ap (λ ts. ts ++ values_of vs) n ∙ append_assoc values (v.value ∷ []) (values_of vs)
      ∙ sym (ap (λ ys. values ++ values_of ys) x) ∙ w,
)
