-- A statement for each of so many cells, the first made and the others left, and an initializer for
-- each.
use Rattle.std.proofs.Common.{◌≡◌, ◌<◌, ◌≤◌, ℕ, suc, ◌+◌, ◌-◌, List, [], ◌∷◌, ◌++◌, length, get_or}
use Rattle.std.proofs.Common.{drop, pos, ap, sym, ◌∙◌, arith, append_assoc, append-nil}
use Rattle.std.proofs.lemmas.List.{at_drop_more, at_drop_all}
use Rattle.cpa_ints.specs.declared.integers.IntType.{IntType}
use Rattle.cpa_expr.specs.declared.tree.Expr.TheVariants.{Const}
use Rattle.c_types_rules.specs.declared.typed.TypedExpression.{TypedExpression}
use Rattle.c_core_rules.specs.Values.{cell_at}
use Rattle.cpa_model_trees.specs.Numbering.{Trees}
use Rattle.c_core_rules.specs.Trees.{input, set}
use Rattle.c_core_rules.specs.Cells.{Taken, Made}
use Rattle.c_core_rules.specs.Expressions.{Frames}
use Rattle.c_core_rules.specs.Statements.{inputs, zeros, initialized, initialized_each}
use Rattle.c_lower_trees.specs.Items.{in_behind}
use Rattle.c_lower_trees.proofs.InOrder.{in_more, in_none}

pub input_more : (origin : ℕ) (before : Trees) (first count i : ℕ) → i < count →
    before ++ inputs origin (first + i) (count - i)
    ≡ (before ++ input origin (first + i) ∷ []) ++ inputs origin (first + (i + 1)) (count - (i + 1))
input_more origin before first count i h =
    let e : count - i ≡ suc (count - (i + 1)) = omega arith in
    let n : first + i + 1 ≡ first + (i + 1) = omega arith in
    ap (λ k. before ++ inputs origin (first + i) k) e
    ∙ ap (λ k. before ++ input origin (first + i) ∷ inputs origin k (count - (i + 1))) n
    ∙ sym (append_assoc before (input origin (first + i) ∷ [])
    (inputs origin (first + (i + 1)) (count - (i + 1))))

pub input_none : (origin : ℕ) (before : Trees) (first count i : ℕ) → count ≤ i →
    before ++ inputs origin (first + i) (count - i) ≡ before
input_none origin before first count i h =
    let e : count - i ≡ 0 = omega arith in
    ap (λ k. before ++ inputs origin (first + i) k) e ∙ append-nil before

pub zero_more : (origin : ℕ) (t : IntType) (before : Trees) (first count i : ℕ) → i < count →
    before ++ zeros origin t (first + i) (count - i)
    ≡ (before ++ set origin (cell_at t (first + i)) (Const t (pos 0)) ∷ [])
    ++ zeros origin t (first + (i + 1)) (count - (i + 1))
zero_more origin t before first count i h =
    let e : count - i ≡ suc (count - (i + 1)) = omega arith in
    let n : first + i + 1 ≡ first + (i + 1) = omega arith in
    let one = set origin (cell_at t (first + i)) (Const t (pos 0)) in
    ap (λ k. before ++ zeros origin t (first + i) k) e
    ∙ ap (λ k. before ++ one ∷ zeros origin t k (count - (i + 1))) n
    ∙ sym (append_assoc before (one ∷ []) (zeros origin t (first + (i + 1)) (count - (i + 1))))

pub zero_none : (origin : ℕ) (t : IntType) (before : Trees) (first count i : ℕ) → count ≤ i →
    before ++ zeros origin t (first + i) (count - i) ≡ before
zero_none origin t before first count i h =
    let e : count - i ≡ 0 = omega arith in
    ap (λ k. before ++ zeros origin t (first + i) k) e ∙ append-nil before

-- a write behind statements that stand behind others
pub behind_both : (front before behind : Trees) →
    (front ++ before) ++ behind ≡ front ++ (before ++ behind)
behind_both front before behind = append_assoc front before behind

-- a loop over initializers: what is left makes what the whole makes
pub set_kept : (origin : ℕ) (frames : Frames) (t : IntType) (cell next : ℕ)
    (before after : Trees)
    (xs : List TypedExpression) (i : ℕ) (x : TypedExpression) (taken later : Taken)
    (whole : Made Trees) → i < length xs → x ≡ get_or xs i x → next ≡ cell + 1 →
    later ≡ (initialized origin frames (cell_at t cell) x taken).taken →
    after ≡ before ++ (initialized origin frames (cell_at t cell) x taken).made →
    in_behind before (initialized_each origin frames t cell (drop i xs)) taken ≡ whole →
    in_behind after (initialized_each origin frames t next (drop (i + 1) xs)) later ≡ whole
set_kept origin frames t cell next before after xs i x taken later whole h is n c a w =
    let m = initialized origin frames (cell_at t cell) x taken in
    let rest = initialized_each origin frames t (cell + 1) (drop (i + 1) xs) in
    ap (λ j. in_behind after (initialized_each origin frames t j (drop (i + 1) xs)) later) n
    ∙ ap (λ s. in_behind s rest later) a
    ∙ ap (in_behind (before ++ m.made) rest) c
    ∙ sym (in_more before (initialized origin frames (cell_at t cell) x) rest taken)
    ∙ ap (λ y. in_behind before (initialized origin frames (cell_at t cell) y ∷ rest) taken) is
    ∙ sym (at_drop_more (λ ys. in_behind before (initialized_each origin frames t cell ys) taken) xs
    i x h)
    ∙ w

pub set_done : (origin : ℕ) (frames : Frames) (t : IntType) (cell : ℕ) (before : Trees)
    (xs : List TypedExpression) (i : ℕ) (taken : Taken) (whole : Made Trees) → length xs ≤ i →
    in_behind before (initialized_each origin frames t cell (drop i xs)) taken ≡ whole →
    (taken ≡ whole.taken) × (before ≡ whole.made)
set_done origin frames t cell before xs i taken whole h w =
    let e = sym (at_drop_all (λ ys. in_behind before (initialized_each origin frames t cell ys)
    taken) xs i
    h ∙ in_none before taken) ∙ w in
    (ap (λ (m : Made Trees). m.taken) e, ap (λ (m : Made Trees). m.made) e)
