-- What is known of an expression is true of its value, and nothing is unknown where each cell is
-- known.
use Rattle.std.proofs.Common.{◌≡◌, ℕ, ◌+◌, ◌<◌, ℤ, pos, negsuc, Bool, true, false, List, [], ◌∷◌}
use Rattle.std.proofs.Common.{refl, sym, ap, subst, arith, map, length}
use Rattle.std.specs.Prelude.{zero, suc, nat_lt, not, Option, None, Some, Ok, Err, slice_get}
use Rattle.std.specs.Prelude.{option_map, option_and_then, if◌then◌else◌, ⊤}
use Rattle.std.specs.List.{slice_index_or}
use Rattle.std.proofs.lemmas.Bool.{cond_both}
use Rattle.std.proofs.lemmas.Bool.Decides.{Decides-ltb}
use Rattle.std.proofs.lemmas.Option.{slice_get_within}
use Rattle.cpa_ints.specs.declared.integers.IntType.{IntType}
use Rattle.cpa_ints.specs.Wrapping.{wrapped}
use Rattle.cpa_expr.specs.declared.tree.Expr.{Expr, roll-Expr}
use Rattle.cpa_expr.specs.declared.tree.Expr.TheOpen.{Expr-F}
use Rattle.cpa_expr.specs.declared.tree.Expr.TheFolds.{map-Expr, fold-roll-Expr}
use Rattle.cpa_expr.specs.Shape.{OfParts, IsTyped, IsTypedHere}
use Rattle.cpa_expr.specs.Values.{value_of, value_step, cell_at, un_value, bin_value, compares}
use Rattle.cpa_expr.specs.Values.{truth, is_nonzero, truth_of}
use Rattle.cpa_expr.specs.lemmas.Layers.{value_rolled, values_in}
use Rattle.cpa_expr.specs.lemmas.Parts.{by_parts, every_rolled}
use Rattle.cpa_value_changes.specs.declared.known.Gap.TheVariants.{Unknown, Trap}
use Rattle.cpa_value_changes.specs.KnownValues.{Known, known_then, known_truth, known_at, or_trap}
use Rattle.cpa_value_changes.specs.KnownValues.{or_unknown, known_step, known_value}

-- what is known is true of the value
abbrev pub Agrees : Known → Option ℤ → Type 0
Agrees (Ok v) o = o ≡ Some v
Agrees (Err Trap) o = o ≡ None
Agrees (Err Unknown) o = ⊤

-- each known value of a cell is the store's
abbrev pub AgreeCells : List (Option ℤ) → List ℤ → Type 0
AgreeCells cells values = (cell : ℕ) (v : ℤ) → slice_index_or cells cell None ≡ Some v
    → slice_get values cell ≡ Some v

agrees_then : (f : ℤ → Known) (g : ℤ → Option ℤ) → ((a : ℤ) → Agrees (f a) (g a))
    → (k : Known) (o : Option ℤ) → Agrees k o
    → Agrees (known_then f k) (option_and_then g o)
agrees_then f g same (Ok v) o is = subst (λ x. Agrees (f v) (option_and_then g x)) (sym is) (same v)
agrees_then f g same (Err Trap) o is = ap (option_and_then g) is
agrees_then f g same (Err Unknown) o is = tt

agrees_map : (f : ℤ → ℤ) (k : Known) (o : Option ℤ) → Agrees k o
    → Agrees (known_then (λ a. Ok (f a)) k) (option_map f o)
agrees_map f (Ok v) o is = ap (option_map f) is
agrees_map f (Err Trap) o is = ap (option_map f) is
agrees_map f (Err Unknown) o is = tt

agrees_if : (b : Bool) (k l : Known) (o p : Option ℤ) → Agrees k o → Agrees l p
    → Agrees (if b then k else l) (if b then o else p)
agrees_if true k l o p first second = first
agrees_if false k l o p first second = second

agrees_or_trap : (o : Option ℤ) → Agrees (or_trap o) o
agrees_or_trap None = refl
agrees_or_trap (Some v) = refl

agrees_or_unknown : (o p : Option ℤ) → ((v : ℤ) → o ≡ Some v → p ≡ Some v) → Agrees (or_unknown o) p
agrees_or_unknown None p same = tt
agrees_or_unknown (Some v) p same = same v refl

agrees_at : (cells : List (Option ℤ)) (values : List ℤ) (base len : ℕ) → AgreeCells cells values
    → (i : ℤ)
    → Agrees (known_at cells base len i) (cell_at values base len i)
agrees_at cells values base len agree (pos i) =
    agrees_if (nat_lt i len) (or_unknown (slice_index_or cells (base + i) None)) (Err Trap)
    (slice_get values (base + i)) None
    (agrees_or_unknown (slice_index_or cells (base + i) None) (slice_get values (base + i))
    (agree (base + i))) refl
agrees_at cells values base len agree (negsuc i) = refl

agrees_node : (cells : List (Option ℤ)) (values : List ℤ) → AgreeCells cells values
    → (x : Expr-F Expr)
    → OfParts (λ e. Agrees (known_value e cells) (value_of e values)) x
    → Agrees (known_step cells (map-Expr Expr Known (λ e. known_value e cells) x))
    (value_step values (values_in values x))
agrees_node cells values agree (Expr-F.Const t n) h = refl
agrees_node cells values agree (Expr-F.Read t base len index) h =
    agrees_then (known_at cells base len) (cell_at values base len)
    (agrees_at cells values base len agree) (known_value index cells) (value_of index values) h.0
agrees_node cells values agree (Expr-F.Un o t arg) h =
    agrees_map (un_value o t) (known_value arg cells) (value_of arg values) h.0
agrees_node cells values agree (Expr-F.Bin o t left right) h =
    agrees_then
    (λ a. known_then (λ b. or_trap (bin_value o t a b)) (known_value right cells))
    (λ a. option_and_then (λ b. bin_value o t a b) (value_of right values))
    (λ a. agrees_then (λ b. or_trap (bin_value o t a b)) (λ b. bin_value o t a b)
    (λ b. agrees_or_trap (bin_value o t a b))
    (known_value right cells) (value_of right values) (h.1).0)
    (known_value left cells) (value_of left values) h.0
agrees_node cells values agree (Expr-F.Cmp o t left right) h =
    agrees_then
    (λ a. known_then (λ b. Ok (truth (compares o a b))) (known_value right cells))
    (λ a. option_and_then (λ b. Some (truth (compares o a b))) (value_of right values))
    (λ a. agrees_then (λ b. Ok (truth (compares o a b))) (λ b. Some (truth (compares o a b)))
    (λ b. refl)
    (known_value right cells) (value_of right values) (h.1).0)
    (known_value left cells) (value_of left values) h.0
agrees_node cells values agree (Expr-F.Cast t arg) h =
    agrees_map (wrapped t) (known_value arg cells) (value_of arg values) h.0
agrees_node cells values agree (Expr-F.And left right) h =
    agrees_then
    (λ a. if is_nonzero a then known_truth (known_value right cells) else Ok (pos 0))
    (λ a. if is_nonzero a then truth_of (value_of right values) else Some (pos 0))
    (λ a. agrees_if (is_nonzero a) (known_truth (known_value right cells)) (Ok (pos 0))
    (truth_of (value_of right values)) (Some (pos 0))
    (agrees_map (λ b. truth (is_nonzero b)) (known_value right cells) (value_of right values)
    (h.1).0) refl)
    (known_value left cells) (value_of left values) h.0
agrees_node cells values agree (Expr-F.Or left right) h =
    agrees_then
    (λ a. if is_nonzero a then Ok (pos 1) else known_truth (known_value right cells))
    (λ a. if is_nonzero a then Some (pos 1) else truth_of (value_of right values))
    (λ a. agrees_if (is_nonzero a) (Ok (pos 1)) (known_truth (known_value right cells))
    (Some (pos 1)) (truth_of (value_of right values))
    refl (agrees_map (λ b. truth (is_nonzero b)) (known_value right cells) (value_of right values)
    (h.1).0))
    (known_value left cells) (value_of left values) h.0
agrees_node cells values agree (Expr-F.Not arg) h =
    agrees_map (λ a. truth (not (is_nonzero a))) (known_value arg cells) (value_of arg values) h.0
agrees_node cells values agree (Expr-F.Cond t test first second) h =
    agrees_then
    (λ a. if is_nonzero a then known_value first cells else known_value second cells)
    (λ a. if is_nonzero a then value_of first values else value_of second values)
    (λ a. agrees_if (is_nonzero a) (known_value first cells) (known_value second cells)
    (value_of first values) (value_of second values)
    (h.1).0 ((h.1).1).0)
    (known_value test cells) (value_of test values) h.0

-- what is known of an expression is true of its value on each store that has the known values
pub known_agrees : (cells : List (Option ℤ)) (values : List ℤ) → AgreeCells cells values
    → (e : Expr) → Agrees (known_value e cells) (value_of e values)
known_agrees cells values agree = by_parts (λ e. Agrees (known_value e cells) (value_of e values))
    (λ x h.
    subst (λ k. Agrees k (value_of (roll-Expr x) values))
    (sym (fold-roll-Expr Known (known_step cells) x))
    (subst (λ o. Agrees (known_step cells (map-Expr Expr Known (λ e. known_value e cells) x)) o)
    (sym (value_rolled values x))
    (agrees_node cells values agree x h)))

-- it is known whether there is a value
abbrev pub IsSettled : Known → Type 0
IsSettled (Ok v) = ⊤
IsSettled (Err Trap) = ⊤
IsSettled (Err Unknown) = ⊥

settled_then : (f : ℤ → Known) → ((a : ℤ) → IsSettled (f a)) → (k : Known) → IsSettled k
    → IsSettled (known_then f k)
settled_then f each (Ok v) is = each v
settled_then f each (Err Trap) is = tt
settled_then f each (Err Unknown) is = absurd is

settled_if : (b : Bool) (k l : Known) → IsSettled k → IsSettled l → IsSettled (if b then k else l)
settled_if true k l first second = first
settled_if false k l first second = second

settled_or_trap : (o : Option ℤ) → IsSettled (or_trap o)
settled_or_trap None = tt
settled_or_trap (Some v) = tt

settled_cell : (values : List ℤ) (cell : ℕ) → cell < length values
    → IsSettled (or_unknown (slice_index_or (map Some values) cell None))
settled_cell [] cell inside = absurd (omega arith)
settled_cell (v ∷ values) zero inside = tt
settled_cell (v ∷ values) (suc cell) inside = settled_cell values cell (omega arith)

settled_at : (values : List ℤ) (base len : ℕ) → ((i : ℕ) → i < len → base + i < length values)
    → (i : ℤ) → IsSettled (known_at (map Some values) base len i)
settled_at values base len inside (pos i) =
    cond_both (nat_lt i len) (or_unknown (slice_index_or (map Some values) (base + i) None))
    (Err Trap) IsSettled
    (λ less. settled_cell values (base + i) (inside i ((Decides-ltb i len).0 less))) (λ _. tt)
settled_at values base len inside (negsuc i) = tt

settled_node : (types : List IntType) (values : List ℤ) → length types ≡ length values
    → (x : Expr-F Expr)
    → IsTypedHere types x → OfParts (λ e. IsSettled (known_value e (map Some values))) x
    → IsSettled (known_step (map Some values)
    (map-Expr Expr Known (λ e. known_value e (map Some values)) x))
settled_node types values long (Expr-F.Const t n) typed h = tt
settled_node types values long (Expr-F.Read t base len index) typed h =
    settled_then (known_at (map Some values) base len)
    (settled_at values base len (λ i less. let inside : base + i < length types =
    slice_get_within types (base + i) t (typed.1 i less) in omega (arith, long)))
    (known_value index (map Some values)) h.0
settled_node types values long (Expr-F.Un o t arg) typed h =
    settled_then (λ a. Ok (un_value o t a)) (λ _. tt) (known_value arg (map Some values)) h.0
settled_node types values long (Expr-F.Bin o t left right) typed h =
    settled_then (λ a. known_then (λ b. or_trap (bin_value o t a b))
    (known_value right (map Some values)))
    (λ a. settled_then (λ b. or_trap (bin_value o t a b)) (λ b. settled_or_trap (bin_value o t a b))
    (known_value right (map Some values)) (h.1).0)
    (known_value left (map Some values)) h.0
settled_node types values long (Expr-F.Cmp o t left right) typed h =
    settled_then (λ a. known_then (λ b. Ok (truth (compares o a b)))
    (known_value right (map Some values)))
    (λ a. settled_then (λ b. Ok (truth (compares o a b))) (λ b. tt)
    (known_value right (map Some values)) (h.1).0)
    (known_value left (map Some values)) h.0
settled_node types values long (Expr-F.Cast t arg) typed h =
    settled_then (λ a. Ok (wrapped t a)) (λ _. tt) (known_value arg (map Some values)) h.0
settled_node types values long (Expr-F.And left right) typed h =
    settled_then (λ a. if is_nonzero a then known_truth
    (known_value right (map Some values)) else Ok (pos 0))
    (λ a. settled_if (is_nonzero a) (known_truth (known_value right (map Some values))) (Ok (pos 0))
    (settled_then (λ b. Ok (truth (is_nonzero b))) (λ _. tt) (known_value right (map Some values))
    (h.1).0) tt)
    (known_value left (map Some values)) h.0
settled_node types values long (Expr-F.Or left right) typed h =
    settled_then (λ a. if is_nonzero a then Ok (pos 1) else known_truth
    (known_value right (map Some values)))
    (λ a. settled_if (is_nonzero a) (Ok (pos 1)) (known_truth (known_value right (map Some values)))
    tt (settled_then (λ b. Ok (truth (is_nonzero b))) (λ _. tt)
    (known_value right (map Some values)) (h.1).0))
    (known_value left (map Some values)) h.0
settled_node types values long (Expr-F.Not arg) typed h =
    settled_then (λ a. Ok (truth (not (is_nonzero a)))) (λ _. tt)
    (known_value arg (map Some values)) h.0
settled_node types values long (Expr-F.Cond t test first second) typed h =
    settled_then (λ a. if is_nonzero a then known_value first
    (map Some values) else known_value second (map Some values))
    (λ a. settled_if (is_nonzero a) (known_value first (map Some values))
    (known_value second (map Some values)) (h.1).0 ((h.1).1).0)
    (known_value test (map Some values)) h.0

-- where each cell is known, so is whether a well-typed expression has a value
pub known_settles : (types : List IntType) (values : List ℤ) → length types ≡ length values
    → (e : Expr) → IsTyped types e
    → IsSettled (known_value e (map Some values))
known_settles types values long = by_parts
    (λ e. IsTyped types e → IsSettled (known_value e (map Some values))) (λ x h typed.
    let split = every_rolled (IsTypedHere types) x typed in
    subst IsSettled (sym (fold-roll-Expr Known (known_step (map Some values)) x))
    (settled_node types values long x split.0 (parts_of_typed types values x h split.1)))
  where
    parts_of_typed : (types : List IntType) (values : List ℤ) (x : Expr-F Expr)
        → OfParts (λ e. IsTyped types e → IsSettled (known_value e (map Some values))) x
        → OfParts (IsTyped types) x → OfParts (λ e. IsSettled (known_value e (map Some values))) x
    parts_of_typed types values (Expr-F.Const t n) h typed = tt
    parts_of_typed types values (Expr-F.Read t base len index) h typed = (h.0 typed.0, tt)
    parts_of_typed types values (Expr-F.Un o t arg) h typed = (h.0 typed.0, tt)
    parts_of_typed types values (Expr-F.Bin o t left right) h typed =
        (h.0 typed.0, ((h.1).0 (typed.1).0, tt))
    parts_of_typed types values (Expr-F.Cmp o t left right) h typed =
        (h.0 typed.0, ((h.1).0 (typed.1).0, tt))
    parts_of_typed types values (Expr-F.Cast t arg) h typed = (h.0 typed.0, tt)
    parts_of_typed types values (Expr-F.And left right) h typed =
        (h.0 typed.0, ((h.1).0 (typed.1).0, tt))
    parts_of_typed types values (Expr-F.Or left right) h typed =
        (h.0 typed.0, ((h.1).0 (typed.1).0, tt))
    parts_of_typed types values (Expr-F.Not arg) h typed = (h.0 typed.0, tt)
    parts_of_typed types values (Expr-F.Cond t test first second) h typed =
        (h.0 typed.0, ((h.1).0 (typed.1).0, (((h.1).1).0 ((typed.1).1).0, tt)))
