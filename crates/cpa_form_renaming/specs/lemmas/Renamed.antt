-- A renamed expression means at the places what the expression means at the cells.
use Rattle.std.proofs.Common.{◌≡◌, ℕ, ◌+◌, ◌-◌, ◌<◌, ◌≤◌, nat_lt, nat_le, ℤ, pos, negsuc}
use Rattle.std.proofs.Common.{Bool, true, false}
use Rattle.std.proofs.Common.{◌&&◌, ◌||◌, IsTrue, List, [], ◌∷◌, map, length, Option, None, Some}
use Rattle.std.proofs.Common.{slice_get, option_map, option_and_then, refl, sym, ap, ◌∙◌, subst}
use Rattle.std.proofs.Common.{arith}
use Rattle.std.specs.Prelude.{if◌then◌else◌}
use Rattle.std.specs.List.{AllByRecursion, list_all, list_any}
use Rattle.std.proofs.lemmas.Bool.{and_parts}
use Rattle.std.proofs.lemmas.Bool.Decides.{nat_tests}
use Rattle.std.proofs.lemmas.Option.{slice_get_within}
use Rattle.cpa_ints.specs.declared.integers.IntType.{IntType}
use Rattle.cpa_expr.specs.declared.tree.Expr.{Expr, out-Expr, roll-Expr}
use Rattle.cpa_expr.specs.declared.tree.Expr.TheViews.{roll-out-Expr}
use Rattle.cpa_expr.specs.declared.tree.Expr.TheOpen.{Expr-F}
use Rattle.cpa_expr.specs.declared.tree.Expr.TheFolds.{map-Expr, fold-roll-Expr}
use Rattle.cpa_expr.specs.Shape.{parts, OfParts, AreCells, node_type, type_of, greatest}
use Rattle.cpa_expr.specs.Shape.{height, IsTypedHere, IsTyped}
use Rattle.cpa_expr.specs.Values.{un_value, bin_value, compares, truth, cell_at, evaluated}
use Rattle.cpa_expr.specs.Values.{value_step, value_of}
use Rattle.cpa_expr.specs.Cells.{is_within, reads_here, may_read}
use Rattle.cpa_expr.specs.lemmas.Parts.{by_parts, every_rolled, every_of_parts, parts_mapped}
use Rattle.cpa_expr.specs.lemmas.Layers.{values_in, value_rolled, type_rolled, height_rolled}
use Rattle.cpa_expr.specs.lemmas.CellsRead.{same_read, both_same, or_left, or_right}
use Rattle.cpa_form_renaming.specs.declared.places.Place.{Place}
use Rattle.cpa_form_renaming.specs.Places.{number_at, stand_together, Shows}
use Rattle.cpa_form_renaming.specs.Renaming.{moved_node, renamed, is_whole_here, whole_step}
use Rattle.cpa_form_renaming.specs.Renaming.{is_whole}
use Rattle.cpa_form_renaming.specs.Renaming.{IsReadable}
use Rattle.cpa_form_renaming.specs.lemmas.Together.{together_at}
use Rattle.cpa_form_renaming.specs.lemmas.Nodes.{applied, all_mapped, all_true, reads_of}

-- ---- at a node

module _ (places : List Place) where
  abbrev new : Expr → Expr
  new = renamed places

  abbrev news : Expr-F Expr → Expr-F Expr
  news = map-Expr Expr Expr new

  renamed_rolled : (x : Expr-F Expr) → new (roll-Expr x) ≡ roll-Expr (moved_node places (news x))
  renamed_rolled x = fold-roll-Expr Expr (λ node. roll-Expr (moved_node places node)) x

  pub renamed_node : (e : Expr) → new e ≡ roll-Expr (moved_node places (news (out-Expr e)))
  renamed_node e = ap new (sym (roll-out-Expr e)) ∙ renamed_rolled (out-Expr e)

  parts_moved : {A : Type 0} (x : Expr-F A) → parts (moved_node places x) ≡ parts x
  parts_moved (Expr-F.Const t n) = refl
  parts_moved (Expr-F.Read t base len index) = refl
  parts_moved (Expr-F.Un o t arg) = refl
  parts_moved (Expr-F.Bin o t left right) = refl
  parts_moved (Expr-F.Cmp o t left right) = refl
  parts_moved (Expr-F.Cast t arg) = refl
  parts_moved (Expr-F.And left right) = refl
  parts_moved (Expr-F.Or left right) = refl
  parts_moved (Expr-F.Not arg) = refl
  parts_moved (Expr-F.Cond t test first second) = refl

  -- the parts of the new node are the parts, renamed
  new_parts : (x : Expr-F Expr) → parts (moved_node places (news x)) ≡ map new (parts x)
  new_parts x = parts_moved (news x) ∙ parts_mapped Expr new x

  -- ---- the type and the height

  types_moved : (x : Expr-F Expr) → node_type (map-Expr Expr IntType type_of (moved_node places
      (news x))) ≡ node_type (map-Expr Expr IntType type_of x)
  types_moved (Expr-F.Const t n) = refl
  types_moved (Expr-F.Read t base len index) = refl
  types_moved (Expr-F.Un o t arg) = refl
  types_moved (Expr-F.Bin o t left right) = refl
  types_moved (Expr-F.Cmp o t left right) = refl
  types_moved (Expr-F.Cast t arg) = refl
  types_moved (Expr-F.And left right) = refl
  types_moved (Expr-F.Or left right) = refl
  types_moved (Expr-F.Not arg) = refl
  types_moved (Expr-F.Cond t test first second) = refl

  pub same_type : (e : Expr) → type_of (new e) ≡ type_of e
  same_type = by_parts (λ e. type_of (new e) ≡ type_of e) (λ x h.
      ap type_of (renamed_rolled x) ∙ (type_rolled (moved_node places (news x))
      ∙ (types_moved x ∙ sym (type_rolled x))))

  same_heights : (es : List Expr) → AllByRecursion (λ e. height (new e) ≡ height e) es
      → map height (map new es) ≡ map height es
  same_heights [] h = refl
  same_heights (e ∷ es) h = ap (λ n. n ∷ map height (map new es)) h.0
      ∙ ap (λ ns. height e ∷ ns) (same_heights es h.1)

  height_of : (x : Expr-F Expr) (es : List Expr) → parts x ≡ es
      → height (roll-Expr x) ≡ 1 + greatest (map height es)
  height_of x es is =
      height_rolled x ∙ ap (λ ns. 1 + greatest ns) (parts_mapped ℕ height x ∙ ap (map height) is)

  pub same_height : (e : Expr) → height (new e) ≡ height e
  same_height = by_parts (λ e. height (new e) ≡ height e) (λ x h.
      ap height (renamed_rolled x)
      ∙ (height_of (moved_node places (news x)) (map new (parts x)) (new_parts x)
      ∙ (ap (λ ns. 1 + greatest ns) (same_heights (parts x) h)
      ∙ sym (height_of x (parts x) refl))))

  -- ---- what is readable, by nodes

  pub whole_rolled : (x : Expr-F Expr) → is_whole places (roll-Expr x)
      ≡ (is_whole_here places x && list_all (λ b. b) (map (is_whole places) (parts x)))
  whole_rolled x =
      fold-roll-Expr Bool (whole_step places) x
      ∙ (ap (λ b. b && list_all (λ c. c) (parts (map-Expr Expr Bool (is_whole places) x))) (here x)
      ∙ ap (λ bs. is_whole_here places x && list_all (λ c. c) bs)
      (parts_mapped Bool (is_whole places) x))
    where
      here : (x : Expr-F Expr) → is_whole_here places (map-Expr Expr Bool (is_whole places) x)
          ≡ is_whole_here places x
      here (Expr-F.Const t n) = refl
      here (Expr-F.Read t base len index) = refl
      here (Expr-F.Un o t arg) = refl
      here (Expr-F.Bin o t left right) = refl
      here (Expr-F.Cmp o t left right) = refl
      here (Expr-F.Cast t arg) = refl
      here (Expr-F.And left right) = refl
      here (Expr-F.Or left right) = refl
      here (Expr-F.Not arg) = refl
      here (Expr-F.Cond t test first second) = refl

  readable_parts : (types : List IntType) (es : List Expr) → AllByRecursion (IsTyped types) es
      → AllByRecursion (λ e. IsTrue (is_whole places e)) es
      → AllByRecursion (IsReadable places types) es
  readable_parts types [] h k = tt
  readable_parts types (e ∷ es) h k =
      (record { typed = h.0; whole = k.0 }, readable_parts types es h.1 k.1)

  module _ (types : List IntType) where
    -- induction on readable expressions
    by_readable : (Q : Expr → Type 0)
        → ((x : Expr-F Expr) → IsTypedHere types x → IsTrue (is_whole_here places x)
        → OfParts Q x → Q (roll-Expr x))
        → (e : Expr) → IsReadable places types e → Q e
    by_readable Q layer = by_parts (λ e. IsReadable places types e → Q e) (λ x h readable.
        let typed = every_rolled (IsTypedHere types) x readable.typed in
        let whole = and_parts (is_whole_here places x)
        (list_all (λ b. b) (map (is_whole places) (parts x)))
        (sym (whole_rolled x) ∙ readable.whole) in
        layer x typed.0 whole.0 (applied (IsReadable places types) Q (parts x) h
        (readable_parts types (parts x) typed.1 (all_true (is_whole places) (parts x) whole.1))))

    -- the item at the place of a cell of an array
    within_array : {A : Type 0} (list others : List A) (base len i : ℕ) (t : IntType)
        → length types ≡ length places → Shows places list others
        → AreCells types base len t → IsTrue (stand_together places base len) → i < len
        → slice_get list (number_at places base + i) ≡ slice_get others (base + i)
    within_array list others base len i t long shows cells whole below =
        let inside : base + i < length places = subst (λ n. base + i < n) long
        (slice_get_within types (base + i) t (cells i below)) in
        ap (slice_get list) (sym (together_at places base len i whole below))
        ∙ shows.at (base + i) inside

    -- ---- well typed

    module _ (cells : List IntType) (shows : Shows places cells types) where
      abbrev Fits : Expr → Type 0
      Fits e = IsTyped cells (new e)

      here_typed : (x : Expr-F Expr) → IsTypedHere types x → IsTrue (is_whole_here places x)
          → IsTypedHere cells (moved_node places (news x))
      here_typed (Expr-F.Const t n) here whole = here
      here_typed (Expr-F.Read t base len index) here whole = (
        here.0,
        λ i below. within_array cells types base len i t shows.long shows here.1 whole below
            ∙ here.1 i below,
      )
      here_typed (Expr-F.Un o t arg) here whole = (here.0, same_type arg ∙ here.1)
      here_typed (Expr-F.Bin o t left right) here whole = (
        here.0,
        same_type left ∙ here.1,
        λ e. same_type right ∙ here.2 e,
      )
      here_typed (Expr-F.Cmp o t left right) here whole =
          (same_type left ∙ here.0, same_type right ∙ here.1)
      here_typed (Expr-F.Cast t arg) here whole = tt
      here_typed (Expr-F.And left right) here whole = tt
      here_typed (Expr-F.Or left right) here whole = tt
      here_typed (Expr-F.Not arg) here whole = tt
      here_typed (Expr-F.Cond t test first second) here whole =
          (same_type first ∙ here.0, same_type second ∙ here.1)

      typed_layer : (x : Expr-F Expr) → IsTypedHere types x → IsTrue (is_whole_here places x)
          → OfParts Fits x → Fits (roll-Expr x)
      typed_layer x here whole h =
          subst (IsTyped cells) (sym (renamed_rolled x))
          (every_of_parts (IsTypedHere cells) (moved_node places (news x))
          (here_typed x here whole)
          (subst (AllByRecursion (IsTyped cells)) (sym (new_parts x))
          (all_mapped (IsTyped cells) new (parts x) h)))

    -- ---- the value

    module _ (values store : List ℤ) (long : length types ≡ length places)
        (shows : Shows places values store) where
      abbrev Agrees : Expr → Type 0
      Agrees e = value_of (new e) values ≡ value_of e store

      moved_cells : (base len : ℕ) (t : IntType) → AreCells types base len t
          → IsTrue (stand_together places base len) → (o : Option ℤ)
          → option_and_then (cell_at values (number_at places base) len) o
          ≡ option_and_then (cell_at store base len) o
      moved_cells base len t cells whole None = refl
      moved_cells base len t cells whole (Some (negsuc i)) = refl
      moved_cells base len t cells whole (Some (pos i)) = by (nat_lt i len) refl
        where
          by : (b : Bool) → nat_lt i len ≡ b
              → (if b then slice_get values (number_at places base + i) else None)
              ≡ (if b then slice_get store (base + i) else None)
          by false e = refl
          by true e =
              let below : i < len = grind (arith, nat_tests) in
              within_array values store base len i t long shows cells whole below

      value_layer : (x : Expr-F Expr) → IsTypedHere types x → IsTrue (is_whole_here places x)
          → OfParts Agrees x
          → value_step values (values_in values (moved_node places (news x)))
          ≡ value_step store (values_in store x)
      value_layer (Expr-F.Const t n) here whole h = refl
      value_layer (Expr-F.Read t base len index) here whole h =
          same_read values (number_at places base) len (value_of (new index) values)
          (value_of index store) h.0
          ∙ moved_cells base len t here.1 whole (value_of index store)
      value_layer (Expr-F.Un o t arg) here whole h = ap (option_map (un_value o t)) h.0
      value_layer (Expr-F.Bin o t left right) here whole h =
          both_same (Option ℤ) (evaluated (bin_value o t)) (value_of (new left) values)
          (value_of left store) (value_of (new right) values) (value_of right store) h.0 (h.1).0
      value_layer (Expr-F.Cmp o t left right) here whole h =
          both_same (Option ℤ) (evaluated (λ m n. Some (truth (compares o m n))))
          (value_of (new left) values) (value_of left store) (value_of (new right) values)
          (value_of right store) h.0 (h.1).0
      value_layer (Expr-F.Cast t arg) here whole h =
          ap (λ o. value_step values (Expr-F.Cast t o)) h.0
      value_layer (Expr-F.And left right) here whole h =
          both_same (Option ℤ) (λ p q. value_step values (Expr-F.And p q))
          (value_of (new left) values) (value_of left store) (value_of (new right) values)
          (value_of right store) h.0 (h.1).0
      value_layer (Expr-F.Or left right) here whole h =
          both_same (Option ℤ) (λ p q. value_step values (Expr-F.Or p q))
          (value_of (new left) values) (value_of left store) (value_of (new right) values)
          (value_of right store) h.0 (h.1).0
      value_layer (Expr-F.Not arg) here whole h =
          ap (λ o. value_step values (Expr-F.Not o)) h.0
      value_layer (Expr-F.Cond t test first second) here whole h =
          ap (λ o. value_step values (Expr-F.Cond t o (value_of (new first) values)
          (value_of (new second) values))) h.0 ∙
          ap (λ o. value_step values (Expr-F.Cond t (value_of test store) o
          (value_of (new second) values))) (h.1).0 ∙
          ap (λ o. value_step values (Expr-F.Cond t (value_of test store) (value_of first store) o))
          ((h.1).1).0

      agrees_layer : (x : Expr-F Expr) → IsTypedHere types x → IsTrue (is_whole_here places x)
          → OfParts Agrees x → Agrees (roll-Expr x)
      agrees_layer x here whole h =
          ap (λ e. value_of e values) (renamed_rolled x)
          ∙ (value_rolled values (moved_node places (news x))
          ∙ (value_layer x here whole h ∙ sym (value_rolled store x)))

    -- ---- the cells that are read

    module _ (number : ℕ) where
      abbrev Read : Expr → Type 0
      Read e = IsTrue (may_read (new e) number)
          → (cell : ℕ) × IsTrue (may_read e cell) × (number ≡ number_at places cell)

      abbrev Found : (ℕ → Bool) → Type 0
      Found reads = (cell : ℕ) × IsTrue (reads cell) × (number ≡ number_at places cell)

      here_read : (x : Expr-F Expr) → IsTrue (is_whole_here places x)
          → IsTrue (reads_here number (moved_node places (news x)))
          → Found (λ cell. reads_here cell x)
      here_read (Expr-F.Read t base len index) whole h =
          let both = and_parts (nat_le (number_at places base) number)
          (nat_lt number (number_at places base + len)) h in
          let above : number_at places base ≤ number = grind (arith, nat_tests, both.0) in
          let below : number < number_at places base + len = grind (arith, nat_tests, both.1) in
          let i = number - number_at places base in
          let inside : i < len = omega (arith, above, below) in
          let is : number ≡ number_at places base + i = omega (arith, above) in
          let within : IsTrue (is_within base len (base + i)) = grind (arith, nat_tests, inside) in
          (base + i, within, is ∙ sym (together_at places base len i whole inside))
      here_read (Expr-F.Const t n) whole h = absurd (cc)
      here_read (Expr-F.Un o t arg) whole h = absurd (cc)
      here_read (Expr-F.Bin o t left right) whole h = absurd (cc)
      here_read (Expr-F.Cmp o t left right) whole h = absurd (cc)
      here_read (Expr-F.Cast t arg) whole h = absurd (cc)
      here_read (Expr-F.And left right) whole h = absurd (cc)
      here_read (Expr-F.Or left right) whole h = absurd (cc)
      here_read (Expr-F.Not arg) whole h = absurd (cc)
      here_read (Expr-F.Cond t test first second) whole h = absurd (cc)

      some_read : (es : List Expr) → AllByRecursion Read es
          → IsTrue (list_any (λ b. b) (map (λ e. may_read e number) (map new es)))
          → Found (λ cell. list_any (λ b. b) (map (λ e. may_read e cell) es))
      some_read [] h k = absurd (cc)
      some_read (e ∷ es) h k =
          by (may_read (new e) number) refl k h.0 (some_read es h.1)
        where
          by : (b : Bool) → may_read (new e) number ≡ b
              → IsTrue (b || list_any (λ b. b) (map (λ e. may_read e number) (map new es)))
              → Read e
              → (IsTrue (list_any (λ b. b) (map (λ e. may_read e number) (map new es)))
              → Found (λ cell. list_any (λ b. b) (map (λ e. may_read e cell) es)))
              → Found (λ cell. list_any (λ b. b) (map (λ e. may_read e cell) (e ∷ es)))
          by true is k here others =
              let found = here is in (
                found.0,
                or_left (may_read e found.0)
                    (list_any (λ b. b) (map (λ e. may_read e found.0) es)) found.1,
                found.2,
              )
          by false is k here others =
              let found = others k in (
                found.0,
                or_right (may_read e found.0)
                    (list_any (λ b. b) (map (λ e. may_read e found.0) es)) found.1,
                found.2,
              )

      read_layer : (x : Expr-F Expr) → IsTypedHere types x → IsTrue (is_whole_here places x)
          → OfParts Read x → Read (roll-Expr x)
      read_layer x here whole h k =
          by (reads_here number (moved_node places (news x))) refl
          (sym (ap (λ e. may_read e number) (renamed_rolled x)
          ∙ reads_of number (moved_node places (news x)) (map new (parts x)) (new_parts x)) ∙ k)
        where
          found_at : Found (λ cell. reads_here cell x
              || list_any (λ b. b) (map (λ e. may_read e cell) (parts x)))
              → Found (λ cell. may_read (roll-Expr x) cell)
          found_at found =
              (found.0, reads_of found.0 x (parts x) refl ∙ found.1, found.2)

          by : (b : Bool) → reads_here number (moved_node places (news x)) ≡ b
              → IsTrue (b || list_any (λ b. b) (map (λ e. may_read e number)
              (map new (parts x))))
              → Found (λ cell. may_read (roll-Expr x) cell)
          by true is k =
              let found = here_read x whole is in
              found_at (
                found.0,
                or_left (reads_here found.0 x)
                    (list_any (λ b. b) (map (λ e. may_read e found.0) (parts x))) found.1,
                found.2,
              )
          by false is k =
              let found = some_read (parts x) h k in
              found_at (
                found.0,
                or_right (reads_here found.0 x)
                    (list_any (λ b. b) (map (λ e. may_read e found.0) (parts x))) found.1,
                found.2,
              )

pub typed : (places : List Place) (cells types : List IntType) (e : Expr)
    → IsReadable places types e → Shows places cells types → IsTyped cells (renamed places e)
typed places cells types e readable shows =
    by_readable places types (Fits places types cells shows)
    (typed_layer places types cells shows) e readable

pub value : (places : List Place) (types : List IntType) (e : Expr) (values store : List ℤ)
    → IsReadable places types e → length types ≡ length places → Shows places values store
    → value_of (renamed places e) values ≡ value_of e store
value places types e values store readable long shows =
    by_readable places types (Agrees places types values store long shows)
    (agrees_layer places types values store long shows) e readable

pub reads : (places : List Place) (types : List IntType) (e : Expr) (number : ℕ)
    → IsReadable places types e → IsTrue (may_read (renamed places e) number)
    → (cell : ℕ) × IsTrue (may_read e cell) × (number ≡ number_at places cell)
reads places types e number readable =
    by_readable places types (Read places types number) (read_layer places types number) e readable
