-- Typedef names in order: the type of one, and one more of them.
use Rattle.std.specs.Prelude.{◌≡◌, ℕ, ◌+◌, suc, Bool, true, false, List, [], ◌∷◌, ◌++◌, length}
use Rattle.std.specs.Prelude.{map, find, Option, None, Some, option_map, option_and_then, cond}
use Rattle.std.specs.Prelude.{refl}
use Rattle.std.specs.List.{zip, slice_get}
use Rattle.std.proofs.Common.{◌∙◌, ap, arith, append_assoc}
use Rattle.cpa_ints.specs.declared.integers.IntType.{IntType}
use Rattle.c_lexer.specs.declared.fault.TextFault.{TextFault}
use Rattle.c_grammar_tree.specs.declared.name.Name.{Name}
use Rattle.c_types_rules.specs.First.{first_with, first_append}
use Rattle.c_types_rules.specs.Names.{place_of}
use Rattle.c_types_rules.specs.Items.{Before, typedef_faults, typedefs_behind, typedefs_faults}

-- the row of a name is found at the name's place
module _ (test : List ℕ → Bool) where
  next_get : (t : IntType) (types : List IntType) (o : Option ℕ) →
      option_and_then (λ k. slice_get types k) o
      ≡ option_and_then (λ k. slice_get (t ∷ types) k) (option_map (λ n. n + 1) o)
  next_get t types None = refl
  next_get t types (Some k) =
      let e : suc k ≡ k + 1 = omega arith in ap (slice_get (t ∷ types)) e

  row_by : (b : Bool) (name : List ℕ) (t : IntType) (names : List (List ℕ)) (types : List IntType) →
      option_map (λ row. row.1) (find (λ row. test row.0) (zip names types))
      ≡ option_and_then (λ k. slice_get types k) (place_of test names) →
      option_map (λ row. row.1) (cond b (Some (name, t))
      (find (λ row. test row.0) (zip names types)))
      ≡ option_and_then (λ k. slice_get (t ∷ types) k)
      (elim b [ true ↦ Some 0 | false ↦ option_map (λ n. n + 1) (place_of test names) ])
  row_by true name t names types e = refl
  row_by false name t names types e = e ∙ next_get t types (place_of test names)

  pub row_at : (names : List (List ℕ)) (types : List IntType) → length names ≡ length types →
      option_map (λ row. row.1) (find (λ row. test row.0) (zip names types))
      ≡ option_and_then (λ k. slice_get types k) (place_of test names)
  row_at [] types e = refl
  row_at (n ∷ names) [] e = absurd (omega arith)
  row_at (n ∷ names) (t ∷ types) e =
      row_by (test n) n t names types (row_at names types (omega arith))

-- one name more at the end
pub typed_more : (names : List (List ℕ)) (types : List IntType) (name : List ℕ) (t : IntType) →
    length names ≡ length types →
    zip (names ++ name ∷ []) (types ++ t ∷ []) ≡ zip names types ++ (name, t) ∷ []
typed_more [] [] name t e = refl
typed_more [] (u ∷ types) name t e = absurd (omega arith)
typed_more (n ∷ names) [] name t e = absurd (omega arith)
typed_more (n ∷ names) (u ∷ types) name t e =
    ap (λ rows. (n, u) ∷ rows) (typed_more names types name t (omega arith))

-- a name in front of others
pub behind_next : (t : IntType) (name : Name) (more : List Name) (before : Before) →
    typedefs_behind t more (typedefs_behind t (name ∷ []) before)
    ≡ typedefs_behind t (name ∷ more) before
behind_next t name more before = ap (λ types. record before { types = types })
    (append_assoc before.types ((name.bytes, t) ∷ []) (map (λ one. (one.bytes, t)) more))

pub faults_next : (held : Option TextFault) (t : IntType) (name : Name) (more : List Name)
    (before : Before) → first_with held (typedefs_faults t (name ∷ more) before)
    ≡ first_with (first_with held (typedef_faults t name before))
    (typedefs_faults t more (typedefs_behind t (name ∷ []) before))
faults_next held t name more before = first_append held (typedef_faults t name before)
    (typedefs_faults t more (typedefs_behind t (name ∷ []) before))
