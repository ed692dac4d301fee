-- An object takes as many cells as it has, all of its type.
use Rattle.std.proofs.Common.{◌≡◌, ℕ, zero, suc, ◌≤◌, List, [], ◌∷◌, ◌++◌, map, length, take}
use Rattle.std.proofs.Common.{replicate, refl, ap, ◌∙◌, arith, ℤ, pos}
use Rattle.cpa_ints.specs.declared.integers.IntType.{IntType}
use Rattle.cpa_model.specs.Expressions.{types_of}
use Rattle.c_types_rules.specs.declared.meaning.Object.{Object}
use Rattle.c_types_rules.specs.Tables.{cells_of}
use Rattle.c_core_rules.specs.Cells.{cell, cells_with}

each_type : (t : IntType) (values : List ℤ) →
    types_of (map (cell t) values) ≡ replicate (length values) t
each_type t [] = refl
each_type t (n ∷ values) = ap (λ ts. t ∷ ts) (each_type t values)

zeros_taken : (n m : ℕ) → n ≤ m → length (take n (replicate m (pos 0))) ≡ n
zeros_taken zero m h = refl
zeros_taken (suc n) zero h = absurd (omega arith)
zeros_taken (suc n) (suc m) h = ap suc (zeros_taken n m (omega arith))

values_taken : (n m : ℕ) (values : List ℤ) → n ≤ m →
    length (take n (values ++ replicate m (pos 0))) ≡ n
values_taken n m [] h = zeros_taken n m h
values_taken zero m (v ∷ values) h = refl
values_taken (suc n) m (v ∷ values) h = ap suc (values_taken n m values (omega arith))

pub object_types : (object : Object) (values : List ℤ) →
    types_of (cells_with object.ty (cells_of object) values)
    ≡ replicate (cells_of object) object.ty
object_types object values =
    let n = cells_of object in
    each_type object.ty (take n (values ++ replicate n (pos 0)))
    ∙ ap (λ m. replicate m object.ty) (values_taken n n values (omega arith))
