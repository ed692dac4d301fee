-- Numbers of names, found by hash: those of the first of each name (this project's own).
use Rattle.std.specs.Prelude.{◌≡◌, ℕ, List, find, Option, option_map}
use Rattle.std.specs.Str.{bytes_eq}
use Rattle.std.specs.declared.vec.Vec.{Vec}
use Rattle.std.specs.HashMap.{HashMap, get_by}
use Rattle.c_types_rules.specs.Names.{place_of}

-- the number of a name
abbrev pub number_of : {A S : Type 0} → HashMap (Vec ℕ A) ℕ S → List ℕ → Option ℕ
number_of numbers name = get_by (λ key. bytes_eq name key.items) numbers

-- each name has the place of the first one that is equal to it
abbrev pub HasFirsts : {A S : Type 0} → List (List ℕ) → HashMap (Vec ℕ A) ℕ S → Type 0
HasFirsts names places =
    (name : List ℕ) → number_of places name ≡ place_of (bytes_eq name) names

-- each name has the count of the first row that is its
abbrev pub HasFirstArities : {A S : Type 0} → List (List ℕ × ℕ) → HashMap (Vec ℕ A) ℕ S → Type 0
HasFirstArities arities numbers = (name : List ℕ) → number_of numbers name
    ≡ option_map (λ row. row.1) (find (λ row. bytes_eq name row.0) arities)
