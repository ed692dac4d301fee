-- Cells that are taken behind others, and start at 0.
use Rattle.std.proofs.Common.{◌≡◌, ℕ, zero, suc, ◌≤◌, List, [], ◌∷◌, ◌++◌, map, take, replicate}
use Rattle.std.proofs.Common.{refl, ap, sym, ◌∙◌, append_assoc, pos, arith}
use Rattle.std.proofs.lemmas.List.{map-append, append-nil}
use Rattle.cpa_ints.specs.declared.integers.IntType.{IntType}
use Rattle.cpa_model.specs.declared.program.Cell.{Cell}
use Rattle.c_core_rules.specs.Cells.{cell, cells_with}

-- a cell that starts at 0
abbrev pub zero_cell : IntType → Cell
zero_cell t = cell t (pos 0)

-- more cells are taken, which start at 0
pub record Extends (before after : List Cell) : Type 0 where
  pub more : List IntType
  pub is : after ≡ before ++ map zero_cell more

pub nothing_more : (cells : List Cell) → Extends cells cells
nothing_more cells = record { more = []; is = sym (append-nil cells) }

pub extended : (a b c : List Cell) → Extends a b → Extends b c → Extends a c
extended a b c x y = record {
  more = x.more ++ y.more;
  is = y.is
      ∙ ap (λ cells. cells ++ map zero_cell y.more) x.is
      ∙ append_assoc a (map zero_cell x.more) (map zero_cell y.more)
      ∙ ap (λ cells. a ++ cells) (sym (map-append zero_cell x.more y.more));
}

-- those of an object without values
zeros : (t : IntType) (n m : ℕ) → n ≤ m →
    map (cell t) (take n (replicate m (pos 0))) ≡ map zero_cell (replicate n t)
zeros t zero m h = refl
zeros t (suc n) zero h = absurd (omega arith)
zeros t (suc n) (suc m) h = ap (λ cells. zero_cell t ∷ cells) (zeros t n m (omega arith))

pub object_extends : (cells : List Cell) (t : IntType) (n : ℕ) →
    Extends cells (cells ++ cells_with t n [])
object_extends cells t n = record {
  more = replicate n t;
  is = ap (λ own. cells ++ own) (zeros t n n (omega arith));
}
