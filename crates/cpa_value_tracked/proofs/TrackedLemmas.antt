-- That a cell is listed where it stands at its own place, and else only behind those that do.
use Rattle.std.proofs.Common.{◌≡◌, ℕ, ◌<◌, ◌≤◌, Bool, true, false, List, [], ◌∷◌, drop, refl, ap}
use Rattle.std.proofs.Common.{◌∙◌, arith}
use Rattle.std.specs.Prelude.{zero, suc, Some, slice_get, ◌==◌, ◌||◌}
use Rattle.std.specs.List.{list_any}
use Rattle.std.proofs.lemmas.Bool.{eq-eqb}
use Rattle.cpa_iface.specs.Cells.{own_places}
use Rattle.cpa_iface.specs.lemmas.CellLaws.{stands_own, behind_own}

stands_at : (cells : List ℕ) (place cell : ℕ) → slice_get cells place ≡ Some cell
    → list_any (λ own. own == cell) cells ≡ true
stands_at [] place cell is = absurd (cc)
stands_at (own ∷ cells) zero cell is =
    ap (λ b. b || list_any (λ own. own == cell) cells) (eq-eqb own cell (cc))
stands_at (own ∷ cells) (suc place) cell is =
    or_right (own == cell) _ (stands_at cells place cell is) where
      or_right : (a b : Bool) → b ≡ true → (a || b) ≡ true
      or_right true b is = refl
      or_right false b is = is

-- a cell below those at their own places is listed
pub listed_own : (cells : List ℕ) (own cell : ℕ) → own ≡ own_places cells → cell < own
    → list_any (λ o. o == cell) cells ≡ true
listed_own cells own cell is less =
    stands_at cells cell cell (stands_own cells cell (omega (arith, is, less)))

-- and another one can stand behind them alone
pub listed_behind : (cells : List ℕ) (own cell : ℕ) → own ≡ own_places cells → own ≤ cell
    → list_any (λ o. o == cell) (drop own cells) ≡ list_any (λ o. o == cell) cells
listed_behind cells own cell is above =
    ap (λ k. list_any (λ o. o == cell) (drop k cells)) is
    ∙ behind_own cells cell (omega (arith, is, above))
