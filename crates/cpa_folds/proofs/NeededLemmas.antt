-- What one edge more adds to the needed cells.
use Rattle.std.proofs.Common.{◌≡◌, ℕ, ◌<◌, Bool, ◌&&◌, ◌||◌, List, [], ◌∷◌, refl, sym, ap, ◌∙◌}
use Rattle.std.proofs.Common.{drop, get_or, drop-cons, suc}
use Rattle.std.specs.Prelude.{length, nat_lt, Some, slice_get}
use Rattle.std.specs.List.{list_any, range_with_len}
use Rattle.cpa_expr.specs.Cells.{may_read}
use Rattle.cpa_model.specs.declared.automaton.Act.{Act}
use Rattle.cpa_model.specs.declared.automaton.Act.TheVariants.{Skip, Assign, Assume, Input, Call}
use Rattle.cpa_model.specs.declared.automaton.Act.TheVariants.{Return}
use Rattle.cpa_model.specs.declared.automaton.Edge.{Edge}
use Rattle.cpa_model.specs.declared.automaton.Cfa.{Cfa}
use Rattle.cpa_folds.specs.Needed.{may_stop, adds, edge_adds, is_needed}

any_alike : (f g : ℕ → Bool) → ((cell : ℕ) → f cell ≡ g cell) → (cells : List ℕ)
    → list_any f cells ≡ list_any g cells
any_alike f g same [] = refl
any_alike f g same (cell ∷ cells) =
    ap (λ b. b || list_any f cells) (same cell) ∙ ap (λ b. g cell || b) (any_alike f g same cells)

adds_alike : (act : Act) (f g : ℕ → Bool) → ((cell : ℕ) → f cell ≡ g cell) → (cell : ℕ)
    → adds act f cell ≡ adds act g cell
adds_alike Skip f g same cell = refl
adds_alike (Assign base len index value) f g same cell =
    ap (λ b. (b || nat_lt 1 len || may_stop index || may_stop value)
    && (may_read index cell || may_read value cell))
    (any_alike f g same (range_with_len base len))
adds_alike (Assume test holds) f g same cell = refl
adds_alike (Input at) f g same cell = refl
adds_alike (Call site) f g same cell = refl
adds_alike (Return site) f g same cell = refl

-- the cells that are needed along the later edges, and those that this one adds
pub one_more_edge : (cfa : Cfa) (g : Edge) (edge : ℕ) (edges : List ℕ) (after : ℕ
    → Bool) (cell : ℕ) (now : Bool) → slice_get cfa.edges edge ≡ Some g
    → ((c : ℕ) → after c ≡ is_needed cfa edges c)
    → now ≡ (after cell || (nat_lt cell (length cfa.cells) && adds g.act after cell))
    → now ≡ is_needed cfa (edge ∷ edges) cell
one_more_edge cfa g edge edges after cell now at same is =
    let rest = is_needed cfa edges in
    is
    ∙ (ap (λ b. b || (nat_lt cell (length cfa.cells) && adds g.act after cell)) (same cell)
    ∙ (ap (λ b. rest cell || (nat_lt cell (length cfa.cells) && b))
    (adds_alike g.act after rest same cell)
    ∙ ap (λ o. rest cell || edge_adds cfa o rest cell) (sym at)))

-- the same at the place before
pub one_more_place : (cfa : Cfa) (g : Edge) (edges : List ℕ) (place before edge : ℕ) (after : ℕ
    → Bool) (cell : ℕ) (now : Bool) → place ≡ suc before
    → before < length edges → edge ≡ get_or edges before 0 → slice_get cfa.edges edge ≡ Some g
    → ((c : ℕ) → after c ≡ is_needed cfa (drop place edges) c)
    → now ≡ (after cell || (nat_lt cell (length cfa.cells) && adds g.act after cell))
    → now ≡ is_needed cfa (drop before edges) cell
one_more_place cfa g edges place before edge after cell now next inside this at same is =
    one_more_edge cfa g edge (drop place edges) after cell now at same is
    ∙ ap (λ es. is_needed cfa es cell)
    (ap (λ e. e ∷ drop place edges) this
    ∙ (ap (λ n. get_or edges before 0 ∷ drop n edges) next ∙ sym (drop-cons edges before 0 inside)))
