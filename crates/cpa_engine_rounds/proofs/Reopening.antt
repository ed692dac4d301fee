-- The entries that are told to wait again are those that do (`renewed_exactly`).
use Rattle.std.proofs.Common.{◌≡◌, ℕ, Bool, true, false, not, cond, List, [], ◌∷◌, map, refl, sym}
use Rattle.std.proofs.Common.{ap, ◌∙◌, subst, inl, inr}
use Rattle.std.specs.List.{filter, AllByRecursion}
use Rattle.cpa_iface.specs.declared.entries.Entry.{Entry}
use Rattle.cpa_iface.specs.declared.precisions.Precision.{Precision}
use Rattle.cpa_reached.specs.Calls.{with_precisions}
use Rattle.cpa_reached.specs.Entries.{IsLive, numbers}
use Rattle.cpa_reached.specs.lemmas.MemberLaws.{all_weaker, ascend_kept, by_number, live_filtered}
use Rattle.cpa_reached.specs.lemmas.MemberLaws.{map_in}
use Rattle.cpa_model.specs.Ascending.{AreAscending}
use Rattle.cpa_reached.specs.Members.{IsIn, is_in}
use Rattle.cpa_reached.specs.Removal.{is_opened, opened, left, without}
use Rattle.cpa_reached.specs.lemmas.SuccessorLaws.{left_number}
use Rattle.cpa_engine_rounds.specs.Clearing.{renewed}
use Rattle.cpa_engine_rounds.specs.Opening.{with_newest}

one_renewed : (gone : List ℕ) (pivot : ℕ) (newest : List Precision) (found : List ℕ) (e : Entry)
    → is_in (left gone pivot e).number found ≡ is_opened gone pivot e
    → with_newest found newest (left gone pivot e) ≡ renewed gone pivot newest e
one_renewed gone pivot newest found e same =
    ap (λ (b : Bool). cond b (with_precisions newest (left gone pivot e)) (left gone pivot e)) same
    ∙ by (is_opened gone pivot e)
  where
    by : (b : Bool) → cond b (with_precisions newest (cond b (opened e) e)) (cond b (opened e) e)
        ≡ cond b (with_precisions newest (opened e)) e
    by true = refl
    by false = refl

map_members : (f g h : Entry → Entry) (zs : List Entry)
    → ((z : Entry) → IsIn z zs → f (g z) ≡ h z) → map f (map g zs) ≡ map h zs
map_members f g h [] each = refl
map_members f g h (z ∷ zs) each =
    ap (λ (y : Entry). y ∷ map f (map g zs)) (each z (inl refl))
    ∙ ap (λ (ys : List Entry). h z ∷ ys)
    (map_members f g h zs (λ y there. each y (inr there)))

pub renewed_exactly : (gone : List ℕ) (pivot : ℕ) (newest : List Precision) (xs ys : List Entry)
    (found : List ℕ) → AreAscending (numbers xs)
    → ys ≡ map (left gone pivot) (without gone xs)
    → found ≡ numbers (filter (is_opened gone pivot) (without gone xs))
    → map (with_newest found newest) ys ≡ map (renewed gone pivot newest) (without gone xs)
renewed_exactly gone pivot newest xs ys found up is_left is_found =
    ap (map (with_newest found newest)) is_left
    ∙ map_members (with_newest found newest) (left gone pivot) (renewed gone pivot newest)
    (without gone xs)
    (λ e there. one_renewed gone pivot newest found e
    (ap (λ (k : ℕ). is_in k found) (left_number gone pivot e)
    ∙ ap (is_in e.number) is_found
    ∙ by_number (is_opened gone pivot) (without gone xs)
    (ascend_kept (λ y. not (is_in y.number gone)) xs up) e there))

-- they are there
pub found_live : (gone : List ℕ) (pivot : ℕ) (xs ys : List Entry) (found : List ℕ)
    → ys ≡ map (left gone pivot) (without gone xs)
    → found ≡ numbers (filter (is_opened gone pivot) (without gone xs))
    → AllByRecursion (IsLive ys) found
found_live gone pivot xs ys found is_left is_found =
    let kept = without gone xs in
    subst (λ (zs : List Entry). AllByRecursion (IsLive zs) found) (sym is_left)
    (all_weaker (IsLive kept) (IsLive (map (left gone pivot) kept)) found
    (λ n live. record {
      entry = left gone pivot live.entry;
      is_in = map_in (left gone pivot) kept live.entry live.is_in;
      is = left_number gone pivot live.entry ∙ live.is;
    })
    (subst (AllByRecursion (IsLive kept)) (sym is_found)
    (live_filtered (is_opened gone pivot) kept)))
