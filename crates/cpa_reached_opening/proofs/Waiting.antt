-- The test of an entry passes exactly where it waits again.
use Rattle.std.proofs.Common.{◌≡◌, ℕ, ◌↔◌, Bool, true, false, eqb, not, ◌&&◌, List, [], ◌∷◌}
use Rattle.std.proofs.Common.{refl, sym, ap, ◌∙◌, inl, inr, ⊎_elim}
use Rattle.std.specs.Prelude.{IsTrue}
use Rattle.std.specs.List.{list_any}
use Rattle.std.proofs.lemmas.Bool.{eq-eqb, eqb-true, or_cases, and_parts, and_from, not-true}
use Rattle.std.proofs.lemmas.Bool.{cases_Bool}
use Rattle.cpa_iface.specs.declared.entries.Entry.{Entry}
use Rattle.cpa_reached_opening.specs.lemmas.MemberLaws.{or_left, or_right, member_in, in_member}
use Rattle.cpa_reached_opening.specs.Members.{IsIn, is_in}
use Rattle.cpa_reached_opening.specs.Opening.{UsesOneOf, WaitsAgain, is_opened, waits_again}

some_use : (gone uses : List ℕ) → list_any (λ n. is_in n gone) uses ≡ true
    → (k : ℕ) × IsIn k uses × IsIn k gone
some_use gone [] some = absurd (cc)
some_use gone (n ∷ uses) some =
    ⊎_elim
    (λ here. (n, inl refl, in_member n gone here))
    (λ later. let r = some_use gone uses later in (r.0, inr r.1, r.2))
    (or_cases (is_in n gone) (list_any (λ k. is_in k gone) uses) some)

use_some : (gone uses : List ℕ) (k : ℕ) → IsIn k uses → IsIn k gone
    → list_any (λ n. is_in n gone) uses ≡ true
use_some gone [] k there goes = absurd there
use_some gone (n ∷ uses) k (inl same) goes =
    or_left (is_in n gone) (list_any (λ m. is_in m gone) uses) (rw same (member_in k gone goes))
use_some gone (n ∷ uses) k (inr later) goes =
    or_right (is_in n gone) (list_any (λ m. is_in m gone) uses) (use_some gone uses k later goes)

passes_so : (gone : List ℕ) (pivot : ℕ) (e : Entry) → waits_again gone pivot e ≡ true
    → WaitsAgain gone pivot e
passes_so gone pivot e passes =
    let parts = and_parts (not (is_in e.number gone)) (is_opened gone pivot e) passes in
    let out : is_in e.number gone ≡ false = not-true (is_in e.number gone) parts.0 in
    record {
      stays = λ goes. let there = member_in e.number gone goes in absurd (cc);
      loses =
          ⊎_elim
          (λ same. inl (eqb-true e.number pivot same))
          (λ some.
          let u = some_use gone e.uses some in
          inr (record { used = u.0; uses = u.1; goes = u.2 }))
          (or_cases (eqb e.number pivot) (list_any (λ n. is_in n gone) e.uses) parts.1);
    }

so_passes : (gone : List ℕ) (pivot : ℕ) (e : Entry) → WaitsAgain gone pivot e
    → waits_again gone pivot e ≡ true
so_passes gone pivot e again =
    let uses = list_any (λ n. is_in n gone) e.uses in
    and_from (not (is_in e.number gone)) (is_opened gone pivot e)
    (⊎_elim
    (λ (goes : is_in e.number gone ≡ true). absurd (again.stays (in_member e.number gone goes)))
    (λ (out : is_in e.number gone ≡ false). rw out refl)
    (cases_Bool (is_in e.number gone)))
    (⊎_elim
    (λ (same : e.number ≡ pivot).
    or_left (eqb e.number pivot) uses (eq-eqb e.number pivot same))
    (λ (u : UsesOneOf gone e).
    or_right (eqb e.number pivot) uses (use_some gone e.uses u.used u.uses u.goes))
    again.loses)

pub waits_exactly : (gone : List ℕ) (pivot : ℕ) (e : Entry) (b : Bool)
    → b ≡ waits_again gone pivot e → IsTrue b ↔ WaitsAgain gone pivot e
waits_exactly gone pivot e b is =
    (λ h. passes_so gone pivot e (sym is ∙ h), λ again. is ∙ so_passes gone pivot e again)

-- what the two tests of an entry come to, where it stays and where it goes
pub opened_so : (gone : List ℕ) (pivot : ℕ) (e : Entry) (there b : Bool)
    → there ≡ is_in e.number gone → there ≡ false → b ≡ is_opened gone pivot e
    → b ≡ waits_again gone pivot e
opened_so gone pivot e there b at out is =
    is ∙ ap (λ (o : Bool). o && is_opened gone pivot e) (sym (ap not out) ∙ ap not at)

pub gone_so : (gone : List ℕ) (pivot : ℕ) (e : Entry) (there : Bool) → there ≡ is_in e.number gone
    → there ≡ true → not there ≡ waits_again gone pivot e
gone_so gone pivot e there at out =
    ap not out
    ∙ ap (λ (o : Bool). o && is_opened gone pivot e) (sym (ap not out) ∙ ap not at)
