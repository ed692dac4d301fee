-- What the form of an obligation is made of: candidates are entries, and the spots are those of the
-- entries.
use Rattle.std.proofs.Common.{◌≡◌, ℕ, ◌<◌, true, false, List, [], ◌∷◌, map, length}
use Rattle.std.proofs.Common.{Option, Some, None, slice_get}
use Rattle.std.proofs.Common.{refl, sym, ap, ◌∙◌, subst, arith}
use Rattle.std.specs.Prelude.{option_map, option_and_then}
use Rattle.std.specs.List.{AllByRecursion}
use Rattle.std.proofs.lemmas.List.{length-map}
use Rattle.std.proofs.lemmas.Option.{get_or_from_slice_get, slice_get_within, slice_get-map}
use Rattle.cpa_model.specs.declared.program.Cell.{Cell}
use Rattle.cpa_model.specs.declared.facts.Elem.{Elem}
use Rattle.cpa_model.specs.declared.automaton.Act.{Act}
use Rattle.cpa_model.specs.declared.automaton.Edge.{Edge}
use Rattle.cpa_model.specs.declared.automaton.Cfa.{Cfa}
use Rattle.cpa_form_rules.specs.Runs.{taken, holding, failing}
use Rattle.cpa_form_rules.specs.Forms.{Form, begun, form_of, with_added}
use Rattle.cpa_recheck_obligations.specs.declared.spots.Spot.{Spot}
use Rattle.cpa_recheck_obligations.specs.declared.listing.Obligation.TheVariants.{Begins, Leads}
use Rattle.cpa_recheck_obligations.specs.Spots.{spot_of, spot_of_parts, spots_of}
use Rattle.cpa_recheck_obligations.specs.Obligations.{candidates}
use Rattle.cpa_recheck_obligations.specs.Forms.{behind, edge_at, entry_at, rivals, start_of, target}
use Rattle.cpa_recheck_obligations.specs.lemmas.Asking.{edge_is}
use Rattle.cpa_recheck_obligations.specs.lemmas.Standing.{all_candidates}
use Rattle.cpa_recheck.specs.Rivals.{AreRivals}

pub candidates_below : (xs : List Elem) (spot : Spot)
    → AllByRecursion (λ n. n < length xs) (candidates (spots_of xs) spot)
candidates_below xs spot =
    all_candidates (λ n. n < length xs) (spots_of xs) spot (λ i own at includes.
    let within = slice_get_within (spots_of xs) i (Some own) at in
    let long = length-map xs spot_of in omega (arith, within, long))

mapped : {A B : Type 0} (f : A → B) (o : Option A) (b : B) → option_map f o ≡ Some b
    → (a : A) × (o ≡ Some a) × (f a ≡ b)
mapped f None b is = absurd (cc)
mapped f (Some a) b is = (a, refl, cc)

-- the spot of an entry
pub spot_here : (xs : List Elem) (spots : List (Option Spot)) (x : ℕ) (o : Option Spot)
    → spots ≡ spots_of xs → slice_get spots x ≡ Some o → spot_of (entry_at xs x) ≡ o
spot_here xs spots x o are at =
    let here = sym (slice_get-map spot_of xs x)
    ∙ (ap (λ (l : List (Option Spot)). slice_get l x) (sym are) ∙ at) in
    let found = mapped spot_of (slice_get xs x) o here in
    ap spot_of (get_or_from_slice_get xs x found.0 (record { facts = [] }) found.1) ∙ found.2

target_at : (cfa : Cfa) (xs : List Elem) (x g : ℕ) (edge : Edge) (o then : Option Spot)
    → spot_of (entry_at xs x) ≡ o → slice_get cfa.edges g ≡ Some edge
    → option_and_then (behind edge) o ≡ then → target cfa xs x g ≡ then
target_at cfa xs x g edge o then here at is =
    ap (option_and_then (behind (edge_at cfa g))) here
    ∙ (ap (λ (e : Edge). option_and_then (behind e) o) (edge_is cfa g edge at) ∙ is)

-- ---- rivals

pub start_rivals : (cfa : Cfa) (xs : List Elem) (spots : List (Option Spot))
    (numbers sites : List ℕ)
    → spots ≡ spots_of xs → sites ≡ []
    → numbers ≡ candidates spots (spot_of_parts (Some cfa.start) (Some sites))
    → AreRivals cfa xs Begins numbers
start_rivals cfa xs spots numbers sites are none is =
    let all = is ∙ (ap (λ (l : List (Option Spot)). candidates l
    (spot_of_parts (Some cfa.start) (Some sites))) are
    ∙ ap (λ l. candidates (spots_of xs) (spot_of_parts (Some cfa.start) (Some l))) none) in
    record {
      same = ap (map (entry_at xs)) all;
      below = subst (AllByRecursion (λ n. n < length xs)) (sym all)
          (candidates_below xs (start_of cfa));
    }

-- where the entry or the edge leads nowhere, there is no rival
pub no_rivals : (cfa : Cfa) (xs : List Elem) (spots : List (Option Spot)) (x g : ℕ) (edge : Edge)
    (o : Option Spot) (numbers : List ℕ) → spots ≡ spots_of xs → slice_get spots x ≡ Some o
    → slice_get cfa.edges g ≡ Some edge → option_and_then (behind edge) o ≡ None → numbers ≡ []
    → AreRivals cfa xs (Leads x g) numbers
no_rivals cfa xs spots x g edge o numbers are at is none empty =
    let goes = target_at cfa xs x g edge o None (spot_here xs spots x o are at) is none in
    record {
      same = ap (map (entry_at xs)) empty ∙ sym (ap (rivals xs) goes);
      below = subst (AllByRecursion (λ n. n < length xs)) (sym empty) tt;
    }

pub some_rivals : (cfa : Cfa) (xs : List Elem) (spots : List (Option Spot)) (x g : ℕ) (edge : Edge)
    (o : Option Spot) (then : Spot) (numbers : List ℕ) → spots ≡ spots_of xs
    → slice_get spots x ≡ Some o → slice_get cfa.edges g ≡ Some edge
    → option_and_then (behind edge) o ≡ Some then → numbers ≡ candidates spots then
    → AreRivals cfa xs (Leads x g) numbers
some_rivals cfa xs spots x g edge o then numbers are at is goes all =
    let there = target_at cfa xs x g edge o (Some then) (spot_here xs spots x o are at) is goes in
    let found = all ∙ ap (λ (l : List (Option Spot)). candidates l then) are in
    record {
      same = ap (map (entry_at xs)) found ∙ sym (ap (rivals xs) there);
      below = subst (AllByRecursion (λ n. n < length xs)) (sym found) (candidates_below xs then);
    }

-- ---- forms, call by call

pub begun_failing : (cells : List Cell) (es fs : List Elem) (form ended : Form)
    → form ≡ begun cells true → ended ≡ with_added (failing es) form → es ≡ fs
    → ended ≡ form_of cells true (failing fs ∷ [])
begun_failing cells es fs form ended begins fails same =
    fails ∙ (ap (λ (l : List Elem). with_added (failing l) form) same
    ∙ ap (λ (f : Form). with_added (failing fs) f) begins)

pub led : (cells : List Cell) (e x : Elem) (act : Act) (es fs : List Elem)
    (form held took ended : Form) → form ≡ begun cells false → held ≡ with_added (holding e) form
    → took ≡ with_added (taken act) held → ended ≡ with_added (failing es) took → e ≡ x → es ≡ fs
    → ended ≡ form_of cells false (holding x ∷ taken act ∷ failing fs ∷ [])
led cells e x act es fs form held took ended begins holds takes fails one all =
    let first = holds ∙ (ap (λ (l : Elem). with_added (holding l) form) one
    ∙ ap (λ (f : Form). with_added (holding x) f) begins) in
    let second = takes ∙ ap (λ (f : Form). with_added (taken act) f) first in
    fails ∙ (ap (λ (l : List Elem). with_added (failing l) took) all
    ∙ ap (λ (f : Form). with_added (failing fs) f) second)
