-- Entries with keys of their own are no more than the keys (`at_most_keys`), those of pins no more
-- than the states (`at_most_states`), and where all are kept apart nothing merges or has a rank.
use Rattle.std.proofs.Common.{◌≡◌, ◌≢◌, suc, ◌<◌, ◌≤◌, List, [], ◌∷◌, length, map, refl}
use Rattle.std.proofs.Common.{sym}
use Rattle.std.proofs.Common.{ap, ◌∙◌, subst, inl, inr, ⊎_elim, arith}
use Rattle.std.specs.List.{AllByRecursion}
use Rattle.std.proofs.lemmas.List.{length-map}
use Rattle.cpa_model.specs.declared.automaton.Cfa.{Cfa}
use Rattle.cpa_model.specs.declared.facts.Elem.{Elem}
use Rattle.cpa_model.specs.declared.states.State.{State}
use Rattle.cpa_iface.specs.declared.entries.Entry.{Entry}
use Rattle.cpa_iface.specs.declared.merging.MergeRule.{MergeRule}
use Rattle.cpa_iface.specs.declared.merging.MergeRule.TheVariants.{Sep}
use Rattle.cpa_iface.specs.declared.precisions.Precision.{Precision}
use Rattle.cpa_composite.specs.Components.{Component}
use Rattle.cpa_composite.specs.Exact.{pins}
use Rattle.cpa_composite.specs.Laws.{EachMerged}
use Rattle.cpa_composite.specs.Ranks.{row_rank, rank_by}
use Rattle.cpa_model.specs.Ascending.{AreAscending}
use Rattle.cpa_reached.specs.Members.{IsIn}
use Rattle.cpa_reached.specs.lemmas.MemberLaws.{in_all, entry_in}
use Rattle.cpa_reached.specs.Entries.{numbers}
use Rattle.cpa_engine_turn.specs.Bounds.{ArePinned}
use Rattle.cpa_engine_turn.specs.lemmas.Lists.{in_map_of}

-- a list without one of its items
pub record Without {X : Type 0} (x : X) (xs : List X) : Type 0 where
  pub rest : List X
  pub size : length xs ≡ suc (length rest)
  pub keeps : (y : X) → IsIn y xs → y ≢ x → IsIn y rest

pub without : {X : Type 0} (x : X) (xs : List X) → IsIn x xs → Without x xs
without x [] there = absurd there
without x (y ∷ xs) (inl same) = record {
  rest = xs;
  size = refl;
  keeps = λ z in_z other.
      ⊎_elim (λ here. absurd (other (sym here ∙ same))) (λ later. later) in_z;
}
without x (y ∷ xs) (inr later) =
    let left = without x xs later in
    record {
      rest = y ∷ left.rest;
      size = ap suc left.size;
      keeps = λ z in_z other.
          ⊎_elim (λ here. inl here) (λ behind. inr (left.keeps z behind other)) in_z;
    }

pub at_most_keys : (key : List Elem → List Elem) (keys : List (List Elem)) (xs : List Entry)
    → ((e : Entry) → IsIn e xs → IsIn (key e.elems) keys)
    → ((e f : Entry) → IsIn e xs → IsIn f xs → key e.elems ≡ key f.elems → e.number ≡ f.number)
    → AreAscending (numbers xs) → length xs ≤ length keys
at_most_keys key keys [] there own up = omega arith
at_most_keys key keys (x ∷ xs) there own up =
    let left = without (key x.elems) keys (there x (inl refl)) in
    let fewer = at_most_keys key left.rest xs
    (λ e in_e. left.keeps (key e.elems) (there e (inr in_e))
    (λ same.
    let above : x.number < e.number =
    in_all (λ m. x.number < m) (numbers xs) e.number up.0 (entry_in e xs in_e) in
    let equal = own e x (inr in_e) (inl refl) same in omega (arith, above, equal)))
    (λ e f in_e in_f same. own e f (inr in_e) (inr in_f) same) up.1 in
    let size = left.size in
    omega (arith, fewer, size)

pub at_most_states : (cfa : Cfa) (cs : List Component) (states : List State) (xs : List Entry)
    → AreAscending (numbers xs) → ArePinned cfa cs states xs → length xs ≤ length states
at_most_states cfa cs states xs up pinned =
    let size : length (map (pins cs) states) ≡ length states = length-map states (pins cs) in
    let few = at_most_keys (λ (es : List Elem). es) (map (pins cs) states) xs
    (λ e there. let is = pinned.each e there in
    subst (λ (row : List Elem). IsIn row (map (pins cs) states)) (sym is.elems)
    (in_map_of (pins cs) states is.state is.is_in))
    pinned.once up in
    omega (arith, size, few)

-- what is kept apart is not merged
pub apart_merged : (cfa : Cfa) (cs : List Component) (new old : List Elem) (ps : List Precision)
    (merged : List Elem) → AllByRecursion (λ c. c.rule ≡ Sep) cs → length new ≡ length cs
    → length old ≡ length cs → length ps ≡ length cs → length merged ≡ length cs
    → EachMerged cfa cs new old ps merged → merged ≡ old
apart_merged cfa [] es [] ps [] apart a b d size each = refl
apart_merged cfa [] es (f ∷ fs) ps gs apart a b d size each = absurd (omega (arith, b))
apart_merged cfa [] es [] ps (g ∷ gs) apart a b d size each = absurd (omega (arith, size))
apart_merged cfa (c ∷ cs) [] fs ps gs apart a b d size each = absurd (omega (arith, a))
apart_merged cfa (c ∷ cs) (e ∷ es) [] ps gs apart a b d size each = absurd (omega (arith, b))
apart_merged cfa (c ∷ cs) (e ∷ es) (f ∷ fs) [] gs apart a b d size each = absurd (omega (arith, d))
apart_merged cfa (c ∷ cs) (e ∷ es) (f ∷ fs) (p ∷ ps) [] apart a b d size each =
    absurd (omega (arith, size))
apart_merged cfa (c ∷ cs) (e ∷ es) (f ∷ fs) (p ∷ ps) (g ∷ gs) apart a b d size each =
    let first : g ≡ f =
    (each 0 c e p f g (record { component = refl; elem = refl; precision = refl }) refl refl).sep
    apart.0 in
    let later : gs ≡ fs =
    apart_merged cfa cs es fs ps gs apart.1 (omega (arith, a)) (omega (arith, b)) (omega (arith, d))
    (omega (arith, size))
    (λ i x y q u v stands at_u at_v. each (suc i) x y q u v
    (record { component = stands.component; elem = stands.elem; precision = stands.precision })
    at_u at_v) in
    ap (λ (x : Elem). x ∷ gs) first ∙ ap (λ (l : List Elem). f ∷ l) later

-- nothing has a rank
pub no_ranks : (cfa : Cfa) (cs : List Component) (es : List Elem)
    → AllByRecursion (λ c. c.rule ≡ Sep) cs → row_rank cfa cs es ≡ 0
no_ranks cfa [] es apart = refl
no_ranks cfa (c ∷ cs) [] apart = refl
no_ranks cfa (c ∷ cs) (e ∷ es) apart =
    let first : rank_by c.rule (c.meaning.rank cfa e) ≡ 0 =
    ap (λ (r : MergeRule). rank_by r (c.meaning.rank cfa e)) apart.0 in
    let later = no_ranks cfa cs es apart.1 in omega (arith, first, later)
