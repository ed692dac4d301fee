-- The laws of each component lifted to rows.
use Rattle.std.proofs.Common.{◌≡◌, ◌≢◌, ℕ, ◌<◌, ◌≤◌, true, false, List, [], ◌∷◌, ◌++◌, length}
use Rattle.std.proofs.Common.{Option, Some, None, IfNone, sym, ap, ◌∙◌, subst, arith}
use Rattle.std.specs.Prelude.{nat_lt}
use Rattle.std.specs.List.{slice_get, AllByRecursion, Contains}
use Rattle.std.proofs.lemmas.Bool.{or_parts, ltb-false}
use Rattle.std.proofs.lemmas.List.{length-append}
use Rattle.std.proofs.lemmas.Option.{slice_get_within, IfSome_then, same_Some}
use Rattle.cpa_expr.specs.declared.tree.Expr.{Expr}
use Rattle.cpa_model.specs.declared.facts.Elem.{Elem}
use Rattle.cpa_model.specs.declared.automaton.Cfa.{Cfa}
use Rattle.cpa_model.specs.declared.automaton.Path.{Path}
use Rattle.cpa_model.specs.Facts.{Holds}
use Rattle.cpa_model.specs.Automata.{initial_state}
use Rattle.cpa_iface.specs.declared.analysis.Settings.{Settings}
use Rattle.cpa_iface.specs.declared.entries.Entry.{Entry}
use Rattle.cpa_iface.specs.declared.precisions.Precision.{Precision}
use Rattle.cpa_iface.specs.Laws.{Extends, MergeLaws, RefineLaws}
use Rattle.cpa_iface.specs.Meanings.{IsShaped, IsPrecision, Suggestion, HasPlace}
use Rattle.cpa_composite.specs.Components.{Component, StandsAt, IsEntryOf}
use Rattle.cpa_composite.specs.Laws.{EachInitial, EachMerged, EachAdjusted, EachRefined}
use Rattle.cpa_composite.specs.Laws.{InitialRow, MergedRow, AdjustedRow, RefinedRow, AgreeOnSep}
use Rattle.cpa_composite.specs.Laws.{WidenCovers, SuggestionsStand, some_longer, is_longer}
use Rattle.cpa_composite.proofs.Placed.{at_each, each_at, no_more}
use Rattle.cpa_composite_covers.specs.lemmas.PickLaws.{there_is}
use Rattle.cpa_composite.proofs.Picking.{stands_there, stands_for}
use Rattle.cpa_composite.proofs.Compared.{none_longer}

pub initial_row : (cs : List Component) (cfa : Cfa) (settings : Settings) (es : List Elem)
    (ps : List Precision) → length es ≡ length cs → length ps ≡ length cs
    → EachInitial cfa settings cs es ps → InitialRow cs cfa settings es ps
initial_row cs cfa settings es ps many long each =
    record {
      elems = record {
        size = many;
        shaped = at_each (IsShaped cfa) es (λ i e at.
            let s = stands_there cs es ps many long i e at in
            (each i s.0 e s.1 s.2).0.shaped);
      };
      precisions = record {
        size = long;
        each = at_each (IsPrecision cfa) ps (λ i p at.
            let s = stands_for cs es ps many long i p at in
            (each i s.0 s.1 p s.2).1.shaped);
      };
      holds = at_each (λ (e : Elem). Holds e (initial_state cfa)) es (λ i e at.
          let s = stands_there cs es ps many long i e at in
          (each i s.0 e s.1 s.2).0.holds);
      each = each;
    }

-- the parts of a merged row at a place
pub record MergedAt (cfa : Cfa) (cs : List Component) (new old : List Elem) (ps : List Precision)
    (i : ℕ) (g : Elem) : Type 0 where
  pub c : Component
  pub e : Elem
  pub p : Precision
  pub f : Elem
  pub stands : StandsAt cs new ps i c e p
  pub is_old : slice_get old i ≡ Some f
  pub laws : MergeLaws c.meaning cfa c.rule e f p g

merged_at : (cfa : Cfa) (cs : List Component) (new old : List Elem) (ps : List Precision)
    (merged : List Elem) → length new ≡ length cs → length old ≡ length cs → length ps ≡ length cs
    → length merged ≡ length cs → EachMerged cfa cs new old ps merged → (i : ℕ) (g : Elem)
    → slice_get merged i ≡ Some g → MergedAt cfa cs new old ps i g
merged_at cfa cs new old ps merged a b d size each i g at =
    let inside = slice_get_within merged i g at in
    let e = there_is new i (omega (arith, inside, size, a)) in
    let f = there_is old i (omega (arith, inside, size, b)) in
    let s = stands_there cs new ps a d i e.0 e.1 in
    record {
      c = s.0;
      e = e.0;
      p = s.1;
      f = f.0;
      stands = s.2;
      is_old = f.1;
      laws = each i s.0 e.0 s.1 f.0 g s.2 f.1 at;
    }

pub merged_row : (cs : List Component) (cfa : Cfa) (new old : List Elem) (ps : List Precision)
    (merged : List Elem) → length new ≡ length cs → length old ≡ length cs → length ps ≡ length cs
    → length merged ≡ length cs → EachMerged cfa cs new old ps merged → AgreeOnSep cs new old
    → merged ≢ old → MergedRow cs cfa new old ps merged
merged_row cs cfa new old ps merged a b d size each agree differs =
    record {
      elems = record {
        size = size;
        shaped = at_each (IsShaped cfa) merged (λ i g at.
            (merged_at cfa cs new old ps merged a b d size each i g at).laws.shaped);
      };
      covers = λ s state lies. at_each (λ (g : Elem). Holds g s) merged (λ i g at.
          let m = merged_at cfa cs new old ps merged a b d size each i g at in
          m.laws.covers_old s state (each_at (λ (f : Elem). Holds f s) old lies i m.f m.is_old));
      agree = agree;
      differs = differs;
      each = each;
    }

-- where the merged row is the old one, the widening analyses cover the new one
pub widen_covers : (cs : List Component) (cfa : Cfa) (new old : List Elem) (ps : List Precision)
    (merged : List Elem) → length new ≡ length cs → length ps ≡ length cs
    → EachMerged cfa cs new old ps merged → merged ≡ old → WidenCovers cs new old
widen_covers cs cfa new old ps merged a d each same i c e f at is_new is_old widen =
    let inside = slice_get_within cs i c at in
    let p = there_is ps i (omega (arith, inside, d)) in
    (each i c e p.0 f f (record { component = at; elem = is_new; precision = p.1 }) is_old
    (subst (λ (l : List Elem). slice_get l i ≡ Some f) (sym same) is_old)).covered widen

pub adjusted_row : (cs : List Component) (cfa : Cfa) (es : List Elem) (ps : List Precision)
    (reached : List Entry) (after : List Elem) (next : List Precision) → length es ≡ length cs
    → length ps ≡ length cs → length after ≡ length cs → length next ≡ length cs
    → EachAdjusted cfa reached cs es ps after next → AdjustedRow cs cfa es ps reached after next
adjusted_row cs cfa es ps reached after next a b d size each =
    record {
      elems = record {
        size = d;
        shaped = at_each (IsShaped cfa) after (λ i f at.
            let inside = slice_get_within after i f at in
            let e = there_is es i (omega (arith, inside, d, a)) in
            let q = there_is next i (omega (arith, inside, d, size)) in
            let s = stands_there cs es ps a b i e.0 e.1 in
            (each i s.0 e.0 s.1 f q.0 s.2 at q.1).shaped);
      };
      precisions = record {
        size = size;
        each = at_each (IsPrecision cfa) next (λ i q at.
            let inside = slice_get_within next i q at in
            let e = there_is es i (omega (arith, inside, size, a)) in
            let f = there_is after i (omega (arith, inside, d, size)) in
            let s = stands_there cs es ps a b i e.0 e.1 in
            (each i s.0 e.0 s.1 f.0 q s.2 f.1 at).shaped_precision);
      };
      covers = λ s state lies. at_each (λ (f : Elem). Holds f s) after (λ i f at.
          let inside = slice_get_within after i f at in
          let e = there_is es i (omega (arith, inside, d, a)) in
          let q = there_is next i (omega (arith, inside, d, size)) in
          let w = stands_there cs es ps a b i e.0 e.1 in
          (each i w.0 e.0 w.1 f q.0 w.2 at q.1).covers s state
          (each_at (λ (g : Elem). Holds g s) es lies i e.0 e.1));
      each = each;
    }

pub refined_row : (cs : List Component) (cfa : Cfa) (path : Path) (old new : List Precision)
    → length old ≡ length cs → length new ≡ length cs → EachRefined cfa path cs old new
    → some_longer old new ≡ true → RefinedRow cs cfa path old new
refined_row cs cfa path old new a b each longer =
    record {
      precisions = record {
        size = b;
        each = at_each (IsPrecision cfa) new (λ i q at.
            let inside = slice_get_within new i q at in
            let c = there_is cs i (omega (arith, inside, b)) in
            let p = there_is old i (omega (arith, inside, a, b)) in
            (each i c.0 p.0 q c.1 p.1 at).shaped);
      };
      each = each;
      longer = longer;
    }

-- what extends a list and is not longer is the list
same_more : {X : Type 0} (old more new : List X) → new ≡ old ++ more → length new ≤ length old
    → new ≡ old
same_more old [] new is short = is ∙ no_more old
same_more old (x ∷ more) new is short =
    absurd (let a = ap length is in let b = length-append old (x ∷ more) in
    omega (arith, a, b, short))

same_list : {X : Type 0} (old new : List X) → Extends old new
    → nat_lt (length old) (length new) ≡ false → new ≡ old
same_list old new h short =
    same_more old h.0 new h.1 (ltb-false (length old) (length new) short)

pub suggestions_stand : (cs : List Component) (cfa : Cfa) (path : Path) (old new : List Precision)
    → length old ≡ length cs → length new ≡ length cs → EachRefined cfa path cs old new
    → some_longer old new ≡ false → SuggestionsStand cfa path cs old
suggestions_stand cs cfa path old new a b each short i c p at is =
    let inside = slice_get_within cs i c at in
    let q = there_is new i (omega (arith, inside, b)) in
    let laws = each i c p q.0 at is q.1 in
    let parts = or_parts (nat_lt (length p.tracked) (length q.0.tracked))
    (nat_lt (length p.preds) (length q.0.preds)) (none_longer old new short i p q.0 is q.1) in
    let cells = same_list p.tracked q.0.tracked laws.tracked parts.0 in
    let preds = same_list p.preds q.0.preds laws.preds parts.1 in
    IfSome_then (c.meaning.suggestion cfa path) laws.suggested (λ (s : Suggestion) h. (
      subst (λ (l : List ℕ). AllByRecursion (Contains l) s.cells) cells h.0.whole,
      subst (λ (l : List Expr). AllByRecursion (Contains l) s.preds) preds h.1.whole,
    ))

same_precision : (p q : Precision) → q.tracked ≡ p.tracked → q.limit ≡ p.limit → q.preds ≡ p.preds
    → q ≡ p
same_precision p q cells limit preds =
    ap (λ (l : List ℕ). let r : Precision =
    record { tracked = l; limit = q.limit; preds = q.preds } in r) cells
    ∙ (ap (λ (n : ℕ). let r : Precision =
    record { tracked = p.tracked; limit = n; preds = q.preds } in r) limit
    ∙ ap (λ (l : List Expr). let r : Precision =
    record { tracked = p.tracked; limit = p.limit; preds = l } in r) preds)

-- what is not longer than the old precision is that one
not_longer : (p q : Precision) (c : Component) (cfa : Cfa) (path : Path)
    → RefineLaws c.meaning cfa path p q → is_longer p q ≡ false → q ≡ p
not_longer p q c cfa path laws short =
    let parts = or_parts (nat_lt (length p.tracked) (length q.tracked))
    (nat_lt (length p.preds) (length q.preds)) short in
    same_precision p q (same_list p.tracked q.tracked laws.tracked parts.0) laws.limit
    (same_list p.preds q.preds laws.preds parts.1)

-- where none is longer, the old precisions are what the analyses refine them to
pub precisions_stay : (cs : List Component) (cfa : Cfa) (path : Path) (old new : List Precision)
    → length new ≡ length cs → EachRefined cfa path cs old new → some_longer old new ≡ false
    → EachRefined cfa path cs old old
precisions_stay cs cfa path old new many each short i c p q at is also =
    let inside = slice_get_within cs i c at in
    let r = there_is new i (omega (arith, inside, many)) in
    let laws = each i c p r.0 at is r.1 in
    let stays : r.0 ≡ p =
    not_longer p r.0 c cfa path laws (none_longer old new short i p r.0 is r.1) in
    subst (RefineLaws c.meaning cfa path p) (stays ∙ sym (same_Some q p (sym also ∙ is))) laws

-- what follows from a clause of a None
pub if_none : {X P Q : Type 0} (o : Option X) → IfNone o P → (P → Q) → IfNone o Q
if_none None h f = f h
if_none (Some x) h f = tt

-- an entry has an element and a precision at each place
pub has_place : (cfa : Cfa) (count place : ℕ) (entry : Entry) → place < count
    → IsEntryOf cfa count entry → HasPlace cfa place entry
has_place cfa count place entry inside is =
    record {
      shaped = is.elems.shaped;
      precisions = is.precisions.each;
      elem = omega (arith, inside, is.elems.size);
      precision = omega (arith, inside, is.precisions.size);
    }

pub have_place : (cfa : Cfa) (count place : ℕ) (entries : List Entry) → place < count
    → AllByRecursion (IsEntryOf cfa count) entries → AllByRecursion (HasPlace cfa place) entries
have_place cfa count place [] inside h = tt
have_place cfa count place (entry ∷ entries) inside h =
    (has_place cfa count place entry inside h.0, have_place cfa count place entries inside h.1)
