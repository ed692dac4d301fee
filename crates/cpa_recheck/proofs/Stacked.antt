-- Stacks for a state of an entry: those that an entry says, and those that none says.
use Rattle.std.proofs.Common.{◌≡◌, ℕ, zero, suc, ◌+◌, ◌<◌, ◌≤◌, Bool, true, false, List, [], ◌∷◌}
use Rattle.std.proofs.Common.{◌++◌, length, take, replicate, get_or, Option, Some, None}
use Rattle.std.proofs.Common.{refl, sym, ap}
use Rattle.std.proofs.Common.{◌∙◌, subst, arith}
use Rattle.std.specs.Prelude.{IfSome, is_some, option_and_then, option_map, if◌then◌else◌}
use Rattle.std.specs.List.{AllByRecursion}
use Rattle.std.proofs.lemmas.Bool.{and_parts}
use Rattle.std.proofs.lemmas.List.{length-append, length-replicate, take_all, take_more}
use Rattle.cpa_model.specs.declared.automaton.Act.{Act}
use Rattle.cpa_model.specs.declared.automaton.Act.TheVariants as act
use Rattle.cpa_model.specs.declared.automaton.Edge.{Edge}
use Rattle.cpa_model.specs.declared.automaton.Cfa.{Cfa}
use Rattle.cpa_model.specs.declared.facts.Elem.{Elem}
use Rattle.cpa_facts.specs.declared.fact.Fact.{Fact}
use Rattle.cpa_facts.specs.declared.fact.Fact.TheVariants.{At, Stack, Equals, Within, Truth}
use Rattle.cpa_model.specs.declared.program.Cell.{Cell}
use Rattle.cpa_model.specs.Acts.{IsActOf}
use Rattle.cpa_model.specs.Facts.{IsElem, IsFact}
use Rattle.cpa_model.specs.Stacks.{stack_after}
use Rattle.cpa_model.specs.Steps.{StepsStack}
use Rattle.cpa_model.specs.lemmas.Lists.{AllByRecursion-push}
use Rattle.cpa_model.specs.lemmas.Stacks.{stack_after-means}
use Rattle.cpa_recheck_obligations.specs.declared.spots.Spot.{Spot}
use Rattle.cpa_recheck_obligations.specs.Spots.{permits, permits_stack, spot_from, spot_of}
use Rattle.cpa_recheck_obligations.specs.Spots.{spot_of_parts, spots_of, anywhere}
use Rattle.cpa_recheck_obligations.specs.Obligations.{leaves, stack_behind}
use Rattle.cpa_recheck_obligations.specs.Forms.{AreStacksFor}
use Rattle.cpa_recheck_obligations.specs.lemmas.Places.{all_so}
use Rattle.cpa_recheck.specs.Stacks.{HasDepth, HasDepths, free_after, free_before}

-- what stands at a place is one item
pub same_item : {A : Type 0} (o : Option A) (a b : A) → o ≡ Some a → o ≡ Some b → a ≡ b
same_item o a b p q = let e = sym p ∙ q in cc

-- ---- depths

deeper_stack : (o : Option (List ℕ)) (m n : ℕ) → m ≤ n → IfSome o (λ sites. length sites ≤ m)
    → IfSome o (λ sites. length sites ≤ n)
deeper_stack None m n le h = tt
deeper_stack (Some sites) m n le h = omega (arith, le, h)

deeper : (m n : ℕ) → m ≤ n → (found : Option Spot) → HasDepth m found → HasDepth n found
deeper m n le None h = tt
deeper m n le (Some spot) h = deeper_stack spot.stack m n le h

pub one_deeper : (spots : List (Option Spot)) (i : ℕ) (found : Option Spot) (m d n : ℕ)
    → i < length spots → found ≡ get_or spots i found → m ≤ n → d ≤ n → HasDepth d found
    → HasDepths m (take i spots) → HasDepths n (take (i + 1) spots)
one_deeper spots i found m d n less is m_le d_le here before =
    let front = all_so (HasDepth m) (HasDepth n) (deeper m n m_le) (take i spots) before in
    let whole = AllByRecursion-push (HasDepth n) (take i spots) found front
    (deeper d n d_le found here) in
    subst (HasDepths n)
    (ap (λ x. take i spots ++ x ∷ []) is ∙ sym (take_more spots i found less)) whole

pub all_deep : (spots : List (Option Spot)) (i n : ℕ) → length spots ≤ i
    → HasDepths n (take i spots) → HasDepths n spots
all_deep spots i n le h = subst (HasDepths n) (take_all i spots le) h

-- ---- free stacks

free_steps : (a : Act) (depth : ℕ) → StepsStack a (free_before a depth) (free_after a depth)
free_steps act.Skip depth = refl
free_steps (act.Assign base len index value) depth = refl
free_steps (act.Assume test holds) depth = refl
free_steps (act.Input cell) depth = refl
free_steps (act.Call site) depth = refl
free_steps (act.Return site) depth = refl

zeros_below : (points depth : ℕ) → 0 < points
    → AllByRecursion (λ site. site < points) (replicate depth 0)
zeros_below points zero some = tt
zeros_below points (suc depth) some = (some, zeros_below points depth some)

free_below : (cfa : Cfa) (a : Act) (depth : ℕ) → 0 < cfa.points → IsActOf cfa a
    → AllByRecursion (λ site. site < cfa.points) (free_before a depth)
free_below cfa act.Skip depth some is = zeros_below cfa.points depth some
free_below cfa (act.Assign base len index value) depth some is =
    zeros_below cfa.points depth some
free_below cfa (act.Assume test holds) depth some is = zeros_below cfa.points depth some
free_below cfa (act.Input cell) depth some is = zeros_below cfa.points depth some
free_below cfa (act.Call site) depth some is = zeros_below cfa.points depth some
free_below cfa (act.Return site) depth some is =
    AllByRecursion-push (λ s. s < cfa.points) (replicate depth 0) site
    (zeros_below cfa.points depth some) is

long : (a : Act) (depth : ℕ) → depth ≤ length (free_after a depth)
long act.Skip depth = let n = length-replicate {A = ℕ} depth 0 in omega (arith, n)
long (act.Assign base len index value) depth =
    let n = length-replicate {A = ℕ} depth 0 in omega (arith, n)
long (act.Assume test holds) depth = let n = length-replicate {A = ℕ} depth 0 in omega (arith, n)
long (act.Input cell) depth = let n = length-replicate {A = ℕ} depth 0 in omega (arith, n)
long (act.Call site) depth =
    let n = length-replicate {A = ℕ} depth 0 in
    let m = length-append (replicate depth 0) (site ∷ []) in omega (arith, n, m)
long (act.Return site) depth = let n = length-replicate {A = ℕ} depth 0 in omega (arith, n)

-- a stack with more sites than any that is said is none of them
unsaid : (new : List ℕ) (most : ℕ) → most < length new → (found : Option Spot)
    → HasDepth most found → IfSome found (λ (own : Spot). own.stack ≡ Some new → ⊥)
unsaid new most less None h = tt
unsaid new most less (Some spot) h = by spot.stack h
  where
    by : (o : Option (List ℕ)) → IfSome o (λ sites. length sites ≤ most) → o ≡ Some new → ⊥
    by None h is = absurd (cc)
    by (Some sites) h is =
        let same : sites ≡ new = cc in
        let size = ap length same in absurd (omega (arith, h, size, less))

none_said : (o : Option (List ℕ)) (old : List ℕ) → o ≡ None → IfSome o (λ sites. old ≡ sites)
none_said None old is = tt
none_said (Some sites) old is = absurd (cc)

pub free_are : (cfa : Cfa) (xs : List Elem) (spots : List (Option Spot)) (spot : Spot) (g : Edge)
    (most depth : ℕ) (old new : List ℕ) → 0 < cfa.points → IsActOf cfa g.act → spots ≡ spots_of xs
    → spot.stack ≡ None → HasDepths most spots → depth ≡ most + 1
    → old ≡ free_before g.act depth → new ≡ free_after g.act depth
    → AreStacksFor cfa xs spot g old new
free_are cfa xs spots spot g most depth old new some sound are none depths is old_is new_is =
    let far = long g.act depth in
    let size = ap length new_is in
    let less : most < length new = omega (arith, far, is, size) in
    record {
      steps = subst (λ l. StepsStack g.act l new) (sym old_is)
          (subst (λ l. StepsStack g.act (free_before g.act depth) l) (sym new_is)
          (free_steps g.act depth));
      sites = subst (AllByRecursion (λ site. site < cfa.points)) (sym old_is)
          (free_below cfa g.act depth some sound);
      said = none_said spot.stack old none;
      free = λ h. all_so (HasDepth most)
          (λ found. IfSome found (λ (own : Spot). own.stack ≡ Some new → ⊥))
          (unsaid new most less) (spots_of xs) (subst (HasDepths most) are depths);
    }

-- ---- said stacks

done_so : (b : Bool) (new : List ℕ) (o : Option (List ℕ))
    → (if b then Some new else None) ≡ o → is_some o ≡ true → o ≡ Some new
done_so true new o is some = sym is
done_so false new o is some = let none = ap is_some is in absurd (cc)

possible : (a : Act) (o : Option (List ℕ)) (sites : List ℕ) → o ≡ Some sites
    → is_some (stack_behind a o) ≡ true → is_some (stack_after a sites) ≡ true
possible a None sites is some = absurd (cc)
possible a (Some own) sites is some =
    let same : own ≡ sites = cc in
    subst (λ l. is_some (stack_after a l) ≡ true) same (by (stack_after a own) some)
  where
    by : (o : Option (List ℕ)) → is_some (option_map Some o) ≡ true → is_some o ≡ true
    by None h = absurd (cc)
    by (Some l) h = refl

pub said_are : (cfa : Cfa) (xs : List Elem) (spot : Spot) (g : Edge) (sites old new : List ℕ)
    (b : Bool) → spot.stack ≡ Some sites → leaves spot g ≡ true
    → AllByRecursion (λ site. site < cfa.points) sites → old ≡ sites
    → (if b then Some new else None) ≡ stack_after g.act sites → AreStacksFor cfa xs spot g old new
said_are cfa xs spot g sites old new b said passes below old_is after =
    let parts = and_parts (permits spot.point g.from) (is_some (stack_behind g.act spot.stack))
    passes in
    let there = done_so b new (stack_after g.act sites) after
    (possible g.act spot.stack sites said parts.1) in
    record {
      steps = subst (λ l. StepsStack g.act l new) (sym old_is)
          (stack_after-means g.act sites new there);
      sites = subst (AllByRecursion (λ site. site < cfa.points)) (sym old_is) below;
      said = subst (λ (o : Option (List ℕ)). IfSome o (λ l. old ≡ l)) (sym said) old_is;
      free = λ none. absurd (clash none);
    }
  where
    clash : spot.stack ≡ None → ⊥
    clash none = let e = sym said ∙ none in absurd (cc)

-- ---- the sites that a shaped element says

module _ (cells : List Cell) (points : ℕ) where
  abbrev Below : Spot → Type 0
  Below spot = IfSome spot.stack (AllByRecursion (λ site. site < points))

  below_from : (facts : List Fact) (spot found : Spot)
      → AllByRecursion (IsFact cells points) facts → spot_from facts spot ≡ Some found
      → Below spot → Below found
  below_from [] spot found shaped is below = let same : spot ≡ found = cc in subst Below same below
  below_from (At p ∷ facts) spot found shaped is below =
      by (permits spot.point p) is
      (λ h. below_from facts (spot_of_parts (Some p) spot.stack) found shaped.1 h below)
    where
      by : (b : Bool)
          → option_and_then (spot_from facts)
          (if b then Some (spot_of_parts (Some p) spot.stack) else None) ≡ Some found
          → (spot_from facts (spot_of_parts (Some p) spot.stack) ≡ Some found → Below found)
          → Below found
      by true h k = k h
      by false h k = absurd (cc)
  below_from (Stack sites ∷ facts) spot found shaped is below =
      by (permits_stack spot.stack sites) is
      (λ h. below_from facts (spot_of_parts spot.point (Some sites)) found shaped.1 h shaped.0)
    where
      by : (b : Bool)
          → option_and_then (spot_from facts)
          (if b then Some (spot_of_parts spot.point (Some sites)) else None) ≡ Some found
          → (spot_from facts (spot_of_parts spot.point (Some sites)) ≡ Some found → Below found)
          → Below found
      by true h k = k h
      by false h k = absurd (cc)
  below_from (Equals cell value ∷ facts) spot found shaped is below =
      below_from facts spot found shaped.1 is below
  below_from (Within cell lo hi ∷ facts) spot found shaped is below =
      below_from facts spot found shaped.1 is below
  below_from (Truth expr holds ∷ facts) spot found shaped is below =
      below_from facts spot found shaped.1 is below

  pub sites_below : (e : Elem) (found : Spot) → IsElem cells points e → spot_of e ≡ Some found
      → Below found
  sites_below e found shaped is = below_from e.facts anywhere found shaped is tt
