-- Steps of which the last leads to 0 are interpolants of the path.
use Rattle.std.proofs.Common.{◌≡◌, ℕ, ◌+◌, ◌-◌, ◌<◌, ◌≤◌, ◌^◌, min, List, [], ◌∷◌, length, false}
use Rattle.std.proofs.Common.{Some, slice_get, map, sum, refl, sym, ap, ◌∙◌, subst, arith, get_or}
use Rattle.std.proofs.Common.{drop}
use Rattle.std.specs.List.{AllByRecursion}
use Rattle.std.proofs.lemmas.List.{drop_more}
use Rattle.std.proofs.lemmas.List.Sums.{sum_by-cons, sum-map}
use Rattle.cpa_expr.specs.declared.tree.Expr.{Expr}
use Rattle.cpa_model.specs.declared.program.Cell.{Cell}
use Rattle.cpa_model.specs.declared.automaton.Act.{Act}
use Rattle.cpa_model.specs.declared.automaton.Edge.{Edge}
use Rattle.cpa_model.specs.declared.automaton.Cfa.{Cfa}
use Rattle.cpa_model.specs.Acts.{IsActOf}
use Rattle.cpa_model.specs.Automata.{IsAutomaton}
use Rattle.cpa_model.specs.Expressions.{IsExpr}
use Rattle.cpa_form_rules.specs.Runs.{Added, taken}
use Rattle.cpa_form_rules.specs.Forms.{act_weight, added_weight, places_from}
use Rattle.cpa_form_rules.specs.Additions.{WeightsAreSums}
use Rattle.cpa_form_rules.specs.Laws.{IsAddedOf}
use Rattle.cpa_folds.specs.Along.{acts_along}
use Rattle.cpa_interpolant_rules.specs.Interpolants.{AreNext, LeadOn, last_of, one}
use Rattle.cpa_interpolant_rules.specs.Interpolants.{zero as nothing}
use Rattle.cpa_interpolant_rules.specs.Laws.{InterpolantsLeaveNoRun}
use Rattle.cpa_interpolant_rules.specs.Parts.{added_behind, behind_cut}
use Rattle.cpa_interpolant_rules.specs.Found.{weight_at, AreLight, IsLight, AreFound}
use Rattle.cpa_interpolant_rules.specs.lemmas.Taking.{all_taken}
use Rattle.cpa_interpolant_rules.specs.lemmas.Keeping.{AreLaws, edge_there, good_path}
use Rattle.cpa_interpolant_rules.specs.lemmas.Paths.{last_at, acts_of, acts_long, rest_in}
use Rattle.cpa_interpolant_rules.specs.lemmas.Paths.{one_is_expr}
use Rattle.cpa_interpolant_words.specs.Words.{IsStep, AreSteps, AreStepsIn}

module _ (cells : List Cell) (gates : ℕ) where
  lead_on : (acts : List Act) (e : Expr) (fs : List Expr) → AreSteps cells gates acts e fs
      → LeadOn cells acts e fs
  lead_on [] e fs are = are
  lead_on (a ∷ acts) e [] are = absurd are
  lead_on (a ∷ acts) e (f ∷ fs) are = (are.0.leads, lead_on acts f fs are.1)

  are_next : InterpolantsLeaveNoRun → (acts : List Act) (e : Expr) (fs : List Expr)
      → AreSteps cells gates acts e fs → last_of e fs ≡ nothing → AreNext cells acts e fs
  are_next none acts e [] are last = tt
  are_next none [] e (f ∷ fs) are last = absurd (cc)
  are_next none (a ∷ acts) e (f ∷ fs) are last = (
    record {
      leads = are.0.leads;
      ends = none cells acts f fs (lead_on acts f fs are.1) last;
      reads = are.0.reads;
      total = are.0.total;
    },
    are_next none acts f fs are.1 last,
  )

  are_light : (acts : List Act) (e : Expr) (fs : List Expr) → AreSteps cells gates acts e fs
      → AreLight cells gates acts e fs
  are_light acts e [] are = tt
  are_light [] e (f ∷ fs) are = absurd (cc)
  are_light (a ∷ acts) e (f ∷ fs) are = (are.0.light, are_light acts f fs are.1)

  are_typed : (acts : List Act) (e : Expr) (fs : List Expr) → AreSteps cells gates acts e fs
      → AllByRecursion (IsExpr cells) fs
  are_typed acts e [] are = tt
  are_typed [] e (f ∷ fs) are = absurd (cc)
  are_typed (a ∷ acts) e (f ∷ fs) are = (are.0.typed, are_typed acts f fs are.1)

-- from 1 to 0
pub found_of : InterpolantsLeaveNoRun → (cfa : Cfa) (gates : ℕ) (edges : List ℕ)
    (exprs : List Expr) (first last : Expr)
    → AllByRecursion (λ n. n < length cfa.edges) edges
    → length exprs ≡ length edges + 1 → first ≡ get_or exprs 0 first → first ≡ one
    → last ≡ get_or exprs (length edges) last → last ≡ nothing
    → AreStepsIn cfa gates edges exprs
    → AreFound cfa.cells gates (acts_along cfa edges) exprs
found_of none cfa gates edges [] first last inside long at is end ends are = absurd are
found_of none cfa gates edges (e ∷ fs) first last inside long at is end ends are =
    let acts = acts_along cfa edges in
    let begins : e ≡ one = sym at ∙ is in
    let steps = subst (λ (x : Expr). AreSteps cfa.cells gates acts x fs) begins are in
    let count = acts_long cfa edges inside in
    let many : length fs ≡ length edges = omega (arith, long) in
    let stops : last_of one fs ≡ nothing =
    sym (last_at one last fs)
    ∙ (ap (λ n. get_or (one ∷ fs) n last) many
    ∙ (ap (λ (x : Expr). get_or (x ∷ fs) (length edges) last) (sym begins) ∙ (sym end ∙ ends))) in
    record {
      are = record {
        interpolants = record {
          behind = fs;
          are = ap (λ (x : Expr). x ∷ fs) begins;
          next = are_next cfa.cells gates none acts one fs steps stops;
        };
        long = omega (arith, long, count);
        last = stops;
        none = none cfa.cells acts one fs (lead_on cfa.cells gates acts one fs steps) stops;
      };
      light = are_light cfa.cells gates acts one fs steps;
      typed = subst (λ (x : Expr). AllByRecursion (IsExpr cfa.cells) (x ∷ fs)) (sym begins)
          (one_is_expr cfa.cells, are_typed cfa.cells gates acts one fs steps);
    }

-- the weight of one edge more
pub weighs_more : WeightsAreSums → (cfa : Cfa) (a : Act) (acts : List Act) → IsAutomaton cfa
    → IsActOf cfa a → AllByRecursion (IsActOf cfa) acts
    → (behind_cut cfa.cells (a ∷ acts)).weight
    ≡ min (min (act_weight a) (2 ^ 64 - 1) + (behind_cut cfa.cells acts).weight) (2 ^ 64 - 1)
weighs_more sums cfa a acts is act are =
    let places = places_from 0 cfa.cells in
    let rest = sum (map (added_weight places) (added_behind acts)) in
    let all : AllByRecursion (IsAddedOf cfa) (added_behind acts) = all_taken cfa acts are in
    sums cfa false (added_behind (a ∷ acts)) is (act, all)
    ∙ (ap (λ n. min n (2 ^ 64 - 1)) (one_more (added_weight places) (taken a) (added_behind acts))
    ∙ (capped (act_weight a) rest (2 ^ 64 - 1)
    ∙ ap (λ n. min (min (act_weight a) (2 ^ 64 - 1) + n) (2 ^ 64 - 1))
    (sym (sums cfa false (added_behind acts) is all))))
  where
    one_more : (f : Added → ℕ) (x : Added) (xs : List Added)
        → sum (map f (x ∷ xs)) ≡ f x + sum (map f xs)
    one_more f x xs =
        sum-map f (x ∷ xs)
        ∙ (sum_by-cons f x xs ∙ ap (λ n. f x + n) (sym (sum-map f xs)))

    capped : (n m top : ℕ) → min (n + m) top ≡ min (min n top + min m top) top
    capped n m top = omega arith

-- ---- back over one edge

-- behind the last edge there is no step
pub none_back : (cfa : Cfa) (gates : ℕ) (edges : List ℕ) (exprs : List Expr)
    → length exprs ≡ length edges + 1
    → AreStepsIn cfa gates (drop (length edges) edges) (drop (length edges) exprs)
none_back cfa gates [] [] long = absurd (omega (arith, long))
none_back cfa gates [] (e ∷ []) long = refl
none_back cfa gates [] (e ∷ f ∷ fs) long = absurd (omega (arith, long))
none_back cfa gates (n ∷ ns) [] long = absurd (omega (arith, long))
none_back cfa gates (n ∷ ns) (e ∷ fs) long = none_back cfa gates ns fs (omega (arith, long))

pub one_back : (cfa : Cfa) (gates : ℕ) (edges : List ℕ) (exprs : List Expr) (p : ℕ) (g : Edge)
    (e f : Expr) → p < length edges → length exprs ≡ length edges + 1
    → slice_get cfa.edges (get_or edges p 0) ≡ Some g
    → e ≡ get_or exprs p e → f ≡ get_or exprs (p + 1) f
    → IsStep cfa.cells gates e g.act (acts_along cfa (drop (p + 1) edges)) f
    → AreStepsIn cfa gates (drop (p + 1) edges) (drop (p + 1) exprs)
    → AreStepsIn cfa gates (drop p edges) (drop p exprs)
one_back cfa gates edges exprs p g e f less long at own next step rest =
    let n = get_or edges p 0 in
    let ns = drop (p + 1) edges in
    let others = drop (p + 1 + 1) exprs in
    let fs : drop (p + 1) exprs ≡ f ∷ others =
    drop_more exprs (p + 1) f (omega (arith, less, long))
    ∙ ap (λ (x : Expr). x ∷ others) (sym next) in
    let es : drop p exprs ≡ e ∷ f ∷ others =
    drop_more exprs p e (omega (arith, less, long))
    ∙ (ap (λ (x : Expr). x ∷ drop (p + 1) exprs) (sym own) ∙ ap (λ xs. e ∷ xs) fs) in
    let more : AreSteps cfa.cells gates (acts_along cfa ns) f others =
    subst (AreStepsIn cfa gates ns) fs rest in
    subst (λ ms. AreStepsIn cfa gates ms (drop p exprs)) (sym (drop_more edges p 0 less))
    (subst (AreStepsIn cfa gates (n ∷ ns)) (sym es)
    (subst (λ (acts : List Act). AreSteps cfa.cells gates acts e (f ∷ others))
    (sym (acts_of cfa n ns g at)) (step, more)))

-- the weight behind an edge, and so before it
pub weight_back : WeightsAreSums → (cfa : Cfa) → AreLaws cfa → (edges : List ℕ) (p w v : ℕ)
    (g : Edge) → AllByRecursion (λ n. n < length cfa.edges) edges → p < length edges
    → slice_get cfa.edges (get_or edges p 0) ≡ Some g
    → w ≡ (behind_cut cfa.cells (acts_along cfa (drop (p + 1) edges))).weight
    → v ≡ min (min (act_weight g.act) (2 ^ 64 - 1) + w) (2 ^ 64 - 1)
    → v ≡ (behind_cut cfa.cells (acts_along cfa (drop p edges))).weight
weight_back sums cfa laws edges p w v g inside less at was is =
    let ns = drop (p + 1) edges in
    let good = good_path cfa laws ns (rest_in (length cfa.edges) edges (p + 1) inside) in
    is
    ∙ (ap (λ n. min (min (act_weight g.act) (2 ^ 64 - 1) + n) (2 ^ 64 - 1)) was
    ∙ (sym (weighs_more sums cfa g.act (acts_along cfa ns) laws.automaton
    (laws.sound (get_or edges p 0) g at).act good.fit)
    ∙ (ap (λ (acts : List Act). (behind_cut cfa.cells acts).weight)
    (sym (acts_of cfa (get_or edges p 0) ns g at))
    ∙ ap (λ ms. (behind_cut cfa.cells (acts_along cfa ms)).weight)
    (sym (drop_more edges p 0 less)))))

-- the first cut of a path, by the weight of its parts
pub light_first : (cfa : Cfa) (gates : ℕ) (path : List ℕ)
    → AllByRecursion (λ n. n < length cfa.edges) path
    → ((g : Edge) → slice_get cfa.edges (get_or path 0 0) ≡ Some g
    → weight_at cfa.cells one g.act (acts_along cfa (drop 1 path)) ≤ gates)
    → IsLight cfa.cells gates (acts_along cfa path)
light_first cfa gates [] inside light = tt
light_first cfa gates (n ∷ ns) inside light =
    let g = edge_there cfa n inside.0 in
    subst (λ (acts : List Act). IsLight cfa.cells gates acts) (sym (acts_of cfa n ns g.0 g.1))
    (light g.0 g.1)

-- behind the last edge nothing weighs
pub weighs_none : (cfa : Cfa) (edges : List ℕ)
    → 0 ≡ (behind_cut cfa.cells (acts_along cfa (drop (length edges) edges))).weight
weighs_none cfa [] = refl
weighs_none cfa (n ∷ ns) = weighs_none cfa ns
