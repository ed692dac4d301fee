-- The conditions of all numbers have the values of the numbers.
use Rattle.std.proofs.Common.{◌≡◌, ◌-◌, Bool, false, List, [], ◌∷◌, ◌++◌, map, length}
use Rattle.std.proofs.Common.{refl, sym, ap, ◌∙◌}
use Rattle.std.specs.Prelude.{slice_index_or}
use Rattle.std.specs.List.{AllByRecursion}
use Rattle.std.proofs.lemmas.List.{append_assoc, map_push, length-map, append-nil}
use Rattle.cpa_chains.specs.declared.partial.Leaf.{Leaf}
use Rattle.cpa_chains.specs.declared.partial.Partial.{Partial}
use Rattle.cpa_chains.specs.Partials.{leaf_value, partial_value, values_behind, last_value}
use Rattle.cpa_interpolant_bits.specs.declared.nodes.Node.{Node}
use Rattle.cpa_interpolant_bits.specs.declared.nodes.Condition.{Condition}
use Rattle.cpa_interpolant_bits.specs.Nodes.{truth_in, IsScoped, IsInside, Made, made}
use Rattle.cpa_interpolant_bits.specs.Meanings.{Grows, IsMade}
use Rattle.cpa_interpolant_bits.specs.Laws.{conditions_mean}
use Rattle.cpa_interpolant_conditions.specs.Making.{Numbered, numbered, more, leaf_made}
use Rattle.cpa_interpolant_conditions.specs.Making.{leaves_made, condition_at, partial_made}
use Rattle.cpa_interpolant_conditions.specs.Making.{partials_made, last_made, condition_made}
use Rattle.cpa_interpolant_conditions.specs.lemmas.Chains.{grows_on, leaf_is, joints_are, stands}
use Rattle.cpa_interpolant_conditions.specs.lemmas.Chains.{at_inside, at_value}

-- conditions made behind older nodes, with these values
pub record AreMade (old : List Node) (all : Numbered) (f : List Bool → List Bool) : Type 0 where
  pub grows : Grows old all.nodes
  pub scoped : IsScoped all.nodes
  pub inside : AllByRecursion (IsInside all.nodes) all.conditions
  pub values : (values : List Bool) → map (truth_in values all.nodes) all.conditions ≡ f values

all_inside : (old new : List Node) → Grows old new → (cs : List Condition)
    → AllByRecursion (IsInside old) cs → AllByRecursion (IsInside new) cs
all_inside old new grows [] all = tt
all_inside old new grows (c ∷ cs) all =
    (conditions_mean.inside old new c grows all.0, all_inside old new grows cs all.1)

all_same : (old new : List Node) (values : List Bool) → Grows old new → (cs : List Condition)
    → AllByRecursion (IsInside old) cs
    → map (truth_in values new) cs ≡ map (truth_in values old) cs
all_same old new values grows [] all = refl
all_same old new values grows (c ∷ cs) all =
    rw (conditions_mean.same old new c values grows all.0, all_same old new values grows cs all.1)
    refl

one_inside : (nodes : List Node) (cs : List Condition) (c : Condition)
    → AllByRecursion (IsInside nodes) cs → IsInside nodes c
    → AllByRecursion (IsInside nodes) (cs ++ c ∷ [])
one_inside nodes [] c all is = (is, tt)
one_inside nodes (first ∷ cs) c all is = (all.0, one_inside nodes cs c all.1 is)

-- one more, made behind those that are there
one_more : (old : List Node) (all : Numbered) (m : Made) (f : List Bool → List Bool)
    (g : List Bool → Bool) → AreMade old all f → IsMade all.nodes m g
    → AreMade old (more all m) (λ values. f values ++ g values ∷ [])
one_more old all m f g are is = record {
  grows = grows_on old all.nodes m.nodes are.grows is.grows;
  scoped = is.scoped;
  inside = one_inside m.nodes all.conditions m.condition
      (all_inside all.nodes m.nodes is.grows all.conditions are.inside) is.inside;
  values = λ values. map_push (truth_in values m.nodes) all.conditions m.condition
      ∙ ap (λ (xs : List Bool). xs ++ truth_in values m.nodes m.condition ∷ [])
      (all_same all.nodes m.nodes values is.grows all.conditions are.inside ∙ are.values values)
      ∙ ap (λ x. f values ++ x ∷ []) (is.truth values);
}

-- the same with values in other words
told : (old : List Node) (all : Numbered) (f g : List Bool → List Bool) → AreMade old all f
    → ((values : List Bool) → f values ≡ g values) → AreMade old all g
told old all f g are same = record {
  grows = are.grows;
  scoped = are.scoped;
  inside = are.inside;
  values = λ values. are.values values ∙ same values;
}

leaves_are : (old : List Node) (leaves : List Leaf) (all : Numbered) (f : List Bool → List Bool)
    → AreMade old all f
    → AreMade old (leaves_made all leaves) (λ values. f values ++ map (leaf_value values) leaves)
leaves_are old [] all f are = told old all f (λ values. f values ++ []) are
    (λ values. sym (append-nil (f values)))
leaves_are old (leaf ∷ leaves) all f are =
    told old (leaves_made (more all (leaf_made all.nodes leaf)) leaves)
    (λ values. (f values ++ leaf_value values leaf ∷ []) ++ map (leaf_value values) leaves)
    (λ values. f values ++ map (leaf_value values) (leaf ∷ leaves))
    (leaves_are old leaves (more all (leaf_made all.nodes leaf))
    (λ values. f values ++ leaf_value values leaf ∷ [])
    (one_more old all (leaf_made all.nodes leaf) f (λ values. leaf_value values leaf) are
    (leaf_is all.nodes leaf are.scoped)))
    (λ values. append_assoc (f values) (leaf_value values leaf ∷ [])
    (map (leaf_value values) leaves))

partial_is : (old : List Node) (all : Numbered) (p : Partial) (f : List Bool → List Bool)
    → AreMade old all f
    → IsMade all.nodes (partial_made all p) (λ values. partial_value (f values) p)
partial_is old all p f are =
    let first = condition_at all.conditions p.first in
    let is = joints_are all.nodes all.conditions are.inside p.joints (made all.nodes first)
    (λ values. slice_index_or (map (truth_in values all.nodes) all.conditions) p.first false)
    (stands all.nodes first _ are.scoped (at_inside all.nodes all.conditions p.first are.inside)
    (λ values. at_value values all.nodes all.conditions p.first)) in
    record {
      grows = is.grows;
      scoped = is.scoped;
      inside = is.inside;
      truth = λ values. is.truth values
          ∙ ap (λ (known : List Bool). partial_value known p) (are.values values);
    }

partials_are : (old : List Node) (ps : List Partial) (all : Numbered) (f : List Bool → List Bool)
    → AreMade old all f
    → AreMade old (partials_made all ps) (λ values. values_behind (f values) ps)
partials_are old [] all f are = are
partials_are old (p ∷ ps) all f are =
    partials_are old ps (more all (partial_made all p))
    (λ values. f values ++ partial_value (f values) p ∷ [])
    (one_more old all (partial_made all p) f (λ values. partial_value (f values) p) are
    (partial_is old all p f are))

last_is : (old : List Node) (all : Numbered) (f : List Bool → List Bool) → AreMade old all f
    → IsMade old (last_made all)
    (λ values. slice_index_or (f values) (length (f values) - 1) false)
last_is old all f are = record {
  grows = are.grows;
  scoped = are.scoped;
  inside = at_inside all.nodes all.conditions (length all.conditions - 1) are.inside;
  truth = λ values. at_value values all.nodes all.conditions (length all.conditions - 1)
      ∙ ap (λ n. slice_index_or (map (truth_in values all.nodes) all.conditions) (n - 1) false)
      (sym (length-map all.conditions (truth_in values all.nodes)))
      ∙ ap (λ (xs : List Bool). slice_index_or xs (length xs - 1) false) (are.values values);
}

pub condition_is : (nodes : List Node) (leaves : List Leaf) (partials : List Partial)
    → IsScoped nodes → IsMade nodes (condition_made nodes leaves partials)
    (λ values. last_value values leaves partials)
condition_is nodes leaves partials scoped =
    let none : AreMade nodes (numbered nodes []) (λ values. []) = record {
      grows = record { more = []; is = refl };
      scoped = scoped;
      inside = tt;
      values = λ values. refl;
    } in
    last_is nodes (partials_made (leaves_made (numbered nodes []) leaves) partials)
    (λ values. values_behind (map (leaf_value values) leaves) partials)
    (partials_are nodes partials (leaves_made (numbered nodes []) leaves)
    (λ values. map (leaf_value values) leaves)
    (leaves_are nodes leaves (numbered nodes []) (λ values. []) none))
