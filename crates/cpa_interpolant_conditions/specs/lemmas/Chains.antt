-- What a chain of operators makes has the chain's truth.
use Rattle.std.proofs.Common.{◌≡◌, ℕ, ◌&&◌, ◌||◌, Bool, true, false, List, [], ◌∷◌, ◌++◌, map}
use Rattle.std.proofs.Common.{refl, sym, ap, ◌∙◌}
use Rattle.std.proofs.Common.{zero, suc}
use Rattle.std.specs.Prelude.{slice_index_or, if◌then◌else◌}
use Rattle.std.specs.List.{AllByRecursion, list_any}
use Rattle.std.proofs.lemmas.List.{append_assoc}
use Rattle.cpa_cnf.specs.Models.{value_of_literal}
use Rattle.cpa_chains.specs.declared.partial.Joint.{Joint}
use Rattle.cpa_chains.specs.declared.partial.Leaf.{Leaf}
use Rattle.cpa_chains.specs.declared.partial.Leaf.TheVariants.{Always, Any}
use Rattle.cpa_chains.specs.Partials.{joined, leaf_value}
use Rattle.cpa_interpolant_bits.specs.declared.nodes.Node.{Node}
use Rattle.cpa_interpolant_bits.specs.declared.nodes.Condition.{Condition}
use Rattle.cpa_interpolant_bits.specs.declared.nodes.Condition.TheVariants.{Known}
use Rattle.cpa_interpolant_bits.specs.Nodes.{truth_in, IsScoped, IsInside, Made, made}
use Rattle.cpa_interpolant_bits.specs.Nodes.{literal_made, both_made, either_made}
use Rattle.cpa_interpolant_bits.specs.Meanings.{Grows, IsMade}
use Rattle.cpa_interpolant_bits.specs.Laws.{conditions_mean}
use Rattle.cpa_interpolant_conditions.specs.Making.{any_made, leaf_made, condition_at}
use Rattle.cpa_interpolant_conditions.specs.Making.{joint_made, joints_made}

pub grows_on : (a b c : List Node) → Grows a b → Grows b c → Grows a c
grows_on a b c first second = record {
  more = second.more ++ first.more;
  is = second.is ∙ ap (λ nodes. second.more ++ nodes) first.is
      ∙ sym (append_assoc second.more first.more a);
}

nothing_more : (nodes : List Node) → Grows nodes nodes
nothing_more nodes = record { more = []; is = refl }

-- a condition that stands is made as it is
pub stands : (nodes : List Node) (c : Condition) (f : List Bool → Bool) → IsScoped nodes
    → IsInside nodes c → ((values : List Bool) → truth_in values nodes c ≡ f values)
    → IsMade nodes (made nodes c) f
stands nodes c f scoped inside truth = record {
  grows = nothing_more nodes;
  scoped = scoped;
  inside = inside;
  truth = truth;
}

-- what is made of what was made
pub made_on : (old : List Node) (m n : Made) (f g h : List Bool → Bool) → IsMade old m f
    → IsMade m.nodes n g → ((values : List Bool) → g values ≡ h values) → IsMade old n h
made_on old m n f g h is behind same = record {
  grows = grows_on old m.nodes n.nodes is.grows behind.grows;
  scoped = behind.scoped;
  inside = behind.inside;
  truth = λ values. behind.truth values ∙ same values;
}

or_assoc : (x y z : Bool) → ((x || y) || z) ≡ (x || (y || z))
or_assoc true y z = refl
or_assoc false y z = refl

or_false : (x : Bool) → x ≡ (x || false)
or_false true = refl
or_false false = refl

both_or : (a b c d : Bool) → a ≡ b → c ≡ d → (a || c) ≡ (b || d)
both_or a b c d first second = rw (first, second) refl

both_and : (a b c d : Bool) → a ≡ b → c ≡ d → (a && c) ≡ (b && d)
both_and a b c d first second = rw (first, second) refl

-- ---- literals

module _ (old : List Node) where
  -- one literal more
  one_more : (m : Made) (l : ℕ) (f : List Bool → Bool) → IsMade old m f
      → IsMade old (either_made (literal_made m.nodes l).nodes m.condition
      (literal_made m.nodes l).condition) (λ values. f values || value_of_literal values l)
  one_more m l f is =
      let one = literal_made m.nodes l in
      let literal = conditions_mean.literal m.nodes l is.scoped in
      let inside = conditions_mean.inside m.nodes one.nodes m.condition literal.grows is.inside in
      let behind = conditions_mean.either one.nodes literal.scoped m.condition one.condition inside
      literal.inside in
      record {
        grows = grows_on old one.nodes (either_made one.nodes m.condition one.condition).nodes
            (grows_on old m.nodes one.nodes is.grows literal.grows) behind.grows;
        scoped = behind.scoped;
        inside = behind.inside;
        truth = λ values. behind.truth values
            ∙ both_or (truth_in values one.nodes m.condition) (f values)
            (truth_in values one.nodes one.condition) (value_of_literal values l)
            (conditions_mean.same m.nodes one.nodes m.condition values literal.grows is.inside
            ∙ is.truth values) (literal.truth values);
      }

  pub any_is : (ls : List ℕ) (m : Made) (f : List Bool → Bool) → IsMade old m f
      → IsMade old (any_made m ls) (λ values. f values || list_any (value_of_literal values) ls)
  any_is [] m f is = record {
    grows = is.grows;
    scoped = is.scoped;
    inside = is.inside;
    truth = λ values. is.truth values ∙ or_false (f values);
  }
  any_is (l ∷ ls) m f is =
      let one = literal_made m.nodes l in
      let rest = any_is ls (either_made one.nodes m.condition one.condition)
      (λ values. f values || value_of_literal values l) (one_more m l f is) in
      record {
        grows = rest.grows;
        scoped = rest.scoped;
        inside = rest.inside;
        truth = λ values. rest.truth values
            ∙ or_assoc (f values) (value_of_literal values l)
            (list_any (value_of_literal values) ls);
      }

pub leaf_is : (nodes : List Node) (leaf : Leaf) → IsScoped nodes
    → IsMade nodes (leaf_made nodes leaf) (λ values. leaf_value values leaf)
leaf_is nodes Always scoped = stands nodes (Known true) _ scoped tt (λ values. refl)
leaf_is nodes (Any literals) scoped =
    any_is nodes literals (made nodes (Known false)) (λ values. false)
    (stands nodes (Known false) _ scoped tt (λ values. refl))

-- ---- joints

-- the condition of a number stands, and has the value of the number
pub at_inside : (nodes : List Node) (conditions : List Condition) (number : ℕ)
    → AllByRecursion (IsInside nodes) conditions
    → IsInside nodes (condition_at conditions number)
at_inside nodes [] number all = tt
at_inside nodes (c ∷ cs) zero all = all.0
at_inside nodes (c ∷ cs) (suc number) all = at_inside nodes cs number all.1

pub at_value : (values : List Bool) (nodes : List Node) (conditions : List Condition) (number : ℕ)
    → truth_in values nodes (condition_at conditions number)
    ≡ slice_index_or (map (truth_in values nodes) conditions) number false
at_value values nodes [] number = refl
at_value values nodes (c ∷ cs) zero = refl
at_value values nodes (c ∷ cs) (suc number) = at_value values nodes cs number

module _ (old : List Node) (known : List Condition) (inside : AllByRecursion (IsInside old) known)
  where
    abbrev values_of : List Bool → List Bool
    values_of values = map (truth_in values old) known

    abbrev step_of : (values : List Bool) (value : Bool) (joint : Joint) → Bool
    step_of values value joint =
        let other = slice_index_or (values_of values) joint.clause false in
        if joint.or then value || other else value && other

    joined_by : (or : Bool) (m : Made) (other : Condition) (f : List Bool → Bool) → IsMade old m f
        → IsInside old other
        → IsMade old (if or then either_made m.nodes m.condition other
        else both_made m.nodes m.condition other)
        (λ values. if or then f values || truth_in values old other
        else f values && truth_in values old other)
    joined_by true m other f is within =
        made_on old m (either_made m.nodes m.condition other) f
        (λ values. truth_in values m.nodes m.condition || truth_in values m.nodes other)
        (λ values. f values || truth_in values old other) is
        (conditions_mean.either m.nodes is.scoped m.condition other is.inside
        (conditions_mean.inside old m.nodes other is.grows within))
        (λ values. both_or (truth_in values m.nodes m.condition) (f values)
        (truth_in values m.nodes other) (truth_in values old other) (is.truth values)
        (conditions_mean.same old m.nodes other values is.grows within))
    joined_by false m other f is within =
        made_on old m (both_made m.nodes m.condition other) f
        (λ values. truth_in values m.nodes m.condition && truth_in values m.nodes other)
        (λ values. f values && truth_in values old other) is
        (conditions_mean.both m.nodes is.scoped m.condition other is.inside
        (conditions_mean.inside old m.nodes other is.grows within))
        (λ values. both_and (truth_in values m.nodes m.condition) (f values)
        (truth_in values m.nodes other) (truth_in values old other) (is.truth values)
        (conditions_mean.same old m.nodes other values is.grows within))

    one_joint : (m : Made) (joint : Joint) (f : List Bool → Bool) → IsMade old m f
        → IsMade old (joint_made known m joint) (λ values. step_of values (f values) joint)
    one_joint m joint f is =
        let other = condition_at known joint.clause in
        let by = joined_by joint.or m other f is (at_inside old known joint.clause inside) in
        record {
          grows = by.grows;
          scoped = by.scoped;
          inside = by.inside;
          truth = λ values. by.truth values
              ∙ ap (λ x. if joint.or then f values || x else f values && x)
              (at_value values old known joint.clause);
        }

    pub joints_are : (joints : List Joint) (m : Made) (f : List Bool → Bool) → IsMade old m f
        → IsMade old (joints_made known m joints)
        (λ values. joined (map (truth_in values old) known) (f values) joints)
    joints_are [] m f is = is
    joints_are (joint ∷ joints) m f is =
        joints_are joints (joint_made known m joint) (λ values. step_of values (f values) joint)
        (one_joint m joint f is)
