-- A position more keeps what nodes keep (`are_more`), and its objects are those of its parent and
-- its own (`way_last`); positions further up (`upper_step`), and whether one is below another
-- (`contains_end`).
use Rattle.std.proofs.Common.{◌≡◌, ℕ, ◌+◌, ◌<◌, ◌≤◌, eqb, not, List}
use Rattle.std.proofs.Common.{[], ◌∷◌, ◌++◌, length, get_or, take, Some, Option, refl, sym, ap}
use Rattle.std.proofs.Common.{◌∙◌, subst, inl, inr, ◌⊎◌, ⊎_elim, arith, append_assoc}
use Rattle.std.proofs.Common.{length-append, unwrap_or, option_map}
use Rattle.std.specs.List.{AllByRecursion}
use Rattle.std.specs.Option.{option_to_list}
use Rattle.std.proofs.lemmas.Bool.{cases_eq, cases_lt, eq-eqb, ne_eqb}
use Rattle.std.proofs.lemmas.List.{get_or_append_left, take-append-le, get_or_default}
use Rattle.std.proofs.Math.Seq.{get_or-append_seam}
use Rattle.c_types_jumps.specs.declared.tree.Node.{Node}
use Rattle.c_types_jumps.specs.declared.tree.Tree.{Tree}
use Rattle.c_types_jumps.specs.Trees.{ways_onto, way_at, root, node_at, bound_of, bound_at, IsLink}
use Rattle.c_types_jumps.specs.Trees.{IsNode, IsNodeAt, AreNodes, IsTree, enters_way}
use Rattle.c_types_jumps.proofs.Lists.{all_both, all_weaker, all_last}
use Rattle.c_types_jumps.proofs.Entering.{drop_rest, enters_itself, enters_lower}

-- the objects of a node where these are those of the positions before it
abbrev pub own_way : List (List ℕ) → Node → List ℕ
own_way ways node = get_or ways node.parent [] ++ option_to_list node.own

ways_more : (ways : List (List ℕ)) (nodes : List Node) (node : Node)
    → ways_onto ways (nodes ++ node ∷ [])
    ≡ ways_onto ways nodes ++ own_way (ways_onto ways nodes) node ∷ []
ways_more ways [] node = refl
ways_more ways (one ∷ nodes) node = ways_more (ways ++ own_way ways one ∷ []) nodes node

ways_length : (ways : List (List ℕ)) (nodes : List Node)
    → length (ways_onto ways nodes) ≡ length ways + length nodes
ways_length ways [] = omega arith
ways_length ways (one ∷ nodes) =
    let rest = ways_length (ways ++ own_way ways one ∷ []) nodes in
    omega (arith, rest, length-append ways (own_way ways one ∷ []))

pub way_kept : (nodes : List Node) (node : Node) (position : ℕ) → position < length nodes
    → way_at (nodes ++ node ∷ []) position ≡ way_at nodes position
way_kept nodes node position less =
    ap (λ (ways : List (List ℕ)). get_or ways position []) (ways_more [] nodes node)
    ∙ get_or_append_left (ways_onto [] nodes) (own_way (ways_onto [] nodes) node ∷ []) [] position
    (omega (arith, ways_length [] nodes))

pub way_last : (nodes : List Node) (node : Node)
    → way_at (nodes ++ node ∷ []) (length nodes)
    ≡ way_at nodes node.parent ++ option_to_list node.own
way_last nodes node =
    let ways = ways_onto [] nodes in
    let same : length ways ≡ length nodes = omega (arith, ways_length [] nodes) in
    ap (λ (all : List (List ℕ)). get_or all (length nodes) []) (ways_more [] nodes node)
    ∙ subst (λ (n : ℕ). get_or (ways ++ own_way ways node ∷ []) n [] ≡ own_way ways node) same
    (get_or-append_seam ways (own_way ways node) [] [])

node_kept : (nodes : List Node) (node : Node) (position : ℕ) → position < length nodes
    → node_at (nodes ++ node ∷ []) position ≡ node_at nodes position
node_kept nodes node position less = get_or_append_left nodes (node ∷ []) root position less

node_last : (nodes : List Node) (node : Node) → node_at (nodes ++ node ∷ []) (length nodes) ≡ node
node_last nodes node = get_or-append_seam nodes node [] root

node_same : (first position : ℕ) (a b : Node) (way new_way upper new_upper over new_over : List ℕ)
    (bound new_bound : ℕ) → a ≡ b → way ≡ new_way → upper ≡ new_upper → over ≡ new_over
    → bound ≡ new_bound → IsNode first position b new_way new_upper new_over new_bound
    → IsNode first position a way upper over bound
node_same first position a b way new_way upper new_upper over new_over bound new_bound e f g h i
    is =
    subst (λ (x : Node). IsNode first position x way upper over bound) (sym e)
    (subst (λ (w : List ℕ). IsNode first position b w upper over bound) (sym f)
    (subst (λ (w : List ℕ). IsNode first position b new_way w over bound) (sym g)
    (subst (λ (w : List ℕ). IsNode first position b new_way new_upper w bound) (sym h)
    (subst (λ (n : ℕ). IsNode first position b new_way new_upper new_over n) (sym i) is))))

kept_node : (first : ℕ) (nodes : List Node) (node : Node) (position : ℕ)
    → position < length nodes → IsNodeAt first nodes position
    → IsNodeAt first (nodes ++ node ∷ []) position
kept_node first nodes node position less is =
    let all = nodes ++ node ∷ [] in
    let old = node_at nodes position in
    let same = node_kept nodes node position less in
    let parent_in : old.parent < length nodes = omega (arith, is.parent) in
    let jump_in : old.jump < length nodes = omega (arith, is.jump) in
    node_same first position (node_at all position) old (way_at all position)
    (way_at nodes position) (way_at all (node_at all position).parent) (way_at nodes old.parent)
    (way_at all (node_at all position).jump) (way_at nodes old.jump)
    (bound_at all (node_at all position).jump) (bound_at nodes old.jump) same
    (way_kept nodes node position less)
    (ap (λ (x : Node). way_at all x.parent) same ∙ way_kept nodes node old.parent parent_in)
    (ap (λ (x : Node). way_at all x.jump) same ∙ way_kept nodes node old.jump jump_in)
    (ap (λ (x : Node). bound_at all x.jump) same
    ∙ ap (λ (x : Node). bound_of x) (node_kept nodes node old.jump jump_in)) is

-- bounds do not fall
bounds_rise : (first next : ℕ) (nodes : List Node) → AreNodes first next nodes → (p q : ℕ) → p ≤ q
    → q < length nodes → bound_at nodes p ≤ bound_at nodes q
bounds_rise first next nodes are p q le less = ⊎_elim
    (λ (same : p ≡ q).
    subst (λ (n : ℕ). bound_at nodes p ≤ bound_at nodes n) same (omega arith))
    (λ (other : p ≡ q → ⊥). let up = are.rise p q (omega arith) less in omega (arith, up))
    (cases_eq p q)

-- a link over the parent, and over what it jumps to twice
link_near : (way : List ℕ) (number bound : ℕ) → bound ≤ number
    → IsLink (way ++ number ∷ []) way bound
link_near way number bound le = record { rest = number ∷ []; is = refl; later = (le, tt) }

link_far : (way near far : List ℕ) (number near_bound bound : ℕ) → IsLink way near near_bound
    → IsLink near far bound → bound ≤ near_bound → bound ≤ number
    → IsLink (way ++ number ∷ []) far bound
link_far way near far number near_bound bound first second le below = record {
  rest = second.rest ++ (first.rest ++ number ∷ []);
  is = ap (λ (w : List ℕ). w ++ number ∷ []) (first.is
      ∙ ap (λ (w : List ℕ). w ++ first.rest) second.is)
      ∙ append_assoc (far ++ second.rest) first.rest (number ∷ [])
      ∙ append_assoc far second.rest (first.rest ++ number ∷ []);
  later = all_both (λ n. bound ≤ n) second.rest (first.rest ++ number ∷ []) second.later
      (all_both (λ n. bound ≤ n) first.rest (number ∷ [])
      (all_weaker (λ n. near_bound ≤ n) (λ n. bound ≤ n) (λ n up. omega arith) first.rest
      first.later) (below, tt));
}

-- where a node below a position may jump
abbrev pub IsJump : List Node → ℕ → ℕ → Type 0
IsJump nodes here jump =
    (jump ≡ here) ⊎ (jump ≡ (node_at nodes (node_at nodes here).jump).jump)

-- the number of an object, where it begins at a position
bound_own : (node : Node) (number : ℕ) → node.own ≡ Some number → bound_of node ≡ number + 1
bound_own node number is =
    ap (λ (own : Option ℕ). unwrap_or (option_map (λ n. n + 1) own) 0) is

-- a new link leads up, wherever it jumps
new_link : (first next number here jump : ℕ) (nodes : List Node) → AreNodes first next nodes
    → here < length nodes → next ≤ number → IsJump nodes here jump
    → IsLink (way_at nodes here ++ number ∷ []) (way_at nodes jump) (bound_at nodes jump)
new_link first next number here jump nodes are less le (inl same) =
    let below = are.reached here less in
    subst (λ (n : ℕ).
    IsLink (way_at nodes here ++ number ∷ []) (way_at nodes n) (bound_at nodes n)) (sym same)
    (link_near (way_at nodes here) number (bound_at nodes here) (omega (arith, below)))
new_link first next number here jump nodes are less le (inr same) =
    let near = (node_at nodes here).jump in
    let far = (node_at nodes near).jump in
    let near_le = (are.each here less).jump in
    let near_in : near < length nodes = omega (arith, near_le) in
    let far_le = (are.each near near_in).jump in
    let far_in : far < length nodes = omega (arith, far_le) in
    let up = bounds_rise first next nodes are far near far_le near_in in
    let below = are.reached far far_in in
    subst (λ (n : ℕ).
    IsLink (way_at nodes here ++ number ∷ []) (way_at nodes n) (bound_at nodes n)) (sym same)
    (link_far (way_at nodes here) (way_at nodes near) (way_at nodes far) number
    (bound_at nodes near) (bound_at nodes far) (are.each here less).link
    (are.each near near_in).link up (omega (arith, below)))

jump_le : (first next here jump : ℕ) (nodes : List Node) → AreNodes first next nodes
    → here < length nodes → IsJump nodes here jump → jump ≤ here
jump_le first next here jump nodes are less (inl same) = omega arith
jump_le first next here jump nodes are less (inr same) =
    let near = (node_at nodes here).jump in
    let near_le = (are.each here less).jump in
    let near_in : near < length nodes = omega (arith, near_le) in
    let far_le = (are.each near near_in).jump in
    omega (arith, near_le, far_le)

new_node : (first next number here : ℕ) (nodes : List Node) (node : Node)
    → AreNodes first next nodes → here < length nodes → next ≤ number → node.own ≡ Some number
    → node.parent ≡ here → IsJump nodes here node.jump → node.depth ≡ (node_at nodes here).depth + 1
    → IsNode first (length nodes) node (way_at nodes here ++ number ∷ []) (way_at nodes here)
    (way_at nodes node.jump) (bound_at nodes node.jump)
new_node first next number here nodes node are less le own parent jumps depth =
    let up = are.each here less in
    let below = are.reached here less in
    let jump_up = jump_le first next here node.jump nodes are less jumps in
    let bound = bound_own node number own in
    record {
      own = λ _. (number, own);
      up = λ _. omega arith;
      parent = omega arith;
      far = λ _. omega arith;
      jump = omega arith;
      way_is = ap (λ (o : Option ℕ). way_at nodes here ++ option_to_list o) (sym own);
      link = new_link first next number here node.jump nodes are less le jumps;
      depth = omega (arith, up.depth, length-append (way_at nodes here) (number ∷ []));
      deep = omega (arith, up.deep);
      below = all_both (λ n. n < bound_of node) (way_at nodes here) (number ∷ [])
          (all_weaker (λ n. n < bound_at nodes here) (λ n. n < bound_of node)
          (λ n under. omega arith) (way_at nodes here) up.below) (omega arith, tt);
      above = all_both (λ n. first ≤ n) (way_at nodes here) (number ∷ []) up.above
          (omega (arith, are.from), tt);
    }

new_at : (first next number here : ℕ) (nodes : List Node) (node : Node)
    → AreNodes first next nodes → here < length nodes → next ≤ number → node.own ≡ Some number
    → node.parent ≡ here → IsJump nodes here node.jump → node.depth ≡ (node_at nodes here).depth + 1
    → IsNodeAt first (nodes ++ node ∷ []) (length nodes)
new_at first next number here nodes node are less le own parent jumps depth =
    let all = nodes ++ node ∷ [] in
    let last = length nodes in
    let same = node_last nodes node in
    let jump_up = jump_le first next here node.jump nodes are less jumps in
    let jump_in : node.jump < length nodes = omega arith in
    node_same first last (node_at all last) node (way_at all last)
    (way_at nodes here ++ number ∷ []) (way_at all (node_at all last).parent) (way_at nodes here)
    (way_at all (node_at all last).jump) (way_at nodes node.jump)
    (bound_at all (node_at all last).jump) (bound_at nodes node.jump) same
    (way_last nodes node
    ∙ ap (λ (n : ℕ). way_at nodes n ++ option_to_list node.own) parent
    ∙ ap (λ (o : Option ℕ). way_at nodes here ++ option_to_list o) own)
    (ap (λ (x : Node). way_at all x.parent) same ∙ ap (λ (n : ℕ). way_at all n) parent
    ∙ way_kept nodes node here less)
    (ap (λ (x : Node). way_at all x.jump) same ∙ way_kept nodes node node.jump jump_in)
    (ap (λ (x : Node). bound_at all x.jump) same
    ∙ ap (λ (x : Node). bound_of x) (node_kept nodes node node.jump jump_in))
    (new_node first next number here nodes node are less le own parent jumps depth)

pub are_more : (first next number here : ℕ) (nodes : List Node) (node : Node)
    → AreNodes first next nodes → here < length nodes → next ≤ number → node.own ≡ Some number
    → node.parent ≡ here → IsJump nodes here node.jump → node.depth ≡ (node_at nodes here).depth + 1
    → AreNodes first (number + 1) (nodes ++ node ∷ [])
are_more first next number here nodes node are less le own parent jumps depth =
    let all = nodes ++ node ∷ [] in
    let more = length-append nodes (node ∷ []) in
    let last_bound : bound_at all (length nodes) ≡ number + 1 =
    ap (λ (x : Node). bound_of x) (node_last nodes node) ∙ bound_own node number own in
    record {
      each = λ position within. ⊎_elim
          (λ (old : position < length nodes).
          kept_node first nodes node position old (are.each position old))
          (λ (new : length nodes ≤ position).
          let last : length nodes ≡ position = omega (arith, more) in
          subst (λ (n : ℕ). IsNodeAt first all n) last
          (new_at first next number here nodes node are less le own parent jumps depth))
          (cases_lt position (length nodes));
      rise = λ p q under within.
          let low : p < length nodes = omega (arith, more) in
          let same = ap (λ (x : Node). bound_of x) (node_kept nodes node p low) in
          let reached = are.reached p low in
          ⊎_elim
          (λ (old : q < length nodes).
          let up = are.rise p q under old in
          omega (arith, up, same, ap (λ (x : Node). bound_of x) (node_kept nodes node q old)))
          (λ (new : length nodes ≤ q).
          let last : length nodes ≡ q = omega (arith, more) in
          subst (λ (n : ℕ). bound_at all p < bound_at all n) last
          (omega (arith, same, reached, last_bound)))
          (cases_lt q (length nodes));
      reached = λ position within. ⊎_elim
          (λ (old : position < length nodes).
          let reached = are.reached position old in
          omega (arith, reached, ap (λ (x : Node). bound_of x) (node_kept nodes node position old)))
          (λ (new : length nodes ≤ position).
          let last : length nodes ≡ position = omega (arith, more) in
          subst (λ (n : ℕ). bound_at all n ≤ number + 1) last (omega (arith, last_bound)))
          (cases_lt position (length nodes));
      from = omega (arith, are.from);
    }

-- the first position alone
pub are_begun : (first : ℕ) → AreNodes first first (root ∷ [])
are_begun first = record {
  each = λ position within.
      let is : 0 ≡ position = omega arith in
      subst (λ (n : ℕ). IsNodeAt first (root ∷ []) n) is (record {
        own = λ less. absurd (omega arith);
        up = λ less. absurd (omega arith);
        parent = omega arith;
        far = λ less. absurd (omega arith);
        jump = omega arith;
        way_is = refl;
        link = record { rest = []; is = refl; later = tt };
        depth = refl;
        deep = omega arith;
        below = tt;
        above = tt;
      });
  rise = λ p q under within. absurd (omega arith);
  reached = λ position within.
      let is : 0 ≡ position = omega arith in
      subst (λ (n : ℕ). bound_at (root ∷ []) n ≤ first) is (omega arith);
  from = omega arith;
}

-- one position up, where more objects are in scope than are kept
pub upper_step : (first next : ℕ) (nodes : List Node) (here count : ℕ) → AreNodes first next nodes
    → here < length nodes → count < (node_at nodes here).depth
    → take count (way_at nodes (node_at nodes here).parent) ≡ take count (way_at nodes here)
upper_step first next nodes here count are less deep =
    let node = node_at nodes here in
    let is = are.each here less in
    let positive : 0 < here = omega (arith, is.deep) in
    let own = is.own positive in
    let way_is = is.way_is
    ∙ ap (λ (o : Option ℕ). way_at nodes node.parent ++ option_to_list o) own.1 in
    let long : count ≤ length (way_at nodes node.parent) =
    omega (
      arith,
      is.depth,
      ap length way_is,
      length-append (way_at nodes node.parent) (own.0 ∷ []),
    ) in
    sym (ap (λ (w : List ℕ). take count w) way_is
    ∙ take-append-le count (way_at nodes node.parent) (own.0 ∷ []) long)

pub parent_within : (first next : ℕ) (nodes : List Node) (here : ℕ) → AreNodes first next nodes
    → here < length nodes → (node_at nodes here).parent < length nodes
parent_within first next nodes here are less = omega (arith, (are.each here less).parent)

pub parent_less : (first next : ℕ) (nodes : List Node) (here : ℕ) → AreNodes first next nodes
    → here < length nodes → 0 < here → (node_at nodes here).parent < here
parent_less first next nodes here are less positive = (are.each here less).up positive

pub jump_less : (first next : ℕ) (nodes : List Node) (here : ℕ) → AreNodes first next nodes
    → here < length nodes → 0 < here → (node_at nodes here).jump < here
jump_less first next nodes here are less positive = (are.each here less).far positive

pub jump_within : (first next : ℕ) (nodes : List Node) (here : ℕ) → AreNodes first next nodes
    → here < length nodes → (node_at nodes here).jump < length nodes
jump_within first next nodes here are less = omega (arith, (are.each here less).jump)

-- a jump that does not pass a position makes no difference to what enters its scopes
pub over_step : (first next : ℕ) (nodes : List Node) (outer inner : ℕ) → AreNodes first next nodes
    → inner < length nodes → outer < inner → outer ≤ (node_at nodes inner).jump → (base : List ℕ)
    → enters_way base (way_at nodes (node_at nodes inner).jump) (way_at nodes outer)
    ≡ enters_way base (way_at nodes inner) (way_at nodes outer)
over_step first next nodes outer inner are less under stops base =
    let is = are.each inner less in
    let jump = (node_at nodes inner).jump in
    let outer_in : outer < length nodes = omega arith in
    let jump_in : jump < length nodes = omega (arith, is.jump) in
    let up = bounds_rise first next nodes are outer jump stops jump_in in
    sym (ap (λ (w : List ℕ). enters_way base w (way_at nodes outer)) is.link.is
    ∙ drop_rest base (way_at nodes jump) is.link.rest (way_at nodes outer) (bound_at nodes jump)
    (all_weaker (λ n. n < bound_at nodes outer) (λ n. n < bound_at nodes jump)
    (λ n below. omega arith) (way_at nodes outer) (are.each outer outer_in).below)
    is.link.later)

-- neither does the parent of a later position
pub up_step : (first next : ℕ) (nodes : List Node) (outer inner : ℕ) → AreNodes first next nodes
    → inner < length nodes → outer < inner → (base : List ℕ)
    → enters_way base (way_at nodes (node_at nodes inner).parent) (way_at nodes outer)
    ≡ enters_way base (way_at nodes inner) (way_at nodes outer)
up_step first next nodes outer inner are less under base =
    let node = node_at nodes inner in
    let is = are.each inner less in
    let outer_in : outer < length nodes = omega arith in
    let positive : 0 < inner = omega arith in
    let own = is.own positive in
    let bound = bound_own node own.0 own.1 in
    let up = are.rise outer inner under less in
    let le : bound_at nodes outer ≤ own.0 = omega (arith, bound, up) in
    sym (ap (λ (w : List ℕ). enters_way base w (way_at nodes outer))
    (is.way_is ∙ ap (λ (o : Option ℕ). way_at nodes node.parent ++ option_to_list o) own.1)
    ∙ drop_rest base (way_at nodes node.parent) (own.0 ∷ []) (way_at nodes outer)
    (bound_at nodes outer) (are.each outer outer_in).below (le, tt))

-- what is left when the climb ends
pub contains_end : (first next : ℕ) (nodes : List Node) (outer inner : ℕ)
    → AreNodes first next nodes → outer < length nodes → inner ≤ outer → (base : List ℕ)
    → AllByRecursion (λ n. n < first) base
    → not (eqb inner outer) ≡ enters_way base (way_at nodes inner) (way_at nodes outer)
contains_end first next nodes outer inner are less le base based = ⊎_elim
    (λ (same : inner ≡ outer).
    ap not (eq-eqb inner outer same)
    ∙ sym (ap (λ (n : ℕ). enters_way base (way_at nodes n) (way_at nodes outer)) same
    ∙ enters_itself base (way_at nodes outer)))
    (λ (other : inner ≡ outer → ⊥).
    let node = node_at nodes outer in
    let is = are.each outer less in
    let under : inner < outer = omega arith in
    let positive : 0 < outer = omega arith in
    let inner_in : inner < length nodes = omega arith in
    let own = is.own positive in
    let bound = bound_own node own.0 own.1 in
    let up = are.rise inner outer under less in
    let way_is = is.way_is
    ∙ ap (λ (o : Option ℕ). way_at nodes node.parent ++ option_to_list o) own.1 in
    let above = all_last (λ n. first ≤ n) (way_at nodes node.parent) own.0
    (subst (λ (w : List ℕ). AllByRecursion (λ n. first ≤ n) w) way_is is.above) in
    ap not (ne_eqb inner outer other)
    ∙ sym (ap (λ (w : List ℕ). enters_way base (way_at nodes inner) w) way_is
    ∙ enters_lower base (way_at nodes inner) (way_at nodes node.parent) own.0
    (all_weaker (λ n. n < first) (λ n. n < own.0) (λ n below. omega (arith, above)) base based)
    (all_weaker (λ n. n < bound_at nodes inner) (λ n. n < own.0)
    (λ n below. omega (arith, bound, up)) (way_at nodes inner) (are.each inner inner_in).below)))
    (cases_eq inner outer)

-- What there is behind the beginning of a scope.
pub record IsEntered (first number here : ℕ) (nodes new : List Node) : Type 0 where
  pub are : AreNodes first (number + 1) new
  pub last : length nodes < length new
  pub current : way_at new (length nodes) ≡ way_at nodes here ++ number ∷ []
  pub ways : (position : ℕ) → position < length nodes
      → way_at new position ≡ way_at nodes position

pub is_entered : (first next number here : ℕ) (nodes new : List Node) (node : Node)
    → AreNodes first next nodes → here < length nodes → next ≤ number → node.own ≡ Some number
    → node.parent ≡ here → IsJump nodes here node.jump → node.depth ≡ (node_at nodes here).depth + 1
    → new ≡ nodes ++ node ∷ [] → IsEntered first number here nodes new
is_entered first next number here nodes new node are less le own parent jumps depth new_is =
    subst (λ (all : List Node). IsEntered first number here nodes all) (sym new_is) (record {
      are = are_more first next number here nodes node are less le own parent jumps depth;
      last = omega (arith, length-append nodes (node ∷ []));
      current = way_last nodes node
          ∙ ap (λ (n : ℕ). way_at nodes n ++ option_to_list node.own) parent
          ∙ ap (λ (o : Option ℕ). way_at nodes here ++ option_to_list o) own;
      ways = λ position old. way_kept nodes node position old;
    })

-- what an index reads
pub node_read : (nodes : List Node) (position : ℕ) (node : Node) → position < length nodes
    → node ≡ get_or nodes position node → node ≡ node_at nodes position
node_read nodes position node less is = is ∙ get_or_default nodes position node root less

pub far_within : (first next : ℕ) (nodes : List Node) (here : ℕ) → AreNodes first next nodes
    → here < length nodes → (node_at nodes (node_at nodes here).jump).jump < length nodes
far_within first next nodes here are less =
    jump_within first next nodes (node_at nodes here).jump are
    (jump_within first next nodes here are less)

-- the node that the beginning of a scope adds
pub entered_by : (tree : Tree) (number jump : ℕ) (read : Node) (slice new : List Node) → IsTree tree
    → tree.next ≤ number → slice ≡ tree.nodes.items → IsJump slice tree.here jump
    → read ≡ get_or tree.nodes.items tree.here read
    → new ≡ tree.nodes.items ++ record {
      own = Some number;
      parent = tree.here;
      jump = jump;
      depth = read.depth + 1;
    } ∷ [] → IsEntered tree.first number tree.here tree.nodes.items new
entered_by tree number jump read slice new is le same jumps read_is new_is =
    is_entered tree.first tree.next number tree.here tree.nodes.items new (record {
      own = Some number;
      parent = tree.here;
      jump = jump;
      depth = read.depth + 1;
    }) is.nodes is.here le refl refl
    (subst (λ (nodes : List Node). IsJump nodes tree.here jump) same jumps)
    (ap (λ (one : Node). one.depth + 1) (node_read tree.nodes.items tree.here read is.here read_is))
    new_is
