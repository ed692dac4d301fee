-- The models of a net's clauses are the assignments under which the net holds: the clauses of each
-- gate together are true exactly where its literal has the gate's value.
use Rattle.std.proofs.Common.{◌≡◌, ℕ, ◌*◌, ◌<◌, Bool, true, false, ◌&&◌, ◌||◌, List, []}
use Rattle.std.proofs.Common.{◌∷◌}
use Rattle.std.proofs.Common.{◌++◌, ◌↔◌, length, map, refl, sym, ap, ◌∙◌, arith}
use Rattle.std.specs.List.{list_any, list_all, AllByRecursion}
use Rattle.std.proofs.lemmas.Bool.{and_parts, and_from}
use Rattle.std.proofs.lemmas.List.Folds.{list_all-append}
use mathlib.Core.Bool.{beq}
use Rattle.cpa_cnf.specs.Literals.{opposite}
use Rattle.cpa_cnf.specs.Lines.{AreBelow}
use Rattle.cpa_cnf.specs.Models.{value_of_literal, Satisfies, IsModel}
use Rattle.cpa_blast_gates.specs.declared.gate.Gate.{Gate}
use Rattle.cpa_blast_gates.specs.declared.gate.Gate.TheVariants.{Input, And, Xor, Majority, Choice}
use Rattle.cpa_blast_gates.specs.Gates.{lit_value, gate_value, ReadsBelow}
use Rattle.cpa_blast_gates.specs.Nets.{vars, IsScoped, Holds}
use Rattle.cpa_blast_gates.specs.Clauses.{clause_of, gate_lists, gate_clauses, clauses_of, assigned}
use Rattle.cpa_blast_gates.specs.lemmas.Literals.{lit_opposite, lit_positive, lit_as_model}
use Rattle.cpa_blast_gates.specs.lemmas.Members.{any_clause, any_from_has, has_from_any, all_clause}
use Rattle.cpa_blast_gates.specs.lemmas.Truths as row

-- some literal of the list is true
abbrev satisfied : (ℕ → Bool) → List ℕ → Bool
satisfied m ls = list_any (lit_value m) ls

gate_test : (m : ℕ → Bool) (l v : ℕ) (g : Gate) → lit_value m l ≡ m v
    → list_all (satisfied m) (gate_lists l g) ≡ beq (m v) (gate_value m v g)
gate_test m l v Input e = row.beq_same (m v)
gate_test m l v (And a b) e =
    rw (lit_opposite m l, lit_opposite m a, lit_opposite m b, e)
    (row.and_clauses (m v) (lit_value m a) (lit_value m b))
gate_test m l v (Xor a b) e =
    rw (lit_opposite m l, lit_opposite m a, lit_opposite m b, e)
    (row.xor_clauses (m v) (lit_value m a) (lit_value m b))
gate_test m l v (Majority a b c) e =
    rw (lit_opposite m l, lit_opposite m a, lit_opposite m b, lit_opposite m c, e)
    (row.majority_clauses (m v) (lit_value m a) (lit_value m b) (lit_value m c))
gate_test m l v (Choice a b c) e =
    rw (
      lit_opposite m l,
      lit_opposite m (opposite a),
      lit_opposite m a,
      lit_opposite m b,
      lit_opposite m c,
      e,
    )
    (row.choice_clauses (m v) (lit_value m a) (lit_value m b) (lit_value m c))

all_sorted : (m : ℕ → Bool) (lists : List (List ℕ))
    → list_all (satisfied m) (map clause_of lists) ≡ list_all (satisfied m) lists
all_sorted m [] = refl
all_sorted m (ls ∷ lists) =
    ap (λ b. b && list_all (satisfied m) (map clause_of lists)) (any_clause (lit_value m) ls)
    ∙ ap (λ b. satisfied m ls && b) (all_sorted m lists)

gate_clauses_test : (m : ℕ → Bool) (v : ℕ) (g : Gate)
    → list_all (satisfied m) (gate_clauses (2 * v) g) ≡ beq (m v) (gate_value m v g)
gate_clauses_test m v g =
    all_sorted m (gate_lists (2 * v) g) ∙ gate_test m (2 * v) v g (lit_positive m v)

first_clause : (b : Bool) → ((b || false) && true) ≡ b
first_clause true = refl
first_clause false = refl

zero_value : (m : ℕ → Bool) → lit_value m 0 ≡ m 0
zero_value m = lit_positive m 0

pub holds_from_clauses : (m : ℕ → Bool) (net : List Gate)
    → list_all (satisfied m) (clauses_of net) ≡ true → Holds m net
holds_from_clauses m [] h = sym (zero_value m) ∙ sym (first_clause (lit_value m 0)) ∙ h
holds_from_clauses m (g ∷ net) h =
    let both = and_parts _ _
    (sym (list_all-append (satisfied m) (clauses_of net) (gate_clauses (2 * vars net) g))
    ∙ h) in (
      holds_from_clauses m net both.0,
      row.equal_from_beq _ _ (sym (gate_clauses_test m (vars net) g) ∙ both.1),
    )

pub clauses_from_holds : (m : ℕ → Bool) (net : List Gate) → Holds m net
    → list_all (satisfied m) (clauses_of net) ≡ true
clauses_from_holds m [] h = first_clause (lit_value m 0) ∙ zero_value m ∙ h
clauses_from_holds m (g ∷ net) h =
    list_all-append (satisfied m) (clauses_of net) (gate_clauses (2 * vars net) g)
    ∙ and_from _ _ (clauses_from_holds m net h.0)
    (gate_clauses_test m (vars net) g ∙ row.beq_from_equal _ _ h.1)

-- the same of models as lists of values
any_as_model : (values : List Bool) (c : List ℕ)
    → list_any (lit_value (assigned values)) c ≡ list_any (value_of_literal values) c
any_as_model values [] = refl
any_as_model values (l ∷ ls) =
    ap (λ b. b || list_any (lit_value (assigned values)) ls) (lit_as_model values l)
    ∙ ap (λ b. value_of_literal values l || b) (any_as_model values ls)

all_from_model : (values : List Bool) (cs : List (List ℕ)) → AllByRecursion (Satisfies values) cs
    → list_all (satisfied (assigned values)) cs ≡ true
all_from_model values [] all = refl
all_from_model values (c ∷ cs) all =
    and_from _ _
    (any_as_model values c ∙ any_from_has (value_of_literal values) c all.0.0 all.0.1 all.0.2)
    (all_from_model values cs all.1)

model_from_all : (values : List Bool) (cs : List (List ℕ))
    → list_all (satisfied (assigned values)) cs ≡ true → AllByRecursion (Satisfies values) cs
model_from_all values [] h = tt
model_from_all values (c ∷ cs) h =
    let both = and_parts _ _ h in (
      has_from_any (value_of_literal values) c (sym (any_as_model values c) ∙ both.0),
      model_from_all values cs both.1,
    )

pub models : (net : List Gate) (values : List Bool)
    → IsModel (record { vars = vars net; clauses = clauses_of net }) values
    ↔ ((length values ≡ vars net) × Holds (assigned values) net)
models net values = (
  λ model. (
    model.each_variable,
    holds_from_clauses (assigned values) net
        (all_from_model values (clauses_of net) model.each_clause),
  ),
  λ h. record {
    each_variable = h.0;
    each_clause = model_from_all values (clauses_of net)
        (clauses_from_holds (assigned values) net h.1);
  },
)

-- the clauses of a net name its variables alone
below_opposite : (n l : ℕ) → l < 2 * n → opposite l < 2 * n
below_opposite n l h = omega arith

lists_below : (n l : ℕ) (g : Gate) → l < 2 * n → ReadsBelow n g
    → AllByRecursion (AreBelow n) (gate_lists l g)
lists_below n l Input p r = tt
lists_below n l (And a b) p r =
    let a' = below_opposite n a r.0 in
    let b' = below_opposite n b r.1 in
    let l' = below_opposite n l p in
    ((l', (r.0, tt)), ((l', (r.1, tt)), ((p, (a', (b', tt))), tt)))
lists_below n l (Xor a b) p r =
    let a' = below_opposite n a r.0 in
    let b' = below_opposite n b r.1 in
    let l' = below_opposite n l p in (
      (l', (r.0, (r.1, tt))),
      (
        (l', (a', (b', tt))),
        (
          (p, (a', (r.1, tt))),
          (
            (
              p,
              (
                r.0,
                (b', tt),
              ),
            ),
            tt,
          ),
        ),
      ),
    )
lists_below n l (Majority a b c) p r =
    let a' = below_opposite n a r.0 in
    let b' = below_opposite n b r.1 in
    let c' = below_opposite n c r.2 in
    let l' = below_opposite n l p in (
      (p, (a', (b', tt))),
      (
        (l', (r.0, (r.1, tt))),
        (
          (p, (a', (c', tt))),
          (
            (l', (r.0, (r.2, tt))),
            ((p, (b', (c', tt))), ((l', (r.1, (r.2, tt))), tt)),
          ),
        ),
      ),
    )
lists_below n l (Choice a b c) p r =
    let a' = below_opposite n a r.0 in
    let a'' = below_opposite n (opposite a) a' in
    let b' = below_opposite n b r.1 in
    let c' = below_opposite n c r.2 in
    let l' = below_opposite n l p in (
      (p, (a', (b', tt))),
      (
        (l', (a', (r.1, tt))),
        (
          (p, (a'', (c', tt))),
          (
            (l', (a'', (r.2, tt))),
            ((p, (b', (c', tt))), ((l', (r.1, (r.2, tt))), tt)),
          ),
        ),
      ),
    )

sorted_below : (n : ℕ) (lists : List (List ℕ)) → AllByRecursion (AreBelow n) lists
    → AllByRecursion (AreBelow n) (map clause_of lists)
sorted_below n [] all = tt
sorted_below n (ls ∷ lists) all =
    (all_clause (λ l. l < 2 * n) ls all.0, sorted_below n lists all.1)

literal_more : (n p l : ℕ) → n < p → l < 2 * n → l < 2 * p
literal_more n p l less h = omega arith

literals_more : (n p : ℕ) (ls : List ℕ) → n < p → AreBelow n ls → AreBelow p ls
literals_more n p [] h all = tt
literals_more n p (l ∷ ls) h all =
    (literal_more n p l h all.0, literals_more n p ls h all.1)

clauses_more : (n p : ℕ) (cs : List (List ℕ)) → n < p → AllByRecursion (AreBelow n) cs
    → AllByRecursion (AreBelow p) cs
clauses_more n p [] h all = tt
clauses_more n p (c ∷ cs) h all =
    (literals_more n p c h all.0, clauses_more n p cs h all.1)

all_append : (P : List ℕ → Type 0) (xs ys : List (List ℕ)) → AllByRecursion P xs
    → AllByRecursion P ys → AllByRecursion P (xs ++ ys)
all_append P [] ys p q = q
all_append P (x ∷ xs) ys p q = (p.0, all_append P xs ys p.1 q)

reads_more : (n p : ℕ) (g : Gate) → n < p → ReadsBelow n g → ReadsBelow p g
reads_more n p Input less r = tt
reads_more n p (And a b) less r = (literal_more n p a less r.0, literal_more n p b less r.1)
reads_more n p (Xor a b) less r = (literal_more n p a less r.0, literal_more n p b less r.1)
reads_more n p (Majority a b c) less r =
    (literal_more n p a less r.0, literal_more n p b less r.1, literal_more n p c less r.2)
reads_more n p (Choice a b c) less r =
    (literal_more n p a less r.0, literal_more n p b less r.1, literal_more n p c less r.2)

pub below : (net : List Gate) → IsScoped net → AllByRecursion (AreBelow (vars net)) (clauses_of net)
below [] scoped = ((omega arith, tt), tt)
below (g ∷ net) scoped =
    let n = vars net in
    let p = vars (g ∷ net) in
    let step : n < p = omega arith in
    let own : 2 * n < 2 * p = omega arith in
    all_append (AreBelow p) (clauses_of net) (gate_clauses (2 * n) g)
    (clauses_more n p (clauses_of net) step (below net scoped.0))
    (sorted_below p (gate_lists (2 * n) g)
    (lists_below p (2 * n) g own (reads_more n p g step scoped.1)))
