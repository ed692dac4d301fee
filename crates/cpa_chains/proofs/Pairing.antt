-- A fact of each clause and its partial's value, from the formula's clauses to all lines of a log.
use Rattle.std.proofs.Common.{◌≡◌, ℕ, zero, suc, ◌+◌, ◌<◌, ◌≤◌, Bool, false, List, []}
use Rattle.std.proofs.Common.{◌∷◌, ◌++◌, map, take, length, get_or, refl, sym, ap, ◌∙◌, subst}
use Rattle.std.proofs.Common.{arith}
use Rattle.std.proofs.Common.{Some}
use Rattle.std.specs.Prelude.{slice_index_or}
use Rattle.std.specs.List.{slice_get}
use Rattle.std.proofs.lemmas.List.{map_more, take_all, append_assoc, append-nil}
use Rattle.std.proofs.lemmas.Option.{slice_get-get_or, get_or_from_slice_get}
use Rattle.cpa_cnf.specs.declared.formula.Cnf.{Cnf}
use Rattle.cpa_cnf.specs.declared.formula.Line.{Line}
use Rattle.cpa_cnf.specs.Resolution.{IsResolvent}
use Rattle.cpa_cnf.specs.Lines.{known, AreGood}
use Rattle.cpa_chains.specs.declared.partial.Partial.{Partial}
use Rattle.cpa_chains.specs.Partials.{partial_value, values_behind}
use Rattle.cpa_chains.proofs.Chaining.{joint_with, joint_value, chained}

-- the fact holds of each clause and the value at its place
abbrev pub Each : (List ℕ → Bool → Type 0) → List (List ℕ) → List Bool → Type 0
Each R [] [] = Unit {0}
Each R [] (v ∷ vs) = ⊥
Each R (c ∷ cs) [] = ⊥
Each R (c ∷ cs) (v ∷ vs) = R c v × Each R cs vs

pub each_at : (R : List ℕ → Bool → Type 0) (cs : List (List ℕ)) (vs : List Bool) → Each R cs vs
    → (k : ℕ) → k < length cs → R (slice_index_or cs k []) (slice_index_or vs k false)
each_at R [] [] all k below = absurd (omega arith)
each_at R [] (v ∷ vs) all k below = absurd all
each_at R (c ∷ cs) [] all k below = absurd all
each_at R (c ∷ cs) (v ∷ vs) all zero below = all.0
each_at R (c ∷ cs) (v ∷ vs) all (suc k) below = each_at R cs vs all.1 k (omega arith)

pub each_length : (R : List ℕ → Bool → Type 0) (cs : List (List ℕ)) (vs : List Bool) → Each R cs vs
    → length vs ≡ length cs
each_length R [] [] all = refl
each_length R [] (v ∷ vs) all = absurd all
each_length R (c ∷ cs) [] all = absurd all
each_length R (c ∷ cs) (v ∷ vs) all = omega (arith, each_length R cs vs all.1)

each_push : (R : List ℕ → Bool → Type 0) (cs : List (List ℕ)) (vs : List Bool) (c : List ℕ)
    (v : Bool) → Each R cs vs → R c v → Each R (cs ++ c ∷ []) (vs ++ v ∷ [])
each_push R [] [] c v all here = (here, tt)
each_push R [] (w ∷ ws) c v all here = absurd all
each_push R (d ∷ ds) [] c v all here = absurd all
each_push R (d ∷ ds) (w ∷ ws) c v all here = (all.0, each_push R ds ws c v all.1 here)

values_push : (vs : List Bool) (ps : List Partial) (p : Partial)
    → values_behind vs (ps ++ p ∷ [])
    ≡ values_behind vs ps ++ partial_value (values_behind vs ps) p ∷ []
values_push vs [] p = refl
values_push vs (q ∷ qs) p = values_push (vs ++ partial_value vs q ∷ []) qs p

-- the partial of a line by a test of pivots
abbrev pub partial_with : (ℕ → Bool) → Line → Partial
partial_with test line =
    record { first = line.first; joints = map (joint_with test) line.steps }

known_more : (cnf : Cnf) (log : List Line) (i : ℕ) (line : Line) → i < length log
    → slice_get log i ≡ Some line
    → known cnf (take (i + 1) log) ≡ known cnf (take i log) ++ line.clause ∷ []
known_more cnf log i line below at =
    ap (λ (cs : List (List ℕ)). cnf.clauses ++ cs)
    (map_more (λ (l : Line). l.clause) log i line below
    ∙ ap (λ (l : Line). map (λ (m : Line). m.clause) (take i log) ++ l.clause ∷ [])
    (get_or_from_slice_get log i line line at))
    ∙ sym (append_assoc cnf.clauses (map (λ (l : Line). l.clause) (take i log)) (line.clause ∷ []))

values_more : (test : ℕ → Bool) (vs : List Bool) (log : List Line) (i : ℕ) (line : Line)
    → i < length log → slice_get log i ≡ Some line
    → values_behind vs (map (partial_with test) (take (i + 1) log))
    ≡ values_behind vs (map (partial_with test) (take i log))
    ++ partial_value (values_behind vs (map (partial_with test) (take i log)))
    (partial_with test line) ∷ []
values_more test vs log i line below at =
    ap (λ (ps : List Partial). values_behind vs ps)
    (map_more (partial_with test) log i line below
    ∙ ap (λ (l : Line). map (partial_with test) (take i log) ++ partial_with test l ∷ [])
    (get_or_from_slice_get log i line line at))
    ∙ values_push vs (map (partial_with test) (take i log)) (partial_with test line)

at_place : (xs : List Line) (k : ℕ) → k < length xs
    → (line : Line) × (slice_get xs k ≡ Some line)
at_place [] k below = absurd (omega arith)
at_place (x ∷ xs) k below = (get_or (x ∷ xs) k x, slice_get-get_or (x ∷ xs) k x below)

-- What each step keeps holds of all lines, if it holds of the formula's clauses.
fronts : (R : List ℕ → Bool → Type 0) (test : ℕ → Bool)
    → ((a b r : List ℕ) (pivot : ℕ) (v w : Bool) → IsResolvent a b pivot r → R a v → R b w
    → R r (joint_value (test pivot) v w))
    → (cnf : Cnf) (log : List Line) (vs : List Bool) → AreGood cnf log → Each R cnf.clauses vs
    → (i : ℕ) → i ≤ length log
    → Each R (known cnf (take i log)) (values_behind vs (map (partial_with test) (take i log)))
fronts R test step cnf log vs good formula zero within =
    subst (λ (cs : List (List ℕ)). Each R cs vs) (sym (append-nil cnf.clauses)) formula
fronts R test step cnf log vs good formula (suc i) within =
    let cs = known cnf (take i log) in
    let ws = values_behind vs (map (partial_with test) (take i log)) in
    let before : Each R cs ws = fronts R test step cnf log vs good formula i (omega arith) in
    let found = at_place log i (omega arith) in
    let line = found.0 in
    let is_good = good i line found.1 in
    let holds : R line.clause (partial_value ws (partial_with test line)) =
    chained R test step cs ws (each_at R cs ws before) (slice_index_or cs line.first [])
    (slice_index_or ws line.first false) line.steps line.clause is_good.range.numbers is_good.chain
    (each_at R cs ws before line.first is_good.range.first) in
    let next : i + 1 ≡ suc i = omega arith in
    subst (λ n. Each R (known cnf (take n log))
    (values_behind vs (map (partial_with test) (take n log)))) next
    (subst (λ (us : List Bool). Each R (known cnf (take (i + 1) log)) us)
    (sym (values_more test vs log i line (omega arith) found.1))
    (subst (λ (ds : List (List ℕ)). Each R ds
    (ws ++ partial_value ws (partial_with test line) ∷ []))
    (sym (known_more cnf log i line (omega arith) found.1))
    (each_push R cs ws line.clause (partial_value ws (partial_with test line)) before holds)))

pub all_lines : (R : List ℕ → Bool → Type 0) (test : ℕ → Bool)
    → ((a b r : List ℕ) (pivot : ℕ) (v w : Bool) → IsResolvent a b pivot r → R a v → R b w
    → R r (joint_value (test pivot) v w))
    → (cnf : Cnf) (log : List Line) (vs : List Bool) → AreGood cnf log → Each R cnf.clauses vs
    → Each R (known cnf log) (values_behind vs (map (partial_with test) log))
all_lines R test step cnf log vs good formula =
    subst (λ (ls : List Line). Each R (known cnf ls)
    (values_behind vs (map (partial_with test) ls)))
    (take_all (length log) log (omega arith))
    (fronts R test step cnf log vs good formula (length log) (omega arith))
