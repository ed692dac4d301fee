-- The table of the variables of B, literal by literal and clause by clause.
use Rattle.std.proofs.Common.{◌≡◌, ℕ, ◌+◌, ◌/◌, ◌<◌, ◌≤◌, Bool, true, false, not, ◌&&◌, ◌||◌, List}
use Rattle.std.proofs.Common.{[], ◌∷◌, length, get_or, take, drop, set, refl, sym, ap, ◌∙◌, arith}
use Rattle.std.specs.Prelude.{slice_index_or, ◌==◌}
use Rattle.std.specs.List.{list_any}
use Rattle.std.proofs.lemmas.Bool.{ne_eqb}
use Rattle.std.proofs.lemmas.List.{take_more, drop_more, drop_all}
use Rattle.std.proofs.lemmas.List.Folds.{list_any-append}
use Rattle.cpa_cnf.specs.declared.formula.Cnf.{Cnf}
use Rattle.cpa_cnf.specs.lemmas.Marking.{marked-set_true}
use Rattle.cpa_cnf.specs.lemmas.Members.{or_false_right}
use Rattle.cpa_chains.specs.Sides.{clauses_on, has_variable, stands_on}

or_assoc : (a b c : Bool) → ((a || b) || c) ≡ (a || (b || c))
or_assoc true b c = refl
or_assoc false b c = refl

next : (xs : List ℕ) (i n v x : ℕ) → i < length xs → n ≡ get_or xs i n → v ≡ n / 2
    → has_variable (take (i + 1) xs) x ≡ (has_variable (take i xs) x || (v == x))
next xs i n v x below is var =
    ap (λ (ys : List ℕ). has_variable ys x) (take_more xs i n below)
    ∙ list_any-append (λ l. l / 2 == x) (take i xs) (get_or xs i n ∷ [])
    ∙ ap (λ b. has_variable (take i xs) x || b) (or_false_right (get_or xs i n / 2 == x))
    ∙ ap (λ k. has_variable (take i xs) x || (k / 2 == x)) (sym is)
    ∙ ap (λ k. has_variable (take i xs) x || (k == x)) (sym var)

-- one literal more
pub noted_next : (o t : List Bool) (xs : List ℕ) (i n v x : ℕ) → i < length xs → n ≡ get_or xs i n
    → v ≡ n / 2 → v < length t
    → slice_index_or t x false ≡ (slice_index_or o x false || has_variable (take i xs) x)
    → slice_index_or (set t v true) x false
    ≡ (slice_index_or o x false || has_variable (take (i + 1) xs) x)
noted_next o t xs i n v x below is var fits same =
    marked-set_true t v x fits ∙ ap (λ b. b || (v == x)) same
    ∙ or_assoc (slice_index_or o x false) (has_variable (take i xs) x) (v == x)
    ∙ ap (λ b. slice_index_or o x false || b) (sym (next xs i n v x below is var))

-- a literal beyond the table
pub noted_beyond : (o t : List Bool) (xs : List ℕ) (i n v x : ℕ) → i < length xs
    → n ≡ get_or xs i n → v ≡ n / 2 → length t ≤ v → x < length t
    → slice_index_or t x false ≡ (slice_index_or o x false || has_variable (take i xs) x)
    → slice_index_or t x false
    ≡ (slice_index_or o x false || has_variable (take (i + 1) xs) x)
noted_beyond o t xs i n v x below is var past within same =
    same
    ∙ ap (λ b. slice_index_or o x false || b) (sym (next xs i n v x below is var
    ∙ ap (λ b. has_variable (take i xs) x || b) (ne_eqb v x (λ e. omega (arith, e)))
    ∙ or_false_right (has_variable (take i xs) x)))

side_next : (s : Bool) (ss : List Bool) (c : List ℕ) (cs : List (List ℕ)) (x : ℕ)
    → list_any (λ d. has_variable d x) (clauses_on false (s ∷ ss) (c ∷ cs))
    ≡ ((not s && has_variable c x) || list_any (λ d. has_variable d x) (clauses_on false ss cs))
side_next true ss c cs x = refl
side_next false ss c cs x = refl

-- one clause more
pub clause_next : (cnf : Cnf) (sides : List Bool) (i x : ℕ) (s : Bool) (c : List ℕ) (t u : Bool)
    → i < length sides → i < length cnf.clauses
    → s ≡ get_or sides i s → c ≡ get_or cnf.clauses i c
    → u ≡ (t || (not s && has_variable c x))
    → (t || list_any (λ d. has_variable d x)
    (clauses_on false (drop i sides) (drop i cnf.clauses))) ≡ stands_on false cnf sides x
    → (u || list_any (λ d. has_variable d x)
    (clauses_on false (drop (i + 1) sides) (drop (i + 1) cnf.clauses)))
    ≡ stands_on false cnf sides x
clause_next cnf sides i x s c t u in_sides in_clauses side clause is before =
    let ss = drop (i + 1) sides in
    let cs = drop (i + 1) cnf.clauses in
    let rest = list_any (λ d. has_variable d x) (clauses_on false ss cs) in
    ap (λ b. b || rest) is
    ∙ or_assoc t (not s && has_variable c x) rest
    ∙ ap (λ b. t || b) (sym (side_next s ss c cs x))
    ∙ ap (λ b. t || list_any (λ d. has_variable d x) (clauses_on false (b ∷ ss) (c ∷ cs))) side
    ∙ ap (λ (d : List ℕ). t || list_any (λ e. has_variable e x)
    (clauses_on false (get_or sides i s ∷ ss) (d ∷ cs))) clause
    ∙ ap (λ (ds : List (List ℕ)). t || list_any (λ d. has_variable d x)
    (clauses_on false (get_or sides i s ∷ ss) ds)) (sym (drop_more cnf.clauses i c in_clauses))
    ∙ ap (λ (bs : List Bool). t || list_any (λ d. has_variable d x)
    (clauses_on false bs (drop i cnf.clauses))) (sym (drop_more sides i s in_sides))
    ∙ before

-- no clause is left
pub at_end : (cnf : Cnf) (sides : List Bool) (i x : ℕ) (t : Bool) → length sides ≤ i
    → (t || list_any (λ d. has_variable d x)
    (clauses_on false (drop i sides) (drop i cnf.clauses))) ≡ stands_on false cnf sides x
    → t ≡ stands_on false cnf sides x
at_end cnf sides i x t over before =
    sym (or_false_right t)
    ∙ ap (λ (bs : List Bool). t || list_any (λ d. has_variable d x)
    (clauses_on false bs (drop i cnf.clauses))) (sym (drop_all i sides over))
    ∙ before
