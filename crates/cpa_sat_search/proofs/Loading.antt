-- The beginning of a search, and what its end gives.
use Rattle.std.proofs.Common.{◌≡◌, ◌≢◌, ℕ, zero, suc, ◌+◌, ◌*◌, ◌^◌, ◌<◌, ◌≤◌, List, [], ◌∷◌}
use Rattle.std.proofs.Common.{◌++◌, map, take, length, get_or, refl, sym, ap, ◌∙◌, subst, arith}
use Rattle.std.proofs.Common.{Bool}
use Rattle.std.specs.Prelude.{slice_index_or}
use Rattle.std.specs.List.{AllByRecursion}
use Rattle.std.proofs.lemmas.List.{take_all, append_assoc, append-nil, get_or_append_left}
use Rattle.std.proofs.lemmas.List.{get_or_default, length-append}
use Rattle.std.proofs.lemmas.List.Elements.{recursion_from_All}
use Rattle.std.proofs.lemmas.Option.{slice_get_within}
use Rattle.cpa_cnf.specs.declared.formula.Cnf.{Cnf}
use Rattle.cpa_cnf.specs.declared.formula.Line.{Line}
use Rattle.cpa_cnf.specs.Clauses.{IsClause}
use Rattle.cpa_cnf.specs.Lines.{AreBelow, known}
use Rattle.cpa_cnf.specs.Models.{Satisfies, IsModel}
use Rattle.cpa_cnf.specs.lemmas.Chains.{member_below}
use Rattle.cpa_sat_search.specs.declared.engine.Search.{Search}
use Rattle.cpa_sat_arena.specs.declared.literal.TheConstants.{NO_CLAUSE}
use Rattle.cpa_sat_trail.specs.Trails.{IsTrail, height}
use Rattle.cpa_sat_search.specs.Analyses.{IsIdle}
use Rattle.cpa_sat_trail.specs.Findings.{AreSatisfied, AreValues}
use Rattle.cpa_sat_search.specs.Endings.{AreWritten}
use Rattle.cpa_sat_search.specs.States.{AreLoaded, IsState}
use Rattle.cpa_sat_search.proofs.Growth.{at_number}
use Rattle.cpa_sat_trail.specs.lemmas.Values.{satisfied}

weaker : (n m : ℕ) (xs : List ℕ) → n ≤ m → AllByRecursion (λ l. l < n) xs
    → AllByRecursion (λ l. l < m) xs
weaker n m [] h all = tt
weaker n m (x ∷ xs) h all = (up x n m all.0 h, weaker n m xs h all.1)
  where
    up : (a b c : ℕ) → a < b → b ≤ c → a < c
    up a b c p q = omega arith

small_literals : (vars : ℕ) (xs : List ℕ) → vars < 2 ^ 31 → AreBelow vars xs
    → AllByRecursion (λ l. l < 2 ^ 32) xs
small_literals vars xs h all = weaker (2 * vars) (2 ^ 32) xs (room vars h) all
  where
    room : (n : ℕ) → n < 2 ^ 31 → 2 * n ≤ 2 ^ 32
    room n k = omega arith

-- the clauses of the arena are the first ones of a formula, and these stand behind them
pub record IsLoading (cnf : Cnf) (behind arena : List (List ℕ)) : Type 0 where
  pub clauses : arena ++ behind ≡ cnf.clauses
  pub sorted : (k : ℕ) → IsClause (slice_index_or arena k [])
  pub few : length arena < NO_CLAUSE
  pub below : AllByRecursion (AreBelow cnf.vars) behind

pub loads_first : (cnf : Cnf) (behind arena : List (List ℕ)) → behind ≡ cnf.clauses → arena ≡ []
    → AllByRecursion (AreBelow cnf.vars) cnf.clauses → IsLoading cnf behind arena
loads_first cnf behind arena all none below =
    subst (λ (cs : List (List ℕ)). IsLoading cnf cs arena) (sym all)
    (subst (λ (cs : List (List ℕ)). IsLoading cnf cnf.clauses cs) (sym none) (record {
      clauses = refl;
      sorted = λ k. tt;
      few = omega arith;
      below = below;
    }))

pub loads_small : (cnf : Cnf) (clause : List ℕ) (last behind arena : List (List ℕ))
    → last ≡ clause ∷ behind → cnf.vars < 2 ^ 31 → IsLoading cnf last arena
    → AllByRecursion (λ l. l < 2 ^ 32) clause
loads_small cnf clause last behind arena is vars l =
    small_literals cnf.vars clause vars
    (subst (λ (cs : List (List ℕ)). AllByRecursion (AreBelow cnf.vars) cs) is l.below).0

pub loads_next : (cnf : Cnf) (clause : List ℕ) (last behind arena more : List (List ℕ))
    → last ≡ clause ∷ behind → IsLoading cnf last arena → more ≡ arena ++ clause ∷ []
    → IsClause clause → length more < NO_CLAUSE → IsLoading cnf behind more
loads_next cnf clause last behind arena more is l next sorted few =
    record {
      clauses = ap (λ (cs : List (List ℕ)). cs ++ behind) next
          ∙ append_assoc arena (clause ∷ []) behind
          ∙ ap (λ (cs : List (List ℕ)). arena ++ cs) (sym is) ∙ l.clauses;
      sorted = λ k. subst (λ (cs : List (List ℕ)). IsClause (slice_index_or cs k [])) (sym next)
          (at_number IsClause arena clause l.sorted sorted k);
      few = few;
      below = (subst (λ (cs : List (List ℕ)). AllByRecursion (AreBelow cnf.vars) cs) is l.below).1;
    }

pub loads_all : (cnf : Cnf) (behind arena : List (List ℕ)) → length behind ≡ 0
    → IsLoading cnf behind arena → AreLoaded cnf (length cnf.clauses) arena
loads_all cnf [] arena none l =
    let whole : arena ≡ cnf.clauses = sym (append-nil arena) ∙ l.clauses in
    let same : arena ≡ take (length cnf.clauses) cnf.clauses =
    whole ∙ sym (take_all (length cnf.clauses) cnf.clauses (same_le (length cnf.clauses))) in
    record {
      clauses = same;
      sorted = λ k. subst (λ (cs : List (List ℕ)). IsClause (slice_index_or cs k [])) same
          (l.sorted k);
      few = l.few;
    }
  where
    same_le : (n : ℕ) → n ≤ n
    same_le n = omega arith
loads_all cnf (c ∷ cs) arena none l = absurd (omega (arith, none))

below_at : (vars : ℕ) (cs : List (List ℕ)) → AllByRecursion (AreBelow vars) cs → (k : ℕ)
    → AreBelow vars (slice_index_or cs k [])
below_at vars [] all k = tt
below_at vars (c ∷ cs) all zero = all.0
below_at vars (c ∷ cs) all (suc k) = below_at vars cs all.1 k

pub started : (cnf : Cnf) (s : Search) → AreLoaded cnf (length cnf.clauses) s.arena
    → AllByRecursion (AreBelow cnf.vars) cnf.clauses → IsTrail s.trail
    → s.trail.vars ≡ cnf.vars → height s.trail ≡ 0 → IsIdle s.analysis → s.analysis.vars ≡ cnf.vars
    → s.lines.items ≡ [] → IsState cnf s
started cnf s l below trail vars empty idle analysis_vars none =
    let whole : s.arena ≡ cnf.clauses = l.clauses
    ∙ take_all (length cnf.clauses) cnf.clauses (same_le (length cnf.clauses)) in
    record {
      sound = record {
        trail = trail;
        clauses_are = record {
          sorted = λ k. subst (λ (cs : List (List ℕ)). IsClause (slice_index_or cs k []))
              (sym l.clauses) (l.sorted k);
          below = λ k. subst (λ (cs : List (List ℕ)). AreBelow s.trail.vars
              (slice_index_or cs k [])) (sym whole)
              (subst (λ n. AreBelow n (slice_index_or cnf.clauses k [])) (sym vars)
              (below_at cnf.vars cnf.clauses below k));
        };
        justified = λ i inside forced. absurd (nothing i (height s.trail) inside empty);
      };
      vars = vars;
      analysis_vars = analysis_vars;
      idle = idle;
      clauses = whole ∙ sym (ap (λ (ls : List Line). known cnf ls) none ∙ append-nil cnf.clauses);
      few = l.few;
      good = λ i line at. absurd (nothing i (length s.lines.items)
          (slice_get_within s.lines.items i line at) (ap (λ (ls : List Line). length ls) none));
      fresh = λ i line at. absurd (nothing i (length s.lines.items)
          (slice_get_within s.lines.items i line at) (ap (λ (ls : List Line). length ls) none));
      filled = subst (λ (ls : List Line). AllByRecursion (λ (line : Line). line.clause ≢ []) ls)
          (sym none) tt;
    }
  where
    same_le : (n : ℕ) → n ≤ n
    same_le n = omega arith

    nothing : (i n : ℕ) → i < n → n ≡ 0 → ⊥
    nothing i n h e = absurd (omega arith)

pub model_of : (cnf : Cnf) (s : Search) (values : List Bool) → IsState cnf s
    → AreSatisfied s.arena s.trail → AreValues s.trail s.trail.vars values → IsModel cnf values
model_of cnf s values st sat v = record {
  each_variable = v.long ∙ st.vars;
  each_clause = recursion_from_All (Satisfies values) cnf.clauses (λ k d inside. clause k d inside);
}
  where
    more : (a b c : ℕ) → a < b → a < b + c
    more a b c h = omega arith

    here : (k : ℕ) → k < length cnf.clauses → k < length s.arena
    here k inside =
        subst (λ n. k < n) (sym (ap (λ (cs : List (List ℕ)). length cs) st.clauses
        ∙ length-append cnf.clauses (map (λ (line : Line). line.clause) s.lines.items)))
        (more k (length cnf.clauses) (length (map (λ (line : Line). line.clause) s.lines.items))
        inside)

    is : (k : ℕ) (d : List ℕ) → k < length cnf.clauses
        → slice_index_or s.arena k [] ≡ get_or cnf.clauses k d
    is k d inside =
        ap (λ (cs : List (List ℕ)). slice_index_or cs k []) st.clauses
        ∙ get_or_append_left cnf.clauses (map (λ (line : Line). line.clause) s.lines.items) [] k
        inside
        ∙ get_or_default cnf.clauses k [] d inside

    clause : (k : ℕ) (d : List ℕ) → k < length cnf.clauses
        → Satisfies values (get_or cnf.clauses k d)
    clause k d inside =
        subst (λ (c : List ℕ). Satisfies values c) (is k d inside)
        (satisfied s.trail values (slice_index_or s.arena k []) st.sound.trail v
        (λ l h. member_below s.trail.vars (slice_index_or s.arena k []) l
        (st.sound.clauses_are.below k) h) (sat k (here k inside)))

pub written : (cnf : Cnf) (learnt : ℕ) (s : Search) → IsState cnf s
    → length s.lines.items ≡ learnt → AreWritten cnf learnt s.lines.items
written cnf learnt s st all = record {
  all = all;
  good = st.good;
  filled = st.filled;
  fresh = st.fresh;
  clauses_are = record {
    sorted = λ k. subst (λ (cs : List (List ℕ)). IsClause (slice_index_or cs k [])) st.clauses
        (st.sound.clauses_are.sorted k);
    below = λ k. subst (λ (cs : List (List ℕ)). AreBelow cnf.vars (slice_index_or cs k []))
        st.clauses
        (subst (λ n. AreBelow n (slice_index_or s.arena k [])) st.vars
        (st.sound.clauses_are.below k));
  };
}
