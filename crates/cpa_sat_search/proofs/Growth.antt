-- One more line: what was sound, good and new stays so.
use Rattle.std.proofs.Common.{◌≡◌, ◌≢◌, ℕ, ◌+◌, ◌-◌, ◌*◌, ◌^◌, ◌<◌, ◌≤◌}
use Rattle.std.proofs.Common.{false, List, [], ◌∷◌, ◌++◌, ◌⊎◌, inl, inr, map, take, length, get_or}
use Rattle.std.proofs.Common.{refl, sym, ap, ◌∙◌, subst, arith, Option, Some, None}
use Rattle.std.specs.Prelude.{slice_index_or, MatchOption}
use Rattle.std.proofs.Math.Nat.{add-mul}
use Rattle.std.specs.List.{AllByRecursion, slice_get}
use Rattle.std.proofs.lemmas.Bool.{cases_eq, cases_lt}
use Rattle.std.proofs.lemmas.List.{get_or_append_left, get_or_push, get_or_past, length_push}
use Rattle.std.proofs.lemmas.List.{take-append-le, take_at, map-append, append_assoc}
use Rattle.std.proofs.lemmas.List.{length-map}
use Rattle.std.proofs.lemmas.Option.{slice_get-get_or, slice_get_within, get_or_from_slice_get}
use Rattle.cpa_cnf.specs.declared.formula.Cnf.{Cnf}
use Rattle.cpa_cnf.specs.declared.formula.Line.{Line}
use Rattle.cpa_cnf.specs.Literals.{opposite}
use Rattle.cpa_cnf.specs.Clauses.{has, IsClause}
use Rattle.cpa_cnf.specs.Marking.{marked}
use Rattle.cpa_cnf.specs.Lines.{AreBelow, AreGood, IsGoodLine, known}
use Rattle.cpa_sat_trail.specs.declared.trail.Trail.{Trail}
use Rattle.cpa_sat_trail.specs.Trails.{IsReasonFor, lit_at, reason_at}
use Rattle.cpa_sat_search.specs.Analyses.{IsConcluded, IsIdle}
use Rattle.cpa_sat_trail.specs.Progress.{Asserts, IsRisen, IsSound, progress}
use Rattle.cpa_sat_search.specs.Fresh.{AreNew}
use Rattle.cpa_sat_search.specs.States.{IsAsBut, IsState, IsTurned, rank}
use Rattle.cpa_sat_search.specs.declared.engine.Turn.{Turn}
use Rattle.cpa_sat_search.specs.declared.engine.Turn.TheVariants.{Again, Satisfied, Refuted, Spent}
use Rattle.cpa_sat_trail.specs.lemmas.Measure.{weight_below}
use Rattle.cpa_sat_search.specs.declared.analysis.Analysis.{Analysis}
use Rattle.cpa_sat_trail.specs.declared.assertion.Jump.{Jump}
use Rattle.cpa_sat_arena.specs.declared.literal.TheConstants.{NO_CLAUSE}
use Rattle.cpa_sat_search.specs.declared.engine.Search.{Search}

-- the clauses of the numbers, once one more stands
pub at_number : (P : List ℕ → Type 0) (cs : List (List ℕ)) (c : List ℕ)
    → ((k : ℕ) → P (slice_index_or cs k [])) → P c → (k : ℕ)
    → P (slice_index_or (cs ++ c ∷ []) k [])
at_number P cs c each here k = go (cases_lt k (length cs))
  where
    go : (k < length cs) ⊎ (length cs ≤ k) → P (slice_index_or (cs ++ c ∷ []) k [])
    go (inl less) = subst P (sym (get_or_append_left cs (c ∷ []) [] k less)) (each k)
    go (inr past) = top (cases_eq (length cs) k)
      where
        long : length (cs ++ c ∷ []) ≡ length cs + 1
        long = length_push cs c

        beyond : (n m g : ℕ) → n ≤ m → (n ≡ m → ⊥) → g ≡ n + 1 → g ≤ m
        beyond n m g h ne e = omega arith

        top : (length cs ≡ k) ⊎ (length cs ≡ k → ⊥) → P (slice_index_or (cs ++ c ∷ []) k [])
        top (inl e) = subst P (sym (get_or_push cs c [] k e)) here
        top (inr ne) =
            subst P (get_or_past cs k [] past
            ∙ sym (get_or_past (cs ++ c ∷ []) k []
            (beyond (length cs) k (length (cs ++ c ∷ [])) past ne long))) (each k)

pub sound_more : (cs : List (List ℕ)) (t : Trail) (c : List ℕ) → IsSound cs t → IsClause c
    → AreBelow t.vars c → IsSound (cs ++ c ∷ []) t
sound_more cs t c s sorted below = record {
  trail = s.trail;
  clauses_are = record {
    sorted = at_number IsClause cs c s.clauses_are.sorted sorted;
    below = at_number (λ (d : List ℕ). AreBelow t.vars d) cs c s.clauses_are.below below;
  };
  justified = λ i inside forced.
      let was = s.justified i inside forced in (
        further (reason_at t i) (length cs) (length (cs ++ c ∷ [])) was.0 (length_push cs c),
        subst (λ (d : List ℕ). IsReasonFor d t i)
            (sym (get_or_append_left cs (c ∷ []) [] (reason_at t i) was.0)) was.1,
      );
}
  where
    further : (r n m : ℕ) → r < n → m ≡ n + 1 → r < m
    further r n m h e = omega arith

-- the lines up to a place, once one more stands
front : (log : List Line) (line : Line) (i : ℕ) → i ≤ length log
    → take i (log ++ line ∷ []) ≡ take i log
front log line i h = take-append-le i log (line ∷ []) h

found : (log : List Line) (line other : Line) (i : ℕ) → slice_get (log ++ line ∷ []) i ≡ Some other
    → ((i < length log) × (slice_get log i ≡ Some other)) ⊎ ((i ≡ length log) × (line ≡ other))
found log line other i at = go (cases_lt i (length log))
  where
    inside : i < length (log ++ line ∷ [])
    inside = slice_get_within (log ++ line ∷ []) i other at

    is : get_or (log ++ line ∷ []) i other ≡ other
    is = get_or_from_slice_get (log ++ line ∷ []) i other other at

    last : (j n m : ℕ) → j < m → m ≡ n + 1 → n ≤ j → j ≡ n
    last j n m h e k = omega arith

    go : (i < length log) ⊎ (length log ≤ i)
        → ((i < length log) × (slice_get log i ≡ Some other)) ⊎ ((i ≡ length log) × (line ≡ other))
    go (inl less) =
        inl (
          less,
          slice_get-get_or log i other less
              ∙ ap (λ (x : Line). Some x) (sym (get_or_append_left log (line ∷ []) other i less)
              ∙ is),
        )
    go (inr past) =
        let e : i ≡ length log = last i (length log) (length (log ++ line ∷ [])) inside
        (length_push log line) past in
        inr (e, sym (get_or_push log line other i (sym e)) ∙ is)

below_le : (i n : ℕ) → i < n → i ≤ n
below_le i n h = omega arith

whole : (log : List Line) (line : Line) (i : ℕ) → i ≡ length log → take i (log ++ line ∷ []) ≡ log
whole log line i e = take_at log (line ∷ []) i (sym e)

pub good_more : (cnf : Cnf) (log : List Line) (line : Line) → AreGood cnf log
    → IsGoodLine cnf.vars (known cnf log) line → AreGood cnf (log ++ line ∷ [])
good_more cnf log line good here i other at =
    elim (found log line other i at) [
      | inl old ↦ subst (λ (ls : List Line). IsGoodLine cnf.vars (known cnf ls) other)
          (sym (front log line i (below_le i (length log) old.0))) (good i other old.1)
      | inr last ↦ subst (λ (ls : List Line). IsGoodLine cnf.vars (known cnf ls) other)
          (sym (whole log line i last.0))
          (subst (λ (l : Line). IsGoodLine cnf.vars (known cnf log) l) last.1 here)
    ]

abbrev IsFresh : List (List ℕ) → List ℕ → Type 0
IsFresh cs c = (k : ℕ) → k < length cs → slice_index_or cs k [] ≢ c

pub new_more : (cnf : Cnf) (log : List Line) (line : Line) → AreNew cnf log
    → IsFresh (known cnf log) line.clause → AreNew cnf (log ++ line ∷ [])
new_more cnf log line fresh here i other at =
    elim (found log line other i at) [
      | inl old ↦ subst (λ (ls : List Line). IsFresh (known cnf ls) other.clause)
          (sym (front log line i (below_le i (length log) old.0))) (fresh i other old.1)
      | inr last ↦ subst (λ (ls : List Line). IsFresh (known cnf ls) other.clause)
          (sym (whole log line i last.0))
          (subst (λ (l : Line). IsFresh (known cnf log) l.clause) last.1 here)
    ]

pub known_more : (cnf : Cnf) (log : List Line) (line : Line)
    → known cnf (log ++ line ∷ []) ≡ known cnf log ++ line.clause ∷ []
known_more cnf log line =
    ap (λ (cs : List (List ℕ)). cnf.clauses ++ cs)
    (map-append (λ (l : Line). l.clause) log (line ∷ []))
    ∙ sym (append_assoc cnf.clauses (map (λ (l : Line). l.clause) log) (line.clause ∷ []))

all_push : (P : Line → Type 0) (log : List Line) (line : Line) → AllByRecursion P log → P line
    → AllByRecursion P (log ++ line ∷ [])
all_push P [] line all here = (here, tt)
all_push P (l ∷ log) line all here = (all.0, all_push P log line all.1 here)

pub state_more : (cnf : Cnf) (s t : Search) (line : Line) → IsState cnf s
    → IsGoodLine cnf.vars s.arena line → IsClause line.clause → line.clause ≢ []
    → IsFresh s.arena line.clause → t.arena ≡ s.arena ++ line.clause ∷ [] → t.trail ≡ s.trail
    → t.analysis ≡ s.analysis
    → t.lines.items ≡ s.lines.items ++ line ∷ [] → length t.arena < NO_CLAUSE → IsState cnf t
state_more cnf s t line st good sorted filled fresh arena trail analysis lines room = record {
  sound = subst (λ (cs : List (List ℕ)). IsSound cs t.trail) (sym arena)
      (subst (λ (u : Trail). IsSound (s.arena ++ line.clause ∷ []) u) (sym trail)
      (sound_more s.arena s.trail line.clause st.sound sorted
      (subst (λ n. AreBelow n line.clause) (sym st.vars) good.range.variables)));
  vars = ap (λ (u : Trail). u.vars) trail ∙ st.vars;
  analysis_vars = ap (λ (a : Analysis). a.vars) analysis ∙ st.analysis_vars;
  idle = subst (λ (a : Analysis). IsIdle a) (sym analysis) st.idle;
  clauses = arena ∙ ap (λ (cs : List (List ℕ)). cs ++ line.clause ∷ []) st.clauses
      ∙ sym (known_more cnf s.lines.items line) ∙ ap (λ (ls : List Line). known cnf ls) (sym lines);
  few = room;
  good = subst (λ (ls : List Line). AreGood cnf ls) (sym lines)
      (good_more cnf s.lines.items line st.good
      (subst (λ (cs : List (List ℕ)). IsGoodLine cnf.vars cs line) st.clauses good));
  fresh = subst (λ (ls : List Line). AreNew cnf ls) (sym lines)
      (new_more cnf s.lines.items line st.fresh
      (subst (λ (cs : List (List ℕ)). IsFresh cs line.clause) st.clauses fresh));
  filled = subst (λ (ls : List Line). AllByRecursion (λ (l : Line). l.clause ≢ []) ls) (sym lines)
      (all_push (λ (l : Line). l.clause ≢ []) s.lines.items line st.filled filled);
}

-- what the end of an analysis says of the line's clause
pub concluded : (t : Trail) (a : Analysis) (clause : List ℕ) (jump : Option Jump)
    → IsConcluded t a jump → ((l : ℕ) → has clause l ≡ marked a.marks.items l)
    → ((c : List ℕ) → ((l : ℕ) → has c l ≡ false) → c ≡ [])
    → MatchOption jump (clause ≡ []) (Asserts clause t)
concluded t a clause None blank marks law = law clause (λ l. marks l ∙ blank l)
concluded t a clause (Some jump) j marks law = record {
  inside = j.inside;
  above = j.above;
  decision = j.decision;
  in_it = marks (opposite (lit_at t jump.at)) ∙ j.in_it;
  others = λ l m ne. j.others l (sym (marks l) ∙ m) ne;
}

-- the rank falls where the measure rises, and with each line
pub rank_by_progress : (a b m p q : ℕ) → a ≡ b → p < q → q < m → a * m + (m - q) < b * m + (m - p)
rank_by_progress a b m p q e h k = subst (λ c. a * m + (m - q) < c * m + (m - p)) e
    (under (a * m) m p q h k)
  where
    under : (x n r s : ℕ) → r < s → s < n → x + (n - s) < x + (n - r)
    under x n r s f g = omega arith

pub rank_by_line : (a b m p q : ℕ) → b ≡ a + 1 → p < m → a * m + (m - q) < b * m + (m - p)
rank_by_line a b m p q e h =
    subst (λ c. a * m + (m - q) < c * m + (m - p)) (sym e)
    (under (a * m) ((a + 1) * m) m p q (add-mul a 1 m) h)
  where
    under : (x y n r s : ℕ) → y ≡ x + 1 * n → r < n → x + (n - s) < y + (n - r)
    under x y n r s f g = omega arith

pub last_line : (log : List Line) (line : Line) → line.clause ≡ []
    → slice_get (map (λ (l : Line). l.clause) (log ++ line ∷ [])) (length (log ++ line ∷ []) - 1)
    ≡ Some []
last_line log line empty =
    ap (λ (cs : List (List ℕ)). slice_get cs (length (log ++ line ∷ []) - 1))
    (map-append (λ (l : Line). l.clause) log (line ∷ []))
    ∙ slice_get-get_or clauses place [] inside
    ∙ ap (λ (c : List ℕ). Some c) (get_or_push (map (λ (l : Line). l.clause) log) line.clause []
    place (length-map log (λ (l : Line). l.clause) ∙ sym at) ∙ empty)
  where
    clauses : List (List ℕ)
    clauses = map (λ (l : Line). l.clause) log ++ line.clause ∷ []

    place : ℕ
    place = length (log ++ line ∷ []) - 1

    minus : (n m : ℕ) → n ≡ m + 1 → n - 1 ≡ m
    minus n m e = omega arith

    at : place ≡ length log
    at = minus (length (log ++ line ∷ [])) (length log) (length_push log line)

    less : (p n k l : ℕ) → p ≡ n → k ≡ l + 1 → l ≡ n → p < k
    less p n k l e f g = omega arith

    inside : place < length clauses
    inside = less place (length log) (length clauses) (length (map (λ (l : Line). l.clause) log)) at
        (length_push (map (λ (l : Line). l.clause) log) line.clause)
        (length-map log (λ (l : Line). l.clause))

pub rank_rises : (learnt : ℕ) (s t : Search) → t.lines.items ≡ s.lines.items
    → t.trail.vars ≡ s.trail.vars → progress s.trail < progress t.trail
    → rank learnt t < rank learnt s
rank_rises learnt s t lines vars rises =
    subst (λ n. (learnt - length t.lines.items) * 3 ^ n + (3 ^ n - progress t.trail)
    < rank learnt s) (sym vars)
    (rank_by_progress (learnt - length t.lines.items) (learnt - length s.lines.items)
    (3 ^ s.trail.vars) (progress s.trail) (progress t.trail)
    (ap (λ (ls : List Line). learnt - length ls) lines) rises
    (subst (λ n. progress t.trail < 3 ^ n) vars (weight_below t.trail.vars t.trail.reasons.items)))

pub trail_rises : (learnt count : ℕ) (t u : Trail) → u.vars ≡ t.vars → progress t < progress u
    → (learnt - count) * 3 ^ u.vars + (3 ^ u.vars - progress u)
    < (learnt - count) * 3 ^ t.vars + (3 ^ t.vars - progress t)
trail_rises learnt count t u vars rises =
    subst (λ n. (learnt - count) * 3 ^ n + (3 ^ n - progress u)
    < (learnt - count) * 3 ^ t.vars + (3 ^ t.vars - progress t)) (sym vars)
    (rank_by_progress (learnt - count) (learnt - count) (3 ^ t.vars) (progress t) (progress u) refl
    rises
    (subst (λ n. progress u < 3 ^ n) vars (weight_below u.vars u.reasons.items)))

pub rank_lines : (learnt : ℕ) (s t : Search) → length t.lines.items ≡ length s.lines.items + 1
    → length s.lines.items < learnt → t.trail.vars ≡ s.trail.vars → rank learnt t < rank learnt s
rank_lines learnt s t lines room vars =
    subst (λ n. (learnt - length t.lines.items) * 3 ^ n + (3 ^ n - progress t.trail)
    < rank learnt s) (sym vars)
    (rank_by_line (learnt - length t.lines.items) (learnt - length s.lines.items) (3 ^ s.trail.vars)
    (progress s.trail) (progress t.trail)
    (one_less learnt (length t.lines.items) (length s.lines.items) lines room)
    (weight_below s.trail.vars s.trail.reasons.items))
  where
    one_less : (n a b : ℕ) → a ≡ b + 1 → b < n → n - b ≡ n - a + 1
    one_less n a b e h = omega arith

-- the rank does not rise where the measure does not fall
pub rank_keeps : (learnt : ℕ) (s t : Search) → t.lines.items ≡ s.lines.items
    → t.trail.vars ≡ s.trail.vars → progress s.trail ≤ progress t.trail
    → rank learnt t ≤ rank learnt s
rank_keeps learnt s t lines vars rises =
    subst (λ n. (learnt - length t.lines.items) * 3 ^ n + (3 ^ n - progress t.trail)
    ≤ rank learnt s) (sym vars)
    (subst (λ (ls : List Line). (learnt - length ls) * 3 ^ s.trail.vars +
    (3 ^ s.trail.vars - progress t.trail) ≤ rank learnt s) (sym lines)
    (under ((learnt - length s.lines.items) * 3 ^ s.trail.vars) (3 ^ s.trail.vars)
    (progress s.trail) (progress t.trail) rises))
  where
    under : (x m p q : ℕ) → p ≤ q → x + (m - q) ≤ x + (m - p)
    under x m p q h = omega arith

-- propagation leaves a state of no greater rank
pub state_after : (cnf : Cnf) (s t : Search) → IsState cnf s → IsSound t.arena t.trail
    → IsRisen s.trail t.trail → IsAsBut s t → IsState cnf t
state_after cnf s t st sound r same = record {
  sound = sound;
  vars = r.vars ∙ st.vars;
  analysis_vars = ap (λ (a : Analysis). a.vars) same.analysis ∙ st.analysis_vars;
  idle = subst (λ (a : Analysis). IsIdle a) (sym same.analysis) st.idle;
  clauses = same.arena ∙ st.clauses ∙ ap (λ (ls : List Line). known cnf ls) (sym same.lines);
  few = subst (λ (cs : List (List ℕ)). length cs < NO_CLAUSE) (sym same.arena) st.few;
  good = subst (λ (ls : List Line). AreGood cnf ls) (sym same.lines) st.good;
  fresh = subst (λ (ls : List Line). AreNew cnf ls) (sym same.lines) st.fresh;
  filled = subst (λ (ls : List Line). AllByRecursion (λ (l : Line). l.clause ≢ []) ls)
      (sym same.lines) st.filled;
}
