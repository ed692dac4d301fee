-- What a round comes to: the entries at its end are a proof (`done_proves`), and where turns are
-- bounded they are not spent (`turns_spared`).
use Rattle.std.proofs.Common.{◌≡◌, ℕ, ℤ, ◌+◌, ◌*◌, ◌-◌, ◌<◌, ◌≤◌, Bool, true, false, List, [], ◌∷◌}
use Rattle.std.proofs.Common.{length, cond}
use Rattle.std.proofs.Common.{refl, sym, ap, ◌∙◌, subst, inl, inr, ⊎_elim, arith}
use Rattle.std.specs.Prelude.{◌||◌, ◌⊎◌}
use Rattle.std.specs.List.{list_any}
use Rattle.std.proofs.lemmas.Bool.{cases_Bool}
use Rattle.cpa_model.specs.declared.automaton.Cfa.{Cfa}
use Rattle.cpa_model.specs.declared.automaton.Path.{Path}
use Rattle.cpa_model.specs.declared.states.State.{State}
use Rattle.cpa_model.specs.Automata.{initial_state}
use Rattle.cpa_model.specs.Covers.{LiesInSome, CoversAutomaton}
use Rattle.cpa_model.specs.Facts.{LiesIn}
use Rattle.cpa_iface.specs.declared.entries.Entry.{Entry}
use Rattle.cpa_composite.specs.Components.{Component}
use Rattle.cpa_composite.specs.Laws.{SuggestionsStand}
use Rattle.cpa_composite.specs.Ranks.{row_height}
use Rattle.cpa_config.specs.declared.config.Config.{Config}
use Rattle.cpa_reached.specs.Entries.{ReachedSet, waiting_numbers}
use Rattle.cpa_reached.specs.Members.{IsIn}
use Rattle.cpa_reached.specs.Successors.{CoversSuccessors}
use Rattle.cpa_engine_turn.specs.Bounds.{turns_due}
use Rattle.cpa_engine_turn.specs.Keys.{rows_of}
use Rattle.cpa_engine_laws.specs.lemmas.Bounded.{waits_due}
use Rattle.cpa_engine_laws.specs.Cells.{all_untracked}
use Rattle.cpa_engine_rounds.specs.Errors.{NoneErr}
use Rattle.cpa_engine_rounds.specs.Precisions.{HaveAll}
use Rattle.cpa_engine_rounds.specs.lemmas.Safe.{safe_row}
use Rattle.cpa_engine.specs.declared.answers.Answer.TheVariants.{True, False, Unknown}
use Rattle.cpa_engine.specs.declared.answers.Why.{Why}
use Rattle.cpa_engine.specs.declared.answers.Why.TheVariants.{Turns, Rounds, NoNew}
use Rattle.cpa_engine.specs.declared.search.Search.{Search}
use Rattle.cpa_engine.specs.Answers.{IsProof, IsAnswer}
use Rattle.cpa_engine.specs.Decided.{IsTurns, IsRounds}
use Rattle.cpa_engine.specs.Kept.{IsRefuted}
use Rattle.cpa_engine.specs.Rounds.{LeadsToError}
use Rattle.cpa_engine.specs.Searches.{IsDone, IsAllTaken, IsSearch, IsSpared, AreLeft, position}

-- ---- what waits

any_waits : (x : Entry) (xs : List Entry) (b : Bool) → x.waiting ≡ b
    → list_any (λ e. e.waiting) (x ∷ xs) ≡ (b || list_any (λ e. e.waiting) xs)
any_waits x xs b is = ap (λ (c : Bool). c || list_any (λ e. e.waiting) xs) is

first_waits : (x : Entry) (xs : List Entry) (b : Bool) → x.waiting ≡ b
    → waiting_numbers (x ∷ xs) ≡ cond b (x.number ∷ waiting_numbers xs) (waiting_numbers xs)
first_waits x xs true is = rw is refl
first_waits x xs false is = rw is refl

pub all_rest : (xs : List Entry) → list_any (λ e. e.waiting) xs ≡ false → waiting_numbers xs ≡ []
all_rest [] none = refl
all_rest (x ∷ xs) none =
    ⊎_elim
    (λ yes. absurd (let wrong = sym (any_waits x xs true yes) ∙ none in cc))
    (λ other. first_waits x xs false other
    ∙ all_rest xs (sym (any_waits x xs false other) ∙ none))
    (cases_Bool x.waiting)

pub some_waits : (xs : List Entry) → list_any (λ e. e.waiting) xs ≡ true
    → waiting_numbers xs ≡ [] → ⊥
some_waits [] some none = absurd (cc)
some_waits (x ∷ xs) some none =
    ⊎_elim
    (λ yes. let wrong = sym (first_waits x xs true yes) ∙ none in absurd (cc))
    (λ other. some_waits xs (sym (any_waits x xs false other) ∙ some)
    (sym (first_waits x xs false other) ∙ none))
    (cases_Bool x.waiting)

-- ---- the cover

none_waits : (xs : List Entry) → waiting_numbers xs ≡ [] → (e : Entry) → IsIn e xs
    → e.waiting ≡ false
none_waits [] none e there = absurd there
none_waits (x ∷ xs) none e there =
    ⊎_elim
    (λ yes. absurd (let wrong = rw yes at none in cc))
    (λ other.
    let rest : waiting_numbers xs ≡ [] = rw other at none in
    ⊎_elim (λ same. subst (λ (y : Entry). y.waiting ≡ false) same other)
    (λ later. none_waits xs rest e later) there)
    (cases_Bool x.waiting)

some_row : (xs : List Entry) (e : Entry) (s : State) → IsIn e xs → LiesIn s e.elems
    → LiesInSome s (rows_of xs)
some_row [] e s there lies = absurd there
some_row (x ∷ xs) e s (inl same) lies =
    inl (subst (λ (y : Entry). LiesIn s y.elems) (sym same) lies)
some_row (x ∷ xs) e s (inr later) lies = inr (some_row xs e s later lies)

pub row_of : (xs : List Entry) (s : State) → LiesInSome s (rows_of xs)
    → (e : Entry) × IsIn e xs × LiesIn s e.elems
row_of [] s lies = absurd lies
row_of (x ∷ xs) s (inl here) = (x, inl refl, here)
row_of (x ∷ xs) s (inr later) = let r = row_of xs s later in (r.0, inr r.1, r.2)

covers_all : (cfa : Cfa) (xs : List Entry) → CoversSuccessors cfa xs → waiting_numbers xs ≡ []
    → NoneErr cfa xs → CoversAutomaton cfa (rows_of xs)
covers_all cfa xs covers none safe = record {
  initial = some_row xs covers.start.entry (initial_state cfa) covers.start.is_in
      covers.start.lies;
  successors = λ s t lies step.
      let e = row_of xs s lies in
      let found = covers.successors e.0 s t e.1 (none_waits xs none e.0 e.1) e.2 step in
      some_row xs found.entry t found.is_in found.lies;
  safe = λ s is lies error.
      let e = row_of xs s lies in safe_row cfa e.0.elems s (safe e.0 e.1) e.2 error;
}

pub done_proves : (cfa : Cfa) (cs : List Component) (config : Config) (s : Search)
    → IsDone cfa cs config s → IsProof cfa cs config s.reached.live
done_proves cfa cs config s done = record {
  covers = covers_all cfa s.reached.live done.stands.covers done.none_wait done.none_err;
  shaped = done.stands.entries;
  ascend = done.ascend;
  end = position s;
  comes = done.comes;
  are = refl;
  none_wait = done.none_wait;
  none_err = done.none_err;
}

pub done_spares : (cfa : Cfa) (cs : List Component) (config : Config) (s : Search)
    → IsDone cfa cs config s → IsSpared cfa cs config (True s.reached.live)
done_spares cfa cs config s done = record {
  keys = λ keys is enough turns. turns;
  states = λ states is enough turns. turns;
  listed = λ states is. (done.stands.pinned states is).0;
  rounds = λ tell enough rounds. rounds;
}

-- ---- other answers

pub false_spared : (cfa : Cfa) (cs : List Component) (config : Config) (inputs : List ℤ) (steps : ℕ)
    → IsSpared cfa cs config (False inputs steps)
false_spared cfa cs config inputs steps = record {
  keys = λ keys is enough turns. turns;
  states = λ states is enough turns. turns;
  listed = λ states is. tt;
  rounds = λ tell enough rounds. rounds;
}

pub why_spared : (cfa : Cfa) (cs : List Component) (config : Config) (why : Why)
    → (IsTurns (Unknown why) → ⊥) → (IsRounds (Unknown why) → ⊥)
    → IsSpared cfa cs config (Unknown why)
why_spared cfa cs config why no_turns no_rounds = record {
  keys = λ keys is enough. no_turns;
  states = λ states is enough. no_turns;
  listed = λ states is. tt;
  rounds = λ tell enough. no_rounds;
}

-- ---- the turns

-- not all turns are taken while an entry waits
never_spent : (cfa : Cfa) (cs : List Component) (count turns limit : ℕ) (r : ReachedSet)
    → AreLeft cfa cs count r limit → length r.journal ≡ turns → limit ≤ turns
    → (waiting_numbers r.live ≡ [] → ⊥) → ⊥
never_spent cfa cs count turns limit r left all enough waits =
    let due = waits_due cfa cs r.live waits in
    by ((count - length r.live) * (1 + row_height cfa cs)) (turns_due cfa cs r.live)
    (length r.journal) turns limit left all enough due
  where
    by : (room due rows turns limit : ℕ) → room + due + rows ≤ limit → rows ≡ turns
        → limit ≤ turns → 1 ≤ due → ⊥
    by room due rows turns limit left all enough one = omega (arith, left, all, enough, one)

pub turns_spared : (cfa : Cfa) (cs : List Component) (config : Config) (s : Search)
    → IsAllTaken cfa cs config s → IsSpared cfa cs config (Unknown (Turns s.reached.journal))
turns_spared cfa cs config s taken =
    let stands = taken.within.stands in
    record {
      keys = λ keys is enough turns. never_spent cfa cs (length keys) config.turns
          (length keys * (1 + row_height cfa cs)) s.reached (stands.counted keys is).1 taken.all
          enough taken.waits;
      states = λ states is enough turns. never_spent cfa cs (length states) config.turns
          (length states) s.reached (stands.pinned states is).1 taken.all enough taken.waits;
      listed = λ states is. tt;
      rounds = λ tell enough rounds. rounds;
    }

pub turns_answer : (cfa : Cfa) (cs : List Component) (config : Config) (s : Search)
    → IsAllTaken cfa cs config s → IsAnswer cfa cs config (Unknown (Turns s.reached.journal))
turns_answer cfa cs config s taken = record {
  all = taken.all;
  began = taken.within.stands.began;
  journal = taken.within.stands.journal.journal;
  end = position s;
  comes = taken.within.comes;
  are = refl;
  waits = taken.waits;
  none_err = taken.none_err;
}

-- ---- paths without a run

pub rounds_answer : (cfa : Cfa) (cs : List Component) (config : Config) (s : Search) (path : Path)
    → IsSearch cfa cs config s → LeadsToError cfa s.reached path
    → IsRefuted cfa cs config.settings path → length s.history ≡ config.rounds
    → IsAnswer cfa cs config (Unknown (Rounds path s.history))
    × IsSpared cfa cs config (Unknown (Rounds path s.history))
rounds_answer cfa cs config s path search leads refuted all = (
  record {
    refuted = refuted;
    all = all;
    newest = s.newest;
    lead = search.came.lead;
    end = position s;
    found = record { comes = search.comes; leads = leads };
    are = refl;
  },
  record {
    keys = λ keys is enough turns. turns;
    states = λ states is enough turns. turns;
    listed = λ states is. tt;
    rounds = λ tell enough rounds.
        let few = search.came.cells tell in
        absurd (too_few (length s.history) (all_untracked (length cfa.cells) s.newest)
        (length cs * length cfa.cells) config.rounds few all enough);
  },
)
  where
    too_few : (made left most rounds : ℕ) → made + left ≤ most → made ≡ rounds → most < rounds → ⊥
    too_few made left most rounds few all enough = omega (arith, few, all, enough)

pub new_answer : (cfa : Cfa) (cs : List Component) (config : Config) (s : Search) (path : Path)
    → IsSearch cfa cs config s → LeadsToError cfa s.reached path
    → IsRefuted cfa cs config.settings path → SuggestionsStand cfa path cs s.newest
    → length s.history < config.rounds → (s.again ≡ true) ⊎ HaveAll s.newest s.reached.live
    → IsAnswer cfa cs config (Unknown (NoNew path s.newest))
    × IsSpared cfa cs config (Unknown (NoNew path s.newest))
new_answer cfa cs config s path search leads refuted stand fewer none_other = (
  record {
    refuted = refuted;
    precisions = search.came.precisions;
    stand = stand;
    history = s.history;
    lead = search.came.lead;
    fewer = fewer;
    end = position s;
    found = record { comes = search.comes; leads = leads };
    are = refl;
    made = refl;
    none_other = none_other;
  },
  why_spared cfa cs config (NoNew path s.newest) (λ none. none) (λ none. none),
)
