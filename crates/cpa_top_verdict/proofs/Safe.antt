-- What entries that prove a program safe show as a report lists them: `safe_report`.
use Rattle.std.proofs.Common.{◌≡◌, refl, sym, ap, subst, ℕ, List, [], ◌∷◌, length, map}
use Rattle.std.specs.List.{AllByRecursion}
use Rattle.cpa_model.specs.declared.automaton.Cfa.{Cfa}
use Rattle.cpa_model.specs.declared.facts.Elem.{Elem}
use Rattle.cpa_model.specs.declared.program.Program.{Program}
use Rattle.cpa_model.specs.Ascending.{AreAscending}
use Rattle.cpa_model.specs.Automata.{IsAutomatonOf}
use Rattle.cpa_model.specs.Covers.{CoversAutomaton, IsCover, IsSafe}
use Rattle.cpa_iface.specs.declared.entries.Entry.{Entry}
use Rattle.cpa_iface.specs.Meanings.{AreShaped}
use Rattle.cpa_composite.specs.Components.{Component, IsEntryOf}
use Rattle.cpa_config.specs.declared.config.Config.{Config}
use Rattle.cpa_engine.specs.declared.answers.Answer.TheVariants.{True}
use Rattle.cpa_engine.specs.Answers.{IsProof}
use Rattle.cpa_top_verdict.specs.Reports.{IsSafeReport}
use Rattle.cpa_top_verdict.specs.Verdicts.{listed, listed_entry, report_of}

-- two functions, one after the other
map_twice : {A B C : Type 0} (f : A → B) (g : B → C) (xs : List A)
    → map g (map f xs) ≡ map (λ x. g (f x)) xs
map_twice f g [] = refl
map_twice f g (x ∷ xs) = ap (λ rest. g (f x) ∷ rest) (map_twice f g xs)

-- listing an entry keeps its number and its elements
pub same_numbers : (entries : List Entry)
    → map (λ entry. entry.number) (listed entries) ≡ map (λ e. e.number) entries
same_numbers entries = map_twice listed_entry (λ entry. entry.number) entries

pub same_rows : (entries : List Entry)
    → map (λ entry. entry.elems) (listed entries) ≡ map (λ e. e.elems) entries
same_rows entries = map_twice listed_entry (λ entry. entry.elems) entries

-- each entry has so many elements, which are shaped
pub still_shaped : (cfa : Cfa) (count : ℕ) (entries : List Entry)
    → AllByRecursion (IsEntryOf cfa count) entries
    → AllByRecursion (λ entry. AreShaped cfa entry.elems) (listed entries)
still_shaped cfa count [] all = tt
still_shaped cfa count (e ∷ entries) all =
    (all.0.elems.shaped, still_shaped cfa count entries all.1)

pub still_one_each : (cfa : Cfa) (count : ℕ) (entries : List Entry)
    → AllByRecursion (IsEntryOf cfa count) entries
    → AllByRecursion (λ entry. length entry.elems ≡ count) (listed entries)
still_one_each cfa count [] all = tt
still_one_each cfa count (e ∷ entries) all =
    (all.0.elems.size, still_one_each cfa count entries all.1)

-- the counts of a report are those of the program and of its automaton
abbrev pub SafeBy : Program → Cfa → Type 0
SafeBy P cfa = (rows : List (List Elem)) → CoversAutomaton cfa rows → IsCover P rows × IsSafe P rows

pub safe_report : (P : Program) (cfa : Cfa) (cs : List Component) (config : Config)
    (entries : List Entry) → SafeBy P cfa → IsAutomatonOf P cfa → IsProof cfa cs config entries
    → IsSafeReport config.model (length cs) P (report_of config.model P cfa (True entries))
safe_report P cfa cs config entries shown of proves =
    let rows = sym (same_rows entries) in
    let shows = shown (map (λ e. e.elems) entries) proves.covers in
    record {
      automaton = cfa;
      edges = of;
      counts = record {
        text_is = refl;
        points_are = refl;
        cells_are = refl;
        edges_are = refl;
        model_is = refl;
      };
      entries = listed entries;
      body_is = refl;
      ascending = subst AreAscending (sym (same_numbers entries)) proves.ascend;
      shaped = still_shaped cfa (length cs) entries proves.shaped.each;
      one_each = still_one_each cfa (length cs) entries proves.shaped.each;
      cover = subst (IsCover P) rows shows.0;
      safe = subst (IsSafe P) rows shows.1;
    }
