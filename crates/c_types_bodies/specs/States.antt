-- What is known, noted and gathered at a place of a function, and what acts there make of it (C11
-- 6.2.1 and 6.8). No rule is in it.
use Rattle.std.specs.Prelude.{ℕ, List, [], ◌∷◌, ◌++◌, Option}
use Rattle.std.specs.List.{flat_map}
use Rattle.c_lexer.specs.declared.fault.TextFault.{TextFault}
use Rattle.c_types_rules.specs.Names.{Text}
use Rattle.c_types_rules.specs.First.{first_with}
use Rattle.c_types_rules.specs.Statements.{Around, Act, Site, Walk, left_by, inner, loop}
use Rattle.c_types_rules.specs.StatementRules.{Jump, site_faults, label_at, goto_at}
use Rattle.c_types_rules.specs.Items.{Call, site_calls}

pub record State : Type 0 where
  pub around : Around
  -- the first fault so far
  pub first : Option TextFault
  pub calls : List Call
  pub labels : List Jump
  pub gotos : List Jump

-- behind these sites, where this is known
unfoldable pub noted : Text → ℕ → List Site → Around → State → State
noted text caller sites around state = record {
  around = around;
  first = first_with state.first (flat_map (site_faults text) sites);
  calls = state.calls ++ flat_map (site_calls text caller) sites;
  labels = state.labels ++ flat_map label_at sites;
  gotos = state.gotos ++ flat_map goto_at sites;
}

-- behind the acts of a part
abbrev pub walked : Text → ℕ → Walk → State → State
walked text caller walk state =
    noted text caller (walk.sites state.around) (walk.behind state.around) state

-- behind one act, which declares nothing
abbrev pub done : Text → ℕ → Act → State → State
done text caller act state =
    noted text caller (record { around = state.around; act = act } ∷ []) state.around state

-- in a scope of its own, in a loop, and behind it
abbrev pub in_scope : State → State
in_scope state = record state { around = inner state.around }

abbrev pub in_loop : State → State
in_loop state = record state { around = loop state.around }

abbrev pub back_in : Around → State → State
back_in around state = record state { around = left_by around state.around }
