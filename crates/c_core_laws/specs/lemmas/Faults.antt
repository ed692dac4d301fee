-- What stands among faults that are put together, and rules that are not broken.
use Rattle.std.proofs.Common.{◌≡◌, ℕ, Bool, true, false, List, [], ◌∷◌, ◌++◌, refl, inl, inr}
use Rattle.c_lexer.specs.declared.fault.Rule.{Rule}
use Rattle.c_lexer.specs.declared.fault.TextFault.{TextFault}
use Rattle.c_grammar_tree.specs.declared.item.Unit.{Unit as UnitTree}
use Rattle.c_types_rules.specs.ExpressionRules.{broken, at_if}
use Rattle.c_types_rules.specs.Items.{text_in, items_faults, nothing_before}
use Rattle.c_types_rules.specs.Recursion.{Among}
use Rattle.c_types_rules.specs.Sound.{unit_faults, without_main}
use Rattle.c_core_checked.specs.Sound.{Sound}
use Rattle.cpa_ints.specs.declared.data_model.DataModel.{DataModel}

-- none of these faults
abbrev pub NoFaults : List TextFault → Type 0
NoFaults faults = (fault : TextFault) → Among fault faults → ⊥

pub among_left : {T : Type 0} (x : T) (a b : List T) → Among x a → Among x (a ++ b)
among_left x [] b among = absurd among
among_left x (y ∷ a) b (inl is) = inl is
among_left x (y ∷ a) b (inr more) = inr (among_left x a b more)

pub among_right : {T : Type 0} (x : T) (a b : List T) → Among x b → Among x (a ++ b)
among_right x [] b among = among
among_right x (y ∷ a) b among = inr (among_right x a b among)

pub none_left : (a b : List TextFault) → NoFaults (a ++ b) → NoFaults a
none_left a b none fault among = none fault (among_left fault a b among)

pub none_right : (a b : List TextFault) → NoFaults (a ++ b) → NoFaults b
none_right a b none fault among = none fault (among_right fault a b among)

-- a rule that is not broken
pub not_broken : (r : Rule) (b : Bool) (place : ℕ) → NoFaults (broken r (at_if b place)) →
    b ≡ false
not_broken r true place none = absurd (none (record { rule = r; place = place }) (inl refl))
not_broken r false place none = refl

-- a sound text has no fault in its items
pub no_fault : (model : DataModel) (tree : UnitTree) → Sound model tree →
    NoFaults (items_faults (text_in model tree.items) tree.items nothing_before)
unfolding unit_faults
no_fault model tree sound fault among =
    sound fault (inl (inl (among_left fault
    (items_faults (text_in model tree.items) tree.items nothing_before)
    (without_main model tree) among)))
