-- What the parser says of a text without a tree (this project's own rules).
use Rattle.std.specs.Prelude.{ℕ, ◌<◌, List, length}
use Rattle.c_lexer.specs.declared.token.Token.{Token}
use Rattle.c_lexer.specs.declared.fault.Rule.TheVariants.{S2}
use Rattle.c_lexer.specs.declared.fault.TextError.{TextError}
use Rattle.c_lexer.specs.declared.fault.TextError.TheVariants as text_error
use Rattle.c_grammar_forms.specs.declared.fault.ReadError.{ReadError}
use Rattle.c_grammar_forms.specs.declared.fault.ReadError.TheVariants.{Unexpected, TooDeep}
use Rattle.c_grammar_forms.specs.declared.fault.ReadError.TheVariants.{OutOfMemory}
use Rattle.c_grammar_symbols.specs.Symbols.{Leaf}
use Rattle.c_grammar_symbols.specs.Sources.{leaf_at}
use Rattle.c_grammar_tree.specs.Faults.{IsTreeFault, rule_of}

-- the error is the fault of the text, or says nothing of it
abbrev pub IsRefused : List ℕ → List Token → TextError → Type 0
IsRefused text tokens (text_error.Fault fault) = IsTreeFault text tokens fault
IsRefused text tokens text_error.OutOfMemory = Unit {0}

-- the token that the error names is there
abbrev pub IsWithin : List Leaf → ReadError → Type 0
IsWithin leaves (Unexpected at) = at < length leaves
IsWithin leaves (TooDeep at) = at < length leaves
IsWithin leaves OutOfMemory = Unit {0}

-- the fault that names the token of the error, with the rule that it breaks
abbrev pub fault_of : List Leaf → ReadError → TextError
fault_of leaves (Unexpected at) =
    text_error.Fault (record {
      rule = rule_of (leaf_at leaves at);
      place = (leaf_at leaves at).place;
    })
fault_of leaves (TooDeep at) =
    text_error.Fault (record { rule = S2; place = (leaf_at leaves at).place })
fault_of leaves OutOfMemory = text_error.OutOfMemory
