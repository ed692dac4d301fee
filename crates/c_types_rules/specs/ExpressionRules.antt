-- The rules that a use of a name or a part can break (C11 6.5 where nothing is said), as the places
-- at which it does.
use Rattle.std.specs.Prelude.{ℕ, Bool, true, false, not, ◌==◌, ◌||◌, List, []}
use Rattle.std.specs.Prelude.{◌∷◌, ◌++◌, map, Option, None, Some, is_some}
use Rattle.std.specs.List.{flat_map}
use Rattle.c_lexer.specs.declared.fault.Rule.{Rule}
use Rattle.c_lexer.specs.declared.fault.Rule.TheVariants as rule
use Rattle.c_lexer.specs.declared.fault.TextFault.{TextFault}
use Rattle.c_types_rules.specs.declared.meaning.Kind.{Kind}
use Rattle.c_types_rules.specs.declared.meaning.Kind.TheVariants.{Void, Value}
use Rattle.c_types_rules.specs.declared.meaning.Meaning.{Meaning}
use Rattle.c_types_rules.specs.declared.meaning.Meaning.TheVariants as meaning
use Rattle.c_types_rules.specs.declared.meaning.Form.{Form}
use Rattle.c_types_rules.specs.declared.meaning.Form.TheVariants.{Bare, Element, Plain}
use Rattle.c_types_rules.specs.declared.meaning.Part.{Part}
use Rattle.c_types_rules.specs.declared.meaning.Role.{Role}
use Rattle.c_types_rules.specs.Known.{known_arity}
use Rattle.c_types_rules.specs.Parts.{is_changeable}
use Rattle.c_types_rules.specs.declared.meaning.Role.TheVariants.{Valued, Evaluated, Changed}
use Rattle.c_types_rules.specs.declared.meaning.Role.TheVariants.{Indexed}
use Rattle.c_types_rules.specs.declared.meaning.Role.TheVariants.{Called}
use Rattle.c_types_rules.specs.Expressions.{Use, named, taken, given, paired, tagged}

-- the faults of a rule at these places
abbrev pub broken : Rule → List ℕ → List TextFault
broken rule places = map (λ place. record { rule = rule; place = place }) places

-- a place where something holds
abbrev pub at_if : Bool → ℕ → List ℕ
at_if true place = place ∷ []
at_if false place = []

-- N1: a name, or a tag of a cast, is used that is not declared there (6.5.1p2; 6.7.2.3p3 lets no
-- enumerated type stand without its list before): the name
abbrev pub undeclared : Use → List ℕ
undeclared (named place None) = place ∷ []
undeclared (tagged place false) = place ∷ []
undeclared _ = []

-- the name of a function, which is none of an object
abbrev pub names_function : Option Meaning → Bool
names_function (Some (meaning.Function function)) = true
names_function (Some (meaning.Known function)) = true
names_function _ = false

-- what is called has a function's name or, as another rule says, an undeclared one
abbrev pub may_be_called : Form → Bool
may_be_called (Bare place None) = true
may_be_called (Bare place meaning) = names_function meaning
may_be_called _ = false

-- the place of a function's name
abbrev pub function_name : Form → List ℕ
function_name (Bare place meaning) = at_if (names_function meaning) place
function_name _ = []

-- N3: something other than a function's name, as an enumerator, is called (6.5.2.2p1, without
-- pointers): its first
-- token. A function's name stands as a value (6.3.2.1p4, without pointers): the name
abbrev pub misused_function : Use → List ℕ
misused_function (taken Called part) = at_if (not (may_be_called part.form)) part.place
misused_function (taken role part) = function_name part.form
misused_function _ = []

-- the function takes another number of arguments
abbrev pub takes_another : Option ℕ → ℕ → Bool
takes_another None handed = false
takes_another (Some wanted) handed = not (wanted == handed)

abbrev pub arity_faults : Option Meaning → ℕ → ℕ → List ℕ
arity_faults (Some (meaning.Function function)) place handed =
    at_if (takes_another function.arity handed) place
arity_faults (Some (meaning.Known function)) place handed =
    at_if (takes_another (known_arity function) handed) place
arity_faults _ place handed = []

-- N4: a call has another number of arguments than the function has parameters (6.5.2.2p2): the
-- called name
abbrev pub miscounted : Use → List ℕ
miscounted (given (Bare place meaning) handed) = arity_faults meaning place handed
miscounted _ = []

-- a name of an array
abbrev pub names_array : Option Meaning → Bool
names_array (Some (meaning.Object object)) = is_some object.length
names_array _ = false

abbrev pub array_name : Form → List ℕ
array_name (Bare place meaning) = at_if (names_array meaning) place
array_name _ = []

abbrev pub is_void : Option Kind → Bool
is_void (Some Void) = true
is_void _ = false

-- an array without an index stands where a value or a scalar is needed (6.3.2.1p3, without
-- pointers): its name. An index stands behind a scalar or another value (6.5.2.1p1): its first
-- token
abbrev pub misused_array : Role → Part → List ℕ
misused_array Valued part = array_name part.form
misused_array Evaluated part = array_name part.form
misused_array Changed part = array_name part.form
misused_array Indexed part = at_if (is_some part.kind) part.place
misused_array Called part = []

-- a void expression stands where a value is needed, or a scalar to assign to (6.3.2.2): its first
-- token
abbrev pub void_value : Role → Part → List ℕ
void_value Valued part = at_if (is_void part.kind) part.place
void_value Changed part = at_if (is_void part.kind) part.place
void_value _ part = []

-- one end of a conditional is void and the other one is not (6.5.15p3): the first token of that end
abbrev pub void_end_of : Option Kind → Option Kind → ℕ → ℕ → List ℕ
void_end_of (Some Void) (Some (Value t)) first second = first ∷ []
void_end_of (Some (Value t)) (Some Void) first second = second ∷ []
void_end_of _ _ first second = []

abbrev pub void_end : Part → Part → List ℕ
void_end first second = void_end_of first.kind second.kind first.place second.place

-- N5: an array, an index or a void expression where it can't stand
abbrev pub misused_type : Use → List ℕ
misused_type (taken role part) = misused_array role part ++ void_value role part
misused_type (paired first second) = void_end first second
misused_type _ = []

abbrev pub bodyless : Option Meaning → ℕ → List ℕ
bodyless (Some (meaning.Function function)) place = at_if (not (is_some function.body)) place
bodyless _ place = []

abbrev pub without_body : Form → List ℕ
without_body (Bare place meaning) = bodyless meaning place
without_body _ = []

-- N14: a function is called that is not known and has no body in the text (6.9p5, of one text): the
-- called name
abbrev pub called_without_body : Use → List ℕ
called_without_body (given form handed) = without_body form
called_without_body _ = []

-- N1 or N3 is broken by the name itself, whatever is assigned to it
abbrev pub has_own_fault : Form → Bool
has_own_fault (Bare place None) = true
has_own_fault (Bare place meaning) = names_function meaning
has_own_fault (Element None) = true
has_own_fault (Element meaning) = names_function meaning
has_own_fault Plain = false

-- N15: what is assigned to is no scalar object and no element of an array, or is const (6.5.16p2):
-- its first token
abbrev pub not_changeable : Use → List ℕ
not_changeable (taken Changed part) =
    at_if (not (is_changeable part.form || has_own_fault part.form)) part.place
not_changeable _ = []

-- a place, if there is one
abbrev pub option_places : Option ℕ → List ℕ
option_places None = []
option_places (Some place) = place ∷ []

-- the faults of one use
abbrev pub use_faults : Use → List TextFault
use_faults one = broken rule.N1 (undeclared one) ++ broken rule.N3 (misused_function one)
    ++ broken rule.N4 (miscounted one) ++ broken rule.N5 (misused_type one)
    ++ broken rule.N14 (called_without_body one) ++ broken rule.N15 (not_changeable one)

-- the faults of these uses
abbrev pub uses_faults : List Use → List TextFault
uses_faults = flat_map use_faults
