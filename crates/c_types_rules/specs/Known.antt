-- The functions that a text may call without a declaration (this project's own; the names are
-- SV-COMP's).
use Rattle.std.specs.Prelude.{ℕ, List, find, codes, Option, None, Some, option_map}
use Rattle.std.specs.Str.{bytes_eq}
use Rattle.cpa_ints.specs.declared.integers.IntType.TheVariants as ty
use Rattle.cpa_ints.specs.declared.data_model.DataModel.{DataModel}
use Rattle.cpa_ints.specs.DataModels.{long, unsigned_long}
use Rattle.c_types_rules.specs.declared.meaning.Kind.{Kind}
use Rattle.c_types_rules.specs.declared.meaning.Kind.TheVariants.{Void, Value}
use Rattle.c_types_rules.specs.declared.known.KnownFunction.{KnownFunction}
use Rattle.c_types_rules.specs.declared.known.KnownFunction.TheVariants as function
use Rattle.c_types_rules.specs.declared.known.KnownName.{KnownName}
use Rattle.c_types_rules.specs.declared.known.KnownName.TheVariants as name
use Rattle.c_types_rules.specs.declared.known.TheConstants.{KNOWN}

abbrev pub spelling_of_known : KnownName → List ℕ
spelling_of_known name.ReachError = codes "reach_error"
spelling_of_known name.Abort = codes "abort"
spelling_of_known name.Exit = codes "exit"
spelling_of_known name.AssertFail = codes "__assert_fail"
spelling_of_known name.InputBool = codes "__VERIFIER_nondet_bool"
spelling_of_known name.InputChar = codes "__VERIFIER_nondet_char"
spelling_of_known name.InputUnsignedChar = codes "__VERIFIER_nondet_uchar"
spelling_of_known name.InputShort = codes "__VERIFIER_nondet_short"
spelling_of_known name.InputUnsignedShort = codes "__VERIFIER_nondet_ushort"
spelling_of_known name.InputInt = codes "__VERIFIER_nondet_int"
spelling_of_known name.InputUnsigned = codes "__VERIFIER_nondet_uint"
spelling_of_known name.InputLong = codes "__VERIFIER_nondet_long"
spelling_of_known name.InputUnsignedLong = codes "__VERIFIER_nondet_ulong"
spelling_of_known name.InputLongLong = codes "__VERIFIER_nondet_longlong"
spelling_of_known name.InputUnsignedLongLong = codes "__VERIFIER_nondet_ulonglong"

-- the function that it names in a data model
abbrev pub function_named : DataModel → KnownName → KnownFunction
function_named model name.ReachError = function.ReachError
function_named model name.Abort = function.Abort
function_named model name.Exit = function.Exit
function_named model name.AssertFail = function.AssertFail
function_named model name.InputBool = function.Input ty.Bool
function_named model name.InputChar = function.Input ty.I8
function_named model name.InputUnsignedChar = function.Input ty.U8
function_named model name.InputShort = function.Input ty.I16
function_named model name.InputUnsignedShort = function.Input ty.U16
function_named model name.InputInt = function.Input ty.I32
function_named model name.InputUnsigned = function.Input ty.U32
function_named model name.InputLong = function.Input (long model)
function_named model name.InputUnsignedLong = function.Input (unsigned_long model)
function_named model name.InputLongLong = function.Input ty.I64
function_named model name.InputUnsignedLongLong = function.Input ty.U64

-- the known name that is spelled so, and its function
unfoldable pub known_name : List ℕ → Option KnownName
known_name name = find (λ one. bytes_eq (spelling_of_known one) name) KNOWN

abbrev pub known : DataModel → List ℕ → Option KnownFunction
known model name = option_map (function_named model) (known_name name)

-- the type of its result
abbrev pub known_result : KnownFunction → Kind
known_result (function.Input t) = Value t
known_result _ = Void

-- how many arguments it takes; none where it takes any number
abbrev pub known_arity : KnownFunction → Option ℕ
known_arity function.Exit = Some 1
known_arity function.AssertFail = None
known_arity _ = Some 0
