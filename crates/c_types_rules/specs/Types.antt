-- The types that words name in a data model, and those of operators (C11 6.7.2p2, 6.5.5 to 6.5.15;
-- char is signed, and long long has 64 bits, this project's profile).
use Rattle.std.specs.Prelude.{Bool, nat_lt, if◌then◌else◌, List, Option, None, Some}
use Rattle.std.specs.Prelude.{option_and_then}
use Rattle.std.specs.List.{list_any}
use denote.Enum.Bare.{sameb}
use Rattle.cpa_ints.specs.declared.integers.IntType.{IntType}
use Rattle.cpa_ints.specs.declared.integers.IntType.TheVariants as ty
use Rattle.cpa_ints.specs.declared.data_model.DataModel.{DataModel}
use Rattle.cpa_ints.specs.DataModels.{long, unsigned_long}
use Rattle.cpa_ints.specs.Conversions.{promoted, common_type}
use Rattle.c_grammar_symbols.specs.declared.words.TypeWord.{TypeWord}
use Rattle.c_grammar_symbols.specs.declared.words.TypeWord.TheVariants as word
use Rattle.c_grammar_symbols.specs.contracts.words.TypeWord as type_word
use Rattle.c_grammar_symbols.specs.declared.operators.BinaryOperator.{BinaryOperator}
use Rattle.c_grammar_symbols.specs.declared.operators.BinaryOperator.TheVariants as binary
use Rattle.c_grammar_symbols.specs.declared.named.NamedType.{NamedType}
use Rattle.c_grammar_symbols.specs.declared.named.Size.TheVariants as size
use Rattle.c_grammar_tree.specs.Parts.{occurrences}
use Rattle.c_grammar_tree.specs.declared.expression.TypeName.{TypeName}
use Rattle.c_grammar_tree.specs.declared.expression.TypeName.TheVariants as type_name
use Rattle.c_types_rules.specs.declared.meaning.Kind.{Kind}
use Rattle.c_types_rules.specs.declared.meaning.Kind.TheVariants.{Void, Value}

-- the word stands among these
abbrev pub has : TypeWord → List TypeWord → Bool
has wanted words = list_any (λ found. sameb type_word.the_type found wanted) words

-- it stands more than once among these
abbrev pub repeats : TypeWord → List TypeWord → Bool
repeats wanted words = nat_lt 1 (occurrences wanted words)

-- the unsigned one where the words have unsigned
abbrev pub signed_or : List TypeWord → IntType → IntType → IntType
signed_or words signed unsigned = if has word.Unsigned words then unsigned else signed

-- the integer type that the words of one name, in any order; `long long` has `long` twice
abbrev pub type_of_words : DataModel → List TypeWord → IntType
type_of_words model words =
    if has word.Bool words then ty.Bool
    else if has word.Char words then signed_or words ty.I8 ty.U8
    else if has word.Short words then signed_or words ty.I16 ty.U16
    else if repeats word.Long words then signed_or words ty.I64 ty.U64
    else if has word.Long words then signed_or words (long model) (unsigned_long model)
    else signed_or words ty.I32 ty.U32

-- the type that the words name
abbrev pub kind_of_words : DataModel → List TypeWord → Kind
kind_of_words model words = if has word.Void words then Void else Value (type_of_words model words)

-- the integer type that a typedef name stands for
abbrev pub type_of_named : DataModel → NamedType → IntType
type_of_named model named = elim named.size [
  | size.Bool ↦ ty.Bool
  | size.Char ↦ if named.is_unsigned then ty.U8 else ty.I8
  | size.Short ↦ if named.is_unsigned then ty.U16 else ty.I16
  | size.Int ↦ if named.is_unsigned then ty.U32 else ty.I32
  | size.Long ↦ if named.is_unsigned then unsigned_long model else long model
  | size.LongLong ↦ if named.is_unsigned then ty.U64 else ty.I64
]

-- the type that a cast names; an enumerated type is int (C11 6.7.2.2p4 leaves it to the profile)
abbrev pub kind_of_type_name : DataModel → TypeName → Kind
kind_of_type_name model (type_name.Words words place) = kind_of_words model words
kind_of_type_name model (type_name.Typedef named place) = Value (type_of_named model named)
kind_of_type_name model (type_name.Enum tag place) = Value ty.I32

-- the integer type of an object that is declared with this type; one of type void counts as an int,
-- beside its fault
abbrev pub object_type : Kind → IntType
object_type Void = ty.I32
object_type (Value t) = t

-- the integer type, where it is one
abbrev pub value_type : Kind → Option IntType
value_type Void = None
value_type (Value t) = Some t

-- the integer type of what has a type, where it is one
abbrev pub value_kind : Option Kind → Option IntType
value_kind kind = option_and_then value_type kind

-- the type of `left operator right`, operands of these types: of comparisons and of && and || int,
-- of shifts that of the left one promoted, else that of the usual arithmetic conversions (C11 6.5.5
-- to 6.5.14)
abbrev pub binary_type : BinaryOperator → IntType → IntType → IntType
binary_type binary.LogicalOr left right = ty.I32
binary_type binary.LogicalAnd left right = ty.I32
binary_type binary.Equal left right = ty.I32
binary_type binary.NotEqual left right = ty.I32
binary_type binary.Less left right = ty.I32
binary_type binary.Greater left right = ty.I32
binary_type binary.LessEqual left right = ty.I32
binary_type binary.GreaterEqual left right = ty.I32
binary_type binary.ShiftLeft left right = promoted left
binary_type binary.ShiftRight left right = promoted left
binary_type binary.BitOr left right = common_type left right
binary_type binary.BitXor left right = common_type left right
binary_type binary.BitAnd left right = common_type left right
binary_type binary.Add left right = common_type left right
binary_type binary.Subtract left right = common_type left right
binary_type binary.Multiply left right = common_type left right
binary_type binary.Divide left right = common_type left right
binary_type binary.Remainder left right = common_type left right
