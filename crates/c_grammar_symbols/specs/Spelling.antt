-- How the words and marks of C are spelled (C11 6.4.1 and 6.4.6; __inline, __inline__,
-- __attribute__, asm, __asm__, __int128 and __extension__ are words of GNU C).
use Rattle.std.specs.Prelude.{ℕ, List, codes}
use Rattle.c_grammar_symbols.specs.declared.operators.BinaryOperator.{BinaryOperator}
use Rattle.c_grammar_symbols.specs.declared.operators.BinaryOperator.TheVariants as binary_operator
use Rattle.c_grammar_symbols.specs.declared.operators.AssignmentOperator.{AssignmentOperator}
use Rattle.c_grammar_symbols.specs.declared.operators.AssignmentOperator.TheVariants as assignment
use Rattle.c_grammar_symbols.specs.declared.operators.StepOperator.{StepOperator}
use Rattle.c_grammar_symbols.specs.declared.operators.StepOperator.TheVariants as step_operator
use Rattle.c_grammar_symbols.specs.declared.words.StorageWord.{StorageWord}
use Rattle.c_grammar_symbols.specs.declared.words.StorageWord.TheVariants as storage_word
use Rattle.c_grammar_symbols.specs.declared.words.SpecifierWord.{SpecifierWord}
use Rattle.c_grammar_symbols.specs.declared.words.SpecifierWord.TheVariants as specifier_word
use Rattle.c_grammar_symbols.specs.declared.words.TypeWord.{TypeWord}
use Rattle.c_grammar_symbols.specs.declared.words.TypeWord.TheVariants as type_word
use Rattle.c_grammar_symbols.specs.declared.words.OutsideWord.{OutsideWord}
use Rattle.c_grammar_symbols.specs.declared.words.OutsideWord.TheVariants as outside_word
use Rattle.c_grammar_symbols.specs.declared.words.Terminal.{Terminal}
use Rattle.c_grammar_symbols.specs.declared.words.Terminal.TheVariants as terminal
use Rattle.c_grammar_symbols.specs.declared.words.StrayMark.{StrayMark}
use Rattle.c_grammar_symbols.specs.declared.words.StrayMark.TheVariants as stray_mark

abbrev pub spelling_of_binary_operator : BinaryOperator → List ℕ
spelling_of_binary_operator binary_operator.LogicalOr = codes "||"
spelling_of_binary_operator binary_operator.LogicalAnd = codes "&&"
spelling_of_binary_operator binary_operator.BitOr = codes "|"
spelling_of_binary_operator binary_operator.BitXor = codes "^"
spelling_of_binary_operator binary_operator.BitAnd = codes "&"
spelling_of_binary_operator binary_operator.Equal = codes "=="
spelling_of_binary_operator binary_operator.NotEqual = codes "!="
spelling_of_binary_operator binary_operator.Less = codes "<"
spelling_of_binary_operator binary_operator.Greater = codes ">"
spelling_of_binary_operator binary_operator.LessEqual = codes "<="
spelling_of_binary_operator binary_operator.GreaterEqual = codes ">="
spelling_of_binary_operator binary_operator.ShiftLeft = codes "<<"
spelling_of_binary_operator binary_operator.ShiftRight = codes ">>"
spelling_of_binary_operator binary_operator.Add = codes "+"
spelling_of_binary_operator binary_operator.Subtract = codes "-"
spelling_of_binary_operator binary_operator.Multiply = codes "*"
spelling_of_binary_operator binary_operator.Divide = codes "/"
spelling_of_binary_operator binary_operator.Remainder = codes "%"

abbrev pub spelling_of_assignment_operator : AssignmentOperator → List ℕ
spelling_of_assignment_operator assignment.Assign = codes "="
spelling_of_assignment_operator assignment.Multiply = codes "*="
spelling_of_assignment_operator assignment.Divide = codes "/="
spelling_of_assignment_operator assignment.Remainder = codes "%="
spelling_of_assignment_operator assignment.Add = codes "+="
spelling_of_assignment_operator assignment.Subtract = codes "-="
spelling_of_assignment_operator assignment.ShiftLeft = codes "<<="
spelling_of_assignment_operator assignment.ShiftRight = codes ">>="
spelling_of_assignment_operator assignment.BitAnd = codes "&="
spelling_of_assignment_operator assignment.BitXor = codes "^="
spelling_of_assignment_operator assignment.BitOr = codes "|="

abbrev pub spelling_of_step_operator : StepOperator → List ℕ
spelling_of_step_operator step_operator.Increment = codes "++"
spelling_of_step_operator step_operator.Decrement = codes "--"

abbrev pub spelling_of_storage_word : StorageWord → List ℕ
spelling_of_storage_word storage_word.Extern = codes "extern"
spelling_of_storage_word storage_word.Static = codes "static"
spelling_of_storage_word storage_word.Register = codes "register"

abbrev pub spelling_of_specifier_word : SpecifierWord → List ℕ
spelling_of_specifier_word specifier_word.Inline = codes "inline"
spelling_of_specifier_word specifier_word.InlineUnderscored = codes "__inline"
spelling_of_specifier_word specifier_word.InlineInUnderscores = codes "__inline__"
spelling_of_specifier_word specifier_word.Const = codes "const"
spelling_of_specifier_word specifier_word.Noreturn = codes "_Noreturn"

abbrev pub spelling_of_type_word : TypeWord → List ℕ
spelling_of_type_word type_word.Void = codes "void"
spelling_of_type_word type_word.Bool = codes "_Bool"
spelling_of_type_word type_word.Char = codes "char"
spelling_of_type_word type_word.Short = codes "short"
spelling_of_type_word type_word.Int = codes "int"
spelling_of_type_word type_word.Long = codes "long"
spelling_of_type_word type_word.Signed = codes "signed"
spelling_of_type_word type_word.Unsigned = codes "unsigned"

abbrev pub spelling_of_outside_word : OutsideWord → List ℕ
spelling_of_outside_word outside_word.Alignas = codes "_Alignas"
spelling_of_outside_word outside_word.Alignof = codes "_Alignof"
spelling_of_outside_word outside_word.Atomic = codes "_Atomic"
spelling_of_outside_word outside_word.Complex = codes "_Complex"
spelling_of_outside_word outside_word.Generic = codes "_Generic"
spelling_of_outside_word outside_word.Imaginary = codes "_Imaginary"
spelling_of_outside_word outside_word.StaticAssert = codes "_Static_assert"
spelling_of_outside_word outside_word.ThreadLocal = codes "_Thread_local"
spelling_of_outside_word outside_word.Auto = codes "auto"
spelling_of_outside_word outside_word.Double = codes "double"
spelling_of_outside_word outside_word.Float = codes "float"
spelling_of_outside_word outside_word.Restrict = codes "restrict"
spelling_of_outside_word outside_word.Sizeof = codes "sizeof"
spelling_of_outside_word outside_word.Struct = codes "struct"
spelling_of_outside_word outside_word.Union = codes "union"
spelling_of_outside_word outside_word.Volatile = codes "volatile"
spelling_of_outside_word outside_word.Asm = codes "asm"
spelling_of_outside_word outside_word.AsmInUnderscores = codes "__asm__"
spelling_of_outside_word outside_word.Int128 = codes "__int128"
spelling_of_outside_word outside_word.Extension = codes "__extension__"

abbrev pub spelling_of_terminal : Terminal → List ℕ
spelling_of_terminal terminal.LeftParen = codes "("
spelling_of_terminal terminal.RightParen = codes ")"
spelling_of_terminal terminal.LeftBracket = codes "["
spelling_of_terminal terminal.RightBracket = codes "]"
spelling_of_terminal terminal.LeftBrace = codes "{"
spelling_of_terminal terminal.RightBrace = codes "}"
spelling_of_terminal terminal.Semicolon = codes ";"
spelling_of_terminal terminal.Comma = codes ","
spelling_of_terminal terminal.Colon = codes ":"
spelling_of_terminal terminal.Question = codes "?"
spelling_of_terminal terminal.Tilde = codes "~"
spelling_of_terminal terminal.Exclamation = codes "!"
spelling_of_terminal terminal.If = codes "if"
spelling_of_terminal terminal.Else = codes "else"
spelling_of_terminal terminal.While = codes "while"
spelling_of_terminal terminal.Do = codes "do"
spelling_of_terminal terminal.For = codes "for"
spelling_of_terminal terminal.Goto = codes "goto"
spelling_of_terminal terminal.Break = codes "break"
spelling_of_terminal terminal.Continue = codes "continue"
spelling_of_terminal terminal.Return = codes "return"
spelling_of_terminal terminal.Typedef = codes "typedef"
spelling_of_terminal terminal.Enum = codes "enum"
spelling_of_terminal terminal.Switch = codes "switch"
spelling_of_terminal terminal.Case = codes "case"
spelling_of_terminal terminal.Default = codes "default"
spelling_of_terminal terminal.Attribute = codes "__attribute__"

abbrev pub spelling_of_stray_mark : StrayMark → List ℕ
spelling_of_stray_mark stray_mark.Dot = codes "."
spelling_of_stray_mark stray_mark.Arrow = codes "->"
spelling_of_stray_mark stray_mark.Ellipsis = codes "..."
