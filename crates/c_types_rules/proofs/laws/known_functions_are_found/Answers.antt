-- The table has each known function once, and its names are those of the grammar.
use Rattle.std.specs.Prelude.{◌≡◌, ℕ, Bool, true, false, ◌||◌, List, [], ◌∷◌, map, find, cond}
use Rattle.std.specs.Prelude.{Option, Some, option_map, refl}
use Rattle.std.specs.List.{list_any}
use Rattle.std.specs.Option.{is_some}
use Rattle.std.specs.Str.{bytes_eq}
use Rattle.std.proofs.Common.{sym}
use Rattle.std.proofs.lemmas.Slice.Eq.{bytes_eq-Decides}
use Rattle.cpa_ints.specs.declared.data_model.DataModel.{DataModel}
use Rattle.c_grammar_tree.specs.declared.name.Name.{Name}
use Rattle.c_grammar_tree.specs.Items.{is_known}
use Rattle.c_types_rules.specs.declared.known.KnownName.{KnownName}
use Rattle.c_types_rules.specs.declared.known.KnownName.TheVariants as name
use Rattle.c_types_rules.specs.declared.known.TheConstants.{KNOWN}
use Rattle.c_types_rules.specs.Known.{known, known_name, spelling_of_known, function_named}
use Rattle.c_types_rules.proofs.laws.known_functions_are_found.Goals as goal

found : (m : DataModel) (n : KnownName) →
    known m (spelling_of_known n) ≡ Some (function_named m n)
unfolding known_name
found m name.ReachError = refl
found m name.Abort = refl
found m name.Exit = refl
found m name.AssertFail = refl
found m name.InputBool = refl
found m name.InputChar = refl
found m name.InputUnsignedChar = refl
found m name.InputShort = refl
found m name.InputUnsignedShort = refl
found m name.InputInt = refl
found m name.InputUnsigned = refl
found m name.InputLong = refl
found m name.InputUnsignedLong = refl
found m name.InputLongLong = refl
found m name.InputUnsignedLongLong = refl

-- a comparison of texts either way round
both_ways : (a b : Bool) → (a ≡ true → b ≡ true) → (b ≡ true → a ≡ true) → a ≡ b
both_ways true b there back = sym (there refl)
both_ways false true there back = back refl
both_ways false false there back = refl

turned : (xs ys : List ℕ) → bytes_eq xs ys ≡ bytes_eq ys xs
turned xs ys = both_ways (bytes_eq xs ys) (bytes_eq ys xs)
    (λ e. (bytes_eq-Decides ys xs).1 (sym ((bytes_eq-Decides xs ys).0 e)))
    (λ e. (bytes_eq-Decides xs ys).1 (sym ((bytes_eq-Decides ys xs).0 e)))

step : (m : DataModel) (a b : Bool) (x : KnownName) (rest : Bool) (more : Option KnownName) →
    a ≡ b → rest ≡ is_some (option_map (function_named m) more) →
    (a || rest) ≡ is_some (option_map (function_named m) (cond b (Some x) more))
step m true true x rest more same e = refl
step m true false x rest more same e = absurd (let clash : true ≡ false = same in cc)
step m false true x rest more same e = absurd (let clash : false ≡ true = same in cc)
step m false false x rest more same e = e

-- a name is among the names of a table exactly where a function is found by it
listed : (m : DataModel) (name : List ℕ) (xs : List KnownName) →
    list_any (bytes_eq name) (map spelling_of_known xs)
    ≡ is_some (option_map (function_named m)
    (find (λ n. bytes_eq (spelling_of_known n) name) xs))
listed m name [] = refl
listed m name (x ∷ xs) = step m (bytes_eq name (spelling_of_known x))
    (bytes_eq (spelling_of_known x) name) x (list_any (bytes_eq name) (map spelling_of_known xs))
    (find (λ n. bytes_eq (spelling_of_known n) name) xs)
    (turned name (spelling_of_known x)) (listed m name xs)

skipped : (m : DataModel) (name : Name) → is_known name ≡ is_some (known m name.bytes)
unfolding is_known known_name
skipped m name = listed m name.bytes KNOWN

pub returns-clause-each : goal.returns-clause-each
returns-clause-each c = found

pub returns-clause-skipped : goal.returns-clause-skipped
returns-clause-skipped c = skipped
