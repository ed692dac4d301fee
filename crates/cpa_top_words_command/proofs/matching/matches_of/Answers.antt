use Rattle.std.proofs.Common.{refl, sym, subst, inl, inr, ◌≡◌, List, [], Option, true}
use Rattle.std.proofs.Common.{Result, Ok, Err, IfOk, IfErr}
use Rattle.std.proofs.lemmas.Result.{IfOk-weaker}
use Rattle.clap.specs.Words.{App, FailsBy, HasKind, Kinds, Row, Text, fault_of, is_simple}
use Rattle.clap.specs.Words.{is_simple_and_free, kind_of, subcommand_of, takes}
use Rattle.clap.specs.declared.error.Error.{Error}
use Rattle.clap.specs.declared.error.kind.ErrorKind.TheVariants.{OutOfMemory}
use Rattle.clap.proofs.OnLiterals.{clap_on_literals}
use Rattle.cpa_top_words_command.specs.Commands.{cpaverify}
use Rattle.cpa_top_words_command.proofs.matching.matches_of.Goals as goal

is_free : is_simple_and_free cpaverify ≡ true
unfolding clap_on_literals
is_free = refl

is_plain : is_simple cpaverify ≡ true
unfolding clap_on_literals
is_plain = refl

-- what is found by the command is found by `cpaverify`
found_as : (app : App) (words : List Text) (found : Option (Text × List Row))
    → (is_simple app ≡ true → found ≡ subcommand_of app words) → app ≡ cpaverify
    → found ≡ subcommand_of cpaverify words
found_as app words found is_found is =
    subst (λ (a : App). found ≡ subcommand_of a words) is
    (is_found (subst (λ (a : App). is_simple a ≡ true) (sym is) is_plain))

-- the command fails by the faults of `cpaverify`
fails_as : {T : Type 0} (app : App) (words : List Text) (r : Result T Error)
    → (is_simple_and_free app ≡ true → FailsBy (fault_of app words) r) → app ≡ cpaverify
    → FailsBy (fault_of cpaverify words) r
fails_as app words r fails is =
    subst (λ (a : App). FailsBy (fault_of a words) r) is
    (fails (subst (λ (a : App). is_simple_and_free a ≡ true) (sym is) is_free))

-- what `cpaverify` takes, the command does, but for want of memory
passes_as : {T : Type 0} (app : App) (words : List Text) (r : Result T Error)
    → IfErr r (λ e. takes app words ≡ true → kind_of e ≡ OutOfMemory) → app ≡ cpaverify
    → IfErr r (λ e. takes cpaverify words ≡ true → kind_of e ≡ OutOfMemory)
passes_as app words r passes is =
    subst (λ (a : App). IfErr r (λ e. takes a words ≡ true → kind_of e ≡ OutOfMemory)) is passes

none_where_ok : {T : Type 0} (r : Result T Error) (kinds : Kinds) → FailsBy kinds r
    → IfOk r (λ x. kinds ≡ [])
none_where_ok (Ok value) kinds is = is
none_where_ok (Err error) kinds is = tt

only_memory : (e : Error) (kinds : Kinds) → HasKind kinds e → kinds ≡ []
    → kind_of e ≡ OutOfMemory
only_memory e kinds kind none =
    elim (subst (λ (ks : Kinds). HasKind ks e) none kind) [
      | inl memory ↦ memory
      | inr among ↦ absurd among
    ]

memory_where_none : {T : Type 0} (r : Result T Error) (kinds : Kinds) → FailsBy kinds r
    → IfErr r (λ e. kinds ≡ [] → kind_of e ≡ OutOfMemory)
memory_where_none (Ok value) kinds is = tt
memory_where_none (Err error) kinds is = only_memory error kinds is

pub returns-in-Ok-clause-found : goal.returns-in-Ok-clause-found
returns-in-Ok-clause-found c =
    IfOk-weaker c.try_get_matches_from.result _ _
    (λ m has. found_as _ _ _ (λ simple. (has simple).1) c.in-Ok.ensures)
    c.try_get_matches_from.ensures.matches

pub returns-in-Ok-clause-taken : goal.returns-in-Ok-clause-taken
returns-in-Ok-clause-taken c =
    none_where_ok c.try_get_matches_from.result _
    (fails_as _ _ _ c.try_get_matches_from.ensures.kinds c.in-Ok.ensures)

pub returns-in-Ok-clause-passed : goal.returns-in-Ok-clause-passed
returns-in-Ok-clause-passed c =
    passes_as _ _ c.try_get_matches_from.result c.try_get_matches_from.ensures.passes
    c.in-Ok.ensures

pub returns-in-Ok-clause-failed : goal.returns-in-Ok-clause-failed
returns-in-Ok-clause-failed c =
    memory_where_none c.try_get_matches_from.result _
    (fails_as _ _ _ c.try_get_matches_from.ensures.kinds c.in-Ok.ensures)
