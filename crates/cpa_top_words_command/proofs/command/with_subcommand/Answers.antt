use Rattle.std.proofs.Common.{ap, sym, subst, refl, ◌∙◌, ◌≡◌, IfOk, true, false, Bool}
use Rattle.std.specs.Prelude.{◌&&◌, not}
use Rattle.std.proofs.lemmas.Result.{IfOk-weaker}
use Rattle.clap.specs.Words.{App, app_of, with_subcommand}
use Rattle.cpa_top_words_command.proofs.command.with_subcommand.Goals as goal

-- a plain command has no global argument
third_false : (a b c d : Bool) → (a && (not b && (not c && d))) ≡ true → c ≡ false
third_false a b false d e = refl
third_false false b true d e = sym e
third_false true true true d e = sym e
third_false true false true d e = sym e

plain : App → Bool
plain a = a.top.is_plain

pub returns-in-Ok-part : goal.returns-in-Ok-part
unfolding plain
returns-in-Ok-part c app added is_plain made given =
    let is : app_of c.in-Ok.command ≡ app =
    subst (λ p. IfOk p (λ command. app_of command ≡ app)) c.in-Ok.is made in
    let is_added : app_of c.in-Ok-part.added ≡ added =
    subst (λ p. IfOk p (λ command. app_of command ≡ added)) c.in-Ok-part.is given in
    IfOk-weaker c.subcommand.result _ _ (λ r adds.
    adds.shape (third_false _ _ _ _ (ap plain is_added ∙ is_plain))
    ∙ ap (λ (a : App). with_subcommand a (app_of c.in-Ok-part.added).top) is
    ∙ ap (λ (a : App). with_subcommand app a.top) is_added) c.subcommand.ensures
