-- What the plain words of each subcommand ask for (`customary`): what clap promises computes, once
-- it is told that a name is no option (`IsName`).
use Rattle.std.proofs.Common.{◌≡◌, ◌∙◌, ap, ℕ, List, [], ◌∷◌, Some, None, Bool, true, false, refl}
use Rattle.std.proofs.Common.{codes, arith, Option, option_map}
use Rattle.std.specs.Prelude.{◌==◌, ◌&&◌, if◌then◌else◌, decimal}
use Rattle.std.proofs.lemmas.Fmt.{decimal_is_IsNumeral}
use Rattle.std.specs.Str.{bytes_eq}
use Rattle.clap.specs.Words.{fault_of}
use Rattle.clap.specs.Lexer.{long_of, short_of}
use Rattle.clap.specs.ValueTests.{accepts}
use Rattle.clap.specs.declared.builder.value_parser.ValueParser.TheVariants as vp
use Rattle.clap.proofs.OnLiterals.{clap_on_literals}
use Rattle.cpa_ints.specs.declared.data_model.DataModel.TheVariants.{Lp64}
use Rattle.cpa_config.specs.Values.{models, named as model_named}
use Rattle.cpa_top_words_command.specs.Commands.{cpaverify}
use Rattle.cpa_top_words.specs.Jobs.{Job, asked_by, count_in, verify, replay, recheck, bench}
use Rattle.cpa_top_words.specs.Laws.{AskAsIsCustomary, IsPlain}
use Rattle.cpa_top_words.proofs.Benches.{numeral_is_plain, small_is_taken, small_is_counted}

-- the word is no option, and not `--`
record IsName (word : List ℕ) : Type 0 where
  long : long_of word ≡ None
  short : short_of word ≡ None
  ends : bytes_eq word (45 ∷ 45 ∷ []) ≡ false

apart : (b c : Bool) (rest : List ℕ) → (if b then Some rest else None) ≡ None → (b && c) ≡ false
apart false c rest e = refl
apart true c rest e = absurd (cc)

ends_not : (word : List ℕ) → IsPlain word → bytes_eq word (45 ∷ 45 ∷ []) ≡ false
ends_not [] e = refl
ends_not (x ∷ xs) e = apart (x == 45) _ xs e

named : (word : List ℕ) → IsPlain word → IsName word
named word e = record { long = rw e refl; short = rw e refl; ends = ends_not word e }

verify_taken : (program : List ℕ) → IsName program
    → fault_of cpaverify (codes "verify" ∷ program ∷ []) ≡ []
unfolding clap_on_literals
verify_taken program is = rw (is.ends, is.long, is.short) refl

verify_asked : (program : List ℕ) → IsName program
    → asked_by (codes "verify" ∷ program ∷ []) ≡ Some (verify program None)
unfolding clap_on_literals
verify_asked program is = rw (is.ends, is.long, is.short) refl

configured_taken : (program config : List ℕ) → IsName program → IsName config
    → fault_of cpaverify (codes "verify" ∷ program ∷ codes "--config" ∷ config ∷ []) ≡ []
unfolding clap_on_literals
configured_taken program config p c = rw (p.ends, p.long, p.short, c.ends, c.long, c.short) refl

configured_asked : (program config : List ℕ) → IsName program → IsName config
    → asked_by (codes "verify" ∷ program ∷ codes "--config" ∷ config ∷ [])
    ≡ Some (verify program (Some config))
unfolding clap_on_literals
configured_asked program config p c = rw (p.ends, p.long, p.short, c.ends, c.long, c.short) refl

replay_taken : (program inputs : List ℕ) → IsName program → IsName inputs
    → fault_of cpaverify (codes "replay" ∷ program ∷ inputs ∷ []) ≡ []
unfolding clap_on_literals
replay_taken program inputs p i = rw (p.ends, p.long, p.short, i.ends, i.long, i.short) refl

replay_asked : (program inputs : List ℕ) → IsName program → IsName inputs
    → asked_by (codes "replay" ∷ program ∷ inputs ∷ []) ≡ Some (replay program inputs 1000000 Lp64)
unfolding clap_on_literals
replay_asked program inputs p i = rw (p.ends, p.long, p.short, i.ends, i.long, i.short) refl

replay_taken_in : (program inputs name : List ℕ) → IsName program → IsName inputs → IsName name
    → fault_of cpaverify (codes "replay" ∷ program ∷ inputs ∷ codes "--model" ∷ name ∷ []) ≡ []
unfolding clap_on_literals
replay_taken_in program inputs name p i n =
    rw (p.ends, p.long, p.short, i.ends, i.long, i.short, n.ends, n.long, n.short) refl

replay_asked_in : (program inputs name : List ℕ) → IsName program → IsName inputs → IsName name
    → asked_by (codes "replay" ∷ program ∷ inputs ∷ codes "--model" ∷ name ∷ [])
    ≡ option_map (replay program inputs 1000000) (model_named models name)
unfolding clap_on_literals
replay_asked_in program inputs name p i n =
    rw (p.ends, p.long, p.short, i.ends, i.long, i.short, n.ends, n.long, n.short) refl

no_job : (o : Option Job) (job : Job) → o ≡ None → o ≡ Some job → ⊥
no_job o job none some = absurd (cc)

recheck_taken : (program report : List ℕ) → IsName program → IsName report
    → fault_of cpaverify (codes "recheck" ∷ program ∷ report ∷ []) ≡ []
unfolding clap_on_literals
recheck_taken program report p r = rw (p.ends, p.long, p.short, r.ends, r.long, r.short) refl

recheck_asked : (program report : List ℕ) → IsName program → IsName report
    → asked_by (codes "recheck" ∷ program ∷ report ∷ []) ≡ Some (recheck program report None)
unfolding clap_on_literals
recheck_asked program report p r = rw (p.ends, p.long, p.short, r.ends, r.long, r.short) refl

recheck_taken_so : (program report config : List ℕ) → IsName program → IsName report
    → IsName config
    → fault_of cpaverify (codes "recheck" ∷ program ∷ report ∷ codes "--config" ∷ config ∷ [])
    ≡ []
unfolding clap_on_literals
recheck_taken_so program report config p r c =
    rw (p.ends, p.long, p.short, r.ends, r.long, r.short, c.ends, c.long, c.short) refl

recheck_asked_so : (program report config : List ℕ) → IsName program → IsName report
    → IsName config
    → asked_by (codes "recheck" ∷ program ∷ report ∷ codes "--config" ∷ config ∷ [])
    ≡ Some (recheck program report (Some config))
unfolding clap_on_literals
recheck_asked_so program report config p r c =
    rw (p.ends, p.long, p.short, r.ends, r.long, r.short, c.ends, c.long, c.short) refl

bench_taken : (text : List ℕ) → IsName text → accepts false (vp.Unsigned 0 100) text ≡ true
    → fault_of cpaverify (codes "bench" ∷ text ∷ []) ≡ []
unfolding clap_on_literals
bench_taken text is small = rw (is.ends, is.long, is.short, small) refl

bench_asked : (text : List ℕ) → IsName text
    → asked_by (codes "bench" ∷ text ∷ []) ≡ Some (bench (count_in text))
unfolding clap_on_literals
bench_asked text is = rw (is.ends, is.long, is.short) refl

pub customary : AskAsIsCustomary
customary = record {
  verifies = λ program e. record {
    taken = verify_taken program (named program e);
    asked = verify_asked program (named program e);
  };
  configures = λ program config e f. record {
    taken = configured_taken program config (named program e) (named config f);
    asked = configured_asked program config (named program e) (named config f);
  };
  replays = λ program inputs e f. record {
    taken = replay_taken program inputs (named program e) (named inputs f);
    asked = replay_asked program inputs (named program e) (named inputs f);
  };
  replays_in = λ program inputs name model e f h is. record {
    taken = replay_taken_in program inputs name (named program e) (named inputs f) (named name h);
    asked = replay_asked_in program inputs name (named program e) (named inputs f) (named name h)
        ∙ ap (option_map (replay program inputs 1000000)) is;
  };
  replays_in_none = λ program inputs name e f h none job asks.
      no_job _ job
      (replay_asked_in program inputs name (named program e) (named inputs f) (named name h)
      ∙ ap (option_map (replay program inputs 1000000)) none) asks.asked;
  rechecks = λ program report e f. record {
    taken = recheck_taken program report (named program e) (named report f);
    asked = recheck_asked program report (named program e) (named report f);
  };
  rechecks_so = λ program report config e f h. record {
    taken = recheck_taken_so program report config (named program e) (named report f)
        (named config h);
    asked = recheck_asked_so program report config (named program e) (named report f)
        (named config h);
  };
  benches = λ n few.
      let is =
      named (decimal n) (numeral_is_plain (decimal n) (decimal_is_IsNumeral n (omega arith)).0) in
      record {
        taken = bench_taken (decimal n) is (small_is_taken n few);
        asked =
            bench_asked (decimal n) is ∙ ap (λ (m : ℕ). Some (bench m)) (small_is_counted n few);
      };
}
