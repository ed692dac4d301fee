use Rattle.std.proofs.Common.{◌≡◌, ◌∙◌, ap, sym, ℕ, List, Option, Some, None, codes, option_map}
use Rattle.std.specs.Option.{option_map_or}
use Rattle.std.specs.Borrow.{Bor}
use Rattle.clap.proofs.WalkLemmas.{first_value-rows}
use Rattle.clap.specs.Words.{found_of}
use Rattle.cpa_ints.specs.declared.data_model.DataModel.{DataModel}
use Rattle.cpa_config.specs.Values.{models, named}
use Rattle.cpa_config.specs.declared.keys.TheConstants.{DEFAULT_MODEL}
use Rattle.cpa_top_words.proofs.reading.model_of.Goals as goal

-- the data model of a name, or that by default
abbrev meant_by : Option (List ℕ) → Option DataModel
meant_by text = option_map_or (named models) text (Some DEFAULT_MODEL)

-- the text that was read is that of the rows
read : (found kept : Option (Bor (List ℕ))) (text : Option (List ℕ))
    → found ≡ kept → option_map (λ s. s.now) found ≡ text
    → meant_by (option_map (λ s. s.now) kept) ≡ meant_by text
read found kept text is same =
    ap meant_by (ap (option_map (λ (s : Bor (List ℕ)). s.now)) (sym is) ∙ same)

pub returns-in-Some : goal.returns-in-Some
returns-in-Some c =
    c.model_named.ensures
    ∙ read c.get_str.result (Some c.in-Some.name) _ c.in-Some.is
    (c.get_str.ensures ∙ first_value-rows (found_of c.args.matches.now) (codes "model"))

pub returns-in-None : goal.returns-in-None
returns-in-None c =
    read c.get_str.result None _ c.in-None.is
    (c.get_str.ensures ∙ first_value-rows (found_of c.args.matches.now) (codes "model"))
