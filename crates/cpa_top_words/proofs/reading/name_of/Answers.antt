use Rattle.std.proofs.Common.{ap, refl, ◌∙◌, ◌≡◌, ℕ, List, [], Option, Some, None, option_map}
use Rattle.std.specs.Prelude.{unwrap_or}
use Rattle.std.specs.Borrow.{Bor}
use Rattle.clap.specs.Words.{found_of}
use Rattle.clap.proofs.WalkLemmas.{first_value-rows}
use Rattle.cpa_top_words.proofs.reading.name_of.Goals as goal

now_or : (o : Option (Bor (List ℕ))) (e : Bor (List ℕ))
    → (unwrap_or o e).now ≡ unwrap_or (option_map (λ s. s.now) o) e.now
now_or None e = refl
now_or (Some s) e = refl

pub returns : goal.returns
returns c =
    ap (λ (s : Bor (List ℕ)). s.now) c.unwrap_or.ensures ∙ now_or c.get_str.result _
    ∙ ap (λ (t : Option (List ℕ)). unwrap_or t [])
    (c.get_str.ensures ∙ first_value-rows (found_of c.args.matches.now) c.args.id.now)
