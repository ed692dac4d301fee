use Rattle.std.proofs.Common.{◌≡◌, ◌++◌, ◌∷◌, [], ap, ap₂, sym, ◌∙◌, append_assoc, append-nil}
use Rattle.json.specs.Print.{print}
use Rattle.json.specs.Written.{Written}
use Rattle.serde_json.specs.Data.{Data}
use Rattle.serde_json.specs.Written.{compact_text}
use Rattle.cpa_report_print.specs.Tokens.{onto, Wrote}
use Rattle.cpa_report_print.specs.lemmas.Onto.{print-onto}
use Rattle.cpa_report_print.proofs.printing.with_line.Goals as goal

text_of : (a b : Written) (d : Data) → a.tokens ≡ [] → Wrote a b (onto d)
    → print b.tokens ≡ compact_text d
text_of a b d none w =
    ap print (sym (append-nil b.tokens) ∙ w.tokens [] ∙ ap (λ ts. ts ++ onto d []) none)
    ∙ print-onto d

pub returns : goal.returns
returns g c =
    let w = c.in_ok-write.ensures in
    let text = text_of _ _ (g.T.Json.json c.args.value.now) c.new-writer.ensures.tokens w in
    let before = w.before ∙ c.new-writer.ensures.before in
    c.in_ok-push.ensures.items
    ∙ ap (λ bs. bs ++ 10 ∷ []) (c.into_inner-longer.ensures.items ∙ ap₂ (λ b t. b ++ t) before text)
    ∙ append_assoc c.args.text.items (compact_text (g.T.Json.json c.args.value.now)) (10 ∷ [])
