-- Lemmas: the tokens of a value in front of others are those of its outline, and its compact text
-- is what is printed for them.
use Rattle.std.proofs.Common.{◌≡◌, List, [], ◌∷◌, ◌++◌, refl, sym, ap, ◌∙◌, append_assoc}
use Rattle.std.proofs.Common.{append-nil}
use Rattle.json.specs.Token.{Token, begin_array, begin_object, key}
use Rattle.json.specs.Print.{print}
use Rattle.json.specs.Tree.{json_tokens, items_tokens, members_tokens}
use Rattle.serde_json.specs.Data.{Data, null, boolean, number, string, array, object}
use Rattle.serde_json.specs.Data.{Items, no_items, item, Members, no_members, member}
use Rattle.serde_json.specs.Written.{compact_text, outline, items_outline, members_outline}
use Rattle.serde_json.proofs.Texts.{print-outline}
use Rattle.cpa_report_print.specs.Tokens.{onto, items_onto, members_onto}

mutual
  onto_is : (d : Data) (ts : List Token) → onto d ts ≡ json_tokens (outline d) ++ ts
  onto_is null ts = refl
  onto_is (boolean b) ts = refl
  onto_is (number n) ts = refl
  onto_is (string s) ts = refl
  onto_is (array ds) ts = ap (λ us. begin_array ∷ us) (items_onto_is ds ts)
  onto_is (object ms) ts = ap (λ us. begin_object ∷ us) (members_onto_is ms ts)

  items_onto_is : (ds : Items) (ts : List Token)
      → items_onto ds ts ≡ items_tokens (items_outline ds) ++ ts
  items_onto_is no_items ts = refl
  items_onto_is (item d ds) ts =
      onto_is d (items_onto ds ts)
      ∙ ap (λ us. json_tokens (outline d) ++ us) (items_onto_is ds ts)
      ∙ sym (append_assoc (json_tokens (outline d)) (items_tokens (items_outline ds)) ts)

  members_onto_is : (ms : Members) (ts : List Token)
      → members_onto ms ts ≡ members_tokens (members_outline ms) ++ ts
  members_onto_is no_members ts = refl
  members_onto_is (member k d ms) ts =
      ap (λ us. key k ∷ us)
      (onto_is d (members_onto ms ts)
      ∙ ap (λ us. json_tokens (outline d) ++ us) (members_onto_is ms ts)
      ∙ sym (append_assoc (json_tokens (outline d)) (members_tokens (members_outline ms)) ts))

pub onto_alone : (d : Data) → onto d [] ≡ json_tokens (outline d)
onto_alone d = onto_is d [] ∙ append-nil (json_tokens (outline d))

pub print-onto : (d : Data) → print (onto d []) ≡ compact_text d
print-onto d = ap print (onto_alone d) ∙ print-outline d
