-- The compact text of a plain value is read by serde_json as that value.
use Rattle.std.proofs.Common.{◌≡◌, suc, ◌≤◌, max, pos, negsuc, [], Some, option_map}
use Rattle.std.proofs.Common.{refl, sym, ap, ap₂, ◌∙◌, append-nil, arith}
use Rattle.json.specs.Lex.{tokens}
use Rattle.json.specs.Json as json
use Rattle.json.specs.Tree as tree
use Rattle.json.specs.Tree.{json_tokens, HasNumbers, ItemsHaveNumbers, MembersHaveNumbers}
use Rattle.json.proofs.Printed.Decimals.{IsNumber-decimal, IsNumber-signed_decimal}
use Rattle.json.proofs.Printed.Tokens.{tokens-print}
use Rattle.json.proofs.Printed.Trees.{value-json_tokens, ArePrintable-json_tokens}
use Rattle.serde_json.specs.Data.{Num, unsigned, negative, float, Data, null, boolean, number}
use Rattle.serde_json.specs.Data.{string, array, object, Items, no_items, item, Members, no_members}
use Rattle.serde_json.specs.Data.{member, put, depth, items_depth, members_depth}
use Rattle.serde_json.specs.Read.{of_json, of_items, of_members, max_depth, read}
use Rattle.serde_json.specs.Written.{outline, items_outline, members_outline, compact_text}
use Rattle.serde_json.proofs.Numbers.{number_of-decimal, number_of-negative}
use Rattle.serde_json.proofs.Texts.{print-outline}
use Rattle.cpa_report_json.specs.Plain.{gathered, IsPlainNum, IsPlain, ItemsArePlain}
use Rattle.cpa_report_json.specs.Plain.{MembersArePlain}

of_number : (n : Num) → IsPlainNum n → of_json (outline (number n)) ≡ Some (number n)
of_number (unsigned n) h = ap (option_map number) (number_of-decimal n h)
of_number (negative (pos n)) h = absurd h
of_number (negative (negsuc n)) h = ap (option_map number) (number_of-negative n h)
of_number (float x) h = absurd h

mutual
  of_outline : (d : Data) → IsPlain d → of_json (outline d) ≡ Some d
  of_outline null h = refl
  of_outline (boolean b) h = refl
  of_outline (number n) h = of_number n h
  of_outline (string s) h = refl
  of_outline (array ds) h = ap (option_map array) (of_items_outline ds h)
  of_outline (object ms) h =
      ap (option_map object) (of_members_outline ms no_members h.0 ∙ ap Some h.1)

  of_items_outline : (ds : Items) → ItemsArePlain ds → of_items (items_outline ds) ≡ Some ds
  of_items_outline no_items h = refl
  of_items_outline (item d ds) h = rw (of_outline d h.0, of_items_outline ds h.1)

  of_members_outline : (ms found : Members) → MembersArePlain ms
      → of_members (members_outline ms) found ≡ Some (gathered ms found)
  of_members_outline no_members found h = refl
  of_members_outline (member k d ms) found h =
      rw (of_outline d h.0) (of_members_outline ms (put k d found) h.1)

number_is : (n : Num) → IsPlainNum n → HasNumbers (outline (number n))
number_is (unsigned n) h = IsNumber-decimal n h
number_is (negative (pos n)) h = absurd h
number_is (negative (negsuc n)) h = IsNumber-signed_decimal (negsuc n) h
number_is (float x) h = absurd h

mutual
  numbers_in : (d : Data) → IsPlain d → HasNumbers (outline d)
  numbers_in null h = tt
  numbers_in (boolean b) h = tt
  numbers_in (number n) h = number_is n h
  numbers_in (string s) h = tt
  numbers_in (array ds) h = items_numbers ds h
  numbers_in (object ms) h = members_numbers ms h.0

  items_numbers : (ds : Items) → ItemsArePlain ds → ItemsHaveNumbers (items_outline ds)
  items_numbers no_items h = tt
  items_numbers (item d ds) h = (numbers_in d h.0, items_numbers ds h.1)

  members_numbers : (ms : Members) → MembersArePlain ms → MembersHaveNumbers (members_outline ms)
  members_numbers no_members h = tt
  members_numbers (member k d ms) h = (numbers_in d h.0, members_numbers ms h.1)

mutual
  depth_same : (d : Data) → tree.depth (outline d) ≡ depth d
  depth_same null = refl
  depth_same (boolean b) = refl
  depth_same (number n) = refl
  depth_same (string s) = refl
  depth_same (array ds) = ap suc (items_depth_same ds)
  depth_same (object ms) = ap suc (members_depth_same ms)

  items_depth_same : (ds : Items) → tree.items_depth (items_outline ds) ≡ items_depth ds
  items_depth_same no_items = refl
  items_depth_same (item d ds) = ap₂ max (depth_same d) (items_depth_same ds)

  members_depth_same : (ms : Members) → tree.members_depth (members_outline ms) ≡ members_depth ms
  members_depth_same no_members = refl
  members_depth_same (member k d ms) = ap₂ max (depth_same d) (members_depth_same ms)

-- the tokens of the text are the data's
pub tokens_are : (d : Data) → IsPlain d → tokens (compact_text d) ≡ json_tokens (outline d)
tokens_are d h =
    ap tokens (sym (print-outline d))
    ∙ tokens-print (json_tokens (outline d)) (ArePrintable-json_tokens (outline d) (numbers_in d h))

pub readable : (d : Data) → IsPlain d → depth d ≤ max_depth → read (compact_text d) ≡ Some d
readable d h shallow =
    let flat = depth_same d in
    let whole : json.value max_depth (tokens (compact_text d)) ≡ Some (outline d, []) =
    ap (json.value max_depth) (tokens_are d h ∙ sym (append-nil _))
    ∙ value-json_tokens (outline d) max_depth [] (omega arith) in
    rw whole (of_outline d h)
