-- The tokens of a JSON value (RFC 8259), in front of others, and what it is to write them.
use Rattle.std.specs.Prelude.{◌≡◌, List, ◌∷◌, ◌++◌}
use Rattle.json.specs.Token.{Token}
use Rattle.json.specs.Token as token
use Rattle.json.specs.Written.{Written}
use Rattle.serde_json.specs.Data.{Data, null, boolean, number, string, array, object}
use Rattle.serde_json.specs.Data.{Items, no_items, item, Members, no_members, member}
use Rattle.serde_json.specs.Written.{number_text}

-- the tokens of a value, in front of others
abbrev mutual
  pub onto : Data → List Token → List Token
  onto null ts = token.null ∷ ts
  onto (boolean b) ts = token.boolean b ∷ ts
  onto (number n) ts = token.number (number_text n) ∷ ts
  onto (string s) ts = token.string s ∷ ts
  onto (array ds) ts = token.begin_array ∷ items_onto ds ts
  onto (object ms) ts = token.begin_object ∷ members_onto ms ts

  pub items_onto : Items → List Token → List Token
  items_onto no_items ts = token.end_array ∷ ts
  items_onto (item d ds) ts = onto d (items_onto ds ts)

  pub members_onto : Members → List Token → List Token
  members_onto no_members ts = token.end_object ∷ ts
  members_onto (member k d ms) ts = token.key k ∷ onto d (members_onto ms ts)

-- the tokens stand behind those that were written, whatever is to follow
pub record Wrote (old new : Written) (front : List Token → List Token) : Type 0 where
  pub before : new.before ≡ old.before
  pub tokens : (rest : List Token) → new.tokens ++ rest ≡ old.tokens ++ front rest
