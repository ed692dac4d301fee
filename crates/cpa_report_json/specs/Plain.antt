-- JSON values whose compact text is read back: no float is in them, their numbers have 64 bits, and
-- the keys of an object ascend (what serde_json keeps of a value).
use Rattle.std.specs.Prelude.{◌≡◌, ◌^◌, ◌<◌, pos, negsuc, ⊤}
use Rattle.serde_json.specs.Data.{Num, unsigned, negative, float, Data, null, boolean, number}
use Rattle.serde_json.specs.Data.{string, array, object, Items, no_items, item, Members, no_members}
use Rattle.serde_json.specs.Data.{member, put}

-- the members, put in one after another
abbrev pub gathered : Members → Members → Members
gathered no_members found = found
gathered (member k d ms) found = gathered ms (put k d found)

abbrev pub IsPlainNum : Num → Type 0
IsPlainNum (unsigned n) = n < 2 ^ 64
IsPlainNum (negative (pos n)) = ⊥
IsPlainNum (negative (negsuc n)) = n < 2 ^ 63
IsPlainNum (float x) = ⊥

-- no float is in it, and the keys of an object ascend
abbrev mutual
  pub IsPlain : Data → Type 0
  IsPlain null = ⊤
  IsPlain (boolean b) = ⊤
  IsPlain (number n) = IsPlainNum n
  IsPlain (string s) = ⊤
  IsPlain (array ds) = ItemsArePlain ds
  IsPlain (object ms) = MembersArePlain ms × (gathered ms no_members ≡ ms)

  pub ItemsArePlain : Items → Type 0
  ItemsArePlain no_items = ⊤
  ItemsArePlain (item d ds) = IsPlain d × ItemsArePlain ds

  pub MembersArePlain : Members → Type 0
  MembersArePlain no_members = ⊤
  MembersArePlain (member k d ms) = IsPlain d × MembersArePlain ms
