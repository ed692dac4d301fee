-- A table with one more key: what stands at the others is as before.
use Rattle.std.proofs.Common.{◌≡◌, refl, sym, ap, ◌∙◌, ℕ, List, [], ◌∷◌, Bool, true, false, cond}
use Rattle.std.proofs.Common.{Option, Some, None, option_map, Bor, Ordering, Less, Equal, Greater}
use Rattle.std.proofs.Common.{nat_cmp, String, Global, string_bytes}
use Rattle.std.proofs.lemmas.Map.Lookups.{exact_bytes}
use Rattle.std.proofs.lemmas.Map.Text.{is_eq-slice_cmp}
use Rattle.std.specs.BTreeMap.{insert_entry}
use Rattle.std.specs.Cmp.Lexicographic.{slice_cmp}
use Rattle.std.specs.Option.{option_or, is_none}
use Rattle.std.specs.Ordering.{match_ordering, is_eq}
use Rattle.std.specs.Str.{bytes_eq}
use Rattle.std.specs.String.{string_cmp}
use Rattle.toml.specs.Data.{Data, get_member}
use Rattle.toml.specs.View.{view, members_view}
use Rattle.toml.specs.declared.value.Value.{Value}
use Rattle.toml.proofs.Views.{Entry, table_insert}

-- what stands at a key that differs from that of the first entry
skipped : (o : Ordering) (rest : Option Data) (d : Data) → is_eq o ≡ false
    → match_ordering o rest (Some d) rest ≡ rest
skipped Less rest d h = refl
skipped Equal rest d h = absurd (cc)
skipped Greater rest d h = refl

module _ (j : List ℕ) (k : String Global) (v : Value)
    (other : is_eq (slice_cmp nat_cmp j (string_bytes k)) ≡ false) where
  put : (o : Ordering) (e : Entry) (es : List Entry) → string_cmp k e.0 ≡ o
      → get_member j (members_view (insert_entry string_cmp es k v))
      ≡ get_member j (members_view es)
      → get_member j (members_view (match_ordering o ((k, v) ∷ e ∷ es) ((e.0, v) ∷ es)
      (e ∷ insert_entry string_cmp es k v))) ≡ get_member j (members_view (e ∷ es))
  put Less e es is ih = skipped (slice_cmp nat_cmp j (string_bytes k)) _ (view v) other
  put Equal e es is ih =
      let same : string_bytes k ≡ string_bytes e.0 =
      exact_bytes (string_bytes k) (string_bytes e.0) is in
      let here : is_eq (slice_cmp nat_cmp j (string_bytes e.0)) ≡ false = rw (← same) other in
      skipped (slice_cmp nat_cmp j (string_bytes e.0)) _ (view v) here
      ∙ sym (skipped (slice_cmp nat_cmp j (string_bytes e.0)) _ (view e.1) here)
  put Greater e es is ih =
      ap (λ (rest : Option Data). match_ordering (slice_cmp nat_cmp j (string_bytes e.0)) rest
      (Some (view e.1)) rest) ih

  others_stay : (es : List Entry) → get_member j (members_view (insert_entry string_cmp es k v))
      ≡ get_member j (members_view es)
  others_stay [] = skipped (slice_cmp nat_cmp j (string_bytes k)) _ (view v) other
  others_stay (e ∷ es) = put (string_cmp k e.0) e es refl (others_stay es)

is_equal : (o : Ordering) → is_eq o ≡ true → o ≡ Equal
is_equal Less h = absurd (cc)
is_equal Equal h = refl
is_equal Greater h = absurd (cc)

or_none : (o : Option Data) → option_or o None ≡ o
or_none None = refl
or_none (Some d) = refl

pub told : (b : Bool) (j : List ℕ) (k : String Global) (name : List ℕ) (v : Value) (d : Data)
    (es : List Entry) → string_bytes k ≡ name → view v ≡ d
    → get_member name (members_view es) ≡ None → bytes_eq j name ≡ b
    → get_member j (members_view (insert_entry string_cmp es k v))
    ≡ option_or (get_member j (members_view es)) (cond b (Some d) None)
told true j k name v d es same seen none is =
    let here : j ≡ name = exact_bytes j name (is_equal _ (is_eq-slice_cmp j name ∙ is)) in
    rw (here, none) (table_insert k name v d es same seen)
told false j k name v d es same seen none is =
    others_stay j k v (rw same (is_eq-slice_cmp j name ∙ is)) es
    ∙ sym (or_none (get_member j (members_view es)))

pub none_there : (found : Option (Bor Value)) {o : Option Data} → is_none found ≡ true
    → option_map (λ value. view value.now) found ≡ o → o ≡ None
none_there None none is = sym is
none_there (Some value) none is = absurd (cc)
