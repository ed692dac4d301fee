-- Lists of values, taken from tokens one by one.
use Rattle.std.proofs.Common.{◌≡◌, List, [], ◌∷◌, ◌++◌, Some, None, map, refl, sym, ap, ◌∙◌}
use Rattle.std.proofs.Common.{append_assoc, append-nil}
use Rattle.std.specs.List.{AllByRecursion}
use Rattle.json.specs.Token.{Token}
use Rattle.json.specs.Json.{after_end_array}
use Rattle.serde_json.specs.Data.{Data, null, boolean, number, string, array, object}
use Rattle.serde_json.specs.View.{items_of}
use Rattle.cpa_report_print.specs.Tokens.{onto, items_onto}

-- no value begins with the bracket that closes a list
no_end : (d : Data) (ts : List Token) → after_end_array (onto d ts) ≡ None
no_end null ts = refl
no_end (boolean b) ts = refl
no_end (number n) ts = refl
no_end (string s) ts = refl
no_end (array ds) ts = refl
no_end (object ms) ts = refl

module _ {T : Type 0} (data_of : T → Data) (Fits : T → Type 0) where
  -- the tokens of the items and of the closing bracket, in front of others
  abbrev pub rest_of : List T → List Token → List Token
  rest_of xs ts = items_onto (items_of (map data_of xs)) ts

  -- some items are taken of a list, and these tokens are left
  pub record Going (xs done : List T) (rest ts : List Token) : Type 0 where
    pub left : List T
    pub split : done ++ left ≡ xs
    pub fit : AllByRecursion Fits left
    pub tokens : ts ≡ rest_of left rest

  pub record Next (xs done : List T) (rest ts : List Token) : Type 0 where
    pub head : T
    pub more : List T
    pub split : done ++ head ∷ more ≡ xs
    pub fits : Fits head
    pub fit : AllByRecursion Fits more
    pub tokens : ts ≡ onto (data_of head) (rest_of more rest)

  ended_at : (left xs done : List T) (rest ts new : List Token) → done ++ left ≡ xs
      → ts ≡ rest_of left rest → after_end_array ts ≡ Some new → (done ≡ xs) × (new ≡ rest)
  ended_at [] xs done rest ts new split tokens is =
      let same : Some new ≡ Some rest = sym is ∙ ap after_end_array tokens in
      (sym (append-nil done) ∙ split, cc)
  ended_at (x ∷ left) xs done rest ts new split tokens is =
      let bad : Some new ≡ None =
      sym is ∙ ap after_end_array tokens ∙ no_end (data_of x) (rest_of left rest) in
      absurd (cc)

  pub ended : (xs done : List T) (rest ts new : List Token) → Going xs done rest ts
      → after_end_array ts ≡ Some new → (done ≡ xs) × (new ≡ rest)
  ended xs done rest ts new g is = ended_at g.left xs done rest ts new g.split g.tokens is

  next_at : (left xs done : List T) (rest ts : List Token) → done ++ left ≡ xs
      → AllByRecursion Fits left → ts ≡ rest_of left rest → after_end_array ts ≡ None
      → Next xs done rest ts
  next_at [] xs done rest ts split fit tokens is =
      let bad : None ≡ Some rest = sym is ∙ ap after_end_array tokens in
      absurd (cc)
  next_at (x ∷ left) xs done rest ts split fit tokens is = record {
    head = x;
    more = left;
    split = split;
    fits = fit.0;
    fit = fit.1;
    tokens = tokens;
  }

  pub next : (xs done : List T) (rest ts : List Token) → Going xs done rest ts
      → after_end_array ts ≡ None → Next xs done rest ts
  next xs done rest ts g is = next_at g.left xs done rest ts g.split g.fit g.tokens is

  -- nothing is taken yet
  pub begun : (xs : List T) (rest ts : List Token) → AllByRecursion Fits xs
      → ts ≡ rest_of xs rest → Going xs [] rest ts
  begun xs rest ts fit tokens = record { left = xs; split = refl; fit = fit; tokens = tokens }

  -- one more is taken
  pub taken : (xs done : List T) (x : T) (rest ts new : List Token) (n : Next xs done rest ts)
      → x ≡ n.head → new ≡ rest_of n.more rest → Going xs (done ++ x ∷ []) rest new
  taken xs done x rest ts new n is left = record {
    left = n.more;
    split = append_assoc done (x ∷ []) n.more ∙ ap (λ y. done ++ y ∷ n.more) is ∙ n.split;
    fit = n.fit;
    tokens = left;
  }

-- what holds of all holds of one more
pub one_fits_more : {T : Type 0} (Fits : T → Type 0) (xs : List T) (x : T)
    → AllByRecursion Fits xs → Fits x → AllByRecursion Fits (xs ++ x ∷ [])
one_fits_more Fits [] x h one = (one, tt)
one_fits_more Fits (y ∷ xs) x h one = (h.0, one_fits_more Fits xs x h.1 one)
