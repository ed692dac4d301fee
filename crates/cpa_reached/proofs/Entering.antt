-- What the table of keys shows after a list of it has changed: `entered`, `without_it`,
-- `unchanged`.
use Rattle.std.proofs.Common.{◌≡◌, ℕ, true, cond, List, [], ◌∷◌, ◌++◌, Option, None}
use Rattle.std.proofs.Common.{Some, refl, sym, ap, subst, ◌∙◌, append-nil, ⊎_elim}
use Rattle.std.specs.Prelude.{Vec, if◌then◌else◌}
use Rattle.std.specs.Map.{lookup}
use Rattle.std.specs.declared.alloc.Global.{Global}
use Rattle.std.proofs.lemmas.Bool.{cases_Bool}
use Rattle.cpa_model.specs.declared.facts.Elem.{Elem}
use Rattle.cpa_reached_key.specs.declared.keys.Key.{Key}
use Rattle.cpa_reached_key.specs.Rows.{same_row}
use Rattle.cpa_reached_key.specs.lemmas.RowLaws.{same_row-means}
use Rattle.cpa_reached.specs.Indexes.{KeyRows, items_of, numbers_at}
use Rattle.cpa_reached.specs.Tables.{but}

abbrev pub at : List Elem → KeyRows → Option (Vec ℕ Global)
at row es = lookup (λ key. same_row row key.elems) es

-- the second table has w at the row, and is else the first
abbrev pub PutsAt : KeyRows → KeyRows → List Elem → Vec ℕ Global → Type 0
PutsAt es fs row w =
    (q : Key) → at q.elems fs ≡ cond (same_row row q.elems) (Some w) (at q.elems es)

abbrev key : List Elem → Key
key row = record { elems = row }

shown : (es fs : KeyRows) (row : List Elem) (w : Vec ℕ Global) → PutsAt es fs row w
    → (other : List Elem)
    → numbers_at other fs ≡ (if same_row row other then w.items else numbers_at other es)
shown es fs row w puts other = ⊎_elim
    (λ one. ap items_of (puts (key other)) ∙ rw one refl)
    (λ none. ap items_of (puts (key other)) ∙ rw none refl)
    (cases_Bool (same_row row other))

there : (row other : List Elem) (es : KeyRows) → same_row row other ≡ true
    → numbers_at row es ≡ numbers_at other es
there row other es same = ap (λ r. numbers_at r es) (same_row-means row other same)

-- one number more
pub entered : (es fs : KeyRows) (row : List Elem) (w : Vec ℕ Global) (n : ℕ) → PutsAt es fs row w
    → w.items ≡ numbers_at row es ++ n ∷ [] → (other : List Elem)
    → numbers_at other fs
    ≡ numbers_at other es ++ (if same_row row other then n ∷ [] else [])
entered es fs row w n puts is other = ⊎_elim
    (λ one. shown es fs row w puts other
    ∙ (rw one (is ∙ ap (λ ns. ns ++ n ∷ []) (there row other es one))))
    (λ none. shown es fs row w puts other ∙ (rw none (sym (append-nil (numbers_at other es)))))
    (cases_Bool (same_row row other))

-- one number less
pub without_it : (es fs : KeyRows) (row : List Elem) (w : Vec ℕ Global) (n : ℕ)
    → PutsAt es fs row w → w.items ≡ but n (numbers_at row es) → (other : List Elem)
    → numbers_at other fs
    ≡ (if same_row row other then but n (numbers_at other es) else numbers_at other es)
without_it es fs row w n puts is other = ⊎_elim
    (λ one. shown es fs row w puts other
    ∙ (rw one (is ∙ ap (λ ns. but n ns) (there row other es one))))
    (λ none. shown es fs row w puts other ∙ (rw none refl))
    (cases_Bool (same_row row other))

-- none under a row that is no key
pub without_none : (es fs : KeyRows) (row : List Elem) (n : ℕ) → fs ≡ es → at row es ≡ None
    → (other : List Elem)
    → numbers_at other fs
    ≡ (if same_row row other then but n (numbers_at other es) else numbers_at other es)
without_none es fs row n same none other =
    ap (λ gs. numbers_at other gs) same ∙ ⊎_elim
    (λ one.
    let empty : numbers_at other es ≡ [] = sym (there row other es one) ∙ ap items_of none in
    let both : numbers_at other es ≡ but n (numbers_at other es) =
    empty ∙ sym (ap (λ ns. but n ns) empty) in
    subst (λ b. numbers_at other es
    ≡ (if b then but n (numbers_at other es) else numbers_at other es)) (sym one) both)
    (λ apart. subst (λ b. numbers_at other es
    ≡ (if b then but n (numbers_at other es) else numbers_at other es)) (sym apart) refl)
    (cases_Bool (same_row row other))

-- nothing has changed
pub unchanged : (es fs : KeyRows) (row : List Elem) (w : Vec ℕ Global) → PutsAt es fs row w
    → w.items ≡ numbers_at row es → (other : List Elem)
    → numbers_at other fs ≡ numbers_at other es
unchanged es fs row w puts is other = ⊎_elim
    (λ one. shown es fs row w puts other ∙ (rw one (is ∙ there row other es one)))
    (λ none. shown es fs row w puts other ∙ (rw none refl))
    (cases_Bool (same_row row other))
