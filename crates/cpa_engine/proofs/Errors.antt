-- The first entry that may be an error (`least_some`), and that there is none (`least_none`).
use Rattle.std.proofs.Common.{◌≡◌, ℕ, Bool, true, false, cond, List, [], ◌∷◌, Option, Some, None}
use Rattle.std.proofs.Common.{refl, sym, ap, ◌∙◌, subst, inl, inr, ⊎_elim}
use Rattle.std.specs.Prelude.{IfSome, IfNone}
use Rattle.std.specs.List.{find}
use Rattle.std.specs.Option.{option_map}
use Rattle.std.proofs.lemmas.Bool.{cases_Bool}
use Rattle.cpa_model.specs.declared.automaton.Cfa.{Cfa}
use Rattle.cpa_iface.specs.declared.entries.Entry.{Entry}
use Rattle.cpa_reached.specs.Entries.{ReachedSet, IsNumbered}
use Rattle.cpa_reached.specs.Members.{IsIn}
use Rattle.cpa_engine_rounds.specs.Errors.{may_err, first_error, NoneErr}
use Rattle.cpa_engine.specs.Searches.{IsErrorAt}

-- an entry of the list, of this number, that may be an error
abbrev ErrsAt : Cfa → List Entry → ℕ → Type 0
ErrsAt cfa xs n = (e : Entry) × IsIn e xs × (e.number ≡ n) × (may_err cfa e.elems ≡ true)

one_first : (cfa : Cfa) (x : Entry) (xs : List Entry) (b : Bool) → may_err cfa x.elems ≡ b
    → first_error cfa (x ∷ xs) ≡ cond b (Some x.number) (first_error cfa xs)
one_first cfa x xs b is =
    ap (λ (c : Bool). option_map (λ (e : Entry). e.number)
    (cond c (Some x) (find (λ (e : Entry). may_err cfa e.elems) xs))) is ∙ by b
  where
    by : (c : Bool) → option_map (λ (e : Entry). e.number)
        (cond c (Some x) (find (λ (e : Entry). may_err cfa e.elems) xs))
        ≡ cond c (Some x.number) (first_error cfa xs)
    by true = refl
    by false = refl

some_errs : (cfa : Cfa) (xs : List Entry) (n : ℕ) → first_error cfa xs ≡ Some n
    → ErrsAt cfa xs n
some_errs cfa [] n is = absurd (cc)
some_errs cfa (x ∷ xs) n is =
    ⊎_elim
    (λ yes. (x, inl refl, same x.number n (sym (one_first cfa x xs true yes) ∙ is), yes))
    (λ other. let later = some_errs cfa xs n (sym (one_first cfa x xs false other) ∙ is) in
    (later.0, inr later.1, later.2, later.3))
    (cases_Bool (may_err cfa x.elems))
  where
    same : (a b : ℕ) → Some a ≡ Some b → a ≡ b
    same a b is = cc

none_errs : (cfa : Cfa) (xs : List Entry) → first_error cfa xs ≡ None → NoneErr cfa xs
none_errs cfa [] is = λ e there. absurd there
none_errs cfa (x ∷ xs) is =
    ⊎_elim
    (λ yes. absurd (let wrong = sym (one_first cfa x xs true yes) ∙ is in cc))
    (λ (other : may_err cfa x.elems ≡ false). λ e there.
    ⊎_elim (λ same. subst (λ (y : Entry). may_err cfa y.elems ≡ false) same other)
    (λ later. none_errs cfa xs (sym (one_first cfa x xs false other) ∙ is) e later) there)
    (cases_Bool (may_err cfa x.elems))

pub least_some : (cfa : Cfa) (r : ReachedSet) (o : Option ℕ) → IsNumbered r
    → o ≡ first_error cfa r.live → IfSome o (IsErrorAt cfa r)
least_some cfa r None numbered is = tt
least_some cfa r (Some n) numbered is =
    let at = some_errs cfa r.live n (sym is) in
    record {
      numbered = numbered;
      least = sym is;
      entry = at.0;
      is_in = at.1;
      number = at.2;
      errs = at.3;
    }

pub least_none : (cfa : Cfa) (xs : List Entry) (o : Option ℕ) → o ≡ first_error cfa xs
    → IfNone o (NoneErr cfa xs)
least_none cfa xs None is = none_errs cfa xs (sym is)
least_none cfa xs (Some n) is = tt
