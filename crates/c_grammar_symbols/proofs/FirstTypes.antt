-- What a change of one name's type leaves at each name: `given`.
use Rattle.std.specs.Prelude.{◌≡◌, ℕ, Bool, true, false, List, Option, None, Some, nat_eq}
use Rattle.std.specs.Prelude.{is_some}
use Rattle.std.proofs.Common.{refl, sym, subst, ◌∙◌}
use Rattle.std.specs.declared.vec.Vec.{Vec}
use Rattle.std.specs.Cmp.Lexicographic.{pointwise, bytes_decides}
use Rattle.std.specs.HashMap.{HashMap, UpdatesBy}
use Rattle.std.specs.Map.{lookup, KeepsOthers, IsKeyTest, AreApart}
use Rattle.std.specs.Str.{bytes_eq}
use Rattle.std.proofs.lemmas.Cmp.{nat_list_eq_equiv}
use Rattle.std.proofs.lemmas.Bool.{cases_Bool, cond-true, cond-false}
use Rattle.c_grammar_symbols.specs.declared.named.NamedType.{NamedType}
use Rattle.c_grammar_symbols.specs.Sources.{type_named, or_only}
use mathlib.Core.Logic.{⊎_elim}

apart : (name other key : List ℕ) → bytes_eq name other ≡ false → bytes_eq name key ≡ true →
    bytes_eq other key ≡ false
apart name other key n y =
    nat_list_eq_equiv.symm other key ∙ sym (nat_list_eq_equiv.congr name key other y) ∙ n

others : {K X : Type 0} (eq : K → K → Bool) (test : K → Bool) (old new : List (K × X)) →
    KeepsOthers eq test old new → (other : K → Bool) → IsKeyTest eq other → AreApart test other →
    lookup other new ≡ lookup other old
unfolding KeepsOthers
others eq test old new h = h

-- a name that has no type gets its first one
first_one : (f g : List ℕ → Option NamedType) (name : List ℕ) (ty : NamedType) →
    is_some (f name) ≡ false → g name ≡ Some ty →
    ((q : List ℕ) → bytes_eq name q ≡ false → g q ≡ f q) → (q : List ℕ) →
    g q ≡ or_only name ty q (f q)
first_one f g name ty none here other q = ⊎_elim
    (λ y. subst (λ l. g l ≡ or_only name ty l (f l)) ((bytes_decides name q).0 y)
    (here ∙ first_here name ty (f name) none))
    (λ n. other q n ∙ first_else name ty q (f q) n)
    (cases_Bool (bytes_eq name q))
  where
    first_here : (name : List ℕ) (ty : NamedType) (held : Option NamedType) →
        is_some held ≡ false → Some ty ≡ or_only name ty name held
    first_here name ty None e =
        sym (cond-true (bytes_eq name name) (Some ty) None ((bytes_decides name name).1 refl))
    first_here name ty (Some m) e = absurd (cc)

    first_else : (name : List ℕ) (ty : NamedType) (q : List ℕ) (held : Option NamedType) →
        bytes_eq name q ≡ false → held ≡ or_only name ty q held
    first_else name ty q None n = sym (cond-false (bytes_eq name q) (Some ty) None n)
    first_else name ty q (Some m) n = refl

pub given : {A S : Type 0} (name : List ℕ) (ty : NamedType)
    (old new : HashMap (Vec ℕ A) NamedType S) → is_some (type_named old name) ≡ false →
    UpdatesBy (λ x y. pointwise nat_eq x.items y.items) (λ k. pointwise nat_eq name k.items) old new
    (Some ty) → (q : List ℕ) → type_named new q ≡ or_only name ty q (type_named old q)
given name ty old new none h =
    first_one (type_named old) (type_named new) name ty none h.1 (λ q e. others _ _ _ _ h.3 _
    (λ x y. nat_list_eq_equiv.congr q x.items y.items) (λ k. apart name q k.items e))

-- a name that has a type keeps it
pub held : (name : List ℕ) (ty : NamedType) (q : List ℕ) (f : List ℕ → Option NamedType) →
    is_some (f name) ≡ true → f q ≡ or_only name ty q (f q)
held name ty q f some = ⊎_elim
    (λ y. held_by name ty q (f q) (subst (λ l. is_some (f l) ≡ true) ((bytes_decides name q).0 y)
    some))
    (λ n. first_else name ty q (f q) n)
    (cases_Bool (bytes_eq name q))
  where
    held_by : (name : List ℕ) (ty : NamedType) (q : List ℕ) (o : Option NamedType) →
        is_some o ≡ true → o ≡ or_only name ty q o
    held_by name ty q None e = absurd (cc)
    held_by name ty q (Some m) e = refl

    first_else : (name : List ℕ) (ty : NamedType) (q : List ℕ) (o : Option NamedType) →
        bytes_eq name q ≡ false → o ≡ or_only name ty q o
    first_else name ty q None n = sym (cond-false (bytes_eq name q) (Some ty) None n)
    first_else name ty q (Some m) n = refl
