-- What a change of one name's number leaves at each name: `updated`.
use Rattle.std.specs.Prelude.{◌≡◌, ℕ, Bool, true, false, cond, List, Option, None, Some, nat_eq}
use Rattle.std.specs.Prelude.{is_some}
use Rattle.std.proofs.Common.{refl, sym, subst, ◌∙◌}
use Rattle.std.specs.declared.vec.Vec.{Vec}
use Rattle.std.specs.Cmp.Lexicographic.{pointwise, bytes_decides}
use Rattle.std.specs.HashMap.{HashMap, UpdatesBy}
use Rattle.std.specs.Map.{lookup, KeepsOthers, IsKeyTest, AreApart}
use Rattle.std.specs.Str.{bytes_eq}
use Rattle.std.proofs.lemmas.Cmp.{nat_list_eq_equiv}
use Rattle.std.proofs.lemmas.Bool.{cases_Bool, cond-true, cond-false}
use Rattle.c_types_rules.specs.Names.{or_else}
use Rattle.c_types_names.specs.Found.{number_of}
use mathlib.Core.Logic.{⊎_elim}

apart : (name other key : List ℕ) → bytes_eq name other ≡ false → bytes_eq name key ≡ true →
    bytes_eq other key ≡ false
apart name other key n y =
    nat_list_eq_equiv.symm other key ∙ sym (nat_list_eq_equiv.congr name key other y) ∙ n

others : {K X : Type 0} (eq : K → K → Bool) (test : K → Bool) (old new : List (K × X)) →
    KeepsOthers eq test old new → (other : K → Bool) → IsKeyTest eq other → AreApart test other →
    lookup other new ≡ lookup other old
unfolding KeepsOthers
others eq test old new h = h

-- g is w at the name, and f at others
by_name : {W : Type 0} (f g : List ℕ → W) (name : List ℕ) (w : W) → g name ≡ w →
    ((q : List ℕ) → bytes_eq name q ≡ false → g q ≡ f q) → (q : List ℕ) →
    g q ≡ cond (bytes_eq name q) w (f q)
by_name f g name w here other q =
    ⊎_elim
    (λ y. subst (λ l. g l ≡ w) ((bytes_decides name q).0 y) here
    ∙ sym (cond-true (bytes_eq name q) w (f q) y))
    (λ n. other q n ∙ sym (cond-false (bytes_eq name q) w (f q) n))
    (cases_Bool (bytes_eq name q))

pub updated : {A S : Type 0} (name : List ℕ) (old new : HashMap (Vec ℕ A) ℕ S) (w : Option ℕ) →
    UpdatesBy (λ x y. pointwise nat_eq x.items y.items) (λ k. pointwise nat_eq name k.items) old new
    w → (q : List ℕ) → number_of new q ≡ cond (bytes_eq name q) w (number_of old q)
updated name old new w h =
    by_name (number_of old) (number_of new) name w h.1 (λ q e. others _ _ _ _ h.3 _
    (λ x y. nat_list_eq_equiv.congr q x.items y.items) (λ k. apart name q k.items e))

-- a name that has no number gets its first one
pub first_new : (name q : List ℕ) (n : ℕ) (f : List ℕ → Option ℕ) → is_some (f name) ≡ false →
    cond {A = Option ℕ} (bytes_eq name q) (Some n) (f q)
    ≡ or_else (f q) (cond (bytes_eq name q) (Some n) None)
first_new name q n f h = ⊎_elim
    (λ y. first_here (bytes_eq name q) n (f q) y
    (subst (λ l. is_some (f l) ≡ false) ((bytes_decides name q).0 y) h))
    (λ y. first_else (bytes_eq name q) n (f q) y)
    (cases_Bool (bytes_eq name q))
  where
    first_here : (b : Bool) (n : ℕ) (held : Option ℕ) → b ≡ true → is_some held ≡ false →
        cond {A = Option ℕ} b (Some n) held ≡ or_else held (cond b (Some n) None)
    first_here b n None y h = refl
    first_here b n (Some m) y h = absurd (cc)

    first_else : (b : Bool) (n : ℕ) (held : Option ℕ) → b ≡ false →
        cond {A = Option ℕ} b (Some n) held ≡ or_else held (cond b (Some n) None)
    first_else true n held y = absurd (cc)
    first_else false n None y = refl
    first_else false n (Some m) y = refl
