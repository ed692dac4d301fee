-- Lists of numbers that grow to the next point.
use Rattle.std.proofs.Common.{◌≡◌, ℕ, ◌+◌, ◌<◌, List, [], ◌∷◌, ◌++◌, length, set, get_or, Option}
use Rattle.std.proofs.Common.{Some, None, sym, ◌∙◌, subst, ⊎_elim, arith, IsSomeAnd}
use Rattle.std.specs.List.{AllByRecursion, Contains, slice_get}
use Rattle.std.proofs.lemmas.Bool.{cases_eq}
use Rattle.std.proofs.lemmas.List.{length-set}
use Rattle.std.proofs.lemmas.List.Elements.{Contains-append_left, Contains-push}
use Rattle.std.proofs.lemmas.Option.{same_Some, slice_get-get_or}
use Rattle.cpa_model.specs.declared.program.Program.{Program}
use Rattle.cpa_model.specs.declared.program.Stmt.TheVariants as stmt
use Rattle.cpa_model.specs.lemmas.Ascending.{ascending_push}
use Rattle.cfa_build.specs.Edges.{AreNumbersBelow, AreSitesBelow, IsCallOf}
use Rattle.cfa_build.proofs.Tables.{slice_get-set_same, slice_get-set_other}

pub each_append : {X : Type 0} (Q : X → Type 0) (xs ys : List X) → AllByRecursion Q xs
    → AllByRecursion Q ys → AllByRecursion Q (xs ++ ys)
each_append Q [] ys h k = k
each_append Q (x ∷ xs) ys h k = (h.0, each_append Q xs ys h.1 k)

pub each_weaker : {X : Type 0} (Q R : X → Type 0) → ((x : X) → Q x → R x) → (xs : List X)
    → AllByRecursion Q xs → AllByRecursion R xs
each_weaker Q R f [] h = tt
each_weaker Q R f (x ∷ xs) h = (f x h.0, each_weaker Q R f xs h.1)

-- the next number has the property
pub take_number : (Q : ℕ → Type 0) (i : ℕ) (ns : List ℕ) → AreNumbersBelow Q i ns → Q i
    → AreNumbersBelow Q (i + 1) (ns ++ i ∷ [])
take_number Q i ns h here = record {
  only =
      each_append (λ n. (n < i + 1) × Q n) ns (i ∷ [])
      (each_weaker (λ n. (n < i) × Q n) (λ n. (n < i + 1) × Q n) (λ n k. (omega (arith, k.0), k.1))
      ns h.only) ((omega arith, here), tt);
  all = λ n less is. ⊎_elim
      (λ same. subst (λ (m : ℕ). Contains (ns ++ i ∷ []) m) (sym same) (Contains-push ns i))
      (λ other. Contains-append_left ns (i ∷ []) n (h.all n (omega arith) is))
      (cases_eq n i);
  ascending =
      ascending_push ns i h.ascending
      (each_weaker (λ n. (n < i) × Q n) (λ n. n < i) (λ n k. k.0) ns h.only);
}

-- the next number has not
pub pass_number : (Q : ℕ → Type 0) (i : ℕ) (ns : List ℕ) → AreNumbersBelow Q i ns → (Q i → ⊥)
    → AreNumbersBelow Q (i + 1) ns
pass_number Q i ns h never = record {
  only =
      each_weaker (λ n. (n < i) × Q n) (λ n. (n < i + 1) × Q n)
      (λ n k. (omega (arith, k.0), k.1)) ns h.only;
  all = λ n less is. ⊎_elim
      (λ same. absurd (never (subst Q same is)))
      (λ other. h.all n (omega arith) is)
      (cases_eq n i);
  ascending = h.ascending;
}

some_then : {X : Type 0} (o : Option X) (Q R : X → Type 0) → IsSomeAnd o Q → ((x : X) → Q x → R x)
    → IsSomeAnd o R
some_then (Some x) Q R h f = f x h
some_then None Q R h f = h

-- a statement calls one function
one_callee : (P : Program) (n f g : ℕ) → IsCallOf P f n → IsCallOf P g n → f ≡ g
one_callee P n f g h k =
    let same : stmt.Call f ≡ stmt.Call g = same_Some (stmt.Call f) (stmt.Call g) (sym h ∙ k) in cc

-- the next statement calls f
pub take_site : (P : Program) (i f : ℕ) (sites : List (List ℕ)) (d new : List ℕ) → f < length sites
    → new ≡ get_or sites f d ++ i ∷ [] → AreSitesBelow P i sites → IsCallOf P f i
    → AreSitesBelow P (i + 1) (set sites f new)
take_site P i f sites d new inside more h call = record {
  each = length-set sites f new ∙ h.each;
  right = λ g below. ⊎_elim
      (λ same.
      let known : IsSomeAnd (slice_get sites f) (AreNumbersBelow (IsCallOf P f) i) =
      subst (λ (k : ℕ). IsSomeAnd (slice_get sites k) (AreNumbersBelow (IsCallOf P k) i)) same
      (h.right g below) in
      let was : AreNumbersBelow (IsCallOf P f) i (get_or sites f d) =
      rw (slice_get-get_or sites f d inside) at known in
      let now : AreNumbersBelow (IsCallOf P f) (i + 1) new =
      rw more (take_number (IsCallOf P f) i (get_or sites f d) was call) in
      let here : IsSomeAnd (slice_get (set sites f new) f)
      (AreNumbersBelow (IsCallOf P f) (i + 1)) = rw (slice_get-set_same sites f new inside) now in
      subst (λ (k : ℕ). IsSomeAnd (slice_get (set sites f new) k)
      (AreNumbersBelow (IsCallOf P k) (i + 1))) (sym same) here)
      (λ apart. rw (slice_get-set_other sites f g new apart)
      (some_then (slice_get sites g) (AreNumbersBelow (IsCallOf P g) i)
      (AreNumbersBelow (IsCallOf P g) (i + 1)) (h.right g below)
      (λ ns k. pass_number (IsCallOf P g) i ns k (λ other. apart (one_callee P i g f other call)))))
      (cases_eq g f);
}

-- the next statement is no call
pub pass_site : (P : Program) (i : ℕ) (sites : List (List ℕ)) → AreSitesBelow P i sites
    → ((f : ℕ) → IsCallOf P f i → ⊥) → AreSitesBelow P (i + 1) sites
pass_site P i sites h never = record {
  each = h.each;
  right =
      λ g below. some_then (slice_get sites g) (AreNumbersBelow (IsCallOf P g) i)
      (AreNumbersBelow (IsCallOf P g) (i + 1)) (h.right g below)
      (λ ns k. pass_number (IsCallOf P g) i ns k (never g));
}
