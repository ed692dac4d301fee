-- The way back from an entry: what it leads to, and how long it is.
use Rattle.std.proofs.Common.{◌≡◌, ℕ, suc, ◌<◌, ◌≤◌, List, [], ◌∷◌, ◌++◌, length}
use Rattle.std.proofs.Common.{Some, None, refl, sym, ap, ◌∙◌, subst, inl, inr, arith}
use Rattle.std.specs.Prelude.{reverse, ⊤}
use Rattle.std.proofs.lemmas.Option.{same_Some}
use Rattle.std.proofs.lemmas.List.{reverse-append}
use Rattle.cpa_model.specs.declared.facts.Elem.{Elem}
use Rattle.cpa_iface.specs.declared.entries.Entry.{Entry}
use Rattle.cpa_model.specs.Ascending.{AreAscending}
use Rattle.cpa_reached.specs.Members.{IsIn}
use Rattle.cpa_reached.specs.lemmas.MemberLaws.{one_entry}
use Rattle.cpa_reached.specs.Entries.{numbers}
use Rattle.cpa_reached.specs.Paths.{LeadsBack}
use Rattle.cpa_engine_turn.specs.lemmas.Counted.{without}
use Rattle.cpa_engine_laws.specs.Chains.{WalksTo}
use Rattle.cpa_engine_laws.specs.Lines.{AreLines}

-- ---- what the way back leads to

pub walks_on : {X : Type 0} (R : ℕ → X → X → Type 0) (s m t : X) (ns : List ℕ) (n : ℕ)
    → WalksTo R s ns m → R n m t → WalksTo R s (ns ++ n ∷ []) t
walks_on R s m t [] n walks step = (t, subst (λ x. R n x t) walks step, refl)
walks_on R s m t (k ∷ ns) n walks step =
    (walks.0, walks.1, walks_on R walks.0 m t ns n walks.2 step)

-- a beginning from which the edges lead, forwards, to the entry
pub record LeadsTo (R : ℕ → List Elem → List Elem → Type 0) (Root : List Elem
    → Type 0) (path : List ℕ)
    (es : List Elem) : Type 0 where
  pub first : List Elem
  pub root : Root first
  pub walks : WalksTo R first path es

pub leads_to : (R : ℕ → List Elem → List Elem → Type 0) (Root : List Elem
    → Type 0) (xs : List Entry)
    → AreAscending (numbers xs) → AreLines R Root xs → (e : Entry) → IsIn e xs → (n : ℕ)
    → e.number ≡ n
    → (back : List ℕ) → LeadsBack xs n back → LeadsTo R Root (reverse back) e.elems
leads_to R Root xs up lines e there n is [] (d, in_d, is_d, none) =
    let same : d ≡ e = one_entry xs d e up in_d there (is_d ∙ sym is) in
    record {
      first = e.elems;
      root = subst (λ (y : Entry). Root y.elems) same (lines.roots d in_d none);
      walks = refl;
    }
leads_to R Root xs up lines e there n is (edge ∷ back) (d, p, in_d, is_d, has, rest) =
    let same : d ≡ e = one_entry xs d e up in_d there (is_d ∙ sym is) in
    let f = first_of xs p back rest in
    let on = leads_to R Root xs up lines f.0 f.1 p f.2 back rest in
    let step : R edge f.0.elems e.elems =
    subst (λ (y : Entry). R edge f.0.elems y.elems) same
    (lines.steps d f.0 p edge in_d f.1 has f.2) in
    record {
      first = on.first;
      root = on.root;
      walks = subst (λ (ns : List ℕ). WalksTo R on.first ns e.elems) (sym (reverse_more edge back))
          (walks_on R on.first f.0.elems e.elems (reverse back) edge on.walks step);
    }
  where
    first_of : (xs : List Entry) (n : ℕ) (back : List ℕ) → LeadsBack xs n back
        → (e : Entry) × IsIn e xs × (e.number ≡ n)
    first_of xs n [] (e, there, is, none) = (e, there, is)
    first_of xs n (edge ∷ back) (e, p, there, is, has, rest) = (e, there, is)

    reverse_more : (n : ℕ) (ns : List ℕ) → reverse (n ∷ ns) ≡ reverse ns ++ n ∷ []
    reverse_more n ns = reverse-append (n ∷ []) ns

-- ---- it is shorter than the entries are many

-- one way back from a number
pub one_way : (xs : List Entry) → AreAscending (numbers xs) → (n : ℕ) (a b : List ℕ)
    → LeadsBack xs n a
    → LeadsBack xs n b → length a ≡ length b
one_way xs up n [] [] x y = refl
one_way xs up n [] (k ∷ b) (d, in_d, is_d, none) (e, p, in_e, is_e, has, rest) =
    let same = one_entry xs d e up in_d in_e (is_d ∙ sym is_e) in
    let wrong : None ≡ Some (p, k) =
    sym none ∙ ap (λ (y : Entry). y.parent) same ∙ has in absurd (cc)
one_way xs up n (k ∷ a) [] (e, p, in_e, is_e, has, rest) (d, in_d, is_d, none) =
    let same = one_entry xs d e up in_d in_e (is_d ∙ sym is_e) in
    let wrong : None ≡ Some (p, k) =
    sym none ∙ ap (λ (y : Entry). y.parent) same ∙ has in absurd (cc)
one_way xs up n (j ∷ a) (k ∷ b) (d, p, in_d, is_d, has_d, rest_d) (e, q, in_e, is_e, has_e, rest_e)
    =
    let same = one_entry xs d e up in_d in_e (is_d ∙ sym is_e) in
    let parents : Some (p, j) ≡ Some (q, k) =
    sym has_d ∙ ap (λ (y : Entry). y.parent) same ∙ has_e in
    let p_is : p ≡ q = ap (λ (t : ℕ × ℕ). t.0) (same_Some (p, j) (q, k) parents) in
    ap suc (one_way xs up p a b rest_d (subst (λ (m : ℕ). LeadsBack xs m b) (sym p_is) rest_e))

-- the numbers that the way passes
abbrev trail : (xs : List Entry) (n : ℕ) (back : List ℕ) → LeadsBack xs n back → List ℕ
trail xs n [] way = n ∷ []
trail xs n (edge ∷ back) (e, p, there, is, has, rest) = n ∷ trail xs p back rest

trail_size : (xs : List Entry) (n : ℕ) (back : List ℕ) (way : LeadsBack xs n back)
    → length (trail xs n back way) ≡ suc (length back)
trail_size xs n [] way = refl
trail_size xs n (edge ∷ back) (e, p, there, is, has, rest) = ap suc (trail_size xs p back rest)

-- what it passes later has a shorter way
shorter : (xs : List Entry) (n : ℕ) (back : List ℕ) (way : LeadsBack xs n back) (m : ℕ)
    → IsIn m (trail xs n back way)
    → (behind : List ℕ) × LeadsBack xs m behind × (length behind ≤ length back)
shorter xs n [] way m (inl same) = ([], subst (λ (k : ℕ). LeadsBack xs k []) same way, omega arith)
shorter xs n [] way m (inr wrong) = absurd wrong
shorter xs n (edge ∷ back) (e, p, there, is, has, rest) m (inl same) = (
  edge ∷ back,
  subst (λ (k : ℕ). LeadsBack xs k (edge ∷ back)) same (e, p, there, is, has, rest),
  omega arith,
)
shorter xs n (edge ∷ back) (e, p, there, is, has, rest) m (inr later) =
    let found = shorter xs p back rest m later in
    let less = found.2 in (found.0, found.1, omega (arith, less))

abbrev AreApart : List ℕ → Type 0
AreApart [] = ⊤
AreApart (n ∷ ns) = (IsIn n ns → ⊥) × AreApart ns

trail_apart : (xs : List Entry) → AreAscending (numbers xs) → (n : ℕ) (back : List ℕ)
    (way : LeadsBack xs n back) → AreApart (trail xs n back way)
trail_apart xs up n [] way = ((λ there. there), tt)
trail_apart xs up n (edge ∷ back) (e, p, there, is, has, rest) = (
  λ again.
      let found = shorter xs p back rest n again in
      let same = one_way xs up n found.0 (edge ∷ back) found.1 (e, p, there, is, has, rest) in
      let less = found.2 in omega (arith, same, less),
  trail_apart xs up p back rest,
)

-- ---- and, where entries have keys of their own, than the keys are many

-- numbers that differ, each with one of the keys, which tells it
pub at_most_by : (K : ℕ → List Elem → Type 0) (ns : List ℕ) (keys : List (List Elem)) → AreApart ns
    → ((n : ℕ) → IsIn n ns → (k : List Elem) × K n k × IsIn k keys)
    → ((n m : ℕ) (k : List Elem) → K n k → K m k → n ≡ m) → length ns ≤ length keys
at_most_by K [] keys apart has tells = omega arith
at_most_by K (n ∷ ns) keys apart has tells =
    let own = has n (inl refl) in
    let left = without own.0 keys own.2 in
    let fewer = at_most_by K ns left.rest apart.1
    (λ m in_m.
    let his = has m (inr in_m) in (
      his.0,
      his.1,
      left.keeps his.0 his.2
          (λ same. apart.0 (subst (λ (j : ℕ). IsIn j ns)
          (tells m n own.0 (subst (K m) same his.1) own.1) in_m)),
    )) tells in
    let size = left.size in omega (arith, fewer, size)

-- each number that the way passes, with the way that is left from it
pub way_below : (K : ℕ → List Elem → Type 0) (xs : List Entry) (up : AreAscending (numbers xs)) (n :
    ℕ)
    (back : List ℕ) (way : LeadsBack xs n back) (keys : List (List Elem))
    → ((m : ℕ) (behind : List ℕ) → LeadsBack xs m behind → (k : List Elem) × K m k × IsIn k keys)
    → ((m j : ℕ) (k : List Elem) → K m k → K j k → m ≡ j) → length back < length keys
way_below K xs up n back way keys has tells =
    let few = at_most_by K (trail xs n back way) keys (trail_apart xs up n back way)
    (λ m there. let found = shorter xs n back way m there in has m found.0 found.1) tells in
    let size = trail_size xs n back way in omega (arith, few, size)
