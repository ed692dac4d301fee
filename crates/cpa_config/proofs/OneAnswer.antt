-- A text gives one configuration, or breaks one rule at one key, and never both.
use Rattle.std.proofs.Common.{◌≡◌, refl, sym, ap, ◌∙◌, subst, ℕ, List, [], ◌∷◌}
use Rattle.std.proofs.Common.{Option, Some, None, inl, inr, Ordering, Less, Equal, Greater, nat_cmp}
use Rattle.std.proofs.lemmas.Cmp.{nat_list_cmp_total}
use Rattle.std.proofs.lemmas.Map.Lookups.{exact_bytes}
use Rattle.std.specs.Cmp.Lexicographic.{slice_cmp}
use Rattle.std.specs.List.{AllZip}
use Rattle.std.specs.Ordering.{is_lt, ordering_reverse}
use Rattle.cpa_iface.specs.declared.merging.Pick.{Pick}
use Rattle.cpa_config.specs.declared.config.Config.{Config}
use Rattle.cpa_config.specs.declared.faults.ConfigRule.{ConfigRule}
use Rattle.cpa_config.specs.Configurations.{Configures, Refuses, IsConfig}
use Rattle.cpa_config.specs.Configurations.{IsFirstFault, IsPick, table_of}
use Rattle.cpa_config.specs.Rules.{Table, listed_in, rule_at}
use Rattle.cpa_config.specs.Laws.{HasOneAnswer}

some_same : {A : Type 0} {x y : A} {o : Option A} → o ≡ Some x → o ≡ Some y → x ≡ y
some_same p q = cc

some_none : {A : Type 0} {x : A} {o : Option A} → o ≡ Some x → o ≡ None → ⊥
some_none p q = cc

-- ---- configurations

one_pick : (handed : List (List ℕ)) (table : Table) (name : List ℕ) (p q : Pick)
    → IsPick handed table name p → IsPick handed table name q → p ≡ q
one_pick handed table name p q a b = λ i. record {
  place = some_same a.place b.place i;
  rule = (a.rule ∙ sym b.rule) i;
}

one_list : (handed : List (List ℕ)) (table : Table) (names : List (List ℕ)) (ps qs : List Pick)
    → AllZip (IsPick handed table) names ps → AllZip (IsPick handed table) names qs → ps ≡ qs
one_list handed table [] [] [] a b = refl
one_list handed table [] (p ∷ ps) qs a b = absurd a
one_list handed table [] [] (q ∷ qs) a b = absurd b
one_list handed table (n ∷ ns) [] qs a b = absurd a
one_list handed table (n ∷ ns) (p ∷ ps) [] a b = absurd b
one_list handed table (n ∷ ns) (p ∷ ps) (q ∷ qs) a b =
    λ i. one_pick handed table n p q a.0 b.0 i ∷ one_list handed table ns ps qs a.1 b.1 i

one_config : (handed : List (List ℕ)) (table : Table) (c d : Config) → IsConfig handed table c
    → IsConfig handed table d → c ≡ d
one_config handed table c d a b = λ i. record {
  picks = one_list handed table (listed_in table) c.picks d.picks a.picks b.picks i;
  order = (a.order ∙ sym b.order) i;
  turns = (a.turns ∙ sym b.turns) i;
  rounds = (a.rounds ∙ sym b.rounds) i;
  settings = record {
    tracked_all = (a.tracked ∙ sym b.tracked) i;
    limit = (a.limit ∙ sym b.limit) i;
    learnt = (a.learnt ∙ sym b.learnt) i;
    gates = (a.gates ∙ sym b.gates) i;
  };
  model = (a.model ∙ sym b.model) i;
}

-- ---- faults

one_key : (handed : List (List ℕ)) (table : Table) (r q : ConfigRule) (k j : List ℕ) (o : Ordering)
    → slice_cmp nat_cmp k j ≡ o → IsFirstFault handed table r k → IsFirstFault handed table q j
    → k ≡ j
one_key handed table r q k j Less is a b = absurd (some_none a.here (b.before k (ap is_lt is)))
one_key handed table r q k j Equal is a b = exact_bytes k j is
one_key handed table r q k j Greater is a b =
    absurd (some_none b.here (a.before j
    (ap is_lt (nat_list_cmp_total.antisymm j k ∙ ap ordering_reverse is))))

one_fault : (handed : List (List ℕ)) (table : Table) (r q : ConfigRule) (k j : List ℕ)
    → IsFirstFault handed table r k → IsFirstFault handed table q j → (r ≡ q) × (k ≡ j)
one_fault handed table r q k j a b =
    let same = one_key handed table r q k j (slice_cmp nat_cmp k j) refl a b in
    (some_same a.here (ap (rule_at handed table) same ∙ b.here), same)

-- ---- texts

module _ (text : List ℕ) (handed : List (List ℕ)) where
  configs : (c d : Config) → Configures text handed c → Configures text handed d → c ≡ d
  configs c d (ms, is, a) (ns, also, b) =
      let same : ns ≡ ms = some_same also.document is.document in
      one_config handed (table_of handed ms) c d a
      (subst (λ n. IsConfig handed (table_of handed n) d) same b)

  faults : (r q : ConfigRule) (k j : List ℕ) → Refuses text handed r k → Refuses text handed q j
      → (r ≡ q) × (k ≡ j)
  faults r q k j (inl a) (inl b) = (a.1 ∙ sym b.1, a.2 ∙ sym b.2)
  faults r q k j (inl a) (inr (ns, also, b)) = absurd (a.0 ns also)
  faults r q k j (inr (ms, is, a)) (inl b) = absurd (b.0 ms is)
  faults r q k j (inr (ms, is, a)) (inr (ns, also, b)) =
      let same : ns ≡ ms = some_same also.document is.document in
      one_fault handed (table_of handed ms) r q k j a
      (subst (λ n. IsFirstFault handed (table_of handed n) q j) same b)

  never_both : (c : Config) (r : ConfigRule) (k : List ℕ) → Configures text handed c
      → Refuses text handed r k → ⊥
  never_both c r k (ms, is, a) (inl b) = b.0 ms is
  never_both c r k (ms, is, a) (inr (ns, also, b)) =
      let same : ns ≡ ms = some_same also.document is.document in
      some_none (subst (λ n. IsFirstFault handed (table_of handed n) r k) same b).here (a.rules k)

  pub one_answer : HasOneAnswer text handed
  one_answer = record { config = configs; fault = faults; apart = never_both }
