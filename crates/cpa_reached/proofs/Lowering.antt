-- What lies below an entry, level by level (`descends_more`): at the end all of it is gathered.
use Rattle.std.proofs.Common.{◌≡◌, ℕ, zero, suc, ◌+◌, ◌<◌, ◌≤◌, true, false, eqb, ◌&&◌}
use Rattle.std.proofs.Common.{List, [], ◌∷◌, ◌++◌, get_or, length, slice_get, Option, Some, None}
use Rattle.std.proofs.Common.{refl, sym, ap}
use Rattle.std.proofs.Common.{◌∙◌, subst, inl, inr, ◌⊎◌, ⊎_elim, arith}
use Rattle.std.specs.List.{AllByRecursion, filter}
use Rattle.std.proofs.lemmas.Bool.{and_parts, eq-eqb, eqb-true, or_cases}
use Rattle.std.proofs.lemmas.Option.{same_Some}
use Rattle.cpa_iface.specs.declared.entries.Entry.{Entry}
use Rattle.cpa_model.specs.Ascending.{AreAscending}
use Rattle.cpa_reached.specs.declared.links.Link.{Link}
use Rattle.cpa_reached.specs.Members.{IsIn, is_in}
use Rattle.cpa_reached.specs.Entries.{numbers, IsLive}
use Rattle.cpa_reached.specs.Kept.{IsTree, depth_of, has_parent_in, is_named_by, link_numbers}
use Rattle.cpa_reached.specs.Kept.{parent_in}
use Rattle.cpa_reached.specs.lemmas.MemberLaws.{or_left, in_all, entry_in, in_live, live_in}
use Rattle.cpa_reached.specs.lemmas.MemberLaws.{in_filter}
use Rattle.cpa_reached.specs.lemmas.MemberLaws.{filter_in, ascend_kept, live_filtered}
use Rattle.cpa_reached.specs.Removal.{IsBelow, child, further}
use Rattle.cpa_reached.proofs.Choosing.{in_front, in_back, in_either}
use Rattle.cpa_reached.proofs.Climbing.{IsUnder, tied_live}
use Rattle.cpa_reached.proofs.Keys.{at_all}
use Rattle.cpa_reached.proofs.Tying.{named_there}

pub no_numbers : (ns : List ℕ) → length ns ≤ 0 → ns ≡ []
no_numbers [] none = refl
no_numbers (n ∷ ns) none = absurd (omega (arith, none))

-- ---- namers

-- who names an entry is listed at its place
pub namers_there : (ls : List Link) (p n m : ℕ) (d : Link) → AreAscending (link_numbers ls)
    → slice_get (link_numbers ls) p ≡ Some n → is_named_by ls n m ≡ true
    → is_in m (get_or ls p d).namers ≡ true
namers_there [] p n m d up at named = absurd (cc)
namers_there (l ∷ ls) zero n m d up at named =
    ⊎_elim (λ here. (and_parts (eqb l.number n) (is_in m l.namers) here).1)
    (λ later. absurd
    (let less : l.number < n =
    in_all (λ k. l.number < k) (link_numbers ls) n up.0 (named_there ls n m later) in
    let same : l.number ≡ n = same_Some _ _ at in omega (arith, less, same)))
    (or_cases (eqb l.number n && is_in m l.namers) (is_named_by ls n m) named)
namers_there (l ∷ ls) (suc p) n m d up at named =
    let less : l.number < n = at_all (λ k. l.number < k) (link_numbers ls) p n up.0 at in
    ⊎_elim (λ here. absurd
    (let same : l.number ≡ n =
    eqb-true _ _ (and_parts (eqb l.number n) (is_in m l.namers) here).0 in
    omega (arith, less, same)))
    (λ later. namers_there ls p n m d up.1 at later)
    (or_cases (eqb l.number n && is_in m l.namers) (is_named_by ls n m) named)

-- who names one of these is gathered, or that one is still to come
abbrev pub Lists : List Link → List ℕ → List ℕ → List ℕ → Type 0
Lists ls ns found rest = (n m : ℕ) → is_in n ns ≡ true → is_named_by ls n m ≡ true
    → (is_in m found ≡ true) ⊎ (is_in n rest ≡ true)

pub lists_more : (ls : List Link) (ns found more : List ℕ) (k : ℕ) (rest : List ℕ)
    → ((m : ℕ) → is_named_by ls k m ≡ true → is_in m more ≡ true)
    → Lists ls ns found (k ∷ rest) → Lists ls ns (found ++ more) rest
lists_more ls ns found more k rest adds so_far n m there named =
    ⊎_elim (λ h. inl (in_front m found more h))
    (λ h. ⊎_elim
    (λ same. inl (in_back m found more
    (adds m (subst (λ (j : ℕ). is_named_by ls j m ≡ true) (sym (eqb-true k n same)) named))))
    (λ later. inr later)
    (or_cases (eqb k n) (is_in n rest) h))
    (so_far n m there named)

pub lists_all : (ls : List Link) (ns found rest : List ℕ) → rest ≡ [] → Lists ls ns found rest
    → (n m : ℕ) → is_in n ns ≡ true → is_named_by ls n m ≡ true → is_in m found ≡ true
lists_all ls ns found rest none so_far n m there named =
    ⊎_elim (λ h. h)
    (λ h. absurd (let wrong = subst (λ (ks : List ℕ). is_in n ks ≡ true) none h in cc))
    (so_far n m there named)

-- ---- children

-- this entry has that parent
record IsChild (xs : List Entry) (top n : ℕ) : Type 0 where
  entry : Entry
  edge : ℕ
  is_in : IsIn entry xs
  is : entry.number ≡ n
  has : entry.parent ≡ Some (top, edge)

parent_some : (level : List ℕ) (o : Option (ℕ × ℕ)) → parent_in level o ≡ true → (p : ℕ × ℕ)
    × (o ≡ Some p) × (is_in p.0 level ≡ true)
parent_some level None there = absurd (cc)
parent_some level (Some p) there = (p, refl, there)

child_found : (xs : List Entry) (level : List ℕ) (top n : ℕ) → is_in top level ≡ true
    → IsChild xs top n → is_in n (numbers (filter (has_parent_in level) xs)) ≡ true
child_found xs level top n there c =
    let kept : has_parent_in level c.entry ≡ true = ap (parent_in level) c.has ∙ there in
    subst (λ (k : ℕ). is_in k (numbers (filter (has_parent_in level) xs)) ≡ true) c.is
    (entry_in c.entry (filter (has_parent_in level) xs)
    (filter_in (has_parent_in level) xs c.entry c.is_in kept))

found_child : (xs : List Entry) (level : List ℕ) (n : ℕ)
    → is_in n (numbers (filter (has_parent_in level) xs)) ≡ true → (top : ℕ)
    × (is_in top level ≡ true) × IsChild xs top n
found_child xs level n there =
    let live = in_live (filter (has_parent_in level) xs) n there in
    let was = in_filter (has_parent_in level) xs live.entry live.is_in in
    let p = parent_some level live.entry.parent was.1 in (
      p.0.0,
      p.2,
      record {
        entry = live.entry;
        edge = p.0.1;
        is_in = was.0;
        is = live.is;
        has = p.1;
      },
    )

-- who lists the children: their parents do
pub children_listed : (xs : List Entry) (ls : List Link) (level found : List ℕ) → IsTree xs ls
    → ((n m : ℕ) → is_in n level ≡ true → is_named_by ls n m ≡ true → is_in m found ≡ true)
    → (e : Entry) → IsIn e xs → has_parent_in level e ≡ true → is_in e.number found ≡ true
children_listed xs ls level found tree all e there passes =
    let p = parent_some level e.parent passes in
    all p.0.0 e.number p.2 ((tree.tied e there).child p.0.0 p.0.1 p.1)

-- ---- levels

-- it lies below one of these
pub record IsBelowSome (xs : List Entry) (level : List ℕ) (n : ℕ) : Type 0 where
  pub top : ℕ
  pub there : is_in top level ≡ true
  pub below : IsBelow xs top n

-- what lies below is a child, or lies below one
splits : (xs : List Entry) (top n : ℕ) → IsBelow xs top n → IsChild xs top n
    ⊎ ((c : ℕ) × IsChild xs top c × IsBelow xs c n)
splits xs top n (child m edge e there is has) =
    inl (record { entry = e; edge = edge; is_in = there; is = is; has = has })
splits xs top n (further m p edge e there is has below) =
    ⊎_elim (λ c. inr (p, c, child n edge e there is has))
    (λ r. inr (r.0, r.1, further n p edge e there is has r.2))
    (splits xs top p below)

-- What is gathered so far: all but what lies below the last level, so many levels deeper.
pub record Descends (xs : List Entry) (ls : List Link) (pivot : ℕ) (gone level : List ℕ)
    (deeper : ℕ) : Type 0 where
  pub only : (n : ℕ) → is_in n gone ≡ true → IsBelow xs pivot n
  pub all : (n : ℕ) → IsBelow xs pivot n → (is_in n gone ≡ true) ⊎ IsBelowSome xs level n
  pub under : (n : ℕ) → is_in n level ≡ true → IsUnder xs pivot n
  pub deep : (n : ℕ) → is_in n level ≡ true → depth_of n ls ≡ depth_of pivot ls + deeper
  pub live : AllByRecursion (IsLive xs) level
  pub ascend : AreAscending level

alone : (n pivot : ℕ) → is_in n (pivot ∷ []) ≡ true → pivot ≡ n
alone n pivot there =
    ⊎_elim (λ same. eqb-true pivot n same) (λ none. absurd (cc))
    (or_cases (eqb pivot n) false there)

pub descends_none : (xs : List Entry) (ls : List Link) (pivot : ℕ) → IsLive xs pivot
    → Descends xs ls pivot [] (pivot ∷ []) 0
descends_none xs ls pivot live = record {
  only = λ n wrong. absurd (cc);
  all = λ n below. inr (record {
    top = pivot;
    there = or_left (eqb pivot pivot) false (eq-eqb pivot pivot refl);
    below = below;
  });
  under = λ n there. inl (sym (alone n pivot there));
  deep = λ n there.
      let same : depth_of pivot ls ≡ depth_of n ls =
      ap (λ (k : ℕ). depth_of k ls) (alone n pivot there) in omega (arith, same);
  live = (live, tt);
  ascend = (tt, tt);
}

under_child : (xs : List Entry) (pivot top n : ℕ) → IsUnder xs pivot top → IsChild xs top n
    → IsBelow xs pivot n
under_child xs pivot top n under c =
    ⊎_elim
    (λ same. child n c.edge c.entry c.is_in c.is
    (c.has ∙ ap (λ (k : ℕ). Some (k, c.edge)) same))
    (λ below. further n top c.edge c.entry c.is_in c.is c.has below)
    under

pub descends_more : (xs : List Entry) (ls : List Link) (pivot : ℕ) (gone level found : List ℕ)
    (deeper : ℕ) → IsTree xs ls → found ≡ numbers (filter (has_parent_in level) xs)
    → Descends xs ls pivot gone level deeper
    → Descends xs ls pivot (gone ++ found) found (deeper + 1)
descends_more xs ls pivot gone level found deeper tree is so_far =
    let kids = numbers (filter (has_parent_in level) xs) in
    let of_kid : (n : ℕ) → is_in n found ≡ true → (top : ℕ) × (is_in top level ≡ true)
    × IsChild xs top n =
    λ n there. found_child xs level n (subst (λ (ks : List ℕ). is_in n ks ≡ true) is there) in
    let kid_of : (top n : ℕ) → is_in top level ≡ true → IsChild xs top n → is_in n found ≡ true =
    λ top n there c. subst (λ (ks : List ℕ). is_in n ks ≡ true) (sym is)
    (child_found xs level top n there c) in
    let below_kid : (n : ℕ) → is_in n found ≡ true → IsBelow xs pivot n =
    λ n there. let k = of_kid n there in
    under_child xs pivot k.0 n (so_far.under k.0 k.1) k.2 in
    record {
      only = λ n there. ⊎_elim (λ h. so_far.only n h) (λ h. below_kid n h)
          (in_either n gone found there);
      all = λ n below. ⊎_elim
          (λ h. inl (in_front n gone found h))
          (λ some. ⊎_elim
          (λ c. inl (in_back n gone found (kid_of some.top n some.there c)))
          (λ r. inr (record {
            top = r.0;
            there = kid_of some.top r.0 some.there r.1;
            below = r.2;
          }))
          (splits xs some.top n some.below))
          (so_far.all n below);
      under = λ n there. inr (below_kid n there);
      deep = λ n there.
          let k = of_kid n there in
          let c = k.2 in
          let own : depth_of n ls ≡ depth_of k.0 ls + 1 =
          subst (λ (j : ℕ). depth_of j ls ≡ depth_of k.0 ls + 1) c.is
          ((tree.tied c.entry c.is_in).depth k.0 c.edge c.has) in
          let above : depth_of k.0 ls ≡ depth_of pivot ls + deeper = so_far.deep k.0 k.1 in
          omega (arith, own, above);
      live = subst (AllByRecursion (IsLive xs)) (sym is)
          (live_filtered (has_parent_in level) xs);
      ascend = subst AreAscending (sym is) (ascend_kept (has_parent_in level) xs tree.ascend);
    }

-- where there are no children, all is gathered
pub descends_end : (xs : List Entry) (ls : List Link) (pivot : ℕ) (gone level found : List ℕ)
    (deeper : ℕ) → found ≡ numbers (filter (has_parent_in level) xs) → found ≡ []
    → Descends xs ls pivot gone level deeper
    → (n : ℕ) → IsBelow xs pivot n → is_in n gone ≡ true
descends_end xs ls pivot gone level found deeper is none so_far n below =
    let none_of : (top k : ℕ) → is_in top level ≡ true → IsChild xs top k → ⊥ =
    λ top k there c.
    let wrong : is_in k [] ≡ true =
    subst (λ (ks : List ℕ). is_in k ks ≡ true) (sym is ∙ none) (child_found xs level top k there c)
    in cc in
    ⊎_elim (λ h. h)
    (λ some. absurd (⊎_elim (λ c. none_of some.top n some.there c)
    (λ r. none_of some.top r.0 some.there r.1) (splits xs some.top n some.below)))
    (so_far.all n below)

-- as deep as there are numbers there is nothing
pub descends_over : (xs : List Entry) (ls : List Link) (pivot : ℕ) (gone level : List ℕ)
    (deeper next : ℕ) → IsTree xs ls → AllByRecursion (λ n. n < next) (numbers xs) → next ≤ deeper
    → Descends xs ls pivot gone level deeper
    → (n : ℕ) → IsBelow xs pivot n → is_in n gone ≡ true
descends_over xs ls pivot gone level deeper next tree low over so_far n below =
    ⊎_elim (λ h. h)
    (λ some.
    let live = in_all (IsLive xs) level some.top so_far.live some.there in
    let deep : depth_of some.top ls ≡ depth_of pivot ls + deeper = so_far.deep some.top some.there
    in
    let shallow : depth_of some.top ls ≤ some.top = (tied_live xs ls some.top tree live).shallow in
    let less : some.top < next =
    in_all (λ k. k < next) (numbers xs) some.top low (live_in xs some.top live) in
    absurd (omega (arith, deep, shallow, less, over)))
    (so_far.all n below)

-- what lies below is there
pub below_live : (xs : List Entry) (pivot : ℕ) (gone : List ℕ)
    → ((n : ℕ) → is_in n gone ≡ true → IsBelow xs pivot n) → AllByRecursion (IsLive xs) gone
below_live xs pivot [] only = tt
below_live xs pivot (n ∷ gone) only = (
  live (only n (or_left (eqb n n) (is_in n gone) (eq-eqb n n refl))),
  below_live xs pivot gone
      (λ k there. only k (later k there)),
)
  where
    live : IsBelow xs pivot n → IsLive xs n
    live (child m edge e there is has) = record { entry = e; is_in = there; is = is }
    live (further m p edge e there is has below) = record { entry = e; is_in = there; is = is }

    later : (k : ℕ) → is_in k gone ≡ true → is_in k (n ∷ gone) ≡ true
    later k there = in_back k (n ∷ []) gone there
