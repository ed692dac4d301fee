-- Which entries under a key are looked at: those that stand apart from the successor stay, and none
-- of them covers it, so that the comparisons (`compared_all`) and the first cover (`next_cover`,
-- `no_cover`) are those of all.
use Rattle.std.proofs.Common.{◌≡◌, ◌≢◌, ℕ, ◌+◌, ◌<◌, false, List, [], ◌∷◌, ◌++◌, length}
use Rattle.std.proofs.Common.{None, refl, sym, ap, ◌∙◌, subst, inl, inr, ⊎_elim, arith}
use Rattle.std.specs.List.{AllByRecursion}
use Rattle.cpa_model.specs.Ascending.{AreAscending}
use Rattle.cpa_model.specs.declared.automaton.Cfa.{Cfa}
use Rattle.cpa_model.specs.declared.facts.Elem.{Elem}
use Rattle.cpa_iface.specs.declared.entries.Entry.{Entry}
use Rattle.cpa_iface.specs.declared.precisions.Precision.{Precision}
use Rattle.cpa_composite.specs.Components.{Component}
use Rattle.cpa_composite.specs.Covers.{all_cover}
use Rattle.cpa_reached.specs.Calls.{replaced, replacing}
use Rattle.cpa_reached.specs.Entries.{ReachedSet, IsLive, numbers}
use Rattle.cpa_reached.specs.Members.{IsIn}
use Rattle.cpa_reached.specs.Passed.{StandsBehind, LeavesOut}
use Rattle.cpa_engine_turn.specs.Stages.{Stage, Compares, ComparesAll, first_cover, under}
use Rattle.cpa_engine_turn.specs.Steps.{stage, IsOff, IsOrdered, LeftAt, MovesFrom}
use Rattle.cpa_engine_turn.specs.Steps.{StandsApart, StaysSo}
use Rattle.cpa_engine_turn.specs.declared.work.Work.{Work}
use Rattle.cpa_engine_turn.specs.lemmas.Lists.{in_back, in_front, in_map_of}
use Rattle.cpa_engine_turn.specs.lemmas.Picked.{in_under}
use Rattle.cpa_engine_turn.proofs.Effects.{Alike, below_next, replaced_back}
use Rattle.cpa_engine_turn.proofs.Fellows.{cover_fails, live_under, under_at}
use Rattle.cpa_engine_turn.proofs.Passing.{passed_compares}
use Rattle.cpa_engine_turn.proofs.Places.{grouped, left_first, left_step, left_there, none_behind}
use Rattle.cpa_engine_turn.proofs.Places.{shifted}
use Rattle.cpa_engine_turn.proofs.Settled.{compares_push}
use Rattle.cpa_engine_turn.proofs.Shapes.{each_in}

-- ---- entries keep their elements
pub stays_same : (r : ReachedSet) → StaysSo r r
stays_same r = record {
  next = omega arith;
  there = λ e there low. record { entry = e; is_in = there; number = refl; elems = refl };
}

pub stays_then : (a b c : ReachedSet) → StaysSo a b → StaysSo b c → StaysSo a c
stays_then a b c first later =
    let from = first.next in
    let on = later.next in
    record {
      next = omega (arith, from, on);
      there = λ e there low.
          let was = later.there e there (omega (arith, low, from)) in
          let number = was.number in
          let start = first.there was.entry was.is_in (omega (arith, low, number)) in
          record {
            entry = start.entry;
            is_in = start.is_in;
            number = start.number ∙ was.number;
            elems = start.elems ∙ was.elems;
          };
    }

-- what takes the place of one of them has the number that comes next
pub stays_replaced : (r new : ReachedSet) (x : Entry) (k : ℕ) (es : List Elem)
    → AreAscending (numbers r.live) → IsIn x r.live → x.number ≡ k → new ≡ replaced r k es
    → StaysSo r new
stays_replaced r new x k es up in_x is made =
    let here : StaysSo r (replaced r x.number es) =
    record {
      next = omega arith;
      there = λ e there low.
          ⊎_elim
          (λ (from : (y : Entry) × IsIn y r.live × Alike y e × (y.number ≢ x.number)).
          record {
            entry = from.0;
            is_in = from.1;
            number = sym from.2.number;
            elems = sym from.2.elems;
          })
          (λ (last : e ≡ replacing r.next es x).
          absurd (let number : e.number ≡ r.next = ap (λ (y : Entry). y.number) last in
          omega (arith, number, low)))
          (replaced_back r.next r.live x es up in_x e there);
    } in
    subst (StaysSo r) (sym (made ∙ ap (λ (j : ℕ). replaced r j es) (sym is))) here

-- a number that stood apart still does
off_still : (cs : List Component) (row : List Elem) (r new : ReachedSet) (n : ℕ) → n < r.next
    → StaysSo r new → IsOff cs row r.live n → IsOff cs row new.live n
off_still cs row r new n low stays off = λ e there number.
    let was = stays.there e there (omega (arith, low, number)) in
    subst (StandsApart cs row) was.elems (off was.entry was.is_in (was.number ∙ number))

-- ---- the comparisons
-- entries that stay, one after another
staying : (cfa : Cfa) (cs : List Component) (es : List Elem) (ps : List Precision)
    (done front : List ℕ) (a b : Stage) → ComparesAll cfa cs es ps done a b
    → ((n : ℕ) → IsIn n front → Compares cfa cs es ps n b b)
    → ComparesAll cfa cs es ps (done ++ front) a b
staying cfa cs es ps done [] a b all each =
    subst (λ (ks : List ℕ). ComparesAll cfa cs es ps ks a b) (none_behind done) all
staying cfa cs es ps done (n ∷ front) a b all each =
    subst (λ (ks : List ℕ). ComparesAll cfa cs es ps ks a b) (sym (shifted done n front))
    (staying cfa cs es ps (done ++ n ∷ []) front a b
    (compares_push cfa cs es ps done n a b b all (each n (inl refl)))
    (λ k there. each k (inr there)))

left_in : (ns : List ℕ) (place n : ℕ) (todo : List ℕ) → LeftAt ns place todo → IsIn n todo
    → IsIn n ns
left_in ns place n todo left there =
    subst (λ (l : List ℕ). IsIn n l) (sym left.is)
    (in_back left.front (todo ++ left.behind) n (in_front todo left.behind n there))

-- numbers that stand apart are compared with nothing done
passed_on : (cfa : Cfa) (cs : List Component) (es : List Elem) (ps : List Precision)
    (key : List Elem) (r new : ReachedSet) (w v : Work) (done front tail : List ℕ) (place : ℕ)
    → IsOrdered r → numbers (under r key) ≡ done ++ (front ++ tail)
    → ComparesAll cfa cs es ps done (stage r w) (stage new v)
    → AllByRecursion (IsOff cs es r.live) front
    → LeftAt (numbers (under new key)) place (front ++ tail) → StaysSo r new
    → ComparesAll cfa cs es ps (done ++ front) (stage r w) (stage new v)
passed_on cfa cs es ps key r new w v done front tail place ordered all compares off left stays =
    staying cfa cs es ps done front (stage r w) (stage new v) compares
    (λ n there.
    let among : IsIn n (front ++ tail) = in_front front tail n there in
    let was : IsLive r.live n = live_under r key n
    (subst (λ (l : List ℕ). IsIn n l) (sym all) (in_back done (front ++ tail) n among)) in
    let low = below_next r was.entry ordered was.is_in in
    let is = was.is in
    passed_compares cfa cs new v es ps n
    (live_under new key n (left_in (numbers (under new key)) place n (front ++ tail) left among))
    (off_still cs es r new n (omega (arith, low, is)) stays
    (each_in (IsOff cs es r.live) front n off there)))

-- Some numbers under the key are compared, and those that are left are to come.
pub record ComparesSo (cfa : Cfa) (cs : List Component) (es : List Elem) (ps : List Precision)
    (key : List Elem) (r new : ReachedSet) (w v : Work) (left : List ℕ) : Type 0 where
  pub done : List ℕ
  pub rest : List ℕ
  pub all : numbers (under r key) ≡ done ++ rest
  pub compares : ComparesAll cfa cs es ps done (stage r w) (stage new v)
  pub out : LeavesOut (IsOff cs es r.live) rest left
  pub place : ℕ
  pub at : LeftAt (numbers (under new key)) place rest
  pub stays : StaysSo r new

-- The next one is this number.
pub record ComparesNext (cfa : Cfa) (cs : List Component) (es : List Elem) (ps : List Precision)
    (key : List Elem) (r new : ReachedSet) (w v : Work) (n : ℕ) (left : List ℕ) : Type 0 where
  pub done : List ℕ
  pub behind : List ℕ
  pub all : numbers (under r key) ≡ done ++ n ∷ behind
  pub compares : ComparesAll cfa cs es ps done (stage r w) (stage new v)
  pub out : LeavesOut (IsOff cs es r.live) behind left
  pub place : ℕ
  pub at : LeftAt (numbers (under new key)) place (n ∷ behind)
  pub there : IsLive new.live n
  pub stays : StaysSo r new

pub compares_first : (cfa : Cfa) (cs : List Component) (es : List Elem) (ps : List Precision)
    (key : List Elem) (r : ReachedSet) (w : Work) (left : List ℕ)
    → LeavesOut (IsOff cs es r.live) (numbers (under r key)) left
    → ComparesSo cfa cs es ps key r r w w left
compares_first cfa cs es ps key r w left out = record {
  done = [];
  rest = numbers (under r key);
  all = refl;
  compares = refl;
  out = out;
  place = 0;
  at = left_first (numbers (under r key));
  stays = stays_same r;
}

long_both : (xs ys : List ℕ) → length (xs ++ ys) ≡ length xs + length ys
long_both [] ys = omega arith
long_both (x ∷ xs) ys = let h = long_both xs ys in omega (arith, h)

-- some of them are done
left_on : (ns : List ℕ) (place : ℕ) (front todo : List ℕ) → LeftAt ns place (front ++ todo)
    → LeftAt ns (place + length front) todo
left_on ns place front todo left = record {
  front = left.front ++ front;
  behind = left.behind;
  is = left.is
      ∙ (ap (λ (l : List ℕ). left.front ++ l) (grouped front todo left.behind)
      ∙ sym (grouped left.front front (todo ++ left.behind)));
  size = let long = long_both left.front front in let size = left.size in
      omega (arith, long, size);
}

pub compares_next : (cfa : Cfa) (cs : List Component) (es : List Elem) (ps : List Precision)
    (key : List Elem) (r new : ReachedSet) (w v : Work) (n : ℕ) (left : List ℕ) → IsOrdered r
    → ComparesSo cfa cs es ps key r new w v (n ∷ left)
    → ComparesNext cfa cs es ps key r new w v n left
compares_next cfa cs es ps key r new w v n left ordered so =
    let s : StandsBehind (IsOff cs es r.live) so.rest n = so.out.0 in
    let front = s.front in
    let tail = n ∷ s.behind in
    let ns = numbers (under new key) in
    let at : LeftAt ns so.place (front ++ tail) = subst (LeftAt ns so.place) s.is so.at in
    let all : numbers (under r key) ≡ so.done ++ (front ++ tail) =
    so.all ∙ ap (λ (l : List ℕ). so.done ++ l) s.is in
    let on : LeftAt ns (so.place + length front) tail = left_on ns so.place front tail at in
    record {
      done = so.done ++ front;
      behind = s.behind;
      all = all ∙ sym (grouped so.done front tail);
      compares = passed_on cfa cs es ps key r new w v so.done front tail so.place ordered all
          so.compares s.passed at so.stays;
      out = so.out.1;
      place = so.place + length front;
      at = on;
      there = live_under new key n
          (under_at new key (so.place + length front) n
          (left_there ns (so.place + length front) n s.behind on));
      stays = so.stays;
    }

-- it is compared as well
pub compares_then : (cfa : Cfa) (cs : List Component) (es : List Elem) (ps : List Precision)
    (key : List Elem) (r new last : ReachedSet) (w v u : Work) (n : ℕ) (left : List ℕ)
    (next : ComparesNext cfa cs es ps key r new w v n left)
    → Compares cfa cs es ps n (stage new v) (stage last u)
    → MovesFrom (numbers (under new key)) (numbers (under last key)) next.place
    → StaysSo new last → ComparesSo cfa cs es ps key r last w u left
compares_then cfa cs es ps key r new last w v u n left next one moves stays = record {
  done = next.done ++ n ∷ [];
  rest = next.behind;
  all = next.all ∙ shifted next.done n next.behind;
  compares = compares_push cfa cs es ps next.done n (stage r w) (stage new v) (stage last u)
      next.compares one;
  out = next.out;
  place = moves.0;
  at = left_step (numbers (under new key)) (numbers (under last key)) next.place moves.0 n
      next.behind next.at moves.1;
  stays = stays_then r new last next.stays stays;
}

pub compared_all : (cfa : Cfa) (cs : List Component) (es : List Elem) (ps : List Precision)
    (key : List Elem) (r new : ReachedSet) (w v : Work) → IsOrdered r
    → ComparesSo cfa cs es ps key r new w v []
    → ComparesAll cfa cs es ps (numbers (under r key)) (stage r w) (stage new v)
compared_all cfa cs es ps key r new w v ordered so =
    let same : so.rest ≡ so.rest ++ [] = none_behind so.rest in
    subst (λ (ks : List ℕ). ComparesAll cfa cs es ps ks (stage r w) (stage new v)) (sym so.all)
    (passed_on cfa cs es ps key r new w v so.done so.rest [] so.place ordered
    (so.all ∙ ap (λ (l : List ℕ). so.done ++ l) same) so.compares so.out
    (subst (LeftAt (numbers (under new key)) so.place) same so.at) so.stays)

-- ---- the first cover
-- The entry of a number, and those in front of it and behind.
record SplitsAt (xs : List Entry) (front : List ℕ) (n : ℕ) (behind : List ℕ) : Type 0 where
  before : List Entry
  entry : Entry
  after : List Entry
  is : xs ≡ before ++ entry ∷ after
  fronts : numbers before ≡ front
  number : entry.number ≡ n
  afters : numbers after ≡ behind

split_at : (xs : List Entry) (front : List ℕ) (n : ℕ) (behind : List ℕ)
    → numbers xs ≡ front ++ n ∷ behind → SplitsAt xs front n behind
split_at [] [] n behind is = absurd (cc)
split_at [] (k ∷ front) n behind is = absurd (cc)
split_at (x ∷ xs) [] n behind is = record {
  before = [];
  entry = x;
  after = xs;
  is = refl;
  fronts = refl;
  number = cc;
  afters = cc;
}
split_at (x ∷ xs) (k ∷ front) n behind is =
    let head : x.number ≡ k = cc in
    let later = split_at xs front n behind (cc) in
    record {
      before = x ∷ later.before;
      entry = later.entry;
      after = later.after;
      is = ap (λ (l : List Entry). x ∷ l) later.is;
      fronts = ap (λ (m : ℕ). m ∷ numbers later.before) head
          ∙ ap (λ (l : List ℕ). k ∷ l) later.fronts;
      number = later.number;
      afters = later.afters;
    }

-- entries that do not cover, in front of others
uncovered : (cs : List Component) (es : List Elem) (before rest : List Entry)
    → ((e : Entry) → IsIn e before → all_cover cs es e.elems ≡ false)
    → first_cover cs es (before ++ rest) ≡ first_cover cs es rest
uncovered cs es [] rest none = refl
uncovered cs es (x ∷ before) rest none =
    cover_fails cs es (x ∷ (before ++ rest)) (before ++ rest) x refl (none x (inl refl))
    ∙ uncovered cs es before rest (λ e there. none e (inr there))

-- Some entries under the key do not cover, and those that are left are to come.
pub record CoversSo (cs : List Component) (es key : List Elem) (r : ReachedSet) (left : List ℕ)
    : Type 0 where
  pub rest : List Entry
  pub same : first_cover cs es (under r key) ≡ first_cover cs es rest
  pub out : LeavesOut (IsOff cs es r.live) (numbers rest) left
  pub inside : (e : Entry) → IsIn e rest → IsIn e r.live

-- The next one is the entry of this number.
pub record CoversNext (cs : List Component) (es key : List Elem) (r : ReachedSet) (n : ℕ)
    (left : List ℕ) : Type 0 where
  pub entry : Entry
  pub after : List Entry
  pub is_in : IsIn entry r.live
  pub number : entry.number ≡ n
  pub same : first_cover cs es (under r key) ≡ first_cover cs es (entry ∷ after)
  pub out : LeavesOut (IsOff cs es r.live) (numbers after) left
  pub inside : (e : Entry) → IsIn e after → IsIn e r.live

pub covers_first : (cs : List Component) (es key : List Elem) (r : ReachedSet) (left : List ℕ)
    → LeavesOut (IsOff cs es r.live) (numbers (under r key)) left → CoversSo cs es key r left
covers_first cs es key r left out = record {
  rest = under r key;
  same = refl;
  out = out;
  inside = λ e there. (in_under r key e there).0;
}

pub next_cover : (cs : List Component) (es key : List Elem) (r : ReachedSet) (n : ℕ)
    (left : List ℕ) → CoversSo cs es key r (n ∷ left) → CoversNext cs es key r n left
next_cover cs es key r n left so =
    let s : StandsBehind (IsOff cs es r.live) (numbers so.rest) n = so.out.0 in
    let at = split_at so.rest s.front n s.behind s.is in
    let tail = at.entry ∷ at.after in
    let among : (e : Entry) → IsIn e (at.before ++ tail) → IsIn e r.live =
    λ e there. so.inside e (subst (λ (l : List Entry). IsIn e l) (sym at.is) there) in
    record {
      entry = at.entry;
      after = at.after;
      is_in = among at.entry (in_back at.before tail at.entry (inl refl));
      number = at.number;
      same = so.same
          ∙ (ap (first_cover cs es) at.is
          ∙ uncovered cs es at.before tail
          (λ e there.
          (each_in (IsOff cs es r.live) s.front e.number s.passed
          (subst (λ (l : List ℕ). IsIn e.number l) at.fronts
          (in_map_of (λ (x : Entry). x.number) at.before e there))
          e (among e (in_front at.before tail e there)) refl).uncovered));
      out = subst (λ (l : List ℕ). LeavesOut (IsOff cs es r.live) l left) (sym at.afters)
          so.out.1;
      inside = λ e there. among e (in_back at.before tail e (inr there));
    }

-- it does not cover
pub covers_then : (cs : List Component) (es key : List Elem) (r : ReachedSet) (n : ℕ)
    (left : List ℕ) (next : CoversNext cs es key r n left)
    → all_cover cs es next.entry.elems ≡ false → CoversSo cs es key r left
covers_then cs es key r n left next fails = record {
  rest = next.after;
  same = next.same
      ∙ cover_fails cs es (next.entry ∷ next.after) next.after next.entry refl fails;
  out = next.out;
  inside = next.inside;
}

-- none of them does
pub no_cover : (cs : List Component) (es key : List Elem) (r : ReachedSet)
    → CoversSo cs es key r [] → first_cover cs es (under r key) ≡ None
no_cover cs es key r so =
    so.same
    ∙ (ap (first_cover cs es) (all_there so.rest)
    ∙ uncovered cs es so.rest []
    (λ e there.
    (each_in (IsOff cs es r.live) (numbers so.rest) e.number so.out
    (in_map_of (λ (x : Entry). x.number) so.rest e there) e (so.inside e there) refl).uncovered))
  where
    all_there : (xs : List Entry) → xs ≡ xs ++ []
    all_there [] = refl
    all_there (x ∷ xs) = ap (λ (l : List Entry). x ∷ l) (all_there xs)
