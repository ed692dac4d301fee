-- A table keeps what it keeps with one declaration more (`more_tied`) and one less (`less_tied`),
-- and its look-ups are those of the list (`declared_last`, `declared_behind`); the last declaration
-- of a name is what the name is declared as once more (`again_is`).
use Rattle.std.specs.Prelude.{◌≡◌, ℕ, zero, suc, ◌<◌, Bool, true, false, cond, ◌||◌, List, [], ◌∷◌}
use Rattle.std.specs.Prelude.{◌++◌}
use Rattle.std.specs.Prelude.{length, drop, get_or, Option, None, Some, option_map, IfSome, IsSome}
use Rattle.std.proofs.Common.{refl, sym, subst, ap, ◌∙◌, arith, leb}
use Rattle.std.specs.List.{AllByRecursion}
use Rattle.std.specs.Cmp.Lexicographic.{bytes_decides}
use Rattle.std.specs.Option.{option_to_list}
use Rattle.std.specs.Str.{bytes_eq}
use Rattle.std.proofs.lemmas.Cmp.{nat_list_eq_equiv}
use Rattle.std.proofs.lemmas.Bool.{cases_Bool, cond-true, cond-false}
use Rattle.std.proofs.lemmas.List.{append-nil, append_assoc, same_from_push}
use Rattle.c_types_rules.specs.declared.meaning.Entry.{Entry}
use Rattle.c_types_rules.specs.declared.meaning.Declared.{Declared}
use Rattle.c_types_rules.specs.Names.{or_else, declared_as}
use Rattle.c_types_rules.specs.Declarations.{is_declared_among}
use Rattle.c_types_names.specs.declared.table.Table.{Table}
use Rattle.c_types_names.specs.Found.{number_of}
use Rattle.c_types_names.specs.Again.{entry_of, said_again}
use Rattle.c_types_names.specs.Tables.{last_of, earlier_in, IsCounted, IsTied}
use Rattle.std.proofs.Math.Dec.{leb-zero, leb-suc-suc, leb-suc-zero}
use mathlib.Core.Logic.{⊎_elim}

last_step : (b : Bool) (n : ℕ) (held other : Option ℕ) →
    or_else (option_map (λ n. suc n) (cond b (Some n) held)) other
    ≡ cond b (Some (suc n)) (or_else (option_map (λ n. suc n) held) other)
last_step true n held other = refl
last_step false n held other = refl

pub last_more : (es : List Entry) (e : Entry) (q : List ℕ) →
    last_of (es ++ e ∷ []) q ≡ cond (bytes_eq e.name q) (Some (length es)) (last_of es q)
last_more [] e q = refl
last_more (d ∷ es) e q =
    ap (λ held. or_else (option_map (λ n. suc n) held) (cond (bytes_eq d.name q) (Some 0) None))
    (last_more es e q)
    ∙ last_step (bytes_eq e.name q) (length es) (last_of es q) (cond (bytes_eq d.name q) (Some 0)
    None)

earlier_more : (seen es : List Entry) (e : Entry) →
    earlier_in seen (es ++ e ∷ []) ≡ earlier_in seen es ++ last_of (seen ++ es) e.name ∷ []
earlier_more seen [] e = ap (λ (s : List Entry). last_of s e.name ∷ []) (sym (append-nil seen))
earlier_more seen (d ∷ es) e =
    ap (λ (ns : List (Option ℕ)). last_of seen d.name ∷ ns) (earlier_more (seen ++ d ∷ []) es e
    ∙ ap (λ (s : List Entry). earlier_in (seen ++ d ∷ []) es ++ last_of s e.name ∷ [])
    (append_assoc seen (d ∷ []) es))

counted_more : (es : List Entry) (e : Entry) →
    AllByRecursion (λ entry. IsCounted entry.declared) es → IsCounted e.declared →
    AllByRecursion (λ entry. IsCounted entry.declared) (es ++ e ∷ [])
counted_more [] e h c = (c, tt)
counted_more (d ∷ es) e h c = (h.0, counted_more es e h.1 c)

counted_less : (es : List Entry) (e : Entry) →
    AllByRecursion (λ entry. IsCounted entry.declared) (es ++ e ∷ []) →
    AllByRecursion (λ entry. IsCounted entry.declared) es
counted_less [] e h = tt
counted_less (d ∷ es) e h = (h.0, counted_less es e h.1)

pub more_tied : (old new : Table) (e : Entry) → IsTied old →
    new.entries.items ≡ old.entries.items ++ e ∷ [] →
    new.earlier.items ≡ old.earlier.items ++ number_of old.latest e.name ∷ [] →
    ((q : List ℕ) → number_of new.latest q
    ≡ cond (bytes_eq e.name q) (Some (length old.entries.items)) (number_of old.latest q)) →
    IsCounted e.declared → IsTied new
more_tied old new e tied entries earlier latest counted =
    let es = old.entries.items in
    record {
      latest = λ q. latest q
          ∙ ap (cond (bytes_eq e.name q) (Some (length es))) (tied.latest q)
          ∙ sym (last_more es e q) ∙ ap (λ (s : List Entry). last_of s q) (sym entries);
      earlier = earlier
          ∙ ap (λ (n : Option ℕ). old.earlier.items ++ n ∷ []) (tied.latest e.name)
          ∙ ap (λ (ns : List (Option ℕ)). ns ++ last_of es e.name ∷ []) tied.earlier
          ∙ sym (earlier_more [] es e) ∙ ap (earlier_in []) (sym entries);
      counted = subst (AllByRecursion (λ (entry : Entry). IsCounted entry.declared)) (sym entries)
          (counted_more es e tied.counted counted);
    }

less_last : (es : List Entry) (e : Entry) (n : Option ℕ) (q : List ℕ) → n ≡ last_of es e.name →
    cond (bytes_eq e.name q) n (last_of (es ++ e ∷ []) q) ≡ last_of es q
less_last es e n q is = ⊎_elim
    (λ y. cond-true _ _ _ y ∙ is ∙ ap (last_of es) ((bytes_decides e.name q).0 y))
    (λ y. cond-false _ _ _ y ∙ last_more es e q ∙ cond-false _ _ _ y)
    (cases_Bool (bytes_eq e.name q))

pub less_tied : (old new : Table) (e : Entry) (n : Option ℕ) → IsTied old →
    old.entries.items ≡ new.entries.items ++ e ∷ [] →
    old.earlier.items ≡ new.earlier.items ++ n ∷ [] →
    ((q : List ℕ) → number_of new.latest q ≡ cond (bytes_eq e.name q) n (number_of old.latest q)) →
    IsTied new
less_tied old new e n tied entries earlier latest =
    let es = new.entries.items in
    let parts : (new.earlier.items ≡ earlier_in [] es) × (n ≡ last_of es e.name) =
    same_from_push _ _ _ _ (sym earlier ∙ tied.earlier ∙ ap (earlier_in []) entries
    ∙ earlier_more [] es e) in
    record {
      latest = λ q. latest q
          ∙ ap (cond (bytes_eq e.name q) n) (tied.latest q
          ∙ ap (λ (s : List Entry). last_of s q) entries)
          ∙ less_last es e n q parts.1;
      earlier = parts.0;
      counted = counted_less es e
          (subst (AllByRecursion (λ (entry : Entry). IsCounted entry.declared)) entries
          tied.counted);
    }

-- the last declaration's name has a number
pub last_is : (old : Table) (es : List Entry) (e : Entry) → IsTied old →
    old.entries.items ≡ es ++ e ∷ [] → IsSome (number_of old.latest e.name)
last_is old es e tied entries =
    subst IsSome (sym (tied.latest e.name ∙ ap (λ (s : List Entry). last_of s e.name) entries
    ∙ last_more es e e.name ∙ cond-true _ _ _ (nat_list_eq_equiv.refl e.name))) refl

-- what the last declaration says, by its number
declared_step : (e d : Entry) (es : List Entry) (b : Bool) (held : Option ℕ) →
    or_else (option_map (λ n. (get_or es n d).declared) held)
    (elim b [ true ↦ Some e.declared | false ↦ None ])
    ≡ option_map (λ n. (get_or (e ∷ es) n d).declared)
    (or_else (option_map (λ n. suc n) held) (cond b (Some 0) None))
declared_step e d es b (Some n) = refl
declared_step e d es true None = refl
declared_step e d es false None = refl

pub declared_last : (d : Entry) (es : List Entry) (q : List ℕ) →
    declared_as es q ≡ option_map (λ n. (get_or es n d).declared) (last_of es q)
declared_last d [] q = refl
declared_last d (e ∷ es) q =
    ap (λ (held : Option Declared). or_else held (elim (bytes_eq e.name q) [
      | true ↦ Some e.declared
      | false ↦ None
    ])) (declared_last d es q)
    ∙ declared_step e d es (bytes_eq e.name q) (last_of es q)

last_within_step : (b : Bool) (m : ℕ) (held : Option ℕ) → IfSome held (λ n. n < m) →
    IfSome (or_else (option_map (λ n. suc n) held) (cond b (Some 0) None)) (λ n. n < suc m)
last_within_step b m (Some n) h = omega (arith, h)
last_within_step true m None h = omega arith
last_within_step false m None h = tt

pub last_within : (es : List Entry) (q : List ℕ) → IfSome (last_of es q) (λ n. n < length es)
last_within [] q = tt
last_within (e ∷ es) q =
    last_within_step (bytes_eq e.name q) (length es) (last_of es q) (last_within es q)

-- what a declared name's function gives is counted
counted_step : (b : Bool) (e : Entry) (held : Option Declared) → IsCounted e.declared →
    IfSome held IsCounted →
    IfSome (or_else held (elim b [ true ↦ Some e.declared | false ↦ None ])) IsCounted
counted_step b e (Some x) c h = h
counted_step true e None c h = c
counted_step false e None c h = tt

pub declared_counted : (es : List Entry) (q : List ℕ) →
    AllByRecursion (λ entry. IsCounted entry.declared) es → IfSome (declared_as es q) IsCounted
declared_counted [] q h = tt
declared_counted (e ∷ es) q h =
    counted_step (bytes_eq e.name q) e (declared_as es q) h.0 (declared_counted es q h.1)

-- a declaration behind the first `outer` ones has the name
abbrev pub is_behind : ℕ → Option ℕ → Bool
is_behind outer None = false
is_behind outer (Some n) = leb outer n

behind_none : (b : Bool) (held : Option ℕ) →
    (b || is_behind zero held)
    ≡ is_behind zero (or_else (option_map (λ n. suc n) held) (cond b (Some 0) None))
behind_none true (Some n) = sym (leb-zero (suc n))
behind_none false (Some n) = leb-zero n ∙ sym (leb-zero (suc n))
behind_none true None = sym (leb-zero 0)
behind_none false None = refl

behind_some : (k : ℕ) (b : Bool) (held : Option ℕ) →
    is_behind k held
    ≡ is_behind (suc k) (or_else (option_map (λ n. suc n) held) (cond b (Some 0) None))
behind_some k b (Some n) = sym (leb-suc-suc k n)
behind_some k true None = sym (leb-suc-zero k)
behind_some k false None = refl

pub declared_behind : (outer : ℕ) (es : List Entry) (q : List ℕ) →
    is_declared_among (drop outer es) q ≡ is_behind outer (last_of es q)
declared_behind zero [] q = refl
declared_behind (suc k) [] q = refl
declared_behind zero (e ∷ es) q =
    ap (λ b. bytes_eq e.name q || b) (declared_behind zero es q)
    ∙ behind_none (bytes_eq e.name q) (last_of es q)
declared_behind (suc k) (e ∷ es) q =
    declared_behind k es q ∙ behind_some k (bytes_eq e.name q) (last_of es q)

-- a name without a number is not declared
pub declared_none : (es : List Entry) (q : List ℕ) → last_of es q ≡ None → declared_as es q ≡ None
declared_none [] q h = refl
declared_none (e ∷ es) q h =
    declared_last e (e ∷ es) q ∙ ap (option_map (λ n. (get_or (e ∷ es) n e).declared)) h

-- the last declaration of a name has the name
named_step : (e d : Entry) (es : List Entry) (q : List ℕ) (b : Bool) (held : Option ℕ) →
    bytes_eq e.name q ≡ b → IfSome held (λ n. (get_or es n d).name ≡ q) →
    IfSome (or_else (option_map (λ n. suc n) held) (cond b (Some 0) None))
    (λ n. (get_or (e ∷ es) n d).name ≡ q)
named_step e d es q b (Some n) is h = h
named_step e d es q true None is h = (bytes_decides e.name q).0 is
named_step e d es q false None is h = tt

last_named : (d : Entry) (es : List Entry) (q : List ℕ) →
    IfSome (last_of es q) (λ n. (get_or es n d).name ≡ q)
last_named d [] q = tt
last_named d (e ∷ es) q =
    named_step e d es q (bytes_eq e.name q) (last_of es q) refl (last_named d es q)

pub declared_at : (es : List Entry) (q : List ℕ) (n : ℕ) (x : Entry) → Some n ≡ last_of es q →
    x ≡ get_or es n x → declared_as es q ≡ Some x.declared
declared_at es q n x found is =
    declared_last x es q ∙ ap (option_map (λ n. (get_or es n x).declared)) (sym found)
    ∙ ap (λ (e : Entry). Some e.declared) (sym is)

-- so it is what the name is declared as once more
pub again_is : (es : List Entry) (q : List ℕ) (n : ℕ) (x : Entry) → Some n ≡ last_of es q →
    x ≡ get_or es n x → said_again es q ≡ x ∷ []
again_is es q n x found is =
    let named : (get_or es n x).name ≡ q =
    subst (λ (held : Option ℕ). IfSome held (λ n. (get_or es n x).name ≡ q)) (sym found)
    (last_named x es q) in
    ap (λ (known : Option Declared). option_to_list (option_map (entry_of q) known))
    (declared_at es q n x found is)
    ∙ ap (λ (name : List ℕ). entry_of name x.declared ∷ [])
    (sym (ap (λ (e : Entry). e.name) is ∙ named))

pub counted_at : (es : List Entry) (q : List ℕ) (n : ℕ) (x : Entry) → Some n ≡ last_of es q →
    x ≡ get_or es n x → AllByRecursion (λ entry. IsCounted entry.declared) es →
    IsCounted x.declared
counted_at es q n x found is counted =
    subst (λ (held : Option Declared). IfSome held IsCounted) (declared_at es q n x found is)
    (declared_counted es q counted)

pub again_none : (es : List Entry) (q : List ℕ) → last_of es q ≡ None →
    es ≡ es ++ said_again es q
again_none es q h =
    sym (ap (λ (known : Option Declared). es ++ option_to_list (option_map (entry_of q) known))
    (declared_none es q h) ∙ append-nil es)
