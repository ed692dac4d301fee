-- Items that are read one by one, each in the tokens as they are seen behind those before it.
use Rattle.std.specs.Prelude.{◌≡◌, ℕ, ◌+◌, ◌<◌, ◌≤◌, not, cond, List, [], ◌∷◌, ◌++◌, map}
use Rattle.std.specs.Prelude.{length, refl, Result, Ok, Err, IsErrAnd}
use Rattle.std.proofs.Common.{sym, ◌∙◌, ap, subst, take, get_or}
use Rattle.std.specs.List.{flat_map}
use Rattle.std.proofs.lemmas.List.{length-map, map-append, take_more}
use Rattle.c_grammar_forms.specs.declared.fault.ReadError.{ReadError}
use Rattle.c_grammar_forms.specs.declared.fault.ReadError.TheVariants.{Unexpected, TooDeep}
use Rattle.c_grammar_forms.specs.declared.fault.ReadError.TheVariants.{OutOfMemory}
use Rattle.c_lexer.specs.declared.fault.Rule.TheVariants.{S1, S2, S3}
use Rattle.c_lexer.specs.declared.fault.TextError.TheVariants as error
use Rattle.c_grammar_forms.specs.Forms.{Form}
use Rattle.c_grammar_forms.specs.Reading.{Reads, NoneThrough, Faults, Answers}
use Rattle.c_grammar_forms.specs.lemmas.Seen.{SeenSoFar}
use Rattle.c_grammar_symbols.specs.declared.named.NamedType.{NamedType}
use Rattle.c_grammar_symbols.specs.Symbols.{Leaf}
use Rattle.c_grammar_symbols.specs.Sources.{leaf_at, renamed}
use Rattle.c_grammar_tree.specs.declared.name.Name.{Name}
use Rattle.c_grammar_tree.specs.declared.TheConstants.{MAX_LEVEL}
use Rattle.c_grammar_tree.specs.declared.declaration.Specifiers.{Specifiers}
use Rattle.c_grammar_tree.specs.declared.item.Item.{Item}
use Rattle.c_grammar_tree.specs.declared.item.Item.TheVariants as node
use Rattle.c_grammar_tree.specs.Faults.{rule_of}
use Rattle.c_grammar_tree.specs.Parts.{is_end}
use Rattle.c_grammar_tree.specs.Grammar.{grammar}
use Rattle.c_grammar_tree.specs.Items.{typedefs_in, behind_typedefs, seen_behind, unit_item}
use Rattle.c_grammar_tree.specs.lemmas.Seen.{behind_both, end_seen, seen_more, leaf_at_behind}
use Rattle.c_grammar_tree.specs.lemmas.Seen.{place_behind, outside_behind}
use Rattle.c_parser.specs.Forms.{AreSeen}
use Rattle.c_parser.specs.Faults.{fault_of}

-- names of this type
abbrev pub rows : NamedType → List Name → List (List ℕ × NamedType)
rows ty names = map (λ name. (name.bytes, ty)) names

-- the items are read up to here, and the tokens are those of the text, seen behind them
pub record AreItems (old new : List Leaf) (left p : ℕ) (items : List Item) (here : ℕ) :
    Type 0 where
  pub so_far : SeenSoFar seen_behind (λ leaf. not (is_end leaf)) (λ n. unit_item (grammar n))
      (leaf_at old) (length old) left p items here
  pub seen : new ≡ map (seen_behind items) old
  pub onward : p ≤ here
  pub within : here < length new

length_behind : (es : List (List ℕ × NamedType)) (ls : List Leaf) →
    length (map (behind_typedefs es) ls) ≡ length ls
length_behind es ls = simp length-map

pub same_length : (es : List (List ℕ × NamedType)) (old new : List Leaf) →
    new ≡ map (behind_typedefs es) old → length new ≡ length old
same_length es old new e = ap length e ∙ length_behind es old

pub same_leaves : (es : List (List ℕ × NamedType)) (old new : List Leaf) →
    new ≡ map (behind_typedefs es) old → (i : ℕ) →
    leaf_at new i ≡ behind_typedefs es (leaf_at old i)
same_leaves es old new e i = ap (λ ls. leaf_at ls i) e ∙ leaf_at_behind es old i

module _ {T : Type 0} {A : ℕ → Form Leaf T} (es : List (List ℕ × NamedType)) (old new : List Leaf)
    (e : new ≡ map (behind_typedefs es) old) {left p : ℕ} where
  pub seen_reads : {u : T} {q : ℕ} → Reads A (leaf_at new) (length new) left p u q →
      Reads A (λ i. behind_typedefs es (leaf_at old i)) (length old) left p u q
  seen_reads {u} {q} r =
      subst (λ size. Reads A (λ i. behind_typedefs es (leaf_at old i)) size left p u q)
      (same_length es old new e)
      (subst (λ at. Reads A at (length new) left p u q) (λ j i. same_leaves es old new e i j) r)

  pub seen_none : {i : ℕ} → NoneThrough A (leaf_at new) (length new) left p i →
      NoneThrough A (λ i. behind_typedefs es (leaf_at old i)) (length old) left p i
  seen_none {i} g =
      subst (λ size. NoneThrough A (λ i. behind_typedefs es (leaf_at old i)) size left p i)
      (same_length es old new e)
      (subst (λ at. NoneThrough A at (length new) left p i)
      (λ j i. same_leaves es old new e i j) g)

-- the tokens seen behind two rows of declarations
pub seen_twice : (es fs : List (List ℕ × NamedType)) (ls : List Leaf) →
    map (behind_typedefs fs) (map (behind_typedefs es) ls) ≡ map (behind_typedefs (es ++ fs)) ls
seen_twice es fs [] = refl
seen_twice es fs (l ∷ ls) = λ i. sym (behind_both es fs l) i ∷ seen_twice es fs ls i

pub seen_after : (old mid new : List Leaf) → AreSeen old mid → AreSeen mid new → AreSeen old new
seen_after old mid new s t =
    (s.0 ++ t.0, t.1 ∙ (ap (map (behind_typedefs t.0)) s.1 ∙ seen_twice s.0 t.0 old))

pub seen_item : (items : List Item) (one : Item) (ls : List Leaf) →
    map (behind_typedefs (typedefs_in one)) (map (seen_behind items) ls)
    ≡ map (seen_behind (items ++ one ∷ [])) ls
seen_item items one [] = refl
seen_item items one (l ∷ ls) = λ i. sym (seen_more items one l) i ∷ seen_item items one ls i

pub seen_nothing : (ls : List Leaf) → map (behind_typedefs []) ls ≡ ls
seen_nothing [] = refl
seen_nothing (l ∷ ls) = λ i. l ∷ seen_nothing ls i

-- whether the next token is the end
pub end_there : (items : List Item) (old new : List Leaf) → new ≡ map (seen_behind items) old →
    (i : ℕ) → is_end (leaf_at old i) ≡ is_end (leaf_at new i)
end_there items old new e i =
    sym (ap is_end (same_leaves (flat_map typedefs_in items) old new e i)
    ∙ end_seen items (leaf_at old i))

-- places and faults are those of the text
pub place_there : (old new : List Leaf) → AreSeen old new → (i : ℕ) →
    (leaf_at new i).place ≡ (leaf_at old i).place
place_there old new s i =
    ap (λ leaf. leaf.place) (same_leaves s.0 old new s.1 i) ∙ place_behind s.0 (leaf_at old i)

pub fault_there : (old new : List Leaf) → AreSeen old new → (e : ReadError) →
    fault_of new e ≡ fault_of old e
fault_there old new s (Unexpected i) =
    let same = same_leaves s.0 old new s.1 i in
    let leaf = leaf_at old i in
    λ j. error.Fault (record {
      rule = (ap rule_of same ∙ ap (λ b. cond b S3 S1) (outside_behind s.0 leaf)) j;
      place = (ap (λ l. l.place) same ∙ place_behind s.0 leaf) j;
    })
fault_there old new s (TooDeep i) = λ j.
    error.Fault (record { rule = S2; place = place_there old new s i j })
fault_there old new s OutOfMemory = refl

-- the names so far, and one more
pub rows_more : (ty : NamedType) (names : List Name) (one : Name) (ls : List Leaf) →
    map (renamed one.bytes ty) (map (behind_typedefs (rows ty names)) ls)
    ≡ map (behind_typedefs (rows ty (names ++ one ∷ []))) ls
rows_more ty names one ls =
    seen_once (rows ty names) (one.bytes, ty) ls
    ∙ ap (λ es. map (behind_typedefs es) ls) (sym (map-append (λ name. (name.bytes, ty)) names
    (one ∷ [])))
  where
    seen_once : (es : List (List ℕ × NamedType)) (e : List ℕ × NamedType) (ls : List Leaf) →
        map (renamed e.0 e.1) (map (behind_typedefs es) ls)
        ≡ map (behind_typedefs (es ++ e ∷ [])) ls
    seen_once es e [] = refl
    seen_once es e (l ∷ ls) = λ i. sym (behind_both es (e ∷ []) l) i ∷ seen_once es e ls i

pub take_next : {T : Type 0} (xs : List T) (i : ℕ) (x : T) → x ≡ get_or xs i x →
    i < length xs → take (i + 1) xs ≡ take i xs ++ x ∷ []
take_next xs i x is below =
    take_more xs i x below ∙ ap (λ y. take i xs ++ y ∷ []) (sym is)

-- what is no typedef makes no typedef name
pub no_typedefs : (one : Item) → ((front : Specifiers) (names : List Name) (place : ℕ) →
    one ≡ node.Typedef front names place → ⊥) → typedefs_in one ≡ []
no_typedefs (node.Typedef front names place) none = absurd (none front names place refl)
no_typedefs _ none = refl

-- what an error says of a part of one text it says of the whole of another, where none of the one
-- is none of the other
module _ {S T : Type 0} {A : ℕ → Form Leaf S} {B : ℕ → Form Leaf T} {at bt : ℕ → Leaf}
    {size long k r left p : ℕ} where
  faults_there : (e : ReadError) → Faults MAX_LEVEL A bt long k r e →
      ((i : ℕ) → NoneThrough A bt long k r i → NoneThrough B at size left p i) →
      Faults MAX_LEVEL B at size left p e
  faults_there (Unexpected i) f none = none i f
  faults_there (TooDeep i) f none = (none i f.0, f.1)
  faults_there OutOfMemory f none = tt

  pub seen_exit : (e : ReadError) (answer : Result (T × ℕ) ReadError) →
      IsErrAnd answer (λ given. given ≡ e) → Faults MAX_LEVEL A bt long k r e →
      ((i : ℕ) → NoneThrough A bt long k r i → NoneThrough B at size left p i) →
      Answers MAX_LEVEL B at size left p answer
  seen_exit e (Ok read) given f none = absurd given
  seen_exit e (Err x) given f none =
      subst (Faults MAX_LEVEL B at size left p) (sym given) (faults_there e f none)
