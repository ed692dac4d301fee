-- What is due of expressions, node by node: words are those of so many exactly where those behind
-- the first node are of as many as then are due.
use Rattle.std.proofs.Common.{◌≡◌, ◌↔◌, ℕ, suc, ◌+◌, ◌-◌, ◌*◌, List, [], ◌∷◌, ◌++◌, length, take}
use Rattle.std.proofs.Common.{drop, refl, sym, ap, ◌∙◌, subst}
use Rattle.std.proofs.Common.{arith, ◌<◌, ◌≤◌}
use Rattle.std.proofs.lemmas.List.{drop-drop, drop-map, length-append, length-drop, length-map}
use Rattle.std.proofs.lemmas.Bool.{eqb-true, eq-eqb}
use Rattle.std.proofs.lemmas.List.{nil_from_length, take_all}
use Rattle.std.proofs.lemmas.List.Splits.{join_with_byte-slice_split}
use Rattle.std.specs.List.{AllByRecursion, slice_split, join_with_byte}
use Rattle.std.specs.Borrow.{Bor}
use Rattle.std.specs.Prelude.{◌==◌, nat_eq, Option, Some, None, IsTrue, false}
use Rattle.cpa_expr.specs.declared.tree.Expr.{Expr}
use Rattle.cpa_expr.specs.declared.tree.Expr.TheVariants.{Const, Cond}
use Rattle.cpa_expr.specs.Spelling.{expr_text}
use Rattle.cpa_expr_text.specs.Due.{AreDue, IsNext, HasNext, IsExprText, own_of, parts_of}
use Rattle.cpa_expr_text.specs.Due.{words_of}
use Rattle.cpa_expr_text.specs.Kinds.{head_onto, FitsHead}
use Rattle.cpa_expr_text.specs.Reading.{Word, words_onto, one_of, two_of, Fits, texts}
use Rattle.cpa_expr_text.specs.declared.heads.Head.{Head}
use Rattle.cpa_expr_text.specs.declared.heads.Head.TheVariants as head
use Rattle.cpa_expr_text.specs.declared.heads.One.TheVariants as one
use Rattle.cpa_expr_text.specs.declared.heads.Two.TheVariants as two
use Rattle.cpa_expr_text.proofs.Arms.{none_comes}
use Rattle.cpa_expr_text.proofs.Cuts.{cut_text}
use Rattle.cpa_expr_text.proofs.Forms.{one_fits, two_fits, leaf_fits, three_fits}
use Rattle.cpa_expr_text.proofs.Nodes.{leaf_words, one_words, two_words, three_words, node_of}

-- ---- a node in front of its parts

grown_by : (h : Head) (due : ℕ) (words left : List Word) → FitsHead h → words ≡ head_onto h left
    → (es : List Expr) → length es ≡ due + parts_of h → AllByRecursion Fits es
    → left ≡ words_of es [] → AreDue (suc due) words
grown_by (head.Leaf t n) due words left small is es many fit spelled = record {
  trees = Const t n ∷ es;
  many = omega arith;
  fit = (leaf_fits t n small, fit);
  spelled = is ∙ ap (head_onto (head.Leaf t n)) spelled ∙ sym (leaf_words t n (words_of es []));
}
grown_by (head.One h) due words left small is [] many fit spelled = absurd (omega arith)
grown_by (head.One h) due words left small is (a ∷ es) many fit spelled = record {
  trees = one_of h a ∷ es;
  many = omega arith;
  fit = (one_fits h a small fit.0, fit.1);
  spelled = is ∙ ap (head_onto (head.One h)) spelled ∙ sym (one_words h a (words_of es []));
}
grown_by (head.Two h) due words left small is [] many fit spelled = absurd (omega arith)
grown_by (head.Two h) due words left small is (a ∷ []) many fit spelled = absurd (omega arith)
grown_by (head.Two h) due words left small is (a ∷ b ∷ es) many fit spelled = record {
  trees = two_of h a b ∷ es;
  many = omega arith;
  fit = (two_fits h a b fit.0 fit.1.0, fit.1.1);
  spelled = is ∙ ap (head_onto (head.Two h)) spelled ∙ sym (two_words h a b (words_of es []));
}
grown_by (head.Three t) due words left small is [] many fit spelled = absurd (omega arith)
grown_by (head.Three t) due words left small is (a ∷ []) many fit spelled = absurd (omega arith)
grown_by (head.Three t) due words left small is (a ∷ b ∷ []) many fit spelled =
    absurd (omega arith)
grown_by (head.Three t) due words left small is (a ∷ b ∷ d ∷ es) many fit spelled = record {
  trees = Cond t a b d ∷ es;
  many = omega arith;
  fit = (three_fits t a b d fit.0 fit.1.0 fit.1.1.0, fit.1.1.1);
  spelled = is ∙ ap (head_onto (head.Three t)) spelled
      ∙ sym (three_words t a b d (words_of es []));
}

grown : (h : Head) (due : ℕ) (words left : List Word) → IsNext words h left
    → AreDue (due + parts_of h) left → AreDue (suc due) words
grown h due words left next d =
    grown_by h due words left next.fit next.spelled d.trees d.many d.fit d.spelled

-- ---- its parts behind it

words_append : (es fs : List Expr) (ws : List Word)
    → words_of (es ++ fs) ws ≡ words_of es (words_of fs ws)
words_append [] fs ws = refl
words_append (e ∷ es) fs ws = ap (words_onto e) (words_append es fs ws)

fit_append : (es fs : List Expr) → AllByRecursion Fits es → AllByRecursion Fits fs
    → AllByRecursion Fits (es ++ fs)
fit_append [] fs fe ff = ff
fit_append (e ∷ es) fs fe ff = (fe.0, fit_append es fs fe.1 ff)

shrunk_by : (first : Head) (due : ℕ) (words left : List Word) → IsNext words first left
    → (es : List Expr) → length es ≡ suc due → AllByRecursion Fits es → words ≡ words_of es []
    → AreDue (due + parts_of first) left
shrunk_by first due words left next [] many fit spelled = absurd (omega arith)
shrunk_by first due words left next (e ∷ es) many fit spelled =
    let p = node_of e fit.0 in
    let node = p.2 in
    let is = next.one p.0 (words_of p.1 (words_of es [])) node.small
    (spelled ∙ node.words (words_of es [])) in
    let long = length-append p.1 es in
    let parts = node.many in
    subst (λ h. AreDue (due + parts_of h) left) (sym is.0) (record {
      trees = p.1 ++ es;
      many = omega arith;
      fit = fit_append p.1 es node.fit fit.1;
      spelled = is.1 ∙ sym (words_append p.1 es []);
    })

shrunk : (first : Head) (due : ℕ) (words left : List Word) → IsNext words first left
    → AreDue (suc due) words → AreDue (due + parts_of first) left
shrunk first due words left next d =
    shrunk_by first due words left next d.trees d.many d.fit d.spelled

-- one node further
pub due_next : (h : Head) (due : ℕ) (words left : List Word) → IsNext words h left
    → AreDue (suc due) words ↔ AreDue (due + parts_of h) left
due_next h due words left next = (shrunk h due words left next, grown h due words left next)

-- ---- the ends

none_by : (due : ℕ) (words : List Word)
    → ((h : Head) (us : List Word) → FitsHead h → words ≡ head_onto h us → ⊥)
    → (es : List Expr) → length es ≡ suc due → AllByRecursion Fits es → words ≡ words_of es [] → ⊥
none_by due words none [] many fit spelled = omega arith
none_by due words none (e ∷ es) many fit spelled =
    none_comes words (words_of es []) none e fit.0 spelled

-- where no node comes first, no expression does
pub none_due : (due : ℕ) (words : List Word)
    → ((h : Head) (us : List Word) → FitsHead h → words ≡ head_onto h us → ⊥)
    → AreDue (suc due) words → ⊥
none_due due words none d = none_by due words none d.trees d.many d.fit d.spelled

empty_by : (words : List Word) (es : List Expr) → length es ≡ 0 → words ≡ words_of es []
    → words ≡ []
empty_by words [] many spelled = spelled
empty_by words (e ∷ es) many spelled = absurd (omega arith)

-- where none is due, there are no words
pub due_at_end : (words : List Word) → AreDue 0 words ↔ (words ≡ [])
due_at_end words = (
  λ d. empty_by words d.trees d.many d.spelled,
  λ is. record { trees = []; many = refl; fit = tt; spelled = is },
)

-- ---- a text and its words

text_by : (bytes : List ℕ) (es : List Expr) → length es ≡ 1 → AllByRecursion Fits es
    → slice_split (λ b. b == 32) bytes ≡ words_of es [] → IsExprText bytes
text_by bytes [] many fit spelled = absurd (omega arith)
text_by bytes (e ∷ []) many fit spelled = (
  e,
  fit.0,
  sym (join_with_byte-slice_split 32 bytes)
      ∙ ap (join_with_byte 32) (spelled ∙ sym (cut_text e fit.0))
      ∙ join_with_byte-slice_split 32 (expr_text e),
)
text_by bytes (e ∷ f ∷ es) many fit spelled = absurd (omega arith)

-- a text is that of an expression exactly where its words are of one
pub text_due : (bytes : List ℕ) (words : List Word) → words ≡ slice_split (λ b. b == 32) bytes
    → AreDue 1 words ↔ IsExprText bytes
text_due bytes words are = (
  λ d. text_by bytes d.trees d.many d.fit (sym are ∙ d.spelled),
  λ h. record {
    trees = h.0 ∷ [];
    many = refl;
    fit = (h.1, tt);
    spelled = are ∙ ap (slice_split (λ b. b == 32)) h.2 ∙ cut_text h.0 h.1;
  },
)

-- ---- words are used up

-- behind its own words stand the others
pub own_dropped : (h : Head) (ws : List Word) → drop (own_of h) (head_onto h ws) ≡ ws
own_dropped (head.Leaf t n) ws = refl
own_dropped (head.One (one.Read t base len)) ws = refl
own_dropped (head.One (one.Un o t)) ws = refl
own_dropped (head.One (one.Cast t)) ws = refl
own_dropped (head.One one.Not) ws = refl
own_dropped (head.Two (two.Bin o t)) ws = refl
own_dropped (head.Two (two.Cmp o t)) ws = refl
own_dropped (head.Two two.Both) ws = refl
own_dropped (head.Two two.Either) ws = refl
own_dropped (head.Three t) ws = refl

own_within : (h : Head) (ws : List Word) → own_of h ≤ length (head_onto h ws)
own_within (head.Leaf t n) ws = omega arith
own_within (head.One (one.Read t base len)) ws = omega arith
own_within (head.One (one.Un o t)) ws = omega arith
own_within (head.One (one.Cast t)) ws = omega arith
own_within (head.One one.Not) ws = omega arith
own_within (head.Two (two.Bin o t)) ws = omega arith
own_within (head.Two (two.Cmp o t)) ws = omega arith
own_within (head.Two two.Both) ws = omega arith
own_within (head.Two two.Either) ws = omega arith
own_within (head.Three t) ws = omega arith

some_own : (h : Head) → 1 ≤ own_of h
some_own (head.Leaf t n) = omega arith
some_own (head.One (one.Read t base len)) = omega arith
some_own (head.One (one.Un o t)) = omega arith
some_own (head.One (one.Cast t)) = omega arith
some_own (head.One one.Not) = omega arith
some_own (head.Two (two.Bin o t)) = omega arith
some_own (head.Two (two.Cmp o t)) = omega arith
some_own (head.Two two.Both) = omega arith
some_own (head.Two two.Either) = omega arith
some_own (head.Three t) = omega arith

parts_few : (h : Head) → parts_of h ≤ 3
parts_few (head.Leaf t n) = omega arith
parts_few (head.One h) = omega arith
parts_few (head.Two h) = omega arith
parts_few (head.Three t) = omega arith

-- the node that a reader passed is the next one, where its words are spelled exactly so
pub is_next : (words : List Word) (h : Head) (left : List Word) → FitsHead h
    → words ≡ head_onto h left
    → ((k : Head) (ws : List Word) → FitsHead k → words ≡ head_onto k ws → h ≡ k)
    → IsNext words h (drop (own_of h) words)
is_next words h left small is one =
    let rest : drop (own_of h) words ≡ left = ap (drop (own_of h)) is ∙ own_dropped h left in
    record {
      fit = small;
      spelled = is ∙ ap (head_onto h) (sym rest);
      one = λ k ws low spelled.
          let same = one k ws low spelled in (
            same,
            ap (λ x. drop (own_of x) words) same ∙ ap (drop (own_of k)) spelled
                ∙ own_dropped k ws,
          );
    }

-- the bounds behind the next node
pub record IsWithin (words : List (Bor Word)) (place due : ℕ) : Type 0 where
  pub within : place ≤ length words
  pub few : due + 2 * (length words - place) ≤ 1 + 2 * length words

pub next_within : (words : List (Bor Word)) (place due : ℕ) (h : Head)
    → IsNext (texts (drop place words)) h (drop (own_of h) (texts (drop place words)))
    → IsWithin words place (suc due)
    → (own_of h ≤ length words - place) × IsWithin words (place + own_of h) (due + parts_of h)
next_within words place due h next in_words =
    let long = ap length next.spelled in
    let many = own_within h (drop (own_of h) (texts (drop place words))) in
    let texts_many = length-map (drop place words) (λ (s : Bor Word). s.now) in
    let left = length-drop place words in
    let some = some_own h in
    let few = parts_few h in
    let within = in_words.within in
    let room = in_words.few in
    (omega arith, record { within = omega arith; few = omega arith })

-- the words behind it
pub next_texts : (words : List (Bor Word)) (place : ℕ) (h : Head)
    → drop (own_of h) (texts (drop place words)) ≡ texts (drop (place + own_of h) words)
next_texts words place h =
    drop-map (λ (s : Bor Word). s.now) (own_of h) (drop place words)
    ∙ ap texts (drop-drop (own_of h) place words)

-- ---- one turn

pub all_behind : (words : List (Bor Word)) (place : ℕ)
    → take (length words - place) (drop place words) ≡ drop place words
all_behind words place =
    let left = length-drop place words in
    take_all (length words - place) (drop place words) (omega arith)

moved : (k m : ℕ) (ws us : List Word) → k ≡ m → ws ≡ us → AreDue k ws → AreDue m us
moved k m ws us same words d = subst (AreDue m) words (subst (λ n. AreDue n ws) same d)

pub same_turn : (Z : Type 0) (due less place : ℕ) (words : List (Bor Word)) (h : Head)
    (parts own : ℕ) → due ≡ suc less → parts ≡ parts_of h → own ≡ own_of h
    → IsNext (texts (drop place words)) h (drop (own_of h) (texts (drop place words)))
    → (AreDue due (texts (drop place words)) ↔ Z)
    → AreDue (less + parts) (texts (drop (place + own) words)) ↔ Z
same_turn Z due less place words h parts own one many long next has =
    let here = texts (drop place words) in
    let there = texts (drop (place + own) words) in
    let behind : drop (own_of h) here ≡ there =
    next_texts words place h ∙ ap (λ k. texts (drop (place + k) words)) (sym long) in
    let count : less + parts_of h ≡ less + parts = ap (λ k. less + k) (sym many) in
    let step = due_next h less here (drop (own_of h) here) next in (
      λ d. has.0
          (moved (suc less) due here here (sym one) refl
          (step.1 (moved (less + parts) (less + parts_of h) there (drop (own_of h) here)
          (sym count) (sym behind) d))),
      λ z. moved (less + parts_of h) (less + parts) (drop (own_of h) here) there count behind
          (step.0 (moved due (suc less) here here one refl (has.1 z))),
    )

pub within_turn : (due less place : ℕ) (words : List (Bor Word)) (h : Head) (parts own : ℕ)
    → due ≡ suc less → parts ≡ parts_of h → own ≡ own_of h
    → IsNext (texts (drop place words)) h (drop (own_of h) (texts (drop place words)))
    → IsWithin words place due → IsWithin words (place + own) (less + parts)
within_turn due less place words h parts own one many long next in_words =
    let w =
    (next_within words place less h next (subst (IsWithin words place) one in_words)).1 in
    subst (λ k. IsWithin words (place + k) (less + parts)) (sym long)
    (subst (λ k. IsWithin words (place + own_of h) (less + k)) (sym many) w)

pub none_turn : (Z : Type 0) (due less place : ℕ) (words : List (Bor Word)) (r : Option Head)
    → due ≡ suc less → HasNext (texts (drop place words)) r
    → ((h : Head) → r ≡ Some h → ⊥) → (AreDue due (texts (drop place words)) ↔ Z)
    → IsTrue false ↔ Z
none_turn Z due less place words None one next none has = (
  λ yes. absurd (cc),
  λ z. absurd (none_due less (texts (drop place words)) next
      (subst (λ k. AreDue k (texts (drop place words))) one (has.1 z))),
)
none_turn Z due less place words (Some h) one next none has = absurd (none h refl)

pub end_turn : (Z : Type 0) (due place : ℕ) (words : List (Bor Word)) → due ≡ 0
    → IsWithin words place due → (AreDue due (texts (drop place words)) ↔ Z)
    → IsTrue (nat_eq place (length words)) ↔ Z
end_turn Z due place words none in_words has =
    let here = texts (drop place words) in
    let end = due_at_end here in
    let texts_many = length-map (drop place words) (λ (s : Bor Word). s.now) in
    let left = length-drop place words in
    let within = in_words.within in (
      λ yes.
          let all = eqb-true place (length words) yes in
          has.0 (subst (λ k. AreDue k here) (sym none)
          (end.1 (nil_from_length here (omega arith)))),
      λ z.
          let empty = ap length (end.0 (subst (λ k. AreDue k here) none (has.1 z))) in
          let all : place ≡ length words = omega arith in
          eq-eqb place (length words) all,
    )
