-- A chain behind its first operand.
use Rattle.std.proofs.Common.{◌≡◌, ◌<◌, ◌≤◌, ℕ, ◌+◌, List, [], ◌∷◌, map, length, get_or, drop}
use Rattle.std.proofs.Common.{refl, ap, ◌∙◌, sym}
use Rattle.std.proofs.lemmas.List.{at_drop_more, at_drop_all}
use Rattle.c_grammar_symbols.specs.declared.operators.BinaryOperator.{BinaryOperator}
use Rattle.c_types_rules.specs.declared.typed.TypedExpression.{TypedExpression}
use Rattle.c_core_rules.specs.declared.tree.Usage.{Usage}
use Rattle.c_core_rules.specs.declared.tree.Usage.TheVariants.{Used}
use Rattle.c_core_rules.specs.declared.tree.Valued.{Valued}
use Rattle.c_core_rules.specs.Cells.{Taken, Rule, Made, gives, then_by}
use Rattle.c_core_rules.specs.Acts.{linked, finished}
use Rattle.c_core_rules.specs.Expressions.{Frames, Rows, used, chained, rows}
use Rattle.c_lower_expressions.specs.Rows.{lowered, link_rows, linked_to}

-- it begins with the value of the first
pub chained_from : (origin : ℕ) (left : Rule Valued) (rest : List (BinaryOperator × Rows))
    (taken : Taken) →
    chained origin left rest taken ≡ chained origin (gives (left taken).made) rest
    (left taken).taken
chained_from origin left [] taken = refl
chained_from origin left (link ∷ rest) taken =
    let more : Rule Valued = then_by left
    (λ v. then_by (used link.1) (λ w. linked origin link.0 v w))
    in
    let first : Rule Valued = gives (left taken).made in
    let behind : Rule Valued =
    then_by first (λ v. then_by (used link.1) (λ w. linked origin link.0 v w)) in
    chained_from origin more rest taken ∙ sym (chained_from origin behind rest (left taken).taken)

-- no link is left
linked_none : (origin : ℕ) (frames : Frames) (usage : Usage) (left : Valued) (taken : Taken) →
    linked_to origin frames usage left [] taken ≡ finished origin usage left taken
unfolding linked_to
linked_none origin frames usage left taken = refl

-- a link more
linked_more : (origin : ℕ) (frames : Frames) (usage : Usage) (left : Valued)
    (link : BinaryOperator × TypedExpression) (rest : List (BinaryOperator × TypedExpression))
    (taken : Taken) → linked_to origin frames usage left (link ∷ rest) taken
    ≡ (let right = lowered frames Used link.1 taken in
    let made = linked origin link.0 left right.made right.taken in
    linked_to origin frames usage made.made rest made.taken)
unfolding linked_to lowered
linked_more origin frames usage left link rest taken =
    let more : Rule Valued =
    then_by (gives left)
    (λ v. then_by (used (rows frames link.1)) (λ w. linked origin link.0 v w)) in
    ap (λ (m : Made Valued). finished origin usage m.made m.taken)
    (chained_from origin more (map (link_rows frames) rest) taken)

linked_step : (origin : ℕ) (frames : Frames) (usage : Usage) (left : Valued)
    (xs : List (BinaryOperator × TypedExpression)) (i : ℕ) (link : BinaryOperator × TypedExpression)
    (taken : Taken) → i < length xs → link ≡ get_or xs i link →
    linked_to origin frames usage left (drop i xs) taken
    ≡ (let right = lowered frames Used link.1 taken in
    let made = linked origin link.0 left right.made right.taken in
    linked_to origin frames usage made.made (drop (i + 1) xs) made.taken)
linked_step origin frames usage left xs i link taken h is =
    at_drop_more (λ ys. linked_to origin frames usage left ys taken) xs i link h
    ∙ ap (λ y. linked_to origin frames usage left (y ∷ drop (i + 1) xs) taken) (sym is)
    ∙ linked_more origin frames usage left link (drop (i + 1) xs) taken

-- a loop over the links: what is left makes what the whole makes
pub linked_kept : (origin : ℕ) (frames : Frames) (usage : Usage) (left right after : Valued)
    (xs : List (BinaryOperator × TypedExpression)) (i : ℕ) (link : BinaryOperator × TypedExpression)
    (taken between later : Taken) (whole : Made Valued) → i < length xs →
    link ≡ get_or xs i link → between ≡ (lowered frames Used link.1 taken).taken →
    right ≡ (lowered frames Used link.1 taken).made →
    later ≡ (linked origin link.0 left right between).taken →
    after ≡ (linked origin link.0 left right between).made →
    linked_to origin frames usage left (drop i xs) taken ≡ whole →
    linked_to origin frames usage after (drop (i + 1) xs) later ≡ whole
linked_kept origin frames usage left right after xs i link taken between later whole h is b r t a w
    =
    let m = lowered frames Used link.1 taken in
    let e : linked origin link.0 left right between ≡ linked origin link.0 left m.made m.taken =
    ap (λ v. linked origin link.0 left v between) r ∙ ap (linked origin link.0 left m.made) b in
    ap (λ v. linked_to origin frames usage v (drop (i + 1) xs) later)
    (a ∙ ap (λ (n : Made Valued). n.made) e)
    ∙ ap (linked_to origin frames usage (linked origin link.0 left m.made m.taken).made
    (drop (i + 1) xs))
    (t ∙ ap (λ (n : Made Valued). n.taken) e)
    ∙ sym (linked_step origin frames usage left xs i link taken h is) ∙ w

pub linked_done : (origin : ℕ) (frames : Frames) (usage : Usage) (left : Valued)
    (xs : List (BinaryOperator × TypedExpression)) (i : ℕ) (taken : Taken) (whole : Made Valued) →
    length xs ≤ i → linked_to origin frames usage left (drop i xs) taken ≡ whole →
    finished origin usage left taken ≡ whole
linked_done origin frames usage left xs i taken whole h w =
    sym (at_drop_all (λ ys. linked_to origin frames usage left ys taken) xs i h
    ∙ linked_none origin frames usage left taken) ∙ w
