-- Lists of expressions, the first made and the others left.
use Rattle.std.proofs.Common.{◌≡◌, ◌≢◌, ◌<◌, ◌≤◌, ℕ, ◌+◌, List, [], ◌∷◌, ◌++◌, map, length, get_or}
use Rattle.std.proofs.Common.{drop, length-drop, refl, ap, sym, ◌∙◌, arith, append_assoc}
use Rattle.std.proofs.Common.{append-nil}
use Rattle.std.proofs.lemmas.List.{at_drop_more, at_drop_all}
use Rattle.c_types_rules.specs.declared.typed.TypedExpression.{TypedExpression}
use Rattle.c_core_rules.specs.declared.tree.Usage.{Usage}
use Rattle.c_core_rules.specs.declared.tree.Usage.TheVariants.{Used, Unused}
use Rattle.c_core_rules.specs.declared.tree.Valued.{Valued}
use Rattle.c_core_rules.specs.Values.{int}
use Rattle.cpa_model_trees.specs.Numbering.{Trees}
use Rattle.c_core_rules.specs.Trees.{valued}
use Rattle.c_core_rules.specs.Cells.{Taken, Made, each}
use Rattle.c_core_rules.specs.Expressions.{Frames, rows, unused, comma}
use Rattle.c_lower_expressions.specs.Rows.{lowered, used_by, comma_of, comma_behind}

-- items of which the last is used, or none
pub comma_first : (frames : Frames) (usage : Usage) (items : List TypedExpression)
    (taken : Taken) → comma_behind frames usage [] items taken ≡ comma_of frames usage items taken
unfolding comma_behind
comma_first frames usage items taken = refl

comma_none : (frames : Frames) (usage : Usage) (before : Trees) (taken : Taken) →
    comma_behind frames usage before [] taken
    ≡ record { taken = taken; made = valued before (int 0) }
unfolding comma_behind comma_of
comma_none frames usage before taken =
    ap (λ (s : Trees). record { taken = taken; made = valued s (int 0) }) (append-nil before)

comma_last : (frames : Frames) (usage : Usage) (before : Trees) (item : TypedExpression)
    (items : List TypedExpression) (taken : Taken) → length items ≡ 0 →
    comma_behind frames usage before (item ∷ items) taken
    ≡ (let m = lowered frames usage item taken in
    record { taken = m.taken; made = valued (before ++ m.made.statements) m.made.value })
unfolding comma_behind comma_of lowered
comma_last frames usage before item [] taken h = refl
comma_last frames usage before item (next ∷ items) taken h = absurd (omega arith)

comma_more : (frames : Frames) (usage : Usage) (before : Trees) (item : TypedExpression)
    (items : List TypedExpression) (taken : Taken) → length items ≢ 0 →
    comma_behind frames usage before (item ∷ items) taken
    ≡ (let m = lowered frames Unused item taken in
    comma_behind frames usage (before ++ m.made.statements) items m.taken)
unfolding comma_behind comma_of lowered
comma_more frames usage before item [] taken h = absurd (omega arith)
comma_more frames usage before item (next ∷ items) taken h =
    let m = unused (rows frames item) taken in
    let n = comma usage (map (rows frames) (next ∷ items)) m.taken in
    ap (λ (s : Trees). record { taken = n.taken; made = valued s n.made.value })
    (sym (append_assoc before m.made n.made.statements))

comma_step : (frames : Frames) (usage : Usage) (before : Trees) (xs : List TypedExpression)
    (i : ℕ) (item : TypedExpression) (taken : Taken) → i + 1 < length xs →
    item ≡ get_or xs i item →
    comma_behind frames usage before (drop i xs) taken
    ≡ (let m = lowered frames Unused item taken in
    comma_behind frames usage (before ++ m.made.statements) (drop (i + 1) xs) m.taken)
comma_step frames usage before xs i item taken h is =
    at_drop_more (λ ys. comma_behind frames usage before ys taken) xs i item (omega arith)
    ∙ ap (λ y. comma_behind frames usage before (y ∷ drop (i + 1) xs) taken) (sym is)
    ∙ comma_more frames usage before item (drop (i + 1) xs) taken
    (omega (arith, length-drop (i + 1) xs))

comma_end : (frames : Frames) (usage : Usage) (before : Trees) (xs : List TypedExpression)
    (i : ℕ) (item : TypedExpression) (taken : Taken) → i + 1 ≡ length xs →
    item ≡ get_or xs i item →
    comma_behind frames usage before (drop i xs) taken
    ≡ (let m = lowered frames usage item taken in
    record { taken = m.taken; made = valued (before ++ m.made.statements) m.made.value })
comma_end frames usage before xs i item taken h is =
    at_drop_more (λ ys. comma_behind frames usage before ys taken) xs i item (omega arith)
    ∙ ap (λ y. comma_behind frames usage before (y ∷ drop (i + 1) xs) taken) (sym is)
    ∙ comma_last frames usage before item (drop (i + 1) xs) taken
    (omega (arith, length-drop (i + 1) xs))

-- a loop over items: what is left makes what the whole makes
pub comma_kept : (frames : Frames) (usage : Usage) (before after : Trees) (v : Valued)
    (xs : List TypedExpression) (i : ℕ) (item : TypedExpression) (taken later : Taken)
    (whole : Made Valued) → i + 1 < length xs →
    item ≡ get_or xs i item → later ≡ (lowered frames Unused item taken).taken →
    v ≡ (lowered frames Unused item taken).made → after ≡ before ++ v.statements →
    comma_behind frames usage before (drop i xs) taken ≡ whole →
    comma_behind frames usage after (drop (i + 1) xs) later ≡ whole
comma_kept frames usage before after v xs i item taken later whole h is c k a w =
    let m = lowered frames Unused item taken in
    ap (λ s. comma_behind frames usage s (drop (i + 1) xs) later)
    (a ∙ ap (λ (u : Valued). before ++ u.statements) k)
    ∙ ap (comma_behind frames usage (before ++ m.made.statements) (drop (i + 1) xs)) c
    ∙ sym (comma_step frames usage before xs i item taken h is) ∙ w

pub comma_done : (frames : Frames) (usage : Usage) (before trees : Trees) (v : Valued)
    (xs : List TypedExpression) (i : ℕ) (item : TypedExpression) (taken later : Taken)
    (whole : Made Valued) → i + 1 ≡ length xs → item ≡ get_or xs i item →
    later ≡ (lowered frames usage item taken).taken →
    v ≡ (lowered frames usage item taken).made → trees ≡ before ++ v.statements →
    comma_behind frames usage before (drop i xs) taken ≡ whole →
    (later ≡ whole.taken) × (valued trees v.value ≡ whole.made)
comma_done frames usage before trees v xs i item taken later whole h is c k a w =
    let e = sym (comma_end frames usage before xs i item taken h is) ∙ w in (
      c ∙ ap (λ (m : Made Valued). m.taken) e,
      ap (λ (s : Trees). valued s v.value) a
          ∙ ap (λ (u : Valued). valued (before ++ u.statements) u.value) k
          ∙ ap (λ (m : Made Valued). m.made) e,
    )

pub comma_past_done : (frames : Frames) (usage : Usage) (before : Trees)
    (xs : List TypedExpression) (i : ℕ) (taken : Taken) (whole : Made Valued) → length xs ≤ i →
    comma_behind frames usage before (drop i xs) taken ≡ whole →
    (taken ≡ whole.taken) × (valued before (int 0) ≡ whole.made)
comma_past_done frames usage before xs i taken whole h w =
    let e = sym (at_drop_all (λ ys. comma_behind frames usage before ys taken) xs i h
    ∙ comma_none frames usage before taken) ∙ w in
    (ap (λ (m : Made Valued). m.taken) e, ap (λ (m : Made Valued). m.made) e)

-- arguments
pub append_none : (vs : List Valued) → vs ++ [] ≡ vs
append_none vs = append-nil vs

pub each_more : (frames : Frames) (before : List Valued) (item : TypedExpression)
    (items : List TypedExpression) (taken : Taken) →
    before ++ (each (map (used_by frames) (item ∷ items)) taken).made
    ≡ (before ++ (lowered frames Used item taken).made ∷ [])
    ++ (each (map (used_by frames) items) (lowered frames Used item taken).taken).made
each_more frames before item items taken =
    let m = lowered frames Used item taken in
    let n = each (map (used_by frames) items) m.taken in
    sym (append_assoc before (m.made ∷ []) n.made)
