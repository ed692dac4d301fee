-- Every item of a block in which no rule is broken makes well typed trees (`item_runs`).
use Rattle.std.proofs.Common.{◌≡◌, ℕ, ◌≤◌, Bool, true, false, ◌&&◌, List, [], ◌∷◌, ◌++◌, map}
use Rattle.std.proofs.Common.{Option, None, Some, refl, ap, sym, ◌∙◌, subst, arith}
use Rattle.std.specs.Prelude.{is_some, unwrap_or}
use Rattle.std.specs.List.{AllByRecursion}
use Rattle.c_lexer.specs.declared.fault.Rule.TheVariants as rule
use Rattle.c_grammar_tree.specs.declared.expression.Expression.{Expression}
use Rattle.c_grammar_tree.specs.declared.statement.ForStart.{ForStart}
use Rattle.c_grammar_tree.specs.declared.statement.ForStart.TheVariants as start
use Rattle.c_grammar_tree.specs.declared.statement.Statement.{Statement, roll-Statement}
use Rattle.c_grammar_tree.specs.declared.statement.BlockItem.{BlockItem, roll-BlockItem}
use Rattle.c_grammar_tree.specs.declared.statement.BlockItem.TheOpen.{BlockItem-F, Statement-F}
use Rattle.c_grammar_tree.specs.declared.statement.BlockItem.TheFolds.{fold-Statement}
use Rattle.c_grammar_tree.specs.declared.statement.BlockItem.TheFolds.{ind-BlockItem}
use Rattle.c_grammar_tree.specs.declared.statement.BlockItem.TheFolds.{fold-roll-BlockItem}
use Rattle.c_grammar_tree.specs.declared.statement.BlockItem.TheFolds.{fold-roll-Statement}
use Rattle.c_grammar_tree.specs.declared.statement.BlockItem.TheFolds.{map-BlockItem, map-Statement}
use Rattle.c_types_rules.specs.declared.meaning.Kind.{Kind}
use Rattle.c_types_rules.specs.declared.meaning.Entry.{Entry}
use Rattle.c_types_rules.specs.declared.meaning.Role.{Role}
use Rattle.c_types_rules.specs.declared.meaning.Role.TheVariants.{Valued, Evaluated}
use Rattle.cpa_ints.specs.Conversions.{promoted}
use Rattle.cpa_ints.specs.Wrapping.{wrapped}
use Rattle.cpa_expr.specs.declared.tree.CmpOp.TheVariants as cmp
use Rattle.cpa_expr.specs.declared.tree.Expr.{Expr}
use Rattle.cpa_expr.specs.declared.tree.Expr.TheVariants.{Const, Cmp}
use Rattle.cpa_expr.specs.Shape.{type_of, IsTyped}
use Rattle.c_types_rules.specs.declared.typed.Choice.{Choice}
use Rattle.c_types_rules.specs.declared.typed.TypedExpression.{TypedExpression}
use Rattle.c_types_rules.specs.declared.typed.TypedItem.{TypedItem}
use Rattle.c_types_rules.specs.declared.typed.TypedItem.TheVariants as typed_item
use Rattle.c_types_rules.specs.declared.typed.TypedItem.TheOpen.{TypedItem-F, TypedStatement-F}
use Rattle.c_types_rules.specs.declared.typed.TypedStatement.{TypedStatement}
use Rattle.c_types_rules.specs.declared.typed.TypedStatement.TheVariants as tree
use Rattle.c_types_rules.specs.Names.{Text}
use Rattle.c_types_rules.specs.ExpressionRules.{broken, at_if}
use Rattle.c_types_rules.specs.Declarations.{is_void_kind}
use Rattle.c_types_rules.specs.Statements.{Around, Site, Act, Walk, doing, followed, in_order}
use Rattle.c_types_rules.specs.Statements.{scoped, looped, inner, loop, left_by, evaluating}
use Rattle.c_types_rules.specs.Statements.{start_walk, declaration_walk, evaluates, continues}
use Rattle.c_types_rules.specs.Statements.{returns, labeled, selected, switched, end_behind}
use Rattle.c_types_rules.specs.Statements.{left_switch}
use Rattle.c_types_rules.specs.StatementRules.{agree}
use Rattle.c_types_rules.specs.TypedStatements.{Grown, grown, grown_item, grown_statement}
use Rattle.c_types_rules.specs.TypedStatements.{typed_in_order, typed_expression, typed_optional}
use Rattle.c_types_rules.specs.TypedStatements.{typed_for_start, typed_declaration, label_number}
use Rattle.c_types_rules.specs.TypedStatements.{walk_in, typed_break}
use Rattle.cpa_model_trees.specs.declared.tree.Head.{Head}
use Rattle.cpa_model_trees.specs.declared.tree.Head.TheVariants as head
use Rattle.c_core_rules.specs.declared.tree.Location.{Location}
use Rattle.c_core_rules.specs.declared.tree.Valued.{Valued as CoreValued}
use Rattle.cpa_model_trees.specs.Numbering.{Trees}
use Rattle.c_core_rules.specs.Values.{promote}
use Rattle.c_core_rules.specs.Trees.{leaf, block, labeled as labeled_tree, choice, repeated, valued}
use Rattle.c_core_rules.specs.Acts.{held}
use Rattle.c_core_rules.specs.Cells as core
use Rattle.c_core_rules.specs.Expressions as rows
use Rattle.c_core_rules.specs.Statements as statement
use Rattle.c_core_laws.specs.lemmas.CoreItems.{core_statement}
use Rattle.c_core_laws.specs.lemmas.SameWalk.{grown_of, open_grown_item, open_grown_statement}
use Rattle.c_core_laws.specs.lemmas.Faults.{none_left, not_broken}
use Rattle.c_core_sound.specs.Whole.{is_whole, all_whole, whole_optional, whole_start}
use Rattle.c_core_sound.specs.Whole.{whole_statement, whole_item_layer, whole_block_item}
use Rattle.c_core_sound.proofs.TypedValues.{PlaceFits, asked_typed, conv_typed}
use Rattle.c_core_sound.proofs.Fitting.{Ground, HeadFits, TreesFit, append_fits, push_fits}
use Rattle.c_core_sound.proofs.Fitting.{leaf_fits, block_fits, choice_fits, repeated_fits}
use Rattle.c_core_sound.proofs.Fitting.{node_fits, fits_gives, fits_then, fits_weaker}
use Rattle.c_core_sound.proofs.FittingActs.{Good, good, held_fits}
use Rattle.c_core_sound.proofs.FittingRows.{GoodRule, TreesRule}
use Rattle.c_core_sound.proofs.ReadExpressions.{and_left, and_right}
use Rattle.c_core_sound.proofs.Running.{world, Runs, runs_gives, runs_weaker, runs_then, runs_fits}
use Rattle.c_core_sound.proofs.Running.{runs_scoped, runs_inner, runs_loop, runs_switch}
use Rattle.c_core_sound.proofs.Running.{below_higher}
use Rattle.c_core_sound.proofs.Sites.{SiteFits, SitesFit, sites_left, sites_right, value_rule}
use Rattle.c_core_sound.proofs.Sites.{trees_rule}
use Rattle.c_core_sound.proofs.RunDeclarations.{Ready, initialized_fits, declaration_runs}
use Rattle.c_core_sound.proofs.RunDeclarations.{declaration_ready, declaration_rises}
use Rattle.c_core_sound.proofs.OpenedItems.{opened, opened_item}

pub no_more : (n : ℕ) → n ≤ n
no_more n = omega arith

pub two_steps : (a b c : ℕ) → a ≤ b → b ≤ c → a ≤ c
two_steps a b c h k = omega (arith, h, k)

module _ (G : Ground) (frames : rows.Frames) (text : Text) (caller : ℕ) (K : Kind)
    (place : Location) where
  -- the result has its cell, where there is one
  abbrev pub Returns : Type 0
  Returns = is_void_kind K ≡ false → PlaceFits G.cells place

  abbrev ReadyAt : Around → Type 0
  ReadyAt around = Ready G frames text K around

  abbrev SitesAt : List Site → Type 0
  SitesAt sites = SitesFit G text caller sites

  -- a part of a function with its typed tree, and the rule that makes its core
  pub record Part {T : Type 0} (rule_of : T → core.Rule Trees) (part : Grown T) (whole : Bool)
      : Type 0 where
    pub rises : (around : Around) → around.objects ≤ (part.walk.behind around).objects
    pub ready : (around : Around) → ReadyAt around → ReadyAt (part.walk.behind around)
    pub runs : (around : Around) → ReadyAt around → SitesAt (part.walk.sites around) →
        whole ≡ true →
        Runs G Returns around (part.walk.behind around) (TreesFit G)
        (rule_of (part.typed around))

  abbrev RunsAt : Around → Around → core.Rule Trees → Type 0
  RunsAt around behind rule = Runs G Returns around behind (TreesFit G) rule

  -- what is known is known in a scope of its own, in a loop, and behind them
  ready_inner : (around : Around) → ReadyAt around → ReadyAt (inner around)
  ready_inner around h =
      record { functions = h.functions; below = h.below; result = h.result }

  ready_loop : (around : Around) → ReadyAt around → ReadyAt (loop around)
  ready_loop around h =
      record { functions = h.functions; below = h.below; result = h.result }

  ready_left : (around mid : Around) → around.objects ≤ mid.objects → ReadyAt around →
      ReadyAt (left_by around mid)
  ready_left around mid le h = record {
    functions = h.functions;
    below = below_higher around.objects mid.objects around.names le h.below;
    result = h.result;
  }

  abbrev test_site : Around → Expression → Site
  test_site around test = record { around = around; act = evaluates Valued test }

  -- the value of a test, and a rule behind it that makes trees with it
  tested_runs : (around behind : Around) (test : Expression) {S : Type 0} {Q : S → Type 0}
      (second : CoreValued → core.Rule S) →
      ReadyAt around → SiteFits G text caller (test_site around test) → is_whole test ≡ true →
      around.objects ≤ behind.objects →
      ((v : CoreValued) →
      Runs G (Returns × Good (world G around.names) v) around behind Q (second v)) →
      Runs G Returns around behind Q
      (core.then_by (rows.used (rows.rows frames (typed_expression text around test))) second)
  tested_runs around behind test second h site whole le then_runs =
      runs_then G around around behind second (no_more around.objects) le
      (runs_weaker G (λ g. tt) (runs_fits G around
      (value_rule G frames text caller around test h.functions site whole))) then_runs

  -- one after the other
  pair_runs : (a b c : Around) {r s : core.Rule Trees} → a.objects ≤ b.objects →
      b.objects ≤ c.objects → RunsAt a b r → RunsAt b c s → (make : Trees → Trees → Trees) →
      ((x y : Trees) → TreesFit G x → TreesFit G y → TreesFit G (make x y)) →
      RunsAt a c (core.then_by r (λ x. core.then_by s (λ y. core.gives (make x y))))
  pair_runs a b c {s = s} le more h k make fits =
      runs_then G a b c (λ x. core.then_by s (λ y. core.gives (make x y))) le more h
      (λ x. runs_then G b c c (λ y. core.gives (make x y)) more (no_more c.objects)
      (runs_weaker G (λ g. g.0) k)
      (λ y. runs_gives G c (TreesFit G) (make x y) (λ g. fits x y g.0.1 g.1)))

  one_runs : (a b : Around) {r : core.Rule Trees} → a.objects ≤ b.objects → RunsAt a b r →
      (make : Trees → Trees) → ((x : Trees) → TreesFit G x → TreesFit G (make x)) →
      RunsAt a b (core.then_by r (λ x. core.gives (make x)))
  one_runs a b le h make fits =
      runs_then G a b b (λ x. core.gives (make x)) le (no_more b.objects) h
      (λ x. runs_gives G b (TreesFit G) (make x) (λ g. fits x g.1))

  -- S, if (v) {} else { break }
  leaving_fits : (origin : ℕ) (names : List Entry) (test : TypedExpression) →
      GoodRule (world G names) (rows.used (rows.rows frames test)) →
      TreesRule (world G names) (statement.left_unless origin frames (Some test))
  leaving_fits origin names test h =
      fits_then (world G names) (λ v. core.gives (statement.leaving origin v)) h
      (λ v. fits_gives (world G names) (TreesFit G) (statement.leaving origin v)
      (λ g. push_fits G v.statements (choice origin v.value [] (leaf origin head.Break ∷ []))
      g.1.statements
      (choice_fits G origin v.value [] (leaf origin head.Break ∷ []) g.1.value tt
      (leaf_fits G origin head.Break tt, tt))))

  left_runs : (origin : ℕ) (around : Around) (test : Option Expression) → ReadyAt around →
      SitesAt ((evaluating Valued test).sites around) → whole_optional test ≡ true →
      RunsAt around around (statement.left_unless origin frames (typed_optional text around test))
  left_runs origin around None h sites whole = runs_gives G around (TreesFit G) [] (λ g. tt)
  left_runs origin around (Some test) h sites whole =
      runs_weaker G (λ g. tt) (runs_fits G around
      (leaving_fits origin around.names (typed_expression text around test)
      (value_rule G frames text caller around test h.functions sites.0 whole)))

  unused_runs : (around : Around) (e : Option Expression) → ReadyAt around →
      SitesAt ((evaluating Evaluated e).sites around) → whole_optional e ≡ true →
      RunsAt around around (statement.some_unused frames (typed_optional text around e))
  unused_runs around None h sites whole = runs_gives G around (TreesFit G) [] (λ g. tt)
  unused_runs around (Some e) h sites whole =
      runs_weaker G (λ g. tt) (runs_fits G around
      (trees_rule G frames text caller around e h.functions sites.0 whole))

  evaluating_stays : (role : Role) (e : Option Expression) (around : Around) →
      (evaluating role e).behind around ≡ around
  evaluating_stays role None around = refl
  evaluating_stays role (Some e) around = refl

  -- the site of a step names what is known before the body
  step_at : (around mid : Around) (step : Option Expression) →
      SitesAt ((evaluating Evaluated step).sites around) →
      SitesAt ((evaluating Evaluated step).sites (left_by around mid))
  step_at around mid None sites = tt
  step_at around mid (Some e) sites =
      (record { none = sites.0.none; calls = sites.0.calls }, tt)

  start_ready : (around : Around) (first : ForStart) → ReadyAt around →
      ReadyAt ((start_walk text first).behind around)
  start_ready around (start.Declaration declaration) h =
      declaration_ready G frames text caller K around declaration h
  start_ready around (start.Expression e) h =
      subst ReadyAt (sym (evaluating_stays Evaluated e around)) h

  start_rises : (around : Around) (first : ForStart) →
      around.objects ≤ ((start_walk text first).behind around).objects
  start_rises around (start.Declaration declaration) =
      declaration_rises G frames text caller K around declaration
  start_rises around (start.Expression e) =
      subst (λ (b : Around). around.objects ≤ b.objects)
      (sym (evaluating_stays Evaluated e around)) (no_more around.objects)

  start_runs : (around : Around) (first : ForStart) → ReadyAt around →
      SitesAt ((start_walk text first).sites around) → whole_start first ≡ true →
      RunsAt around ((start_walk text first).behind around)
      (statement.started frames (typed_for_start text first around))
  start_runs around (start.Declaration declaration) h sites whole =
      runs_weaker G (λ g. tt)
      (declaration_runs G frames text caller K around declaration h sites whole)
  start_runs around (start.Expression e) h sites whole =
      subst (λ (b : Around). RunsAt around b
      (statement.some_unused frames (typed_optional text around e)))
      (sym (evaluating_stays Evaluated e around)) (unused_runs around e h sites whole)

  at_rule : (a b : Around) {r s : core.Rule Trees} → r ≡ s → RunsAt a b s → RunsAt a b r
  at_rule a b is h = subst (λ (rule : core.Rule Trees). RunsAt a b rule) (sym is) h

  abbrev item_of : TypedItem → core.Rule Trees
  item_of item = statement.item_rule frames place item

  abbrev statement_of : TypedStatement → core.Rule Trees
  statement_of s = core_statement frames place s

  whole_in : Statement → Bool
  whole_in = fold-Statement Bool Bool whole_item_layer whole_statement

  open_whole_item : (x : BlockItem-F BlockItem Statement) →
      whole_block_item (roll-BlockItem x)
      ≡ whole_item_layer (map-BlockItem BlockItem Statement Bool Bool whole_block_item whole_in x)
  unfolding whole_block_item whole_in
  open_whole_item x = fold-roll-BlockItem Bool Bool whole_item_layer whole_statement x

  open_whole : (x : Statement-F BlockItem Statement) →
      whole_in (roll-Statement x)
      ≡ whole_statement (map-Statement BlockItem Statement Bool Bool whole_block_item whole_in x)
  unfolding whole_block_item whole_in
  open_whole x = fold-roll-Statement Bool Bool whole_item_layer whole_statement x

  abbrev pub ItemRuns : BlockItem → Type 0
  ItemRuns item = Part item_of (grown text item) (whole_block_item item)

  abbrev StatementRuns : Statement → Type 0
  StatementRuns s = Part statement_of (grown_of text s) (whole_in s)

  abbrev HeldItem : Type 0
  HeldItem = (item : BlockItem) × ItemRuns item

  abbrev HeldStatement : Type 0
  HeldStatement = (s : Statement) × StatementRuns s

  abbrev bare_item : BlockItem-F HeldItem HeldStatement → BlockItem-F BlockItem Statement
  bare_item y = map-BlockItem HeldItem HeldStatement BlockItem Statement (λ e. e.0) (λ e. e.0) y

  abbrev bare : Statement-F HeldItem HeldStatement → Statement-F BlockItem Statement
  bare y = map-Statement HeldItem HeldStatement BlockItem Statement (λ e. e.0) (λ e. e.0) y

  abbrev grown_layer : Statement-F HeldItem HeldStatement → Grown TypedStatement
  grown_layer y = grown_statement text (map-Statement BlockItem Statement (Grown TypedItem)
      (Grown TypedStatement) (grown text) (grown_of text) (bare y))

  abbrev whole_layer : Statement-F HeldItem HeldStatement → Bool
  whole_layer y =
      whole_statement (map-Statement BlockItem Statement Bool Bool whole_block_item whole_in
      (bare y))

  -- items in order
  abbrev pub items_walk : List BlockItem → Walk
  items_walk items = in_order (map walk_in (map (grown text) items))

  abbrev pub items_typed : List BlockItem → Around → List TypedItem
  items_typed items around = typed_in_order (map (grown text) items) around

  pub items_rise : (items : List BlockItem) → AllByRecursion ItemRuns items → (around : Around) →
      around.objects ≤ ((items_walk items).behind around).objects
  items_rise [] all around = no_more around.objects
  items_rise (item ∷ items) all around =
      let behind = (grown text item).walk.behind around in
      two_steps around.objects behind.objects ((items_walk items).behind behind).objects
      (all.0.rises around) (items_rise items all.1 behind)

  pub items_ready : (items : List BlockItem) → AllByRecursion ItemRuns items → (around : Around) →
      ReadyAt around → ReadyAt ((items_walk items).behind around)
  items_ready [] all around h = h
  items_ready (item ∷ items) all around h =
      items_ready items all.1 ((grown text item).walk.behind around) (all.0.ready around h)

  pub items_run : (items : List BlockItem) → AllByRecursion ItemRuns items → (around : Around) →
      ReadyAt around → SitesAt ((items_walk items).sites around) →
      all_whole (map whole_block_item items) ≡ true →
      RunsAt around ((items_walk items).behind around)
      (core.in_order (map item_of (items_typed items around)))
  items_run [] all around h sites whole = runs_gives G around (TreesFit G) [] (λ g. tt)
  items_run (item ∷ items) all around h sites whole =
      let g = grown text item in
      let behind = g.walk.behind around in
      let last = (items_walk items).behind behind in
      let own = whole_block_item item in
      let others = all_whole (map whole_block_item items) in
      let rest = (items_walk items).sites behind in
      pair_runs around behind last (all.0.rises around) (items_rise items all.1 behind)
      (all.0.runs around h (sites_left G text caller (g.walk.sites around) rest sites)
      (and_left own others whole))
      (items_run items all.1 behind (all.0.ready around h)
      (sites_right G text caller (g.walk.sites around) rest sites) (and_right own others whole))
      (λ x y. x ++ y) (λ x y f s. append_fits G x y f s)

  all_held : (held : List HeldItem) →
      AllByRecursion ItemRuns (map (λ (e : HeldItem). e.0) held)
  all_held [] = tt
  all_held (item ∷ held) = (item.1, all_held held)

  -- the body of a loop, behind which its names are forgotten
  body_runs : (around : Around) (body : HeldStatement) → ReadyAt around →
      SitesAt ((grown_of text body.0).walk.sites (loop around)) → whole_in body.0 ≡ true →
      RunsAt around (left_by around ((grown_of text body.0).walk.behind (loop around)))
      (statement_of ((grown_of text body.0).typed (loop around)))
  body_runs around body h sites whole =
      let mid = (grown_of text body.0).walk.behind (loop around) in
      runs_scoped G around mid h.below (runs_loop G around mid
      (body.1.runs (loop around) (ready_loop around h) sites whole))

  abbrev if_tree : ℕ → CoreValued → Trees → Trees → Trees
  if_tree origin v a b = v.statements ++ choice origin v.value a b ∷ []

  if_fits : (origin : ℕ) (names : List Entry) (v : CoreValued) (a b : Trees) →
      Good (world G names) v →
      TreesFit G a → TreesFit G b → TreesFit G (if_tree origin v a b)
  if_fits origin names v a b h f s =
      push_fits G v.statements (choice origin v.value a b) h.statements
      (choice_fits G origin v.value a b h.value f s)

  if_runs : (origin : ℕ) (around mid last : Around) (test : Expression) {a b : core.Rule Trees} →
      ReadyAt around → SiteFits G text caller (test_site around test) → is_whole test ≡ true →
      around.objects ≤ mid.objects → mid.objects ≤ last.objects → RunsAt around mid a →
      RunsAt mid last b →
      RunsAt around last (core.then_by
      (rows.used (rows.rows frames (typed_expression text around test)))
      (λ v. core.then_by a (λ x. core.then_by b (λ y. core.gives (if_tree origin v x y)))))
  if_runs origin around mid last test {a = a} {b = b} h site whole le more first second =
      tested_runs around last test
      (λ v. core.then_by a (λ x. core.then_by b (λ y. core.gives (if_tree origin v x y)))) h site
      whole
      (two_steps around.objects mid.objects last.objects le more)
      (λ v. runs_then G around mid last
      (λ x. core.then_by b (λ y. core.gives (if_tree origin v x y))) le
      more (runs_weaker G (λ g. g.0) first)
      (λ x. runs_then G mid last last (λ y. core.gives (if_tree origin v x y)) more
      (no_more last.objects)
      (runs_weaker G (λ g. g.0.0) second)
      (λ y. runs_gives G last (TreesFit G) (if_tree origin v x y)
      (λ g. if_fits origin around.names v x y g.0.0.1 g.0.1 g.1))))

  if_layer : (test : Expression) (first : HeldStatement) (at : ℕ) →
      Part statement_of (grown_layer (Statement-F.If test first None at))
      (is_whole test && (whole_in first.0 && true))
  if_layer test first at =
      let g = grown_of text first.0 in record {
        rises = λ around. first.1.rises around;
        ready = λ around h. first.1.ready around h;
        runs = λ around h sites whole.
            let last = g.walk.behind around in
            let inside = g.walk.sites around in
            let more = whole_in first.0 && true in
            let typed = typed_expression text around test in
            at_rule around last (opened frames place (tree.If typed (g.typed around) None at)
            (TypedStatement-F.If typed (g.typed around) None at)
            (tree.rolls-If typed (g.typed around) None at))
            (if_runs at around last last test h sites.0 (and_left (is_whole test) more whole)
            (first.1.rises around) (no_more last.objects)
            (first.1.runs around h (sites_left G text caller inside [] sites.1)
            (and_left (whole_in first.0) true (and_right (is_whole test) more whole)))
            (runs_gives G last (TreesFit G) [] (λ g. tt)));
      }

  else_layer : (test : Expression) (first second : HeldStatement) (at : ℕ) →
      Part statement_of (grown_layer (Statement-F.If test first (Some second) at))
      (is_whole test && (whole_in first.0 && whole_in second.0))
  else_layer test first second at =
      let g = grown_of text first.0 in
      let o = grown_of text second.0 in record {
        rises = λ around.
            let mid = g.walk.behind around in
            two_steps around.objects mid.objects (o.walk.behind mid).objects
            (first.1.rises around) (second.1.rises mid);
        ready = λ around h. second.1.ready (g.walk.behind around) (first.1.ready around h);
        runs = λ around h sites whole.
            let mid = g.walk.behind around in
            let last = o.walk.behind mid in
            let one = g.walk.sites around in
            let two = o.walk.sites mid in
            let more = whole_in first.0 && whole_in second.0 in
            let rest = and_right (is_whole test) more whole in
            let typed = typed_expression text around test in
            at_rule around last
            (opened frames place (tree.If typed (g.typed around) (Some (o.typed mid)) at)
            (TypedStatement-F.If typed (g.typed around) (Some (o.typed mid)) at)
            (tree.rolls-If typed (g.typed around) (Some (o.typed mid)) at))
            (if_runs at around mid last test h sites.0 (and_left (is_whole test) more whole)
            (first.1.rises around) (second.1.rises mid)
            (first.1.runs around h (sites_left G text caller one two sites.1)
            (and_left (whole_in first.0) (whole_in second.0) rest))
            (second.1.runs mid (first.1.ready around h)
            (sites_right G text caller one two sites.1)
            (and_right (whole_in first.0) (whole_in second.0) rest)));
      }

  while_layer : (test : Expression) (body : HeldStatement) (at : ℕ) →
      Part statement_of (grown_layer (Statement-F.While test body at))
      (is_whole test && whole_in body.0)
  while_layer test body at =
      let g = grown_of text body.0 in record {
        rises = λ around. body.1.rises (loop around);
        ready = λ around h. ready_left around (g.walk.behind (loop around))
            (body.1.rises (loop around)) h;
        runs = λ around h sites whole.
            let last = left_by around (g.walk.behind (loop around)) in
            let typed = typed_expression text around test in
            let inside = g.typed (loop around) in
            at_rule around last (opened frames place (tree.While typed inside at)
            (TypedStatement-F.While typed inside at) (tree.rolls-While typed inside at))
            (pair_runs around around last (no_more around.objects) (body.1.rises (loop around))
            (left_runs at around (Some test) h (sites.0, tt)
            (and_left (is_whole test) (whole_in body.0) whole))
            (body_runs around body h sites.1 (and_right (is_whole test) (whole_in body.0) whole))
            (λ front rest. repeated at (front ++ rest) [] ∷ [])
            (λ front rest f s. (
              repeated_fits G at (front ++ rest) []
                  (append_fits G front rest f s) tt,
              tt,
            )));
      }

  do_layer : (test : Expression) (body : HeldStatement) (at : ℕ) →
      Part statement_of (grown_layer (Statement-F.Do body test at))
      (whole_in body.0 && is_whole test)
  do_layer test body at =
      let g = grown_of text body.0 in record {
        rises = λ around. body.1.rises (loop around);
        ready = λ around h. ready_left around (g.walk.behind (loop around))
            (body.1.rises (loop around)) h;
        runs = λ around h sites whole.
            let mid = g.walk.behind (loop around) in
            let last = left_by around mid in
            let own = g.walk.sites (loop around) in
            let typed = typed_expression text around test in
            let inside = g.typed (loop around) in
            let behind = test_site last test ∷ [] in
            at_rule around last (opened frames place (tree.Do inside typed at)
            (TypedStatement-F.Do inside typed at) (tree.rolls-Do inside typed at))
            (pair_runs around last last (body.1.rises (loop around)) (no_more last.objects)
            (body_runs around body h (sites_left G text caller own behind sites)
            (and_left (whole_in body.0) (is_whole test) whole))
            (left_runs at last (Some test) (ready_left around mid (body.1.rises (loop around)) h)
            (sites_right G text caller own behind sites)
            (and_right (whole_in body.0) (is_whole test) whole))
            (λ rest back. repeated at rest back ∷ [])
            (λ rest back f s. (repeated_fits G at rest back f s, tt)));
      }

  -- a for, in a scope round the whole statement
  abbrev for_behind : Around → ForStart → Option Expression → Option Expression → HeldStatement →
      Around
  for_behind around first test step body =
      (scoped (followed (start_walk text first) (followed (evaluating Valued test)
      (followed (evaluating Evaluated step) (looped (grown_of text body.0).walk))))).behind around

  abbrev for_tree : ℕ → Trees → Trees → Trees → Trees → Trees
  for_tree origin before front inside behind =
      block origin (before ++ repeated origin (front ++ inside) behind ∷ []) ∷ []

  for_fits : (origin : ℕ) (before front inside behind : Trees) → TreesFit G before →
      TreesFit G front →
      TreesFit G inside → TreesFit G behind →
      TreesFit G (for_tree origin before front inside behind)
  for_fits origin before front inside behind a b c d = (
    block_fits G origin (before ++ repeated origin (front ++ inside) behind ∷ [])
        (push_fits G before (repeated origin (front ++ inside) behind) a
        (repeated_fits G origin (front ++ inside) behind (append_fits G front inside b c) d)),
    tt,
  )

  four_runs : (origin : ℕ) (a b c : Around) {p q r s : core.Rule Trees} → a.objects ≤ b.objects →
      b.objects ≤ c.objects → RunsAt a b p → RunsAt b b q → RunsAt b c r → RunsAt c c s →
      RunsAt a c (core.then_by p (λ before. core.then_by q (λ front. core.then_by r (λ inside.
      core.then_by s (λ behind. core.gives (for_tree origin before front inside behind))))))
  four_runs origin a b c {q = q} {r = r} {s = s} le more first test body step =
      runs_then G a b c (λ before. core.then_by q (λ front. core.then_by r (λ inside.
      core.then_by s (λ behind. core.gives (for_tree origin before front inside behind))))) le more
      first
      (λ before. runs_then G b b c (λ front. core.then_by r (λ inside.
      core.then_by s (λ behind. core.gives (for_tree origin before front inside behind))))
      (no_more b.objects) more (runs_weaker G (λ g. g.0) test)
      (λ front. runs_then G b c c (λ inside.
      core.then_by s (λ behind. core.gives (for_tree origin before front inside behind))) more
      (no_more c.objects) (runs_weaker G (λ g. g.0.0) body)
      (λ inside. runs_then G c c c (λ behind. core.gives
      (for_tree origin before front inside behind))
      (no_more c.objects) (no_more c.objects) (runs_weaker G (λ g. g.0.0.0) step)
      (λ behind. runs_gives G c (TreesFit G) (for_tree origin before front inside behind)
      (λ g. for_fits origin before front inside behind g.0.0.0.1 g.0.0.1 g.0.1 g.1)))))

  for_runs : (around : Around) (first : ForStart) (test step : Option Expression)
      (body : HeldStatement) (at : ℕ) → ReadyAt around →
      SitesAt ((scoped (followed (start_walk text first) (followed (evaluating Valued test)
      (followed (evaluating Evaluated step) (looped (grown_of text body.0).walk))))).sites around) →
      (whole_start first && (whole_optional test && (whole_optional step && whole_in body.0)))
      ≡ true →
      RunsAt around (for_behind around first test step body)
      (statement_of (tree.For (typed_for_start text first (inner around))
      (typed_optional text ((start_walk text first).behind (inner around)) test)
      (typed_optional text ((start_walk text first).behind (inner around)) step)
      ((grown_of text body.0).typed (loop ((start_walk text first).behind (inner around)))) at))
  for_runs around first test step body at h sites whole =
      let g = grown_of text body.0 in
      let here = inner around in
      let front = start_walk text first in
      let tested = evaluating Valued test in
      let stepped = evaluating Evaluated step in
      let b = front.behind here in
      let last = stepped.behind (tested.behind b) in
      let same : last ≡ b =
      evaluating_stays Evaluated step (tested.behind b) ∙ evaluating_stays Valued test b in
      let mid = g.walk.behind (loop b) in
      let c = left_by b mid in
      let ready = start_ready here first (ready_inner around h) in
      let w1 = whole_optional test && (whole_optional step && whole_in body.0) in
      let w2 = whole_optional step && whole_in body.0 in
      let rest = and_right (whole_start first) w1 whole in
      let later = and_right (whole_optional test) w2 rest in
      let s1 = front.sites here in
      let s2 = tested.sites b in
      let s3 = stepped.sites (tested.behind b) in
      let s4 = g.walk.sites (loop last) in
      let of_rest = sites_right G text caller s1 (s2 ++ (s3 ++ s4)) sites in
      let of_later = sites_right G text caller s2 (s3 ++ s4) of_rest in
      let of_step : SitesAt (stepped.sites b) =
      subst (λ (z : Around). SitesAt (stepped.sites z)) (evaluating_stays Valued test b)
      (sites_left G text caller s3 s4 of_later) in
      let of_body : SitesAt (g.walk.sites (loop b)) =
      subst (λ (z : Around). SitesAt (g.walk.sites (loop z))) same
      (sites_right G text caller s3 s4 of_later) in
      let le = start_rises here first in
      let more = body.1.rises (loop b) in
      let start_of = typed_for_start text first here in
      let test_of = typed_optional text b test in
      let step_of = typed_optional text b step in
      let inside = g.typed (loop b) in
      let all : RunsAt here c (statement_of (tree.For start_of test_of step_of inside at)) =
      at_rule here c (opened frames place (tree.For start_of test_of step_of inside at)
      (TypedStatement-F.For start_of test_of step_of inside at)
      (tree.rolls-For start_of test_of step_of inside at))
      (four_runs at here b c le more
      (start_runs here first (ready_inner around h)
      (sites_left G text caller s1 (s2 ++ (s3 ++ s4)) sites)
      (and_left (whole_start first) w1 whole))
      (left_runs at b test ready (sites_left G text caller s2 (s3 ++ s4) of_rest)
      (and_left (whole_optional test) w2 rest))
      (body_runs b body ready of_body (and_right (whole_optional step) (whole_in body.0) later))
      (unused_runs c step (ready_left b mid more ready) (step_at b mid step of_step)
      (and_left (whole_optional step) (whole_in body.0) later))) in
      subst (λ (z : Around). RunsAt around (left_by around (left_by z (g.walk.behind (loop z))))
      (statement_of (tree.For start_of test_of step_of inside at))) (sym same)
      (runs_scoped G around c h.below (runs_inner G around c all))

  for_layer : (first : ForStart) (test step : Option Expression) (body : HeldStatement) (at : ℕ) →
      Part statement_of (grown_layer (Statement-F.For first test step body at))
      (whole_start first && (whole_optional test && (whole_optional step && whole_in body.0)))
  for_layer first test step body at =
      let g = grown_of text body.0 in
      let front = start_walk text first in
      let tested = evaluating Valued test in
      let stepped = evaluating Evaluated step in
      let in_order_of = followed front (followed tested (followed stepped (looped g.walk))) in
      let last_of : (b : Around) → stepped.behind (tested.behind b) ≡ b =
      λ b. evaluating_stays Evaluated step (tested.behind b) ∙ evaluating_stays Valued test b in
      let objects_of : (around : Around) →
      (in_order_of.behind (inner around)).objects
      ≡ (g.walk.behind (loop (front.behind (inner around)))).objects =
      λ around. ap (λ (b : Around). (g.walk.behind (loop b)).objects)
      (last_of (front.behind (inner around))) in
      let rises_of : (around : Around) →
      around.objects ≤ (g.walk.behind (loop (front.behind (inner around)))).objects =
      λ around. two_steps around.objects (front.behind (inner around)).objects
      (g.walk.behind (loop (front.behind (inner around)))).objects
      (start_rises (inner around) first) (body.1.rises (loop (front.behind (inner around)))) in
      record {
        rises = λ around.
            subst (λ n. around.objects ≤ n) (sym (objects_of around)) (rises_of around);
        ready = λ around h.
            ready_left around (in_order_of.behind (inner around))
            (subst (λ n. around.objects ≤ n) (sym (objects_of around)) (rises_of around)) h;
        runs = λ around h sites whole.
            for_runs around first test step body at h sites whole;
      }

  -- a leaf, and what stands before it
  leaf_runs : (origin : ℕ) (around : Around) (h : Head) → HeadFits G h →
      RunsAt around around (core.gives (leaf origin h ∷ []))
  leaf_runs origin around h is =
      runs_gives G around (TreesFit G) (leaf origin h ∷ []) (λ g. (leaf_fits G origin h is, tt))

  leaf_part : (origin : ℕ) (act : Act) (t : Around → TypedStatement) (h : Head) → HeadFits G h →
      ((around : Around) → statement_of (t around) ≡ core.gives (leaf origin h ∷ [])) →
      (whole : Bool) →
      Part statement_of (record { walk = doing act; typed = t }) whole
  leaf_part origin act t h is same whole = record {
    rises = λ around. no_more around.objects;
    ready = λ around ready. ready;
    runs = λ around ready sites so. at_rule around around (same around)
        (leaf_runs origin around h is);
  }

  -- a value is returned by a function that has one
  returned_runs : (around : Around) (value : Option Expression) (at : ℕ) → ReadyAt around →
      SitesAt ((followed (doing (returns at (is_some value))) (evaluating Valued value)).sites
      around) → whole_optional value ≡ true →
      RunsAt around around (statement.returned at frames place (typed_optional text around value))
  returned_runs around None at h sites whole = leaf_runs at around head.Leave tt
  returned_runs around (Some e) at h sites whole =
      let names = around.names in
      let W = world G names in
      let n16 = broken rule.N16 (at_if (agree true (is_void_kind around.result)) at) in
      let not_void : is_void_kind K ≡ false =
      ap is_void_kind (sym h.result) ∙ not_broken rule.N16 (is_void_kind around.result) at
      (none_left n16 [] (none_left (n16 ++ []) [] (none_left (n16 ++ [] ++ []) []
      sites.0.none))) in
      runs_fits G around (fits_then W (λ before. core.gives (before ++ leaf at head.Leave ∷ []))
      (fits_weaker W (λ g. g not_void)
      (initialized_fits G frames text caller at names place (typed_expression text around e)
      (value_rule G frames text caller around e h.functions sites.1.0 whole)))
      (λ before. fits_gives W (TreesFit G) (before ++ leaf at head.Leave ∷ [])
      (λ g. push_fits G before (leaf at head.Leave) g.1 (leaf_fits G at head.Leave tt))))

  -- what stands behind a label
  ready_labeled : (around : Around) → ReadyAt around → ReadyAt (labeled around)
  ready_labeled around h =
      record { functions = h.functions; below = h.below; result = h.result }

  ready_selected : (around : Around) (value : Option Expression) → ReadyAt around →
      ReadyAt (selected text value around)
  ready_selected around None h =
      record { functions = h.functions; below = h.below; result = h.result }
  ready_selected around (Some value) h =
      record { functions = h.functions; below = h.below; result = h.result }

  runs_labeled : (around mid : Around) {rule : core.Rule Trees} →
      RunsAt (labeled around) mid rule → RunsAt around mid rule
  runs_labeled around mid h = record { extends = h.extends; keeps = h.keeps; at = h.at }

  runs_selected : (around mid : Around) (value : Option Expression) {rule : core.Rule Trees} →
      RunsAt (selected text value around) mid rule → RunsAt around mid rule
  runs_selected around mid None h = record { extends = h.extends; keeps = h.keeps; at = h.at }
  runs_selected around mid (Some value) h =
      record { extends = h.extends; keeps = h.keeps; at = h.at }

  abbrev part_of : HeldStatement → Around → Around
  part_of body around = (grown_of text body.0).walk.behind around

  labeled_runs : (around last : Around) (n : ℕ) (body : TypedStatement) (at : ℕ) →
      around.objects ≤ last.objects → RunsAt around last (statement_of body) →
      RunsAt around last (statement_of (tree.Labeled n body at))
  labeled_runs around last n body at le h =
      at_rule around last (opened frames place (tree.Labeled n body at)
      (TypedStatement-F.Labeled n body at) (tree.rolls-Labeled n body at))
      (one_runs around last le h (λ x. labeled_tree at x ∷ [])
      (λ x f. (node_fits G at head.Labeled x tt f, tt)))

  -- a break, by where it goes
  break_runs : (around : Around) (to : Option ℕ) (at : ℕ) →
      RunsAt around around (statement_of (typed_break to at))
  break_runs around None at =
      at_rule around around (opened frames place (tree.Break at) (TypedStatement-F.Break at)
      (tree.rolls-Break at))
      (leaf_runs at around head.Break tt)
  break_runs around (Some n) at =
      at_rule around around (opened frames place (tree.Goto n at) (TypedStatement-F.Goto n at)
      (tree.rolls-Goto n at)) (leaf_runs at around (head.Goto n) tt)

  -- a switch

  selecting_fits : (origin : ℕ) (v : Expr) (choices : List Choice) → IsTyped G.cells v →
      TreesFit G (map (statement.selecting origin v) choices)
  selecting_fits origin v [] h = tt
  selecting_fits origin v (one ∷ choices) h = (
    choice_fits G origin
        (Cmp cmp.Eq (type_of v) v (Const (type_of v) (wrapped (type_of v) one.value)))
        (leaf origin (head.Goto one.label) ∷ []) [] (asked_typed G.cells v one.value h)
        (leaf_fits G origin (head.Goto one.label) tt, tt) tt,
    selecting_fits origin v choices h,
  )

  selected_fits : (origin : ℕ) (names : List Entry) (kept : CoreValued) (choices : List Choice)
      (other : ℕ)
      (inside : Trees) → Good (world G names) kept → TreesFit G inside →
      TreesFit G (kept.statements ++ statement.selected_by origin kept.value choices other inside)
  selected_fits origin names kept choices other inside h f =
      append_fits G kept.statements (statement.selected_by origin kept.value choices other inside)
      h.statements
      (append_fits G (map (statement.selecting origin kept.value) choices)
      (leaf origin (head.Goto other) ∷ (inside ++ leaf origin head.Labeled ∷ []))
      (selecting_fits origin kept.value choices h.value) (
        leaf_fits G origin (head.Goto other) tt,
        push_fits G inside (leaf origin head.Labeled) f (leaf_fits G origin head.Labeled tt),
      ))

  abbrev promoted_value : CoreValued → CoreValued
  promoted_value v = valued v.statements (promote v.value)

  held_runs : (origin : ℕ) (around : Around) (v : CoreValued) →
      Runs G (Returns × Good (world G around.names) v) around around (Good (world G around.names))
      (held origin (promoted_value v))
  held_runs origin around v =
      let W = world G around.names in
      runs_fits G around (fits_weaker W
      (λ g. good W v.statements (promote v.value) g.1.statements
      (conv_typed G.cells v.value (promoted (type_of v.value)) g.1.value))
      (held_fits W origin (promoted_value v)))

  switch_layer : (value : Expression) (body : HeldStatement) (at : ℕ) →
      Part statement_of (grown_layer (Statement-F.Switch value body at))
      (is_whole value && whole_in body.0)
  switch_layer value body at =
      let g = grown_of text body.0 in
      let within = λ (around : Around). switched text value (end_behind g.walk around) around in
      let ready_within : (around : Around) → ReadyAt around → ReadyAt (within around) =
      λ around h. record { functions = h.functions; below = h.below; result = h.result } in
      record {
        rises = λ around. body.1.rises (within around);
        ready = λ around h. record {
          functions = h.functions;
          below = below_higher around.objects (g.walk.behind (within around)).objects
              around.names (body.1.rises (within around)) h.below;
          result = h.result;
        };
        runs = λ around h sites whole.
            let inner_of = within around in
            let mid = g.walk.behind inner_of in
            let last = left_switch around mid in
            let le = body.1.rises inner_of in
            let typed = typed_expression text around value in
            let choices = mid.choices in
            let end = end_behind g.walk around in
            let other = unwrap_or mid.otherwise end in
            let inside = g.typed inner_of in
            let rule = statement_of inside in
            let body_runs_so : RunsAt around last rule =
            runs_switch G around inner_of mid refl refl h.below
            (body.1.runs inner_of (ready_within around h) sites.1
            (and_right (is_whole value) (whole_in body.0) whole)) in
            let made = λ (kept : CoreValued) (x : Trees). kept.statements
            ++ statement.selected_by at kept.value choices other x in
            at_rule around last (opened frames place (tree.Switch typed choices other inside end at)
            (TypedStatement-F.Switch typed choices other inside end at)
            (tree.rolls-Switch typed choices other inside end at))
            (tested_runs around last value
            (λ v. core.then_by (held at (promoted_value v)) (λ kept. core.then_by rule
            (λ x. core.gives (made kept x)))) h sites.0
            (and_left (is_whole value) (whole_in body.0) whole) le
            (λ v. runs_then G around around last
            (λ kept. core.then_by rule (λ x. core.gives (made kept x))) (no_more around.objects) le
            (held_runs at around v)
            (λ kept. runs_then G around last last (λ x. core.gives (made kept x)) le
            (no_more last.objects) (runs_weaker G (λ g. g.0.0) body_runs_so)
            (λ x. runs_gives G last (TreesFit G) (made kept x)
            (λ g. selected_fits at around.names kept choices other x g.0.1 g.1)))));
      }

  layer : (y : Statement-F HeldItem HeldStatement) →
      Part statement_of (grown_layer y) (whole_layer y)
  layer (Statement-F.Block held at) =
      let items = map (λ (e : HeldItem). e.0) held in
      let all = all_held held in record {
        rises = λ around. items_rise items all (inner around);
        ready = λ around h. ready_left around ((items_walk items).behind (inner around))
            (items_rise items all (inner around)) h;
        runs = λ around h sites whole.
            let mid = (items_walk items).behind (inner around) in
            let typed = items_typed items (inner around) in
            runs_scoped G around mid h.below (runs_inner G around mid
            (at_rule (inner around) mid (opened frames place (tree.Block typed at)
            (TypedStatement-F.Block typed at) (tree.rolls-Block typed at))
            (one_runs (inner around) mid (items_rise items all (inner around))
            (items_run items all (inner around) (ready_inner around h) sites whole)
            (λ x. block at x ∷ []) (λ x f. (block_fits G at x f, tt)))));
      }
  layer (Statement-F.Expression e at) = record {
    rises = λ around.
        subst (λ (b : Around). around.objects ≤ b.objects)
        (sym (evaluating_stays Evaluated e around)) (no_more around.objects);
    ready = λ around h. subst ReadyAt (sym (evaluating_stays Evaluated e around)) h;
    runs = λ around h sites whole.
        let typed = typed_optional text around e in
        subst (λ (b : Around). RunsAt around b (statement_of (tree.Expression typed at)))
        (sym (evaluating_stays Evaluated e around))
        (at_rule around around (opened frames place (tree.Expression typed at)
        (TypedStatement-F.Expression typed at) (tree.rolls-Expression typed at))
        (unused_runs around e h sites whole));
  }
  layer (Statement-F.If test first None at) = if_layer test first at
  layer (Statement-F.If test first (Some second) at) = else_layer test first second at
  layer (Statement-F.While test body at) = while_layer test body at
  layer (Statement-F.Do body test at) = do_layer test body at
  layer (Statement-F.For first test step body at) = for_layer first test step body at
  layer (Statement-F.Goto label at) =
      record {
        rises = λ around. no_more around.objects;
        ready = λ around h. h;
        runs = λ around h sites whole.
            let n = label_number around label in
            at_rule around around (opened frames place (tree.Goto n at) (TypedStatement-F.Goto n at)
            (tree.rolls-Goto n at)) (leaf_runs at around (head.Goto n) tt);
      }
  layer (Statement-F.Switch value body at) = switch_layer value body at
  layer (Statement-F.Case value body at) = record {
    rises = λ around. body.1.rises (selected text (Some value) around);
    ready = λ around h.
        body.1.ready (selected text (Some value) around) (ready_selected around (Some value) h);
    runs = λ around h sites whole.
        let after = selected text (Some value) around in
        labeled_runs around (part_of body after) around.passed ((grown_of text body.0).typed after)
        at (body.1.rises after) (runs_selected around (part_of body after) (Some value)
        (body.1.runs after (ready_selected around (Some value) h) sites.1
        (and_right (is_whole value) (whole_in body.0) whole)));
  }
  layer (Statement-F.Default body at) = record {
    rises = λ around. body.1.rises (selected text None around);
    ready = λ around h. body.1.ready (selected text None around) (ready_selected around None h);
    runs = λ around h sites whole.
        let after = selected text None around in
        labeled_runs around (part_of body after) around.passed ((grown_of text body.0).typed after)
        at (body.1.rises after) (runs_selected around (part_of body after) None
        (body.1.runs after (ready_selected around None h) sites.1 whole));
  }
  layer (Statement-F.Break at) = record {
    rises = λ around. no_more around.objects;
    ready = λ around h. h;
    runs = λ around h sites whole. break_runs around around.break_to at;
  }
  layer (Statement-F.Continue at) =
      leaf_part at (continues at) (λ around. tree.Continue at) head.Continue tt
      (λ around. opened frames place (tree.Continue at) (TypedStatement-F.Continue at)
      (tree.rolls-Continue at))
      true
  layer (Statement-F.Return value at) = record {
    rises = λ around.
        subst (λ (b : Around). around.objects ≤ b.objects)
        (sym (evaluating_stays Valued value around)) (no_more around.objects);
    ready = λ around h. subst ReadyAt (sym (evaluating_stays Valued value around)) h;
    runs = λ around h sites whole.
        let typed = typed_optional text around value in
        subst (λ (b : Around). RunsAt around b (statement_of (tree.Return typed at)))
        (sym (evaluating_stays Valued value around))
        (at_rule around around (opened frames place (tree.Return typed at)
        (TypedStatement-F.Return typed at) (tree.rolls-Return typed at))
        (returned_runs around value at h sites whole));
  }
  layer (Statement-F.Labeled label body) = record {
    rises = λ around. body.1.rises (labeled around);
    ready = λ around h. body.1.ready (labeled around) (ready_labeled around h);
    runs = λ around h sites whole.
        let after = labeled around in
        labeled_runs around (part_of body after) around.passed ((grown_of text body.0).typed after)
        label.place (body.1.rises after) (runs_labeled around (part_of body after)
        (body.1.runs after (ready_labeled around h) sites.1 whole));
  }

  item_layer : (y : BlockItem-F HeldItem HeldStatement) →
      Part item_of (grown_item text (map-BlockItem BlockItem Statement (Grown TypedItem)
      (Grown TypedStatement) (grown text) (grown_of text) (bare_item y)))
      (whole_item_layer (map-BlockItem BlockItem Statement Bool Bool whole_block_item whole_in
      (bare_item y)))
  item_layer (BlockItem-F.Declaration declaration) =
      record {
        rises = λ around. declaration_rises G frames text caller K around declaration;
        ready = λ around h. declaration_ready G frames text caller K around declaration h;
        runs = λ around h sites whole.
            let typed = typed_declaration text declaration around in
            let last = (declaration_walk text declaration).behind around in
            at_rule around last (opened_item frames place (typed_item.Declaration typed)
            (TypedItem-F.Declaration typed) (typed_item.rolls-Declaration typed))
            (runs_weaker G (λ g. tt)
            (declaration_runs G frames text caller K around declaration h sites whole));
      }
  item_layer (BlockItem-F.Statement s) =
      let g = grown_of text s.0 in record {
        rises = λ around. s.1.rises around;
        ready = λ around h. s.1.ready around h;
        runs = λ around h sites whole.
            let last = g.walk.behind around in
            at_rule around last (opened_item frames place (typed_item.Statement (g.typed around))
            (TypedItem-F.Statement (g.typed around)) (typed_item.rolls-Statement (g.typed around)))
            (s.1.runs around h sites whole);
      }

  at_statement : (y : Statement-F HeldItem HeldStatement) (x : Statement-F BlockItem Statement) →
      bare y ≡ x → StatementRuns (roll-Statement x)
  at_statement y x is =
      subst (λ (z : Statement-F BlockItem Statement). StatementRuns (roll-Statement z)) is
      (subst (λ (g : Grown TypedStatement). Part statement_of g
      (whole_in (roll-Statement (bare y))))
      (sym (open_grown_statement text (bare y)))
      (subst (λ (b : Bool). Part statement_of (grown_layer y) b) (sym (open_whole (bare y)))
      (layer y)))

  at_item : (y : BlockItem-F HeldItem HeldStatement) (x : BlockItem-F BlockItem Statement) →
      bare_item y ≡ x → ItemRuns (roll-BlockItem x)
  at_item y x is =
      subst (λ (z : BlockItem-F BlockItem Statement). ItemRuns (roll-BlockItem z)) is
      (subst (λ (g : Grown TypedItem). Part item_of g (whole_block_item (roll-BlockItem
      (bare_item y)))) (sym (open_grown_item text (bare_item y)))
      (subst (λ (b : Bool). Part item_of (grown_item text (map-BlockItem BlockItem Statement
      (Grown TypedItem) (Grown TypedStatement) (grown text) (grown_of text) (bare_item y))) b)
      (sym (open_whole_item (bare_item y))) (item_layer y)))

  pub item_runs : (item : BlockItem) → ItemRuns item
  item_runs =
      ind-BlockItem ItemRuns StatementRuns (λ x y is. at_item y x is)
      (λ x y is. at_statement y x is)

  pub all_run : (items : List BlockItem) → AllByRecursion ItemRuns items
  all_run [] = tt
  all_run (item ∷ items) = (item_runs item, all_run items)
