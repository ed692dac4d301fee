-- From answers on what a token opens to an answer on the whole.
use Rattle.std.specs.Prelude.{◌≡◌, ℕ, ◌+◌, ◌<◌, true, false, List, length, None, Some, Result}
use Rattle.std.proofs.Common.{sym, subst, arith, refl}
use Rattle.c_grammar_forms.specs.declared.fault.ReadError.{ReadError}
use Rattle.c_grammar_forms.specs.Forms.{Nothing, Such, Deeper}
use Rattle.c_grammar_forms.specs.Reading.{Reads, NoneThrough, Answers}
use Rattle.c_grammar_forms.specs.lemmas.Found.{reads_one, reads_such, reads_node, reads_skip}
use Rattle.c_grammar_forms.specs.lemmas.NotFound.{none_node, none_skip, none_nothing}
use Rattle.c_grammar_symbols.specs.declared.words.Terminal.{Terminal}
use Rattle.c_grammar_symbols.specs.declared.words.Terminal.TheVariants as terminal
use Rattle.c_grammar_symbols.specs.Symbols.{Leaf, symbol_of}
use Rattle.c_grammar_symbols.specs.Sources.{leaf_at, is, Takes}
use Rattle.c_grammar_tree.specs.declared.name.Name.{Name}
use Rattle.c_grammar_tree.specs.declared.expression.Expression.{Expression}
use Rattle.c_grammar_tree.specs.declared.statement.Statement.{Statement}
use Rattle.c_grammar_tree.specs.declared.statement.Statement.TheVariants as node
use Rattle.c_grammar_tree.specs.declared.TheConstants.{MAX_LEVEL}
use Rattle.c_grammar_tree.specs.Parts.{bare_name}
use Rattle.c_grammar_tree.specs.Grammar.{grammar}
use Rattle.c_grammar_tree.specs.Statements.{behind_comma_at, statement_at, statement}
use Rattle.c_grammar_forms.specs.lemmas.Exits.{answers_with}
use Rattle.c_grammar_forms.specs.lemmas.Choices.{Same, reads_arm, none_arm}
use Rattle.c_parser_statements.specs.declared.kinds.StatementKind.{StatementKind}
use Rattle.c_parser_statements.specs.Kinds.{kind_of, opener}
use Rattle.c_parser_statements.specs.Forms.{begun, behind_comma}
use Rattle.c_parser_statements.proofs.Arms.{arm_kind, label_form, arm_label, arm_no_label}
use Rattle.c_parser_statements.proofs.Arms.{arm_semicolon}
use Rattle.c_parser_statements.proofs.Arms.{arm_neither}

module _ (leaves : List Leaf) (left p : ℕ) where
  same_kind : (k : StatementKind) → kind_of (symbol_of (leaf_at leaves p)) ≡ k → (n : ℕ) →
      Same (statement_at (grammar n) (symbol_of (leaf_at leaves p)))
      (statement_at (grammar n) (opener k))
  same_kind k e n = subst (λ j. Same (statement_at (grammar n) (symbol_of (leaf_at leaves p)))
      (statement_at (grammar n) (opener j))) e
      (arm_kind (grammar n) (symbol_of (leaf_at leaves p)))

  -- the answer on the statement of the kind that begins here is the answer on the statement
  pub by_kind : (k : StatementKind) → kind_of (symbol_of (leaf_at leaves p)) ≡ k →
      (answer : Result (Statement × ℕ) ReadError) →
      Answers MAX_LEVEL (λ n. statement_at (grammar n) (opener k)) (leaf_at leaves)
      (length leaves) left p answer →
      Answers MAX_LEVEL (λ n. statement (grammar n)) (leaf_at leaves) (length leaves) left p answer
  unfolding statement
  by_kind k e answer a =
      answers_with MAX_LEVEL answer (λ u q r. reads_arm symbol_of (λ n. statement_at (grammar n))
      (same_kind k e) r)
      (λ i g. none_arm symbol_of (λ n. statement_at (grammar n)) (same_kind k e) g) a

  -- the terminal alone
  pub reads_taken : {t : Terminal} {q : ℕ} → Takes leaves p t q →
      Reads (λ n. Such (is t)) (leaf_at leaves) (length leaves) left p tt q
  reads_taken {t} takes =
      subst (λ k. Reads (λ n. Such (is t)) (leaf_at leaves) (length leaves) left p tt k)
      (sym takes.behind_it)
      (reads_such (is t) takes.passes (omega (arith, takes.behind_it, takes.within)))

  module _ (place : ℕ) (made : Expression) where
    -- a name labels a statement
    module _ (label : Name) (named : bare_name made ≡ Some label)
        (colon : is terminal.Colon (leaf_at leaves p) ≡ true) where
      same_label : (n : ℕ) → Same (behind_comma_at (grammar n) (bare_name made)
          (symbol_of (leaf_at leaves p))) (label_form label (grammar n))
      same_label n = subst (λ o. Same (behind_comma_at (grammar n) o (symbol_of (leaf_at leaves p)))
          (label_form label (grammar n))) (sym named)
          (arm_label (grammar n) label (symbol_of (leaf_at leaves p)) colon)

      pub reads_label : {body : Statement} {q : ℕ} →
          Reads (λ n. Deeper ((grammar n).statement)) (leaf_at leaves) (length leaves) left
          (p + 1) body q →
          Reads (λ n. behind_comma place made (grammar n)) (leaf_at leaves) (length leaves) left p
          (node.Labeled label body) q
      reads_label r = reads_node (λ leaf end. begun place made end) refl
          (reads_arm symbol_of (λ n. behind_comma_at (grammar n) (bare_name made)) same_label
          (reads_node (λ leaf inner. Some (label, inner)) refl (reads_skip r)))

      pub none_label : {i : ℕ} → NoneThrough (λ n. Deeper ((grammar n).statement)) (leaf_at leaves)
          (length leaves) left (p + 1) i →
          NoneThrough (λ n. behind_comma place made (grammar n)) (leaf_at leaves)
          (length leaves) left p i
      none_label g = none_node (λ leaf end. begun place made end)
          (none_arm symbol_of (λ n. behind_comma_at (grammar n) (bare_name made)) same_label
          (none_node (λ leaf inner. Some (label, inner)) (none_skip g)))

    -- what is no name labels none
    pub none_unlabeled : bare_name made ≡ None → is terminal.Colon (leaf_at leaves p) ≡ true →
        p < length leaves →
        NoneThrough (λ n. behind_comma place made (grammar n)) (leaf_at leaves)
        (length leaves) left p p
    none_unlabeled unnamed colon fits = none_node (λ leaf end. begun place made end)
        (none_arm symbol_of (λ n. behind_comma_at (grammar n) (bare_name made))
        (λ n. subst (λ o. Same (behind_comma_at (grammar n) o (symbol_of (leaf_at leaves p)))
        Nothing) (sym unnamed)
        (arm_no_label (grammar n) (symbol_of (leaf_at leaves p)) colon)) (none_nothing fits))

    -- the expression alone
    pub reads_alone : {q : ℕ} → Takes leaves p terminal.Semicolon q →
        Reads (λ n. behind_comma place made (grammar n)) (leaf_at leaves) (length leaves) left p
        (node.Expression (Some made) place) q
    reads_alone {q} takes =
        subst (λ k. Reads (λ n. behind_comma place made (grammar n)) (leaf_at leaves)
        (length leaves) left p (node.Expression (Some made) place) k)
        (sym takes.behind_it)
        (reads_node (λ leaf end. begun place made end) refl
        (reads_arm symbol_of (λ n. behind_comma_at (grammar n) (bare_name made))
        (λ n. arm_semicolon (grammar n) (bare_name made)
        (symbol_of (leaf_at leaves p)) takes.passes)
        (reads_node (λ leaf u. None) refl (reads_one
        (omega (arith, takes.behind_it, takes.within))))))

    pub none_alone : is terminal.Colon (leaf_at leaves p) ≡ false →
        is terminal.Semicolon (leaf_at leaves p) ≡ false → p < length leaves →
        NoneThrough (λ n. behind_comma place made (grammar n)) (leaf_at leaves)
        (length leaves) left p p
    none_alone no_colon no_semicolon fits = none_node (λ leaf end. begun place made end)
        (none_arm symbol_of (λ n. behind_comma_at (grammar n) (bare_name made))
        (λ n. arm_neither (grammar n) (bare_name made)
        (symbol_of (leaf_at leaves p)) no_colon no_semicolon) (none_nothing fits))
