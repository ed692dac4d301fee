-- What is read behind specifiers and a name that are read already, made into an item.
use Rattle.std.specs.Prelude.{◌≡◌, ℕ, ◌+◌, ◌<◌, ◌≤◌, Bool, true, false, not, ◌&&◌, List, [], ◌∷◌}
use Rattle.std.specs.Prelude.{length, None}
use Rattle.std.specs.Prelude.{Some, refl}
use Rattle.std.proofs.Common.{sym, ◌∙◌, ap, subst, arith}
use Rattle.c_grammar_forms.specs.Forms.{World, Form, Node, Pair, Then, Before, Choice}
use Rattle.c_grammar_forms.specs.lemmas.Steady.{Steady, good_node, from_place, ends_or_goes}
use Rattle.c_grammar_forms.specs.lemmas.Steady.{test_path}
use Rattle.c_grammar_forms.specs.Reading.{Reads, Begins, NoneThrough}
use Rattle.c_grammar_forms.specs.lemmas.Found.{reads_node, reads_one}
use Rattle.c_grammar_forms.specs.lemmas.NotFound.{only, none_node, none_before, none_first}
use Rattle.c_grammar_forms.specs.lemmas.NotFound.{none_then_first}
use Rattle.c_grammar_forms.specs.lemmas.Choices.{Same, none_arm}
use Rattle.c_grammar_symbols.specs.declared.words.Terminal.TheVariants as terminal
use Rattle.c_grammar_symbols.specs.Symbols.{Leaf, symbol_of}
use Rattle.c_grammar_symbols.specs.Sources.{leaf_at, is, Takes}
use Rattle.c_grammar_tree.specs.declared.name.Name.{Name}
use Rattle.c_grammar_tree.specs.declared.declaration.Specifiers.{Specifiers}
use Rattle.c_grammar_tree.specs.declared.declaration.Declarator.{Declarator}
use Rattle.c_grammar_tree.specs.declared.item.Item.{Item}
use Rattle.c_grammar_tree.specs.declared.item.Item.TheVariants as node
use Rattle.c_grammar_tree.specs.Grammar.{grammar}
use Rattle.c_grammar_tree.specs.Parts.{is_name, is_listed}
use Rattle.c_grammar_tree.specs.Declarations.{identifier, declarator_of, declarator_rest}
use Rattle.c_grammar_tree.specs.Declarations.{more_declarators}
use Rattle.c_grammar_tree.specs.Items.{objects, declared_of, named_at, declared_at}
use Rattle.c_parser_declarations.specs.Forms.{declarator_behind, declarators_behind}
use Rattle.c_parser_declarations.specs.lemmas.Readers.{reads_made, none_made, reads_then_onto}
use Rattle.c_parser_declarations.specs.lemmas.Readers.{none_then_onto}
use Rattle.c_parser.specs.Forms.{item_named, item_behind}
use Rattle.c_parser.proofs.Arms.{Leads, arm_objects, arm_alone, arm_named, only_named}
use Rattle.c_parser.proofs.Steadies.{steady_identifier, steady_rest, steady_both}

-- of what is made of a form, the form's place is known
module _ {Token S T : Type 0} (f : Token → S → T) {A : ℕ → Form Token S} {at : ℕ → Token}
    {size left p m : ℕ} {a : T}
    (steady : Steady A) (r : Reads (λ n. Node f (A n)) at size left p a m) where
  steady_made : Steady (λ n. Node f (A n))
  steady_made = record { good = λ n k. good_node f (steady.good n k) }

  same_place : {i n : ℕ} {v : World Token} → m ≤ i → Begins at i v → (s : S) (k : ℕ) →
      A n v left p s k → m ≡ k
  same_place {v = v} below b s k x =
      (only {at = at} steady_made r below b (record { parts = s; read = x; made = refl })).1

  -- no second part
  pub none_second_made : {U : Type 0} {B : ℕ → Form Token U} {i : ℕ} →
      NoneThrough B at size left m i →
      NoneThrough (λ n. Pair (A n) (B n)) at size left p i
  none_second_made {B = B} g = record {
    onward = omega (arith, r.onward, g.onward);
    within = g.within;
    none = λ n v b u q x. g.none n v b u.1 q (from_place (B n)
        (same_place g.onward b u.0 x.middle x.first) x.second);
  }

  -- no token behind it that passes the test
  pub none_before_made : (test : Token → Bool) → test (at m) ≡ false →
      NoneThrough (λ n. Before (A n) test) at size left p m
  none_before_made test fails = record {
    onward = r.onward;
    within = r.within;
    none = λ n v b u q x.
        ends_or_goes (test_path test (b.tokens m (omega arith)) fails)
        (subst (λ k. test (v.at k) ≡ true) (sym (same_place (omega arith) b u x.middle x.first))
        x.passes);
  }

-- where nothing can be made of a form, the form is not there
pub none_unmade : {Token S T : Type 0} (f : Token → S → T) {A : ℕ → Form Token S} {at : ℕ → Token}
    {size left p i : ℕ} →
    NoneThrough (λ n. Node f (A n)) at size left p i → NoneThrough A at size left p i
none_unmade f {p = p} g = record {
  onward = g.onward;
  within = g.within;
  none = λ n v b u q r. g.none n v b (f (v.at p) u) q (record { parts = u; read = r; made = refl });
}

-- under what is made, the form that the token calls for
module _ {Token K S T : Type 0} (f : Token → S → T) (class : Token → K) (A : ℕ → K → Form Token S)
    {B : ℕ → Form Token S}
    {at : ℕ → Token} {size left p : ℕ} where
  pub reads_under : ((n : ℕ) → Same (A n (class (at p))) (B n)) → {u : T} {q : ℕ} →
      Reads (λ n. Node f (B n)) at size left p u q →
      Reads (λ n. Node f (Choice class (A n))) at size left p u q
  reads_under same r = record {
    reading = λ edge. let x = r.reading edge in
        record {
          parts = x.parts;
          read = record { chosen = (same left).back x.read };
          made = x.made;
        };
    onward = r.onward;
    within = r.within;
  }

  pub none_under : ((n : ℕ) → Leads (A n (class (at p))) (B n)) → {i : ℕ} →
      NoneThrough (λ n. Node f (B n)) at size left p i →
      NoneThrough (λ n. Node f (Choice class (A n))) at size left p i
  none_under leads g = record {
    onward = g.onward;
    within = g.within;
    none = λ n v b u q r. g.none n v b u q
        (record {
          parts = r.parts;
          read = (leads n).to (subst (λ c. A n c v left p r.parts q)
              (ap class (b.tokens p g.onward)) r.read.chosen);
          made = r.made;
        });
  }

module _ (leaves : List Leaf) (left p : ℕ) (front : Specifiers) where
  -- objects
  module _ (name : Name)
      (e : (not (is_listed front.enumeration) && is terminal.LeftParen (leaf_at leaves p)) ≡ false)
    where
      pub none_objects_first : {i : ℕ} → NoneThrough (λ n. declarator_behind name (grammar n))
          (leaf_at leaves) (length leaves) left p i →
          NoneThrough (λ n. item_named front name (grammar n)) (leaf_at leaves)
          (length leaves) left p i
      none_objects_first g = none_node (λ leaf found. declared_of front (Some (name, found)))
          (none_arm symbol_of (λ n. named_at (grammar n) (is_listed front.enumeration) name)
          (λ n. arm_objects (grammar n) (is_listed front.enumeration) name
          (symbol_of (leaf_at leaves p)) e)
          (none_node (λ leaf parts. objects parts.0 parts.1)
          (none_before (is terminal.Semicolon) (none_first (λ n. more_declarators (grammar n))
          (none_unmade (λ leaf rest. declarator_of (name, rest)) g)))))

      module _ (first : Declarator) (m : ℕ)
          (r : Reads (λ n. declarator_behind name (grammar n)) (leaf_at leaves)
          (length leaves) left p first m) where
        pub none_objects_more : {i : ℕ} → NoneThrough (λ n. declarators_behind first (grammar n))
            (leaf_at leaves) (length leaves) left m i →
            NoneThrough (λ n. item_named front name (grammar n)) (leaf_at leaves)
            (length leaves) left p i
        none_objects_more g = none_node (λ leaf found. declared_of front (Some (name, found)))
            (none_arm symbol_of (λ n. named_at (grammar n) (is_listed front.enumeration) name)
            (λ n. arm_objects (grammar n) (is_listed front.enumeration) name
            (symbol_of (leaf_at leaves p)) e)
            (none_node (λ leaf parts. objects parts.0 parts.1) (none_before (is terminal.Semicolon)
            (none_second_made (λ leaf rest. declarator_of (name, rest)) steady_rest r
            (none_unmade (λ leaf more. first ∷ more) g)))))

        module _ (all : List Declarator) (k : ℕ)
            (s : Reads (λ n. declarators_behind first (grammar n)) (leaf_at leaves)
            (length leaves) left m all k) where
          -- the declarators, made of what stands behind the name
          reads_all : Reads (λ n. Node (λ leaf parts. declarator_of (name, parts.0) ∷ parts.1)
              (Pair (declarator_rest (grammar n)) (more_declarators (grammar n)))) (leaf_at leaves)
              (length leaves) left p all k
          reads_all = record {
            reading = λ edge.
                let x = r.reading edge in
                let y = s.reading edge in
                record {
                  parts = (x.parts, y.parts);
                  read = record { middle = m; first = x.read; second = y.read };
                  made = y.made ∙ ap (λ d. d ∷ y.parts) x.made;
                };
            onward = omega (arith, r.onward, s.onward);
            within = s.within;
          }

          pub none_objects_end : is terminal.Semicolon (leaf_at leaves k) ≡ false →
              NoneThrough (λ n. item_named front name (grammar n)) (leaf_at leaves)
              (length leaves) left p k
          none_objects_end fails = none_node (λ leaf found. declared_of front (Some (name, found)))
              (none_arm symbol_of (λ n. named_at (grammar n) (is_listed front.enumeration) name)
              (λ n. arm_objects (grammar n) (is_listed front.enumeration) name
              (symbol_of (leaf_at leaves p)) e)
              (none_node (λ leaf parts. objects parts.0 parts.1)
              (none_before_made (λ leaf parts. declarator_of (name, parts.0) ∷
              parts.1) steady_both reads_all (is terminal.Semicolon) fails)))

          pub reads_objects : {q : ℕ} → Takes leaves k terminal.Semicolon q →
              Reads (λ n. item_named front name (grammar n)) (leaf_at leaves) (length leaves) left p
              (node.Objects (record { specifiers = front; declarators = all })) q
          reads_objects takes = reads_under (λ leaf found. declared_of front (Some (name, found)))
              symbol_of (λ n. named_at (grammar n) (is_listed front.enumeration) name)
              (λ n. arm_objects (grammar n) (is_listed front.enumeration) name
              (symbol_of (leaf_at leaves p)) e)
              (record {
                reading = λ edge. let x = reads_all.reading edge in
                    record {
                      parts = objects x.parts.0 x.parts.1;
                      read = record {
                        parts = x.parts;
                        read = record {
                          middle = k;
                          first = x.read;
                          passes = takes.passes;
                          behind = takes.behind_it;
                        };
                        made = refl;
                      };
                      made = λ i. node.Objects (record {
                        specifiers = front;
                        declarators =
                            x.made i;
                      });
                    };
                onward = omega (arith, r.onward, s.onward, takes.behind_it);
                within = takes.within;
              })

  -- specifiers alone
  pub reads_bare : is terminal.Semicolon (leaf_at leaves p) ≡ true → p + 1 < length leaves →
      Reads (λ n. item_behind front (grammar n)) (leaf_at leaves) (length leaves) left p
      (node.Objects (record { specifiers = front; declarators = [] })) (p + 1)
  reads_bare e fits =
      reads_under (λ leaf found. declared_of front found) symbol_of
      (λ n. declared_at (grammar n) (is_listed front.enumeration))
      (λ n. arm_alone (grammar n) (is_listed front.enumeration) (symbol_of (leaf_at leaves p)) e)
      (reads_node (λ leaf found. declared_of front found) refl
      (reads_node (λ leaf u. None) refl (reads_one fits)))

  -- no name
  pub none_name : is terminal.Semicolon (leaf_at leaves p) ≡ false → {i : ℕ} →
      NoneThrough (λ n. identifier) (leaf_at leaves) (length leaves) left p i →
      NoneThrough (λ n. item_behind front (grammar n)) (leaf_at leaves) (length leaves) left p i
  none_name e g =
      none_under (λ leaf found. declared_of front found) symbol_of
      (λ n. declared_at (grammar n) (is_listed front.enumeration))
      (λ n. only_named (grammar n) (is_listed front.enumeration) (symbol_of (leaf_at leaves p)) e)
      (none_node (λ leaf found. declared_of front found) (none_node (λ leaf parts. Some parts)
      (none_then_first (λ n name. Choice symbol_of
      (named_at (grammar n) (is_listed front.enumeration) name)) g)))

  -- a name
  module _ (name : Name) (m : ℕ) (r : Reads (λ n. identifier) (leaf_at leaves)
      (length leaves) left p name m) where
    here_name : is_name (leaf_at leaves p) ≡ true
    unfolding identifier
    here_name = (r.reading 0).read.passes

    pub reads_named : {u : Item} {q : ℕ} → Reads (λ n. item_named front name (grammar n))
        (leaf_at leaves) (length leaves) left m u q →
        Reads (λ n. item_behind front (grammar n)) (leaf_at leaves) (length leaves) left p u q
    reads_named s =
        reads_under (λ leaf found. declared_of front found) symbol_of
        (λ n. declared_at (grammar n) (is_listed front.enumeration))
        (λ n. arm_named (grammar n) (is_listed front.enumeration)
        (symbol_of (leaf_at leaves p)) here_name)
        (reads_made (λ leaf found. declared_of front found) (λ leaf parts. Some parts)
        (λ leaf parts. declared_of front (Some parts))
        (λ n. Then identifier (λ found. Choice symbol_of
        (named_at (grammar n) (is_listed front.enumeration) found)))
        (λ parts. refl)
        (reads_then_onto (λ leaf parts. declared_of front (Some parts))
        (λ leaf found. declared_of front (Some (name, found)))
        (λ n found. Choice symbol_of (named_at (grammar n) (is_listed front.enumeration) found))
        (λ found. refl) r s))

    pub none_named : is terminal.Semicolon (leaf_at leaves p) ≡ false → {i : ℕ} →
        NoneThrough (λ n. item_named front name (grammar n)) (leaf_at leaves)
        (length leaves) left m i →
        NoneThrough (λ n. item_behind front (grammar n)) (leaf_at leaves) (length leaves) left p i
    none_named e g =
        none_under (λ leaf found. declared_of front found) symbol_of
        (λ n. declared_at (grammar n) (is_listed front.enumeration))
        (λ n. only_named (grammar n) (is_listed front.enumeration) (symbol_of (leaf_at leaves p)) e)
        (none_made (λ leaf found. declared_of front found) (λ leaf parts. Some parts)
        (λ leaf parts. declared_of front (Some parts))
        (λ n. Then identifier (λ found. Choice symbol_of
        (named_at (grammar n) (is_listed front.enumeration) found)))
        (none_then_onto (λ leaf parts. declared_of front (Some parts))
        (λ leaf found. declared_of front (Some (name, found)))
        (λ n found. Choice symbol_of (named_at (grammar n) (is_listed front.enumeration) found))
        steady_identifier r g))
