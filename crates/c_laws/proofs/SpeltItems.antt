-- Items are spelled by their trees, and so is a text.
use Rattle.std.specs.Prelude.{◌≡◌, ℕ, ◌+◌, ◌-◌, ◌<◌, Bool, true, false, not, ◌&&◌, List, [], ◌∷◌}
use Rattle.std.specs.Prelude.{◌++◌}
use Rattle.std.specs.Prelude.{Option, None, Some, refl}
use Rattle.std.proofs.Common.{sym, ◌∙◌, ap, subst}
use Rattle.c_grammar_forms.specs.Forms.{World, Form, Skip, Before, Pair, Then, Node, Choice}
use Rattle.c_grammar_forms.specs.Forms.{Many, ManySeen, Perhaps}
use Rattle.c_grammar_symbols.specs.declared.words.Terminal.TheVariants as terminal
use Rattle.c_grammar_symbols.specs.declared.words.TypeWord.TheVariants as word
use Rattle.c_grammar_symbols.specs.declared.operators.AssignmentOperator.TheVariants as assign
use Rattle.c_grammar_symbols.specs.declared.operators.BinaryOperator.TheVariants as binary
use Rattle.c_grammar_symbols.specs.declared.symbol.Symbol.{Symbol}
use Rattle.c_grammar_symbols.specs.declared.symbol.Symbol.TheVariants as symbol
use Rattle.c_grammar_symbols.specs.Symbols.{Leaf, symbol_of}
use Rattle.c_grammar_symbols.specs.Sources.{is, is_terminal}
use Rattle.c_grammar_tree.specs.declared.name.Name.{Name}
use Rattle.c_grammar_tree.specs.declared.declaration.Array.{Array}
use Rattle.c_grammar_tree.specs.declared.declaration.Declarator.{Declarator}
use Rattle.c_grammar_tree.specs.declared.declaration.Initializer.{Initializer}
use Rattle.c_grammar_tree.specs.declared.declaration.Specifier.{Specifier}
use Rattle.c_grammar_tree.specs.declared.declaration.SpecifierKind.{SpecifierKind}
use Rattle.c_grammar_tree.specs.declared.declaration.SpecifierKind.TheVariants as kind
use Rattle.c_grammar_tree.specs.declared.declaration.Enumeration.{Enumeration}
use Rattle.c_grammar_tree.specs.declared.declaration.Specifiers.{Specifiers}
use Rattle.c_grammar_tree.specs.declared.item.Body.{Body}
use Rattle.c_grammar_tree.specs.declared.item.Body.TheVariants as body
use Rattle.c_grammar_tree.specs.declared.item.Item.TheVariants as node
use Rattle.c_grammar_tree.specs.declared.item.Parameter.{Parameter}
use Rattle.c_grammar_tree.specs.declared.item.Parameters.{Parameters}
use Rattle.c_grammar_tree.specs.declared.item.Parameters.TheVariants as parameters
use Rattle.c_grammar_tree.specs.Parts.{is_not, is_end, ends, names, points, have_char, specifies}
use Rattle.c_grammar_tree.specs.Parts.{is_specifier, begins_declared, specifies_in_typedef}
use Rattle.c_grammar_tree.specs.Parts.{is_listed}
use Rattle.c_grammar_tree.specs.Nested.{Grammar}
use Rattle.c_grammar_tree.specs.Declarations.{specifier_at, keywords, declared_type, specifiers}
use Rattle.c_grammar_tree.specs.Declarations.{tag, enumeration}
use Rattle.c_grammar_tree.specs.Declarations.{attribute, attributes}
use Rattle.c_grammar_tree.specs.Declarations.{declarator_rest, more_declarators}
use Rattle.c_grammar_tree.specs.Items.{is_known, points_or_not, parameter, is_void, is_only_void}
use Rattle.c_grammar_tree.specs.Items.{parameters_of, parameter_list, function_rest, have_pointer}
use Rattle.c_grammar_tree.specs.Items.{skipped_body, closing_brace, closed_items, body_of}
use Rattle.c_grammar_tree.specs.Items.{function_end_at, Named, function}
use Rattle.c_grammar_tree.specs.Items.{objects}
use Rattle.c_grammar_tree.specs.Items.{named_at, declared_of, declared_at, unit_item_at, unit_item}
use Rattle.c_grammar_tree.specs.Items.{typedef_name, typedef_names, seen_behind, unit_items_behind}
use Rattle.c_grammar_tree.specs.Items.{unit_items}
use Rattle.c_grammar_tree.specs.lemmas.Seen.{end_seen}
use Rattle.c_grammar_tree.specs.declared.item.Item.{Item}
use Rattle.c_laws.specs.Plain.{plain_text}
use Rattle.c_laws.specs.Spelling.{Piece, placed, token, named, any_named, any_body}
use Rattle.c_laws.specs.Spelling.{any_attributes, SpellsItems}
use Rattle.c_laws.specs.Spelling.{mark, in_order, listed, optional}
use Rattle.c_laws.specs.Spelling.{spelled_expression}
use Rattle.c_laws.specs.Spelling.{spelled_initializer, spelled_rest, spelled_declarator}
use Rattle.c_laws.specs.Spelling.{spelled_specifiers, spelled_parameter}
use Rattle.c_laws.specs.Spelling.{spelled_parameters}
use Rattle.c_laws.specs.Spelling.{spelled_function, spelled_block_item, spelled_body}
use Rattle.c_laws.specs.Spelling.{spelled_item}
use Rattle.c_laws.proofs.Spells.{Laid, spells_one, spells_piece, opened, only}
use Rattle.c_laws.proofs.Spelt.{Look, blind, careful, sharp, Any, Is, Spelt, Exactly}
use Rattle.c_laws.proofs.Spelt.{Made}
use Rattle.c_laws.proofs.Spelt.{plainly, at_place, spelt_nothing, spelt_any}
use Rattle.c_laws.proofs.Spelt.{spelt_behind}
use Rattle.c_laws.proofs.Spelt.{spelt_front, spelt_deeper, spelt_one, spelt_skip}
use Rattle.c_laws.proofs.Spelt.{spelt_closed, spelt_such}
use Rattle.c_laws.proofs.Spelt.{spelt_pair, spelt_then, spelt_node, spelt_choice}
use Rattle.c_laws.proofs.Spelt.{spelt_many}
use Rattle.c_laws.proofs.Spelt.{spelt_perhaps, behind_place}
use Rattle.c_laws.proofs.SpeltExpressions.{SpeltGrammar, terminal_is, is_mark}
use Rattle.c_laws.proofs.SpeltExpressions.{known_mark}
use Rattle.c_laws.proofs.SpeltSpecifiers.{spelt_specifiers, spelt_tag}
use Rattle.c_laws.proofs.SpeltText.{spelt_identifier, spelt_enumeration}
use Rattle.c_laws.proofs.SpeltText.{same_attributes, spelt_attributes}
use Rattle.c_laws.proofs.SpeltText.{spelt_declarator_rest}
use Rattle.c_laws.proofs.SpeltText.{spelt_more_declarators, spelt_block_items}

pointer_is : (allowed : Bool) (s : Symbol) → (allowed && points s) ≡ true →
    s ≡ symbol.Binary binary.Multiply
pointer_is true (symbol.Binary binary.Multiply) e = refl
pointer_is true _ e = absurd (let clash : false ≡ true = e in cc)
pointer_is false s e = absurd (let clash : false ≡ true = e in cc)

end_is : (s : Symbol) → ends s ≡ true → s ≡ symbol.End
end_is symbol.End e = refl
end_is _ e = absurd (let clash : false ≡ true = e in cc)

is_the_end : Exactly is_end symbol.End
is_the_end = record {
  is = λ leaf e. end_is (symbol_of leaf) e;
  passes = λ leaf e. ap ends e;
}

-- a parameter as it is read
abbrev ReadParameter : Type 0
ReadParameter = Specifiers × (Option (Unit {0}) × Option Name)

abbrev parameter_of : Leaf → ReadParameter → Parameter
parameter_of leaf parts =
    record { specifiers = parts.0; is_pointer = points_or_not parts.1.0; name = parts.1.1 }

abbrev spelled_read : ReadParameter → List Piece
spelled_read parts = spelled_specifiers parts.0 ++
    (optional (λ u. token (symbol.Binary binary.Multiply) ∷ []) parts.1.0 ++
    optional (λ name. named name ∷ []) parts.1.1)

parameter_made : (parts : ReadParameter) → Made parameter_of spelled_read spelled_parameter parts
parameter_made (front, (None, name)) = plainly (λ x. refl) (λ x y. refl)
parameter_made (front, (Some u, name)) = plainly (λ x. refl) (λ x y. refl)

spelt_parameter : {left : ℕ} → Spelt Any parameter spelled_parameter left blind sharp
unfolding parameter
spelt_parameter = spelt_node parameter_of (spelt_then (spelt_specifiers tag specifies spelt_tag)
    (λ front. spelt_pair
    (spelt_perhaps (λ s. have_char front.words && points s)
    (λ x e. pointer_is (have_char front.words) (symbol_of x) e)
    (spelt_one (symbol.Binary binary.Multiply)))
    (spelt_perhaps names {K = Any} (λ x e. tt) spelt_identifier))) parameter_made

-- what stands between the brackets, as it is read
abbrev spelled_between : Option (List Parameter) → List Piece
spelled_between found =
    (optional (listed spelled_parameter) found ++ mark terminal.RightParen ∷ []) ++
    any_attributes ∷ []

abbrev Inner : Form Leaf (Option (List Parameter) × Unit {0})
Inner = Skip (Pair (Before (Perhaps (is_not terminal.RightParen) parameter_list)
    (is terminal.RightParen)) attributes)

module _ {left : ℕ} (some : 0 < left) where
  spelt_parameter_list :
      Spelt Any parameter_list (listed spelled_parameter) left blind sharp
  unfolding parameter_list
  spelt_parameter_list = spelt_node _ (spelt_pair (spelt_deeper some spelt_parameter)
      (spelt_many (is_terminal terminal.Comma) (known_mark terminal.Comma)
      (spelt_skip (symbol.Terminal terminal.Comma) (spelt_deeper some spelt_parameter))))
      (λ parts. plainly (λ x. refl) (λ x y. refl))

  spelt_between : Spelt (Is (symbol.Terminal terminal.LeftParen)) Inner
      (λ parts. mark terminal.LeftParen ∷ spelled_between parts.0) left blind sharp
  spelt_between = spelt_skip (symbol.Terminal terminal.LeftParen)
      (spelt_pair (spelt_closed (is_mark terminal.RightParen)
      (spelt_perhaps (λ s. not (is_terminal terminal.RightParen s)) {K = Any} (λ x e. tt)
      spelt_parameter_list)) spelt_attributes)

-- the parameter that `void` is, with the places of its words
abbrev void_at : Option Enumeration → ℕ → ℕ → Parameter
void_at enumerated outer inner = record {
  specifiers = record {
    words = record { kind = kind.TypeWord word.Void; place = inner } ∷ [];
    enumeration = enumerated;
    place = outer;
  };
  is_pointer = false;
  name = None;
}

-- what is read between the brackets is what is kept; but for `void`, which is read as a parameter
data Between (found : Option (List Parameter)) : Type 0 where
  as_read : spelled_parameters (parameters_of found) ≡ optional (listed spelled_parameter) found →
      Between found
  only_void : (enumerated : Option Enumeration) (outer inner : ℕ) →
      found ≡ Some (void_at enumerated outer inner ∷ []) → Between found

void_kind : (k : SpecifierKind) → is_void k ≡ true → k ≡ kind.TypeWord word.Void
void_kind (kind.TypeWord word.Void) e = refl
void_kind _ e = absurd (let clash : false ≡ true = e in cc)

only_one : (words : List Specifier) (pointer : Bool) (name : Option Name)
    (enumerated : Option Enumeration) (place : ℕ) → is_only_void words pointer name ≡ true →
    Between (Some (record {
      specifiers = record { words = words; enumeration = enumerated; place = place };
      is_pointer = pointer;
      name = name;
    } ∷ []))
only_one (only ∷ []) false None enumerated place e = only_void enumerated place only.place
    (ap (λ k. Some (record {
      specifiers = record {
        words = record { kind = k; place = only.place } ∷ [];
        enumeration = enumerated;
        place = place;
      };
      is_pointer = false;
      name = None;
    } ∷ [])) (void_kind only.kind e))
only_one _ _ _ enumerated place e = absurd (let clash : false ≡ true = e in cc)

one_between : (first : Parameter) (b : Bool) →
    is_only_void first.specifiers.words first.is_pointer first.name ≡ b →
    Between (Some (first ∷ []))
one_between first true e =
    only_one first.specifiers.words first.is_pointer first.name first.specifiers.enumeration
    first.specifiers.place e
one_between first false e = as_read (ap (λ b. spelled_parameters
    (elim b [ true ↦ parameters.Void | false ↦ parameters.Listed (first ∷ []) ])) e)

between : (found : Option (List Parameter)) → Between found
between None = as_read refl
between (Some []) = as_read refl
between (Some (first ∷ [])) =
    one_between first (is_only_void first.specifiers.words first.is_pointer first.name) refl
between (Some (first ∷ second ∷ more)) = as_read refl

-- behind the bracket: `void`, and what closes it
abbrev behind_void : List Piece
behind_void = token (symbol.TypeWord word.Void) ∷ mark terminal.RightParen ∷ any_attributes ∷ []

module _ {at : ℕ → Leaf} (outer inner : ℕ) {p q : ℕ} where
  -- with the places of its words and without them
  void_pieces : Laid at (mark terminal.LeftParen ∷ placed outer ∷ placed inner ∷ behind_void) p q →
      Laid at (mark terminal.LeftParen ∷ behind_void) p q
  void_pieces y =
      let o = opened (mark terminal.LeftParen) (placed outer ∷ placed inner ∷ behind_void) y in
      spells_piece (mark terminal.LeftParen) o.here
      (behind_place inner behind_void
      (behind_place outer (placed inner ∷ behind_void) o.more).more).more

-- void alone, read as specifiers and as a parameter
module _ (bt : ℕ → Leaf) (other left r : ℕ) (e : symbol_of (bt r) ≡ symbol.TypeWord word.Void)
  where
    void_specifiers : specifiers tag is_specifier (plain_text bt other) left r
        (void_at None (bt r).place (bt r).place).specifiers (r + 1)
    unfolding specifiers keywords declared_type specifier_at Many
    void_specifiers = record {
      parts = (record { kind = kind.TypeWord word.Void; place = (bt r).place } ∷ [], ([], None));
      read = record {
        middle = r + 1;
        first = record {
          read = record {
            goes = ap (λ s. specifies s && not (begins_declared s)) e;
            middle = r + 1;
            first = record {
              chosen = subst (λ s. specifier_at s (plain_text bt other) left r
                  (record { kind = kind.TypeWord word.Void; place = (bt r).place }) (r + 1)) (sym e)
                  (record { parts = tt; read = record { behind = refl }; made = refl });
            };
            rest =
                record { stops = λ h. absurd (let clash : false ≡ true = h in cc); behind = refl };
          };
          passes = refl;
        };
        second = record { parts = tt; read = record { behind = refl }; made = refl };
      };
      made = refl;
    }

    void_parameter : parameter (plain_text bt other) left r
        (void_at None (bt r).place (bt r).place) (r + 1)
    unfolding parameter Perhaps
    void_parameter = record {
      parts = ((void_at None (bt r).place (bt r).place).specifiers, (None, None));
      read = record {
        middle = r + 1;
        first = void_specifiers;
        second = record {
          middle = r + 1;
          first = record {
            stops = λ h. absurd (let clash : false ≡ true = h in cc);
            behind = refl;
          };
          second = record {
            stops = λ h. absurd (let clash : false ≡ true = h in cc);
            behind = refl;
          };
        };
      };
      made = refl;
    }

void_list : (bt : ℕ → Leaf) (other left r : ℕ) → 0 < left →
    symbol_of (bt r) ≡ symbol.TypeWord word.Void →
    Perhaps (is_not terminal.RightParen) parameter_list (plain_text bt other) left r
    (Some (void_at None (bt r).place (bt r).place ∷ [])) (r + 1)
unfolding parameter_list Perhaps Many
void_list bt other left r some e = record {
  goes = ap (λ s. not (is_terminal terminal.RightParen s)) e;
  middle = r + 1;
  first = record {
    parts = (void_at None (bt r).place (bt r).place, []);
    read = record {
      middle = r + 1;
      first = record { allowed = λ _. some; read = void_parameter bt other (left - 1) r e };
      second = record { stops = λ h. absurd (let clash : false ≡ true = h in cc); behind = refl };
    };
    made = refl;
  };
  rest = refl;
}

module _ {left : ℕ} (some : 0 < left) where
  -- (void) in the other text
  void_again : (bt : ℕ → Leaf) (other r s : ℕ) →
      Laid bt (mark terminal.LeftParen ∷ behind_void) r s →
      Inner (plain_text bt other) left r
      (Some (void_at None (bt (r + 1)).place (bt (r + 1)).place ∷ []), tt) s
  void_again bt other r s y =
      let o = opened (mark terminal.LeftParen) behind_void y in
      let more = subst (λ m. Laid bt behind_void m s) o.here.1 o.more in
      let v = opened (token (symbol.TypeWord word.Void))
      (mark terminal.RightParen ∷ any_attributes ∷ []) more in
      let behind = subst (λ m. Laid bt (mark terminal.RightParen ∷ any_attributes ∷ []) m s)
      v.here.1 v.more in
      let c = opened (mark terminal.RightParen) (any_attributes ∷ []) behind in
      record {
        rest = record {
          middle = c.middle;
          first = record {
            middle = (r + 1) + 1;
            first = void_list bt other left (r + 1) some v.here.0;
            passes = (is_mark terminal.RightParen).passes (bt ((r + 1) + 1)) c.here.0;
            behind = c.here.1;
          };
          second = same_attributes bt 0 other 0 left c.middle tt s (only any_attributes c.more);
        };
      }

  rest_pieces : (at : ℕ → Leaf) (edge p q : ℕ) (found : Option (List Parameter)) → Between found →
      Is (symbol.Terminal terminal.LeftParen) (at p) →
      Inner (plain_text at edge) left p (found, tt) q →
      Laid at (spelled_function (parameters_of found)) p q
  rest_pieces at edge p q found (as_read e) k r =
      subst (λ list. Laid at (mark terminal.LeftParen ∷ ((list ++ mark terminal.RightParen ∷ []) ++
      any_attributes ∷ [])) p q) (sym e) ((spelt_between some).pieces k r)
  rest_pieces at edge p q found (only_void enumerated outer inner e) k r =
      subst (λ f. Laid at (spelled_function (parameters_of f)) p q) (sym e)
      (void_pieces outer inner (subst (λ f. Laid at (mark terminal.LeftParen ∷
      spelled_between f) p q) e ((spelt_between some).pieces k r)))

  rest_again : (at bt : ℕ → Leaf) (edge other p r : ℕ) (u : Parameters) (q s : ℕ)
      (found : Option (List Parameter)) → Between found →
      Is (symbol.Terminal terminal.LeftParen) (at p) →
      Inner (plain_text at edge) left p (found, tt) q →
      u ≡ parameters_of found → Laid bt (spelled_function u) r s →
      function_rest (plain_text bt other) left r u s
  unfolding function_rest
  rest_again at bt edge other p r u q s found (as_read e) k x made y = record {
    parts = (found, tt);
    read = (spelt_between some).again k x
        (subst (λ list. Laid bt (mark terminal.LeftParen ∷
        ((list ++ mark terminal.RightParen ∷ []) ++
        any_attributes ∷ [])) r s) (ap spelled_parameters made ∙ e) y) tt;
    made = made;
  }
  rest_again at bt edge other p r u q s found (only_void enumerated outer inner e) k x made y =
      let is_void = made ∙ ap parameters_of e in
      record {
        parts = (Some (void_at None (bt (r + 1)).place (bt (r + 1)).place ∷ []), tt);
        read = void_again bt other r s (subst (λ v. Laid bt (spelled_function v) r s) is_void y);
        made = is_void;
      }

  spelt_function_rest : Spelt (Is (symbol.Terminal terminal.LeftParen)) function_rest
      spelled_function left blind sharp
  unfolding function_rest
  spelt_function_rest = record {
    pieces = λ {at} {edge} {p} {u} {q} k r.
        subst (λ v. Laid at (spelled_function v) p q) (sym r.made)
        (rest_pieces at edge p q r.parts.0 (between r.parts.0) k r.read);
    again = λ {at} {bt} {edge} {other} {p} {r} {u} {q} {s} k x y h.
        rest_again at bt edge other p r u q s x.parts.0 (between x.parts.0) k x.read x.made y;
    first = λ {at} {bt} {edge} {p} {r} {u} k x y h.
        k ∙ sym (opened (mark terminal.LeftParen) ((spelled_parameters u ++
        mark terminal.RightParen ∷ []) ++ any_attributes ∷ []) y).here.0;
  }

spelt_skipped_body : {left : ℕ} → Spelt Any skipped_body (λ u. any_body ∷ []) left blind blind
unfolding skipped_body
spelt_skipped_body = record {
  pieces = λ k r. spells_one any_body (record {
    length = r.length;
    behind = r.behind;
    inside = r.inside;
    closed = r.closed;
    before_end = r.before_end;
  });
  again = λ k x y h. let r = only any_body y in record {
    length = r.length;
    behind = r.behind;
    inside = r.inside;
    closed = r.closed;
    before_end = r.before_end;
  };
  first = λ k x y h. tt;
}

abbrev other_declarators : List Declarator → List Piece
other_declarators = in_order (λ other. mark terminal.Comma ∷ spelled_declarator other)

abbrev valued : Option Initializer → List Piece
valued = optional (λ given. token (symbol.Assign assign.Assign) ∷ spelled_initializer given)

not_attribute : (leaf : Leaf) → is terminal.Attribute leaf ≡ true →
    is terminal.LeftParen leaf ≡ false
not_attribute leaf e = ap (is_terminal terminal.LeftParen)
    (terminal_is terminal.Attribute (symbol_of leaf) e)

no_attribute_opens : (bt : ℕ → Leaf) (other less p m : ℕ) (us : List (Unit {0})) →
    Many (is terminal.Attribute) attribute (plain_text bt other) less p us m →
    is terminal.LeftParen (bt m) ≡ false → is terminal.LeftParen (bt p) ≡ false
unfolding Many
no_attribute_opens bt other less p m [] r h =
    subst (λ k. is terminal.LeftParen (bt k) ≡ false) r.behind h
no_attribute_opens bt other less p m (u ∷ us) r h = not_attribute (bt p) r.goes

-- no call opens there
module _ {bt : ℕ → Leaf} where
  not_open : (s : Symbol) (more : List Piece) {p q : ℕ} →
      is_terminal terminal.LeftParen s ≡ false → Laid bt (token s ∷ more) p q →
      is terminal.LeftParen (bt p) ≡ false
  not_open s more e y =
      ap (is_terminal terminal.LeftParen) (opened (token s) more y).here.0 ∙ e

  no_value_opens : (value : Option Initializer) (more : List Declarator) {p q : ℕ} →
      Laid bt ((valued value ++ other_declarators more) ++ mark terminal.Semicolon ∷ []) p q →
      is terminal.LeftParen (bt p) ≡ false
  no_value_opens (Some given) more y = not_open (symbol.Assign assign.Assign)
      ((spelled_initializer given ++ other_declarators more) ++ mark terminal.Semicolon ∷ []) refl y
  no_value_opens None (other ∷ more) y = not_open (symbol.Terminal terminal.Comma)
      ((spelled_declarator other ++ other_declarators more) ++ mark terminal.Semicolon ∷ []) refl y
  no_value_opens None [] y = not_open (symbol.Terminal terminal.Semicolon) [] refl y

  no_rest_opens : (found : Option Array) (value : Option Initializer) (more : List Declarator)
      {p q : ℕ} → Laid bt ((spelled_rest found value ++ other_declarators more) ++
      mark terminal.Semicolon ∷ []) p q → is terminal.LeftParen (bt p) ≡ false
  unfolding attributes
  no_rest_opens (Some found) value more {p} {q} y =
      let pieces = (((optional spelled_expression found.length ++
      mark terminal.RightBracket ∷ []) ++
      any_attributes ∷ []) ++ valued value) ++ other_declarators more in
      not_open (symbol.Terminal terminal.LeftBracket) (pieces ++ mark terminal.Semicolon ∷ []) refl
      (behind_place found.place
      (mark terminal.LeftBracket ∷ (pieces ++ mark terminal.Semicolon ∷ [])) y).more
  no_rest_opens None value more {p} {q} y =
      let o = opened any_attributes
      ((valued value ++ other_declarators more) ++ mark terminal.Semicolon ∷ []) y in
      no_attribute_opens bt 0 0 p o.middle o.here.parts o.here.read
      (no_value_opens value more o.more)

-- behind a function's parameters
abbrev spelled_end : Option Body → List Piece
spelled_end None = mark terminal.Semicolon ∷ []
spelled_end (Some made) = spelled_body made

-- behind the name of an item
abbrev spelled_named : Named → List Piece
spelled_named (function found made) = spelled_function found ++ spelled_end made
spelled_named (objects rest more) =
    (spelled_rest rest.array rest.initializer ++
    in_order (λ other. mark terminal.Comma ∷ spelled_declarator other) more) ++
    mark terminal.Semicolon ∷ []

abbrev spelled_declared : Option (Name × Named) → List Piece
spelled_declared None = mark terminal.Semicolon ∷ []
spelled_declared (Some declared) = named declared.0 ∷ spelled_named declared.1

declared_made : (parts : Specifiers × Option (Name × Named)) →
    Made (λ leaf parts. declared_of parts.0 parts.1)
    (λ parts. spelled_specifiers parts.0 ++ spelled_declared parts.1) spelled_item parts
declared_made (front, None) = plainly (λ x. refl) (λ x y. refl)
declared_made (front, Some (name, function found None)) = plainly (λ x. refl) (λ x y. refl)
declared_made (front, Some (name, function found (Some made))) =
    plainly (λ x. refl) (λ x y. refl)
declared_made (front, Some (name, objects rest more)) = plainly (λ x. refl) (λ x y. refl)

-- a name of a typedef
spelt_typedef_name : {left : ℕ} {behind : Look} →
    Spelt Any typedef_name (λ name. any_named name ∷ []) left behind blind
unfolding typedef_name
spelt_typedef_name = record {
  pieces = λ {at} {edge} {p} {u} {q} k r.
      spells_one (any_named u) (r.read.passes, sym r.made, r.read.behind);
  again = λ {at} {bt} {edge} {other} {p} {r} {u} k x y h.
      let e = only (any_named u) y in
      record {
        parts = tt;
        read = record { passes = e.0; behind = e.2 };
        made = sym e.1;
      };
  first = λ k x y h. tt;
}

spelt_typedef_names : {left : ℕ} →
    Spelt Any typedef_names (listed (λ name. any_named name ∷ [])) left blind blind
unfolding typedef_names
spelt_typedef_names = spelt_node _ (spelt_pair {inner = blind} spelt_typedef_name
    (spelt_many (is_terminal terminal.Comma) (known_mark terminal.Comma)
    (spelt_skip (symbol.Terminal terminal.Comma) spelt_typedef_name)))
    (λ parts. plainly (λ x. refl) (λ x y. refl))

-- the brace that closes a body, by its place
spelt_closing_brace : {left : ℕ} {behind : Look} → Spelt Any closing_brace
    (λ place. placed place ∷ mark terminal.RightBrace ∷ []) left behind sharp
unfolding closing_brace
spelt_closing_brace = spelt_node _ (spelt_such (is_mark terminal.RightBrace))
    (λ u. at_place (λ x. refl) (λ x y e. e))

module _ (G : Grammar) (left : ℕ) (g : SpeltGrammar G left) (some : 0 < left) where
  spelt_closed_items : {behind : Look} → Spelt Any (closed_items G)
      (λ parts. in_order spelled_block_item parts.0 ++ placed parts.1 ∷ mark terminal.RightBrace ∷
      []) left behind careful
  unfolding closed_items
  spelt_closed_items =
      spelt_pair (spelt_block_items G left g) (spelt_front spelt_closing_brace)

  spelt_body_of : {behind : Look} (known : Bool) →
      Spelt (Is (symbol.Terminal terminal.LeftBrace))
      (body_of G known) spelled_body left behind sharp
  unfolding body_of
  spelt_body_of true = spelt_node _ (spelt_skip (symbol.Terminal terminal.LeftBrace)
      (spelt_behind spelt_skipped_body)) (λ u. plainly (λ x. refl) (λ x y. refl))
  spelt_body_of false = spelt_node _
      (spelt_skip (symbol.Terminal terminal.LeftBrace) spelt_closed_items)
      (λ parts. at_place (λ x. refl)
      (λ x y e. ap (λ place. body.Block parts.0 place parts.1) e))

  spelt_function_end_at : {behind : Look} (name : Name) (pointer : Bool) (s : Symbol) →
      Spelt (Is s) (function_end_at G name pointer s) spelled_end left behind sharp
  unfolding function_end_at
  spelt_function_end_at name pointer (symbol.Terminal terminal.Semicolon) =
      spelt_node _ (spelt_one (symbol.Terminal terminal.Semicolon))
      (λ u. plainly (λ x. refl) (λ x y. refl))
  spelt_function_end_at name false (symbol.Terminal terminal.LeftBrace) =
      spelt_node _ (spelt_body_of (is_known name)) (λ made. plainly (λ x. refl) (λ x y. refl))
  spelt_function_end_at name _ _ = spelt_nothing

  abbrev FunctionForm : Name → Form Leaf Named
  FunctionForm name = Node (λ leaf parts. function parts.0 parts.1)
      (Then function_rest (λ found. Choice symbol_of (function_end_at G name (have_pointer found))))

  abbrev ObjectsForm : Form Leaf Named
  ObjectsForm = Node (λ leaf parts. objects parts.0 parts.1)
      (Before (Pair (declarator_rest G) (more_declarators G)) (is terminal.Semicolon))

  spelt_function : {behind : Look} (name : Name) → Spelt (Is (symbol.Terminal terminal.LeftParen))
      (FunctionForm name) spelled_named left behind sharp
  spelt_function name = spelt_node _ (spelt_then (spelt_function_rest some)
      (λ found. spelt_front (spelt_choice (λ s. s)
      (spelt_function_end_at name (have_pointer found)))))
      (λ parts. plainly (λ x. refl) (λ x y. refl))

  spelt_objects : {behind : Look} → Spelt Any ObjectsForm spelled_named left behind blind
  spelt_objects = spelt_node _ (spelt_closed (is_mark terminal.Semicolon)
      (spelt_pair (spelt_declarator_rest G left g) (spelt_more_declarators G left g)))
      (λ parts. plainly (λ x. refl) (λ x y. refl))

  -- which of the two
  data Told (braces : Bool) (name : Name) (w : World Leaf) (p : ℕ) (u : Named) (q : ℕ)
      (s : Symbol) : Type 0 where
    is_function : braces ≡ false → s ≡ symbol.Terminal terminal.LeftParen →
        FunctionForm name w left p u q → Told braces name w p u q s
    are_objects : ObjectsForm w left p u q → Told braces name w p u q s

  told : (braces : Bool) (name : Name) (w : World Leaf) (p : ℕ) (u : Named) (q : ℕ) (s : Symbol) →
      named_at G braces name s w left p u q → Told braces name w p u q s
  unfolding named_at
  told false name w p u q (symbol.Terminal terminal.LeftParen) r = is_function refl refl r
  told _ name w p u q _ r = are_objects r

  function_named : (braces : Bool) (name : Name) (w : World Leaf) (p : ℕ) (u : Named) (q : ℕ)
      (s : Symbol) → braces ≡ false → s ≡ symbol.Terminal terminal.LeftParen →
      FunctionForm name w left p u q → named_at G braces name s w left p u q
  unfolding named_at
  function_named braces name w p u q s f e r =
      subst (λ b. named_at G b name s w left p u q) (sym f)
      (subst (λ t. named_at G false name t w left p u q) (sym e) r)

  objects_named : (braces : Bool) (name : Name) (w : World Leaf) (p : ℕ) (u : Named) (q : ℕ)
      (s : Symbol) → is_terminal terminal.LeftParen s ≡ false → ObjectsForm w left p u q →
      named_at G braces name s w left p u q
  unfolding named_at
  objects_named false name w p u q (symbol.Terminal terminal.LeftParen) e r =
      absurd (let clash : true ≡ false = e in cc)
  objects_named _ name w p u q _ e r = r

  named_pieces : (braces : Bool) (name : Name) (at : ℕ → Leaf) (edge p : ℕ) (u : Named) (q : ℕ)
      (s : Symbol) → symbol_of (at p) ≡ s → Told braces name (plain_text at edge) p u q s →
      Laid at (spelled_named u) p q
  named_pieces braces name at edge p u q s e (is_function b f r) =
      (spelt_function {behind = blind} name).pieces (e ∙ f) r
  named_pieces braces name at edge p u q s e (are_objects r) =
      (spelt_objects {behind = blind}).pieces tt r

  named_again : (braces : Bool) (name : Name) (at bt : ℕ → Leaf) (edge other p r : ℕ) (u : Named)
      (q t : ℕ) (s : Symbol) → symbol_of (at p) ≡ s →
      Told braces name (plain_text at edge) p u q s → Laid bt (spelled_named u) r t →
      Choice symbol_of (named_at G braces name) (plain_text bt other) left r u t
  named_again braces name at bt edge other p r u q t s e (is_function b f x) y =
      let same = (spelt_function {behind = blind} name).first (e ∙ f) x y tt in
      record {
        chosen = function_named braces name (plain_text bt other) r u t (symbol_of (bt r)) b
            (sym same ∙ (e ∙ f)) ((spelt_function {behind = blind} name).again (e ∙ f) x y tt);
      }
  named_again braces name at bt edge other p r u q t s e (are_objects x) y =
      let rest = x.parts.0 in
      record {
        chosen = objects_named braces name (plain_text bt other) r u t (symbol_of (bt r))
            (no_rest_opens rest.array rest.initializer x.parts.1
            (subst (λ v. Laid bt (spelled_named v) r t) x.made y))
            ((spelt_objects {behind = blind}).again tt x y tt);
      }

  spelt_named : {behind : Look} (braces : Bool) (name : Name) →
      Spelt Any (Choice symbol_of (named_at G braces name)) spelled_named left behind blind
  spelt_named braces name = record {
    pieces = λ {at} {edge} {p} {u} {q} k r.
        named_pieces braces name at edge p u q (symbol_of (at p)) refl
        (told braces name (plain_text at edge) p u q (symbol_of (at p)) r.chosen);
    again = λ {at} {bt} {edge} {other} {p} {r} {u} {q} {s = t} k x y h.
        named_again braces name at bt edge other p r u q t (symbol_of (at p)) refl
        (told braces name (plain_text at edge) p u q (symbol_of (at p)) x.chosen) y;
    first = λ k x y h. tt;
  }

  spelt_declared_at : {behind : Look} (braces : Bool) (s : Symbol) →
      Spelt (Is s) (declared_at G braces s) spelled_declared left behind sharp
  unfolding declared_at
  spelt_declared_at braces (symbol.Terminal terminal.Semicolon) =
      spelt_node _ (spelt_one (symbol.Terminal terminal.Semicolon))
      (λ u. plainly (λ x. refl) (λ x y. refl))
  spelt_declared_at braces symbol.Name = spelt_any _ (spelt_node _
      (spelt_then spelt_identifier (spelt_named braces))
      (λ parts. plainly (λ x. refl) (λ x y. refl)))
  spelt_declared_at braces _ = spelt_nothing

  spelt_unit_item_at : {behind : Look} (s : Symbol) →
      Spelt (Is s) (unit_item_at G s) spelled_item left behind sharp
  unfolding unit_item_at
  spelt_unit_item_at (symbol.Terminal terminal.Semicolon) =
      spelt_node _ (spelt_one (symbol.Terminal terminal.Semicolon))
      (λ u. at_place (λ x. refl) (λ x y e. ap node.Empty e))
  spelt_unit_item_at (symbol.Terminal terminal.Typedef) =
      spelt_node _ (spelt_skip (symbol.Terminal terminal.Typedef)
      (spelt_pair (spelt_specifiers (enumeration G true) specifies_in_typedef
      (spelt_enumeration G left g true))
      (spelt_closed (is_mark terminal.Semicolon) spelt_typedef_names)))
      (λ parts. at_place (λ x. refl) (λ x y e. ap (node.Typedef parts.0 parts.1) e))
  spelt_unit_item_at _ = spelt_any _ (spelt_node _
      (spelt_then (spelt_specifiers (enumeration G true) specifies
      (spelt_enumeration G left g true))
      (λ front. spelt_choice (λ s. s) (spelt_declared_at (is_listed front.enumeration))))
      declared_made)

  spelt_unit_item : {behind : Look} → Spelt Any (unit_item G) spelled_item left behind sharp
  unfolding unit_item
  spelt_unit_item = spelt_choice (λ s. s) spelt_unit_item_at

  items_pieces : (at : ℕ → Leaf) (edge : ℕ) (us done : List Item) (p m q : ℕ) →
      unit_items_behind G done (plain_text at edge) left p us m → is_end (at m) ≡ true →
      q ≡ m + 1 → SpellsItems at done us p q
  unfolding ManySeen SpellsItems
  items_pieces at edge [] done p m q r ended behind =
      (spells_one {at = at} (token symbol.End) (
        end_is (symbol_of (at p)) (subst (λ k. is_end (at k) ≡ true) r.behind ended),
        behind ∙ ap (λ k. k + 1) r.behind,
      )).spells
  items_pieces at edge (u ∷ us) done p m q r ended behind = (
    r.middle,
    (
      ((spelt_unit_item {behind = blind}).pieces {at = λ i. seen_behind done (at i)} tt
          r.first.read).spells,
      items_pieces at edge us (done ++ u ∷ []) r.middle m q r.rest ended behind,
    ),
  )

  -- the items in the other text, up to its end
  record Ended (bt : ℕ → Leaf) (other : ℕ) (done : List Item) (r : ℕ) (us : List Item) (s : ℕ) :
      Type 0 where
    middle : ℕ
    read : unit_items_behind G done (plain_text bt other) left r us middle
    stands : is_end (bt middle) ≡ true
    behind : s ≡ middle + 1

  items_again : (at bt : ℕ → Leaf) (edge other : ℕ) (us done : List Item) (p r m s : ℕ) →
      unit_items_behind G done (plain_text at edge) left p us m → SpellsItems bt done us r s →
      Ended bt other done r us s
  unfolding ManySeen SpellsItems
  items_again at bt edge other [] done p r m s x y =
      let e = only {at = bt} (token symbol.End) (record { spells = y }) in
      record {
        middle = r;
        read = record { stops = λ h. absurd (let clash : false ≡ true = h in cc); behind = refl };
        stands = ap ends e.0;
        behind = e.1;
      }
  items_again at bt edge other (u ∷ us) done p r m s x y =
      let k = items_again at bt edge other us (done ++ u ∷ []) x.middle y.0 m s x.rest y.1.1 in
      let item = spelt_unit_item {behind = blind} in
      let here : Laid (λ i. seen_behind done (bt i)) (spelled_item u) r y.0 =
      record { spells = y.1.0 } in
      let same = item.first {at = λ i. seen_behind done (at i)} {bt = λ i. seen_behind done (bt i)}
      tt x.first.read here tt in
      record {
        middle = k.middle;
        read = record {
          goes = ap not (sym (end_seen done (bt r)) ∙ (ap ends (sym same) ∙ end_seen done (at p)))
              ∙ x.goes;
          middle = y.0;
          first = record {
            read = item.again {at = λ i. seen_behind done (at i)}
                {bt = λ i. seen_behind done (bt i)} tt x.first.read here tt;
          };
          rest = k.read;
        };
        stands = k.stands;
        behind = k.behind;
      }

  pub unit_pieces : (at : ℕ → Leaf) (edge p : ℕ) (us : List Item) (q : ℕ) →
      unit_items G (plain_text at edge) left p us q → SpellsItems at [] us p q
  unfolding unit_items
  unit_pieces at edge p us q r = items_pieces at edge us [] p r.middle q r.first r.passes r.behind

  pub unit_again : (at bt : ℕ → Leaf) (edge other p r : ℕ) (us : List Item) (q s : ℕ) →
      unit_items G (plain_text at edge) left p us q → SpellsItems bt [] us r s →
      unit_items G (plain_text bt other) left r us s
  unfolding unit_items
  unit_again at bt edge other p r us q s x y =
      let k = items_again at bt edge other us [] p r x.middle s x.first y in
      record { middle = k.middle; first = k.read; passes = k.stands; behind = k.behind }
