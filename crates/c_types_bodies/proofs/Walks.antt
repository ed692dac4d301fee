-- What walks make of a state, one after the other (`walked_followed`), and what one act makes of it
-- (`done_by`).
use Rattle.std.proofs.Common.{◌≡◌, ℕ, List, [], ◌∷◌, ◌++◌, map, Option, refl, sym, ap, ◌∙◌}
use Rattle.std.proofs.Common.{append_assoc, append-nil}
use Rattle.std.specs.List.{flat_map}
use Rattle.std.proofs.lemmas.Grind.{flat_map-append}
use Rattle.c_lexer.specs.declared.fault.TextFault.{TextFault}
use Rattle.c_types_rules.specs.Names.{Text}
use Rattle.c_types_rules.specs.First.{first_with, first_append}
use Rattle.c_types_rules.specs.Statements.{Around, Act, Site, Walk, still, doing, followed}
use Rattle.c_types_rules.specs.Statements.{in_order}
use Rattle.c_types_rules.specs.StatementRules.{Jump, act_faults, act_uses, site_faults, label_at}
use Rattle.c_types_rules.specs.StatementRules.{goto_at}
use Rattle.c_types_rules.specs.Items.{Call, use_calls, site_calls}
use Rattle.c_types_bodies.specs.States.{State, noted, walked, done}

pub same_state : (a b : State) → a.around ≡ b.around → a.first ≡ b.first → a.calls ≡ b.calls
    → a.labels ≡ b.labels → a.gotos ≡ b.gotos → a ≡ b
same_state a b around first calls labels gotos =
    ap (λ (x : Around). record a { around = x }) around
    ∙ ap (λ (x : Option TextFault). record a { around = b.around; first = x }) first
    ∙ ap (λ (x : List Call). record a { around = b.around; first = b.first; calls = x }) calls
    ∙ ap (λ (x : List Jump). record b { labels = x; gotos = a.gotos }) labels
    ∙ ap (λ (x : List Jump). record b { gotos = x }) gotos

noted_none : (text : Text) (caller : ℕ) (state : State)
    → noted text caller [] state.around state ≡ state
unfolding noted
noted_none text caller state =
    same_state (noted text caller [] state.around state) state refl refl (append-nil state.calls)
    (append-nil state.labels) (append-nil state.gotos)

listed_two : {X : Type 0} (held : List X) (f : Site → List X) (xs ys : List Site)
    → held ++ flat_map f (xs ++ ys) ≡ (held ++ flat_map f xs) ++ flat_map f ys
listed_two {X} held f xs ys =
    ap (λ (all : List X). held ++ all) (flat_map-append f xs ys)
    ∙ sym (append_assoc held (flat_map f xs) (flat_map f ys))

noted_two : (text : Text) (caller : ℕ) (xs ys : List Site) (mid last : Around) (state : State)
    → noted text caller (xs ++ ys) last state
    ≡ noted text caller ys last (noted text caller xs mid state)
unfolding noted
noted_two text caller xs ys mid last state =
    same_state (noted text caller (xs ++ ys) last state)
    (noted text caller ys last (noted text caller xs mid state)) refl
    (ap (λ (faults : List TextFault). first_with state.first faults)
    (flat_map-append (site_faults text) xs ys)
    ∙ first_append state.first (flat_map (site_faults text) xs) (flat_map (site_faults text) ys))
    (listed_two state.calls (site_calls text caller) xs ys)
    (listed_two state.labels label_at xs ys) (listed_two state.gotos goto_at xs ys)

noted_around : (text : Text) (caller : ℕ) (xs : List Site) (around : Around) (state : State)
    → (noted text caller xs around state).around ≡ around
unfolding noted
noted_around text caller xs around state = refl

pub walked_still : (text : Text) (caller : ℕ) (state : State) → walked text caller still state
    ≡ state
walked_still text caller state = noted_none text caller state

pub walked_followed : (text : Text) (caller : ℕ) (first second : Walk) (state : State)
    → walked text caller (followed first second) state
    ≡ walked text caller second (walked text caller first state)
walked_followed text caller first second state =
    noted_two text caller (first.sites state.around) (second.sites (first.behind state.around))
    (first.behind state.around) (second.behind (first.behind state.around)) state
    ∙ ap (λ (around : Around). noted text caller (second.sites around) (second.behind around)
    (noted text caller (first.sites state.around) (first.behind state.around) state))
    (sym (noted_around text caller (first.sites state.around) (first.behind state.around) state))

-- walks one after the other, from a place in a list on
pub walked_items : {T : Type 0} (text : Text) (caller : ℕ) (walk : T → Walk) (item : T)
    (items : List T) (state : State)
    → walked text caller (in_order (map walk (item ∷ items))) state
    ≡ walked text caller (in_order (map walk items)) (walked text caller (walk item) state)
walked_items text caller walk item items state =
    walked_followed text caller (walk item) (in_order (map walk items)) state

-- what one act makes of a state, by its faults and its uses
pub done_by : (text : Text) (caller : ℕ) (act : Act) (old new : State) → new.around ≡ old.around
    → new.first ≡ first_with old.first (act_faults text old.around act)
    → new.calls ≡ old.calls ++ flat_map (use_calls caller) (act_uses text old.around act)
    → new.labels ≡ old.labels ++ label_at (record { around = old.around; act = act })
    → new.gotos ≡ old.gotos ++ goto_at (record { around = old.around; act = act })
    → new ≡ done text caller act old
unfolding noted
done_by text caller act old new around first calls labels gotos =
    let site : Site = record { around = old.around; act = act } in
    same_state new (done text caller act old) around
    (first ∙ ap (λ (faults : List TextFault). first_with old.first faults)
    (sym (append-nil (act_faults text old.around act))))
    (calls ∙ ap (λ (found : List Call). old.calls ++ found)
    (sym (append-nil (flat_map (use_calls caller) (act_uses text old.around act)))))
    (labels ∙ ap (λ (found : List Jump). old.labels ++ found) (sym (append-nil (label_at site))))
    (gotos ∙ ap (λ (found : List Jump). old.gotos ++ found) (sym (append-nil (goto_at site))))

pub walked_doing : (text : Text) (caller : ℕ) (act : Act) (state : State)
    → walked text caller (doing act) state ≡ done text caller act state
walked_doing text caller act state = refl
