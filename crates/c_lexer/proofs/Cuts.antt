-- A text falls into parts in one way.
use Rattle.std.proofs.Common.{◌≡◌, ℕ, ◌+◌, ◌<◌, ◌≤◌, Bool, true, zero, suc, Result, List, [], ◌∷◌}
use Rattle.std.proofs.Common.{◌++◌, length, take, drop, Ok, Err, append_assoc, length-append}
use Rattle.std.proofs.Common.{length-take, length-drop, add-zero, zero-add, arith, refl, ap, sym}
use Rattle.std.proofs.Common.{◌∙◌, subst, ◌⊎◌, inl, inr}
use Rattle.std.proofs.lemmas.List.{take-append-drop, append-nil, drop-drop}
use Rattle.std.proofs.lemmas.Bool.{cases_lt}
use Rattle.std.proofs.Math.ListN.{drop_of_length-le}
use Rattle.c_lexer.specs.declared.fault.Rule.{Rule}
use Rattle.c_lexer.specs.declared.fault.TextFault.{TextFault}
use Rattle.c_lexer.specs.declared.piece.Piece.{Piece}
use Rattle.c_lexer.specs.declared.piece.PieceKind.{PieceKind}
use Rattle.c_lexer.specs.declared.token.Token.{Token}
use Rattle.c_lexer.specs.Parts.{Part, gap, directive, token, bytes_of, joined, IsPart, Stand, Falls}
use Rattle.c_lexer.specs.Parts.{fresh_behind, fresh_after, tokens_from, Tokens, NoTokens, end_token}
use Rattle.c_lexer.specs.Steps.Pieces.{part_of, tokens_of}
use Rattle.c_lexer.specs.Faults.{Fails, HasFault}
use Rattle.c_lexer.specs.Steps.Reading.{piece_of}
use Rattle.c_lexer.proofs.Pieces.{kind_of, piece_from, part_again, bytes_again, one_token}
use Rattle.c_lexer.proofs.Runs.{same_fronts}
use Rattle.c_lexer.proofs.Sound.{piece_stands, piece_fails}
use Rattle.c_lexer.proofs.Complete.{part_read, fault_read, part_some, fault_some}
use Rattle.cpa_ints.specs.declared.data_model.DataModel.{DataModel}

-- one part at most begins a text
pub same_part : (model : DataModel) (fresh : Bool) (p q : Part) (r s : List ℕ) →
    IsPart model fresh p r → IsPart model fresh q s →
    bytes_of p ++ r ≡ bytes_of q ++ s → (p ≡ q) × (r ≡ s)
same_part model fresh p q r s one two e =
    let read =
    sym (part_read model fresh p r one) ∙ ap (piece_of model fresh) e
    ∙ part_read model fresh q s two in
    let pieces : piece_from p ≡ piece_from q = cc in
    let kinds : kind_of p ≡ kind_of q = ap (λ (z : Piece). z.kind) pieces in
    let lengths : length (bytes_of p) ≡ length (bytes_of q) = ap (λ (z : Piece). z.length) pieces in
    let fronts = same_fronts (bytes_of p) (bytes_of q) r s lengths e in
    let bytes : bytes_of p ≡ bytes_of q = fronts.0 in
    let again : part_of (kind_of p) (bytes_of p) ≡ part_of (kind_of q) (bytes_of q) = cc in
    (sym (part_again p) ∙ again ∙ part_again q, fronts.1)

-- the second way goes on where the first ends
record Beyond (model : DataModel) (fresh : Bool) (ps : List Part) (r : List ℕ) (qs : List Part)
    (s : List ℕ) : Type 0
  where
    more : List Part
    parts : qs ≡ ps ++ more
    rest : r ≡ joined more ++ s
    stand : Stand model (fresh_after fresh ps) more s

-- of two ways one goes on where the other ends
compare : (model : DataModel) (fresh : Bool) (ps qs : List Part) (r s : List ℕ) →
    Stand model fresh ps r → Stand model fresh qs s →
    joined ps ++ r ≡ joined qs ++ s → Beyond model fresh ps r qs s ⊎ Beyond model fresh qs s ps r
compare model fresh [] qs r s one two e = inl (record
    { more = qs; parts = refl; rest = e; stand = two })
compare model fresh (p ∷ ps) [] r s one two e =
    inr (record { more = p ∷ ps; parts = refl; rest = sym e; stand = one })
compare model fresh (p ∷ ps) (q ∷ qs) r s one two e =
    let e2 : bytes_of p ++ (joined ps ++ r) ≡ bytes_of q ++ (joined qs ++ s) = sym
    (append_assoc (bytes_of p) (joined ps) r) ∙ e ∙ append_assoc (bytes_of q) (joined qs) s in
    let same = same_part model fresh p q (joined ps ++ r) (joined qs ++ s) one.0 two.0 e2 in
    let heads : p ≡ q = same.0 in
    let two_stands : Stand model (fresh_behind fresh p) qs s = subst (λ z.
    Stand model (fresh_behind fresh z) qs s) (sym heads) two.1 in
    elim (compare model (fresh_behind fresh p) ps qs r s one.1 two_stands same.1) [
      | inl b ↦ (let parts : qs ≡ ps ++ b.more = b.parts in
          inl (record { more = b.more; parts = cc; rest = b.rest; stand = b.stand }))
      | inr b ↦ (let parts : ps ≡ qs ++ b.more = b.parts in
          let stand : Stand model (fresh_after (fresh_behind fresh q) qs) b.more r = subst (λ z.
          Stand model (fresh_after (fresh_behind fresh z) qs) b.more r) heads b.stand in
          inr (record { more = b.more; parts = cc; rest = b.rest; stand = stand }))
    ]

-- where a rule is broken no part stands
no_part : (model : DataModel) (fresh : Bool) (rule : Rule) (text : List ℕ) (part : Part)
    (parts : List Part)
    (rest : List ℕ) →
    Fails model fresh rule text → text ≡ joined (part ∷ parts) ++ rest →
    Stand model fresh (part ∷ parts) rest →
    ⊥
no_part model fresh rule text part parts rest fails e stand =
    let e2 : text ≡ bytes_of part ++ (joined parts ++ rest) = e
    ∙ append_assoc (bytes_of part) (joined parts) rest in
    let bad =
    sym (fault_read model fresh rule text fails) ∙ ap (piece_of model fresh) e2
    ∙ part_read model fresh part (joined parts ++ rest) stand.0 in
    cc

-- behind the place of a fault nothing stands
nothing_beyond : (model : DataModel) (fresh : Bool) (rule : Rule) (text rest : List ℕ)
    (parts : List Part) →
    Fails model fresh rule text → text ≡ joined parts ++ rest → Stand model fresh parts rest →
    parts ≡ []
nothing_beyond model fresh rule text rest [] fails e stand = refl
nothing_beyond model fresh rule text rest (part ∷ parts) fails e stand =
    absurd (no_part model fresh rule text part parts rest fails e stand)

-- a text with a fault falls into no parts
pub fault_or_parts : (model : DataModel) (text : List ℕ) (ps qs : List Part) (rest : List ℕ)
    (rule : Rule) →
    Falls model text ps rest → Fails model (fresh_after true ps) rule rest →
    Falls model text qs [] → ⊥
fault_or_parts model text ps qs rest rule one fails two =
    let some = fault_some model (fresh_after true ps) rule rest fails in
    elim (compare model true ps qs rest [] one.stand two.stand (sym one.spelled ∙ two.spelled)) [
      | inl b ↦ (let none : b.more ≡ [] = nothing_beyond model
          (fresh_after true ps) rule rest [] b.more
          fails b.rest b.stand in
          let empty : rest ≡ [] = b.rest ∙ ap (λ z. joined z ++ []) none in
          let zero_long : length rest ≡ 0 = ap length empty in
          omega arith)
      | inr b ↦ omega (arith, ap length b.rest, length-append (joined b.more) rest)
    ]

-- no parts without bytes
no_parts : (model : DataModel) (fresh : Bool) (parts : List Part) → Stand model fresh parts [] →
    [] ≡ joined parts ++ [] →
    parts ≡ []
no_parts model fresh [] stand e = refl
no_parts model fresh (part ∷ parts) stand e =
    absurd (omega (
      arith,
      ap length e,
      length-append (bytes_of part ++ joined parts) [],
      length-append (bytes_of part) (joined parts),
      part_some model fresh part (joined parts ++ []) stand.0,
    ))

-- a text falls into parts in one way
pub same_parts : (model : DataModel) (text : List ℕ) (ps qs : List Part) → Falls model text ps [] →
    Falls model text qs [] → ps ≡ qs
same_parts model text ps qs one two =
    elim (compare model true ps qs [] [] one.stand two.stand (sym one.spelled ∙ two.spelled)) [
      | inl b ↦ (let none = no_parts model (fresh_after true ps) b.more b.stand b.rest in
          sym (b.parts ∙ ap (λ z. ps ++ z) none ∙ append-nil ps))
      | inr b ↦ (let none = no_parts model (fresh_after true qs) b.more b.stand b.rest in b.parts
          ∙ ap (λ z. qs ++ z) none ∙ append-nil qs)
    ]

pub one_list : (model : DataModel) (text : List ℕ) (ts us : List Token) → Tokens model text ts →
    Tokens model text us → ts ≡ us
one_list model text ts us one two =
    one.listed ∙ ap (λ z. tokens_from 0 z ++ end_token (length text) ∷ [])
    (same_parts model text one.parts two.parts one.falls two.falls) ∙ sym two.listed

-- the second fault stands where the first does
same_fault : (model : DataModel) (text : List ℕ) (f g : TextFault) (ps qs : List Part)
    (r s : List ℕ) →
    f.place ≡ length (joined ps) → g.place ≡ length (joined qs) →
    Fails model (fresh_after true ps) f.rule r → Fails model (fresh_after true qs) g.rule s →
    Beyond model true ps r qs s → f ≡ g
same_fault model text f g ps qs r s at_f at_g one two b =
    let none = nothing_beyond model (fresh_after true ps) f.rule r s b.more one b.rest b.stand in
    let parts : qs ≡ ps = b.parts ∙ ap (λ z. ps ++ z) none ∙ append-nil ps in
    let rests : r ≡ s = b.rest ∙ ap (λ z. joined z ++ s) none in
    let two_fails : Fails model (fresh_after true ps) g.rule r =
    subst (λ z. Fails model (fresh_after true ps) g.rule z) (sym rests)
    (subst (λ z. Fails model (fresh_after true z) g.rule s) parts two) in
    let rules_same = sym (fault_read model (fresh_after true ps) f.rule r one)
    ∙ fault_read model (fresh_after true ps) g.rule r two_fails in
    let rule_same : f.rule ≡ g.rule = cc in
    let place_same : f.place ≡ g.place = at_f ∙ ap (λ z. length (joined z)) (sym parts)
    ∙ sym at_g in
    let made : Rule → ℕ → TextFault = λ rule place. record { rule = rule; place = place } in
    ap (λ rule. made rule f.place) rule_same ∙ ap (λ place. made g.rule place) place_same

-- a text has one fault at most
pub one_fault : (model : DataModel) (text : List ℕ) (f g : TextFault) → HasFault model text f →
    HasFault model text g → f ≡ g
one_fault model text f g one two =
    elim (compare model true one.parts two.parts one.rest two.rest one.falls.stand two.falls.stand
    (sym one.falls.spelled ∙ two.falls.spelled)) [
      | inl b ↦ same_fault model text f g one.parts two.parts one.rest two.rest one.placed
          two.placed
          one.fails two.fails b
      | inr b ↦ sym (same_fault model text g f two.parts one.parts two.rest one.rest two.placed
          one.placed
          two.fails one.fails b)
    ]

-- a text with a fault has no tokens
pub fault_no_tokens : (model : DataModel) (text : List ℕ) (f : TextFault) → HasFault model text f →
    NoTokens model text
fault_no_tokens model text f fault tokens has =
    fault_or_parts model text fault.parts has.parts fault.rest f.rule fault.falls fault.fails
    has.falls

-- one more part

joined_push : (parts : List Part) (part : Part) (rest : List ℕ) →
    joined (parts ++ part ∷ []) ++ rest ≡ joined parts ++ (bytes_of part ++ rest)
joined_push [] part rest = ap (λ z. z ++ rest) (append-nil (bytes_of part))
joined_push (p ∷ parts) part rest =
    append_assoc (bytes_of p) (joined (parts ++ part ∷ [])) rest
    ∙ ap (λ z. bytes_of p ++ z) (joined_push parts part rest)
    ∙ sym (append_assoc (bytes_of p) (joined parts) (bytes_of part ++ rest))

stand_push : (model : DataModel) (fresh : Bool) (parts : List Part) (part : Part) (rest : List ℕ) →
    Stand model fresh parts (bytes_of part ++ rest) →
    IsPart model (fresh_after fresh parts) part rest →
    Stand model fresh (parts ++ part ∷ []) rest
stand_push model fresh [] part rest stand is = (is, tt)
stand_push model fresh (p ∷ parts) part rest stand is = (
  subst (IsPart model fresh p) (sym (joined_push parts part rest)) stand.0,
  stand_push model (fresh_behind fresh p) parts part rest stand.1 is,
)

fresh_push : (fresh : Bool) (parts : List Part) (part : Part) →
    fresh_after fresh (parts ++ part ∷ []) ≡ fresh_behind (fresh_after fresh parts) part
fresh_push fresh [] part = refl
fresh_push fresh (p ∷ parts) part = fresh_push (fresh_behind fresh p) parts part

tokens_more : (place : ℕ) (part : Part) (parts : List Part) →
    tokens_from place (part ∷ parts) ≡ tokens_from place (part ∷ []) ++ tokens_from
    (place + length (bytes_of part)) parts
tokens_more place (gap bytes) parts = refl
tokens_more place (directive bytes) parts = refl
tokens_more place (token kind bytes) parts = refl

tokens_push : (place : ℕ) (parts : List Part) (part : Part) →
    tokens_from place (parts ++ part ∷ []) ≡ tokens_from place parts ++ tokens_from
    (place + length (joined parts)) (part ∷ [])
tokens_push place [] part = ap (λ z. tokens_from z (part ∷ [])) (sym (add-zero place))
tokens_push place (p ∷ parts) part =
    let ih = tokens_push (place + length (bytes_of p)) parts part in
    let at : place + length (bytes_of p) + length (joined parts)
    ≡ place + length (joined (p ∷ parts)) = omega (
      arith,
      length-append (bytes_of p) (joined parts),
    ) in
    let first = tokens_more place p (parts ++ part ∷ []) in
    let second = tokens_more place p parts in
    first ∙ ap (λ z. tokens_from place (p ∷ []) ++ z) ih
    ∙ ap (λ z. tokens_from place (p ∷ []) ++ (tokens_from (place + length (bytes_of p))
    parts ++ tokens_from z (part ∷ []))) at
    ∙ sym (append_assoc (tokens_from place (p ∷ []))
    (tokens_from (place + length (bytes_of p)) parts)
    (tokens_from (place + length (joined (p ∷ parts))) (part ∷ [])))
    ∙ ap (λ z. z ++ tokens_from (place + length (joined (p ∷ parts))) (part ∷ [])) (sym second)

-- where the text is cut, with the tokens so far
pub record IsCut (model : DataModel) (text : List ℕ) (place : ℕ) (fresh : Bool)
    (found : List Token) : Type 0 where
  pub parts : List Part
  pub falls : Falls model text parts (drop place text)
  pub placed : place ≡ length (joined parts)
  pub is_fresh : fresh ≡ fresh_after true parts
  pub listed : found ≡ tokens_from 0 parts

pub first_cut : (model : DataModel) (text : List ℕ) (found : List Token) → found ≡ [] →
    IsCut model text 0 true found
first_cut model text found none =
    record {
      parts = [];
      falls = record { spelled = refl; stand = tt };
      placed = refl;
      is_fresh = refl;
      listed = none;
    }

-- the next part of this kind with these bytes
next_part : (model : DataModel) (text : List ℕ) (place : ℕ) (fresh : Bool) (found : List Token)
    (kind : PieceKind)
    (bytes rest : List ℕ) → IsCut model text place fresh found →
    drop place text ≡ bytes ++ rest → rest ≡ drop (place + length bytes) text →
    IsPart model fresh (part_of kind bytes) rest →
    IsCut model text (place + length bytes) (fresh_behind fresh (part_of kind bytes))
    (found ++ tokens_of place (length bytes) kind)
next_part model text place fresh found kind bytes rest cut split behind is =
    let part : Part = part_of kind bytes in
    let same : bytes_of part ≡ bytes = bytes_again kind bytes in
    let parted : drop place text ≡ bytes_of part ++ rest = split ∙ ap (λ z. z ++ rest) (sym same) in
    let stands : Stand model true cut.parts (bytes_of part ++ rest) = subst
    (Stand model true cut.parts) parted
    cut.falls.stand in
    let is_here : IsPart model (fresh_after true cut.parts) part rest = subst
    (λ z. IsPart model z part rest)
    cut.is_fresh is in
    let pushed : Stand model true (cut.parts ++ part ∷ []) rest = stand_push model true cut.parts
    part rest
    stands is_here in
    let spelled : text ≡ joined (cut.parts ++ part ∷ []) ++ rest =
    cut.falls.spelled ∙ ap (λ z. joined cut.parts ++ z) parted
    ∙ sym (joined_push cut.parts part rest) in
    let moved : Falls model text (cut.parts ++ part ∷ []) rest = record {
      spelled = spelled;
      stand = pushed;
    } in
    let bytes_long : length (joined (cut.parts ++ part ∷ []))
    ≡ length (joined cut.parts) + length bytes =
    ap length (sym (append-nil (joined (cut.parts ++ part ∷ []))) ∙ joined_push cut.parts part []
    ∙ ap (λ z. joined cut.parts ++ z) (append-nil (bytes_of part) ∙ same))
    ∙ length-append (joined cut.parts) bytes in
    record {
      parts = cut.parts ++ part ∷ [];
      falls = subst (Falls model text (cut.parts ++ part ∷ [])) behind moved;
      placed = omega (arith, bytes_long, cut.placed);
      is_fresh = ap (λ z. fresh_behind z part) cut.is_fresh ∙ sym (fresh_push true cut.parts part);
      listed =
          ap (λ z. z ++ tokens_of place (length bytes) kind) cut.listed
          ∙ ap (λ z. tokens_from 0 cut.parts ++ z) (sym (one_token place kind bytes))
          ∙ ap (λ z. tokens_from 0 cut.parts ++ tokens_from z (part ∷ [])) (cut.placed
          ∙ sym (zero-add (length (joined cut.parts)))) ∙ sym (tokens_push 0 cut.parts part);
    }

pub next_cut : (model : DataModel) (text : List ℕ) (place : ℕ) (fresh : Bool) (found : List Token)
    (piece : Piece) →
    IsCut model text place fresh found → piece_of model fresh (drop place text) ≡ Ok piece →
    piece.length ≤ length (drop place text) →
    IsCut model text (place + piece.length) (fresh_behind fresh
    (part_of piece.kind (take piece.length (drop place text))))
    (found ++ tokens_of place piece.length piece.kind)
next_cut model text place fresh found piece cut read within =
    let bytes : List ℕ = take piece.length (drop place text) in
    let long : length bytes ≡ piece.length = omega (
      arith,
      length-take piece.length (drop place text),
    ) in
    let behind : drop piece.length (drop place text)
    ≡ drop (place + length bytes) text = drop-drop piece.length place text
    ∙ ap (λ z. drop (place + z) text) (sym long) in
    let cut2 = next_part model text place fresh found piece.kind bytes
    (drop piece.length (drop place text)) cut
    (sym (take-append-drop piece.length (drop place text))) behind
    (piece_stands model fresh (drop place text) piece read) in
    subst (λ z. IsCut model text (place + z) (fresh_behind fresh (part_of piece.kind bytes))
    (found ++ tokens_of place z piece.kind)) long cut2

pub last_cut : (model : DataModel) (text : List ℕ) (place : ℕ) (fresh : Bool) (found : List Token) →
    IsCut model text place fresh found → length text ≤ place →
    Tokens model text (found ++ end_token (length text) ∷ [])
last_cut model text place fresh found cut all = record {
  parts = cut.parts;
  falls = subst (Falls model text cut.parts) (drop_of_length-le text all) cut.falls;
  listed = ap (λ z. z ++ end_token (length text) ∷ []) cut.listed;
}

pub fault_cut : (model : DataModel) (text : List ℕ) (place : ℕ) (fresh : Bool) (found : List Token)
    (rule : Rule) →
    IsCut model text place fresh found → place < length text →
    piece_of model fresh (drop place text) ≡ Err rule →
    HasFault model text (record { rule = rule; place = place })
fault_cut model text place fresh found rule cut more read =
    let some : 0 < length (drop place text) = omega (arith, length-drop place text) in
    record {
      parts = cut.parts;
      rest = drop place text;
      falls = cut.falls;
      placed = cut.placed;
      fails =
          subst (λ z. Fails model z rule (drop place text)) cut.is_fresh
          (piece_fails model fresh (drop place text) rule some read);
    }

-- a part has a byte
pub piece_some : (model : DataModel) (fresh : Bool) (text : List ℕ) (piece : Piece) →
    piece_of model fresh text ≡ Ok piece →
    0 < piece.length
piece_some model fresh text piece read =
    let stands = piece_stands model fresh text piece read in
    let some = part_some model fresh (part_of piece.kind (take piece.length text))
    (drop piece.length text) stands in
    omega (
      arith,
      some,
      ap length (bytes_again piece.kind (take piece.length text)),
      length-take piece.length text,
    )

-- the same, with the names that the code has for its values
pub cut_on : (model : DataModel) (text rest bytes : List ℕ) (place : ℕ) (fresh fresh2 : Bool)
    (found found2 : List Token) (piece : Piece) → IsCut model text place fresh found →
    rest ≡ drop place text → Ok piece ≡ piece_of model fresh rest → piece.length ≤ length rest →
    bytes ≡ take piece.length rest →
    fresh2 ≡ fresh_behind fresh (part_of piece.kind bytes) →
    found2 ≡ found ++ tokens_of place piece.length piece.kind →
    IsCut model text (place + piece.length) fresh2 found2
cut_on model text rest bytes place fresh fresh2 found found2 piece cut is read within taken fresh_is
    found_is =
    let cut2 = next_cut model text place fresh found piece cut
    (sym (read ∙ ap (piece_of model fresh) is))
    (omega (arith, ap length is)) in
    let bytes_is : take piece.length (drop place text) ≡ bytes = ap (take piece.length) (sym is)
    ∙ sym taken in
    let fresh_same : fresh_behind fresh (part_of piece.kind (take piece.length (drop place text)))
    ≡ fresh2 =
    ap (λ z. fresh_behind fresh (part_of piece.kind z)) bytes_is ∙ sym fresh_is in
    subst (λ z. IsCut model text (place + piece.length) fresh2 z) (sym found_is)
    (subst (λ z. IsCut model text (place + piece.length) z
    (found ++ tokens_of place piece.length piece.kind)) fresh_same cut2)

-- what comes of a text
abbrev pub Outcome : DataModel → List ℕ → Type 0
Outcome model text =
    ((found : List Token) × Tokens model text found)
    ⊎ ((fault : TextFault) × HasFault model text fault)

-- a piece that is read lies within the text
piece_within : (model : DataModel) (fresh : Bool) (text : List ℕ) (piece : Piece) →
    piece_of model fresh text ≡ Ok piece →
    piece.length ≤ length text
piece_within model fresh text piece read =
    let bytes : List ℕ = take piece.length text in
    let part : Part = part_of piece.kind bytes in
    let whole : bytes_of part ++ drop piece.length text
    ≡ text = ap (λ z. z ++ drop piece.length text) (bytes_again piece.kind bytes)
    ∙ take-append-drop piece.length text in
    let again = part_read model fresh part (drop piece.length text)
    (piece_stands model fresh text piece read)
    in
    let both = sym read ∙ ap (piece_of model fresh) (sym whole) ∙ again in
    let same : piece ≡ piece_from part = cc in
    omega (
      arith,
      ap (λ (z : Piece). z.length) same,
      ap length (bytes_again piece.kind bytes),
      length-take piece.length text,
    )

outcome_by : (model : DataModel) (m : ℕ) →
    ((text : List ℕ) (place : ℕ) (fresh : Bool) (found : List Token) →
    IsCut model text place fresh found → length text ≤ place + m → Outcome model text) →
    (text : List ℕ) (place : ℕ) (fresh : Bool) (found : List Token) (read : Result Piece Rule) →
    IsCut model text place fresh found → place < length text → length text ≤ place + suc m →
    piece_of model fresh (drop place text) ≡ read → Outcome model text
outcome_by model m ih text place fresh found (Err rule) cut more enough e =
    inr (
      record { rule = rule; place = place },
      fault_cut model text place fresh found rule cut more
          e,
    )
outcome_by model m ih text place fresh found (Ok piece) cut more enough e =
    let some = piece_some model fresh (drop place text) piece e in
    let next = next_cut model text place fresh found piece cut e
    (piece_within model fresh (drop place text) piece e) in
    ih text (place + piece.length) _ _ next (omega arith)

outcome_from : (model : DataModel) (m : ℕ) (text : List ℕ) (place : ℕ) (fresh : Bool)
    (found : List Token) →
    IsCut model text place fresh found → length text ≤ place + m → Outcome model text
outcome_from model zero text place fresh found cut enough =
    inl (
      found ++ end_token (length text) ∷ [],
      last_cut model text place fresh found cut
          (omega arith),
    )
outcome_from model (suc m) text place fresh found cut enough = elim (cases_lt place (length text)) [
  | inl more ↦ outcome_by model m (outcome_from model m) text place fresh found
      (piece_of model fresh (drop place text)) cut more enough refl
  | inr all ↦ inl (
    found ++ end_token (length text) ∷ [],
    last_cut model text place fresh found cut
        all,
  )
]

-- a text has tokens or a fault
pub tokens_or_fault : (model : DataModel) (text : List ℕ) → Outcome model text
tokens_or_fault model text =
    outcome_from model (length text) text 0 true [] (first_cut model text [] refl) (omega arith)
