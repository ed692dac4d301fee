-- The formula of a query (Tseitin 1968; the order of variables is this project's own): the clauses
-- of the circuits of its wanted expressions, and a clause of one literal for each thing that is to
-- be true. The bits of the cells that are read are the first variables, those of the other cells
-- the last ones, so that no clause names them.
use Rattle.std.specs.Prelude.{ℕ, zero, suc, ◌+◌, ◌*◌, ℤ, pos, Bool, true, false, not, List, [], ◌∷◌}
use Rattle.std.specs.Prelude.{◌++◌, map, replicate, if◌then◌else◌}
use Rattle.cpa_ints.specs.declared.integers.IntType.{IntType}
use Rattle.cpa_ints.specs.Integers.{width}
use Rattle.cpa_ints.specs.Wrapping.{wrapped}
use Rattle.cpa_cnf.specs.declared.formula.Cnf.{Cnf}
use Rattle.cpa_cnf.specs.Literals.{opposite}
use Rattle.cpa_blast_gates.specs.declared.gate.Gate.{Gate}
use Rattle.cpa_blast_gates.specs.declared.gate.Gate.TheVariants.{Input}
use Rattle.cpa_blast_gates.specs.Nets.{vars, Built, built}
use Rattle.cpa_blast_gates.specs.Clauses.{clauses_of, assigned}
use Rattle.cpa_blast_words.specs.Truths.{values, number}
use Rattle.cpa_blast_words.specs.Words.{some_bit}
use Rattle.cpa_expr.specs.declared.tree.Expr.{Expr}
use Rattle.cpa_query.specs.declared.query.Query.{Query}
use Rattle.cpa_query.specs.Queries.{reads}
use Rattle.cpa_blast_circuits.specs.declared.answer.Word.{Word}
use Rattle.cpa_blast_circuits.specs.Circuits.{circuit}
use Rattle.cpa_blast.specs.declared.places.Place.{Place}
use Rattle.cpa_blast.specs.declared.formulas.Required.{Required}

-- the net with n new variables of either value
abbrev pub with_inputs : ℕ → List Gate → List Gate
with_inputs zero net = net
with_inputs (suc n) net = with_inputs n (Input ∷ net)

-- the literals of n variables from the first one on
abbrev pub variables_from : ℕ → ℕ → List ℕ
variables_from first zero = []
variables_from first (suc n) = 2 * first ∷ variables_from (first + 1) n

-- a cell, whether it is read, and the variable of its low bit
abbrev pub place_of : IntType → Bool → ℕ → Place
place_of t is_read first = record { ty = t; is_read = is_read; first = first }

-- the cells without variables
abbrev pub places_of : List IntType → List Bool → List Place
places_of [] marks = []
places_of (t ∷ cells) [] = []
places_of (t ∷ cells) (mark ∷ marks) = place_of t mark 0 ∷ places_of cells marks

abbrev pub place_before : Place → Built (List Place) → Built (List Place)
place_before place made = built made.net (place ∷ made.value)

-- whether the cell gets its variables: with the cells that are read, or with the others
abbrev pub is_due : Bool → Bool → Bool
is_due reading is_read = if reading then is_read else not is_read

-- the cell with the next variables, where it is due
unfoldable pub next_place : Bool → Place → List Gate → Built Place
next_place reading p net =
    if is_due reading p.is_read
    then built (with_inputs (width p.ty) net) (place_of p.ty p.is_read (vars net))
    else built net p

-- new variables for the bits of the cells that are read, or of the others
unfoldable pub with_bits : Bool → List Place → List Gate → Built (List Place)
with_bits reading [] net = built net []
with_bits reading (p ∷ places) net =
    let next = next_place reading p net in
    place_before next.value (with_bits reading places next.net)

-- the word of a cell for the circuits: no circuit depends on that of a cell which is not read
abbrev pub word_of : Place → Word
word_of p = record {
  ty = p.ty;
  bits = if p.is_read then variables_from p.first (width p.ty) else replicate (width p.ty) 1;
}

abbrev pub words_of : List Place → List Word
words_of places = map word_of places

-- the literal that is true where the other one has this value
abbrev pub told : Bool → ℕ → ℕ
told true l = l
told false l = opposite l

abbrev pub told_before : Required → Built (List ℕ) → Built (List ℕ)
told_before one made = built made.net (one.ok ∷ one.truth ∷ made.value)

-- the circuit of a wanted expression, and what is to be true: that it is evaluated without a trap,
-- and that it has its wanted truth
unfoldable pub told_in : List Word → Expr → Bool → List Gate → Built Required
told_in cells e holds net =
    let a = circuit cells e net in
    let truth = some_bit a.net a.value.bits in
    built truth.net (record { ok = a.value.ok; truth = told holds truth.value })

-- the circuits of wanted expressions, and the literals that are to be true
unfoldable pub asserted : List Word → List (Expr × Bool) → List Gate → Built (List ℕ)
asserted cells [] net = built net []
asserted cells (one ∷ wanted) net =
    let first = told_in cells one.0 one.1 net in
    told_before first.value (asserted cells wanted first.net)

-- a clause for each literal
abbrev pub units : List ℕ → List (List ℕ)
units ls = map (λ l. l ∷ []) ls

-- the variables of the cells that are read; then the circuits; then the other cells
abbrev pub read_places : Query → Built (List Place)
read_places q = with_bits true (places_of q.cells (reads q)) []

abbrev pub circuits_of : Query → Built (List ℕ)
circuits_of q = asserted (words_of (read_places q).value) q.wanted (read_places q).net

abbrev pub all_places : Query → Built (List Place)
all_places q = with_bits false (read_places q).value (circuits_of q).net

abbrev pub formula : Query → Cnf
formula q = record {
  vars = vars (all_places q).net;
  clauses = clauses_of (all_places q).net ++ units (circuits_of q).value;
}

-- the variable of the low bit of each cell
abbrev pub first_bits : Query → List ℕ
first_bits q = map (λ (p : Place). p.first) (all_places q).value

-- the number of a cell whose bits have these values
abbrev pub value_at : IntType → ℕ → List Bool → ℤ
value_at t first truths =
    wrapped t (pos (number (values (assigned truths) (variables_from first (width t)))))

-- the store that values of the variables give, where these are the first bits of the cells
abbrev pub store_at : List IntType → List ℕ → List Bool → List ℤ
store_at [] firsts truths = []
store_at (t ∷ cells) [] truths = []
store_at (t ∷ cells) (first ∷ firsts) truths =
    value_at t first truths ∷ store_at cells firsts truths
