-- The steps of `blast` put together.
use Rattle.std.proofs.Common.{◌≡◌, ℕ, Bool, true, false, List, [], ◌++◌, map, ap, ◌∙◌}
use Rattle.cpa_cnf.specs.declared.formula.Cnf.{Cnf}
use Rattle.cpa_blast_gates.specs.declared.gate.Gate.{Gate}
use Rattle.cpa_blast_gates.specs.Nets.{vars, Built, built}
use Rattle.cpa_blast_gates.specs.Clauses.{clauses_of}
use Rattle.cpa_query.specs.declared.query.Query.{Query}
use Rattle.cpa_query.specs.Queries.{reads}
use Rattle.cpa_blast_circuits.specs.declared.answer.Word.{Word}
use Rattle.cpa_blast.specs.declared.places.Place.{Place}
use Rattle.cpa_blast.specs.Formulas.{places_of, with_bits, words_of, asserted, units, read_places}
use Rattle.cpa_blast.specs.Formulas.{circuits_of, all_places, formula, first_bits}

abbrev net_of : {A : Type 0} → Built A → List Gate
net_of b = b.net

abbrev pub made_of : {A : Type 0} → Built A → A
made_of b = b.value

abbrev cnf_of : ℕ → List (List ℕ) → Cnf
cnf_of n clauses = record { vars = n; clauses = clauses }

pub read_made : (q : Query) (marks : List Bool) (places read : List Place) (net0 net1 : List Gate)
    → net0 ≡ [] → marks ≡ reads q → places ≡ places_of q.cells marks
    → built net1 read ≡ with_bits true places net0 → built net1 read ≡ read_places q
read_made q marks places read net0 net1 empty is_marks is_places is_read =
    is_read
    ∙ ap (λ ps. with_bits true ps net0) (is_places ∙ ap (places_of q.cells) is_marks)
    ∙ ap (with_bits true (places_of q.cells (reads q))) empty

pub words_made : (q : Query) (read : List Place) (words : List Word) (net1 : List Gate)
    → built net1 read ≡ read_places q → words ≡ words_of read
    → words ≡ words_of (read_places q).value
words_made q read words net1 is_read is_words = is_words ∙ ap words_of (ap made_of is_read)

pub circuits_made : (q : Query) (read : List Place) (words : List Word) (literals : List ℕ)
    (net1 net2 : List Gate) → built net1 read ≡ read_places q → words ≡ words_of read
    → built net2 literals ≡ asserted words q.wanted net1 → built net2 literals ≡ circuits_of q
circuits_made q read words literals net1 net2 is_read is_words is_literals =
    is_literals
    ∙ ap (λ ws. asserted ws q.wanted net1) (words_made q read words net1 is_read is_words)
    ∙ ap (asserted (words_of (read_places q).value) q.wanted) (ap net_of is_read)

pub all_made : (q : Query) (read all : List Place) (literals : List ℕ)
    (net1 net2 net3 : List Gate) → built net1 read ≡ read_places q
    → built net2 literals ≡ circuits_of q → built net3 all ≡ with_bits false read net2
    → built net3 all ≡ all_places q
all_made q read all literals net1 net2 net3 is_read is_literals is_all =
    is_all
    ∙ ap (λ ps. with_bits false ps net2) (ap made_of is_read)
    ∙ ap (with_bits false (read_places q).value) (ap net_of is_literals)

pub formula_made : (q : Query) (all : List Place) (literals : List ℕ) (net : List Gate) (n : ℕ)
    (clauses : List (List ℕ)) → literals ≡ (circuits_of q).value → built net all ≡ all_places q
    → n ≡ vars net → clauses ≡ clauses_of net ++ units literals → cnf_of n clauses ≡ formula q
formula_made q all literals net n clauses is_literals is_all is_vars is_clauses =
    ap (λ k. cnf_of k clauses) (is_vars ∙ ap (λ b. vars (net_of b)) is_all)
    ∙ ap (cnf_of (vars (all_places q).net))
    (is_clauses ∙ ap (λ b. clauses_of (net_of b) ++ units literals) is_all
    ∙ ap (λ ls. clauses_of (all_places q).net ++ units ls) is_literals)

pub firsts_made : (q : Query) (all : List Place) (net : List Gate) → built net all ≡ all_places q
    → map (λ (p : Place). p.first) all ≡ first_bits q
firsts_made q all net is_all = ap (λ b. map (λ (p : Place). p.first) (made_of b)) is_all
