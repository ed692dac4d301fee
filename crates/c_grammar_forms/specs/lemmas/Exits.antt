-- Lemmas: from an answer on a part to an answer on the whole.
use Rattle.std.specs.Prelude.{◌≡◌, ℕ, ◌-◌, ◌<◌, Result, IsErrAnd, Ok, Err, MatchResult}
use Rattle.std.proofs.Common.{sym, ◌∙◌, subst}
use Rattle.std.proofs.lemmas.Result.{MatchResult-weaker}
use Rattle.c_grammar_forms.specs.declared.fault.ReadError.{ReadError}
use Rattle.c_grammar_forms.specs.declared.fault.ReadError.TheVariants.{Unexpected, TooDeep}
use Rattle.c_grammar_forms.specs.declared.fault.ReadError.TheVariants.{OutOfMemory}
use Rattle.c_grammar_forms.specs.Forms.{Form, Deeper}
use Rattle.c_grammar_forms.specs.Reading.{Reads, NoneThrough, Faults, Answers}
use Rattle.c_grammar_forms.specs.lemmas.Found.{IsAbove, reads_deeper, reads_deeper_flat}
use Rattle.c_grammar_forms.specs.lemmas.NotFound.{none_deeper, none_deeper_flat}

module _ {Token S T : Type 0} (limit : ℕ) {A : ℕ → Form Token S} {B : ℕ → Form Token T}
    {at : ℕ → Token} {size k r left p : ℕ} where
  -- where the whole has no reading as the part has none, what an error says of the part it says of
  -- the whole
  pub faults : (e : ReadError) → Faults limit A at size k r e →
      ((i : ℕ) → NoneThrough A at size k r i → NoneThrough B at size left p i) →
      Faults limit B at size left p e
  faults (Unexpected i) f none = none i f
  faults (TooDeep i) f none = (none i f.0, f.1)
  faults OutOfMemory f none = tt

  -- the same where a reader gives the part's error as its own
  pub at_exit : (e : ReadError) (answer : Result (T × ℕ) ReadError) →
      IsErrAnd answer (λ given. given ≡ e) →
      Faults limit A at size k r e → ((i : ℕ) → NoneThrough A at size k r i →
      NoneThrough B at size left p i) →
      Answers limit B at size left p answer
  at_exit e (Ok read) given f none = absurd given
  at_exit e (Err x) given f none =
      subst (Faults limit B at size left p) (sym given) (faults e f none)

module _ {Token T : Type 0} (limit : ℕ) {B : ℕ → Form Token T} {at : ℕ → Token}
    {size left p : ℕ} where
  -- a token that is not the one that is to stand there
  pub at_fault : {i : ℕ} (e : ReadError) (answer : Result (T × ℕ) ReadError) →
      IsErrAnd answer (λ given. given ≡ e) →
      e ≡ Unexpected i → NoneThrough B at size left p i → Answers limit B at size left p answer
  at_fault e (Ok read) given named none = absurd given
  at_fault e (Err x) given named none =
      subst (Faults limit B at size left p) (sym (given ∙ named)) none

-- the same of tokens that are not kept
module _ {Token S : Type 0} (limit : ℕ) {A : ℕ → Form Token S} {B : ℕ → Form Token (Unit {0})}
    {at : ℕ → Token} {size k r left p : ℕ} where
  pub skip_exit : (e : ReadError) (answer : Result ℕ ReadError) →
      IsErrAnd answer (λ given. given ≡ e) →
      Faults limit A at size k r e → ((i : ℕ) → NoneThrough A at size k r i →
      NoneThrough B at size left p i) →
      MatchResult answer (λ behind. Reads B at size left p tt behind)
      (λ error. Faults limit B at size left p error)
  skip_exit e (Ok read) given f none = absurd given
  skip_exit e (Err x) given f none =
      subst (Faults limit B at size left p) (sym given) (faults limit e f none)

module _ {Token : Type 0} (limit : ℕ) {B : ℕ → Form Token (Unit {0})} {at : ℕ → Token}
    {size left p : ℕ} where
  pub skip_fault : {i : ℕ} (e : ReadError) (answer : Result ℕ ReadError) →
      IsErrAnd answer (λ given. given ≡ e) →
      e ≡ Unexpected i → NoneThrough B at size left p i →
      MatchResult answer (λ behind. Reads B at size left p tt behind)
      (λ error. Faults limit B at size left p error)
  skip_fault e (Ok read) given named none = absurd given
  skip_fault e (Err x) given named none =
      subst (Faults limit B at size left p) (sym (given ∙ named)) none

module _ {Token T : Type 0} (limit : ℕ) {A B : ℕ → Form Token T} {at : ℕ → Token}
    {size k r left p : ℕ} where
  -- the answer on a part is the answer on the whole
  pub answers_with : (answer : Result (T × ℕ) ReadError) →
      ((u : T) (q : ℕ) → Reads A at size k r u q → Reads B at size left p u q) →
      ((i : ℕ) → NoneThrough A at size k r i → NoneThrough B at size left p i) →
      Answers limit A at size k r answer → Answers limit B at size left p answer
  answers_with answer found none a =
      MatchResult-weaker answer a (λ read x. found read.0 read.1 x) (λ e f. faults limit e f none)

-- an answer with one level less is an answer on the part one level deeper
pub answers_deeper : {Token T : Type 0} (limit : ℕ) {A B : ℕ → Form Token T} (at : ℕ → Token)
    (size p : ℕ) {left : ℕ} →
    IsAbove B A → 0 < left → (answer : Result (T × ℕ) ReadError) →
    Answers limit A at size (left - 1) p answer →
    Answers limit (λ n. Deeper (B n)) at size left p answer
answers_deeper limit at size p {left} above some answer a =
    answers_with limit answer (λ u q r. reads_deeper above left some r)
    (λ i g. none_deeper above g) a

-- the same of a form that is the same at each number of levels
pub answers_deeper_flat : {Token T : Type 0} (limit : ℕ) (A : Form Token T) (at : ℕ → Token)
    (size p : ℕ) {left : ℕ} →
    0 < left → (answer : Result (T × ℕ) ReadError) →
    Answers limit (λ n. A) at size (left - 1) p answer →
    Answers limit (λ n. Deeper A) at size left p answer
answers_deeper_flat limit A at size p {left} some answer a =
    answers_with limit answer (λ u q r. reads_deeper_flat left some r) (λ i g. none_deeper_flat g) a
