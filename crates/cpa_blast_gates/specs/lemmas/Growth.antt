-- Growth of nets: it is a preorder, and a net grows by a gate that reads its variables.
use Rattle.std.proofs.Common.{◌≡◌, ℕ, ◌+◌, ◌*◌, ◌<◌, ◌≤◌, Bool, List, [], ◌∷◌, length}
use Rattle.std.proofs.Common.{Option, None, Some, cond, refl, sym, ◌∙◌, arith}
use Rattle.std.specs.Prelude.{◌==◌}
use Rattle.std.proofs.lemmas.Bool.{ne_eqb, eq-eqb, cond-true, cond-false}
use Rattle.cpa_blast_gates.specs.declared.gate.Gate.{Gate}
use Rattle.cpa_blast_gates.specs.declared.gate.Gate.TheVariants.{Input, And, Xor, Majority, Choice}
use Rattle.cpa_blast_gates.specs.Gates.{lit_value, gate_value, ReadsBelow}
use Rattle.cpa_blast_gates.specs.Nets.{vars, IsScoped, Holds, Built, place_of, shared_at, shared}
use Rattle.cpa_blast_gates.specs.Meanings.{Agrees, Extends, Grows}
use Rattle.cpa_blast_gates.specs.lemmas.Literals.{lit_local, lit_positive}
use Rattle.cpa_blast_gates.specs.lemmas.Sharing.{place_found}

-- the value of a gate under assignments that agree on what it reads; an input needs its own
pub gate_local : (n v : ℕ) (m k : ℕ → Bool) (g : Gate) → Agrees n m k → ReadsBelow n g
    → m v ≡ k v → gate_value m v g ≡ gate_value k v g
gate_local n v m k Input agrees reads own = own
gate_local n v m k (And a b) agrees reads own =
    cc (lit_local n m k a agrees reads.0, lit_local n m k b agrees reads.1)
gate_local n v m k (Xor a b) agrees reads own =
    rw (lit_local n m k a agrees reads.0, lit_local n m k b agrees reads.1) refl
gate_local n v m k (Majority a b c) agrees reads own =
    rw (
      lit_local n m k a agrees reads.0,
      lit_local n m k b agrees reads.1,
      lit_local n m k c agrees reads.2,
    ) refl
gate_local n v m k (Choice a b c) agrees reads own =
    rw (
      lit_local n m k a agrees reads.0,
      lit_local n m k b agrees reads.1,
      lit_local n m k c agrees reads.2,
    ) refl

-- a new variable has its gate's value under the new assignment, where it had it under the old one
new_local : (n : ℕ) (m k : ℕ → Bool) (g : Gate) → Agrees n m k → ReadsBelow n g
    → k n ≡ gate_value m n g → k n ≡ gate_value k n g
new_local n m k Input agrees reads e = refl
new_local n m k (And a b) agrees reads e =
    e ∙ rw (lit_local n m k a agrees reads.0, lit_local n m k b agrees reads.1) refl
new_local n m k (Xor a b) agrees reads e =
    e ∙ rw (lit_local n m k a agrees reads.0, lit_local n m k b agrees reads.1) refl
new_local n m k (Majority a b c) agrees reads e =
    e ∙ rw (
      lit_local n m k a agrees reads.0,
      lit_local n m k b agrees reads.1,
      lit_local n m k c agrees reads.2,
    ) refl
new_local n m k (Choice a b c) agrees reads e =
    e ∙ rw (
      lit_local n m k a agrees reads.0,
      lit_local n m k b agrees reads.1,
      lit_local n m k c agrees reads.2,
    ) refl

fewer : (n p : ℕ) (m k : ℕ → Bool) → n ≤ p → Agrees p m k → Agrees n m k
fewer n p m k le agrees = λ v below. agrees v (omega arith)

pub holds_local : (s : List Gate) (m k : ℕ → Bool) → IsScoped s → Agrees (vars s) m k
    → Holds m s → Holds k s
holds_local [] m k scoped agrees holds = sym (agrees 0 (omega arith)) ∙ holds
holds_local (g ∷ s) m k scoped agrees holds =
    let old = fewer (vars s) (vars (g ∷ s)) m k (omega arith) agrees in
    let own = agrees (vars s) (omega arith) in (
      holds_local s m k scoped.0 old holds.0,
      sym own ∙ holds.1 ∙ gate_local (vars s) (vars s) m k g old scoped.1 own,
    )

-- the assignment with another value of one variable
abbrev pub updated : (ℕ → Bool) → ℕ → Bool → ℕ → Bool
updated m n b v = cond (v == n) b (m v)

updated_agrees : (m : ℕ → Bool) (n : ℕ) (b : Bool) → Agrees n m (updated m n b)
updated_agrees m n b v below =
    sym (cond-false (v == n) b (m v) (ne_eqb v n (λ e. absurd (omega arith))))

updated_at : (m : ℕ → Bool) (n : ℕ) (b : Bool) → updated m n b n ≡ b
updated_at m n b = cond-true (n == n) b (m n) (eq-eqb n n refl)

pub stays : (s : List Gate) → IsScoped s → Grows s s
stays s scoped = record {
  scoped = scoped;
  longer = omega arith;
  keeps = λ m h. h;
  extends = λ m h. (m, record { agrees = λ v below. refl; holds = h });
}

pub on : (s t u : List Gate) → Grows s t → Grows t u → Grows s u
on s t u g h = record {
  scoped = h.scoped;
  longer = omega (arith, g.longer, h.longer);
  keeps = λ m holds. g.keeps m (h.keeps m holds);
  extends = λ m holds.
      let first = g.extends m holds in
      let second = h.extends first.0 first.1.holds in (
        second.0,
        record {
          agrees = λ v below.
              first.1.agrees v below
              ∙ second.1.agrees v (within (length s) (length t) v below g.longer);
          holds = second.1.holds;
        },
      );
}
  where
    within : (a b v : ℕ) → v < a + 1 → a ≤ b → v < b + 1
    within a b v h le = omega arith

pub grows_by : (s : List Gate) (g : Gate) → IsScoped s → ReadsBelow (vars s) g → Grows s (g ∷ s)
grows_by s g scoped reads = record {
  scoped = (scoped, reads);
  longer = omega arith;
  keeps = λ m holds. holds.0;
  extends = λ m holds.
      let n = vars s in
      let k = updated m n (gate_value m n g) in
      let agrees = updated_agrees m n (gate_value m n g) in (
        k,
        record {
          agrees = agrees;
          holds = (
            holds_local s m k scoped agrees holds,
            new_local n m k g agrees reads (updated_at m n (gate_value m n g)),
          );
        },
      );
}

pub input_grows : (s : List Gate) → IsScoped s → Grows s (Input ∷ s)
input_grows s scoped = grows_by s Input scoped tt

pub input_free : (s : List Gate) (m : ℕ → Bool) (b : Bool) → IsScoped s → Holds m s
    → (k : ℕ → Bool) × Extends (vars s) m (Input ∷ s) k × (k (vars s) ≡ b)
input_free s m b scoped holds =
    let k = updated m (vars s) b in
    let agrees = updated_agrees m (vars s) b in (
      k,
      record { agrees = agrees; holds = (holds_local s m k scoped agrees holds, refl) },
      updated_at m (vars s) b,
    )

-- a gate that stands or is made: its literal has the value of the gate, at some variable
pub record IsShared (s : List Gate) (made : Built ℕ) (g : Gate) : Type 0 where
  pub grows : Grows s made.net
  pub below : made.value < 2 * vars made.net
  pub is : (m : ℕ → Bool) → Holds m made.net
      → (v : ℕ) × (lit_value m made.value ≡ gate_value m v g)

shared_is_at : (s : List Gate) (g : Gate) → IsScoped s → ReadsBelow (vars s) g
    → (o : Option ℕ) → place_of s g ≡ o → IsShared s (shared_at s g o) g
shared_is_at s g scoped reads None e = record {
  grows = grows_by s g scoped reads;
  below = omega arith;
  is = λ m holds. (vars s, lit_positive m (vars s) ∙ holds.1);
}
shared_is_at s g scoped reads (Some v) e =
    let place = place_found s g v e in
    let below = place.below in
    record {
      grows = stays s scoped;
      below = omega arith;
      is = λ m holds. (v, lit_positive m v ∙ place.is m holds);
    }

pub shared_is : (s : List Gate) (g : Gate) → IsScoped s → ReadsBelow (vars s) g
    → IsShared s (shared s g) g
unfolding shared
shared_is s g scoped reads = shared_is_at s g scoped reads (place_of s g) refl
