-- The stack that an act leaves is the one to which its step leads.
use Rattle.std.proofs.Common.{◌≡◌, ℕ, Bool, true, false, List, [], ◌∷◌, ◌++◌, refl, sym, ap, ◌∙◌}
use Rattle.std.proofs.Common.{◌+◌, ◌-◌, length, take, subst, arith}
use Rattle.std.specs.Prelude.{◌==◌, Option, None, Some, option_map, if◌then◌else◌}
use Rattle.std.proofs.lemmas.Bool.{false_from_ne_true}
use Rattle.std.proofs.lemmas.Bool.Decides.{Decides-eqb}
use Rattle.std.proofs.lemmas.List.{length-append}
use Rattle.std.proofs.lemmas.Option.{same_Some}
use Rattle.std.proofs.Math.Seq.{take-append_seam}
use Rattle.cpa_model.specs.declared.automaton.Act.{Act}
use Rattle.cpa_model.specs.declared.automaton.Act.TheVariants.{Skip, Assign, Assume, Input, Call}
use Rattle.cpa_model.specs.declared.automaton.Act.TheVariants.{Return}
use Rattle.cpa_model.specs.Stacks.{popped, stack_after}
use Rattle.cpa_model.specs.Steps.{StepsStack}

under_first : (b : Bool) (s : ℕ) (rest : List ℕ)
    → option_map (λ r. s ∷ r) (if b then Some rest else None)
    ≡ (if b then Some (s ∷ rest) else None)
under_first true s rest = refl
under_first false s rest = refl

-- of a stack with its top
pub popped-push : (rest : List ℕ) (top site : ℕ)
    → popped site (rest ++ top ∷ []) ≡ (if top == site then Some rest else None)
popped-push [] top site = refl
popped-push (s ∷ []) top site = under_first (top == site) s []
popped-push (s ∷ next ∷ rest) top site =
    ap (option_map (λ r. s ∷ r)) (popped-push (next ∷ rest) top site)
    ∙ under_first (top == site) s (next ∷ rest)

pub popped-top : (rest : List ℕ) (top site : ℕ) → top ≡ site
    → popped site (rest ++ top ∷ []) ≡ Some rest
popped-top rest top site is =
    popped-push rest top site ∙ ap (λ b. if b then Some rest else None)
    ((Decides-eqb top site).1 is)

pub popped-other : (rest : List ℕ) (top site : ℕ) → (top ≡ site → ⊥)
    → popped site (rest ++ top ∷ []) ≡ None
popped-other rest top site differs =
    popped-push rest top site
    ∙ ap (λ b. if b then Some rest else None)
    (false_from_ne_true (top == site) (λ same. differs ((Decides-eqb top site).0 same)))

-- all but the last of a stack with its top
pub without_top : (rest : List ℕ) (top : ℕ) (old : List ℕ) (n : ℕ) → old ≡ rest ++ top ∷ []
    → n ≡ length old → take (n - 1) old ≡ rest
without_top rest top old n whole long =
    let size : length old ≡ length rest + 1 = ap length whole ∙ length-append rest (top ∷ []) in
    let below : n - 1 ≡ length rest = omega (arith, long, size) in
    ap (λ k. take k old) below ∙ ap (take (length rest)) whole
    ∙ take-append_seam rest (top ∷ [])

-- what is popped stood below the site
popped-means : (site : ℕ) (old new : List ℕ) → popped site old ≡ Some new → old ≡ new ++ site ∷ []
popped-means site [] new is = absurd (cc)
popped-means site (top ∷ []) new is = by (top == site) refl is where
  by : (b : Bool) → (top == site) ≡ b → (if b then Some [] else None) ≡ Some new
      → top ∷ [] ≡ new ++ site ∷ []
  by true same found =
      let at : top ≡ site = (Decides-eqb top site).0 same in
      let none : [] ≡ new = cc in
      subst (λ n. top ∷ [] ≡ n ++ site ∷ []) none (ap (λ s. s ∷ []) at)
  by false other found = absurd (cc)
popped-means site (s ∷ next ∷ sites) new is =
    by (popped site (next ∷ sites)) (λ rest was. popped-means site (next ∷ sites) rest was) is where
      by : (o : Option (List ℕ))
          → ((rest : List ℕ) → o ≡ Some rest → next ∷ sites ≡ rest ++ site ∷ [])
          → option_map (λ r. s ∷ r) o ≡ Some new
          → s ∷ next ∷ sites ≡ new ++ site ∷ []
      by None means found = absurd (cc)
      by (Some rest) means found =
          let below : next ∷ sites ≡ rest ++ site ∷ [] = means rest refl in
          let whole : s ∷ rest ≡ new = cc in
          subst (λ n. s ∷ next ∷ sites ≡ n ++ site ∷ []) whole (ap (λ l. s ∷ l) below)

-- the stack after an act is the one to which its step leads
pub stack_after-whole : (act : Act) (old new : List ℕ) → StepsStack act old new
    → stack_after act old ≡ Some new
stack_after-whole Skip old new steps = ap Some (sym steps)
stack_after-whole (Assign base len index value) old new steps = ap Some (sym steps)
stack_after-whole (Assume test holds) old new steps = ap Some (sym steps)
stack_after-whole (Input cell) old new steps = ap Some (sym steps)
stack_after-whole (Call site) old new steps = ap Some (sym steps)
stack_after-whole (Return site) old new steps =
    ap (popped site) steps ∙ popped-top new site site refl

same_stack : (old new : List ℕ) → Some old ≡ Some new → new ≡ old
same_stack old new is = cc

pub stack_after-means : (act : Act) (old new : List ℕ) → stack_after act old ≡ Some new
    → StepsStack act old new
stack_after-means Skip old new is = same_stack old new is
stack_after-means (Assign base len index value) old new is = same_stack old new is
stack_after-means (Assume test holds) old new is = same_stack old new is
stack_after-means (Input cell) old new is = same_stack old new is
stack_after-means (Call site) old new is = same_stack (old ++ site ∷ []) new is
stack_after-means (Return site) old new is = popped-means site old new is

-- an act leaves one stack
pub stack_one : (act : Act) (old xs ys : List ℕ) → StepsStack act old xs → StepsStack act old ys
    → xs ≡ ys
stack_one act old xs ys x y =
    same_Some xs ys (sym (stack_after-whole act old xs x) ∙ stack_after-whole act old ys y)
