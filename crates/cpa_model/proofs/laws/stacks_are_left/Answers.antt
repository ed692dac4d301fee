use Rattle.cpa_model.specs.lemmas.Stacks.{stack_after-means, stack_after-whole}
use Rattle.cpa_model.proofs.laws.stacks_are_left.Goals as goal

pub returns : goal.returns
returns c = λ act old new. (stack_after-whole act old new, stack_after-means act old new)
