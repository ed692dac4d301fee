use Rattle.std.proofs.Common.{◌-◌, length}
use Rattle.c_lexer.proofs.Cuts.{IsCut}
use Rattle.c_lexer.proofs.lexer.tokens_in.Given as goal

abbrev pub invariant-parts : goal.invariant-parts
invariant-parts l = IsCut l.model l.text l.place l.fresh l.found.items

abbrev pub decreases-parts : goal.decreases-parts
decreases-parts l = length l.initial.text - l.place
