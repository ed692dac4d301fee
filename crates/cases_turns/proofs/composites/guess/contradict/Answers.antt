use Rattle.cases_turns.proofs.composites.guess.contradict.Goals as goal

pub returns-in-Some : goal.returns-in-Some
returns-in-Some c = λ yes s holds lies.
    c.stand_elsewhere.ensures yes s lies (c.in-Some.ensures s holds)
