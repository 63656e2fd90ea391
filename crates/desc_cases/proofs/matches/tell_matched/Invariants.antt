use Rattle.desc_cases.proofs.matches.tell_matched.Given as goal

abbrev pub ghosts-matched : goal.ghosts-matched
ghosts-matched a = record { name = a.blank.name; parts = a.blank.parts }
