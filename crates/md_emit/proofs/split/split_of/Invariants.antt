use Rattle.md_emit.proofs.split.split_of.Given as goal

abbrev pub ghosts-split_counted : goal.ghosts-split_counted
ghosts-split_counted a = record { name = a.blank.name; parts = a.blank.parts }
