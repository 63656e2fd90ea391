use Rattle.md_desc.proofs.description.Description.first_from.Given as goal

abbrev pub ghosts-first_counted : goal.ghosts-first_counted
ghosts-first_counted a = record { name = a.blank.name; parts = a.blank.parts }
