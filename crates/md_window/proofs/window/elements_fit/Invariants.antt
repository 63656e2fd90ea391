use Rattle.md_window.proofs.window.elements_fit.Given as goal

abbrev pub ghosts-shape_counted : goal.ghosts-shape_counted
ghosts-shape_counted a = record { name = a.blank.name; parts = a.blank.parts }
