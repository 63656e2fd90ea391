use Rattle.md_window.proofs.window.window_match.Given as goal

abbrev pub ghosts-window_counted : goal.ghosts-window_counted
ghosts-window_counted a = record { name = a.blank.name; parts = a.blank.parts }
