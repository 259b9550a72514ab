use Rattle.library_tests.proofs.row_lists.read_branded.Given as goal

abbrev pub ghosts-read_all : goal.ghosts-read_all
ghosts-read_all a = record { name = a.blank.name; parts = a.blank.parts }
