use Rattle.tests_rows.proofs.wagner_whitin_tests.counted.Given as goal

abbrev pub ghosts-counted_on : goal.ghosts-counted_on
ghosts-counted_on a = record { name = a.blank.name; parts = a.blank.parts }
