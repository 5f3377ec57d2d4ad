use Rattle.lunar_tests.proofs.tests.counted_years.looked_up.Given as goal

-- the counter's own name and share
abbrev pub ghosts-looked_up_with : goal.ghosts-looked_up_with
ghosts-looked_up_with g a = record { name = a.blank.name; parts = a.blank.parts }
