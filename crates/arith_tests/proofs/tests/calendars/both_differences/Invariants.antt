use Rattle.arith_tests.proofs.tests.calendars.both_differences.Given as goal

-- the counter's own name and share
abbrev pub ghosts-differences : goal.ghosts-differences
ghosts-differences g a = record { name = a.blank.name; parts = a.blank.parts }
