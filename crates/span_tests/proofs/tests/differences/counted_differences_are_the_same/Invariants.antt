use Rattle.span_tests.proofs.tests.differences.counted_differences_are_the_same.Given as goal

-- the counter's own name and share
abbrev pub ghosts-counted : goal.ghosts-counted
ghosts-counted g a = record { name = a.blank.name; parts = a.blank.parts }
