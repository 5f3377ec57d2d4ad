use Rattle.arith_tests.proofs.tests.counted_look_ups.a_counted_difference_makes_no_other_look_ups.Given as goal

-- the counter's own name and share
abbrev pub ghosts-difference : goal.ghosts-difference
ghosts-difference g a = record { name = a.blank.name; parts = a.blank.parts }
