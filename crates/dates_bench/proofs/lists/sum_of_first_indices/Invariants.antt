use Rattle.dates_bench.proofs.lists.sum_of_first_indices.Given as goal

-- the counter's own name and share
abbrev pub ghosts-sum_of_indices_with : goal.ghosts-sum_of_indices_with
ghosts-sum_of_indices_with g a = record { name = a.blank.name; parts = a.blank.parts }
