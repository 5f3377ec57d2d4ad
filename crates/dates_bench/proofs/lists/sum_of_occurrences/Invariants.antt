use Rattle.dates_bench.proofs.lists.sum_of_occurrences.Given as goal

-- the counter's own name and share
abbrev pub ghosts-sum_of_days_with : goal.ghosts-sum_of_days_with
ghosts-sum_of_days_with g a = record { name = a.blank.name; parts = a.blank.parts }
