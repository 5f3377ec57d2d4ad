use Rattle.cal_arith.proofs.months.months_between_years.Given as goal

-- the counter's own name and share
abbrev pub ghosts-months_between_with_blank : goal.ghosts-months_between_with_blank
ghosts-months_between_with_blank g a = record { name = a.blank.name; parts = a.blank.parts }
