use Rattle.cal_arith.proofs.arithmetic_date.ArithmeticDate+C.until.Given as goal

-- the counter's own name and share
abbrev pub ghosts-until_with_blank : goal.ghosts-until_with_blank
ghosts-until_with_blank g a = record { name = a.blank.name; parts = a.blank.parts }
