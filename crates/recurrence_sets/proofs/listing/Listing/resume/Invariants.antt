use Rattle.recurrence_sets.proofs.listing.Listing.resume.Given as goal

-- the counter's own name and share
abbrev pub ghosts-near_looks_with_blank : goal.ghosts-near_looks_with_blank
ghosts-near_looks_with_blank g a = record { name = a.blank.name; parts = a.blank.parts }
