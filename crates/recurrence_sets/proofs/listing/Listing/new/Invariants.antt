use Rattle.recurrence_sets.proofs.listing.Listing.new.Given as goal

-- the counter's own name and share
abbrev pub ghosts-new_with_blank : goal.ghosts-new_with_blank
ghosts-new_with_blank g a = record { name = a.blank.name; parts = a.blank.parts }
