use Rattle.recurrence_sets.proofs.listing.ListingIterator.next.Given as goal

-- the counter's own name and share
abbrev pub ghosts-next_with_blank : goal.ghosts-next_with_blank
ghosts-next_with_blank g a = record { name = a.blank.name; parts = a.blank.parts }
