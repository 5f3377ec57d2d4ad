use Rattle.recurrence_sets.proofs.ListingLemmas.{progress-of}
use Rattle.recurrence_sets.proofs.listing.ListingIterator.next.Goals as goal

pub returns-clause-goes : goal.returns-clause-goes
returns-clause-goes g c = progress-of (λ x. x.rest) _ _ _ c.next_with_blank.ensures.fewer
