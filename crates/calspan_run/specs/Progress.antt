-- Where a run stands behind the rows of tables, and how it ends there.
use Rattle.std.specs.Prelude.{Bool, if◌then◌else◌, true}
use Rattle.calspan_run.specs.Answers.{Standing, Answering, Ended, status_at}
use Rattle.calspan_run.specs.declared.span.answers.Progress.{Progress}
use Rattle.calspan_run.specs.declared.span.answers.Answered.{Answered}
use Rattle.calspan_run.specs.declared.span.answers.Answered.TheVariants.{GoesOn, Stopped}
use Rattle.calspan_run.specs.declared.status.Status.{Status}

-- where a line left the run
abbrev pub standing_of : Answered → Standing
standing_of (GoesOn p) = Answering p.refused
standing_of Stopped = Ended

-- how the run ends there
abbrev pub answered_status : Answered → Status
answered_status answered = status_at (standing_of answered)

-- behind a request that was answered, by a refusal or not
abbrev pub replied : Progress → Bool → Progress
replied p refused = if refused then record { refused = true } else p
