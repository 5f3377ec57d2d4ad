-- The line that refuses a line of the input, and the status where one was refused.
use Rattle.std.specs.Prelude.{ℕ, Bool, List, codes, if◌then◌else◌}
use Rattle.reply_texts.specs.Texts.{about_line}
use Rattle.calspan_run.specs.declared.status.Status.{Status}
use Rattle.calspan_run.specs.declared.status.Status.TheVariants.{Done, Refused}

-- the line that refuses the line of number n
abbrev pub refusal : ℕ → List ℕ → List ℕ
refusal n why = about_line (codes "err line ") n why

-- the status where something was answered err, or nothing was
abbrev pub status_of : Bool → Status
status_of refused = if refused then Refused else Done
