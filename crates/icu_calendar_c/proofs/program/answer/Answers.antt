use Rattle.std.proofs.Common.{◌≡◌, inl, rules, sym}
use Rattle.icu_calendar_c.specs.Kept.{kept_faults}
use Rattle.icu_calendar_c.proofs.ProgramLemmas.{runs_in}
use Rattle.icu_calendar_c.proofs.program.answer.Goals as goal

pub returns : goal.returns
returns c =
    let quiet : kept_faults c.run_text-status.new.sink ≡ 0 = search rules in
    inl (record {
      status = c.run_text-status.result;
      text = c.bytes.result.now;
      runs = runs_in _ _ _ _ _ _ _ _ _ _ 0 c.new-source.ensures c.new-kept.ensures.bytes c.new-kept.ensures.faults (sym c.bytes.ensures) quiet
          c.run_text-status.ensures.ends;
      handed = c.hand_over.ensures;
    })
