-- What the program's value of the words of `convert` says.
use Rattle.command_line.specs.ConvertAsked.{ConvertAsked}
use Rattle.command_line.specs.declared.convert.ConvertWords.{ConvertWords}

abbrev pub convert_said : ConvertWords → ConvertAsked
convert_said w = record { calendar = w.calendar; shown = w.shown; overflow = w.overflow }
