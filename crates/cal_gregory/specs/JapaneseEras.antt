-- The eras that a Japanese calendar lists: those up to Reiwa, and a later one, if there is one.
use Rattle.std.specs.Prelude.{List, take, ◌∷◌, [], Option, Some, None}
use Rattle.cal_gregory.specs.JapaneseEraList.{ListedEra, eras_up_to_reiwa}
use Rattle.cal_gregory.specs.declared.later_era.LaterEra.{LaterEra}
use Rattle.cal_gregory.specs.declared.japanese_eras.JapaneseEras.{JapaneseEras}

-- how it is listed
abbrev pub later_listed : LaterEra → ListedEra
later_listed e = (e.start, take e.len e.code, e.index)

abbrev pub later_eras : Option LaterEra → List ListedEra
later_eras None = []
later_eras (Some e) = later_listed e ∷ []

-- the five eras up to Reiwa, and the later one, if there is one
abbrev pub listed_eras : JapaneseEras → List ListedEra
listed_eras eras = eras_up_to_reiwa (later_eras eras.later)

-- those up to Reiwa
abbrev pub no_later_era : JapaneseEras
no_later_era = record { later = None }
