use Rattle.std.proofs.Common.{◌≡◌, ◌∙◌, refl, []}
use Rattle.cal_east_asian.specs.declared.east_asian_table.EastAsianTable.{EastAsianTable}
use Rattle.cal_gregory.specs.JapaneseEraList.{eras_up_to_reiwa}
use Rattle.cal_gregory.specs.JapaneseEras.{listed_eras}
use Rattle.cal_gregory.specs.declared.japanese_eras.JapaneseEras.{JapaneseEras}
use Rattle.cal_hijri.specs.declared.hijri_table.HijriTable.{HijriTable}
use Rattle.cal_julian.specs.declared.persian_corrections.PersianCorrections.{PersianCorrections}
use Rattle.cal_tables.specs.Kinds.{contents_of}
use Rattle.published_years.specs.Published.{published_contents}
use Rattle.published_years.specs.declared.east_asian_data.TheConstants.{CHINA, KOREA}
use Rattle.published_years.specs.declared.hijri_data.TheConstants.{UMM_AL_QURA}
use Rattle.published_years.specs.declared.persian_data.TheConstants.{CORRECTED_YEARS}
use Rattle.published_years.proofs.all_tables.tables.Goals as goal

-- tables with the published rows have the published contents
contents : (china korea : EastAsianTable) (hijri : HijriTable) (persian : PersianCorrections) (eras : JapaneseEras) → china.rows.now ≡ CHINA → korea.rows.now ≡ KOREA → hijri.rows.now ≡ UMM_AL_QURA → persian.years.now ≡ CORRECTED_YEARS → listed_eras eras ≡ eras_up_to_reiwa [] → contents_of china korea hijri persian eras ≡ published_contents
contents china korea hijri persian eras c k h p e = rw (c, k, h, p, e) refl

pub returns : goal.returns
returns c =
    c.in-Some.ensures.contents
    ∙ contents c.china_table.result c.korea_table.result c.umm_al_qura_table.result c.persian_corrections-corrections.result c.up_to_reiwa-eras.result
    c.china_table.ensures.rows c.korea_table.ensures.rows c.umm_al_qura_table.ensures.rows c.persian_corrections-corrections.ensures.years c.up_to_reiwa-eras.ensures.eras
