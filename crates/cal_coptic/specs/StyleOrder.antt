-- The order of the era styles of the Ethiopian calendar.
use Rattle.std.specs.Prelude.{ℕ}
use Rattle.cal_coptic.specs.declared.ethiopian.EthiopianEraStyle.{EthiopianEraStyle}
use Rattle.cal_coptic.specs.declared.ethiopian.EthiopianEraStyle.TheVariants.{AmeteMihret, AmeteAlem}

-- the place of a style
abbrev pub style_place : EthiopianEraStyle → ℕ
style_place AmeteMihret = 0
style_place AmeteAlem = 1
