mod LetterBits
mod YearLemmas
mod FormLemmas
mod AgreementLemmas
