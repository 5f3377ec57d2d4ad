mod DigitLemmas
