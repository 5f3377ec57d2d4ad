mod AnyAnswers
