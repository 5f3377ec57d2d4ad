mod ProgramLemmas
