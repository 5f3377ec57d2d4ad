mod HundredLemmas
