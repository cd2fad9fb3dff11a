-- Three days of one to four boxes, under two rules that no roster can keep together, and the chain that shows it.
use Rattle.std.specs.Prelude.{List, [], ◌∷◌}
use Rattle.limits.specs.declared.link.Link.{Link}
use Rattle.limits.specs.Links.{most_of, least_of, heaviest_of, lightest_of}
use Rattle.limits.specs.Systems.{System, no_days, with_day, with_rule}

abbrev pub three_days : System
three_days = with_day (with_day (with_day no_days 1 4) 1 4) 1 4

-- two or three boxes on the first two days, seven or eight on the last two
abbrev pub boxes : System
boxes = with_rule (with_rule three_days 1 1 2 2 3) 2 2 3 7 8

-- 3 + 4 - 7 - 1 is below zero
abbrev pub blocking : List Link
blocking = most_of 1 1 2 3 ∷ heaviest_of 3 4 ∷ least_of 2 2 3 7 ∷ lightest_of 1 1 ∷ []
