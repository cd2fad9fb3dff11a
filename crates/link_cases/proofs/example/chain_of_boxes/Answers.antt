use Rattle.std.proofs.Common.{Contains, refl, arith}
use Rattle.std.proofs.lemmas.Int.{ints}
use Rattle.std.proofs.lemmas.List.Elements.{All-from_recursion}
use Rattle.link_cases.specs.Boxes.{boxes, blocking}
use Rattle.link_cases.proofs.example.chain_of_boxes.Goals as goal

-- the links stand in the system in the order of the days and the rules, two for each
pub returns-clause-blocks : goal.returns-clause-blocks
returns-clause-blocks c = record {
  known = All-from_recursion (Contains boxes.links) blocking
      ((6, omega arith, refl), ((4, omega arith, refl), ((9, omega arith, refl), ((1, omega arith, refl), tt))));
  mark = 0;
  closed = (refl, (refl, (refl, (refl, refl))));
  few = omega arith;
  negative = omega (arith, ints);
}
