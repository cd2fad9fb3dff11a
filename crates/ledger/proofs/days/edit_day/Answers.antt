use Rattle.std.proofs.Common.{refl, arith}
use Rattle.std.proofs.lemmas.Bool.Decides.{nat_tests}
use Rattle.ledger.proofs.days.edit_day.Goals as goal

pub returns : goal.returns
returns g c =
    let days = c.in_ok-days.ensures in
    let from = c.if-day-eq0.false in
    let to = c.if-days-day.false in
    let edit = c.edit-answer in
    record {
      many = λ long. absurd (omega arith);
      none = λ few out. absurd (grind (arith, nat_tests));
      one = λ few from to. (
        c.index-entries-at.result,
        edit.new.arg2,
        c.index-entries-at.is,
        record { shown = _; shows = refl; left = _; met = edit.ensures; leaves = refl },
        refl,
      );
    }
