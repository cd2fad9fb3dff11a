-- No row of settling fits a good ledger.
use Rattle.std.proofs.Common.{◌≡◌, length, None, arith}
use Rattle.std.proofs.lemmas.Bool.Decides.{nat_tests}
use Rattle.entry.specs.Refusals.{topmost}
use Rattle.entry.proofs.Tested.{decides_holds}
use Rattle.ledger.specs.declared.call.Call.TheVariants.{Settle}
use Rattle.ledger.specs.Ledgers.{Ledger, holds_code, ends_within, failing, rule_past_days, rows}
use Rattle.ledger.proofs.Firsts.{passing_all}
use Rattle.course.specs.Runs.{Good}

pub good_settles : (l : Ledger) → Good l → topmost (rows l Settle) ≡ None
good_settles l good =
    let no_day : failing holds_code l.days ≡ None =
    passing_all holds_code l.days (λ k d lt. (decides_holds _ (good.gapless k d lt).0.0).1 (good.held k d lt)) in
    let no_rule : rule_past_days l ≡ None =
    passing_all (ends_within (length l.days)) l.rules (λ k d lt. let fits = good.within k d lt in grind (arith, nat_tests)) in
    rw (no_day, no_rule) (grind (arith, nat_tests))
