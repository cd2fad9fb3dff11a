use Rattle.std.proofs.Common.{◌≡◌, ◌++◌}
use Rattle.ledger.specs.Rules.{windows}
use Rattle.ledger.proofs.book.Book.add_windows.Given as goal

-- one rule for each turn
abbrev pub invariant-loop-later : goal.invariant-loop-later
invariant-loop-later g l = l.self ≡ l.initial.self ++ windows l.later l.window.last l.window.least l.window.most
