use Rattle.std.proofs.Common.{◌≡◌, ◌+◌, ◌-◌, length, arith, length-append}
use Rattle.std.proofs.lemmas.List.FromFn.{length-map-range_with_len}
use Rattle.ledger.proofs.BookFacts.{windows_more}
use Rattle.ledger.proofs.book.Book.add_windows.Goals as goal

pub add-requires : goal.add-requires
add-requires g c =
    let later = c.loop-later.later in
    let window = c.args.window in
    let few : length c.loop-later.self ≡ length c.args.self.now + later = simp (c.loop-later.invariant, length-append, length-map-range_with_len) in
    let days = c.requires.2 (λ e. absurd (omega arith)) in
    let width : later + window.last - (later + 1) + 1 ≡ window.last = omega arith in
    rw c.made.ensures (omega arith, (omega arith, omega arith, omega arith, omega arith, rw width c.requires.4))

pub loop-later-preserved : goal.loop-later-preserved
loop-later-preserved g c =
    let window = c.args.window in
    cc (windows_more c.args.self.now c.loop-later.later window.last window.least window.most)
