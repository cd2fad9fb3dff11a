use Rattle.std.proofs.Common.{arith}
use Rattle.std.proofs.lemmas.Bool.Decides.{nat_tests}
use Rattle.entry.proofs.Verdicts.{strikes_unknown, strikes_idle}
use Rattle.kinds.specs.Codes.{any_code}
use Rattle.kinds.specs.Laws.{no_gap}
use Rattle.kinds.specs.Spans.{boxed}
use Rattle.kinds.proofs.SpanFacts.{sized, strikes_last, strikes_end, strikes_inner}
use Rattle.kinds.proofs.boxes.BoxesEntry.strike.Goals as goal

pub returns-then-not-known : goal.returns-then-not-known
returns-then-not-known c =
    let b = c.args.self.now in
    strikes_unknown boxed any_code c.args.code b (sized b.low b.high) (grind (arith, nat_tests, c.if-not-known.ensures))

pub returns-then-not-holds : goal.returns-then-not-holds
returns-then-not-holds c =
    let b = c.args.self.now in
    strikes_idle boxed any_code c.args.code b (sized b.low b.high) (grind (arith, nat_tests, c.if-not-known.ensures))
    (grind (arith, nat_tests, c.if-not-holds.ensures)) (no_gap b.low b.high)

pub returns-then-self : goal.returns-then-self
returns-then-self c =
    strikes_last c.args.self.now c.args.code (grind (arith, nat_tests, c.if-not-known.ensures))
    (grind (arith, nat_tests, c.if-not-holds.ensures)) c.if-self.true

pub returns-then-code-self : goal.returns-then-code-self
returns-then-code-self c =
    strikes_end c.args.self.now c.args.code (grind (arith, nat_tests, c.if-not-known.ensures))
    (grind (arith, nat_tests, c.if-not-holds.ensures)) c.if-self.false _ (λ k h. grind (arith, nat_tests))

pub returns-then-code-self-2 : goal.returns-then-code-self-2
returns-then-code-self-2 c =
    strikes_end c.args.self.now c.args.code (grind (arith, nat_tests, c.if-not-known.ensures))
    (grind (arith, nat_tests, c.if-not-holds.ensures)) c.if-self.false _ (λ k h. grind (arith, nat_tests))

pub returns-else-code-self-2 : goal.returns-else-code-self-2
returns-else-code-self-2 c =
    strikes_inner c.args.self.now c.args.code (grind (arith, nat_tests, c.if-not-known.ensures))
    (grind (arith, nat_tests, c.if-not-holds.ensures)) c.if-self.false (omega arith) (omega arith)
