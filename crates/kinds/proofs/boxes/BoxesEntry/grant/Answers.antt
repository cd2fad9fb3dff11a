use Rattle.std.proofs.Common.{arith}
use Rattle.std.proofs.lemmas.Bool.Decides.{nat_tests}
use Rattle.entry.proofs.CellFacts.{held-known}
use Rattle.entry.proofs.Verdicts.{grants_unknown, grants_idle}
use Rattle.kinds.specs.Codes.{any_code}
use Rattle.kinds.specs.Laws.{no_gap}
use Rattle.kinds.specs.Spans.{boxed, spans}
use Rattle.kinds.proofs.SpanFacts.{sized, grants_end, grants_outer}
use Rattle.kinds.proofs.boxes.BoxesEntry.grant.Goals as goal

pub returns-then-not-known : goal.returns-then-not-known
returns-then-not-known c =
    let b = c.args.self.now in
    grants_unknown boxed any_code c.args.code b (sized b.low b.high) (grind (arith, nat_tests, c.if-not-known.ensures))
    (held-known (λ k. k) (spans b.low b.high) c.args.code)

pub returns-then-holds : goal.returns-then-holds
returns-then-holds c =
    let b = c.args.self.now in
    grants_idle boxed any_code c.args.code b (sized b.low b.high) (grind (arith, nat_tests, c.if-not-known.ensures))
    (grind (arith, nat_tests, c.if-holds.ensures)) (no_gap b.low b.high)

-- the first code of an empty run, or one beside an end
pub returns-then-self : goal.returns-then-self
returns-then-self c =
    grants_end c.args.self.now c.args.code (grind (arith, nat_tests, c.if-not-known.ensures))
    (grind (arith, nat_tests, c.if-holds.ensures)) _ (λ k h. grind (arith, nat_tests))

pub returns-then-code-self : goal.returns-then-code-self
returns-then-code-self c =
    grants_end c.args.self.now c.args.code (grind (arith, nat_tests, c.if-not-known.ensures))
    (grind (arith, nat_tests, c.if-holds.ensures)) _ (λ k h. grind (arith, nat_tests))

pub returns-then-self-code : goal.returns-then-self-code
returns-then-self-code c =
    grants_end c.args.self.now c.args.code (grind (arith, nat_tests, c.if-not-known.ensures))
    (grind (arith, nat_tests, c.if-holds.ensures)) _ (λ k h. grind (arith, nat_tests))

pub returns-else-self-code : goal.returns-else-self-code
returns-else-self-code c =
    grants_outer c.args.self.now c.args.code (grind (arith, nat_tests, c.if-not-known.ensures))
    (grind (arith, nat_tests, c.if-holds.ensures)) c.if-self.false (omega arith) (omega arith)
