use Rattle.std.proofs.Common.{◌≡◌, ◌∷◌, ◌++◌, append-nil, arith}
use Rattle.std.proofs.lemmas.Grind.{common_steps}
use Rattle.codes.specs.Members.{members}
use Rattle.codes.specs.Coming.{coming}
use Rattle.codes.proofs.Turns.{came}
use Rattle.codes.proofs.Sets.{in_members, member_below}
use Rattle.codes.proofs.tests.rebuilt.Goals as goal

pub loop-code-preserved : goal.loop-code-preserved
loop-code-preserved c = λ k.
    let set = c.args.set in
    let code = c.in-Some.code in
    let all : members set ≡ c.loop-code.yielded ++ code ∷ coming c.next.new.self = cc (came _ _ _ c.loop-code.yielded_by, c.in-Some.ensures.steps) in
    let low = member_below set code (grind (arith, common_steps, in_members set code)) in
    grind (arith, common_steps, c.with-all.ensures.each k, c.loop-code.invariant k, low)

pub returns : goal.returns
returns c = λ k.
    let all : members c.args.set ≡ c.loop-code.yielded = cc (came _ _ _ c.loop-code.yielded_by, append-nil _, c.in-None.ensures.steps.0) in
    cc (c.loop-code.invariant k, in_members c.args.set k)
