use Rattle.std.proofs.Common.{◌≡◌, List, ℕ, [], append-nil, ap, ◌∙◌, arith}
use Rattle.std.specs.Iterator.{Yields}
use Rattle.codes.specs.declared.iter.Codes.{Codes}
use Rattle.codes.specs.Coming.{coming, Gives}
use Rattle.codes.proofs.Turns.{came}
use Rattle.tokens.specs.Lines.{listed}
use Rattle.answers.proofs.PuttingFacts.{puts_then, puts_as, puts_listed}
use Rattle.answers.proofs.writing.put_group.Goals as goal

pub loop-code-preserved : goal.loop-code-preserved
loop-code-preserved c = puts_listed _ _ (omega arith) c.loop-code.invariant c.put_listed-end.ensures

-- where none is to come, all have come
all_came : (start end : Codes) (ns ms : List ℕ) → Yields Gives start ns end → coming end ≡ [] → coming start ≡ ms → ns ≡ ms
all_came start end ns ms run none whole = cc (came start ns end run, append-nil ns)

pub returns : goal.returns
returns c =
    let whole = ap coming c.into_iter-code-iterator.ensures.into_iter_gives ∙ c.codes-code-items.ensures.all in
    let all = all_came _ _ _ _ c.loop-code.yielded_by c.in-None.ensures.steps.0 whole in
    let codes = puts_as c.loop-code.invariant (ap listed all) in
    let end = puts_then (omega arith) codes c.put.ensures in
    puts_then (omega arith) c.put-end.ensures (puts_then (omega arith) c.put_number-end.ensures end)
