use Rattle.sheet.proofs.Calls.{between, opened, no_first}
use Rattle.sheet.proofs.sheet.Sheet.open.Goals as goal

pub returns-in_err-draft : goal.returns-in_err-draft
returns-in_err-draft c =
    let (answer, only) = no_first c.args.text.now c.new-tokens.result c.from_residual.result c.in_err-draft.field-0.0 c.new-tokens.ensures.text c.new-tokens.ensures.begins.0 c.from_residual.ensures.1 c.in_err-draft.ensures in
    record { answer = answer; only = only }

pub invariant_of-result : goal.invariant_of-result
invariant_of-result c = record { between = between c.new-tokens.result c.read_line.new.tokens c.in_ok-draft.draft c.in_ok-draft.ensures }

pub returns : goal.returns
returns c =
    let (answer, only) = opened c.args.text.now c.new-tokens.result c.read_line.new.tokens c.in_ok-draft.draft c.start.result c.new-tokens.ensures.text c.new-tokens.ensures.begins.0 c.in_ok-draft.ensures c.start.ensures in
    record { answer = answer; only = only }
