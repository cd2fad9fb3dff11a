use Rattle.std.proofs.Common.{rules}
use Rattle.sheet.proofs.Calls.{between, called, no_call}
use Rattle.sheet.proofs.sheet.Sheet.next_call.Goals as goal

pub returns-in_err-draft : goal.returns-in_err-draft
returns-in_err-draft c =
    let (answer, only) = no_call c.args.self.now c.from_residual.result c.in_err-draft.field-0.0 c.from_residual.ensures.1 (λ over. let true_of = c.is_over.ensures.1 over in let false_of = c.if-is_over.false in search rules) c.in_err-draft.ensures in
    record { answer = answer; only = only }

pub invariant_of-self : goal.invariant_of-self
invariant_of-self c = record { between = between c.args.self.now.tokens c.read_line.new.tokens c.in_ok-draft.draft c.in_ok-draft.ensures }

pub returns : goal.returns
returns c =
    let (answer, only) = called c.args.self.now c.read_line.new.tokens c.in_ok-draft.draft c.call.result c.in_ok-draft.ensures c.call.ensures in
    record { answer = answer; only = only }
